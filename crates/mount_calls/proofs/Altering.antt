-- The calls that change attributes, by how they end.
use Rattle.std.proofs.Common.{◌≡◌, ℕ, Bool, true, false, List, Option, None, Some, Result, Ok, Err, MatchResult, sym, ap, ◌∙◌, subst}
use Rattle.std.proofs.Common.{arith}
use Rattle.std.specs.Result.{IsErr}
use Rattle.std.specs.declared.alloc.AllocError.{AllocError}
use Rattle.ov_base.specs.AttributeChanges.{changed}
use Rattle.ov_base.specs.declared.attribute_change.AttributeChange.{AttributeChange}
use Rattle.ov_base.specs.declared.attributes.Attributes.{Attributes}
use Rattle.ov_base.specs.declared.errno.Errno.{Errno}
use Rattle.ov_base.specs.declared.errno.Errno.TheVariants.{ELOOP}
use Rattle.plain_model.specs.Layers.{Path, Inode, Layer, Shown, Contents, held, shows}
use Rattle.plain_model.specs.Machine.{State}
use Rattle.plain_model.specs.Refusals.{when}
use Rattle.layer_tree.specs.Tree.{IsTree}
use Rattle.merged_lookup.specs.declared.found.Topmost.{Topmost}
use Rattle.merged_lookup.specs.declared.layers.Layers.{Layers}
use Rattle.merged_lookup.specs.declared.stack.Stack.{Stack}
use Rattle.merged_lookup.specs.Merged.{upper_of, layers_of, lowers_of, fill_at}
use Rattle.mount_laws.specs.Looks.{or_else, walk_fault, is_link_inode, shows_link, IsMountOf}
use Rattle.mount_laws.specs.Attributes.{chown_fault, inode_attributes, user_in}
use Rattle.mount_laws.specs.Altered.{Alters, AltersState}
use Rattle.mount_laws.specs.StayOpen.{AltersNamed}
use Rattle.copy_up.specs.Altering.{AltersAs, AltersObjectAs}
use Rattle.copy_up.specs.Showing.{number_of, ChangesNoSight, GainsParents, StaysSound}
use Rattle.copy_up.specs.Texts.{KeepsTexts}
use Rattle.copy_up.proofs.Frames.{gains-self}
use Rattle.copy_up.proofs.Texts.{texts-gained}
use Rattle.copy_up.proofs.Keeping.{lowers-same, same-self, sound-self}
use Rattle.mount_calls.specs.declared.attribute_changes.AttributeCall.{AttributeCall}
use Rattle.mount_calls.specs.Altering.{AltersUnless, IsOpenTo, IsTarget, ShowsAttributes}
use Rattle.mount_calls.specs.AttributeCalls.{call_at, asked, asking_fault, asked_fault, user_fault}
use Rattle.mount_calls.specs.Living.{KeepsLive}
use Rattle.mount_calls.proofs.Altered.{alters-named}
use Rattle.mount_calls.proofs.AttributeCalls.{IsSeen, altered-asked, live-asked, user-last, walk-seen}
use Rattle.mount_calls.proofs.Frames.{around-parents, around-paths}
use Rattle.mount_calls.proofs.Lasting.{parents-live}
use Rattle.mount_calls.proofs.Raising.{attributes-filled, link-filled}

-- a call that was judged, and the change that it asks for made
module _
    (x : AttributeCall) (old new : Layers) (metacopy : Bool) (p : Path) (target : Stack × Topmost) (h : IsTarget old p x target) (low : new.lowers ≡ old.lowers)
    (sound : StaysSound old new) (made : AttributeChange)
    (asks : (a : Attributes) → changed made a ≡ asked x a) (alters : AltersAs old new metacopy p made) where
  -- alters each state, over the lower layers that there were
  state-altered : (s : State) → IsMountOf (upper_of old) (lowers_of old) s → s.options.metacopy ≡ metacopy → (c : ℕ) → AltersState (upper_of new) (lowers_of old) s c p (call_at p x)
  state-altered s m option c =
      altered-asked p x (upper_of old) (upper_of new) (lowers_of old) s m c h.allowed h.attributes h.shown
      (subst (λ (b : Bool). Alters (upper_of old) (upper_of new) (lowers_of old) b p (asked x h.attributes)) (sym option)
      (subst (λ (a : Attributes). Alters (upper_of old) (upper_of new) (lowers_of old) metacopy p a) (asks h.attributes) (alters h.attributes h.shown m.layers)))

  -- leaves live files live, also where it changes their attributes
  live-altered : IsTree old.upper → AltersObjectAs old new p made → KeepsLive old new metacopy (call_at p x)
  live-altered tree object s m option c d j l =
      live-asked p x (upper_of old) (upper_of new) (lowers_of old) s c h.attributes h.shown (state-altered s m option c) d j
      (subst (λ (a : Attributes). AltersNamed (upper_of old) (upper_of new) p a j) (asks h.attributes) (alters-named old new low tree p (changed made h.attributes) (object h.attributes h.shown) j _ l.inode))
      l

  -- ends so with the attributes that the call gives
  pub alters-done : IsTree old.upper → AltersObjectAs old new p made → (key : ℕ) → number_of (held (upper_of new) p) ≡ Some key → KeepsTexts old new (Some p) → AltersUnless x old new metacopy p (Ok key)
  alters-done tree object key there texts = record {
    alters = λ s m option c. subst (λ (ls : List Layer). AltersState (upper_of new) ls s c p (call_at p x)) (sym (lowers-same old new low)) (state-altered s m option c);
    key = there;
    lowers = low;
    around = around-paths old new p (object h.attributes h.shown).paths;
    texts = texts;
    live = live-altered tree object;
    no_memory = tt;
    sound = sound;
  }

-- a change that wants memory leaves what is shown, and what the upper holds around the path
pub alters-wanted :
    (x : AttributeCall) (old new : Layers) (metacopy : Bool) (p : Path) (r : Result ℕ AllocError) →
    IsErr r → ChangesNoSight old new (GainsParents old new p) → StaysSound old new → AltersUnless x old new metacopy p r
alters-wanted x old new metacopy p (Ok y) wrong kept sound = let no : false ≡ true = wrong in absurd (cc)
alters-wanted x old new metacopy p (Err e) wrong kept sound = record {
  alters = tt;
  key = tt;
  lowers = kept.beneath.lowers;
  around = around-parents old new p kept.beneath;
  texts = texts-gained old new p (Some p) kept.beneath;
  live = tt;
  no_memory = record { shown = kept.shown; mount = kept.mount; beneath = parents-live old new p kept.beneath };
  sound = sound;
}

-- and so does one for which there is none at all
pub alters-unmade : (x : AttributeCall) (l : Layers) (metacopy : Bool) (p : Path) (r : Result ℕ AllocError) → IsErr r → AltersUnless x l l metacopy p r
alters-unmade x l metacopy p r wrong = alters-wanted x l l metacopy p r wrong (record { shown = same-self l; mount = λ s h. h; beneath = gains-self l p }) (sound-self l)

-- what is told of an inode is told where it is shown
open-as : {A : Type 0} (now : A → Attributes) (r : Result A Errno) (s : Option Shown) (j k : ℕ) (i : Option Inode) → s ≡ Some (Contents j k i) → MatchResult r (λ a. IsOpenTo (Some (Contents 0 0 i)) (now a)) (λ e. (e ≡ ELOOP) × (is_link_inode i ≡ true)) → MatchResult r (λ a. IsOpenTo s (now a)) (λ e. (e ≡ ELOOP) × (shows_link s ≡ true))
open-as now r s j k i is h = grind arith

-- so it is of an inode that is alike, and of a filled one
open-alike : {A : Type 0} (now : A → Attributes) (r : Result A Errno) (i x : Option Inode) → is_link_inode x ≡ is_link_inode i → inode_attributes x ≡ inode_attributes i → MatchResult r (λ a. IsOpenTo (Some (Contents 0 0 i)) (now a)) (λ e. (e ≡ ELOOP) × (is_link_inode i ≡ true)) → MatchResult r (λ a. IsOpenTo (Some (Contents 0 0 x)) (now a)) (λ e. (e ≡ ELOOP) × (is_link_inode x ≡ true))
open-alike now (Ok a) i x link same h = record { no_link = link ∙ h.no_link; attributes = same ∙ h.attributes }
open-alike now (Err e) i x link same h = (h.0, link ∙ h.1)

pub open-filled : {A : Type 0} (now : A → Attributes) (r : Result A Errno) (s : Option Shown) (j k : ℕ) (lowers : List Layer) (i : Option Inode) → s ≡ Some (Contents j k (fill_at j lowers i)) → MatchResult r (λ a. IsOpenTo (Some (Contents 0 0 i)) (now a)) (λ e. (e ≡ ELOOP) × (is_link_inode i ≡ true)) → MatchResult r (λ a. IsOpenTo s (now a)) (λ e. (e ≡ ELOOP) × (shows_link s ≡ true))
open-filled now r s j k lowers i is h = open-as now r s j k (fill_at j lowers i) is (open-alike now r i (fill_at j lowers i) (link-filled j lowers i) (attributes-filled j lowers i) h)

-- a symbolic link is the refusal of chown where the walk isn't refused
pub chown-link : (Ls : List Layer) (p : Path) → walk_fault Ls p ≡ None → shows_link (shows 0 Ls p) ≡ true → chown_fault Ls p ≡ Some ELOOP
chown-link Ls p none link = ap (λ w. or_else w (when (shows_link (shows 0 Ls p)) ELOOP)) none ∙ ap (λ b. when b ELOOP) link

-- what is no symbolic link shows its attributes there
pub shows-open : (Ls : List Layer) (p : Path) (a : Attributes) → walk_fault Ls p ≡ None → IsOpenTo (shows 0 Ls p) a → ShowsAttributes Ls p a
shows-open Ls p a none h = record { allowed = ap (λ w. or_else w (when (shows_link (shows 0 Ls p)) ELOOP)) none ∙ ap (λ b. when b ELOOP) h.no_link; shown = h.attributes }

-- a call on what was seen, where it is refused neither for what it asks for nor for a symbolic link
module _
    (x : AttributeCall) (l : Layers) (p : Path) (target : Stack × Topmost) (first : asking_fault x ≡ None) (seen : IsSeen l p target)
    (a : Attributes) (is : IsOpenTo (shows 0 (layers_of l) p) a) where
  -- is refused for the user attributes there
  pub user-judged : asked_fault (layers_of l) p x ≡ user_fault x a.user
  user-judged =
      user-last (layers_of l) p x first (shows-open (layers_of l) p a (walk-seen l p target seen) is).allowed
      ∙ ap (λ o. user_fault x (user_in o)) is.attributes

  -- or is to be made
  pub target-judged : user_fault x a.user ≡ None → IsTarget l p x target
  target-judged none = record {
    allowed = user-judged ∙ none;
    way = seen.way;
    directory = seen.directory;
    top = seen.top;
    attributes = a;
    shown = is.attributes;
  }
