-- The calls that change attributes: the laws of each, told of all of them.
use Rattle.std.proofs.Common.{◌≡◌, ℕ, List, ◌∷◌, Option, None, Some, Result, Ok, Err, IfOk, IfErr, OnOk, MatchResult, length, nat_lt, refl, sym, ap, ◌∙◌, subst}
use Rattle.std.specs.Borrow.{Bor}
use Rattle.ov_base.specs.declared.errno.Errno.{Errno}
use Rattle.ov_base.specs.declared.errno.Errno.TheVariants.{EFBIG, ELOOP, ENOENT}
use Rattle.ov_base.specs.declared.reply.Reply.TheVariants.{Done}
use Rattle.plain_model.specs.Changes.{after}
use Rattle.plain_model.specs.Layers.{Path, Layer, shows}
use Rattle.plain_model.specs.Machine.{State}
use Rattle.plain_model.specs.Refusals.{bad_attribute, bad_mode, refusal, when}
use Rattle.plain_model.specs.Replies.{reply_of}
use Rattle.merged_lookup.specs.declared.found.Topmost.{Topmost}
use Rattle.merged_lookup.specs.declared.found.Topmost.TheVariants as topmost
use Rattle.merged_lookup.specs.declared.layers.Layers.{Layers}
use Rattle.merged_lookup.specs.declared.stack.Stack.{Stack}
use Rattle.merged_lookup.specs.Merged.{layers_of, parent, IsStackOf, IsTopmost}
use Rattle.mount_laws.specs.Altered.{AltersBy}
use Rattle.mount_laws.specs.Attributes.{chown_fault, chmod_fault, set_fault, get_fault, shown_user}
use Rattle.mount_laws.specs.Looks.{absent, or_else, parents_fault, shows_link, walk_fault, IsMountOf}
use Rattle.mount_laws.specs.StayOpen.{LivesThroughChange}
use Rattle.mount_laws.proofs.Altered.{law_of_mode_changed, law_of_owner_changed, law_of_attribute_set, law_of_attribute_deleted}
use Rattle.mount_laws.proofs.Attributes.{law_of_chmod, law_of_chown, law_of_set_attribute, law_of_delete_attribute}
use Rattle.mount_laws.proofs.Outlive.{law_of_live_through_mode, law_of_live_through_owner, law_of_live_through_set, law_of_live_through_deleted}
use Rattle.mount_calls.specs.declared.attribute_changes.AttributeCall.{AttributeCall}
use Rattle.mount_calls.specs.declared.attribute_changes.AttributeCall.TheVariants as asks
use Rattle.mount_calls.specs.declared.look.Look.{Look}
use Rattle.mount_calls.specs.Altering.{target_in, target_of}
use Rattle.mount_calls.specs.Looking.{IsLook}
use Rattle.mount_calls.specs.AttributeCalls.{call_at, asked, asking_fault, user_fault, asked_fault}
use Rattle.copy_up.specs.Texts.{KeepsTexts}
use Rattle.mount_calls.specs.Keeping.{KeepsAround, KeepsLayers}
use Rattle.mount_calls.proofs.Carrying.{KeepsLeaves}
use Rattle.mount_calls.proofs.Leaves.{chmod-leaves, chown-leaves, set-leaves, delete-leaves}

-- a refusal before none is the refusal
or-none : (a : Option Errno) → or_else a None ≡ a
or-none None = refl
or-none (Some e) = refl

-- refusals are told one after the other, however they are put together
or-assoc : (a b c : Option Errno) → or_else (or_else a b) c ≡ or_else a (or_else b c)
or-assoc None b c = refl
or-assoc (Some e) b c = refl

-- the fault of each by its name
abbrev named_fault : List Layer → Path → AttributeCall → Option Errno
named_fault Ls p (asks.Mode mode) = chmod_fault Ls p mode
named_fault Ls p (asks.Owner uid gid) = chown_fault Ls p
named_fault Ls p (asks.Set name value) = set_fault Ls p name.now value.now
named_fault Ls p (asks.Delete name) = get_fault Ls p name.now

-- it is the fault
same-fault : (Ls : List Layer) (p : Path) (x : AttributeCall) → asked_fault Ls p x ≡ named_fault Ls p x
same-fault Ls p (asks.Mode mode) = ap (or_else (bad_mode mode)) (or-none (chown_fault Ls p))
same-fault Ls p (asks.Owner uid gid) = or-none (chown_fault Ls p)
same-fault Ls p (asks.Set name value) =
    or-assoc (bad_attribute name.now) (when (nat_lt 1024 (length value.now)) EFBIG)
    (or_else (chown_fault Ls p) (user_fault (asks.Set name value) (shown_user (shows 0 Ls p))))
same-fault Ls p (asks.Delete name) = refl

-- each is refused as the layers say
pub refusal-asked : (U : Layer) (lowers : List Layer) (s : State) → IsMountOf U lowers s → (c : ℕ) (p : Path) (x : AttributeCall) → refusal s c (call_at p x) ≡ asked_fault (U ∷ lowers) p x
refusal-asked U lowers s m c p (asks.Mode mode) = law_of_chmod U lowers s m c p mode ∙ sym (same-fault (U ∷ lowers) p (asks.Mode mode))
refusal-asked U lowers s m c p (asks.Owner uid gid) = law_of_chown U lowers s m c p uid gid ∙ sym (same-fault (U ∷ lowers) p (asks.Owner uid gid))
refusal-asked U lowers s m c p (asks.Set name value) = law_of_set_attribute U lowers s m c p name.now value.now ∙ sym (same-fault (U ∷ lowers) p (asks.Set name value))
refusal-asked U lowers s m c p (asks.Delete name) = law_of_delete_attribute U lowers s m c p name.now

-- each alters a state where it isn't refused
pub altered-asked : (p : Path) (x : AttributeCall) → AltersBy (asked x) p (λ Ls. asked_fault Ls p x) (call_at p x)
altered-asked p (asks.Mode mode) U V lowers s m c none = law_of_mode_changed p mode U V lowers s m c (sym (same-fault (U ∷ lowers) p (asks.Mode mode)) ∙ none)
altered-asked p (asks.Owner uid gid) U V lowers s m c none = law_of_owner_changed p uid gid U V lowers s m c (sym (same-fault (U ∷ lowers) p (asks.Owner uid gid)) ∙ none)
altered-asked p (asks.Set name value) U V lowers s m c none = law_of_attribute_set p name.now value.now U V lowers s m c (sym (same-fault (U ∷ lowers) p (asks.Set name value)) ∙ none)
altered-asked p (asks.Delete name) U V lowers s m c none = law_of_attribute_deleted p name.now U V lowers s m c none

-- live files live through each
pub live-asked : (p : Path) (x : AttributeCall) → LivesThroughChange (asked x) p (call_at p x)
live-asked p (asks.Mode mode) = law_of_live_through_mode p mode
live-asked p (asks.Owner uid gid) = law_of_live_through_owner p uid gid
live-asked p (asks.Set name value) = law_of_live_through_set p name.now value.now
live-asked p (asks.Delete name) = law_of_live_through_deleted p name.now

-- each leaves files files
pub leaves-asked : (p : Path) (x : AttributeCall) → KeepsLeaves (call_at p x)
leaves-asked p (asks.Mode mode) = chmod-leaves p mode
leaves-asked p (asks.Owner uid gid) = chown-leaves p uid gid
leaves-asked p (asks.Set name value) = set-leaves p name.now value.now
leaves-asked p (asks.Delete name) = delete-leaves p name.now

-- each leaves watches
pub still-asked : (s : State) (c : ℕ) (p : Path) (x : AttributeCall) → (after s c (call_at p x)).instances ≡ s.instances
still-asked s c p (asks.Mode mode) = refl
still-asked s c p (asks.Owner uid gid) = refl
still-asked s c p (asks.Set name value) = refl
still-asked s c p (asks.Delete name) = refl

-- what each leaves of the layers
pub layers-asked : (old new : Layers) (p : Path) (x : AttributeCall) → KeepsAround old new p → KeepsTexts old new (Some p) → KeepsLayers (call_at p x) old new
layers-asked old new p (asks.Mode mode) around texts = record { paths = around; texts = texts }
layers-asked old new p (asks.Owner uid gid) around texts = record { paths = around; texts = texts }
layers-asked old new p (asks.Set name value) around texts = record { paths = around; texts = texts }
layers-asked old new p (asks.Delete name) around texts = record { paths = around; texts = texts }

-- what it asks for is judged first
pub asking-first : (Ls : List Layer) (p : Path) (x : AttributeCall) (e : Errno) → asking_fault x ≡ Some e → asked_fault Ls p x ≡ Some e
asking-first Ls p x e h = ap (λ o. or_else o (or_else (chown_fault Ls p) (user_fault x (shown_user (shows 0 Ls p))))) h

-- then the path
pub path-next : (Ls : List Layer) (p : Path) (x : AttributeCall) (e : Errno) → asking_fault x ≡ None → chown_fault Ls p ≡ Some e → asked_fault Ls p x ≡ Some e
path-next Ls p x e first h =
    ap (λ o. or_else o (or_else (chown_fault Ls p) (user_fault x (shown_user (shows 0 Ls p))))) first
    ∙ ap (λ o. or_else o (user_fault x (shown_user (shows 0 Ls p)))) h

-- and last the user attributes
pub user-last : (Ls : List Layer) (p : Path) (x : AttributeCall) → asking_fault x ≡ None → chown_fault Ls p ≡ None → asked_fault Ls p x ≡ user_fault x (shown_user (shows 0 Ls p))
user-last Ls p x first next =
    ap (λ o. or_else o (or_else (chown_fault Ls p) (user_fault x (shown_user (shows 0 Ls p))))) first
    ∙ ap (λ o. or_else o (user_fault x (shown_user (shows 0 Ls p)))) next

-- a way that is refused is the refusal of chown
pub chown-way : (Ls : List Layer) (p : Path) (e : Errno) → parents_fault Ls p ≡ Some e → chown_fault Ls p ≡ Some e
chown-way Ls p e h = ap (λ o. or_else (or_else o (absent (shows 0 Ls p))) (when (shows_link (shows 0 Ls p)) ELOOP)) h

-- and so is a way to nothing
pub chown-absent : (Ls : List Layer) (p : Path) → parents_fault Ls p ≡ None → shows 0 Ls p ≡ None → chown_fault Ls p ≡ Some ENOENT
chown-absent Ls p way nothing =
    ap (λ o. or_else (or_else o (absent (shows 0 Ls p))) (when (shows_link (shows 0 Ls p)) ELOOP)) way
    ∙ ap (λ s. or_else (absent s) (when (shows_link s) ELOOP)) nothing

-- what comes of a look: what the path shows, in the merged directory where that stands, or the refusal of chown
pub record IsSeen (l : Layers) (p : Path) (target : Stack × Topmost) : Type 0 where
  pub way : parents_fault (layers_of l) p ≡ None
  pub directory : IsStackOf l (parent p) target.0
  pub top : IsTopmost l p (Some target.1)

pub is-seen : (l : Layers) (p : Path) (look : Look) → IsLook l p look → MatchResult (target_of look.shown) (IsSeen l p) (λ e. chown_fault (layers_of l) p ≡ Some e)
is-seen l p look is = by look.shown is.refused is.way is.directory is.top
  where
    in_it : (directory : Stack) (top : Option Topmost) → parents_fault (layers_of l) p ≡ None → IsStackOf l (parent p) directory → IsTopmost l p top → MatchResult (target_in directory top) (IsSeen l p) (λ e. chown_fault (layers_of l) p ≡ Some e)
    in_it directory (Some top) way stack shown = record { way = way; directory = stack; top = shown }
    in_it directory None way stack nothing = chown-absent (layers_of l) p way nothing.shown

    by : (o : Result (Stack × Option Topmost) Errno) → IfErr o (λ e. parents_fault (layers_of l) p ≡ Some e) → OnOk o (parents_fault (layers_of l) p ≡ None) → IfOk o (λ seen. IsStackOf l (parent p) seen.0) → IfOk o (λ seen. IsTopmost l p seen.1) → MatchResult (target_of o) (IsSeen l p) (λ e. chown_fault (layers_of l) p ≡ Some e)
    by (Ok seen) refused way directory top = in_it seen.0 seen.1 way directory top
    by (Err e) refused way directory top = chown-way (layers_of l) p e refused

-- it is told by reference
abbrev TellsTarget : Look → Result (Bor Stack × Topmost) Errno → Type 0
TellsTarget look r = MatchResult r (λ target. target_of look.shown ≡ Ok (target.0.now, target.1)) (λ e. target_of look.shown ≡ Err e)

pub seen-ok : (l : Layers) (p : Path) (look : Look) → IsLook l p look → (r : Result (Bor Stack × Topmost) Errno) → TellsTarget look r → (t : Bor Stack × Topmost) → r ≡ Ok t → IsSeen l p (t.0.now, t.1)
seen-ok l p look is r told t ok =
    let at : target_of look.shown ≡ Ok (t.0.now, t.1) = subst (λ (o : Result (Bor Stack × Topmost) Errno). TellsTarget look o) ok told in
    subst (λ (o : Result (Stack × Topmost) Errno). MatchResult o (IsSeen l p) (λ e. chown_fault (layers_of l) p ≡ Some e)) at (is-seen l p look is)

pub seen-err : (l : Layers) (p : Path) (look : Look) → IsLook l p look → (r : Result (Bor Stack × Topmost) Errno) → TellsTarget look r → (e : Errno) → r ≡ Err e → chown_fault (layers_of l) p ≡ Some e
seen-err l p look is r told e err =
    let at : target_of look.shown ≡ Err e = subst (λ (o : Result (Bor Stack × Topmost) Errno). TellsTarget look o) err told in
    subst (λ (o : Result (Stack × Topmost) Errno). MatchResult o (IsSeen l p) (λ e. chown_fault (layers_of l) p ≡ Some e)) at (is-seen l p look is)

-- a walk to what was seen isn't refused
pub walk-seen : (l : Layers) (p : Path) (t : Stack × Topmost) → IsSeen l p t → walk_fault (layers_of l) p ≡ None
walk-seen l p t s = ap (λ o. or_else o (absent (shows 0 (layers_of l) p))) s.way ∙ there t.1 s.top
  where
    there : (x : Topmost) → IsTopmost l p (Some x) → absent (shows 0 (layers_of l) p) ≡ None
    there (topmost.Directory d) h = ap absent h.1
    there (topmost.Inode d) h = ap absent h.shown
