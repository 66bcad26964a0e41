-- Changes of attributes and further names are told by numbers as the machine tells them; a file that was untouched is in the upper then.
use Rattle.std.proofs.Common.{◌≡◌, ◌≢◌, ℕ, true, List, ◌∷◌, ◌++◌, Option, None, Some, refl, sym, ap, subst, ◌∙◌, ◌⊎◌, inl, inr, is_some, is_none, nat_lt, length}
use Rattle.std.proofs.lemmas.Bool.{false≢true}
use Rattle.ov_base.specs.Calls.{Call}
use Rattle.ov_base.specs.declared.call.CallOf.TheVariants.{Chmod, Chown, SetAttribute, DeleteAttribute, Hardlink}
use Rattle.ov_base.specs.declared.errno.Errno.TheVariants.{EFBIG}
use Rattle.ov_base.specs.declared.node_id.NodeId.{NodeId}
use Rattle.plain_model.specs.Layers.{Path, Layer, Shown, shows, base}
use Rattle.plain_model.specs.Tree.{node_at, node_of, is_folder, is_untouched}
use Rattle.plain_model.specs.Watching.{ATTRIB, CREATE, Rule}
use Rattle.plain_model.specs.Machine.{State, look}
use Rattle.plain_model.specs.Refusals.{when, there, walked, bad_mode, bad_attribute}
use Rattle.plain_model.specs.Changes.{way_of, tree_after, after}
use Rattle.plain_model.specs.Subjects.{marked, by_way, of_node, both, subjects}
use Rattle.plain_model.specs.Alike.{AreToldAlike}
use Rattle.plain_model.proofs.Kept.{by-path}
use Rattle.plain_model.proofs.Looking.{or-first, or-second}
use Rattle.mount_laws.specs.Looks.{IsMountOf}
use Rattle.mount_laws.specs.Nodes.{touched_by}
use Rattle.mount_laws.specs.Paths.{LeadsSame}
use Rattle.mount_laws.proofs.Looks.{at-some}
use Rattle.mount_laws.proofs.Opens.{folder-at}
use Rattle.mount_laws.proofs.OpenFiles.{law_of_live_shown}
use Rattle.object_table.specs.Objects.{Spot, At, Upper, spot_of}
use Rattle.notice_laws.specs.declared.object.Object.{Object}
use Rattle.notice_laws.specs.declared.object.Object.TheVariants as object
use Rattle.notice_laws.specs.Notified.{Notified, AreKnown, stands_alone, IsAt, stands_for, Tracks, Passes, Resumes}
use Rattle.notice_laws.specs.Objects.{IsObject, IsShownIn}
use Rattle.notice_laws.specs.Telling.{of_number, in_way, of_both, marks}
use Rattle.notice_laws.specs.Steps.{keeps_handles, Lifts, IsLifted, Altered, LawOfAltered, Linked, LawOfLinked}
use Rattle.notice_laws.proofs.Numbers.{looks-as, alone-path, live-apart, link-apart, law_of_numbers, law_of_way_numbers}
use Rattle.notice_laws.proofs.ShownParents.{walked-shown, there-shown}
use Rattle.notice_laws.proofs.Resuming.{paths-after, also-leads, stays-at, resumes-kept}
use Rattle.notice_laws.proofs.Making.{tells-of}
use Rattle.notice_laws.proofs.ObjectNodes.{folder-touched, marks-alike}
use Rattle.notice_laws.proofs.LastNames.{law_of_upper}

module _ (U : Layer) (lowers : List Layer) (s : State) (m : IsMountOf U lowers s) (p : Path) where
  -- an untouched file that stands alone is shown as one of a lower layer
  pub untouched-lower : (o : Object) (d : NodeId) → IsObject U lowers p o → node_at s.tree p ≡ Some d → is_untouched (s.tree d) ≡ true →
      stands_alone (s.tree d) ≡ true → o ≡ object.Lower
  untouched-lower object.Lower d h at low alone = refl
  untouched-lower object.Directory d h at low alone =
      let folder = ap (λ o. is_folder (node_of s.tree o)) (sym at) ∙ folder-at U lowers s m p ∙ h in
      absurd (false≢true (sym (folder-touched (s.tree d) folder) ∙ low))
  untouched-lower (object.Upper key last) d h at low alone =
      absurd (live-apart U lowers s m d key (law_of_live_shown U lowers s m p key h.inode h.bytes d h.shown h.file at) alone)
  untouched-lower object.Other d (inl none) at low alone = absurd (bare (shows 0 (U ∷ lowers) p) none shown)
    where
      shown : is_some (shows 0 (U ∷ lowers) p) ≡ true
      shown = sym (at-some U lowers s m p) ∙ ap is_some at

      bare : (o : Option Shown) → is_none o ≡ true → is_some o ≡ true → ⊥
      bare None none some = false≢true some
      bare (Some x) none some = false≢true none
  untouched-lower object.Other d (inr link) at low alone =
      absurd (link-apart (s.tree d) (base U lowers p) (shows 0 (U ∷ lowers) p) link (looks-as U lowers s m p d at) alone)

-- what a change of what stands at p makes of spots, where that is of a lower layer, or else
lifts-to : (p : Path) (o : Object) (key : ℕ) (was spot : Spot) → Lifts p o key was spot →
    ((o ≡ object.Lower) × (was ≡ At p) × (spot ≡ Upper key)) ⊎ ((o ≡ object.Lower → was ≢ At p) × (spot ≡ was))
lifts-to p object.Lower key was spot (inl h) = inl (refl, h.0, h.1)
lifts-to p object.Lower key was spot (inr h) = inr (λ e. h.0, h.1)
lifts-to p object.Directory key was spot h = inr (λ e. absurd (let z : object.Directory ≡ object.Lower = e in cc), h)
lifts-to p (object.Upper k last) key was spot h = inr (λ e. absurd (let z : object.Upper k last ≡ object.Lower = e in cc), h)
lifts-to p object.Other key was spot h = inr (λ e. absurd (let z : object.Other ≡ object.Lower = e in cc), h)

module _ (U V : Layer) (lowers : List Layer) (s : State) (c : ℕ) (call : Call)
    (passes : Passes U V lowers s c call) (p : Path) (touches : touched_by s call ≡ node_at s.tree p)
    (leads : (d : NodeId) (q : Path) → node_at s.tree q ≡ Some d → node_at (after s c call).tree q ≡ Some d)
    (o : Object) (key : ℕ) (is : IsObject U lowers p o) where
  -- after a call that touches what stands at p, each tracked object is where its node is
  pub lifts-at :
      (old : Notified) → (k : Tracks U s old) → IsLifted old.objects V lowers p o key → (n : ℕ) (was spot : Spot) →
      spot_of old.objects n ≡ Some was → Lifts p o key was spot → IsAt V (after s c call).tree spot (k.bearers n)
  lifts-at old k lifted n was spot e becomes = elim (lifts-to p o key was spot becomes) [
    | inl up ↦
        (let here = e ∙ ap Some up.1 in
        let shown = subst (λ x. IsLifted old.objects V lowers p x key) up.0 lifted n here in
        subst (λ x. IsAt V (after s c call).tree x (k.bearers n)) (sym up.2)
        (law_of_upper V lowers (after s c call) passes.now p key shown.0 (k.bearers n) shown.1
        (leads (k.bearers n) p (k.borne.places n (At p) here).0)))
    | inr stays ↦
        subst (λ x. IsAt V (after s c call).tree x (k.bearers n)) (sym stays.1)
        (stays-at U V lowers s c call passes (k.bearers n) (λ i. k.borne.given n i (ap is_some e)) (leads (k.bearers n)) was
        (λ q at here low touched.
        let there = sym touches ∙ touched in
        stays.0 (untouched-lower U lowers s passes.before p o (k.bearers n) is there low here.1)
        (at ∙ ap At (alone-path U lowers s passes.before q p (k.bearers n) here.1 here.0 there)))
        (k.borne.places n was e))
  ]

-- a change of attributes is told by numbers
module _ (shows : Rule) (U V : Layer) (lowers : List Layer) (s : State) (c : ℕ) (call : Call) (passes : Passes U V lowers s c call)
    (keeps : keeps_handles call ≡ true) (p : Path) (touches : touched_by s call ≡ node_at s.tree p)
    (leads : (d : NodeId) (q : Path) → node_at s.tree q ≡ Some d → node_at (after s c call).tree q ≡ Some d) (o : Object) (key : ℕ)
    (is : IsObject U lowers p o) (old new : Notified) (lifted : IsLifted old.objects V lowers p o key) (k : Tracks U s old)
    (known : AreKnown new) where
  -- to the directory and to the object
  altered-resumes : there (look s.tree p) ≡ None →
      subjects s c call ≡ both (way_of s.tree p) (node_at s.tree p) (marked (node_of s.tree (node_at s.tree p)) ATTRIB) →
      Altered shows old new p o key → Resumes shows V s c call new
  altered-resumes fine tells altered =
      resumes-kept shows U V lowers s c call passes keeps old new k known (of_both altered.way altered.number (marks o ATTRIB))
      (Lifts p o key) altered.tells altered.handles altered.renames
      (subst (λ ts. AreToldAlike (stands_for old.objects k.bearers) old.instances s.instances
      (of_both altered.way altered.number (marks o ATTRIB)) ts) (sym tells) told)
      (lifts-at U V lowers s c call passes p touches leads o key is old k lifted)
    where
      shown : IsShownIn U lowers p
      shown = there-shown U lowers s passes.before p fine

      told : AreToldAlike (stands_for old.objects k.bearers) old.instances s.instances (of_both altered.way altered.number (marks o ATTRIB))
          (both (way_of s.tree p) (node_at s.tree p) (marked (node_of s.tree (node_at s.tree p)) ATTRIB))
      told =
          subst (λ b. AreToldAlike (stands_for old.objects k.bearers) old.instances s.instances
          (of_both altered.way altered.number (marks o ATTRIB)) (both (way_of s.tree p) (node_at s.tree p) b))
          (marks-alike U lowers s passes.before p o ATTRIB is)
          ((tells-of U s old k).parts (in_way altered.way (marks o ATTRIB) 0) (of_number altered.number (marks o ATTRIB))
          (by_way (way_of s.tree p) (marks o ATTRIB) 0) (of_node (node_at s.tree p) (marks o ATTRIB))
          ((tells-of U s old k).way altered.way (way_of s.tree p) (marks o ATTRIB) 0
          (law_of_way_numbers U lowers s passes.before old.objects k.bearers k.borne p altered.way shown altered.entered))
          ((tells-of U s old k).node altered.number (node_at s.tree p) (marks o ATTRIB)
          (law_of_numbers U lowers s passes.before old.objects k.bearers k.borne p o altered.number is altered.found)))

  -- a further name q is told to its directory, and then to the object
  linked-resumes : (q : Path) → IsShownIn U lowers q →
      subjects s c call ≡ by_way (way_of s.tree q) CREATE 0 ++ of_node (node_at s.tree p) ATTRIB →
      Linked shows old new p q o key → Resumes shows V s c call new
  linked-resumes q shown tells linked =
      resumes-kept shows U V lowers s c call passes keeps old new k known (in_way linked.way CREATE 0 ++ of_number linked.number ATTRIB)
      (Lifts p o key) linked.tells linked.handles linked.renames
      (subst (λ ts. AreToldAlike (stands_for old.objects k.bearers) old.instances s.instances
      (in_way linked.way CREATE 0 ++ of_number linked.number ATTRIB) ts) (sym tells)
      ((tells-of U s old k).parts (in_way linked.way CREATE 0) (of_number linked.number ATTRIB)
      (by_way (way_of s.tree q) CREATE 0) (of_node (node_at s.tree p) ATTRIB)
      ((tells-of U s old k).way linked.way (way_of s.tree q) CREATE 0
      (law_of_way_numbers U lowers s passes.before old.objects k.bearers k.borne q linked.way shown linked.entered))
      ((tells-of U s old k).node linked.number (node_at s.tree p) ATTRIB
      (law_of_numbers U lowers s passes.before old.objects k.bearers k.borne p o linked.number is linked.found))))
      (lifts-at U V lowers s c call passes p touches leads o key is old k lifted)

-- a call that changes attributes at a path
module _ (shows : Rule) (U V : Layer) (lowers : List Layer) (s : State) (c : ℕ) (p : Path) where
  -- which is p: paths lead where they led
  altered-here : (call : Call) (q : Path) → q ≡ p → touched_by s call ≡ node_at s.tree q → keeps_handles call ≡ true →
      subjects s c call ≡ both (way_of s.tree q) (node_at s.tree q) (marked (node_of s.tree (node_at s.tree q)) ATTRIB) →
      LeadsSame s.tree (tree_after s c call) → there (look s.tree q) ≡ None → Passes U V lowers s c call →
      (o : Object) (key : ℕ) → IsObject U lowers p o → (old new : Notified) → IsLifted old.objects V lowers p o key →
      Tracks U s old → AreKnown new → Altered shows old new p o key → Resumes shows V s c call new
  altered-here call q same-path touches keeps tells leads fine passes o key is old new lifted k known altered =
      altered-resumes shows U V lowers s c call passes keeps p (touches ∙ ap (node_at s.tree) same-path)
      (λ d x at. leads x ∙ at) o key is old new lifted k known (ap (λ x. there (look s.tree x)) (sym same-path) ∙ fine)
      (tells ∙ ap (λ x. both (way_of s.tree x) (node_at s.tree x) (marked (node_of s.tree (node_at s.tree x)) ATTRIB)) same-path) altered

-- a change of attributes is told to the directory and to the object
pub law_of_altered : (shows : Rule) → LawOfAltered shows
law_of_altered shows U V lowers s c p (Chmod q mode) names passes =
    altered-here shows U V lowers s c p (Chmod q mode) q names refl refl refl
    (paths-after U V lowers s c (Chmod q mode) passes)
    (or-first (there (look s.tree q)) _ (or-second (bad_mode mode) _ (by-path s c (Chmod q mode) passes.allowed))) passes
law_of_altered shows U V lowers s c p (Chown q uid gid) names passes =
    altered-here shows U V lowers s c p (Chown q uid gid) q names refl refl refl
    (paths-after U V lowers s c (Chown q uid gid) passes)
    (or-first (there (look s.tree q)) _ (by-path s c (Chown q uid gid) passes.allowed)) passes
law_of_altered shows U V lowers s c p (SetAttribute q n v) names passes =
    altered-here shows U V lowers s c p (SetAttribute q n v) q names refl refl refl
    (paths-after U V lowers s c (SetAttribute q n v) passes)
    (or-first (there (look s.tree q)) _ (or-second (when (nat_lt 1024 (length v)) EFBIG) _
    (or-second (bad_attribute n) _ (by-path s c (SetAttribute q n v) passes.allowed)))) passes
law_of_altered shows U V lowers s c p (DeleteAttribute q n) names passes =
    altered-here shows U V lowers s c p (DeleteAttribute q n) q names refl refl refl
    (paths-after U V lowers s c (DeleteAttribute q n) passes)
    (or-first (there (look s.tree q)) _ (or-second (bad_attribute n) _ (by-path s c (DeleteAttribute q n) passes.allowed))) passes
law_of_altered shows U V lowers s c p _ names passes = absurd names

-- a further name is told to its directory, and then to the object
pub law_of_linked : (shows : Rule) → LawOfLinked shows
law_of_linked shows U V lowers s c p q passes o key is old new lifted k known linked =
    let leads = paths-after U V lowers s c (Hardlink p q) passes in
    linked-resumes shows U V lowers s c (Hardlink p q) passes refl p refl
    (also-leads s.tree (tree_after s c (Hardlink p q)) q leads.0 leads.2) o key is old new lifted k known q
    (walked-shown U lowers s passes.before q
    (or-first (walked (look s.tree q)) _ (or-second (there (look s.tree p)) _ (by-path s c (Hardlink p q) passes.allowed)))) refl linked
