-- What a rename that moves something asks of what is kept for watches: a place for a directory, and a key for a file of a lower layer.
use Rattle.std.proofs.Common.{◌≡◌, ◌∷◌, ◌⊎◌, ◌||◌, inl, inr, ℕ, suc, nat_eq, eqb-true, eq-eqb, Bool, true, false, not, ◌&&◌, cond, [], List, Option, None, Some, refl, sym, ap, subst, ◌∙◌, is_some}
use Rattle.std.specs.Prelude.{option_and_then}
use Rattle.std.proofs.lemmas.Bool.{cases_Bool, false≢true}
use Rattle.ov_base.specs.declared.bytes.Content.TheVariants.{File, SymbolicLink}
use Rattle.ov_base.specs.declared.call.CallOf.TheVariants.{Rename}
use Rattle.ov_base.specs.declared.errno.Errno.{Errno}
use Rattle.ov_base.specs.declared.errno.Errno.TheVariants.{ENOTDIR, EBUSY, EINVAL}
use Rattle.ov_base.specs.declared.node_id.NodeId.{NodeId}
use Rattle.plain_model.specs.Layers.{Layer, Path, base, is_directory, shows}
use Rattle.plain_model.specs.Laws.{IsOutside}
use Rattle.plain_model.specs.Tree.{Branch, Leaf, Node, Tree, face, is_folder, node_at, node_of, see}
use Rattle.plain_model.specs.Machine.{MountOptions, State, is_below, is_root, look, node_found, same_found}
use Rattle.plain_model.specs.Refusals.{there, unless_same, walked, when}
use Rattle.plain_model.specs.Changes.{after, meta_touched, one_fewer, renamed, settled, tree_after, way_of}
use Rattle.plain_model.proofs.Kept.{by-path}
use Rattle.plain_model.proofs.Looking.{or-first, or-second, when-not}
use Rattle.mount_laws.specs.Moving.{Goes}
use Rattle.mount_laws.specs.OpenFiles.{IsLive}
use Rattle.mount_laws.specs.Paths.{LeadsElsewhere}
use Rattle.mount_laws.proofs.Looks.{at-some, finds, found-at, node-some}
use Rattle.mount_laws.proofs.OpenFiles.{law_of_live_one, law_of_live_shown}
use Rattle.mount_laws.proofs.Opens.{folder-at}
use Rattle.mount_laws.proofs.Sorts.{change-fact, law_of_sorts, settled-left, way-fact}
use Rattle.object_table.specs.Objects.{At, IsVacant, NoneBelow, Upper, spot_of}
use Rattle.notice_laws.specs.declared.object.Object.{Object}
use Rattle.notice_laws.specs.declared.object.Object.TheVariants as object
use Rattle.notice_laws.specs.Notified.{Notified, Passes, Tracks, stands_alone}
use Rattle.notice_laws.specs.Objects.{IsLower, IsObject}
use Rattle.notice_laws.specs.Steps.{IsSpotOf, is_last_name}
use Rattle.notice_laws.proofs.MovedPlaces.{goes-on, leads-elsewhere}
use Rattle.notice_laws.proofs.NamesLost.{other-path}
use Rattle.notice_laws.proofs.Numbers.{live-apart, looks-as}
use Rattle.overlay_core.proofs.Bare.{none-tracked}
use Rattle.overlay_core.proofs.Lifted.{alone-file, is_file, named-file, own-shown}

-- a directory goes where something stands only where that is a directory
directory-fits : (a b c : Bool) → a ≡ true → (a && b && not c) ≡ false → b ≡ true → c ≡ true
directory-fits true true true is not some = refl
directory-fits true true false is not some = sym not
directory-fits true false c is not some = absurd (false≢true some)
directory-fits false b c is not some = absurd (false≢true is)

-- what is asked where two paths aren't one object
asked : (b : Bool) (o : Option Errno) → b ≡ false → unless_same b o ≡ None → o ≡ None
asked true o is h = absurd (false≢true (sym is))
asked false o is h = h

-- a file of the upper is lost from its place, or not
pub loses-spot : (q : Path) (e : Object) (key : ℕ) → ((is_last_name e ≡ true) × IsSpotOf q e (Upper key)) ⊎ (is_last_name e ≡ true → IsSpotOf q e (Upper key) → ⊥)
loses-spot q object.Directory key = inr (λ last h. let z : Upper key ≡ At q = h in cc)
loses-spot q object.Lower key = inr (λ last h. let z : Upper key ≡ At q = h in cc)
loses-spot q (object.Upper j last) key = elim (cases_Bool last) [
  | inr n ↦ inr (λ y h. false≢true (sym n ∙ y))
  | inl y ↦ elim (cases_Bool (nat_eq key j)) [
    | inl e ↦ inl (y, ap Upper (eqb-true key j e))
    | inr e ↦ inr (λ z h. let w : key ≡ j = cc in false≢true (sym e ∙ eq-eqb key j w))
  ]
]
loses-spot q object.Other key = inr (λ last h. h)

-- a change of a moved node leaves files files
meta-file : (m : MountOptions) (y : Node) → is_file (Some (meta_touched m y)) ≡ is_file (Some y)
meta-file m (Branch a b names c) = refl
meta-file m (Leaf (File bytes) a u c) = refl
meta-file m (Leaf (SymbolicLink target) a u c) = refl

-- and so does a name less
fewer-file : (y : Node) → is_file (Some (one_fewer y)) ≡ is_file (Some y)
fewer-file (Branch a b names c) = refl
fewer-file (Leaf (File bytes) a u c) = refl
fewer-file (Leaf (SymbolicLink target) a u c) = refl

module _ (U V : Layer) (lowers : List Layer) (s : State) (c : ℕ) (p q : Path)
    (passes : Passes U V lowers s c (Rename p q)) (two : same_found (look s.tree p) (look s.tree q) ≡ false) where
  abbrev t : Tree
  t = s.tree

  abbrev u : Tree
  u = tree_after s c (Rename p q)

  leads : LeadsElsewhere t u p q
  leads = leads-elsewhere U V lowers s c p q passes two

  -- neither path is below the other
  pub moved-apart : IsOutside p q
  moved-apart = leads.apart

  folder-found : (x : Path) → is_folder (node_found t (look t x)) ≡ is_directory (shows 0 (U ∷ lowers) x)
  folder-found x = ap (λ o. is_folder (node_of t o)) (found-at t x) ∙ folder-at U lowers s passes.before x

  -- a directory replaces a directory, or nothing
  pub directory-onto : is_directory (shows 0 (U ∷ lowers) p) ≡ true → is_some (shows 0 (U ∷ lowers) q) ≡ true → is_directory (shows 0 (U ∷ lowers) q) ≡ true
  directory-onto is some =
      let walks = or-second (when (is_root p || is_root q) EBUSY) _ (by-path s c (Rename p q) passes.allowed) in
      let onward = or-second (walked (look t q)) _ (or-second (there (look t p)) _ walks) in
      let kinds = when-not _ ENOTDIR (or-first _ _ (or-second (when (is_below p q) EINVAL) _ (asked (same_found (look t p) (look t q)) _ two onward))) in
      sym (folder-found q) ∙ directory-fits _ _ _ (folder-found p ∙ is) kinds (finds U lowers s passes.before q ∙ some)

  module _ (k : Notified) (tracks : Tracks U s k) where
    -- nothing that is tracked is below the new place
    pub nothing-below : NoneBelow k.objects q
    nothing-below = none-tracked U s k tracks q leads.bare

    -- nor at it, where nothing is shown there
    pub nothing-there : is_some (shows 0 (U ∷ lowers) q) ≡ false → IsVacant k.objects (At q)
    nothing-there none n at =
        false≢true (sym none ∙ sym (at-some U lowers s passes.before q) ∙ ap is_some (tracks.borne.places n (At q) at).0)

  -- what moved is at the new place
  comes : (d : NodeId) → node_at t p ≡ Some d → node_at u q ≡ Some d
  comes d at = leads.follows p q (Goes [] refl refl) ∙ at

  -- a file stays a file
  moved-file : (d : NodeId) → is_some (u d) ≡ true → is_file (u d) ≡ is_file (t d)
  moved-file d some =
      let moves = ap (λ b. cond b t (settled s.tables (renamed s.options t p q) (node_at t q)) d) two in
      let left = settled-left s.tables (renamed s.options t p q) (node_at t q) d (ap is_some (sym moves) ∙ some) in
      ap is_file (moves ∙ left)
      ∙ way-fact is_file named-file _ (way_of t p) None d
      ∙ way-fact is_file named-file _ (way_of t q) (node_at t p) d
      ∙ change-fact is_file (meta_touched s.options) (meta-file s.options) _ (node_at t p) d
      ∙ change-fact is_file one_fewer fewer-file t (node_at t q) d

  module _ (k : Notified) (tracks : Tracks U s k) (low : IsLower U lowers p) (n : ℕ) (at : spot_of k.objects n ≡ Some (At p)) where
    abbrev d : NodeId
    d = tracks.bearers n

    here : node_at t p ≡ Some d
    here = (tracks.borne.places n (At p) at).0

    alone : stands_alone (t d) ≡ true
    alone = (tracks.borne.places n (At p) at).1

    was-file : is_file (t d) ≡ true
    was-file = alone-file (t d) (base U lowers p) (suc low.layer) low.key low.inode alone (subst (λ x. face (t d) ≡ see (base U lowers p) x) low.shown (looks-as U lowers s passes.before p d here))

    there-still : is_some (u d) ≡ true
    there-still =
        let at = comes d here in
        ap (λ o. is_some (node_of u o)) (sym at) ∙ node-some V lowers (after s c (Rename p q)) passes.now q ∙ ap is_some at

    -- a file of a lower layer is one of the upper in the new place
    pub lifted-there : (key : ℕ) × (last : Bool) × IsObject V lowers q (object.Upper key last)
    lifted-there =
        own-shown V lowers q (base V lowers q) (u d) (shows 0 (V ∷ lowers) q) refl (moved-file d there-still ∙ was-file)
        ((law_of_sorts s c (Rename p q) passes.before.kept).own d (ap (λ b. option_and_then (node_at t) (cond b None (Some p))) two ∙ here))
        (looks-as V lowers (after s c (Rename p q)) passes.now q d (comes d here))

    -- by a key under which nothing was tracked but what is replaced, and has no other name
    pub lifted-vacant :
        (e : Object) → IsObject U lowers q e → (key : ℕ) (last : Bool) → IsObject V lowers q (object.Upper key last) → (m : ℕ) →
        spot_of k.objects m ≡ Some (Upper key) → (is_last_name e ≡ true) × IsSpotOf q e (Upper key)
    lifted-vacant e was_there key last is m up = elim (loses-spot q e key) [
      | inl y ↦ y
      | inr rests ↦
          (let held = tracks.borne.places m (Upper key) up in
          let y = tracks.bearers m in
          let other = other-path U lowers s passes.before passes.one q e was_there (Upper key) rests y held in
          let now = goes-on t u p q leads other.0 other.1 y other.2 in
          let live = passes.named y key now.0 held.0 now.1 in
          let mine = law_of_live_shown V lowers (after s c (Rename p q)) passes.now q key is.inode is.bytes d is.shown is.file (comes d here) in
          let same : d ≡ y = (law_of_live_one V u q d y key key (comes d here) mine live).1 refl in
          absurd (live-apart U lowers s passes.before d key (subst (λ x. IsLive U t x key) (sym same) held.0) alone))
    ]
