-- Where what is tracked is after a rename that moves something.
use Rattle.std.proofs.Common.{◌≡◌, ◌≢◌, ℕ, Bool, true, false, cond, List, [], ◌∷◌, ◌++◌, Option, None, Some, refl, sym, ap, subst, ◌∙◌, ◌⊎◌, inl, inr, is_some}
use Rattle.std.specs.Prelude.{option_and_then}
use Rattle.std.proofs.lemmas.Bool.{false≢true}
use Rattle.ov_base.specs.declared.call.CallOf.TheVariants.{Rename}
use Rattle.ov_base.specs.declared.node_id.NodeId.{NodeId}
use Rattle.plain_model.specs.Layers.{Name, Path, Layer}
use Rattle.plain_model.specs.Laws.{IsOutside}
use Rattle.plain_model.specs.Tree.{Node, Branch, Leaf, Tree, entry, node_at, is_folder, is_untouched}
use Rattle.plain_model.specs.Machine.{State, look, same_found}
use Rattle.plain_model.specs.Changes.{after, tree_after}
use Rattle.plain_model.proofs.Paths.{place}
use Rattle.mount_laws.specs.Looks.{IsHidden}
use Rattle.mount_laws.specs.Moving.{Follows, Goes, Stays}
use Rattle.mount_laws.specs.Nodes.{touched_by, loses}
use Rattle.mount_laws.specs.Paths.{LeadsElsewhere, LeadsIfMoved}
use Rattle.mount_laws.proofs.Leading.{law_of_paths}
use Rattle.mount_laws.proofs.OnePath.{law_of_one_path}
use Rattle.mount_laws.proofs.Removes.{named-folder}
use Rattle.mount_laws.proofs.RenamedTree.{came-from}
use Rattle.object_table.specs.Objects.{Spot, At, Upper, Nowhere, spot_of}
use Rattle.notice_laws.specs.declared.object.Object.{Object}
use Rattle.notice_laws.specs.declared.object.Object.TheVariants as object
use Rattle.notice_laws.specs.Notified.{Notified, stands_alone, IsAt, Tracks, Passes}
use Rattle.notice_laws.specs.Objects.{IsObject}
use Rattle.notice_laws.specs.Steps.{is_last_name, IsSpotOf}
use Rattle.notice_laws.specs.Moves as moves
use Rattle.notice_laws.specs.Moves.{Moves}
use Rattle.notice_laws.proofs.NamesLost.{HasOtherPath, spot-something, other-path, spot-node, alone-spot}
use Rattle.notice_laws.proofs.Alone.{folder-alone, law_of_alone}
use Rattle.notice_laws.proofs.Nowhere.{law_of_nowhere, law_of_lost}
use Rattle.notice_laws.proofs.LastNames.{law_of_upper, law_of_last_name, folder-stands, lower-stands}

-- what is untouched is no directory
untouched-file : (o : Option Node) → is_untouched o ≡ true → is_folder o ≡ false
untouched-file None h = refl
untouched-file (Some (Branch a b names c)) h = absurd (false≢true h)
untouched-file (Some (Leaf content a u c)) h = refl

-- where a name leads, there is a directory
name-node :
    (t : Tree) (o : Option NodeId) (n : Name) (d : NodeId) → entry t o n ≡ Some d →
    (x : NodeId) × (o ≡ Some x) × (is_folder (t x) ≡ true)
name-node t None n d h = cc
name-node t (Some x) n d h = (x, refl, named-folder (t x) n d h)

-- a path below which something is leads to a directory
above :
    (t : Tree) (n : Name) (r p : Path) (d : NodeId) → node_at t (n ∷ r ++ p) ≡ Some d →
    (x : NodeId) × (node_at t p ≡ Some x) × (is_folder (t x) ≡ true)
above t n [] p d at = name-node t (node_at t p) n d at
above t n (k ∷ r) p d at = let x = name-node t (node_at t (k ∷ r ++ p)) n d at in above t k r p x.0 x.1

-- what has a path for its spot is a directory, or of a lower layer
path-spot : (p : Path) (o : Object) → IsSpotOf p o (At p) → (o ≡ object.Directory) ⊎ (o ≡ object.Lower)
path-spot p object.Directory h = inl refl
path-spot p object.Lower h = inr refl
path-spot p (object.Upper key last) h = cc
path-spot p object.Other h = absurd h

-- a rename that moves something leads what was at p, and below it, to q
pub leads-elsewhere :
    (U V : Layer) (lowers : List Layer) (s : State) (c : ℕ) (p q : Path) →
    Passes U V lowers s c (Rename p q) → same_found (look s.tree p) (look s.tree q) ≡ false →
    LeadsElsewhere s.tree (tree_after s c (Rename p q)) p q
leads-elsewhere U V lowers s c p q passes two =
    subst (λ b. LeadsIfMoved b s.tree (tree_after s c (Rename p q)) p q) two
    (law_of_paths s c (Rename p q) passes.before.kept (law_of_one_path U lowers s passes.before).directories passes.allowed)

module _ (t u : Tree) (p q : Path) (leads : LeadsElsewhere t u p q) where
  -- a path that is not q, and leads somewhere, is outside q
  pub outside-new : (x : Path) → x ≢ q → (d : NodeId) → node_at t x ≡ Some d → IsOutside q x
  outside-new x other d at [] b = other b
  outside-new x other d at (k ∷ r) b = let z : None ≡ Some d = sym (leads.bare k r) ∙ ap (node_at t) (sym b) ∙ at in cc

  -- so one is that follows it
  pub goes-on : (x : Path) → x ≢ q → (d : NodeId) → node_at t x ≡ Some d → (y : Path) × (node_at u y ≡ Some d)
  goes-on x other d at = elim (place p x) [
    | inl b ↦ (b.0 ++ q, leads.follows x (b.0 ++ q) (Goes b.0 b.1 refl) ∙ at)
    | inr out ↦ (x, leads.follows x x (Stays out (outside-new x other d at) refl) ∙ at)
  ]

-- something moved from p, where o stood, to q, where e stood
module _ (U V : Layer) (lowers : List Layer) (s : State) (c : ℕ) (p q : Path)
    (passes : Passes U V lowers s c (Rename p q)) (two : same_found (look s.tree p) (look s.tree q) ≡ false)
    (o e : Object) (is : IsObject U lowers p o) (was_there : IsObject U lowers q e) where
  abbrev t : Tree
  t = s.tree

  abbrev u : Tree
  u = tree_after s c (Rename p q)

  leads : LeadsElsewhere t u p q
  leads = leads-elsewhere U V lowers s c p q passes two

  -- what is touched is what moves, and what loses a name is what was replaced
  touches-moved : touched_by s (Rename p q) ≡ node_at t p
  touches-moved = ap (λ b. option_and_then (node_at t) (cond b None (Some p))) two

  loses-replaced : loses s c (Rename p q) ≡ node_at t q
  loses-replaced = ap (λ b. cond b None (node_at t q)) two

  -- a node that had no path but q is hidden then
  hidden : (d : NodeId) → ((x : Path) → node_at t x ≡ Some d → x ≡ q) → IsHidden u d
  hidden d alone y here = elim (came-from p q y) [
    | inr b ↦ (let z : None ≡ Some d = sym (leads.gone b.0) ∙ ap (node_at u) (sym b.1) ∙ here in cc)
    | inl f ↦ not-new f.0 y f.1 (alone f.0 (sym (leads.follows f.0 y f.1) ∙ here))
  ]
    where
      not-new : (x y : Path) → Follows p q x y → x ≡ q → ⊥
      not-new x y (Goes r a b) same = leads.apart r (sym same ∙ a)
      not-new x y (Stays a b stays) same = b [] same

  -- a directory goes along with what is below
  goes-place : o ≡ object.Directory → (r : Path) (d : NodeId) → IsAt U t (At (r ++ p)) d → IsAt V u (At (r ++ q)) d
  goes-place directory r d here =
      law_of_alone U V lowers s c (Rename p q) passes d (r ++ p) (r ++ q) here.0 here.1
      (λ low same.
      let folder = folder-stands U lowers s passes.before p d (sym touches-moved ∙ same) (subst (IsObject U lowers p) directory is) in
      false≢true (sym (untouched-file (t d) low) ∙ folder))
      (leads.follows (r ++ p) (r ++ q) (Goes r refl refl) ∙ here.0)

  -- a file of a lower layer is in the upper
  rises-place :
      (key : ℕ) (last : Bool) → IsObject V lowers q (object.Upper key last) →
      (d : NodeId) → IsAt U t (At p) d → IsAt V u (Upper key) d
  rises-place key last lifted d here =
      law_of_upper V lowers (after s c (Rename p q)) passes.now q key last d lifted (leads.follows p q (Goes [] refl refl) ∙ here.0)

  -- what stands alone, and does not go along, is outside p
  outside-old :
      (x : Path) (d : NodeId) → node_at t x ≡ Some d → stands_alone (t d) ≡ true →
      (o ≡ object.Directory → (r : Path) → At x ≢ At (r ++ p)) → (o ≡ object.Lower → At x ≢ At p) → IsOutside p x
  outside-old x d at alone stays low [] b =
      elim (path-spot p o (alone-spot U lowers s passes.before p d (ap (node_at t) (sym b) ∙ at) o is alone).1) [
        | inl directory ↦ stays directory [] (ap At b)
        | inr lower ↦ low lower (ap At b)
      ]
  outside-old x d at alone stays low (k ∷ r) b =
      let parent = above t k r p d (ap (node_at t) (sym b) ∙ at) in
      elim (path-spot p o (alone-spot U lowers s passes.before p parent.0 parent.1 o is (folder-alone (t parent.0) parent.2)).1) [
        | inl directory ↦ stays directory (k ∷ r) (ap At b)
        | inr lower ↦
            (let under = lower-stands U lowers s passes.before p parent.0 parent.1 (subst (IsObject U lowers p) lower is) in
            absurd (false≢true (sym (untouched-file (t parent.0) under) ∙ parent.2)))
      ]

  module _ (old : Notified) (k : Tracks U s old) (n : ℕ) (was : Spot) (there : spot_of old.objects n ≡ Some was) where
    abbrev d : NodeId
    d = k.bearers n

    -- what is replaced, and has no other name, is nowhere
    lost-place : is_last_name e ≡ true → IsSpotOf q e was → IsAt V u Nowhere d
    lost-place last spot =
        let at = spot-node U lowers s passes.before old k q e was_there n was spot there in
        let names = (law_of_last_name U lowers s passes.before passes.one q e d (spot-something q e was spot) was_there at).one last in
        law_of_lost U V lowers s c (Rename p q) passes d (loses-replaced ∙ at) refl names.0 (hidden d names.1)

    -- all else is where it was
    rests-place :
        (o ≡ object.Directory → (r : Path) → was ≢ At (r ++ p)) → (o ≡ object.Lower → was ≢ At p) → HasOtherPath t q was d →
        IsAt U t was d → IsAt V u was d
    rests-place = by was
      where
        by :
            (was : Spot) → (o ≡ object.Directory → (r : Path) → was ≢ At (r ++ p)) → (o ≡ object.Lower → was ≢ At p) →
            HasOtherPath t q was d → IsAt U t was d → IsAt V u was d
        by (At x) stays low other here =
            let out = outside-old x d here.0 here.1 stays low in
            law_of_alone U V lowers s c (Rename p q) passes d x x here.0 here.1
            (λ under same. out [] ((law_of_one_path U lowers s passes.before).untouched x p d under here.0 (sym touches-moved ∙ same)))
            (leads.follows x x (Stays out (outside-new t u p q leads x other d here.0) refl) ∙ here.0)
        by (Upper key) stays low other here =
            let now = goes-on t u p q leads other.0 other.1 d other.2 in
            (passes.named d key now.0 here.0 now.1, now.0, now.1)
        by Nowhere stays low other here =
            law_of_nowhere U V lowers s c (Rename p q) passes d here (λ i. k.borne.given n i (ap is_some there))

    -- so each is at the spot that the move makes of its own
    pub moved-place :
        (key : ℕ) →
        ((n : ℕ) → o ≡ object.Lower → spot_of old.objects n ≡ Some (At p) → (last : Bool) × IsObject V lowers q (object.Upper key last)) →
        (spot : Spot) → Moves p q o e key was spot → IsAt V u spot d
    moved-place key lifted spot (moves.Goes r directory from to) =
        subst (λ x. IsAt V u x d) (sym to)
        (goes-place directory r d (subst (λ x. IsAt U t x d) from (k.borne.places n was there)))
    moved-place key lifted spot (moves.Rises lower from to) =
        let above = lifted n lower (there ∙ ap Some from) in
        subst (λ x. IsAt V u x d) (sym to)
        (rises-place key above.0 above.1 d (subst (λ x. IsAt U t x d) from (k.borne.places n was there)))
    moved-place key lifted spot (moves.Lost last from to) = subst (λ x. IsAt V u x d) (sym to) (lost-place last from)
    moved-place key lifted spot (moves.Rests stays low rests to) =
        let here = k.borne.places n was there in
        subst (λ x. IsAt V u x d) (sym to)
        (rests-place stays low (other-path U lowers s passes.before passes.one q e was_there was rests d here) here)
