-- What an open makes of nodes: one that it opens is a file where it was one, and one that it makes is a file of the upper.
use Rattle.std.proofs.Common.{◌≡◌, ◌∷◌, ℕ, Bool, true, false, cond, List, [], Option, None, Some, is_some, is_none, refl, sym, ap, subst, ◌∙◌, ◌⊎◌, inl, inr, arith}
use Rattle.std.specs.Prelude.{option_and_then}
use Rattle.std.proofs.lemmas.Bool.{false≢true}
use Rattle.mount_calls.proofs.Words.{cases_eq}
use Rattle.ov_base.specs.declared.bytes.Content.TheVariants.{File, SymbolicLink}
use Rattle.ov_base.specs.declared.call.CallOf.TheVariants.{Open}
use Rattle.ov_base.specs.declared.call.OpenFlags.{OpenFlags}
use Rattle.ov_base.specs.declared.node_id.NodeId.{NodeId}
use Rattle.ov_base.specs.declared.node_id.NodeId.TheVariants.{New}
use Rattle.plain_model.specs.Layers.{Layer, Name, Path, base, shows}
use Rattle.plain_model.specs.Tree.{Branch, Leaf, Node, Own, Tree, node_at, put}
use Rattle.plain_model.specs.Machine.{State}
use Rattle.plain_model.specs.Changes.{after, change, fresh, made_way, opened, opens, touched, tree_after, way_of, with_bytes}
use Rattle.plain_model.proofs.Flat.{some-same}
use Rattle.plain_model.proofs.Keeping.{put-here}
use Rattle.mount_laws.specs.Nodes.{IsMade, touched_by}
use Rattle.mount_laws.specs.Paths.{LeadsAlso, LeadsIfMade}
use Rattle.mount_laws.proofs.Gone.{law_of_made_node}
use Rattle.mount_laws.proofs.OpenFiles.{law_of_live_one, law_of_live_shown}
use Rattle.mount_laws.proofs.Sorts.{change-fact, way-fact}
use Rattle.object_table.specs.Objects.{IsVacant, Nowhere, SetsSpot, Objects, Upper, spot_of}
use Rattle.notice_laws.specs.declared.object.Object.TheVariants as object
use Rattle.notice_laws.specs.Notified.{Notified, Passes, Tracks}
use Rattle.notice_laws.specs.Objects.{IsObject}
use Rattle.notice_laws.proofs.Numbers.{looks-as}
use Rattle.notice_laws.proofs.Resuming.{also-leads, paths-after}
use Rattle.overlay_core.proofs.Lifted.{is_file, named-file, own-shown}

-- WHAT AN OPEN MAKES OF NODES: a node that it opens is a file where it was one
opened-node : (f : OpenFlags) (y : Node) → is_file (Some (opened f y)) ≡ is_file (Some y)
opened-node f y = by f.writes f.truncate y
  where
    by : (w z : Bool) (y : Node) → is_file (Some (cond w (cond z (with_bytes [] (touched y)) (touched y)) y)) ≡ is_file (Some y)
    by false z y = refl
    by true true (Branch a b names l) = refl
    by true true (Leaf (File bytes) a u l) = refl
    by true true (Leaf (SymbolicLink target) a u l) = refl
    by true false (Branch a b names l) = refl
    by true false (Leaf (File bytes) a u l) = refl
    by true false (Leaf (SymbolicLink target) a u l) = refl

-- an open of what stands there leaves files files
pub opened-file : (s : State) (c : ℕ) (p : Path) (f : OpenFlags) (mode : ℕ) → is_none (node_at s.tree p) ≡ false → (d : NodeId) →
    is_file (tree_after s c (Open p f mode) d) ≡ is_file (s.tree d)
opened-file s c p f mode there d =
    ap (λ b. is_file ((cond b (made_way s.tree s.serial (way_of s.tree p) (Leaf (File []) (fresh mode) (Own false) 1)) (change (opened f) s.tree (node_at s.tree p))) d)) there
    ∙ change-fact is_file (opened f) (opened-node f) s.tree (node_at s.tree p) d

-- one for writing touches it
pub opened-touches : (s : State) (p : Path) (f : OpenFlags) (mode : ℕ) → f.writes ≡ true → touched_by s (Open p f mode) ≡ node_at s.tree p
opened-touches s p f mode writes = ap (λ b. option_and_then (node_at s.tree) (cond b (Some p) None)) writes

-- and leaves where paths lead
pub opened-leads : (U V : Layer) (lowers : List Layer) (s : State) (c : ℕ) (p : Path) (f : OpenFlags) (mode : ℕ) →
    Passes U V lowers s c (Open p f mode) → (e : NodeId) → node_at s.tree p ≡ Some e →
    (d : NodeId) (q : Path) → node_at s.tree q ≡ Some d → node_at (after s c (Open p f mode)).tree q ≡ Some d
opened-leads U V lowers s c p f mode passes e there d q at =
    let leads : LeadsIfMade (Some e) s.tree (tree_after s c (Open p f mode)) p (New s.serial) =
    subst (λ x. LeadsIfMade x s.tree (tree_after s c (Open p f mode)) p (New s.serial)) there (paths-after U V lowers s c (Open p f mode) passes) in
    leads q ∙ at

-- what is made under the next number by a way is a file, if it is there
way-file : (t : Tree) (i : ℕ) (w : Option (NodeId × Name)) (x : Node) → t (New i) ≡ None → is_file (Some x) ≡ true →
    is_some (made_way t i w x (New i)) ≡ true → is_file (made_way t i w x (New i)) ≡ true
way-file t i None x unused file some = absurd (false≢true (sym (ap is_some unused) ∙ some))
way-file t i (Some w) x unused file some =
    way-fact is_file named-file (put t (New i) (Some x)) (Some w) (Some (New i)) (New i)
    ∙ ap is_file (put-here t (New i) (Some x) (New i) (some-same (New i) (New i) refl)) ∙ file

-- an open that makes its file
module _ (U V : Layer) (lowers : List Layer) (s : State) (c : ℕ) (p : Path) (f : OpenFlags) (mode : ℕ)
    (passes : Passes U V lowers s c (Open p f mode)) (absent : node_at s.tree p ≡ None) where
  -- the path leads to the new node afterwards, and every other where it led
  leads-made : LeadsAlso s.tree (tree_after s c (Open p f mode)) p (New s.serial)
  leads-made =
      subst (λ x. LeadsIfMade x s.tree (tree_after s c (Open p f mode)) p (New s.serial)) absent
      (paths-after U V lowers s c (Open p f mode) passes)

  -- the path leads to the new node
  pub new-here : node_at (tree_after s c (Open p f mode)) p ≡ Some (opens (node_at s.tree p) s.serial)
  new-here = leads-made.here ∙ ap (λ x. Some (opens x s.serial)) (sym absent)

  -- the tree after it
  tree-made : tree_after s c (Open p f mode) ≡ made_way s.tree s.serial (way_of s.tree p) (Leaf (File []) (fresh mode) (Own false) 1)
  tree-made =
      ap (λ o. cond (is_none o) (made_way s.tree s.serial (way_of s.tree p) (Leaf (File []) (fresh mode) (Own false) 1)) (change (opened f) s.tree o))
      absent

  -- the new node is there, and the upper's own
  new-node : IsMade (tree_after s c (Open p f mode) (New s.serial)) false
  new-node = law_of_made_node s c (Open p f mode) passes.allowed (ap is_none absent)

  -- and a file
  new-file : is_file (tree_after s c (Open p f mode) (New s.serial)) ≡ true
  new-file =
      let here = ap (λ (t : Tree). t (New s.serial)) tree-made in
      ap is_file here
      ∙ way-file s.tree s.serial (way_of s.tree p) (Leaf (File []) (fresh mode) (Own false) 1) (passes.before.kept.unused s.serial (omega arith)) refl
      (ap is_some (sym here) ∙ new-node.there)

  -- so it is shown as a file of the upper
  new-shown : (key : ℕ) × (last : Bool) × IsObject V lowers p (object.Upper key last)
  new-shown =
      own-shown V lowers p (base V lowers p) ((after s c (Open p f mode)).tree (New s.serial)) (shows 0 (V ∷ lowers) p) refl new-file
      new-node.own (looks-as V lowers (after s c (Open p f mode)) passes.now p (New s.serial) leads-made.here)

  -- by the key that is found
  pub new-key : (key : ℕ) → ((j : ℕ) (last : Bool) → IsObject V lowers p (object.Upper j last) → key ≡ j) →
      (last : Bool) × IsObject V lowers p (object.Upper key last)
  new-key key found =
      let shown = new-shown in
      (shown.1, subst (λ x. IsObject V lowers p (object.Upper x shown.1)) (sym (found shown.0 shown.1 shown.2)) shown.2)

  -- under which nothing was tracked
  pub new-vacant : (k : Notified) → Tracks U s k → (key : ℕ) (last : Bool) → IsObject V lowers p (object.Upper key last) →
      IsVacant k.objects (Upper key)
  new-vacant k t key last is n up =
      let place = t.borne.places n (Upper key) up in
      let e = t.bearers n in
      let now = also-leads s.tree (tree_after s c (Open p f mode)) p (New s.serial) leads-made e place.1 place.2 in
      let live = passes.named e key place.1 place.0 now in
      let mine = law_of_live_shown V lowers (after s c (Open p f mode)) passes.now p key is.inode is.bytes (New s.serial) is.shown is.file leads-made.here in
      let same : New s.serial ≡ e = (law_of_live_one V (tree_after s c (Open p f mode)) p (New s.serial) e key key leads-made.here mine live).1 refl in
      let before = t.borne.given n s.serial (ap is_some up) (sym same) in
      absurd (omega arith)

-- nor is it where the number of the new file is held
pub held-vacant : (mid new : Objects) (n key : ℕ) → SetsSpot mid new n (Some Nowhere) 1 → IsVacant mid (Upper key) → IsVacant new (Upper key)
held-vacant mid new n key sets vacant m at = by (cases_eq m n)
  where
    by : (m ≡ n) ⊎ (m ≡ n → ⊥) → ⊥
    by (inl e) = let no : Some Nowhere ≡ Some (Upper key) = sym sets.here ∙ ap (spot_of new) (sym e) ∙ at in cc
    by (inr apart) = vacant m (sym (sets.other_spots m apart) ∙ at)
