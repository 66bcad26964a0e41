-- Live files stay so where rename moves an object, also one of their names, and where it takes one of them away.
use Rattle.std.proofs.Common.{◌≡◌, ◌↔◌, ℕ, ◌-◌, Bool, true, false, cond, ◌||◌, List, [], ◌∷◌, ◌++◌, Option, None, Some, sym, ap, ◌∙◌, inl, inr, is_some}
use Rattle.std.proofs.Math.Bool.{or-true}
use Rattle.std.proofs.lemmas.Bool.{cases_Bool}
use Rattle.ov_base.specs.declared.attributes.Attributes.{Attributes}
use Rattle.ov_base.specs.declared.bytes.Content.{Content}
use Rattle.ov_base.specs.declared.bytes.Content.TheVariants.{File}
use Rattle.ov_base.specs.declared.call.CallOf.TheVariants.{Rename}
use Rattle.ov_base.specs.declared.node_id.NodeId.{NodeId}
use Rattle.plain_model.specs.Layers.{Name, Path, Named, Whiteout, Layer, held, under}
use Rattle.plain_model.specs.Laws.{left_at}
use Rattle.plain_model.specs.Tree.{Node, Leaf, Own, Tree, node_at}
use Rattle.plain_model.specs.Machine.{MountOptions, State, look, same_found}
use Rattle.plain_model.specs.Changes.{way_of, lead_way, over_node, change, one_fewer, meta_touched, is_named, is_held, settled, renamed, tree_after}
use Rattle.mount_laws.specs.OpenFiles.{IsLive}
use Rattle.mount_laws.specs.Renaming.{Renames, MovesLink, LawOfLiveThroughRename, LawOfMovedLink, LawOfKeptMoveLink}
use Rattle.mount_laws.proofs.Looks.{found-at}
use Rattle.mount_laws.proofs.Moving.{name-follows, directory-follows}
use Rattle.mount_laws.proofs.Outlive.{way-leaf}
use Rattle.mount_laws.proofs.RenamedTree.{is-it, came-from, change-here, change-there, settled-here, settled-there}
use Rattle.mount_laws.proofs.Renaming.{same-node}

-- a file of the upper stays as it is where an object moves, but for the name that it loses
module _ (m : MountOptions) (t : Tree) (old new : Path) (e : NodeId) (content : Content) (a : Attributes) (b : Bool) (l : ℕ) where
  abbrev leaf : Option Node
  leaf = Some (Leaf content a (Own b) l)

  abbrev counted : Tree
  counted = change one_fewer t (node_at t new)

  touched-leaf : counted e ≡ leaf → change (meta_touched m) counted (node_at t old) e ≡ leaf
  touched-leaf is = elim (is-it (node_at t old) e) [
    | inl z ↦ change-here (meta_touched m) counted (node_at t old) e z ∙ ap (over_node (meta_touched m)) is
    | inr z ↦ change-there (meta_touched m) counted (node_at t old) e z ∙ is
  ]

  renamed-leaf : counted e ≡ leaf → renamed m t old new e ≡ leaf
  renamed-leaf is = way-leaf joined (way_of t old) None e content a (Own b) l led ∙ led
    where
      joined : Tree
      joined = lead_way (change (meta_touched m) counted (node_at t old)) (way_of t new) (node_at t old)

      led : joined e ≡ leaf
      led =
          way-leaf (change (meta_touched m) counted (node_at t old)) (way_of t new) (node_at t old) e content a (Own b) l (touched-leaf is)
          ∙ touched-leaf is

-- old moves to new
module _
    (U V : Layer) (lowers : List Layer) (s : State) (c : ℕ) (old new : Path) (f : Renames V lowers s c old new) (e : NodeId) (j : ℕ)
    (w : MovesLink U V old new j) (open_there : held U new ≡ Some (Named j) → is_held s.tables e ≡ true) (l : IsLive U s.tree e j) where
  abbrev u : Tree
  u = tree_after s c (Rename old new)

  names : (q : Path) → (node_at u q ≡ Some e) ↔ (held V q ≡ Some (Named j))
  names q = elim (came-from old new q) [
    | inl g ↦ (
      λ h. (w.names g.0 q g.1).1 ((l.paths g.0).0 (sym (f.follows g.0 q g.1) ∙ h)),
      λ h. f.follows g.0 q g.1 ∙ (l.paths g.0).1 ((w.names g.0 q g.1).0 h),
    )
    | inr b ↦ (
      λ h. (let z : None ≡ Some e = sym (f.gone b.0) ∙ ap (node_at u) (sym b.1) ∙ h in cc),
      λ h. absurd (w.gone b.0 (ap (held V) (sym b.1) ∙ h)),
    )
  ]

  abbrev after_move : Tree
  after_move = settled s.tables (renamed s.options s.tree old new) (node_at s.tree new)

  -- something moved, since the old path leads nowhere then
  moves : u ≡ after_move
  moves = elim (cases_Bool (same_found (look s.tree old) (look s.tree new))) [
    | inl y ↦
        let d = same-node (look s.tree old) (look s.tree new) y in
        let at : node_at s.tree old ≡ Some d.0 = sym (found-at s.tree old) ∙ d.1 in
        let z : None ≡ Some d.0 = sym (f.gone []) ∙ ap (λ b. node_at (cond b s.tree after_move) old) y ∙ at in
        cc
    | inr n ↦ ap (λ b. cond b s.tree after_move) n
  ]

  -- the new place was no name of it
  not-taken : (node_at s.tree new ≡ Some e → ⊥) → IsLive V u e j
  not-taken away = record {
    bytes = l.bytes;
    attributes = l.attributes;
    links = l.links;
    mark = l.mark;
    inode = w.loses.same (λ h. away ((l.paths new).1 h)) ∙ l.inode;
    node =
        ap (λ t. t e) moves
        ∙ settled-there s.tables (renamed s.options s.tree old new) (node_at s.tree new) e away
        ∙ renamed-leaf s.options s.tree old new e (File l.bytes) l.attributes (is_some l.mark) l.links
        (change-there one_fewer s.tree (node_at s.tree new) e away ∙ l.node);
    paths = names;
  }

  -- or it was one, and is no more
  was-taken : node_at s.tree new ≡ Some e → IsLive V u e j
  was-taken at = record {
    bytes = l.bytes;
    attributes = l.attributes;
    links = l.links - 1;
    mark = l.mark;
    inode = w.loses.fewer (record { content = File l.bytes; attributes = l.attributes; links = l.links; mark = l.mark }) ((l.paths new).0 at) l.inode;
    node =
        ap (λ t. t e) moves
        ∙ settled-here s.tables (renamed s.options s.tree old new) (node_at s.tree new) e at
        ∙ ap (λ b. cond (is_named (renamed s.options s.tree old new e) || b) (renamed s.options s.tree old new e) None)
        (open_there ((l.paths new).0 at))
        ∙ ap (λ b. cond b (renamed s.options s.tree old new e) None) (or-true (is_named (renamed s.options s.tree old new e)))
        ∙ renamed-leaf s.options s.tree old new e (File l.bytes) l.attributes (is_some l.mark) (l.links - 1)
        (change-here one_fewer s.tree (node_at s.tree new) e at ∙ ap (over_node one_fewer) l.node);
    paths = names;
  }

  through-rename : IsLive V u e j
  through-rename = elim (is-it (node_at s.tree new) e) [ inl at ↦ was-taken at | inr away ↦ not-taken away ]

-- where rename moves an object
pub law_of_live_through_rename : LawOfLiveThroughRename
law_of_live_through_rename = through-rename

-- what the upper leaves is no name of an inode
left-unnamed : (U : Layer) (lowers : List Layer) (p : Path) (j : ℕ) → left_at U lowers p ≡ Some (Named j) → ⊥
left-unnamed U lowers [] j h = cc
left-unnamed U lowers (n ∷ p) j h = by (is_some (under U lowers n p)) h
  where
    by : (b : Bool) → cond b (Some Whiteout) None ≡ Some (Named j) → ⊥
    by true h = cc
    by false h = cc

-- no inode is named where the upper leaves what it does, nor below, where that is empty
gone-unnamed :
    (U V : Layer) (lowers : List Layer) (p : Path) → held V p ≡ left_at U lowers p → ((k : Name) (r : Path) → held V (k ∷ r ++ p) ≡ None) →
    (j : ℕ) (r : Path) → held V (r ++ p) ≡ Some (Named j) → ⊥
gone-unnamed U V lowers p left emptied j [] h = left-unnamed U lowers p j (sym left ∙ h)
gone-unnamed U V lowers p left emptied j (k ∷ r) h = let z : None ≡ Some (Named j) = sym (emptied k r) ∙ h in cc

-- each inode's names move with what moves
pub law_of_moved_link : LawOfMovedLink
law_of_moved_link U V lowers layers old n q j = record {
  name = λ m loses. record {
    names = λ x y f. name-follows U V lowers layers old (n ∷ q) m x y j f;
    gone = gone-unnamed U V lowers old m.left m.emptied j;
    loses = loses;
  };
  directory = λ unnamed m. record {
    names = λ x y f. directory-follows U V lowers old n q m x y j f;
    gone = gone-unnamed U V lowers old m.moved.left m.moved.emptied j;
    loses = record { fewer = λ i h is. absurd (unnamed j h); same = λ away. ap (λ f. f j) m.inodes };
  };
}

-- and so where a copy of the upper moves it
pub law_of_kept_move_link : LawOfKeptMoveLink
law_of_kept_move_link U W V old new j names inode w = record {
  names = λ x y f. (λ h. (names x).0 ((w.names x y f).0 h), λ h. (w.names x y f).1 ((names x).1 h));
  gone = w.gone;
  loses = record {
    fewer = λ i h is. w.loses.fewer i ((names new).1 h) (inode ∙ is);
    same = λ away. w.loses.same (λ h. away ((names new).0 h)) ∙ inode;
  };
}
