-- A change of one node that leaves its names, and counts that are out of step at one node.
use Rattle.std.proofs.Common.{◌≡◌, ℕ, zero, ◌+◌, ◌-◌, ◌≤◌, true, cond, Option, None, Some, refl, sym, ap, subst, ◌∙◌, arith, inl, inr, is_some}
use Rattle.std.proofs.lemmas.Bool.{cases_Bool, false≢true}
use Rattle.ov_base.specs.declared.node_id.NodeId.{NodeId}
use Rattle.ov_base.specs.declared.node_id.NodeId.TheVariants.{New}
use Rattle.plain_model.specs.Layers.{Name}
use Rattle.plain_model.specs.Tree.{same_id, Node, Branch, Leaf, Own, Untouched, Tree, root, names_of, is_folder, count_of, is_untouched, IsKept}
use Rattle.plain_model.specs.Machine.{MountOptions}
use Rattle.plain_model.specs.Changes.{over_node, change, one_fewer, one_more}
use Rattle.plain_model.proofs.Paths.{ids_tell}
use Rattle.plain_model.proofs.Names.{names-same}
use Rattle.plain_model.proofs.Keeping.{Like, not-some, put-here, put-there, IsKeptAs}

-- counts with one less at a node, and with one more
abbrev pub lost : Option NodeId → (NodeId → ℕ) → NodeId → ℕ
lost None count x = count x
lost (Some e) count x = cond (same_id e x) (count x - 1) (count x)

abbrev pub gained : NodeId → (NodeId → ℕ) → NodeId → ℕ
gained e count x = cond (same_id e x) (count x + 1) (count x)

-- the counts that the nodes of a tree tell
abbrev pub counts : Tree → NodeId → ℕ
counts t x = count_of (t x)

pub as-told : (t : Tree) (i : ℕ) → IsKept t i → IsKeptAs (counts t) t i
as-told t i k = record { home = k.home; unused = k.unused; counted = k.counted; bare = k.bare; single = k.single }

pub like-kept_as : (count : NodeId → ℕ) (t u : Tree) (i : ℕ) → ((x : NodeId) → Like (t x) (u x)) → IsKeptAs count t i → IsKeptAs count u i
like-kept_as count t u i like k = record {
  home = (like root).folders ∙ k.home;
  unused = λ j h. not-some (u (New j)) ((like (New j)).stands ∙ ap is_some (k.unused j h));
  counted = λ d. names-same t u d (count d) (λ w. (like w.0).names w.1) (k.counted d);
  bare = λ d n h. (like d).names n ∙ k.bare d n (sym (like d).counts ∙ h);
  single = λ d h. subst (λ n. n ≤ 1) (sym (like d).counts) (k.single d ((like d).untouched h));
}

-- a change of a node that leaves its names, and whether it is a directory, and gives an untouched one no name more
pub record IsFlat (f : Node → Node) : Type 0 where
  pub names : (x : Node) (n : Name) → names_of (Some (f x)) n ≡ names_of (Some x) n
  pub folders : (x : Node) → is_folder (Some (f x)) ≡ is_folder (Some x)
  pub single : (x : Node) → is_untouched (Some (f x)) ≡ true → (is_untouched (Some x) ≡ true) × (count_of (Some (f x)) ≤ count_of (Some x))

pub fewer-flat : IsFlat one_fewer
fewer-flat = record { names = alike; folders = folders; single = single }
  where
    alike : (x : Node) (n : Name) → names_of (Some (one_fewer x)) n ≡ names_of (Some x) n
    alike (Branch a b names c) n = refl
    alike (Leaf content a u c) n = refl

    folders : (x : Node) → is_folder (Some (one_fewer x)) ≡ is_folder (Some x)
    folders (Branch a b names c) = refl
    folders (Leaf content a u c) = refl

    less : (c : ℕ) → c - 1 ≤ c
    less c = omega arith

    single : (x : Node) → is_untouched (Some (one_fewer x)) ≡ true → (is_untouched (Some x) ≡ true) × (count_of (Some (one_fewer x)) ≤ count_of (Some x))
    single (Branch a b names c) h = absurd (false≢true h)
    single (Leaf content a (Own z) c) h = absurd (false≢true h)
    single (Leaf content a (Untouched k) c) h = (refl, less c)

pub more-flat : (m : MountOptions) → IsFlat (one_more m)
more-flat m = record { names = alike; folders = folders; single = single }
  where
    alike : (x : Node) (n : Name) → names_of (Some (one_more m x)) n ≡ names_of (Some x) n
    alike (Branch a b names c) n = refl
    alike (Leaf content a u c) n = refl

    folders : (x : Node) → is_folder (Some (one_more m x)) ≡ is_folder (Some x)
    folders (Branch a b names c) = refl
    folders (Leaf content a u c) = refl

    single : (x : Node) → is_untouched (Some (one_more m x)) ≡ true → (is_untouched (Some x) ≡ true) × (count_of (Some (one_more m x)) ≤ count_of (Some x))
    single (Branch a b names c) h = absurd (false≢true h)
    single (Leaf content a u c) h = absurd (false≢true h)

module _ (f : Node → Node) (flat : IsFlat f) (t : Tree) (e : NodeId) where
  abbrev u : Tree
  u = change f t (Some e)

  over-names : (o : Option Node) (n : Name) → names_of (over_node f o) n ≡ names_of o n
  over-names None n = refl
  over-names (Some x) n = flat.names x n

  over-folders : (o : Option Node) → is_folder (over_node f o) ≡ is_folder o
  over-folders None = refl
  over-folders (Some x) = flat.folders x

  over-stands : (o : Option Node) → is_some (over_node f o) ≡ is_some o
  over-stands None = refl
  over-stands (Some x) = refl

  at-put : {B : Type 0} (g : Option Node → B) → g (over_node f (t e)) ≡ g (t e) → (x : NodeId) → g (u x) ≡ g (t x)
  at-put g h x = elim (cases_Bool (same_id e x)) [
    | inl y ↦ ap g (put-here t e (over_node f (t e)) x y) ∙ h ∙ ap (λ z. g (t z)) ((ids_tell e x).0 y)
    | inr n ↦ ap g (put-there t e (over_node f (t e)) x n)
  ]

  pub flat-names : (x : NodeId) (n : Name) → names_of (u x) n ≡ names_of (t x) n
  flat-names x n = at-put (λ o. names_of o n) (over-names (t e) n) x

  pub flat-folders : (x : NodeId) → is_folder (u x) ≡ is_folder (t x)
  flat-folders = at-put is_folder (over-folders (t e))

  -- the counts are out of step at the node alone, where it has no names in it if it is to have none
  pub flat-kept : (i : ℕ) → (count_of (u e) ≡ 0 → (n : Name) → names_of (t e) n ≡ None) → IsKept t i → IsKeptAs (counts t) u i
  flat-kept i empty k = record {
    home = flat-folders root ∙ k.home;
    unused = λ j h. not-some (u (New j)) (at-put is_some (over-stands (t e)) (New j) ∙ ap is_some (k.unused j h));
    counted = λ d. names-same t u d (count_of (t d)) (λ w. flat-names w.0 w.1) (k.counted d);
    bare = bare;
    single = λ x h. elim (cases_Bool (same_id e x)) [
      | inl y ↦
          let s = (ids_tell e x).0 y in
          let is = put-here t e (over_node f (t e)) x y in
          subst (λ o. count_of o ≤ 1) (sym is) (least (t e) (λ g. k.single e g) (sym (ap is_untouched is) ∙ h))
      | inr n ↦ subst (λ o. count_of o ≤ 1) (sym (put-there t e (over_node f (t e)) x n)) (k.single x (ap is_untouched (sym (put-there t e (over_node f (t e)) x n)) ∙ h))
    ];
  }
    where
      below : (a b : ℕ) → a ≤ b → b ≤ 1 → a ≤ 1
      below a b h g = omega arith

      least : (o : Option Node) → (is_untouched o ≡ true → count_of o ≤ 1) → is_untouched (over_node f o) ≡ true → count_of (over_node f o) ≤ 1
      least None h g = absurd (false≢true g)
      least (Some x) h g = let z = flat.single x g in below (count_of (Some (f x))) (count_of (Some x)) z.1 (h z.0)

      bare : (x : NodeId) (n : Name) → count_of (u x) ≡ zero → names_of (u x) n ≡ None
      bare x n h = elim (cases_Bool (same_id e x)) [
        | inl y ↦ let s = (ids_tell e x).0 y in flat-names x n ∙ ap (λ z. names_of (t z) n) (sym s) ∙ empty (ap (λ z. count_of (u z)) s ∙ h) n
        | inr f ↦ flat-names x n ∙ k.bare x n (ap count_of (sym (put-there t e (over_node _ (t e)) x f)) ∙ h)
      ]

fewer-count : (o : Option Node) → count_of (over_node one_fewer o) ≡ count_of o - 1
fewer-count None = refl
fewer-count (Some (Branch a b names c)) = refl
fewer-count (Some (Leaf content a u c)) = refl

pub fewer-counts : (t : Tree) (o : Option NodeId) (x : NodeId) → count_of (change one_fewer t o x) ≡ lost o (counts t) x
fewer-counts t None x = refl
fewer-counts t (Some e) x = elim (cases_Bool (same_id e x)) [
  | inl y ↦ ap count_of (put-here t e (over_node one_fewer (t e)) x y) ∙ fewer-count (t e) ∙ ap (λ z. count_of (t z) - 1) ((ids_tell e x).0 y) ∙ sym (ap (λ b. cond b (count_of (t x) - 1) (count_of (t x))) y)
  | inr f ↦ ap count_of (put-there t e (over_node one_fewer (t e)) x f) ∙ sym (ap (λ b. cond b (count_of (t x) - 1) (count_of (t x))) f)
]

-- one identity is the same
pub some-same : (x y : NodeId) → Some x ≡ Some y → same_id x y ≡ true
some-same x y h = (ids_tell x y).1 (let s : x ≡ y = cc in s)
