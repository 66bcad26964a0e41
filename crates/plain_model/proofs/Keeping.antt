-- Each change of a tree keeps what trees keep.
use Rattle.std.proofs.Common.{◌≡◌, ℕ, zero, ◌≤◌, Bool, true, false, cond, ◌||◌, List, Option, None, Some, refl, sym, ap, subst, ◌∙◌, arith, inl, inr, is_some}
use Rattle.std.proofs.lemmas.Bool.{cases_Bool, false≢true}
use Rattle.std.proofs.lemmas.Bool.Decides.{nat_tests}
use Rattle.ov_base.specs.declared.node_id.NodeId.{NodeId}
use Rattle.ov_base.specs.declared.node_id.NodeId.TheVariants.{New}
use Rattle.plain_model.specs.Layers.{Name}
use Rattle.plain_model.specs.Tree.{same_id, Node, Branch, Leaf, Tree, root, names_of, with_name, put, lead, is_folder, count_of, is_untouched, same_entry, AreNames, IsKept}
use Rattle.plain_model.specs.Machine.{Table}
use Rattle.plain_model.specs.Changes.{over_node, change, is_named, is_held, settled}
use Rattle.plain_model.proofs.Paths.{ids_tell}
use Rattle.plain_model.proofs.Names.{entries_tell, names-same, names-some, root-some, lead-entry}

-- two nodes with the same names and as many names, both directories or both not, both there or both not, and the second untouched only
-- where the first is
pub record Like (o p : Option Node) : Type 0 where
  pub names : (n : Name) → names_of p n ≡ names_of o n
  pub counts : count_of p ≡ count_of o
  pub folders : is_folder p ≡ is_folder o
  pub stands : is_some p ≡ is_some o
  pub untouched : is_untouched p ≡ true → is_untouched o ≡ true

pub like-refl : (o : Option Node) → Like o o
like-refl o = record { names = λ n. refl; counts = refl; folders = refl; stands = refl; untouched = λ h. h }

pub not-some : (o : Option Node) → is_some o ≡ false → o ≡ None
not-some None h = refl
not-some (Some x) h = absurd (false≢true (sym h))

-- a tree of like nodes keeps
pub like-kept : (t u : Tree) (i : ℕ) → ((x : NodeId) → Like (t x) (u x)) → IsKept t i → IsKept u i
like-kept t u i like k = record {
  home = (like root).folders ∙ k.home;
  unused = λ j h. not-some (u (New j)) ((like (New j)).stands ∙ ap is_some (k.unused j h));
  counted = λ d. subst (AreNames u d) (sym (like d).counts) (names-same t u d (count_of (t d)) (λ w. (like w.0).names w.1) (k.counted d));
  bare = λ d n h. (like d).names n ∙ k.bare d n (sym (like d).counts ∙ h);
  single = λ d h. subst (λ n. n ≤ 1) (sym (like d).counts) (k.single d ((like d).untouched h));
}

-- a node put at an identity, and the others
pub put-here : (t : Tree) (d : NodeId) (o : Option Node) (x : NodeId) → same_id d x ≡ true → put t d o x ≡ o
put-here t d o x h = ap (λ b. cond b o (t x)) h

pub put-there : (t : Tree) (d : NodeId) (o : Option Node) (x : NodeId) → same_id d x ≡ false → put t d o x ≡ t x
put-there t d o x h = ap (λ b. cond b o (t x)) h

-- a like node put at its identity makes a tree of like nodes
pub put-like : (t : Tree) (d : NodeId) (o : Option Node) → Like (t d) o → (x : NodeId) → Like (t x) (put t d o x)
put-like t d o l x = elim (cases_Bool (same_id d x)) [
  | inl y ↦ subst (Like (t x)) (sym (put-here t d o x y)) (subst (λ z. Like (t z) o) ((ids_tell d x).0 y) l)
  | inr f ↦ subst (Like (t x)) (sym (put-there t d o x f)) (like-refl (t x))
]

-- a change of a node that is like it
abbrev pub IsMild : (Node → Node) → Type 0
IsMild f = (x : Node) → Like (Some x) (Some (f x))

over-like : (f : Node → Node) → IsMild f → (o : Option Node) → Like o (over_node f o)
over-like f mild None = like-refl None
over-like f mild (Some x) = mild x

pub change-like : (f : Node → Node) → IsMild f → (t : Tree) (d : Option NodeId) → (x : NodeId) → Like (t x) (change f t d x)
change-like f mild t None x = like-refl (t x)
change-like f mild t (Some d) x = put-like t d (over_node f (t d)) (over-like f mild (t d)) x

pub change-kept : (f : Node → Node) → IsMild f → (t : Tree) (i : ℕ) (d : Option NodeId) → IsKept t i → IsKept (change f t d) i
change-kept f mild t i d = like-kept t (change f t d) i (change-like f mild t d)

-- a node without a name has none, by its count
pub unnamed : (o : Option Node) → is_named o ≡ false → count_of o ≡ 0
unnamed None h = refl
unnamed (Some (Branch a b names c)) h = grind (arith, nat_tests)
unnamed (Some (Leaf content a u c)) h = grind (arith, nat_tests)

-- a node that has no name goes
pub removed-kept : (t : Tree) (i : ℕ) (d : NodeId) → count_of (t d) ≡ 0 → IsKept t i → IsKept (put t d None) i
removed-kept t i d h k = record {
  home = elim (cases_Bool (same_id d root)) [
    | inl y ↦ absurd (root-some t (count_of (t root)) (k.counted root) (ap (λ z. count_of (t z)) (sym ((ids_tell d root).0 y)) ∙ h))
    | inr f ↦ ap is_folder (put-there t d None root f) ∙ k.home
  ];
  unused = λ j g. elim (cases_Bool (same_id d (New j))) [
    | inl y ↦ put-here t d None (New j) y
    | inr f ↦ put-there t d None (New j) f ∙ k.unused j g
  ];
  counted = λ x. elim (cases_Bool (same_id d x)) [
    | inl y ↦
        let e : count_of (put t d None x) ≡ count_of (t x) = ap count_of (put-here t d None x y) ∙ sym h ∙ ap (λ z. count_of (t z)) ((ids_tell d x).0 y) in
        subst (AreNames (put t d None) x) (sym e) (same x)
    | inr f ↦ subst (AreNames (put t d None) x) (sym (ap count_of (put-there t d None x f))) (same x)
  ];
  bare = λ x n g. elim (cases_Bool (same_id d x)) [
    | inl y ↦ ap (λ o. names_of o n) (put-here t d None x y)
    | inr f ↦ ap (λ o. names_of o n) (put-there t d None x f) ∙ k.bare x n (ap count_of (sym (put-there t d None x f)) ∙ g)
  ];
  single = λ x g. elim (cases_Bool (same_id d x)) [
    | inl y ↦ absurd (false≢true (sym (ap is_untouched (put-here t d None x y)) ∙ g))
    | inr f ↦ subst (λ o. count_of o ≤ 1) (sym (put-there t d None x f)) (k.single x (ap is_untouched (sym (put-there t d None x f)) ∙ g))
  ];
}
  where
    entries : (x : NodeId) (n : Name) → names_of (put t d None x) n ≡ names_of (t x) n
    entries x n = elim (cases_Bool (same_id d x)) [
      | inl y ↦ ap (λ o. names_of o n) (put-here t d None x y) ∙ sym (k.bare d n h) ∙ ap (λ z. names_of (t z) n) ((ids_tell d x).0 y)
      | inr f ↦ ap (λ o. names_of o n) (put-there t d None x f)
    ]

    same : (x : NodeId) → AreNames (put t d None) x (count_of (t x))
    same x = names-same t (put t d None) x (count_of (t x)) (λ w. entries w.0 w.1) (k.counted x)

pub settled-kept : (ks : List Table) (t : Tree) (i : ℕ) (d : Option NodeId) → IsKept t i → IsKept (settled ks t d) i
settled-kept ks t i None k = k
settled-kept ks t i (Some d) k = elim (cases_Bool (is_named (t d) || is_held ks d)) [
  | inl y ↦ subst (λ b. IsKept (put t d (cond b (t d) None)) i) (sym y) (like-kept t (put t d (t d)) i (put-like t d (t d) (like-refl (t d))) k)
  | inr f ↦ subst (λ b. IsKept (put t d (cond b (t d) None)) i) (sym f) (removed-kept t i d (unnamed (t d) (first (is_named (t d)) f)) k)
]
  where
    first : (a : Bool) → a || is_held ks d ≡ false → a ≡ false
    first true h = h
    first false h = refl

-- the node at an identity after an entry was led elsewhere: like it, but for its names
with-counts : (n : Name) (e : Option NodeId) (o : Option Node) → count_of (with_name n e o) ≡ count_of o
with-counts n e None = refl
with-counts n e (Some (Branch a b names c)) = refl
with-counts n e (Some (Leaf content a u c)) = refl

pub with-folders : (n : Name) (e : Option NodeId) (o : Option Node) → is_folder (with_name n e o) ≡ is_folder o
with-folders n e None = refl
with-folders n e (Some (Branch a b names c)) = refl
with-folders n e (Some (Leaf content a u c)) = refl

with-stands : (n : Name) (e : Option NodeId) (o : Option Node) → is_some (with_name n e o) ≡ is_some o
with-stands n e None = refl
with-stands n e (Some (Branch a b names c)) = refl
with-stands n e (Some (Leaf content a u c)) = refl

pub with-untouched : (n : Name) (e : Option NodeId) (o : Option Node) → is_untouched (with_name n e o) ≡ is_untouched o
with-untouched n e None = refl
with-untouched n e (Some (Branch a b names c)) = refl
with-untouched n e (Some (Leaf content a u c)) = refl

-- a fact of the node put at an identity that holds of the one before holds at each
pub put-fact : {B : Type 0} (g : Option Node → B) (t : Tree) (d : NodeId) (o : Option Node) → g o ≡ g (t d) → (x : NodeId) → g (put t d o x) ≡ g (t x)
put-fact g t d o h x = elim (cases_Bool (same_id d x)) [
  | inl y ↦ ap g (put-here t d o x y) ∙ h ∙ ap (λ z. g (t z)) ((ids_tell d x).0 y)
  | inr f ↦ ap g (put-there t d o x f)
]

pub lead-counts : (t : Tree) (d : NodeId) (n : Name) (e : Option NodeId) (x : NodeId) → count_of (lead t d n e x) ≡ count_of (t x)
lead-counts t d n e = put-fact count_of t d (with_name n e (t d)) (with-counts n e (t d))

pub lead-folders : (t : Tree) (d : NodeId) (n : Name) (e : Option NodeId) (x : NodeId) → is_folder (lead t d n e x) ≡ is_folder (t x)
lead-folders t d n e = put-fact is_folder t d (with_name n e (t d)) (with-folders n e (t d))

pub lead-stands : (t : Tree) (d : NodeId) (n : Name) (e : Option NodeId) (x : NodeId) → is_some (lead t d n e x) ≡ is_some (t x)
lead-stands t d n e = put-fact is_some t d (with_name n e (t d)) (with-stands n e (t d))

lead-untouched : (t : Tree) (d : NodeId) (n : Name) (e : Option NodeId) (x : NodeId) → is_untouched (lead t d n e x) ≡ is_untouched (t x)
lead-untouched t d n e = put-fact is_untouched t d (with_name n e (t d)) (with-untouched n e (t d))

-- What a tree keeps while counts and names are out of step: count is how many names each node is to have.
pub record IsKeptAs (count : NodeId → ℕ) (t : Tree) (i : ℕ) : Type 0 where
  pub home : is_folder (t root) ≡ true
  pub unused : (j : ℕ) → i ≤ j → t (New j) ≡ None
  pub counted : (d : NodeId) → AreNames t d (count d)
  pub bare : (d : NodeId) (n : Name) → count_of (t d) ≡ zero → names_of (t d) n ≡ None
  pub single : (d : NodeId) → is_untouched (t d) ≡ true → count_of (t d) ≤ 1

pub kept-as : (count : NodeId → ℕ) (t : Tree) (i : ℕ) → IsKeptAs count t i → ((d : NodeId) → count_of (t d) ≡ count d) → IsKept t i
kept-as count t i k h = record { home = k.home; unused = k.unused; counted = λ d. subst (AreNames t d) (sym (h d)) (k.counted d); bare = k.bare; single = k.single }

-- an entry of a named directory is led elsewhere
pub lead-kept : (before after : NodeId → ℕ) (t : Tree) (i : ℕ) (d : NodeId) (n : Name) (e : Option NodeId) → is_folder (t d) ≡ true → (is_some e ≡ true → count_of (t d) ≡ 0 → ⊥) → IsKeptAs before t i → ((x : NodeId) → AreNames t x (before x) → AreNames (lead t d n e) x (after x)) → IsKeptAs after (lead t d n e) i
lead-kept before after t i d n e dir live k step = record {
  home = lead-folders t d n e root ∙ k.home;
  unused = λ j h. not-some (lead t d n e (New j)) (lead-stands t d n e (New j) ∙ ap is_some (k.unused j h));
  counted = λ x. step x (k.counted x);
  bare = bare;
  single = λ x h. subst (λ c. c ≤ 1) (sym (lead-counts t d n e x)) (k.single x (sym (lead-untouched t d n e x) ∙ h));
}
  where
    absent : (e : Option NodeId) → (is_some e ≡ true → ⊥) → e ≡ None
    absent None h = refl
    absent (Some x) h = absurd (h refl)

    bare : (x : NodeId) (m : Name) → count_of (lead t d n e x) ≡ zero → names_of (lead t d n e x) m ≡ None
    bare x m h = elim (cases_Bool (same_entry (d, n) (x, m))) [
      | inl y ↦ lead-entry t d n e dir (x, m) ∙ ap (λ b. cond b e (names_of (t x) m)) y ∙ absent e (λ s. live s (let z : d ≡ x = ap (λ w. w.0) ((entries_tell (d, n) (x, m)).0 y) in ap (λ w. count_of (t w)) z ∙ sym (lead-counts t d n e x) ∙ h))
      | inr f ↦ lead-entry t d n e dir (x, m) ∙ ap (λ b. cond b e (names_of (t x) m)) f ∙ k.bare x m (sym (lead-counts t d n e x) ∙ h)
    ]

-- each name leads to a node
pub kept-closed : (t : Tree) (i : ℕ) → IsKept t i → (d : NodeId) (n : Name) (e : NodeId) → names_of (t d) n ≡ Some e → is_some (t e) ≡ true
kept-closed t i k d n e h = by (t e) refl
  where
    by : (o : Option Node) → t e ≡ o → is_some o ≡ true
    by (Some x) g = refl
    by None g = absurd (names-some t d n e (count_of (t e)) h (k.counted e) (ap count_of g))
