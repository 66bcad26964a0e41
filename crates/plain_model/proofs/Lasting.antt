-- A node is there exactly while it has a name or an open handle, after each change of the tree.
use Rattle.std.proofs.Common.{◌≡◌, ℕ, ◌-◌, Bool, true, false, cond, ◌||◌, List, Option, None, Some, refl, sym, ap, subst, ◌∙◌, arith, inl, inr, is_some, nat_lt}
use Rattle.std.proofs.lemmas.Bool.{cases_Bool, false≢true, lt-ltb}
use Rattle.std.proofs.lemmas.Bool.Decides.{nat_tests}
use Rattle.ov_base.specs.declared.node_id.NodeId.{NodeId}
use Rattle.ov_base.specs.declared.node_id.NodeId.TheVariants.{New}
use Rattle.plain_model.specs.Layers.{Name}
use Rattle.plain_model.specs.Tree.{same_id, Node, Branch, Leaf, Tree, put, count_of}
use Rattle.plain_model.specs.Machine.{Table, MountOptions}
use Rattle.plain_model.specs.Changes.{over_node, change, lead_way, meta_touched, one_fewer, one_more, made_way, is_named, is_held, settled}
use Rattle.plain_model.proofs.Paths.{ids_tell}
use Rattle.plain_model.proofs.Keeping.{like-refl, IsMild, change-like, put-here, put-there, lead-counts, lead-stands}
use Rattle.plain_model.proofs.Flat.{lost, counts, fewer-counts}

-- a node, and whether a handle is open on it: it is there exactly where it has a name or such a handle
pub record Lasts (o : Option Node) (held : Bool) : Type 0 where
  pub named : is_some o ≡ true → is_named o || held ≡ true
  pub there : held ≡ true → is_some o ≡ true

-- so for every node
abbrev pub AllLast : Tree → List Table → Type 0
AllLast t ks = (d : NodeId) → Lasts (t d) (is_held ks d)

-- a node has a name by its count
pub named-count : (o : Option Node) → is_named o ≡ nat_lt 0 (count_of o)
named-count None = refl
named-count (Some (Branch a b names c)) = refl
named-count (Some (Leaf content a u c)) = refl

-- a node with a name is there
pub named-some : (o : Option Node) → is_named o ≡ true → is_some o ≡ true
named-some None h = h
named-some (Some x) h = refl

-- a node that has one by its count has a name
pub some-named : (o : Option Node) → (count_of o ≡ 0 → ⊥) → is_named o ≡ true
some-named o h = named-count o ∙ positive (count_of o) h
  where
    positive : (c : ℕ) → (c ≡ 0 → ⊥) → nat_lt 0 c ≡ true
    positive c h = lt-ltb 0 c (omega arith)

-- a test of two, of which one passes
or-first : (a b : Bool) → a ≡ true → a || b ≡ true
or-first a b h = ap (λ z. z || b) h

or-second : (a b : Bool) → b ≡ true → a || b ≡ true
or-second true b h = refl
or-second false b h = h

-- a node with a name lasts, whatever handles there are
pub named-lasts : (o : Option Node) (held : Bool) → is_named o ≡ true → Lasts o held
named-lasts o held h = record { named = λ s. or-first (is_named o) held h; there = λ s. named-some o h }

-- a node that keeps its names, or gets one
pub record IsAsNamed (o p : Option Node) : Type 0 where
  pub stands : is_some p ≡ is_some o
  pub named : is_named o ≡ true → is_named p ≡ true

-- such a node lasts on
pub as-named-lasts : (o p : Option Node) (b c : Bool) → IsAsNamed o p → c ≡ b → Lasts o b → Lasts p c
as-named-lasts o p b c a e l = record {
  named = λ s. by (is_named o) refl (l.named (sym a.stands ∙ s));
  there = λ h. a.stands ∙ l.there (sym e ∙ h);
}
  where
    by : (n : Bool) → is_named o ≡ n → n || b ≡ true → is_named p || c ≡ true
    by true n h = or-first (is_named p) c (a.named n)
    by false n h = or-second (is_named p) c (e ∙ h)

-- as many names are names as before
pub by-counts : (o p : Option Node) → is_some p ≡ is_some o → count_of p ≡ count_of o → IsAsNamed o p
by-counts o p s c = record { stands = s; named = λ h. named-count p ∙ ap (nat_lt 0) c ∙ sym (named-count o) ∙ h }

-- a node goes where it has neither
pub settled-lasts : (o : Option Node) (held : Bool) → (held ≡ true → is_some o ≡ true) → Lasts (cond (is_named o || held) o None) held
settled-lasts o held there = record { named = by (is_named o || held) refl; there = λ h. ap (λ b. is_some (cond b o None)) (or-second (is_named o) held h) ∙ there h }
  where
    by : (b : Bool) → is_named o || held ≡ b → is_some (cond b o None) ≡ true → is_named (cond b o None) || held ≡ true
    by true e s = e
    by false e s = absurd (false≢true s)

-- so the tree is settled at a node where it may have neither
pub settled-last : (ks : List Table) (t : Tree) (o : Option NodeId) → ((d : NodeId) → is_held ks d ≡ true → is_some (t d) ≡ true) → ((d : NodeId) → (o ≡ Some d → ⊥) → Lasts (t d) (is_held ks d)) → AllLast (settled ks t o) ks
settled-last ks t None there other d = other d (λ h. cc)
settled-last ks t (Some e) there other d = elim (cases_Bool (same_id e d)) [
  | inl y ↦
      let s : e ≡ d = (ids_tell e d).0 y in
      subst (λ x. Lasts x (is_held ks d)) (sym (put-here t e (cond (is_named (t e) || is_held ks e) (t e) None) d y))
      (subst (λ x. Lasts (cond (is_named (t x) || is_held ks x) (t x) None) (is_held ks d)) (sym s) (settled-lasts (t d) (is_held ks d) (there d)))
  | inr f ↦
      subst (λ x. Lasts x (is_held ks d)) (sym (put-there t e (cond (is_named (t e) || is_held ks e) (t e) None) d f))
      (other d (λ h. let s : e ≡ d = cc in absurd (false≢true (sym f ∙ (ids_tell e d).1 s))))
]

-- a mild change of a node
pub mild-lasts : (f : Node → Node) → IsMild f → (ks hs : List Table) → ((x : NodeId) → is_held hs x ≡ is_held ks x) → (t : Tree) (o : Option NodeId) → AllLast t ks → AllLast (change f t o) hs
mild-lasts f mild ks hs same t o l d =
    let a = change-like f mild t o d in
    as-named-lasts (t d) (change f t o d) (is_held ks d) (is_held hs d) (by-counts (t d) (change f t o d) a.stands a.counts) (same d) (l d)

-- a name that is led elsewhere leaves counts, and what is there
pub way-counts : (t : Tree) (w : Option (NodeId × Name)) (e : Option NodeId) (x : NodeId) → count_of (lead_way t w e x) ≡ count_of (t x)
way-counts t None e x = refl
way-counts t (Some w) e x = lead-counts t w.0 w.1 e x

pub way-stands : (t : Tree) (w : Option (NodeId × Name)) (e : Option NodeId) (x : NodeId) → is_some (lead_way t w e x) ≡ is_some (t x)
way-stands t None e x = refl
way-stands t (Some w) e x = lead-stands t w.0 w.1 e x

-- a change of a node leaves it there
pub change-stands : (f : Node → Node) (t : Tree) (o : Option NodeId) (x : NodeId) → is_some (change f t o x) ≡ is_some (t x)
change-stands f t None x = refl
change-stands f t (Some e) x = elim (cases_Bool (same_id e x)) [
  | inl y ↦ ap is_some (put-here t e (over_node f (t e)) x y) ∙ over (t e) ∙ ap (λ z. is_some (t z)) ((ids_tell e x).0 y)
  | inr n ↦ ap is_some (put-there t e (over_node f (t e)) x n)
]
  where
    over : (o : Option Node) → is_some (over_node f o) ≡ is_some o
    over None = refl
    over (Some y) = refl

-- the names that a node loses are its own
pub not-lost : (t : Tree) (o : Option NodeId) (x : NodeId) → (o ≡ Some x → ⊥) → lost o (counts t) x ≡ count_of (t x)
not-lost t None x h = refl
not-lost t (Some y) x h = elim (cases_Bool (same_id y x)) [
  | inl s ↦ absurd (h (ap Some ((ids_tell y x).0 s)))
  | inr f ↦ ap (λ b. cond b (count_of (t x) - 1) (count_of (t x))) f
]

-- A tree where a node lost a name, and is settled.
module _ (ks : List Table) (t u : Tree) (o : Option NodeId) (stands : (x : NodeId) → is_some (u x) ≡ is_some (t x)) (told : (x : NodeId) → count_of (u x) ≡ lost o (counts t) x) (l : AllLast t ks) where
  pub lost-lasts : AllLast (settled ks u o) ks
  lost-lasts =
      settled-last ks u o (λ d h. stands d ∙ (l d).there h)
      (λ d other. as-named-lasts (t d) (u d) (is_held ks d) (is_held ks d) (by-counts (t d) (u d) (stands d) (told d ∙ not-lost t o d other)) refl (l d))

-- the name of a path went
pub dropped-lasts : (ks : List Table) (t : Tree) (o : Option NodeId) (w : Option (NodeId × Name)) → AllLast t ks → AllLast (settled ks (lead_way (change one_fewer t o) w None) o) ks
dropped-lasts ks t o w =
    lost-lasts ks t (lead_way (change one_fewer t o) w None) o
    (λ x. way-stands (change one_fewer t o) w None x ∙ change-stands one_fewer t o x)
    (λ x. way-counts (change one_fewer t o) w None x ∙ fewer-counts t o x)

-- a node took a new name, which what stood there lost, and left the old one
pub renamed-lasts : (m : MountOptions) (ks : List Table) (t : Tree) (e o : Option NodeId) (old new : Option (NodeId × Name)) → AllLast t ks → AllLast (settled ks (lead_way (lead_way (change (meta_touched m) (change one_fewer t o) e) new e) old None) o) ks
renamed-lasts m ks t e o old new =
    lost-lasts ks t (lead_way (lead_way t2 new e) old None) o
    (λ x. way-stands (lead_way t2 new e) old None x ∙ way-stands t2 new e x ∙ change-stands (meta_touched m) t1 e x ∙ change-stands one_fewer t o x)
    (λ x. way-counts (lead_way t2 new e) old None x ∙ way-counts t2 new e x ∙ (change-like (meta_touched m) mild t1 e x).counts ∙ fewer-counts t o x)
  where
    mild : IsMild (meta_touched m)
    mild (Branch a b names c) = like-refl (Some (Branch a b names c))
    mild (Leaf content a u c) = record { names = λ n. refl; counts = refl; folders = refl; stands = refl; untouched = λ h. absurd (false≢true h) }

    t1 : Tree
    t1 = change one_fewer t o

    t2 : Tree
    t2 = change (meta_touched m) t1 e

-- a node with a name has one after it gets one more
more-named : (m : MountOptions) (x : Node) → is_named (Some x) ≡ true → is_named (Some (one_more m x)) ≡ true
more-named m (Branch a b names c) h = h
more-named m (Leaf content a u c) h = grind (arith, nat_tests)

-- a file or link took one more name
pub linked-lasts : (m : MountOptions) (ks : List Table) (t : Tree) (o : Option NodeId) (w : Option (NodeId × Name)) → AllLast t ks → AllLast (lead_way (change (one_more m) t o) w o) ks
linked-lasts m ks t o w l d = as-named-lasts (t d) (lead_way (change (one_more m) t o) w o d) (is_held ks d) (is_held ks d) as-named refl (l d)
  where
    changed : (o : Option NodeId) → is_named (t d) ≡ true → is_named (change (one_more m) t o d) ≡ true
    changed None h = h
    changed (Some e) h = elim (cases_Bool (same_id e d)) [
      | inl y ↦ ap is_named (put-here t e (over_node (one_more m) (t e)) d y) ∙ over (t e) (ap (λ z. is_named (t z)) ((ids_tell e d).0 y) ∙ h)
      | inr f ↦ ap is_named (put-there t e (over_node (one_more m) (t e)) d f) ∙ h
    ]
      where
        over : (x : Option Node) → is_named x ≡ true → is_named (over_node (one_more m) x) ≡ true
        over None h = h
        over (Some x) h = more-named m x h

    as-named : IsAsNamed (t d) (lead_way (change (one_more m) t o) w o d)
    as-named = record {
      stands = way-stands (change (one_more m) t o) w o d ∙ change-stands (one_more m) t o d;
      named = λ h. named-count (lead_way (change (one_more m) t o) w o d) ∙ ap (nat_lt 0) (way-counts (change (one_more m) t o) w o d) ∙ sym (named-count (change (one_more m) t o d)) ∙ changed o h;
    }

-- a new node with its first name, and what has a handle is as before but for the node
module _ (ks hs : List Table) (t : Tree) (i : ℕ) (w : NodeId × Name) (x : Node) (one : count_of (Some x) ≡ 1) (same : (d : NodeId) → same_id (New i) d ≡ false → is_held hs d ≡ is_held ks d) (l : AllLast t ks) where
  pub made-lasts : AllLast (made_way t i (Some w) x) hs
  made-lasts d = elim (cases_Bool (same_id (New i) d)) [
    | inl y ↦
        named-lasts (made_way t i (Some w) x d) (is_held hs d)
        (named-count (made_way t i (Some w) x d) ∙ ap (nat_lt 0) (way-counts (put t (New i) (Some x)) (Some w) (Some (New i)) d ∙ ap count_of (put-here t (New i) (Some x) d y) ∙ one))
    | inr f ↦
        as-named-lasts (t d) (made_way t i (Some w) x d) (is_held ks d) (is_held hs d)
        (by-counts (t d) (made_way t i (Some w) x d)
        (way-stands (put t (New i) (Some x)) (Some w) (Some (New i)) d ∙ ap is_some (put-there t (New i) (Some x) d f))
        (way-counts (put t (New i) (Some x)) (Some w) (Some (New i)) d ∙ ap count_of (put-there t (New i) (Some x) d f)))
        (same d f) (l d)
  ]
