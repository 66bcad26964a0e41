-- What the changes of a tree do to the names that lead to each node.
use Rattle.std.proofs.Common.{◌≡◌, ◌↔◌, ℕ, ◌+◌, ◌-◌, Bool, true, false, cond, ◌&&◌, Option, Some, length, refl, sym, ap, ap₂, ◌∙◌, arith, ◌⊎◌, inl, inr, Decides}
use Rattle.std.proofs.lemmas.Bool.{cases_Bool, false≢true, both_ways}
use Rattle.ov_base.specs.declared.node_id.NodeId.{NodeId}
use Rattle.plain_model.specs.Layers.{Name, same_name}
use Rattle.plain_model.specs.Tree.{same_id, Tree, root, names_of, lead, is_folder, same_entry, AreNames}
use Rattle.plain_model.proofs.Paths.{names_tell, ids_tell}
use Rattle.plain_model.proofs.Walks.{lead-same, lead-other}
use Rattle.plain_model.proofs.Counting.{Counted, count-same, count-more, count-less, count-some}

abbrev Entry : Type 0
Entry = NodeId × Name

pub entries_tell : (x y : Entry) → Decides (same_entry x y) (x ≡ y)
entries_tell x y = (there (cases_Bool (same_id x.0 y.0)), back)
  where
    there : (same_id x.0 y.0 ≡ true) ⊎ (same_id x.0 y.0 ≡ false) → same_id x.0 y.0 && same_name x.1 y.1 ≡ true → x ≡ y
    there (inl h) g =
        let first = (ids_tell x.0 y.0).0 h in
        let second = (names_tell x.1 y.1).0 (ap (λ b. b && same_name x.1 y.1) (sym h) ∙ g) in
        λ i. (first i, second i)
    there (inr h) g = absurd (false≢true (ap (λ b. b && same_name x.1 y.1) (sym h) ∙ g))

    back : x ≡ y → same_id x.0 y.0 && same_name x.1 y.1 ≡ true
    back e = ap₂ (λ a b. a && b) ((ids_tell x.0 y.0).1 (ap (λ z. z.0) e)) ((names_tell x.1 y.1).1 (ap (λ z. z.1) e))

-- the names of a node without the root's own, as a count
abbrev Leads : Tree → NodeId → Entry → Type 0
Leads t d w = names_of (t w.0) w.1 ≡ Some d

abbrev extra : NodeId → ℕ
extra d = cond (same_id root d) 1 0

abbrev Names : Tree → NodeId → ℕ → Type 0
Names t d n = Counted Entry same_entry entries_tell (Leads t d) n

opens : (t : Tree) (d : NodeId) (k : ℕ) → AreNames t d k → (n : ℕ) × (k ≡ extra d + n) × Names t d n
opens t d k a = (length a.entries, a.counted, record { items = a.entries; once = a.once; exact = a.exact; counted = refl })

shuts : (t : Tree) (d : NodeId) (k n : ℕ) → k ≡ extra d + n → Names t d n → AreNames t d k
shuts t d k n e c = record { entries = c.items; once = c.once; exact = c.exact; counted = e ∙ ap (λ z. extra d + z) c.counted }

-- where the same names lead to a node, it has as many
pub names-same : (t u : Tree) (d : NodeId) (k : ℕ) → ((w : Entry) → names_of (u w.0) w.1 ≡ names_of (t w.0) w.1) → AreNames t d k → AreNames u d k
names-same t u d k h a =
    let o = opens t d k a in
    shuts u d k o.0 o.1 (count-same Entry same_entry entries_tell (Leads t d) (Leads u d) o.0 (λ w. ((λ l. h w ∙ l), (λ l. sym (h w) ∙ l))) o.2)

-- what a changed entry leads to
pub lead-entry : (t : Tree) (d : NodeId) (n : Name) (e : Option NodeId) → is_folder (t d) ≡ true → (w : Entry) → names_of (lead t d n e w.0) w.1 ≡ cond (same_entry (d, n) w) e (names_of (t w.0) w.1)
lead-entry t d n e dir w = elim (cases_Bool (same_entry (d, n) w)) [
  | inl y ↦
      let s : (d, n) ≡ w = (entries_tell (d, n) w).0 y in
      ap (λ z. names_of (lead t d n e z.0) z.1) (sym s) ∙ lead-same t d n e dir ∙ sym (ap (λ b. cond b e (names_of (t w.0) w.1)) y)
  | inr f ↦ lead-other t d n e (Some w.0) w.1 (λ is same. both_ways (same_entry (d, n) w) f ((entries_tell (d, n) w).1 (let x : d ≡ w.0 = cc in λ i. (x i, same i)))) ∙ sym (ap (λ b. cond b e (names_of (t w.0) w.1)) f)
]

module _ (t : Tree) (d : NodeId) (n : Name) (e : Option NodeId) (dir : is_folder (t d) ≡ true) (x : NodeId) (k : ℕ) (a : AreNames t x k) where
  at-entry : (b : Bool) (w : Entry) → same_entry (d, n) w ≡ b → names_of (lead t d n e w.0) w.1 ≡ cond b e (names_of (t w.0) w.1)
  at-entry b w h = lead-entry t d n e dir w ∙ ap (λ b. cond b e (names_of (t w.0) w.1)) h

  abbrev here : Entry
  here = (d, n)

  -- the entry comes to lead to x
  pub names-more : e ≡ Some x → (names_of (t d) n ≡ Some x → ⊥) → AreNames (lead t d n e) x (k + 1)
  names-more is new =
      let o = opens t x k a in
      shuts (lead t d n e) x (k + 1) (o.0 + 1) (let q = o.1 in omega arith)
      (count-more Entry same_entry entries_tell (Leads t x) (Leads (lead t d n e) x) o.0 here new exact o.2)
    where
      exact : (w : Entry) → Leads (lead t d n e) x w ↔ ((w ≡ here) ⊎ Leads t x w)
      exact w = (there (cases_Bool (same_entry here w)), back (cases_Bool (same_entry here w)))
        where
          there : (same_entry here w ≡ true) ⊎ (same_entry here w ≡ false) → Leads (lead t d n e) x w → (w ≡ here) ⊎ Leads t x w
          there (inl y) l = inl (sym ((entries_tell here w).0 y))
          there (inr f) l = inr (sym (at-entry false w f) ∙ l)

          back : (same_entry here w ≡ true) ⊎ (same_entry here w ≡ false) → (w ≡ here) ⊎ Leads t x w → Leads (lead t d n e) x w
          back (inl y) l = at-entry true w y ∙ is
          back (inr f) (inl s) = absurd (both_ways (same_entry here w) f ((entries_tell here w).1 (sym s)))
          back (inr f) (inr l) = at-entry false w f ∙ l

  -- the entry no longer leads to x
  pub names-less : names_of (t d) n ≡ Some x → (e ≡ Some x → ⊥) → AreNames (lead t d n e) x (k - 1)
  names-less old new =
      let o = opens t x k a in
      let some = count-some Entry same_entry entries_tell (Leads t x) o.0 here old o.2 in
      shuts (lead t d n e) x (k - 1) (o.0 - 1) (less k (extra x) o.0 o.1 some)
      (count-less Entry same_entry entries_tell (Leads t x) (Leads (lead t d n e) x) o.0 here old exact o.2)
    where
      less : (k a b : ℕ) → k ≡ a + b → (b ≡ 0 → ⊥) → k - 1 ≡ a + (b - 1)
      less k a b h z = omega arith

      exact : (w : Entry) → Leads (lead t d n e) x w ↔ (Leads t x w × (w ≡ here → ⊥))
      exact w = (there (cases_Bool (same_entry here w)), back (cases_Bool (same_entry here w)))
        where
          there : (same_entry here w ≡ true) ⊎ (same_entry here w ≡ false) → Leads (lead t d n e) x w → Leads t x w × (w ≡ here → ⊥)
          there (inl y) l = absurd (new (sym (at-entry true w y) ∙ l))
          there (inr f) l = (sym (at-entry false w f) ∙ l, λ s. both_ways (same_entry here w) f ((entries_tell here w).1 (sym s)))

          back : (same_entry here w ≡ true) ⊎ (same_entry here w ≡ false) → Leads t x w × (w ≡ here → ⊥) → Leads (lead t d n e) x w
          back (inl y) l = absurd (l.1 (sym ((entries_tell here w).0 y)))
          back (inr f) l = at-entry false w f ∙ l.0

  -- the entry leads to x neither before nor after
  pub names-else : (names_of (t d) n ≡ Some x → ⊥) → (e ≡ Some x → ⊥) → AreNames (lead t d n e) x k
  names-else old new =
      let o = opens t x k a in
      shuts (lead t d n e) x k o.0 o.1
      (count-same Entry same_entry entries_tell (Leads t x) (Leads (lead t d n e) x) o.0 exact o.2)
    where
      exact : (w : Entry) → Leads t x w ↔ Leads (lead t d n e) x w
      exact w = (there (cases_Bool (same_entry here w)), back (cases_Bool (same_entry here w)))
        where
          there : (same_entry here w ≡ true) ⊎ (same_entry here w ≡ false) → Leads t x w → Leads (lead t d n e) x w
          there (inl y) l = absurd (old (ap (λ z. names_of (t z.0) z.1) ((entries_tell here w).0 y) ∙ l))
          there (inr f) l = at-entry false w f ∙ l

          back : (same_entry here w ≡ true) ⊎ (same_entry here w ≡ false) → Leads (lead t d n e) x w → Leads t x w
          back (inl y) l = absurd (new (sym (at-entry true w y) ∙ l))
          back (inr f) l = sym (at-entry false w f) ∙ l

-- a node to which an entry leads has a name; so has the root
pub names-some : (t : Tree) (d : NodeId) (n : Name) (x : NodeId) (k : ℕ) → names_of (t d) n ≡ Some x → AreNames t x k → (k ≡ 0 → ⊥)
names-some t d n x k l a e =
    let o = opens t x k a in
    count-some Entry same_entry entries_tell (Leads t x) o.0 (d, n) l o.2 (zero-right k (extra x) o.0 o.1 e)
  where
    zero-right : (k a b : ℕ) → k ≡ a + b → k ≡ 0 → b ≡ 0
    zero-right k a b h z = omega arith

pub root-some : (t : Tree) (k : ℕ) → AreNames t root k → (k ≡ 0 → ⊥)
root-some t k a e = let c = a.counted in absurd (omega arith)
