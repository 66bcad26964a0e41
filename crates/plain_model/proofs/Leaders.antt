-- Of the names of an upper inode the one of the least text leads: it names their node.
use Rattle.std.proofs.Common.{◌≡◌, ℕ, Bool, true, false, cond, ◌||◌, List, [], ◌∷◌, Option, None, Some, refl, sym, ap, ◌∙◌, is_some, filter, eqb-true, eq-eqb, ◌⊎◌, inl, inr, unwrap_or}
use Rattle.std.proofs.lemmas.Bool.{cases_Bool, false≢true}
use Rattle.std.specs.List.{list_any}
use Rattle.std.specs.Cmp.Lexicographic.{nat_list_cmp_total}
use Rattle.std.specs.Ordering.{is_gt, ordering_reverse}
use Rattle.std.specs.declared.cmp.Ordering.{Ordering}
use Rattle.std.specs.declared.cmp.Ordering.TheVariants.{Less, Equal, Greater}
use Rattle.plain_model.specs.Layers.{Path, Object, Directory, Named, Whiteout, Layer, held, same_path, HasAllPaths}
use Rattle.plain_model.specs.Merging.{text, text_cmp, lesser, least, names_inode, leader_by, leader, Leads}
use Rattle.plain_model.proofs.Paths.{paths_tell}

-- order of texts
text-antisymm : (x y : Path) → text_cmp x y ≡ ordering_reverse (text_cmp y x)
text-antisymm x y = nat_list_cmp_total.antisymm (text x) (text y)

text-refl : (x : Path) → is_gt (text_cmp x x) ≡ false
text-refl x = by (text_cmp x x) (text-antisymm x x)
  where
    by : (o : Ordering) → o ≡ ordering_reverse o → is_gt o ≡ false
    by Less e = refl
    by Equal e = refl
    by Greater e = cc

text-flip : (x y : Path) → is_gt (text_cmp x y) ≡ true → is_gt (text_cmp y x) ≡ false
text-flip x y h = ap is_gt (text-antisymm y x) ∙ by (text_cmp x y) h
  where
    by : (o : Ordering) → is_gt o ≡ true → is_gt (ordering_reverse o) ≡ false
    by Less h = absurd (false≢true h)
    by Equal h = absurd (false≢true h)
    by Greater h = refl

text-equal : (x y z : Path) → text_cmp x y ≡ Less → text_cmp y z ≡ Equal → text_cmp x z ≡ Less
text-equal x y z e f =
    text-antisymm x z ∙ ap ordering_reverse (sym (nat_list_cmp_total.congr (text y) (text z) (text x) f) ∙ text-antisymm y x ∙ ap ordering_reverse e)

text-trans : (x y z : Path) → is_gt (text_cmp x y) ≡ false → is_gt (text_cmp y z) ≡ false → is_gt (text_cmp x z) ≡ false
text-trans x y z h g = by (text_cmp x y) (text_cmp y z) refl refl h g
  where
    by : (a b : Ordering) → text_cmp x y ≡ a → text_cmp y z ≡ b → is_gt a ≡ false → is_gt b ≡ false → is_gt (text_cmp x z) ≡ false
    by Equal b e f h g = ap is_gt (nat_list_cmp_total.congr (text x) (text y) (text z) e ∙ f) ∙ g
    by Less Less e f h g = ap is_gt (nat_list_cmp_total.trans (text x) (text y) (text z) e f)
    by Less Equal e f h g = ap is_gt (text-equal x y z e f)
    by Less Greater e f h g = absurd (false≢true (sym g))
    by Greater b e f h g = absurd (false≢true (sym h))

lesser-first : (x : Path) (o : Option Path) → is_gt (text_cmp (lesser x o) x) ≡ false
lesser-first x None = text-refl x
lesser-first x (Some y) = elim (cases_Bool (is_gt (text_cmp x y))) [
  | inl h ↦ ap (λ b. is_gt (text_cmp (cond b y x) x)) h ∙ text-flip x y h
  | inr h ↦ ap (λ b. is_gt (text_cmp (cond b y x) x)) h ∙ text-refl x
]

lesser-second : (x y : Path) → is_gt (text_cmp (lesser x (Some y)) y) ≡ false
lesser-second x y = elim (cases_Bool (is_gt (text_cmp x y))) [
  | inl h ↦ ap (λ b. is_gt (text_cmp (cond b y x) y)) h ∙ text-refl y
  | inr h ↦ ap (λ b. is_gt (text_cmp (cond b y x) y)) h ∙ h
]

-- the least of those that pass: it passes, and it is not above any that passes
least-passes : (f : Path → Bool) (ps : List Path) (l : Path) → least (filter f ps) ≡ Some l → f l ≡ true
least-passes f [] l e = cc
least-passes f (p ∷ ps) l e = by (least-passes f ps) (cases_Bool (f p))
  where
    pick : (o : Option Path) → ((q : Path) → o ≡ Some q → f q ≡ true) → f p ≡ true → Some (lesser p o) ≡ Some l → f l ≡ true
    pick None rest h e = let s : p ≡ l = cc in ap f (sym s) ∙ h
    pick (Some q) rest h e = elim (cases_Bool (is_gt (text_cmp p q))) [
      | inl g ↦ let s : q ≡ l = let w : Some (cond true q p) ≡ Some l = ap (λ b. Some (cond b q p)) (sym g) ∙ e in cc in ap f (sym s) ∙ rest q refl
      | inr g ↦ let s : p ≡ l = let w : Some (cond false q p) ≡ Some l = ap (λ b. Some (cond b q p)) (sym g) ∙ e in cc in ap f (sym s) ∙ h
    ]

    by : ((l : Path) → least (filter f ps) ≡ Some l → f l ≡ true) → (f p ≡ true) ⊎ (f p ≡ false) → f l ≡ true
    by rest (inl h) = pick (least (filter f ps)) rest h (ap (λ b. least (cond b (p ∷ filter f ps) (filter f ps))) (sym h) ∙ e)
    by rest (inr h) = rest l (ap (λ b. least (cond b (p ∷ filter f ps) (filter f ps))) (sym h) ∙ e)

-- a path that passes: there is a least one, not above it
pub record IsLeast (o : Option Path) (x : Path) : Type 0 where
  pub path : Path
  pub found : o ≡ Some path
  pub not_above : is_gt (text_cmp path x) ≡ false

least-below : (f : Path → Bool) (ps : List Path) (x : Path) → f x ≡ true → list_any (same_path x) ps ≡ true → IsLeast (least (filter f ps)) x
least-below f [] x h m = absurd (false≢true m)
least-below f (p ∷ ps) x h m = by (least-below f ps x h) (cases_Bool (f p)) (cases_Bool (same_path x p))
  where
    first : f p ≡ true → least (filter f (p ∷ ps)) ≡ Some (lesser p (least (filter f ps)))
    first g = ap (λ b. least (cond b (p ∷ filter f ps) (filter f ps))) g

    later : f p ≡ false → least (filter f (p ∷ ps)) ≡ least (filter f ps)
    later g = ap (λ b. least (cond b (p ∷ filter f ps) (filter f ps))) g

    by : (list_any (same_path x) ps ≡ true → IsLeast (least (filter f ps)) x) → (f p ≡ true) ⊎ (f p ≡ false) → (same_path x p ≡ true) ⊎ (same_path x p ≡ false) → IsLeast (least (filter f (p ∷ ps))) x
    by rest (inl g) (inl y) = record { path = lesser p (least (filter f ps)); found = first g; not_above = ap (λ z. is_gt (text_cmp (lesser p (least (filter f ps))) z)) ((paths_tell x p).0 y) ∙ lesser-first p (least (filter f ps)) }
    by rest (inl g) (inr n) =
        let r = rest (ap (λ b. b || list_any (same_path x) ps) (sym n) ∙ m) in
        record { path = lesser p (Some r.path); found = first g ∙ ap (λ o. Some (lesser p o)) r.found; not_above = text-trans (lesser p (Some r.path)) r.path x (lesser-second p r.path) r.not_above }
    by rest (inr g) (inl y) = absurd (false≢true (sym g ∙ ap f (sym ((paths_tell x p).0 y)) ∙ h))
    by rest (inr g) (inr n) =
        let r = rest (ap (λ b. b || list_any (same_path x) ps) (sym n) ∙ m) in
        record { path = r.path; found = later g ∙ r.found; not_above = r.not_above }

inode-test : (k : ℕ) (o : Option Object) → names_inode k o ≡ true → o ≡ Some (Named k)
inode-test k None h = absurd (false≢true h)
inode-test k (Some Whiteout) h = absurd (false≢true h)
inode-test k (Some (Directory j a o r)) h = absurd (false≢true h)
inode-test k (Some (Named j)) h = ap (λ i. Some (Named i)) (eqb-true j k h)

test-inode : (k : ℕ) (o : Option Object) → o ≡ Some (Named k) → names_inode k o ≡ true
test-inode k o h = ap (names_inode k) h ∙ eq-eqb k k refl

module _ (ps : List Path) (U : Layer) (all : HasAllPaths U ps) where
  abbrev names_of_inode : ℕ → Option Path
  names_of_inode k = least (filter (λ x. names_inode k (held U x)) ps)

  least-of : (x : Path) (k : ℕ) → held U x ≡ Some (Named k) → IsLeast (names_of_inode k) x
  least-of [] k h = cc
  least-of (n ∷ p) k h = least-below (λ x. names_inode k (held U x)) ps (n ∷ p) (test-inode k (held U (n ∷ p)) h) (all (n ∷ p) (ap is_some h))

  -- the leader of an inode's names
  pub record Leader (p : Path) (k : ℕ) : Type 0 where
    pub path : Path
    pub is : leader ps U p ≡ path
    pub named : held U path ≡ Some (Named k)
    pub alike : (x : Path) → held U x ≡ Some (Named k) → leader ps U x ≡ path
    pub least : (x : Path) → held U x ≡ Some (Named k) → is_gt (text_cmp path x) ≡ false

  pub leader-of : (p : Path) (k : ℕ) → held U p ≡ Some (Named k) → Leader p k
  leader-of p k h =
      let r = least-of p k h in
      let same = λ (x : Path) (g : held U x ≡ Some (Named k)). ap (leader_by ps U x) g ∙ ap (λ o. unwrap_or o x) r.found in
      record {
        path = r.path;
        is = same p h;
        named = inode-test k (held U r.path) (least-passes (λ x. names_inode k (held U x)) ps r.path r.found);
        alike = same;
        least = λ x g. let s = least-of x k g in let e : s.path ≡ r.path = (let w : Some s.path ≡ Some r.path = sym s.found ∙ r.found in cc) in ap (λ z. is_gt (text_cmp z x)) (sym e) ∙ s.not_above;
      }

  -- a path is named by its inode, or leads itself
  pub own-way : (p : Path) → ((k : ℕ) × (held U p ≡ Some (Named k))) ⊎ (leader ps U p ≡ p)
  own-way p = by (held U p) refl
    where
      by : (o : Option Object) → held U p ≡ o → ((k : ℕ) × (held U p ≡ Some (Named k))) ⊎ (leader ps U p ≡ p)
      by None e = inr (ap (leader_by ps U p) e)
      by (Some Whiteout) e = inr (ap (leader_by ps U p) e)
      by (Some (Directory k a o r)) e = inr (ap (leader_by ps U p) e)
      by (Some (Named k)) e = inl (k, e)

  pub leader-leads : (p : Path) → Leads U p (leader ps U p)
  leader-leads p = elim (own-way p) [
    | inl n ↦
        let l = leader-of p n.0 n.1 in
        record {
          alike = inr (record { number = n.0; first = n.1; second = ap (held U) l.is ∙ l.named });
          least = λ x k. ap (λ z. is_gt (text_cmp z x)) l.is ∙ l.least x (k.second ∙ sym k.first ∙ n.1);
        }
    | inr e ↦ record {
      alike = inl (sym e);
      least = λ x k. ap (λ z. is_gt (text_cmp z x)) (leader-of p k.number k.first).is ∙ (leader-of p k.number k.first).least x k.second;
    }
  ]

  pub leader-leader : (p : Path) → leader ps U (leader ps U p) ≡ leader ps U p
  leader-leader p = elim (own-way p) [
    | inl n ↦ let l = leader-of p n.0 n.1 in ap (leader ps U) l.is ∙ l.alike l.path l.named ∙ sym l.is
    | inr e ↦ ap (leader ps U) e
  ]
