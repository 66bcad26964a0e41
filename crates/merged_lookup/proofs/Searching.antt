-- A search for a key: what is covered at its start, when a name is met, when a directory is taken or put off, and at its end.
use Rattle.std.proofs.Common.{◌+◌, ◌<◌, ◌||◌, length, get_or, take, ◌≡◌, ◌≢◌, ℕ, true, false, cond, List, [], ◌∷◌, ◌++◌, Option, None, Some, refl, sym, ap, ◌∙◌, subst, ◌⊎◌, inl, inr}
use Rattle.std.proofs.lemmas.Bool.{cases_Bool, false≢true}
use Rattle.std.proofs.lemmas.Cmp.{nat_list_cmp_total, upto, tied_itself}
use Rattle.std.proofs.lemmas.List.Folds.{list_any_more}
use Rattle.std.proofs.lemmas.Slice.Eq.{bytes_eq-Decides}
use Rattle.std.specs.Global.{Vec}
use Rattle.std.specs.List.{list_any}
use Rattle.std.specs.Str.{bytes_eq}
use Rattle.std.specs.Ordering.{is_gt, ordering_reverse}
use Rattle.std.specs.declared.cmp.Ordering.{Ordering}
use Rattle.std.specs.declared.cmp.Ordering.TheVariants.{Less, Equal, Greater}
use Rattle.plain_model.specs.Layers.{Name, Path}
use Rattle.plain_model.specs.Merging.{text, text_cmp, lesser}
use Rattle.layer_tree.specs.Tree.{Tree, ROOT, layer_of, key_at, IsDirectory, IsHeldTogether}
use Rattle.merged_lookup.specs.declared.layers.Layers.{Layers}
use Rattle.merged_lookup.specs.Locating.{IsPlaceOf}
use Rattle.merged_lookup.specs.declared.locate.Waiting.{Waiting}
use Rattle.merged_lookup.specs.declared.locate.Search.{Search}
use Rattle.merged_lookup.specs.Searching.{IsBelow, IsAhead, IsUpTo, IsCovered, Covers, AllStand, LeadsTo, IsSound, GoesOn, Offers, path_of}
use Rattle.merged_lookup.proofs.Locating.{below-directory, one-path}

-- a text doesn't come after itself
text-itself : (p : Path) → is_gt (text_cmp p p) ≡ false
text-itself p = ap is_gt (tied_itself nat_list_cmp_total (text p))

-- of two texts one doesn't come after the other
text-other : (p q : Path) → is_gt (text_cmp p q) ≡ true → is_gt (text_cmp q p) ≡ false
text-other p q h = ap is_gt (nat_list_cmp_total.antisymm (text q) (text p)) ∙ by (text_cmp p q) h
  where
    by : (o : Ordering) → is_gt o ≡ true → is_gt (ordering_reverse o) ≡ false
    by Less h = absurd (false≢true h)
    by Equal h = absurd (false≢true h)
    by Greater h = refl

-- the path of the lesser text doesn't come after the first
lesser-first : (p : Path) (o : Option Path) → IsUpTo (Some (lesser p o)) p
lesser-first p None = text-itself p
lesser-first p (Some q) = elim (cases_Bool (is_gt (text_cmp p q))) [
  | inl h ↦ ap (λ b. is_gt (text_cmp (cond b q p) p)) h ∙ text-other p q h
  | inr h ↦ ap (λ b. is_gt (text_cmp (cond b q p) p)) h ∙ text-itself p
]

-- nor after what the second doesn't come after
lesser-second : (p : Path) (o : Option Path) (x : Path) → IsUpTo o x → IsUpTo (Some (lesser p o)) x
lesser-second p None x u = absurd u
lesser-second p (Some q) x u = elim (cases_Bool (is_gt (text_cmp p q))) [
  | inl h ↦ ap (λ b. is_gt (text_cmp (cond b q p) x)) h ∙ u
  | inr h ↦ ap (λ b. is_gt (text_cmp (cond b q p) x)) h ∙ upto nat_list_cmp_total (text p) (text q) (text x) h u
]

-- and it leads where both lead
lesser-leads : (t : Tree) (k : ℕ) (p : Path) (o : Option Path) → key_at t p ≡ Some k → LeadsTo t k o → LeadsTo t k (Some (lesser p o))
lesser-leads t k p None e h = e
lesser-leads t k p (Some q) e h = elim (cases_Bool (is_gt (text_cmp p q))) [
  | inl g ↦ ap (λ b. key_at t (cond b q p)) g ∙ h
  | inr g ↦ ap (λ b. key_at t (cond b q p)) g ∙ e
]

-- a path that ends in another is it or leads on from it
itself-or-below : (p r : Path) → (r ++ p ≡ p) ⊎ IsBelow p (r ++ p)
itself-or-below p [] = inl refl
itself-or-below p (n ∷ r) = elim (itself-or-below p r) [
  | inl e ↦ inr ([], n, ap (λ z. n ∷ z) e)
  | inr w ↦ inr (n ∷ w.0, w.1, ap (λ z. n ∷ z) w.2)
]

-- each path but the root's leads on from the root
below-root : (n : Name) (p : Path) → IsBelow [] (n ∷ p)
below-root n [] = ([], n, refl)
below-root n (m ∷ p) = let w = below-root m p in (n ∷ w.0, w.1, ap (λ z. n ∷ z) w.2)

-- one directory more is ahead
ahead-more : (ds : List Waiting) (d : Waiting) (x : Path) → IsAhead ds x ⊎ IsBelow d.path x → IsAhead (ds ++ d ∷ []) x
ahead-more [] d x (inl h) = absurd h
ahead-more [] d x (inr h) = inl h
ahead-more (e ∷ ds) d x (inl (inl h)) = inl h
ahead-more (e ∷ ds) d x (inl (inr h)) = inr (ahead-more ds d x (inl h))
ahead-more (e ∷ ds) d x (inr h) = inr (ahead-more ds d x (inr h))

-- and one less
ahead-less : (ds : List Waiting) (d : Waiting) (x : Path) → IsAhead (ds ++ d ∷ []) x → IsAhead ds x ⊎ IsBelow d.path x
ahead-less [] d x (inl h) = inr h
ahead-less [] d x (inr h) = absurd h
ahead-less (e ∷ ds) d x (inl h) = inl (inl h)
ahead-less (e ∷ ds) d x (inr h) = elim (ahead-less ds d x h) [
  | inl g ↦ inl (inr g)
  | inr g ↦ inr g
]

-- with one directory more, all stand at their paths
stand-more : (t : Tree) (ds : List Waiting) (d : Waiting) → AllStand t ds → key_at t d.path ≡ Some d.key → AllStand t (ds ++ d ∷ [])
stand-more t [] d h e = (e, tt)
stand-more t (c ∷ ds) d h e = (h.0, stand-more t ds d h.1 e)

-- and with one less
stand-less : (t : Tree) (ds : List Waiting) (d : Waiting) → AllStand t (ds ++ d ∷ []) → AllStand t ds × (key_at t d.path ≡ Some d.key)
stand-less t [] d h = (tt, h.0)
stand-less t (c ∷ ds) d h = let w = stand-less t ds d h.1 in ((h.0, w.0), w.1)

-- what goes on twice goes on
pub further : (t : Tree) (a b c : Search) → GoesOn t a b → GoesOn t b c → GoesOn t a c
further t a b c g h = record { key = h.key ∙ g.key; sound = λ s. h.sound (g.sound s); keeps = λ x w. h.keeps x (g.keeps x w) }

-- a path that leads to the key is taken for the best
pub offered-goes : (t : Tree) (old new : Search) (p : Path) → key_at t p ≡ Some old.key → Offers p old new → GoesOn t old new
offered-goes t old new p at o = record {
  key = o.key;
  sound = λ s. record {
    stand = subst (λ w. AllStand t w) (ap (λ (v : Vec Waiting). v.items) (sym o.waiting)) s.stand;
    leads = rw (o.best, o.key) (lesser-leads t old.key p (path_of old.best) at s.leads);
  };
  keeps = keep;
}
  where
    keep : (x : Path) → IsCovered old x → IsCovered new x
    keep x (inl h) = inl (subst (λ w. IsAhead w x) (ap (λ (v : Vec Waiting). v.items) (sym o.waiting)) h)
    keep x (inr h) = inr (rw o.best (lesser-second p (path_of old.best) x h))

-- and it is covered; nothing leads on from it to the key
pub offered-meets : (t : Tree) → IsHeldTogether (layer_of t) → (old new : Search) (p : Path) → key_at t p ≡ Some old.key → Offers p old new → (r : Path) → Covers t old.key new (r ++ p)
offered-meets t together old new p at o r h = elim (itself-or-below p r) [
  | inl e ↦ subst (IsCovered new) (sym e) covered
  | inr w ↦
      let directory : IsDirectory t old.key = below-directory t w.0 p w.1 old.key old.key at (sym (ap (key_at t) w.2) ∙ h) in
      subst (IsCovered new) (one-path t together p (r ++ p) old.key directory at h) covered
]
  where
    covered : IsCovered new p
    covered = inr (rw o.best (lesser-first p (path_of old.best)))

-- a directory other than the one that is sought is put off
module _ (t : Tree) (old new : Search) (d : Waiting) (at : key_at t d.path ≡ Some d.key) (key : new.key ≡ old.key) (best : new.best ≡ old.best) (more : new.waiting.items ≡ old.waiting.items ++ d ∷ []) where
  ahead : (x : Path) → IsAhead old.waiting.items x ⊎ IsBelow d.path x → IsCovered new x
  ahead x h = inl (subst (λ w. IsAhead w x) (sym more) (ahead-more old.waiting.items d x h))

  keep : (x : Path) → IsCovered old x → IsCovered new x
  keep x (inl h) = ahead x (inl h)
  keep x (inr h) = inr (subst (λ o. IsUpTo (path_of o) x) (sym best) h)

  pub put-off-goes : GoesOn t old new
  put-off-goes = record {
    key = key;
    sound = λ s. record {
      stand = subst (AllStand t) (sym more) (stand-more t old.waiting.items d s.stand at);
      leads = rw (best, key) s.leads;
    };
    keeps = keep;
  }

  pub put-off-meets : d.key ≢ old.key → (r : Path) → Covers t old.key new (r ++ d.path)
  put-off-meets other r h = elim (itself-or-below d.path r) [
    | inl e ↦ let same : d.key ≡ old.key = cc (at, ap (key_at t) e, h) in absurd (other same)
    | inr w ↦ ahead (r ++ d.path) (inr w)
  ]

-- an object that is neither sought nor a directory needs no more
pub passed-meets : (t : Tree) (s : Search) (p : Path) (k : ℕ) → key_at t p ≡ Some k → k ≢ s.key → (IsDirectory t k → ⊥) → (r : Path) → Covers t s.key s (r ++ p)
passed-meets t s p k at other not r h = elim (itself-or-below p r) [
  | inl e ↦ let same : k ≡ s.key = cc (at, ap (key_at t) e, h) in absurd (other same)
  | inr w ↦ absurd (not (below-directory t w.0 p w.1 k s.key at (sym (ap (key_at t) w.2) ∙ h)))
]

-- one name more of a directory is covered
pub covers-more : (t : Tree) (k : ℕ) (s : Search) (p : Path) (names : List Name) (i : ℕ) (m : Name) → i < length names → m ≡ get_or names i m → ((n : Name) → list_any (bytes_eq n) (take i names) ≡ true → (r : Path) → Covers t k s (r ++ n ∷ p)) → ((r : Path) → Covers t k s (r ++ m ∷ p)) → (n : Name) → list_any (bytes_eq n) (take (i + 1) names) ≡ true → (r : Path) → Covers t k s (r ++ n ∷ p)
covers-more t k s p names i m within is before met n h r = elim (cases_Bool (list_any (bytes_eq n) (take i names))) [
  | inl g ↦ before n g r
  | inr g ↦
      let same : bytes_eq n (get_or names i m) ≡ true = ap (λ b. b || bytes_eq n (get_or names i m)) (sym g) ∙ sym (list_any_more (bytes_eq n) names i m within) ∙ h in
      let P : Name → Type 0 = λ x. Covers t k s (r ++ x ∷ p) in
      subst P (is ∙ sym ((bytes_eq-Decides n (get_or names i m)).0 same)) (met r)
]

-- a search ends with the place of what stands under the key
pub ended : (l : Layers) (t : Tree) (s : Search) (k : ℕ) (o : Option Path) → t ≡ l.upper → o ≡ path_of s.best → s.key ≡ k → s.waiting.items ≡ [] → IsSound t s → ((x : Path) → Covers t k s x) → IsPlaceOf l k o
ended l t s k o upper is key none sound covers =
    by o
    (subst (λ u. LeadsTo u k o) upper (subst (λ j. LeadsTo t j o) key (subst (LeadsTo t s.key) (sym is) sound.leads)))
    (λ x h. subst (λ b. IsUpTo b x) (sym is) (best x (covers x (ap (λ u. key_at u x) upper ∙ h))))
  where
    best : (x : Path) → IsCovered s x → IsUpTo (path_of s.best) x
    best x (inl w) = absurd (subst (λ ds. IsAhead ds x) none w)
    best x (inr u) = u

    by : (o : Option Path) → LeadsTo l.upper k o → ((x : Path) → key_at l.upper x ≡ Some k → IsUpTo o x) → IsPlaceOf l k o
    by None leads upto = upto
    by (Some p) leads upto = (leads, upto)

-- a search begins at the root, where what it looks for isn't
pub begun : (t : Tree) (s : Search) (k : ℕ) → s.key ≡ k → k ≢ ROOT → s.waiting.items ≡ record { key = 0; path = [] } ∷ [] → s.best ≡ None → IsSound t s × ((x : Path) → Covers t k s x)
begun t s k key other first none = (record { stand = subst (AllStand t) (sym first) (refl, tt); leads = subst (λ o. LeadsTo t s.key (path_of o)) (sym none) tt }, covers)
  where
    covers : (x : Path) → Covers t k s x
    covers [] h = let e : k ≡ ROOT = cc in absurd (other e)
    covers (n ∷ p) h = inl (subst (λ ds. IsAhead ds (n ∷ p)) (sym first) (inl (below-root n p)))

-- the last directory that waits, and all others, stand at their paths
pub taken-stand : (t : Tree) (s : Search) (ds : List Waiting) (d : Waiting) → s.waiting.items ≡ ds ++ d ∷ [] → IsSound t s → AllStand t ds × (key_at t d.path ≡ Some d.key)
taken-stand t s ds d is sound = stand-less t ds d (subst (AllStand t) is sound.stand)

-- the paths to the key stay covered when that directory is taken and its names are looked at
pub taken-goes : (t : Tree) (s between new : Search) (d : Waiting) (k : ℕ) → s.key ≡ k → between.key ≡ s.key → between.best ≡ s.best → s.waiting.items ≡ between.waiting.items ++ d ∷ [] → ((x : Path) → Covers t k s x) → GoesOn t between new → ((n : Name) (r : Path) → Covers t between.key new (r ++ n ∷ d.path)) → (x : Path) → Covers t k new x
taken-goes t s between new d k key same best is covers goes looked x h = by (covers x h)
  where
    sought : key_at t x ≡ Some between.key
    sought = h ∙ ap Some (sym (same ∙ key))

    by-ahead : IsAhead between.waiting.items x ⊎ IsBelow d.path x → IsCovered new x
    by-ahead (inl w) = goes.keeps x (inl w)
    by-ahead (inr w) = subst (IsCovered new) (sym w.2) (looked w.1 w.0 (sym (ap (key_at t) w.2) ∙ sought))

    by : IsCovered s x → IsCovered new x
    by (inl w) = by-ahead (ahead-less between.waiting.items d x (subst (λ ds. IsAhead ds x) is w))
    by (inr u) = goes.keeps x (inr (subst (λ o. IsUpTo (path_of o) x) (sym best) u))
