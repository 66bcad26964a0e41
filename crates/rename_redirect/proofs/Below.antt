-- How two paths stand to each other, told by their names from the root down.
use Rattle.std.proofs.Common.{◌≡◌, ◌<◌, ◌≤◌, true, ◌||◌, [], ◌∷◌, ◌++◌, nat_lt, length, length-append, take, drop, reverse, sym, ap, ◌∙◌, inl, inr, arith}
use Rattle.std.specs.Cmp.{both_ways as alike}
use Rattle.std.proofs.Math.Seq.{take-append_seam}
use Rattle.std.proofs.lemmas.Bool.{false≢true, cases_Bool}
use Rattle.std.proofs.lemmas.List.{reverse-reverse, reverse-append, length-reverse, take-append-drop}
use Rattle.plain_model.specs.Layers.{Name, Path, same_path}
use Rattle.plain_model.specs.Machine.{is_below}
use Rattle.plain_model.proofs.Paths.{paths_tell}
use Rattle.mount_laws.proofs.CanMove.{below-told}

-- two paths are the same where their names are
pub same-reversed : (p q : Path) → same_path (reverse p) (reverse q) ≡ same_path p q
same-reversed p q =
    alike (same_path (reverse p) (reverse q)) (same_path p q)
    (λ h. (paths_tell p q).1 (sym (reverse-reverse p) ∙ ap reverse ((paths_tell (reverse p) (reverse q)).0 h) ∙ reverse-reverse q))
    (λ h. (paths_tell (reverse p) (reverse q)).1 (ap reverse ((paths_tell p q).0 h)))

-- a path that is told to be below another goes on from it
pub record GoesOn (p q : Path) : Type 0 where
  pub name : Name
  pub rest : Path
  pub path : q ≡ name ∷ (rest ++ p)

pub below-goes : (p q : Path) → is_below p q ≡ true → GoesOn p q
below-goes p [] h = absurd (false≢true h)
below-goes p (n ∷ q) h = elim (cases_Bool (same_path p q)) [
  | inl e ↦ record { name = n; rest = []; path = ap (λ x. n ∷ x) (sym ((paths_tell p q).0 e)) }
  | inr ne ↦
      let g = below-goes p q (sym (ap (λ b. b || is_below p q) ne) ∙ h) in
      record { name = n; rest = g.name ∷ g.rest; path = ap (λ x. n ∷ x) g.path }
]

-- which is so where its names begin with those of the other
pub below-prefix : (p q : Path) → length (reverse p) < length (reverse q) → same_path (take (length (reverse p)) (reverse q)) (reverse p) ≡ is_below p q
below-prefix p q long =
    alike (same_path (take (length (reverse p)) (reverse q)) (reverse p)) (is_below p q)
    (λ h. goes ((paths_tell (take (length (reverse p)) (reverse q)) (reverse p)).0 h))
    (λ h. (paths_tell (take (length (reverse p)) (reverse q)) (reverse p)).1 (begins (below-goes p q h)))
  where
    rest : Path
    rest = drop (length (reverse p)) (reverse q)

    whole : take (length (reverse p)) (reverse q) ≡ reverse p → q ≡ reverse (drop (length (reverse p)) (reverse q)) ++ p
    whole e =
        sym (reverse-reverse q)
        ∙ ap reverse (sym (take-append-drop (length (reverse p)) (reverse q)) ∙ ap (λ x. x ++ drop (length (reverse p)) (reverse q)) e)
        ∙ reverse-append (reverse p) (drop (length (reverse p)) (reverse q))
        ∙ ap (λ x. reverse (drop (length (reverse p)) (reverse q)) ++ x) (reverse-reverse p)

    by : (x : Path) → q ≡ x ++ p → is_below p q ≡ true
    by [] e = absurd (omega (arith, long, ap length (ap reverse e)))
    by (n ∷ r) e = ap (is_below p) e ∙ below-told p n r

    goes : take (length (reverse p)) (reverse q) ≡ reverse p → is_below p q ≡ true
    goes e = by (reverse (drop (length (reverse p)) (reverse q))) (whole e)

    begins : GoesOn p q → take (length (reverse p)) (reverse q) ≡ reverse p
    begins g =
        ap (λ x. take (length (reverse p)) x) (ap reverse g.path ∙ reverse-append (g.name ∷ g.rest) p)
        ∙ take-append_seam (reverse p) (reverse (g.name ∷ g.rest))

-- no path that is as short is below another
pub below-longer : (p q : Path) → length (reverse q) ≤ length (reverse p) → nat_lt (length (reverse p)) (length (reverse q)) ≡ is_below p q
below-longer p q short =
    alike (nat_lt (length (reverse p)) (length (reverse q))) (is_below p q) (λ h. absurd (grind arith)) (λ h. absurd (no (below-goes p q h)))
  where
    no : GoesOn p q → ⊥
    no g =
        let a = ap length g.path in
        let b = length-append g.rest p in
        let c = length-reverse p in
        let d = length-reverse q in
        omega (arith, short, a, b, c, d)
