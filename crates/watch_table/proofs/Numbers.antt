-- The watch of a number.
use Rattle.std.proofs.Common.{◌≡◌, ℕ, ℤ, pos, true, false, cond, Option, Some, None, MatchOption, List, [], ◌∷◌, map, refl, sym, ap, subst, ◌∙◌, ◌⊎◌, inl, inr, nat_eq, eq-eqb}
use Rattle.std.specs.Prelude.{find, is_some, option_map}
use Rattle.std.specs.List.{AllByRecursion, IsDistinct, list_any}
use Rattle.std.specs.Cmp.{signed_Decides}
use Rattle.std.proofs.lemmas.Bool.{cases_Bool, false≢true}
use Rattle.std.proofs.lemmas.Map.Keys.{IsDistinct-head, IsDistinct-tail}
use Rattle.ov_base.specs.declared.node_id.NodeId.TheVariants.{New}
use Rattle.plain_model.specs.Watching.{Watch, is_numbered}
use Rattle.watch_table.specs.Clients.{AreOnlyOn}
use Rattle.watch_table.proofs.Arming.{found-any, none-mapped}

-- a test of a watch's number that passes tells it
numbered-is : (number : ℤ) (w : Watch) → is_numbered number w ≡ true → number ≡ pos w.number
numbered-is number w h = (signed_Decides number (pos w.number)).0 h

-- watches whose numbers are others
others-off : (number : ℤ) (w : Watch) (o : ℕ) (ws : List Watch) → is_numbered number w ≡ true →
    AllByRecursion (λ k. nat_eq w.number k ≡ false) (map (λ v. v.number) ws) → AreOnlyOn number o ws
others-off number w o [] h a = tt
others-off number w o (v ∷ ws) h a = (
  (λ t. absurd (false≢true
      (sym a.0 ∙ eq-eqb w.number v.number (pos-same (sym (numbered-is number w h)
      ∙ numbered-is number v t))))),
  others-off number w o ws h a.1,
)
  where
    pos-same : {m n : ℕ} → pos m ≡ pos n → m ≡ n
    pos-same e = cc

-- the first watch of a number is the only one
only-one : (number : ℤ) (o : ℕ) (ws : List Watch) (v : Watch) → IsDistinct nat_eq (map (λ w. w.number) ws) →
    find (is_numbered number) ws ≡ Some v → v.node ≡ New o → AreOnlyOn number o ws
only-one number o [] v d f n = tt
only-one number o (w ∷ ws) v d f n = by (cases_Bool (is_numbered number w))
    (only-one number o ws v (IsDistinct-tail nat_eq w.number (map (λ u. u.number) ws) d))
  where
    one : Some w ≡ Some v → w ≡ v
    one e = cc

    by : (is_numbered number w ≡ true) ⊎ (is_numbered number w ≡ false) →
        (find (is_numbered number) ws ≡ Some v → v.node ≡ New o → AreOnlyOn number o ws) → AreOnlyOn number o (w ∷ ws)
    by (inl t) rest =
        let same = one (subst (λ b. cond b (Some w) (find (is_numbered number) ws) ≡ Some v) t f) in (
          (λ h. ap (λ (u : Watch). u.node) same ∙ n),
          others-off number w o ws t
              (IsDistinct-head nat_eq w.number (map (λ u. u.number) ws) d),
        )
    by (inr g) rest =
        ((λ h. absurd (false≢true (sym g ∙ h))), rest (subst (λ b. cond b (Some w) (find (is_numbered number) ws) ≡ Some v) g f) n)

-- what a search by number tells
pub object-found : (number : ℤ) (ws : List Watch) (r : Option ℕ) → IsDistinct nat_eq (map (λ w. w.number) ws) →
    option_map New r ≡ option_map (λ (w : Watch). w.node) (find (is_numbered number) ws) →
    MatchOption r (list_any (is_numbered number) ws ≡ false) (λ o. AreOnlyOn number o ws)
object-found number ws None d h = sym (found-any (is_numbered number) ws)
    ∙ ap is_some (none-mapped (λ (w : Watch). w.node) (find (is_numbered number) ws) (sym h))
object-found number ws (Some o) d h = by (find (is_numbered number) ws) refl h
  where
    node-is : (v : Watch) → Some (New o) ≡ Some v.node → v.node ≡ New o
    node-is v e = cc

    by : (f : Option Watch) → find (is_numbered number) ws ≡ f → option_map New (Some o) ≡ option_map (λ (w : Watch). w.node) f →
        AreOnlyOn number o ws
    by None e g = cc
    by (Some v) e g = only-one number o ws v d e (node-is v g)
