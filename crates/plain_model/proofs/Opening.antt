-- A merge of layers is shown by them.
use Rattle.std.proofs.Common.{◌≡◌, ℕ, Some, sym, ap, ◌∙◌, ◌⊎◌, inl, inr}
use Rattle.ov_base.specs.declared.node_id.NodeId.TheVariants.{At}
use Rattle.plain_model.specs.Layers.{Path, Named, Layer, held}
use Rattle.plain_model.specs.Merging.{LawOfMount}
use Rattle.plain_model.specs.Tree.{AreLinked}

linked-through : (U : Layer) (p q l k : Path) → l ≡ k → (p ≡ l) ⊎ AreLinked U p l → (q ≡ k) ⊎ AreLinked U q k → (p ≡ q) ⊎ AreLinked U p q
linked-through U p q l k e (inl a) (inl b) = inl (a ∙ e ∙ sym b)
linked-through U p q l k e (inl a) (inr b) = inr (record { number = b.number; first = ap (held U) (a ∙ e) ∙ b.second; second = b.first })
linked-through U p q l k e (inr a) (inl b) = inr (record { number = a.number; first = a.first; second = ap (held U) (b ∙ sym e) ∙ a.second })
linked-through U p q l k e (inr a) (inr b) = let i : a.number ≡ b.number = same_number (sym a.second ∙ ap (held U) e ∙ b.second) in inr (record { number = a.number; first = a.first; second = b.first ∙ ap (λ k. Some (Named k)) (sym i) })
  where
    same_number : {i j : ℕ} → Some (Named i) ≡ Some (Named j) → i ≡ j
    same_number h = cc

-- layers show their merge
pub merge-remounts : LawOfMount
merge-remounts U lowers t m = record {
  sights = m.sights;
  linked = m.shared;
  apart = λ p q d h g.
      let a = m.names p d h in
      let b = m.names q d g in
      linked-through U p q a.0 b.0 (let e : At a.0 ≡ At b.0 = sym a.1 ∙ b.1 in cc) a.2.alike b.2.alike;
}
