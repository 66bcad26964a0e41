-- Where each directory has at most one name, each stands at one path alone, and so does each untouched file or link.
use Rattle.std.proofs.Common.{◌≡◌, ℕ, ◌+◌, ◌≤◌, Bool, true, false, ◌||◌, [], ◌∷◌, List, Option, None, Some, length, refl, sym, ap, ◌∙◌, arith}
use Rattle.std.specs.List.{list_any}
use Rattle.std.proofs.lemmas.Bool.{false≢true}
use Rattle.ov_base.specs.declared.node_id.NodeId.{NodeId}
use Rattle.plain_model.specs.Layers.{Name, Path}
use Rattle.plain_model.specs.Tree.{Node, Branch, Leaf, Tree, root, names_of, entry, node_at, is_folder, count_of, is_untouched, same_entry, IsKept}
use Rattle.plain_model.proofs.Names.{entries_tell}
use Rattle.mount_laws.specs.Nodes.{HaveOneName}
use Rattle.mount_laws.specs.Paths.{LawOfNamedPaths}
use Rattle.mount_laws.proofs.Removes.{named-folder}

-- of at most one entry, two are one
only-entry : (es : List (NodeId × Name)) → length es ≤ 1 → (v w : NodeId × Name) → list_any (same_entry v) es ≡ true → list_any (same_entry w) es ≡ true → v ≡ w
only-entry [] few v w a b = absurd (false≢true a)
only-entry (x ∷ []) few v w a b = is v a ∙ sym (is w b)
  where
    or-none : (b : Bool) → b || false ≡ true → b ≡ true
    or-none true h = refl
    or-none false h = h

    is : (v : NodeId × Name) → same_entry v x || false ≡ true → v ≡ x
    is v h = (entries_tell v x).0 (or-none (same_entry v x) h)
only-entry (x ∷ y ∷ es) few v w a b = absurd (omega (arith, few))

-- a directory is no untouched file or link
folder-touched : (o : Option Node) → is_folder o ≡ true → is_untouched o ≡ true → ⊥
folder-touched None f u = false≢true f
folder-touched (Some (Branch a b names c)) f u = false≢true u
folder-touched (Some (Leaf content a o c)) f u = false≢true f

module _ (t : Tree) (i : ℕ) (kept : IsKept t i) (one : HaveOneName t) where
  few-left : (a b c : ℕ) → a ≡ b + c → a ≤ 1 → c ≤ 1
  few-left a b c e most = omega arith

  -- one name leads to a node that has at most one
  single : (d : NodeId) → count_of (t d) ≤ 1 → (v w : NodeId × Name) → names_of (t v.0) v.1 ≡ Some d → names_of (t w.0) w.1 ≡ Some d → v ≡ w
  single d most v w a b =
      let names = kept.counted d in
      only-entry names.entries (few-left (count_of (t d)) _ (length names.entries) names.counted most) v w ((names.exact v).1 a) ((names.exact w).1 b)

  -- and none to the root
  no-name : (x : NodeId) (n : Name) → names_of (t x) n ≡ Some root → ⊥
  no-name x n h = let names = kept.counted root in none names.entries names.counted (one root kept.home) ((names.exact (x, n)).1 h)
    where
      none : (es : List (NodeId × Name)) → count_of (t root) ≡ 1 + length es → count_of (t root) ≤ 1 → list_any (same_entry (x, n)) es ≡ true → ⊥
      none [] e most h = false≢true h
      none (y ∷ es) e most h = absurd (omega arith)

  no-way : (q : Path) (n : Name) (d : NodeId) → root ≡ d → node_at t (n ∷ q) ≡ Some d → ⊥
  no-way q n d e h = by (node_at t q) (h ∙ ap Some (sym e))
    where
      by : (o : Option NodeId) → entry t o n ≡ Some root → ⊥
      by None h = cc
      by (Some x) h = no-name x n h

  -- two paths to such a node end in one name of one directory
  same-end :
      (n m : Name) (p q : Path) (d : NodeId) → count_of (t d) ≤ 1 → node_at t (n ∷ p) ≡ Some d → node_at t (m ∷ q) ≡ Some d →
      ((x : NodeId) → is_folder (t x) ≡ true → node_at t p ≡ Some x → node_at t q ≡ Some x → p ≡ q) → n ∷ p ≡ m ∷ q
  same-end n m p q d most a b parents = by (node_at t p) (node_at t q) refl refl a b
    where
      by : (o z : Option NodeId) → node_at t p ≡ o → node_at t q ≡ z → entry t o n ≡ Some d → entry t z m ≡ Some d → n ∷ p ≡ m ∷ q
      by None z e f a b = cc
      by (Some x) None e f a b = cc
      by (Some x) (Some y) e f a b =
          let is : (x, n) ≡ (y, m) = single d most (x, n) (y, m) a b in
          let parent : p ≡ q = parents x (named-folder (t x) n d a) e (f ∙ ap (λ w. Some w.0) (sym is)) in
          λ i. (is i).1 ∷ parent i

  -- a directory stands at one path alone
  directories : (p q : Path) (d : NodeId) → is_folder (t d) ≡ true → node_at t p ≡ Some d → node_at t q ≡ Some d → p ≡ q
  directories [] [] d folder a b = refl
  directories [] (m ∷ q) d folder a b = let is : root ≡ d = cc in absurd (no-way q m d is b)
  directories (n ∷ p) [] d folder a b = let is : root ≡ d = cc in absurd (no-way p n d is a)
  directories (n ∷ p) (m ∷ q) d folder a b = same-end n m p q d (one d folder) a b (directories p q)

  -- and so does an untouched file or link
  untouched : (p q : Path) (d : NodeId) → is_untouched (t d) ≡ true → node_at t p ≡ Some d → node_at t q ≡ Some d → p ≡ q
  untouched [] q d low a b = let is : root ≡ d = cc in absurd (folder-touched (t d) (ap (λ x. is_folder (t x)) (sym is) ∙ kept.home) low)
  untouched (n ∷ p) [] d low a b = let is : root ≡ d = cc in absurd (folder-touched (t d) (ap (λ x. is_folder (t x)) (sym is) ∙ kept.home) low)
  untouched (n ∷ p) (m ∷ q) d low a b = same-end n m p q d (kept.single d low) a b (directories p q)

-- where each directory has at most one name
pub law_of_named_paths : LawOfNamedPaths
law_of_named_paths t i kept one = record { directories = directories t i kept one; untouched = untouched t i kept one }
