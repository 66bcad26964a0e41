-- Room that is made in two directories of a layer, one after the other.
use Rattle.std.proofs.Common.{◌≢◌, ◌≤◌, ◌<◌, ◌+◌, ℕ, ◌∙◌, ap, inl, inr, arith}
use Rattle.std.proofs.lemmas.Bool.{cases_eq}
use Rattle.layer_tree.specs.Tree.{Tree, SameTree, names_room}

-- a tree that is the same after a tree that is the same
pub same-tree-then : (a b c : Tree) → SameTree a b → SameTree b c → SameTree a c
same-tree-then a b c s t =
    record {
      entries = λ d n. t.entries d n ∙ s.entries d n;
      seen = λ k. t.seen k ∙ s.seen k;
      inodes = λ k. t.inodes k ∙ s.inodes k;
      names = λ d. omega (arith, s.names d, t.names d);
      objects = let x = s.objects in let y = t.objects in omega (arith, x, y);
    }

-- room for two names in one directory leaves room for one after a name in that directory or another
pub room-left : (old new : Tree) (from to : ℕ) → 2 ≤ names_room old to → names_room old from ≤ names_room new from + 1 → ((d : ℕ) → d ≢ from → names_room old d ≤ names_room new d) → 0 < names_room new to
room-left old new from to two here there = elim (cases_eq to from) [
  | inl e ↦ let x = ap (names_room old) e in let y = ap (names_room new) e in omega (arith, two, here, x, y)
  | inr off ↦ let x = there to off in omega (arith, two, x)
]
