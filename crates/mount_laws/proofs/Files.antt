-- What an open makes of the tree where it makes its file, and that the layers which gain the file show it.
use Rattle.std.proofs.Common.{◌≡◌, ◌⊎◌, ℕ, suc, false, cond, List, [], ◌∷◌, Option, None, Some, is_some, is_none, refl, sym, ap, ap₂, subst, ◌∙◌, true≢false}
use Rattle.ov_base.specs.declared.bytes.Content.TheVariants.{File}
use Rattle.ov_base.specs.declared.call.CallOf.TheVariants.{Open}
use Rattle.ov_base.specs.declared.call.OpenFlags.{OpenFlags}
use Rattle.ov_base.specs.declared.errno.Errno.TheVariants.{EEXIST}
use Rattle.ov_base.specs.declared.node_id.NodeId.{NodeId}
use Rattle.plain_model.specs.Layers.{Name, Path, Named, Layer, held, shows}
use Rattle.plain_model.specs.Tree.{Node, Leaf, Own, Tree, names_of, node_at, AreLinked, Remounts, IsKept}
use Rattle.plain_model.specs.Machine.{State}
use Rattle.plain_model.specs.Refusals.{when, bad_mode}
use Rattle.plain_model.specs.Changes.{fresh, made_way, way_of, change, opened, tree_after, makes, next_if}
use Rattle.plain_model.proofs.Looking.{when-not}
use Rattle.mount_laws.specs.Looks.{or_else as first, parents_fault, mkdir_fault, IsMountOf, KeepsHidden}
use Rattle.mount_laws.specs.Leaves.{GainsLeaf, MakesFile, LawOfFileMade}
use Rattle.mount_laws.proofs.Looks.{none-of, at-some, to-parents, finds}
use Rattle.mount_laws.proofs.Makes.{Spot, free-spot, way-shows, way-stays, way-hidden, way-here, way-kept}
use Rattle.mount_laws.proofs.Links.{second-none, before, later}
use Rattle.mount_laws.proofs.Places.{named-shown}

module _ (U V : Layer) (lowers : List Layer) (s : State) (m : IsMountOf U lowers s) (c : ℕ) (p : Path) (flags : OpenFlags) (mode : ℕ) (fine : mkdir_fault (U ∷ lowers) p mode ≡ None) (g : GainsLeaf U V lowers p (File []) (fresh mode)) where
  abbrev x : Node
  x = Leaf (File []) (fresh mode) (Own false) 1

  free : shows 0 (U ∷ lowers) p ≡ None
  free = none-of (shows 0 (U ∷ lowers) p) (when-not (is_some (shows 0 (U ∷ lowers) p)) EEXIST (second-none (parents_fault (U ∷ lowers) p) _ (second-none (bad_mode mode) _ fine)))

  spot : Spot s.tree p
  spot = free-spot s.tree p (bad_mode mode) (ap₂ (λ e b. first (bad_mode mode) (first e (when b EEXIST))) (to-parents U lowers s m p) (finds U lowers s m p) ∙ fine)

  absent : node_at s.tree p ≡ None
  absent = by (node_at s.tree p) (at-some U lowers s m p ∙ ap is_some free)
    where
      by : (o : Option NodeId) → is_some o ≡ false → o ≡ None
      by None h = refl
      by (Some d) h = absurd (true≢false h)

  bare : (n : Name) → names_of (Some x) n ≡ None
  bare n = refl

  abbrev made : Tree
  made = made_way s.tree s.serial (way_of s.tree p) x

  tree-is : tree_after s c (Open p flags mode) ≡ made
  tree-is = ap (λ o. cond (is_none o) made (change (opened flags) s.tree o)) absent

  serial-is : next_if (makes s (Open p flags mode)) s.serial ≡ suc s.serial
  serial-is = ap (λ o. next_if (is_none o) s.serial) absent

  unnamed : (k : ℕ) → held U p ≡ Some (Named k) → ⊥
  unnamed k h = named-shown U lowers p k h free

  earlier : (y z : Path) → AreLinked V y z → (y ≡ z) ⊎ AreLinked U y z
  earlier = before U V lowers false p (File []) (fresh mode) unnamed g

  afterwards : (y z : Path) → AreLinked U y z → AreLinked V y z
  afterwards = later U V lowers false p (File []) (fresh mode) unnamed g

  makes-file : MakesFile V lowers s c p flags mode
  makes-file = record {
    absent = absent;
    mounts = record {
      layers = g.layers;
      shows = subst (Remounts V lowers) (sym tree-is) (way-shows U V lowers s m p spot x bare g.sights earlier afterwards);
      kept = subst (λ t. IsKept t (next_if (makes s (Open p flags mode)) s.serial)) (sym tree-is) (subst (IsKept made) (sym serial-is) (way-kept U V lowers s m p spot x bare g.sights earlier afterwards refl));
      writable = m.writable;
    };
    made = ap (λ t. node_at t p) tree-is ∙ way-here U V lowers s m p spot x bare g.sights earlier afterwards;
    stays = λ q d h. ap (λ t. node_at t q) tree-is ∙ way-stays U V lowers s m p spot x bare g.sights earlier afterwards q d h;
    hidden = subst (KeepsHidden s.tree) (sym tree-is) (way-hidden U V lowers s m p spot x bare g.sights earlier afterwards);
  }

-- a new file makes the mount one of the upper that gains it
pub law_of_file_made : LawOfFileMade
law_of_file_made U V lowers s m c p flags mode fine g = makes-file U V lowers s m c p flags mode fine g
