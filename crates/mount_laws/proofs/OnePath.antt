-- On a tree that layers show, each directory stands at one path alone, and so does each untouched file or link.
use Rattle.std.proofs.Common.{◌≡◌, true, false, List, Option, None, Some, sym, ap, ◌∙◌, inl, inr, refl}
use Rattle.std.proofs.lemmas.Bool.{false≢true}
use Rattle.ov_base.specs.declared.node_id.NodeId.{NodeId}
use Rattle.plain_model.specs.Layers.{Path, Inode, Layer}
use Rattle.plain_model.specs.Tree.{Node, Branch, Leaf, Own, Untouched, node_at, node_of, face, see_inode, is_untouched}
use Rattle.plain_model.specs.Machine.{State}
use Rattle.plain_model.proofs.Merged.{named-seen}
use Rattle.mount_laws.specs.Looks.{IsMountOf}
use Rattle.mount_laws.specs.Paths.{LawOfOnePath}
use Rattle.mount_laws.proofs.Makes.{folder-alone}

-- a name of an inode of the upper is its own
own-seen : (o : Option Node) (i : Option Inode) → face o ≡ see_inode 0 i → is_untouched o ≡ false
own-seen None i e = refl
own-seen (Some (Branch a b names c)) i e = refl
own-seen (Some (Leaf content a (Own z) c)) i e = refl
own-seen (Some (Leaf content a (Untouched k) c)) None e = cc
own-seen (Some (Leaf content a (Untouched k) c)) (Some i) e = cc

-- an untouched file or link stands at one path alone
untouched-alone :
    (U : Layer) (lowers : List Layer) (s : State) → IsMountOf U lowers s →
    (p q : Path) (d : NodeId) → is_untouched (s.tree d) ≡ true → node_at s.tree p ≡ Some d → node_at s.tree q ≡ Some d → p ≡ q
untouched-alone U lowers s m p q d low a b = elim (m.shows.apart p q d a b) [
  | inl e ↦ e
  | inr l ↦ absurd (false≢true (sym (own-seen (s.tree d) (U.inodes l.number) (ap (λ o. face (node_of s.tree o)) (sym a) ∙ m.shows.sights p ∙ named-seen U lowers p l.number l.first)) ∙ low))
]

-- where layers show the tree
pub law_of_one_path : LawOfOnePath
law_of_one_path U lowers s m = record {
  directories = λ p q d folder a b. folder-alone U lowers s m q p d folder b a;
  untouched = untouched-alone U lowers s m;
}
