-- An object without a name is freed: no path told of it.
use Rattle.std.proofs.Common.{◌≡◌, ℕ, [], ◌∷◌, None, Some, is_some, sym, ap, ◌∙◌}
use Rattle.std.proofs.lemmas.Bool.{false≢true}
use Rattle.std.specs.Option.{option_and_then}
use Rattle.plain_model.specs.Layers.{Path, Named, held}
use Rattle.layer_tree.specs.Table.{object_key}
use Rattle.layer_tree.specs.Tree.{Tree, layer_of, inode_at, entry_at, Frees}
use Rattle.layer_tree.specs.Nameless.{IsNameless}
use Rattle.layer_tree.proofs.Changing.{key_of_entry}
use Rattle.layer_tree.proofs.Nameless.{nameless_apart}
use Rattle.copy_up.specs.Texts.{GainsMark}
use Rattle.copy_up.proofs.Texts.{mark_of, marks-but}
use Rattle.make_remove.specs.Removing.{number_of}
use Rattle.make_remove.proofs.Unnaming.{entry-number}

-- a path that names an inode leads to its number
named-key : (t : Tree) (p : Path) (k : ℕ) → held (layer_of t) p ≡ Some (Named k) → option_and_then object_key (entry_at t p) ≡ Some k
named-key t [] k h = absurd (cc)
named-key t (n ∷ p) k h = entry-number t (entry_at t (n ∷ p)) k (ap number_of h)

-- each inode that a path names is as it was
pub named-same : (old new : Tree) (key : ℕ) → IsNameless old key → Frees old new key → (p : Path) (k : ℕ) → held (layer_of old) p ≡ Some (Named k) → inode_at new k ≡ inode_at old k
named-same old new key h f p k named = f.inodes k (nameless_apart old key h p k (key_of_entry old p ∙ named-key old p k named))

-- no mark comes
pub marks-freed : (old new : Tree) (key : ℕ) → Frees old new key → GainsMark (layer_of old) (layer_of new) None
marks-freed old new key f =
    marks-but (layer_of old) (layer_of new) None key f.inodes (λ q is. absurd (false≢true (ap is_some (sym (ap mark_of f.no_inode) ∙ is))))
