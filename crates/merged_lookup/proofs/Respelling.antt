-- A layer that is gone through name by name spells each path as the layer under it finds the path.
use Rattle.std.proofs.Common.{◌≡◌, ℕ, ◌∷◌, [], ◌++◌, List, Option, None, Some, refl, sym, ap, ◌∙◌, append_assoc, map, reverse}
use Rattle.std.proofs.lemmas.List.{reverse-append, map-append}
use Rattle.std.specs.Option.{option_and_then, option_map}
use Rattle.std.specs.Borrow.{Bor}
use Rattle.slab.specs.Slab.{get}
use Rattle.ov_base.specs.declared.attributes.Attributes.{Attributes}
use Rattle.plain_model.specs.Layers.{Name, Path, Object, Directory, Named, Whiteout, held, spell}
use Rattle.layer_tree.specs.Tree.{Tree, layer_of, entry, seen, seen_entry}
use Rattle.layer_tree.specs.declared.name_table.Entry.TheVariants as to
use Rattle.layer_tree.specs.declared.node.Directory.{Directory as Folder}
use Rattle.layer_tree.specs.declared.node.Node.TheVariants as node
use Rattle.merged_lookup.specs.declared.below.Way.{Way}
use Rattle.merged_lookup.specs.Passing.{directory_key, holds_under}
use Rattle.merged_lookup.specs.Respelling.{respelled, IsAt}
use Rattle.merged_lookup.proofs.Passing.{held-under}

-- the directory to which a name leads is held there
pub directory-held : (t : Tree) (dir : Option ℕ) (k : ℕ) (n : Name) (j : ℕ) (d : Folder) → dir ≡ Some k → entry t k n ≡ Some (to.Object j) → get t j ≡ Some (node.Directory d) → (a : Attributes) × (holds_under t dir n ≡ Some (Directory j a d.marks.opaque d.marks.redirect))
directory-held t dir k n j d is led at =
    (d.attributes, ap (λ z. holds_under t z n) is ∙ ap (option_and_then (seen_entry t)) led ∙ ap (option_map (seen j)) at)

-- one name more
pub more-spelled : (first : List Name) (old new : List (Bor Name)) (n : Bor Name) → new ≡ old ++ n ∷ [] → reverse (first ++ map {B = Name} (λ b. b.now) new) ≡ n.now ∷ reverse (first ++ map {B = Name} (λ b. b.now) old)
more-spelled first old new n e =
    ap (λ z. reverse (first ++ map {B = Name} (λ b. b.now) z)) e
    ∙ ap (λ z. reverse (first ++ z)) (map-append {B = Name} (λ b. b.now) old (n ∷ []))
    ∙ ap reverse (sym (append_assoc first (map {B = Name} (λ b. b.now) old) (n.now ∷ [])))
    ∙ reverse-append (first ++ map {B = Name} (λ b. b.now) old) (n.now ∷ [])

-- what is no directory is spelled as itself
pub spelled-itself : (o : Option Object) (n : Name) (s : Path) → directory_key o ≡ None → spell o n s ≡ n ∷ s
spelled-itself None n s h = refl
spelled-itself (Some Whiteout) n s h = refl
spelled-itself (Some (Named k)) n s h = refl
spelled-itself (Some (Directory k a b r)) n s h = absurd (cc)

-- one name on, at which the layer holds o
pub goes-on : (t : Tree) (p : Path) (n : Name) (w v : Way) (o : Option Object) → IsAt t p w → holds_under t w.dir n ≡ o → v.dir ≡ directory_key o → respelled v ≡ spell o n (respelled w) → IsAt t (n ∷ p) v
goes-on t p n w v o at here dir spelled =
    let now : o ≡ held (layer_of t) (n ∷ p) = sym here ∙ ap (λ z. holds_under t z n) at.dir ∙ sym (held-under t p n) in
    record {
      dir = dir ∙ ap directory_key now;
      spelling = spelled ∙ ap (λ z. spell z n (respelled w)) now ∙ ap (spell (held (layer_of t) (n ∷ p)) n) at.spelling;
    }

-- one name on, at which the layer holds no directory
pub goes-on-none : (t : Tree) (p : Path) (n : Bor Name) (w v : Way) → IsAt t p w → directory_key (holds_under t w.dir n.now) ≡ None → v.dir ≡ None → v.redirect ≡ w.redirect → v.after.items ≡ w.after.items ++ n ∷ [] → IsAt t (n.now ∷ p) v
goes-on-none t p n w v at none dir same more =
    goes-on t p n.now w v (holds_under t w.dir n.now) at refl (dir ∙ sym none)
    (ap (λ r. reverse (r.now ++ map {B = Name} (λ b. b.now) v.after.items)) same ∙ more-spelled w.redirect.now w.after.items v.after.items n more ∙ sym (spelled-itself (holds_under t w.dir n.now) n.now (respelled w) none))
