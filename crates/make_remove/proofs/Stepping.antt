-- A change of the upper in a directory whose missing parents were placed: what it keeps, and the machine's step.
use Rattle.std.proofs.Common.{◌≡◌, ℕ, Bool, List, [], ◌∷◌, ◌++◌, None, Some, sym, ap, ◌∙◌, subst}
use Rattle.plain_model.specs.Layers.{Name, Path, Directory, Layer, held, shows, through, under, is_directory, IsLayer}
use Rattle.plain_model.specs.Laws.{Placed}
use Rattle.plain_model.specs.Tree.{IsThin}
use Rattle.mount_laws.specs.Looks.{IsMountOf, Gains, Makes, mkdir_fault}
use Rattle.mount_laws.proofs.Looks.{law_of_mkdir}
use Rattle.mount_laws.proofs.Places.{law_of_placed_directory, longer}
use Rattle.mount_laws.proofs.Alters.{law_of_thin}
use Rattle.mount_laws.proofs.Makes.{law_of_made}
use Rattle.layer_tree.specs.Tree.{layer_of, inode_at, SetsPath}
use Rattle.merged_lookup.specs.declared.layers.Layers.{Layers}
use Rattle.merged_lookup.specs.Merged.{upper_of, layers_of, lowers_of}
use Rattle.copy_up.specs.Showing.{ShowsSame, StaysMount, StaysThin}
use Rattle.copy_up.proofs.Placing.{free-directory, nothing-held, free-absent}
use Rattle.copy_up.proofs.Raising.{lowers-same, layer-raised, placed-raised}
use Rattle.copy_up.proofs.Keeping.{inodes-same}
use Rattle.make_remove.specs.Making.{MkdirSteps, new_attributes}

-- a directory in an upper that has its parent
module _ (start old new : Layers) (same : ShowsSame start old) (mounts : StaysMount start old) (low : new.lowers ≡ old.lowers) (inodes : (k : ℕ) → inode_at new.upper k ≡ inode_at old.upper k) (keep : IsLayer (layer_of old.upper) → IsLayer (layer_of new.upper)) (q : Path) (n : Name) (key mode : ℕ) (o : Bool) (absent : shows 0 (layers_of start) (n ∷ q) ≡ None) (opaque : o ≡ is_directory (under (layer_of old.upper) (lowers_of old) n q)) (sets : SetsPath (layer_of old.upper) (layer_of new.upper) (n ∷ q) (Directory key (new_attributes mode) o None)) where
  none : shows 0 (layers_of old) (n ∷ q) ≡ None
  none = same.absent (n ∷ q) absent

  placed : Placed (layer_of old.upper) (layer_of new.upper) (n ∷ q) (Some (Directory key (new_attributes mode) o None))
  placed = record {
    here = sets.there;
    beneath = λ k r. sets.elsewhere (k ∷ r ++ (n ∷ q)) (λ e. longer (n ∷ q) k r (sym e)) ∙ nothing-held old.upper (n ∷ q) (free-directory (held (layer_of old.upper) (n ∷ q)) (free-absent (upper_of old).inodes (held (layer_of old.upper) (n ∷ q)) (through (layer_of old.upper) (lowers_of old) (n ∷ q)) none)) k r;
    elsewhere = λ x out. sets.elsewhere x (λ e. out [] e);
    inodes = inodes-same old.upper new.upper inodes;
  }

  thin-at : StaysThin start old → StaysThin start new
  thin-at thin h = subst (λ (Ls : List Layer). IsThin (layer_of new.upper) Ls) (sym (lowers-same old new low)) ((law_of_thin (layer_of old.upper) (layer_of new.upper) (lowers_of old) (thin h) n q).directory key (new_attributes mode) o None placed)

  steps-at : mkdir_fault (layers_of start) (n ∷ q) mode ≡ None → MkdirSteps start new (n ∷ q) mode
  steps-at allowed s h c =
      let U : Layer = upper_of old in
      let V : Layer = upper_of new in
      let now : IsMountOf U (lowers_of old) s = mounts s h in
      let fault : mkdir_fault (layers_of old) (n ∷ q) mode ≡ None = sym (law_of_mkdir U (lowers_of old) s now c (n ∷ q) mode) ∙ law_of_mkdir (upper_of start) (lowers_of start) s h c (n ∷ q) mode ∙ allowed in
      let gains : Gains U V (lowers_of old) (n ∷ q) (new_attributes mode) = law_of_placed_directory U V (lowers_of old) now.layers (layer-raised old new low keep now.layers.0, now.layers.1) n q key (new_attributes mode) none (subst (λ (b : Bool). Placed U V (n ∷ q) (Some (Directory key (new_attributes mode) b None))) opaque (placed-raised old new low (n ∷ q) (Some (Directory key (new_attributes mode) o None)) placed)) in
      subst (λ (Ls : List Layer). Makes V Ls s c (n ∷ q) mode) (sym (lowers-same old new low)) (law_of_made U V (lowers_of old) s now c (n ∷ q) mode fault gains)

-- the same of a path that ends in the name
pub mkdir-steps : (start old new : Layers) → ShowsSame start old → StaysMount start old → new.lowers ≡ old.lowers → ((k : ℕ) → inode_at new.upper k ≡ inode_at old.upper k) → (IsLayer (layer_of old.upper) → IsLayer (layer_of new.upper)) → (p q : Path) (n : Name) (key mode : ℕ) (o : Bool) → p ≡ n ∷ q → shows 0 (layers_of start) p ≡ None → o ≡ is_directory (under (layer_of old.upper) (lowers_of old) n q) → SetsPath (layer_of old.upper) (layer_of new.upper) (n ∷ q) (Directory key (new_attributes mode) o None) → mkdir_fault (layers_of start) p mode ≡ None → MkdirSteps start new p mode
mkdir-steps start old new same mounts low inodes keep p q n key mode o e absent opaque sets allowed =
    subst (λ (z : Path). MkdirSteps start new z mode) (sym e) (steps-at start old new same mounts low inodes keep q n key mode o (sym (ap (shows 0 (layers_of start)) e) ∙ absent) opaque sets (sym (ap (λ z. mkdir_fault (layers_of start) z mode) e) ∙ allowed))

pub mkdir-thin : (start old new : Layers) → ShowsSame start old → StaysMount start old → new.lowers ≡ old.lowers → ((k : ℕ) → inode_at new.upper k ≡ inode_at old.upper k) → (IsLayer (layer_of old.upper) → IsLayer (layer_of new.upper)) → (p q : Path) (n : Name) (key mode : ℕ) (o : Bool) → p ≡ n ∷ q → shows 0 (layers_of start) p ≡ None → o ≡ is_directory (under (layer_of old.upper) (lowers_of old) n q) → SetsPath (layer_of old.upper) (layer_of new.upper) (n ∷ q) (Directory key (new_attributes mode) o None) → StaysThin start old → StaysThin start new
mkdir-thin start old new same mounts low inodes keep p q n key mode o e absent opaque sets thin = thin-at start old new same mounts low inodes keep q n key mode o (sym (ap (shows 0 (layers_of start)) e) ∙ absent) opaque sets thin
