-- A file or link that is made in a directory whose missing parents were placed.
use Rattle.std.proofs.Common.{◌≡◌, ◌↔◌, ◌≤◌, ◌<◌, ℕ, Bool, true, false, not, ◌&&◌, cond, List, [], ◌∷◌, None, Some, Ok, Err, is_some, refl, sym, ap, ◌∙◌, subst, length, nat_lt, nat_le, nat_eq, arith}
use Rattle.std.proofs.lemmas.Bool.{le-ltb, leb-true, ltb-true}
use Rattle.ov_base.specs.declared.attributes.Attributes.{Attributes}
use Rattle.ov_base.specs.declared.bytes.Content.{Content}
use Rattle.ov_base.specs.declared.bytes.Content.TheVariants as content
use Rattle.plain_model.specs.Layers.{Name, Path, Named, Layer, held, shows, same_path, through, IsLayer, AreLayers}
use Rattle.plain_model.specs.Tree.{IsThin, Own, SeenLeaf, merged}
use Rattle.ov_base.specs.Targets.{target_fault, target_of}
use Rattle.ov_base.specs.declared.errno.Errno.TheVariants as errno
use Rattle.plain_model.specs.Refusals.{when, has_nul}
use Rattle.mount_laws.specs.Looks.{or_else, mkdir_fault}
use Rattle.mount_laws.specs.Leaves.{PlacesLeaf, GainsLeaf, MakesLink, MakesFile, symlink_fault}
use Rattle.mount_laws.proofs.Alters.{law_of_thin, law_of_placed_leaf}
use Rattle.mount_laws.proofs.Links.{law_of_link_made}
use Rattle.mount_laws.proofs.Files.{law_of_file_made}
use Rattle.layer_tree.specs.Tree.{layer_of}
use Rattle.merged_lookup.specs.declared.layers.Layers.{Layers}
use Rattle.merged_lookup.specs.Merged.{upper_of, layers_of, lowers_of, parents_fault}
use Rattle.slab.specs.Slab.{get}
use Rattle.layer_tree.specs.Nameless.{KeepsObjects}
use Rattle.layer_tree.proofs.Nameless.{keeps_then, vacant_before}
use Rattle.copy_up.specs.Showing.{is_object, ShowsSame, StaysLayers, StaysThin, GainsParents}
use Rattle.copy_up.proofs.Frames.{others-then}
use Rattle.copy_up.proofs.Placing.{free-directory, nothing-held, free-absent}
use Rattle.copy_up.proofs.Raising.{lowers-same, layer-raised, leaf-raised}
use Rattle.make_remove.specs.Making.{new_attributes, vacancy_fault}
use Rattle.make_remove.specs.Leaves.{MakesLeaf, SymlinkSteps, CreateSteps}
use Rattle.copy_up.proofs.Copying.{leaf_of}

-- what is gained over an upper whose missing parents were placed is gained over the upper before that
gains-since : (start old : Layers) (V : Layer) (p : Path) (c : Content) (a : Attributes) → ShowsSame start old → ((x : Path) (k : ℕ) → (held (layer_of old.upper) x ≡ Some (Named k)) ↔ (held (layer_of start.upper) x ≡ Some (Named k))) → GainsLeaf (upper_of old) V (lowers_of old) p c a → GainsLeaf (upper_of start) V (lowers_of start) p c a
gains-since start old V p c a same names g =
    let low : lowers_of old ≡ lowers_of start = lowers-same start old same.lowers in
    record {
      layers = subst (λ (Ls : List Layer). AreLayers (V ∷ Ls)) low g.layers;
      number = g.number;
      here = g.here;
      alone = g.alone;
      sights = λ q. sym (ap (λ Ls. merged V Ls q) low) ∙ g.sights q ∙ ap (cond (same_path p q) (Some (SeenLeaf c a (Own false) 1))) (same.sights q);
      names = λ q k ne. (λ h. (names q k).0 ((g.names q k ne).0 h), λ h. (g.names q k ne).1 ((names q k).1 h));
    }

module _ (start old new : Layers) (same : ShowsSame start old) (stays : StaysLayers start old) (names : (x : Path) (k : ℕ) → (held (layer_of old.upper) x ≡ Some (Named k)) ↔ (held (layer_of start.upper) x ≡ Some (Named k))) (low : new.lowers ≡ old.lowers) (keep : IsLayer (layer_of old.upper) → IsLayer (layer_of new.upper)) (n : Name) (q : Path) (key : ℕ) (c : Content) (a : Attributes) (absent : shows 0 (layers_of start) (n ∷ q) ≡ None) (placed : PlacesLeaf (layer_of old.upper) (layer_of new.upper) (n ∷ q) key (leaf_of c None a)) where
  raised : PlacesLeaf (upper_of old) (upper_of new) (n ∷ q) key (leaf_of c None a)
  raised = leaf-raised old new low (n ∷ q) key (leaf_of c None a) placed

  -- is made under its key
  makes-at : GainsParents start old (n ∷ q) → get old.upper key ≡ None → KeepsObjects old.upper new.upper (Some key) → (leaf : MakesLeaf start new (n ∷ q) c a) × (leaf.number ≡ key)
  makes-at gains vacant kept = (
    record {
      lowers = low ∙ same.lowers;
      number = key;
      held_there = placed.here;
      inode = raised.inode;
      gains = λ h. gains-since start old (upper_of new) (n ∷ q) c a same names (law_of_placed_leaf (upper_of old) (upper_of new) (lowers_of old) (stays h) (layer-raised old new low keep (stays h).0, (stays h).1) n q key (leaf_of c None a) (same.absent (n ∷ q) absent) refl raised);
      vacant = vacant_before start.upper old.upper None gains.objects key vacant;
      others = others-then start old new (n ∷ q) gains low placed.elsewhere
          (λ m r. ap is_object (nothing-held old.upper (n ∷ q) (free-directory (held (layer_of old.upper) (n ∷ q)) (free-absent (upper_of old).inodes (held (layer_of old.upper) (n ∷ q)) (through (layer_of old.upper) (lowers_of old) (n ∷ q)) (same.absent (n ∷ q) absent))) m r))
          placed.beneath;
      objects = keeps_then start.upper old.upper new.upper (Some key) gains.objects kept;
    },
    refl,
  )

  thin-at : StaysThin start old → StaysThin start new
  thin-at thin h = subst (λ (Ls : List Layer). IsThin (layer_of new.upper) Ls) (sym (lowers-same old new low)) ((law_of_thin (layer_of old.upper) (layer_of new.upper) (lowers_of old) (thin h) n q).leaf key (leaf_of c None a) placed)

-- a file or link at a path that ends in the name, under its key
pub leaf-made : (start old new : Layers) → ShowsSame start old → StaysLayers start old → ((x : Path) (k : ℕ) → (held (layer_of old.upper) x ≡ Some (Named k)) ↔ (held (layer_of start.upper) x ≡ Some (Named k))) → new.lowers ≡ old.lowers → (IsLayer (layer_of old.upper) → IsLayer (layer_of new.upper)) → (p : Path) (n : Name) (q : Path) (key : ℕ) (c : Content) (a : Attributes) → p ≡ n ∷ q → shows 0 (layers_of start) p ≡ None → PlacesLeaf (layer_of old.upper) (layer_of new.upper) (n ∷ q) key (leaf_of c None a) → GainsParents start old (n ∷ q) → get old.upper key ≡ None → KeepsObjects old.upper new.upper (Some key) → (leaf : MakesLeaf start new p c a) × (leaf.number ≡ key)
leaf-made start old new same stays names low keep p n q key c a e absent placed gains vacant kept =
    subst (λ (z : Path). (leaf : MakesLeaf start new z c a) × (leaf.number ≡ key)) (sym e) (makes-at start old new same stays names low keep n q key c a (sym (ap (shows 0 (layers_of start)) e) ∙ absent) placed gains vacant kept)

pub leaf-thin : (start old new : Layers) → ShowsSame start old → StaysLayers start old → ((x : Path) (k : ℕ) → (held (layer_of old.upper) x ≡ Some (Named k)) ↔ (held (layer_of start.upper) x ≡ Some (Named k))) → new.lowers ≡ old.lowers → (IsLayer (layer_of old.upper) → IsLayer (layer_of new.upper)) → (p : Path) (n : Name) (q : Path) (key : ℕ) (c : Content) (a : Attributes) → p ≡ n ∷ q → shows 0 (layers_of start) p ≡ None → PlacesLeaf (layer_of old.upper) (layer_of new.upper) (n ∷ q) key (leaf_of c None a) → StaysThin start old → StaysThin start new
leaf-thin start old new same stays names low keep p n q key c a e absent placed thin = thin-at start old new same stays names low keep n q key c a (sym (ap (shows 0 (layers_of start)) e) ∙ absent) placed thin

not-zero : (n : ℕ) → 0 < n → nat_eq n 0 ≡ false
not-zero n h = grind arith

-- a symbolic link of a target is refused as anything is that is made
pub symlink-vacancy : (Ls : List Layer) (target : List ℕ) (p : Path) → target_of target ≡ Ok target → symlink_fault Ls target p ≡ vacancy_fault Ls p
symlink-vacancy Ls target p h = of (nat_lt 0 (length target)) (nat_le (length target) 4095) (has_nul target) refl refl refl h
  where
    of : (a b c : Bool) → nat_lt 0 (length target) ≡ a → nat_le (length target) 4095 ≡ b → has_nul target ≡ c → cond (a && b && not c) (Ok target) (Err (target_fault target)) ≡ Ok target → symlink_fault Ls target p ≡ vacancy_fault Ls p
    of false b c some short plain told = cc
    of true false c some short plain told = cc
    of true true true some short plain told = cc
    of true true false some short plain told =
        let long : nat_lt 4095 (length target) ≡ false = le-ltb 4095 (length target) (leb-true (length target) 4095 short) in
        let bare : nat_eq (length target) 0 ≡ false = not-zero (length target) (ltb-true 0 (length target) some) in
        rw (long, bare, plain) refl

-- symlink is the machine's step where the link is made
pub symlink-steps : (old new : Layers) (target : List ℕ) (p : Path) → symlink_fault (layers_of old) target p ≡ None → MakesLeaf old new p (content.SymbolicLink target) (new_attributes 0o777) → SymlinkSteps old new target p
symlink-steps old new target p fine made s h c =
    subst (λ (Ls : List Layer). MakesLink (upper_of new) Ls s c target p) (sym (lowers-same old new made.lowers)) (law_of_link_made (upper_of old) (upper_of new) (lowers_of old) s h c target p fine (made.gains h.layers))

-- of a mode that may be given a directory is refused as anything is that is made
pub mkdir-vacancy : (Ls : List Layer) (p : Path) (mode : ℕ) → mode ≤ 0o7777 → mkdir_fault Ls p mode ≡ vacancy_fault Ls p
mkdir-vacancy Ls p mode h = ap (λ b. or_else (when b errno.EINVAL) (vacancy_fault Ls p)) (small mode h)
  where
    small : (mode : ℕ) → mode ≤ 0o7777 → nat_lt 0o7777 mode ≡ false
    small mode h = grind arith

-- nothing keeps a name from being made where its parents are not refused and nothing is shown
pub vacancy-fine : (Ls : List Layer) (p : Path) → parents_fault Ls p ≡ None → shows 0 Ls p ≡ None → vacancy_fault Ls p ≡ None
vacancy-fine Ls p parents absent = ap (λ w. or_else w (when (is_some (shows 0 Ls p)) errno.EEXIST)) parents ∙ ap (λ o. when (is_some o) errno.EEXIST) absent

-- an open is the machine's step, as far as the layers, where it makes its file
pub create-steps : (old new : Layers) (p : Path) (mode : ℕ) → mkdir_fault (layers_of old) p mode ≡ None → MakesLeaf old new p (content.File []) (new_attributes mode) → CreateSteps old new p mode
create-steps old new p mode fine made s h c flags =
    subst (λ (Ls : List Layer). MakesFile (upper_of new) Ls s c p flags mode) (sym (lowers-same old new made.lowers)) (law_of_file_made (upper_of old) (upper_of new) (lowers_of old) s h c p flags mode fine (made.gains h.layers))
