-- What a new directory of the upper shows, and where it shows.
use Rattle.std.proofs.Common.{◌≡◌, ◌≢◌, ℕ, Bool, false, ◌||◌, [], ◌∷◌, ◌++◌, Option, None, Some, sym, ap, ap₂, ◌∙◌, subst, length, length-append, inl, inr, arith}
use Rattle.ov_base.specs.declared.attributes.Attributes.{Attributes}
use Rattle.plain_model.specs.Layers.{Name, Path, Object, Directory, Inode, Layer, held, spell, below, cut, cuts, Shown, over, unless, shows, through, under, is_directory}
use Rattle.plain_model.specs.Laws.{IsOutside}
use Rattle.plain_model.specs.Tree.{SeenBranch, merged}
use Rattle.plain_model.proofs.Paths.{place, outside-parent, parent-outside}
use Rattle.plain_model.proofs.Uppers.{meld, merged-meld, AgreeTo, agree-where, under-agree, merged-agree}
use Rattle.layer_tree.specs.Tree.{layer_of, SetsPath, inode_at}
use Rattle.layer_tree.specs.Nameless.{KeepsObjects}
use Rattle.layer_tree.proofs.Nameless.{keeps_then, vacant_before}
use Rattle.slab.specs.Slab.{get}
use Rattle.ov_base.specs.declared.place.Place.{Place}
use Rattle.merged_lookup.specs.Merged.{top_of, upper_of, lowers_of, layers_of, IsStackOf}
use Rattle.copy_up.specs.Showing.{is_object, ShowsSame, HasPlace, GainsParents}
use Rattle.copy_up.proofs.Frames.{others-then}
use Rattle.merged_lookup.specs.declared.stack.Stack.{Stack}
use Rattle.merged_lookup.specs.declared.layers.Layers.{Layers}
use Rattle.make_remove.specs.Making.{MakesDirectory, new_attributes}
use Rattle.copy_up.proofs.Placing.{free-directory, nothing-held, nothing-below, free-absent}
use Rattle.copy_up.proofs.Raising.{lowers-same, inodes-raised, path-raised}
use Rattle.copy_up.proofs.Keeping.{place-of}

free-through : (inodes : ℕ → Option Inode) (o : Option Object) (c : Bool) (s : Path → Option Shown) (n : Name) (q : Path) → is_object o ≡ false → over 0 inodes o (unless (cut o c) (s (spell o n q))) ≡ None → unless (cut o c) (s (spell o n q)) ≡ None
free-through inodes o c s n q f h = grind arith

opaque-closed : (o c : Bool) (x : Option Shown) → o ≡ is_directory (unless c x) → is_directory (unless (o || c) x) ≡ false
opaque-closed o c x e = grind arith

-- a directory made where nothing is shown, opaque exactly where the lower layers show one
module _ (l : Layers) (V : Layer) (n : Name) (q : Path) (key : ℕ) (a : Attributes) (o : Bool) (free : is_object (held (layer_of l.upper) (n ∷ q)) ≡ false) (absent : shows 0 (layers_of l) (n ∷ q) ≡ None) (is_opaque : o ≡ is_directory (under (upper_of l) (lowers_of l) n q)) (sets : SetsPath (upper_of l) V (n ∷ q) (Directory key a o None)) (inodes : V.inodes ≡ (upper_of l).inodes) where
  agree-outside : (x : Path) → IsOutside (n ∷ q) x → AgreeTo (upper_of l) V x
  agree-outside = agree-where (upper_of l) V (IsOutside (n ∷ q)) (outside-parent (n ∷ q)) (λ x h. sets.elsewhere x (λ e. h [] e))

  was-bare : (k : Name) (r : Path) → held (layer_of l.upper) (k ∷ r ++ (n ∷ q)) ≡ None
  was-bare = nothing-held l.upper (n ∷ q) (free-directory (held (layer_of l.upper) (n ∷ q)) free)

  was-closed : is_directory (through (upper_of l) (lowers_of l) (n ∷ q)) ≡ false
  was-closed = ap is_directory (free-through (upper_of l).inodes (held (layer_of l.upper) (n ∷ q)) (cuts (upper_of l) q) (shows 1 (lowers_of l)) n (below (upper_of l) q) free absent)

  now-bare : (k : Name) (r : Path) → held V (k ∷ r ++ (n ∷ q)) ≡ None
  now-bare k r = sets.elsewhere (k ∷ r ++ (n ∷ q)) (λ e. absurd (omega (arith, simp length-append at (ap length e)))) ∙ was-bare k r

  now-closed : is_directory (through V (lowers_of l) (n ∷ q)) ≡ false
  now-closed =
      let e : AgreeTo (upper_of l) V q = agree-outside q (parent-outside n q) in
      ap (λ z. is_directory (unless (cut z (cuts V q)) (shows 1 (lowers_of l) (spell z n (below V q))))) sets.there
      ∙ ap₂ (λ c s. is_directory (unless (o || c) (shows 1 (lowers_of l) (n ∷ s)))) e.cut_alike e.spelled
      ∙ opaque-closed o (cuts (upper_of l) q) (shows 1 (lowers_of l) (n ∷ below (upper_of l) q)) is_opaque

  -- is shown, empty
  pub made-here : merged V (lowers_of l) (n ∷ q) ≡ Some (SeenBranch a false)
  made-here =
      merged-meld V (lowers_of l) (n ∷ q)
      ∙ ap (λ z. meld V.inodes z (through V (lowers_of l) (n ∷ q))) sets.there
      ∙ ap (λ b. Some (SeenBranch a b)) now-closed

  below-same : (r x : Path) → x ≢ n ∷ q → x ≡ r ++ (n ∷ q) → merged V (lowers_of l) x ≡ merged (upper_of l) (lowers_of l) x
  below-same [] x ne e = absurd (ne e)
  below-same (k ∷ r) x ne e =
      ap (merged V (lowers_of l)) e
      ∙ nothing-below V l.lowers.items (n ∷ q) now-closed now-bare k r
      ∙ sym (nothing-below (upper_of l) l.lowers.items (n ∷ q) was-closed was-bare k r)
      ∙ sym (ap (merged (upper_of l) (lowers_of l)) e)

  -- leaves what is shown elsewhere
  pub made-elsewhere : (x : Path) → x ≢ n ∷ q → merged V (lowers_of l) x ≡ merged (upper_of l) (lowers_of l) x
  made-elsewhere x ne = elim (place (n ∷ q) x) [
    | inl b ↦ below-same b.0 x ne b.1
    | inr out ↦ merged-agree (upper_of l) V (lowers_of l) x inodes (sets.elsewhere x ne) (agree-outside x out)
  ]

-- what the lower layers show at a name stays
pub under-same : (start old : Layers) (n : Name) (q : Path) → ShowsSame start old → under (layer_of old.upper) (lowers_of old) n q ≡ under (layer_of start.upper) (lowers_of start) n q
under-same start old n q s =
    ap (λ Ls. under (layer_of old.upper) Ls n q) (lowers-same start old s.lowers)
    ∙ under-agree (layer_of start.upper) (layer_of old.upper) (lowers_of start) n q (record { cut_alike = s.passes.cuts q; spelled = s.passes.spelling q })

makes-at : (start old new : Layers) (q : Path) (n : Name) (key mode : ℕ) (o : Bool) → ShowsSame start old → GainsParents start old (n ∷ q) → get old.upper key ≡ None → KeepsObjects old.upper new.upper None → new.lowers ≡ old.lowers → ((k : ℕ) → inode_at new.upper k ≡ inode_at old.upper k) → shows 0 (layers_of start) (n ∷ q) ≡ None → o ≡ is_directory (under (layer_of old.upper) (lowers_of old) n q) → SetsPath (layer_of old.upper) (layer_of new.upper) (n ∷ q) (Directory key (new_attributes mode) o None) → MakesDirectory start new (n ∷ q) mode
makes-at start old new q n key mode o same gains vacant kept low inodes absent opaque sets =
    let I : (upper_of new).inodes ≡ (upper_of old).inodes = inodes-raised old new low inodes in
    let S : SetsPath (upper_of old) (upper_of new) (n ∷ q) (Directory key (new_attributes mode) o None) = path-raised old new low (n ∷ q) (Directory key (new_attributes mode) o None) sets in
    let none : shows 0 (layers_of old) (n ∷ q) ≡ None = same.absent (n ∷ q) absent in
    let free : is_object (held (layer_of old.upper) (n ∷ q)) ≡ false = free-absent (upper_of old).inodes (held (layer_of old.upper) (n ∷ q)) (through (layer_of old.upper) (lowers_of old) (n ∷ q)) none in
    record {
      lowers = low ∙ same.lowers;
      key = key;
      held_there = sets.there ∙ ap (λ b. Some (Directory key (new_attributes mode) b None)) (opaque ∙ ap is_directory (under-same start old n q same));
      shown_there = ap (λ Ls. merged (upper_of new) Ls (n ∷ q)) (lowers-same old new low) ∙ made-here old (upper_of new) n q key (new_attributes mode) o free none opaque S I;
      elsewhere = λ x ne. ap (λ Ls. merged (upper_of new) Ls x) (lowers-same old new low) ∙ made-elsewhere old (upper_of new) n q key (new_attributes mode) o free none opaque S I x ne ∙ same.sights x;
      vacant = vacant_before start.upper old.upper None gains.objects key vacant;
      others = others-then start old new (n ∷ q) gains low (λ x out. sets.elsewhere x (λ e. out [] e))
          (λ m r. ap is_object (was-bare old (upper_of new) n q key (new_attributes mode) o free none opaque S I m r))
          (now-bare old (upper_of new) n q key (new_attributes mode) o free none opaque S I);
      objects = keeps_then start.upper old.upper new.upper None gains.objects kept;
    }

-- a new directory where nothing is shown, in a parent that the upper has
pub makes : (start old new : Layers) (p q : Path) (n : Name) (key mode : ℕ) (o : Bool) → p ≡ n ∷ q → ShowsSame start old → GainsParents start old (n ∷ q) → get old.upper key ≡ None → KeepsObjects old.upper new.upper None → new.lowers ≡ old.lowers → ((k : ℕ) → inode_at new.upper k ≡ inode_at old.upper k) → shows 0 (layers_of start) p ≡ None → o ≡ is_directory (under (layer_of old.upper) (lowers_of old) n q) → SetsPath (layer_of old.upper) (layer_of new.upper) (n ∷ q) (Directory key (new_attributes mode) o None) → MakesDirectory start new p mode
makes start old new p q n key mode o e same gains vacant kept low inodes absent opaque sets = subst (λ (z : Path). MakesDirectory start new z mode) (sym e) (makes-at start old new q n key mode o same gains vacant kept low inodes (sym (ap (shows 0 (layers_of start)) e) ∙ absent) opaque sets)

-- the place of a new directory where nothing is shown
pub absent-place : (start old : Layers) (p q : Path) (n : Name) (parent : Stack) (dir : Place) → p ≡ n ∷ q → ShowsSame start old → shows 0 (layers_of start) p ≡ None → IsStackOf old q parent → (top_of parent.places.items).layer ≡ 0 → dir ≡ top_of parent.places.items → HasPlace (layer_of old.upper) dir.key n q
absent-place start old p q n parent dir e same absent is top is_dir =
    let none : shows 0 (layers_of old) (n ∷ q) ≡ None = same.absent (n ∷ q) (sym (ap (shows 0 (layers_of start)) e) ∙ absent) in
    let free : is_object (held (layer_of old.upper) (n ∷ q)) ≡ false = free-absent (upper_of old).inodes (held (layer_of old.upper) (n ∷ q)) (through (layer_of old.upper) (lowers_of old) (n ∷ q)) none in
    subst (λ (d : Place). HasPlace (layer_of old.upper) d.key n q) (sym is_dir) (place-of old q parent n is top free)
