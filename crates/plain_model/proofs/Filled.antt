-- The upper as it shows over lower layers holds what the upper holds, and is a layer where that is one.
use Rattle.std.proofs.Common.{◌≡◌, ℕ, Bool, true, false, List, [], ◌∷◌, Option, None, Some, option_map, refl, sym, ap, ◌∙◌, is_some}
use Rattle.std.proofs.lemmas.Bool.{false≢true}
use Rattle.ov_base.specs.declared.bytes.Content.{Content}
use Rattle.ov_base.specs.declared.bytes.Content.TheVariants.{File, SymbolicLink}
use Rattle.plain_model.specs.Layers.{Path, Name, Object, Named, Inode, Layer, held, below, cuts, Shown, Folder, Contents, shows, through, under, base, is_file, file_or, content_over, fill, filled, AreLinks, IsLayer}

-- all but the inodes is the same by computation
same-held : (U : Layer) (lowers : List Layer) (p : Path) → held (filled U lowers) p ≡ held U p
same-held U lowers p = refl

same-below : (U : Layer) (lowers : List Layer) (p : Path) → below (filled U lowers) p ≡ below U p
same-below U lowers p = refl

same-cuts : (U : Layer) (lowers : List Layer) (p : Path) → cuts (filled U lowers) p ≡ cuts U p
same-cuts U lowers p = refl

same-through : (U : Layer) (lowers ls : List Layer) (p : Path) → through (filled U lowers) ls p ≡ through U ls p
same-through U lowers ls p = refl

same-under : (U : Layer) (lowers ls : List Layer) (n : Name) (p : Path) → under (filled U lowers) ls n p ≡ under U ls n p
same-under U lowers ls n p = refl

same-base : (U : Layer) (lowers ls : List Layer) (p : Path) → base (filled U lowers) ls p ≡ base U ls p
same-base U lowers ls p = refl

-- a file stays one, and a symbolic link is as it was
pub file-or-file : (c : Content) (s : Option Shown) → is_file c ≡ true → is_file (file_or c s) ≡ true
file-or-file c None h = h
file-or-file c (Some (Folder j k a)) h = h
file-or-file c (Some (Contents j k None)) h = h
file-or-file c (Some (Contents j k (Some i))) h = by i.content
  where
    by : (x : Content) → is_file (file_or c (Some (Contents j k (Some (record i { content = x }))))) ≡ true
    by (File bytes) = refl
    by (SymbolicLink target) = h

pub same-kind : (lowers : List Layer) (i : Inode) → is_file (fill lowers i).content ≡ is_file i.content
same-kind lowers i = by i.mark i.content
  where
    by : (m : Option Path) (c : Content) → is_file (content_over lowers m c) ≡ is_file c
    by None c = refl
    by (Some q) (File bytes) = file-or-file (File bytes) (shows 1 lowers q) refl
    by (Some q) (SymbolicLink target) = refl

-- a marked file has what the file has that is shown at its mark
pub marked-content : (lowers : List Layer) (q : Path) (bytes b : List ℕ) (j k : ℕ) (i : Inode) → shows 1 lowers q ≡ Some (Contents j k (Some i)) → i.content ≡ File b → content_over lowers (Some q) (File bytes) ≡ File b
marked-content lowers q bytes b j k i h f = ap (file_or (File bytes)) h ∙ by i.content f
  where
    by : (x : Content) → x ≡ File b → file_or (File bytes) (Some (Contents j k (Some (record i { content = x })))) ≡ File b
    by (File old) e = e
    by (SymbolicLink target) e = cc

some-map : (lowers : List Layer) (o : Option Inode) → is_some o ≡ true → is_some (option_map (fill lowers) o) ≡ true
some-map lowers None h = h
some-map lowers (Some i) h = refl

pub filled-layer : (U : Layer) (lowers : List Layer) → IsLayer U → IsLayer (filled U lowers)
filled-layer U lowers l = record {
  parents = l.parents;
  redirects = l.redirects;
  present = λ p k h. some-map lowers (U.inodes k) (l.present p k h);
  links = λ k i h. links k (U.inodes k) refl i h;
  paths = l.paths;
  finite = l.finite;
}
  where
    links : (k : ℕ) (o : Option Inode) → U.inodes k ≡ o → (i : Inode) → option_map (fill lowers) o ≡ Some i → AreLinks (filled U lowers) k i.links
    links k None e i h = cc
    links k (Some x) e i h =
        let n : x.links ≡ i.links = cc in
        let a : AreLinks U k x.links = l.links k x e in
        record { paths = a.paths; once = a.once; exact = a.exact; counted = sym n ∙ a.counted }
