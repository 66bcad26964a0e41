-- What the lower layers show at a mark, and what a file with that mark shows.
use Rattle.std.proofs.Common.{◌≡◌, ℕ, List, [], ◌∷◌, not, Option, None, Some, refl, sym, ap, ◌∙◌, length, map, nat_eq}
use Rattle.std.specs.Option.{option_and_then, option_map}
use Rattle.ov_base.specs.declared.bytes.Content.{Content}
use Rattle.ov_base.specs.declared.bytes.Content.TheVariants.{File, SymbolicLink}
use Rattle.plain_model.specs.Layers.{Path, Name, Inode, Layer, Shown, Folder, Contents, shows, file_or, content_over}
use Rattle.layer_tree.specs.Tree.{Tree, inode_of, layer_of}
use Rattle.merged_lookup.specs.declared.found.Topmost.{Topmost}
use Rattle.merged_lookup.specs.declared.found.Topmost.TheVariants as shown
use Rattle.merged_lookup.specs.declared.layers.Layers.{Layers}
use Rattle.ov_base.specs.declared.place.Place.{Place}
use Rattle.merged_lookup.specs.Kept.{ShowsTopmost}
use Rattle.merged_lookup.specs.Merged.{trees, node_in, lowers_of}
use Rattle.merged_lookup.specs.Marking.{file_content, place_if, file_place, topmost_file}
use Rattle.merged_lookup.specs.Descent.{places_from, descend, first, place_shown, leads}
use Rattle.merged_lookup.proofs.Keeping.{lower-topmost}
use Rattle.merged_lookup.proofs.Looking.{inode_in, inode-shown}

-- the root is no file
pub root-none : (Ls : List Layer) → None ≡ file_place (shows 1 Ls [])
root-none [] = refl
root-none (L ∷ Ls) = refl

-- the file that is shown, if one is: what stands at the topmost place
pub topmost-file : (t : Tree) (us : List Tree) (q : Path) (o : Option Topmost) → ShowsTopmost (map layer_of us) q o → topmost_file (t ∷ us) o ≡ file_place (shows 1 (map layer_of us) q)
topmost-file t us q None h = sym (ap file_place h)
topmost-file t us q (Some (shown.Directory d)) h = sym (ap file_place h.1)
topmost-file t us q (Some (shown.Inode d)) h =
    let there : option_and_then inode_of (node_in (t ∷ us) d) ≡ h.0 = inode-shown 1 (t ∷ us) us refl q d.layer d.key h.0 h.1 in
    ap (λ x. place_if d (file_content x)) there ∙ sym (ap file_place h.1)

-- the file that a path shows, from the places of its parent
pub file-shown : (t : Tree) (us : List Tree) (q p : Path) (n : Name) (s z : List Place) (o : Option Topmost) → q ≡ n ∷ p → s ≡ places_from 1 (t ∷ us) p → z ≡ s →
    option_map place_shown o ≡ first (t ∷ us) z n → leads o ≡ not (nat_eq (length (descend (t ∷ us) z n)) 0) → topmost_file (t ∷ us) o ≡ file_place (shows 1 (map layer_of us) q)
file-shown t us q p n s z o path is same place directory =
    topmost-file t us (n ∷ p) o (lower-topmost t us p n z o (same ∙ is) place directory) ∙ ap (λ r. file_place (shows 1 (map layer_of us) r)) (sym path)

place-of : (p d : Place) (o : Option Content) → Some d ≡ place_if p o → d ≡ p
place-of p d None h = cc
place-of p d (Some c) h = cc

-- a file that is shown is read whatever else would be
file-read : (p d : Place) (j k : ℕ) (b : Content) (x : Inode) → Some d ≡ place_if p (file_content (Some x)) → Some (file_or b (Some (Contents j k (Some x)))) ≡ file_content (Some x)
file-read p d j k b x = by x.content
  where
    by : (c : Content) → Some d ≡ place_if p (file_content (Some (record x { content = c }))) → Some (file_or b (Some (Contents j k (Some (record x { content = c }))))) ≡ file_content (Some (record x { content = c }))
    by (File bytes) h = refl
    by (SymbolicLink target) h = cc

-- what is read of the file that a path shows is what stands at its place
pub content-there : (l : Layers) (q : Path) (d : Place) (b : Content) (y : Option Shown) → shows 1 (lowers_of l) q ≡ y → Some d ≡ file_place y →
    Some (file_or b y) ≡ file_content (option_and_then inode_of (node_in (trees l) d))
content-there l q d b None e h = cc
content-there l q d b (Some (Folder j k a)) e h = cc
content-there l q d b (Some (Contents j k None)) e h = cc
content-there l q d b (Some (Contents j k (Some x))) e h =
    let here : Place = record { layer = j; key = k } in
    let same : d ≡ here = place-of here d (file_content (Some x)) h in
    let there : inode_in (trees l) j k ≡ Some x = inode-shown 1 (trees l) l.lowers.items refl q j k (Some x) e in
    file-read here d j k b x h ∙ ap file_content (sym there) ∙ ap (λ z. file_content (option_and_then inode_of (node_in (trees l) z))) (sym same)

-- a marked file is read through its mark
pub over-file : (Ls : List Layer) (q : Path) (c : Content) (bytes : List ℕ) → c ≡ File bytes → content_over Ls (Some q) c ≡ file_or c (shows 1 Ls q)
over-file Ls q c bytes e = ap (content_over Ls (Some q)) e ∙ sym (ap (λ z. file_or z (shows 1 Ls q)) e)
