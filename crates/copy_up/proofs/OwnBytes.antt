-- Marked files of the upper that get bytes of their own: what they show is what the lower file has at their mark.
use Rattle.std.proofs.Common.{◌≡◌, ℕ, zero, suc, List, [], ◌∷◌, Option, None, Some, IsSome, refl, sym, ap, ap₂, ◌∙◌, map, arith, true≢false}
use Rattle.std.specs.Option.{option_and_then}
use Rattle.std.specs.Prelude.{option_map}
use Rattle.ov_base.specs.declared.bytes.Content.{Content}
use Rattle.ov_base.specs.declared.bytes.Content.TheVariants.{File, SymbolicLink}
use Rattle.plain_model.specs.Layers.{Path, Inode, Layer, Shown, Folder, Contents, shows, file_or, content_over, fill, IsLayer}
use Rattle.plain_model.proofs.Uppers.{agree-where}
use Rattle.layer_tree.specs.ContentChange.{SetsBytes}
use Rattle.layer_tree.specs.Tree.{Tree, layer_of, inode_at, file_bytes, bytes_at, mark_at}
use Rattle.merged_lookup.specs.declared.layers.Layers.{Layers}
use Rattle.ov_base.specs.declared.place.Place.{Place}
use Rattle.merged_lookup.specs.Locating.{place_of}
use Rattle.merged_lookup.specs.Lower.{lower_inode, lower_bytes}
use Rattle.merged_lookup.specs.Marking.{file_content, place_if, file_place}
use Rattle.merged_lookup.specs.Merged.{trees, upper_of, lowers_of}
use Rattle.merged_lookup.proofs.Looking.{inode_in, inode-shown}
use Rattle.copy_up.specs.Showing.{StaysSound}
use Rattle.copy_up.proofs.Keeping.{stays-layers}
use Rattle.copy_up.proofs.OtherAttributes.{shown-from, thin-agree}

-- a file with this mark stands there
pub record IsMarked (o : Option Inode) (q : Path) : Type 0 where
  pub inode : Inode
  pub is : o ≡ Some inode
  pub mark : inode.mark ≡ Some q
  pub bytes : List ℕ
  pub content : inode.content ≡ File bytes

-- the content of a file
record IsFile (c : Content) : Type 0 where
  pub bytes : List ℕ
  pub is : c ≡ File bytes

file-is : (c : Content) → IsSome (file_bytes c) → IsFile c
file-is (File b) h = record { bytes = b; is = refl }
file-is (SymbolicLink t) h = absurd (true≢false (sym h))

marked-in : (o : Option Inode) (q : Path) → IsSome (option_and_then (λ (i : Inode). file_bytes i.content) o) → option_and_then (λ (i : Inode). i.mark) o ≡ Some q → IsMarked o q
marked-in None q file mark = cc
marked-in (Some i) q file mark = let f = file-is i.content file in record { inode = i; is = refl; mark = mark; bytes = f.bytes; content = f.is }

pub is-marked : (t : Tree) (key : ℕ) (q : Path) → IsSome (bytes_at t key) → mark_at t key ≡ Some q → IsMarked (inode_at t key) q
is-marked t key q file mark = marked-in (inode_at t key) q file mark

-- the inode of a lower layer is the one at its place
lower-in : (u : Tree) (ts : List Tree) (j k : ℕ) → lower_inode (map layer_of ts) (suc j) k ≡ inode_in (u ∷ ts) (suc j) k
lower-in u [] j k = refl
lower-in u (t ∷ ts) zero k = refl
lower-in u (t ∷ ts) (suc j) k = lower-in t ts j k

-- and the one that the lower layers show there
low-inode : (l : Layers) (q : Path) (j k : ℕ) (x : Option Inode) → shows 1 (lowers_of l) q ≡ Some (Contents j k x) → lower_inode (lowers_of l) j k ≡ x
low-inode l q zero k x h = absurd (omega (arith, shown-from 1 (lowers_of l) q (record { layer = 0; key = k }) (ap place_of h)))
low-inode l q (suc j) k x h = lower-in l.upper l.lowers.items j k ∙ inode-shown 1 (trees l) l.lowers.items refl q (suc j) k x h

-- the file at this place is shown at the mark, so a file with the mark has its bytes
pub record HasSource (Ls : List Layer) (q : Path) (d : Place) : Type 0 where
  pub bytes : List ℕ
  pub there : lower_bytes Ls d ≡ Some bytes
  pub shown : (raw : List ℕ) → content_over Ls (Some q) (File raw) ≡ File bytes

source-in : (Ls : List Layer) (q : Path) (d : Place) (j k : ℕ) (x : Inode) (c : Content) → Some d ≡ place_if (record { layer = j; key = k }) (file_content (Some (record x { content = c }))) → lower_inode Ls j k ≡ Some (record x { content = c }) → shows 1 Ls q ≡ Some (Contents j k (Some (record x { content = c }))) → HasSource Ls q d
source-in Ls q d j k x (File b) h low s =
    let same : d ≡ record { layer = j; key = k } = cc in
    record { bytes = b; there = ap (lower_bytes Ls) same ∙ ap (option_and_then (λ (i : Inode). file_bytes i.content)) low; shown = λ raw. ap (file_or (File raw)) s }
source-in Ls q d j k x (SymbolicLink t) h low s = cc

source-at : (l : Layers) (q : Path) (d : Place) (y : Option Shown) → shows 1 (lowers_of l) q ≡ y → Some d ≡ file_place y → HasSource (lowers_of l) q d
source-at l q d None e h = cc
source-at l q d (Some (Folder j k a)) e h = cc
source-at l q d (Some (Contents j k None)) e h = cc
source-at l q d (Some (Contents j k (Some x))) e h = source-in (lowers_of l) q d j k x x.content h (low-inode l q j k (Some x) e) e

pub has-source : (l : Layers) (q : Path) (d : Place) → Some d ≡ file_place (shows 1 (lowers_of l) q) → HasSource (lowers_of l) q d
has-source l q d h = source-at l q d (shows 1 (lowers_of l) q) refl h

module _ (l : Layers) (key : ℕ) (q : Path) (m : IsMarked (inode_at l.upper key) q) (i : Inode) (is : (upper_of l).inodes key ≡ Some i) where
  -- what the file shows
  shown-there : i.content ≡ content_over (lowers_of l) (Some q) (File m.bytes)
  shown-there =
      let two : Some (fill (lowers_of l) m.inode) ≡ Some i = sym (ap (option_map (fill (lowers_of l))) m.is) ∙ is in
      let one : fill (lowers_of l) m.inode ≡ i = cc in
      sym (ap (λ (x : Inode). x.content) one) ∙ ap₂ (content_over (lowers_of l)) m.mark m.content

  -- is what the lower file has
  pub shows-low : (d : Place) (b : List ℕ) → Some d ≡ file_place (shows 1 (lowers_of l) q) → lower_bytes (lowers_of l) d ≡ Some b → i.content ≡ File b
  shows-low d b source has =
      let s = has-source l q d source in
      let two : Some s.bytes ≡ Some b = sym s.there ∙ has in
      let one : s.bytes ≡ b = cc in
      shown-there ∙ s.shown m.bytes ∙ ap File one

-- layers whose upper gets bytes of a file stay sound
module _ (old new : Layers) (low : new.lowers ≡ old.lowers) (key : ℕ) (bytes : List ℕ) (s : SetsBytes (layer_of old.upper) (layer_of new.upper) key bytes) where
  pub sound-filled : (IsLayer (layer_of old.upper) → IsLayer (layer_of new.upper)) → StaysSound old new
  sound-filled keep = record {
    layers = stays-layers old new low keep;
    thin = thin-agree old new low (λ x. agree-where (layer_of old.upper) (layer_of new.upper) (λ _. Unit {0}) (λ k y u. tt) (λ y u. s.objects y) x tt) (λ x h. sym (s.objects x) ∙ h);
  }
