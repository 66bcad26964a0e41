-- What the machine's handle on an open file sees: the bytes, the attributes and the links of the inode that the file is.
use Rattle.std.proofs.Common.{◌≡◌, ℕ, true, false, List, [], length, Option, None, Some, ap, ◌∙◌, unwrap_or, arith}
use Rattle.mount_calls.proofs.Words.{Attributes, FileSource, Handle, Inode, is_folder, Layer, Lower, Node, OpenFile, Path, Tree, Upper}
use Rattle.ov_base.specs.declared.bytes.Content.TheVariants as content
use Rattle.ov_base.specs.declared.reply.ObjectKind.TheVariants as kind
use Rattle.plain_model.specs.Machine.{bytes_seen}
use Rattle.plain_model.specs.Replies.{capped, stat_by, stat_seen}
use Rattle.ov_base.specs.declared.place.Place.{Place}
use Rattle.merged_lookup.specs.Lower.{lower_bytes}
use Rattle.mount_calls.specs.Files.{seen_inode, is_leaf, with_file, with_kept, IsOf, IsFile}

-- a file is no directory
pub leaf-not-folder : (o : Option Node) → is_leaf o ≡ true → is_folder o ≡ false
leaf-not-folder o h = grind arith

-- what a handle on the inode of an open file sees of it
pub record SeesOf (U : Layer) (lowers : List Layer) (t : Tree) (source : FileSource) (low : Option Place) (h : Handle) : Type 0 where
  pub bytes : List ℕ
  pub attributes : Attributes
  pub links : ℕ
  pub mark : Option Path
  pub inode : seen_inode U lowers source low ≡ Some (record { content = content.File bytes; attributes = attributes; links = links; mark = mark })
  pub seen : bytes_seen h.view (t h.node) ≡ bytes
  pub status : stat_seen h.view (t h.node) ≡ stat_by kind.File attributes (length bytes) (capped links)
  pub folder : is_folder (t h.node) ≡ false

-- what a handle on an open file sees of it
abbrev pub Sees : Layer → List Layer → Tree → OpenFile → Handle → Type 0
Sees U lowers t f h = SeesOf U lowers t f.source f.low h

-- the node of such a handle is a file
source-leaf : (U : Layer) (lowers : List Layer) (t : Tree) (source : FileSource) (low : Option Place) (h : Handle) → IsOf U lowers t source low h → is_leaf (t h.node) ≡ true
source-leaf U lowers t (Upper k) low h s = ap is_leaf s.0.node
source-leaf U lowers t (Lower j k) low h s = s.0.file

-- the node of a handle on an open file is a file
pub file-leaf : (U : Layer) (lowers : List Layer) (t : Tree) (f : OpenFile) (h : Handle) → IsFile U lowers t f h → is_leaf (t h.node) ≡ true
file-leaf U lowers t f h x = source-leaf U lowers t f.source f.low h x.source

-- so it is no directory
pub file-not-folder : (U : Layer) (lowers : List Layer) (t : Tree) (f : OpenFile) (h : Handle) → IsFile U lowers t f h → is_folder (t h.node) ≡ false
file-not-folder U lowers t f h x = leaf-not-folder (t h.node) (file-leaf U lowers t f h x)

-- with the bytes of a lower file an inode is seen so
kept-inode : (lowers : List Layer) (d : Place) (o : Option Inode) (i : Inode) (bytes : List ℕ) → o ≡ Some i → lower_bytes lowers d ≡ Some bytes → with_kept lowers (Some d) o ≡ Some (with_file bytes i)
kept-inode lowers d o i bytes is low = ap (with_kept lowers (Some d)) is ∙ ap (λ (b : Option (List ℕ)). Some (with_file (unwrap_or b []) i)) low

-- a handle on the inode of an open file sees it, as it is or as it was
source-sees : (U : Layer) (lowers : List Layer) (t : Tree) (source : FileSource) (low : Option Place) (h : Handle) → IsOf U lowers t source low h → SeesOf U lowers t source low h
source-sees U lowers t (Upper k) None h s = record {
  bytes = s.0.bytes;
  attributes = s.0.attributes;
  links = s.0.links;
  mark = s.0.mark;
  inode = s.0.inode;
  seen = λ i. bytes_seen (s.1 i) (s.0.node i);
  status = λ i. stat_seen (s.1 i) (s.0.node i);
  folder = ap is_folder s.0.node;
}
source-sees U lowers t (Upper k) (Some d) h s = record {
  bytes = s.1.bytes;
  attributes = s.0.attributes;
  links = s.0.links;
  mark = s.0.mark;
  inode = kept-inode lowers d (U.inodes k) (record { content = content.File s.0.bytes; attributes = s.0.attributes; links = s.0.links; mark = s.0.mark }) s.1.bytes s.0.inode s.1.low;
  seen = λ i. bytes_seen (s.1.view i) (s.0.node i);
  status = λ i. stat_seen (s.1.view i) (s.0.node i);
  folder = ap is_folder s.0.node;
}
source-sees U lowers t (Lower j k) low h s = record {
  bytes = s.0.bytes;
  attributes = s.0.attributes;
  links = s.0.links;
  mark = s.0.mark;
  inode = ap (λ o. seen_inode U lowers (Lower j k) o) s.1 ∙ s.0.inode;
  seen = ap (λ v. bytes_seen v (t h.node)) s.0.view;
  status = ap (λ v. stat_seen v (t h.node)) s.0.view;
  folder = leaf-not-folder (t h.node) s.0.file;
}

-- and so does each handle on an open file
pub file-sees : (U : Layer) (lowers : List Layer) (t : Tree) (f : OpenFile) (h : Handle) → IsFile U lowers t f h → Sees U lowers t f h
file-sees U lowers t f h x = source-sees U lowers t f.source f.low h x.source
