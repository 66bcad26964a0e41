-- What a change makes of a raw upper it makes of the filled one.
use Rattle.std.proofs.Common.{◌≡◌, ℕ, List, Option, None, Some, option_map, ap, ◌∙◌}
use Rattle.ov_base.specs.declared.attributes.Attributes.{Attributes}
use Rattle.ov_base.specs.declared.bytes.Content.TheVariants.{File}
use Rattle.plain_model.specs.Layers.{Path, Inode, Layer, Contents, below, shows, content_over, fill, filled}
use Rattle.mount_laws.specs.Leaves.{PlacesLeaf}
use Rattle.mount_laws.specs.Linking.{AddsName}
use Rattle.mount_laws.specs.Altered.{AltersInode, AltersDirectory}
use Rattle.mount_laws.specs.OpenFiles.{WritesInode, DropsInode}
use Rattle.plain_model.proofs.Filled.{marked-content}

module _ (lowers : List Layer) where
  up : Option Inode → Option Inode
  up = option_map (fill lowers)

  pub raised-leaf : (U V : Layer) (p : Path) (k : ℕ) (i : Inode) → PlacesLeaf U V p k i → PlacesLeaf (filled U lowers) (filled V lowers) p k (fill lowers i)
  raised-leaf U V p k i m = record {
    here = m.here;
    beneath = m.beneath;
    elsewhere = m.elsewhere;
    free = ap (option_map (fill lowers)) m.free;
    inode = ap (option_map (fill lowers)) m.inode;
    one = m.one;
    inodes = λ j h. ap (option_map (fill lowers)) (m.inodes j h);
  }

  pub raised-inode : (U V : Layer) (p : Path) (a : Attributes) → AltersInode U V p a → AltersInode (filled U lowers) (filled V lowers) p a
  raised-inode U V p a m = record {
    number = m.number;
    inode = fill lowers m.inode;
    named = m.named;
    before = ap (option_map (fill lowers)) m.before;
    now = ap (option_map (fill lowers)) m.now;
    inodes = λ j h. ap (option_map (fill lowers)) (m.inodes j h);
    objects = m.objects;
  }

  pub raised-directory : (U V : Layer) (p : Path) (a : Attributes) → AltersDirectory U V p a → AltersDirectory (filled U lowers) (filled V lowers) p a
  raised-directory U V p a m = record {
    number = m.number;
    old = m.old;
    opaque = m.opaque;
    redirect = m.redirect;
    before = m.before;
    now = m.now;
    elsewhere = m.elsewhere;
    inodes = λ j. ap (option_map (fill lowers)) (m.inodes j);
  }

  pub raised-name : (U V : Layer) (p q : Path) → AddsName U V p q → AddsName (filled U lowers) (filled V lowers) p q
  raised-name U V p q m = record {
    number = m.number;
    inode = fill lowers m.inode;
    source = m.source;
    before = ap (option_map (fill lowers)) m.before;
    now = ap (option_map (fill lowers)) m.now;
    inodes = λ j h. ap (option_map (fill lowers)) (m.inodes j h);
    here = m.here;
    beneath = m.beneath;
    elsewhere = m.elsewhere;
  }

  pub raised-written : (U V : Layer) (k : ℕ) (bytes : List ℕ) → (w : WritesInode U V k bytes) → w.inode.mark ≡ None → WritesInode (filled U lowers) (filled V lowers) k bytes
  raised-written U V k bytes w unmarked = record {
    inode = fill lowers w.inode;
    before = ap (option_map (fill lowers)) w.before;
    now = ap (option_map (fill lowers)) w.now ∙ ap {A = Option Path} (λ q. Some (record w.inode { content = content_over lowers q (File bytes) })) unmarked;
    inodes = λ j h. ap (option_map (fill lowers)) (w.inodes j h);
    objects = w.objects;
  }

  pub raised-dropped : (U V : Layer) (k : ℕ) → DropsInode U V k → DropsInode (filled U lowers) (filled V lowers) k
  raised-dropped U V k m = record { gone = ap (option_map (fill lowers)) m.gone; inodes = λ j h. ap (option_map (fill lowers)) (m.inodes j h); objects = m.objects }

  -- a marked copy of a file that lower layers show at the spelling has its bytes
  pub copied-content : (U : Layer) (p : Path) (bytes b : List ℕ) (j k : ℕ) (i : Inode) → shows 1 lowers (below U p) ≡ Some (Contents j k (Some i)) → i.content ≡ File b → content_over lowers (Some (below U p)) (File bytes) ≡ File b
  copied-content U p bytes b j k i h f = marked-content lowers (below U p) bytes b j k i h f
