-- What stays or changes in the raw upper, over lower layers that stay, stays or changes so in the filled one.
use Rattle.std.proofs.Common.{◌≡◌, ◌<◌, ℕ, zero, suc, ◌-◌, true, List, Option, None, Some, refl, sym, ap, ◌∙◌, subst, arith}
use Rattle.std.specs.Prelude.{option_map}
use Rattle.ov_base.specs.declared.attributes.Attributes.{Attributes}
use Rattle.ov_base.specs.declared.bytes.Content.{Content}
use Rattle.ov_base.specs.declared.bytes.Content.TheVariants as content
use Rattle.plain_model.specs.Layers.{Path, Named, Inode, Layer, Shown, Contents, held, shows, content_over, fill, filled, file_or, is_file}
use Rattle.plain_model.proofs.Filled.{file-or-file, same-kind}
use Rattle.layer_tree.specs.Tree.{layer_of}
use Rattle.mount_laws.specs.Attributes.{inode_attributes}
use Rattle.mount_laws.specs.Leaves.{inode_target}
use Rattle.mount_laws.specs.Looks.{is_link_inode}
use Rattle.mount_laws.specs.StayOpen.{AltersNamed, LosesLink}
use Rattle.merged_lookup.specs.declared.layers.Layers.{Layers}
use Rattle.merged_lookup.specs.Merged.{upper_of, lowers_of, fill_at}
use Rattle.copy_up.proofs.Keeping.{lowers-same}
use Rattle.mount_calls.specs.Living.{NamesFile}

-- what is a file has bytes
pub has-bytes : (c : Content) → is_file c ≡ true → (bytes : List ℕ) × (c ≡ content.File bytes)
has-bytes (content.File bytes) h = (bytes, refl)
has-bytes (content.SymbolicLink target) h = cc

-- what is told alike of all files is told of a filled inode as of the raw one
told-filled : {A : Type 0} (f : Content → A) → ((x y : List ℕ) → f (content.File x) ≡ f (content.File y)) → (lowers : List Layer) (i : Inode) → f (fill lowers i).content ≡ f i.content
told-filled f alike lowers i = by i.mark i.content
  where
    by : (m : Option Path) (c : Content) → f (content_over lowers m c) ≡ f c
    by None c = refl
    by (Some q) (content.SymbolicLink target) = refl
    by (Some q) (content.File bytes) =
        let there = has-bytes (file_or (content.File bytes) (shows 1 lowers q)) (file-or-file (content.File bytes) (shows 1 lowers q) refl) in
        ap f there.1 ∙ alike there.0 bytes

-- so its attributes, its target, and whether it is a symbolic link
pub attributes-filled : (j : ℕ) (lowers : List Layer) (o : Option Inode) → inode_attributes (fill_at j lowers o) ≡ inode_attributes o
attributes-filled zero lowers None = refl
attributes-filled zero lowers (Some i) = refl
attributes-filled (suc j) lowers o = refl

pub link-filled : (j : ℕ) (lowers : List Layer) (o : Option Inode) → is_link_inode (fill_at j lowers o) ≡ is_link_inode o
link-filled zero lowers None = refl
link-filled zero lowers (Some i) = told-filled (λ c. is_link_inode (Some (record i { content = c }))) (λ x y. refl) lowers i
link-filled (suc j) lowers o = refl

-- an inode of a lower layer shows as it is
pub below-raw : (s : Option Shown) (j k : ℕ) (lowers : List Layer) (o : Option Inode) → 0 < j → s ≡ Some (Contents j k (fill_at j lowers o)) → s ≡ Some (Contents j k o)
below-raw s zero k lowers o low is = absurd (omega arith)
below-raw s (suc j) k lowers o low is = is

-- over the same lower layers
module _ (lowers : List Layer) where
  -- an inode that loses a link
  raised-lost : (U V : Layer) (p : Path) (j : ℕ) → LosesLink U V p j → LosesLink (filled U lowers) (filled V lowers) p j
  raised-lost U V p j w = record {
    fewer = λ i named is. by (U.inodes j) refl i named is;
    same = λ away. ap (option_map (fill lowers)) (w.same away);
  }
    where
      by : (o : Option Inode) → U.inodes j ≡ o → (i : Inode) → held U p ≡ Some (Named j) → option_map (fill lowers) o ≡ Some i → option_map (fill lowers) (V.inodes j) ≡ Some (record i { links = i.links - 1 })
      by None e i named is = cc
      by (Some x) e i named is =
          let same : fill lowers x ≡ i = cc in
          ap (option_map (fill lowers)) (w.fewer x named e) ∙ ap (λ (y : Inode). Some (record y { links = y.links - 1 })) same

  -- one that gets other attributes where a path names it
  raised-altered : (U V : Layer) (p : Path) (a : Attributes) (j : ℕ) → AltersNamed U V p a j → AltersNamed (filled U lowers) (filled V lowers) p a j
  raised-altered U V p a j w = record {
    names = w.names;
    altered = λ i named is. by (U.inodes j) refl i named is;
    same = λ away. ap (option_map (fill lowers)) (w.same away);
  }
    where
      by : (o : Option Inode) → U.inodes j ≡ o → (i : Inode) → held U p ≡ Some (Named j) → option_map (fill lowers) o ≡ Some i → option_map (fill lowers) (V.inodes j) ≡ Some (record i { attributes = a })
      by None e i named is = cc
      by (Some x) e i named is =
          let same : fill lowers x ≡ i = cc in
          ap (option_map (fill lowers)) (w.altered x named e) ∙ ap (λ (y : Inode). Some (record y { attributes = a })) same

  -- a path that names a file of the raw upper names one of the filled one
  pub filled-names : (U : Layer) (p : Path) (k : ℕ) → NamesFile U p k → NamesFile (filled U lowers) p k
  filled-names U p k f =
      let there = has-bytes (fill lowers f.inode).content (same-kind lowers f.inode ∙ ap is_file f.file) in
      record { inode = fill lowers f.inode; bytes = there.0; named = f.named; stored = ap (option_map (fill lowers)) f.stored; file = there.1 }

  -- and the other way around
  pub raw-names : (U : Layer) (p : Path) (k : ℕ) → NamesFile (filled U lowers) p k → NamesFile U p k
  raw-names U p k f = by (U.inodes k) refl f.stored
    where
      by : (o : Option Inode) → U.inodes k ≡ o → option_map (fill lowers) o ≡ Some f.inode → NamesFile U p k
      by None e is = cc
      by (Some x) e is =
          let same : fill lowers x ≡ f.inode = cc in
          let there = has-bytes x.content (sym (same-kind lowers x) ∙ ap (λ (y : Inode). is_file y.content) same ∙ ap is_file f.file) in
          record { inode = x; bytes = there.0; named = f.named; stored = e; file = there.1 }

-- layers whose lower ones stay
module _ (old new : Layers) (low : new.lowers ≡ old.lowers) where
  -- the new upper is filled as over the old lower layers
  filled-over : filled (layer_of new.upper) (lowers_of old) ≡ upper_of new
  filled-over = ap (filled (layer_of new.upper)) (sym (lowers-same old new low))

  pub link-lost : (p : Path) (j : ℕ) → LosesLink (layer_of old.upper) (layer_of new.upper) p j → LosesLink (upper_of old) (upper_of new) p j
  link-lost p j w = subst (λ (L : Layer). LosesLink (upper_of old) L p j) filled-over (raised-lost (lowers_of old) (layer_of old.upper) (layer_of new.upper) p j w)

  pub named-altered : (p : Path) (a : Attributes) (j : ℕ) → AltersNamed (layer_of old.upper) (layer_of new.upper) p a j → AltersNamed (upper_of old) (upper_of new) p a j
  named-altered p a j w = subst (λ (L : Layer). AltersNamed (upper_of old) L p a j) filled-over (raised-altered (lowers_of old) (layer_of old.upper) (layer_of new.upper) p a j w)
