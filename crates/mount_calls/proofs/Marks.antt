-- Files of the upper with a mark and without one: what shows of them, and which bytes are their own.
use Rattle.std.proofs.Common.{◌≡◌, ℕ, zero, suc, true, false, List, [], ◌∷◌, Option, None, Some, Result, Ok, Err, refl, sym, ap, ◌∙◌, subst, ◌⊎◌, inr, ◌<◌, is_none, is_some, map, nat_eq, arith}
use Rattle.std.specs.Result.{OnOk}
use Rattle.merged_lookup.specs.Lower.{lower_bytes, lower_inode}
use Rattle.merged_lookup.specs.Marking.{file_place, inode_over}
use Rattle.merged_lookup.specs.Merged.{fill_at, upper_of}
use Rattle.merged_lookup.proofs.Filled.{IsInodeOf, raw-inode}
use Rattle.merged_lookup.proofs.Looking.{inode_in, inode-shown}
use Rattle.mount_calls.proofs.Words.{AllocError, Content, Contents, file_bytes, FileSource, Inode, inode_of, IsLive, Layer, layer_of, Layers, layers_of, Lower, lowers_of, node_in, NodeId, option_and_then, option_map, Path, Place, shows, shows_link, ShowsInode, Tree, trees, Upper}
use Rattle.ov_base.specs.declared.bytes.Content.TheVariants as content
use Rattle.plain_model.specs.Layers.{content_over, fill, held, is_file}
use Rattle.plain_model.proofs.Filled.{same-kind}
use Rattle.slab.specs.Slab.{get}
use Rattle.plain_model.specs.Tree.{is_data_low}
use Rattle.copy_up.proofs.OwnBytes.{HasSource, has-source}
use Rattle.copy_up.proofs.Raising.{IsFilled, filled-at}
use Rattle.layer_tree.specs.declared.node.Inode.{Inode as StoredInode}
use Rattle.layer_tree.specs.declared.node.Node.TheVariants as node
use Rattle.layer_tree.specs.Tree.{inode_at, mark_at, own_at, unmarked_bytes}
use Rattle.layer_tree.specs.Tree.{Tree as LayerTree}
use Rattle.layer_tree.specs.ContentChange.{SetsBytes}
use Rattle.mount_laws.specs.OpenFiles.{ChangesFile, WritesInode}
use Rattle.mount_laws.specs.Looks.{is_link_inode}
use Rattle.mount_laws.proofs.Raised.{raised-written}
use Rattle.notice_laws.specs.Objects.{IsUpper}
use Rattle.mount_calls.specs.Files.{
  bytes_of_inode,
  place_below,
  source_inode,
  source_place,
  with_file,
}
use Rattle.mount_calls.specs.Lacks.{data_at}
use Rattle.mount_calls.specs.Living.{SetsFile}
use Rattle.mount_calls.proofs.Raising.{has-bytes, link-filled}

-- what is shown at a place is the inode there, as it shows
pub over-shown : (l : Layers) (p : Path) (d : Place) (i : Option Inode) → shows 0 (layers_of l) p ≡ Some (Contents d.layer d.key i) → inode_over l d ≡ i
over-shown l p d i h =
    let r : IsInodeOf (lowers_of l) (shows 0 (map layer_of (trees l)) p) d.layer d.key i = raw-inode l p d.layer d.key i h in
    ap (fill_at d.layer (lowers_of l)) (inode-shown 0 (trees l) (trees l) refl p d.layer d.key r.raw r.is) ∙ sym r.same

-- the inode of a lower layer is the one at its place
pub lower-in : (u : LayerTree) (ts : List LayerTree) (j k : ℕ) → lower_inode (map layer_of ts) (suc j) k ≡ inode_in (u ∷ ts) (suc j) k
lower-in u [] j k = refl
lower-in u (t ∷ ts) zero k = refl
lower-in u (t ∷ ts) (suc j) k = lower-in t ts j k

-- an inode bears the mark that it shows
mark-filled : (lowers : List Layer) (o : Option Inode) (i : Inode) → option_map (fill lowers) o ≡ Some i → option_and_then (λ (x : Inode). x.mark) o ≡ i.mark
mark-filled lowers None i h = cc
mark-filled lowers (Some x) i h = let same : fill lowers x ≡ i = cc in ap (λ (y : Inode). y.mark) same

pub mark-there : (l : Layers) (k : ℕ) (i : Inode) → (upper_of l).inodes k ≡ Some i → mark_at l.upper k ≡ i.mark
mark-there l k i h = mark-filled (lowers_of l) (inode_at l.upper k) i h

-- also where a path shows it
pub shown-mark : (l : Layers) (p : Path) (k : ℕ) (i : Inode) → shows 0 (layers_of l) p ≡ Some (Contents 0 k (Some i)) → mark_at l.upper k ≡ i.mark
shown-mark l p k i h = mark-there l k i (over-shown l p (record { layer = 0; key = k }) (Some i) h)

-- the bytes of a file without a mark are its own
own-bytes : (lowers : List Layer) (m : Option Path) (c : Content) (bytes : List ℕ) → m ≡ None → content_over lowers m c ≡ content.File bytes → unmarked_bytes m c ≡ Some bytes
own-bytes lowers None c bytes h e = ap file_bytes e
own-bytes lowers (Some q) c bytes h e = cc

own-filled : (lowers : List Layer) (o : Option Inode) (i : Inode) (bytes : List ℕ) → option_map (fill lowers) o ≡ Some i → i.mark ≡ None → i.content ≡ content.File bytes → option_and_then (λ (x : Inode). unmarked_bytes x.mark x.content) o ≡ Some bytes
own-filled lowers None i bytes h bare file = cc
own-filled lowers (Some x) i bytes h bare file =
    let same : fill lowers x ≡ i = cc in
    own-bytes lowers x.mark x.content bytes (ap (λ (y : Inode). y.mark) same ∙ bare) (ap (λ (y : Inode). y.content) same ∙ file)

pub own-there : (l : Layers) (k : ℕ) (i : Inode) (bytes : List ℕ) → (upper_of l).inodes k ≡ Some i → i.mark ≡ None → i.content ≡ content.File bytes → own_at l.upper k ≡ Some bytes
own-there l k i bytes h bare file = own-filled (lowers_of l) (inode_at l.upper k) i bytes h bare file

-- no mark is there
pub none-mark : (m : Option Path) → is_some m ≡ false → m ≡ None
none-mark None h = refl
none-mark (Some q) h = cc

-- of nothing none is
nothing-marked : (lowers : List Layer) (o : Option Inode) → option_map (fill lowers) o ≡ None → option_and_then (λ (x : Inode). x.mark) o ≡ None
nothing-marked lowers None h = refl
nothing-marked lowers (Some x) h = cc

-- where the bytes are of what the upper shows, if they are a lower file's
pub data-own : (l : Layers) (p : Path) (d : Place) → ShowsInode l p d → d.layer ≡ 0 → place_below (lowers_of l) (mark_at l.upper d.key) ≡ data_at (lowers_of l) (shows 0 (layers_of l) p)
data-own l p d x own = by x.inode (x.shown ∙ ap (λ j. Some (Contents j d.key x.inode)) own)
  where
    by : (o : Option Inode) → shows 0 (layers_of l) p ≡ Some (Contents 0 d.key o) → place_below (lowers_of l) (mark_at l.upper d.key) ≡ data_at (lowers_of l) (shows 0 (layers_of l) p)
    by None h =
        ap (place_below (lowers_of l)) (nothing-marked (lowers_of l) (inode_at l.upper d.key) (over-shown l p (record { layer = 0; key = d.key }) None h))
        ∙ sym (ap (data_at (lowers_of l)) h)
    by (Some i) h = ap (place_below (lowers_of l)) (shown-mark l p d.key i h) ∙ sym (ap (data_at (lowers_of l)) h)

-- a live file whose bytes are no lower file's bears none
pub live-bare : (U : Layer) (t : Tree) (d : NodeId) (k : ℕ) (x : IsLive U t d k) → is_data_low (t d) ≡ false → x.mark ≡ None
live-bare U t d k x own = none-mark x.mark (sym (ap is_data_low x.node) ∙ own)

-- so it has bytes of its own
pub live-own : (l : Layers) (t : Tree) (d : NodeId) (k : ℕ) (x : IsLive (upper_of l) t d k) → x.mark ≡ None → own_at l.upper k ≡ Some x.bytes
live-own l t d k x bare = own-there l k _ x.bytes x.inode bare refl

-- a live file bears the mark that its inode has
pub bare-mark : (U : Layer) (t : Tree) (d : NodeId) (k : ℕ) (x : IsLive U t d k) → (i : Inode) → U.inodes k ≡ Some i → i.mark ≡ None → x.mark ≡ None
bare-mark U t d k x i is bare =
    let two : Some (record { content = content.File x.bytes; attributes = x.attributes; links = x.links; mark = x.mark }) ≡ Some i = sym x.inode ∙ is in
    let one : record { content = content.File x.bytes; attributes = x.attributes; links = x.links; mark = x.mark } ≡ i = cc in
    ap (λ (y : Inode). y.mark) one ∙ bare

-- without one its bytes are its own
pub bare-own : (U : Layer) (t : Tree) (d : NodeId) (k : ℕ) (x : IsLive U t d k) → (i : Inode) → U.inodes k ≡ Some i → i.mark ≡ None → is_data_low (t d) ≡ false
bare-own U t d k x i is bare = ap is_data_low x.node ∙ ap is_some (bare-mark U t d k x i is bare)

-- what a file with a mark shows is what the lower file has that is shown there
pub low-shown : (l : Layers) (k : ℕ) (i : Inode) (bytes : List ℕ) (q : Path) (d : Place) → (upper_of l).inodes k ≡ Some i → i.mark ≡ Some q → i.content ≡ content.File bytes → file_place (shows 1 (lowers_of l) q) ≡ Some d → lower_bytes (lowers_of l) d ≡ Some bytes
low-shown l k i bytes q d is mark file at = by (inode_at l.upper k) is
  where
    source : HasSource (lowers_of l) q d
    source = has-source l q d (sym at)

    own : (c : Content) → content_over (lowers_of l) (Some q) c ≡ content.File bytes → source.bytes ≡ bytes
    own (content.File b) e = let z : content.File source.bytes ≡ content.File bytes = sym (source.shown b) ∙ e in cc
    own (content.SymbolicLink t) e = cc

    by : (o : Option Inode) → option_map (fill (lowers_of l)) o ≡ Some i → lower_bytes (lowers_of l) d ≡ Some bytes
    by None h = cc
    by (Some x) h =
        let same : fill (lowers_of l) x ≡ i = cc in
        let marked : x.mark ≡ Some q = ap (λ (y : Inode). y.mark) same ∙ mark in
        source.there ∙ ap Some (own x.content (sym (ap (λ m. content_over (lowers_of l) m x.content) marked) ∙ ap (λ (y : Inode). y.content) same ∙ file))

-- an inode has the links that it shows
pub links-there : (l : Layers) (k : ℕ) (i : Inode) → (upper_of l).inodes k ≡ Some i → (x : Inode) × (inode_at l.upper k ≡ Some x) × (x.links ≡ i.links)
links-there l k i is = by (inode_at l.upper k) refl is
  where
    by : (o : Option Inode) → inode_at l.upper k ≡ o → option_map (fill (lowers_of l)) o ≡ Some i → (x : Inode) × (inode_at l.upper k ≡ Some x) × (x.links ≡ i.links)
    by None e h = cc
    by (Some x) e h = let same : fill (lowers_of l) x ≡ i = cc in (x, e, ap (λ (y : Inode). y.links) same)

-- an inode that stands at a place is shown there
abbrev pub StandsAt : Layers → Place → StoredInode → Path → Type 0
StandsAt l d x p = shows 0 (layers_of l) p ≡ Some (Contents d.layer d.key (fill_at d.layer (lowers_of l) (inode_of (node.Inode x))))

-- with its attributes
pub stands-filled : (l : Layers) (d : Place) (x : StoredInode) → IsFilled d.layer (lowers_of l) (record { content = x.content; attributes = x.attributes; links = x.links; mark = option_map (λ b. b.value) x.mark })
stands-filled l d x = filled-at d.layer (lowers_of l) (record { content = x.content; attributes = x.attributes; links = x.links; mark = option_map (λ b. b.value) x.mark })

-- what is shown is an inode
pub shown-inode : (l : Layers) (p : Path) (d : Place) (x : StoredInode) → StandsAt l d x p → (i : Inode) × (shows 0 (layers_of l) p ≡ Some (Contents d.layer d.key (Some i)))
shown-inode l p d x h = let f = stands-filled l d x in (f.inode, h ∙ ap (λ z. Some (Contents d.layer d.key z)) f.is)

-- a file that has bytes of its own has no mark
bytes-unmarked : (m : Option Path) (c : Content) (bytes : List ℕ) → unmarked_bytes m c ≡ Some bytes → m ≡ None
bytes-unmarked None c bytes h = refl
bytes-unmarked (Some q) c bytes h = cc

own-unmarked : (o : Option Inode) (i : Inode) (bytes : List ℕ) → option_and_then (λ (x : Inode). unmarked_bytes x.mark x.content) o ≡ Some bytes → o ≡ Some i → i.mark ≡ None
own-unmarked o i bytes own is = bytes-unmarked i.mark i.content bytes (sym (ap (option_and_then (λ (x : Inode). unmarked_bytes x.mark x.content)) is) ∙ own)

-- one that gets other bytes shows them
sets-file : (l : Layers) (u new : LayerTree) → l.upper ≡ u → (k : ℕ) (old bytes : List ℕ) → own_at u k ≡ Some old → SetsBytes (layer_of u) (layer_of new) k bytes → SetsFile l (record l { upper = new }) k bytes
sets-file l u new is k old bytes own w =
    let bare : w.inode.mark ≡ None = own-unmarked (inode_at u k) w.inode old own w.before in
    record {
      writes = raised-written (lowers_of l) (layer_of l.upper) (layer_of new) k bytes
          (record {
            inode = w.inode;
            before = ap (λ (z : LayerTree). inode_at z k) is ∙ w.before;
            now = w.now ∙ ap {A = Option Path} (λ m. Some (record w.inode { content = content.File bytes; mark = m })) (sym bare);
            inodes = λ j away. w.inodes j away ∙ sym (ap (λ (z : LayerTree). inode_at z j) is);
            objects = λ x. w.objects x ∙ sym (ap (λ (z : LayerTree). held (layer_of z) x) is);
          })
          bare;
      lowers = refl;
    }

-- where there is memory for them
pub sets-written : (l : Layers) (u new : LayerTree) → l.upper ≡ u → (source : FileSource) (key : ℕ) → source ≡ Upper key → (now : List ℕ → List ℕ) (r : Result (Unit {0}) AllocError) → OnOk r ((old : List ℕ) → own_at u key ≡ Some old → SetsBytes (layer_of u) (layer_of new) key (now old)) → OnOk r ((k : ℕ) (old : List ℕ) → source ≡ Upper k → own_at l.upper k ≡ Some old → SetsFile l (record l { upper = new }) k (now old))
sets-written l u new is source key at now (Err e) sets = tt
sets-written l u new is source key at now (Ok x) sets = λ k old same there.
    let both : Upper key ≡ Upper k = sym at ∙ same in
    let one : key ≡ k = cc in
    let own : own_at u key ≡ Some old = sym (ap (λ (z : LayerTree). own_at z key) is) ∙ ap (own_at l.upper) one ∙ there in
    subst (λ z. SetsFile l (record l { upper = new }) z (now old)) one
    (sets-file l u new is key old (now old) own (sets old own))

-- a file that got bytes of its own, and then others, got these
pub changed-written : (U V W : Layer) (k : ℕ) (b bytes : List ℕ) → ChangesFile U V k b None → WritesInode V W k bytes → ChangesFile U W k bytes None
changed-written U V W k b bytes c w = record {
  inode = c.inode;
  before = c.before;
  now =
      let two : Some (record c.inode { content = content.File b; mark = None }) ≡ Some w.inode = sym c.now ∙ w.before in
      let one : record c.inode { content = content.File b; mark = None } ≡ w.inode = cc in
      w.now ∙ sym (ap (λ (y : Inode). Some (record y { content = content.File bytes })) one);
  inodes = λ j away. w.inodes j away ∙ c.inodes j away;
  objects = λ x. w.objects x ∙ c.objects x;
}

-- what an open file is is what stands at its place, as it shows
pub source-over : (l : Layers) (source : FileSource) (i : Inode) → source_inode (upper_of l) (lowers_of l) source ≡ Some i → inode_over l (source_place source) ≡ Some i
source-over l (Upper k) i h = h
source-over l (Lower zero k) i h = cc
source-over l (Lower (suc j) k) i h = sym (lower-in l.upper l.lowers.items j k) ∙ h

-- with the bytes that it keeps whatever it holds
kept-raw : (bytes : List ℕ) (lowers : List Layer) (o : Option Inode) → option_map (with_file bytes) (option_map (fill lowers) o) ≡ option_map (with_file bytes) o
kept-raw bytes lowers None = refl
kept-raw bytes lowers (Some x) = refl

pub source-kept : (l : Layers) (source : FileSource) (bytes : List ℕ) (i : Inode) → option_map (with_file bytes) (source_inode (upper_of l) (lowers_of l) source) ≡ Some i → option_map (with_file bytes) (option_and_then inode_of (node_in (trees l) (source_place source))) ≡ Some i
source-kept l (Upper k) bytes i h = sym (kept-raw bytes (lowers_of l) (inode_at l.upper k)) ∙ h
source-kept l (Lower zero k) bytes i h = cc
source-kept l (Lower (suc j) k) bytes i h = ap (option_map (with_file bytes)) (sym (lower-in l.upper l.lowers.items j k)) ∙ h

-- the bytes that are kept are what is seen
pub kept-bytes : (bytes : List ℕ) (o : Option Inode) (i : Inode) → option_map (with_file bytes) o ≡ Some i → bytes ≡ bytes_of_inode i
kept-bytes bytes None i h = cc
kept-bytes bytes (Some x) i h = let same : with_file bytes x ≡ i = cc in ap bytes_of_inode same

-- what a file or link of the upper is to watches, by its kind and its links, which are shown as they are
pub upper-file : (U : Layer) (lowers below : List Layer) (p : Path) (key : ℕ) (x : Inode) (bytes : List ℕ) → x.content ≡ content.File bytes → shows 0 (U ∷ lowers) p ≡ Some (Contents 0 key (fill_at 0 below (Some x))) → IsUpper U lowers p key (nat_eq x.links 1)
upper-file U lowers below p key x bytes file shown =
    let has = has-bytes (fill below x).content (same-kind below x ∙ ap is_file file) in
    record { inode = fill below x; bytes = has.0; shown = shown; file = has.1; names = refl }

pub upper-link : (U : Layer) (lowers below : List Layer) (p : Path) (key : ℕ) (x : Inode) (target : List ℕ) → x.content ≡ content.SymbolicLink target → shows 0 (U ∷ lowers) p ≡ Some (Contents 0 key (fill_at 0 below (Some x))) → (is_none (shows 0 (U ∷ lowers) p) ≡ true) ⊎ (shows_link (shows 0 (U ∷ lowers) p) ≡ true)
upper-link U lowers below p key x target link shown = inr (ap shows_link shown ∙ link-filled 0 below (Some x) ∙ ap (λ y. is_link_inode (Some (record x { content = y }))) link)

-- an inode that is stored has the links that it shows
pub links-stored : (l : Layers) (k : ℕ) (x : StoredInode) (i : Inode) → get l.upper k ≡ Some (node.Inode x) → (upper_of l).inodes k ≡ Some i → x.links ≡ i.links
links-stored l k x i at is =
    let y = links-there l k i is in
    let both : Some (record { content = x.content; attributes = x.attributes; links = x.links; mark = option_map (λ b. b.value) x.mark }) ≡ Some y.0 = sym (ap (option_and_then inode_of) at) ∙ y.1 in
    let one : record { content = x.content; attributes = x.attributes; links = x.links; mark = option_map (λ b. b.value) x.mark } ≡ y.0 = cc in
    ap (λ (z : Inode). z.links) one ∙ y.2

-- what isn't none is more
pub more-than-none : (n : ℕ) → nat_eq n 0 ≡ false → 0 < n
more-than-none zero h = cc
more-than-none (suc n) h = omega arith
