-- A live file that gets other bytes, or bytes of its own, and one without a name that is forgotten: the layers show the tree then, and other live files stay so.
use Rattle.std.proofs.Common.{◌≡◌, ◌≢◌, ℕ, List, [], ◌∷◌, Option, None, Some, refl, sym, ap, ap₂, ◌∙◌, ◌⊎◌, inl, inr, is_some}
use Rattle.std.proofs.lemmas.Bool.{false≢true, cases_Bool}
use Rattle.ov_base.specs.declared.bytes.Content.TheVariants.{File}
use Rattle.ov_base.specs.declared.node_id.NodeId.{NodeId}
use Rattle.plain_model.specs.Layers.{Name, Path, Named, Inode, Layer, held, through, AreLayers}
use Rattle.plain_model.specs.Tree.{same_id, Node, Leaf, Own, Tree, entry, node_at, node_of, put, face, sight_at, see_inode, merged, AreLinked, Remounts, count_of}
use Rattle.plain_model.specs.Machine.{State}
use Rattle.plain_model.specs.Changes.{over_node, change, with_bytes}
use Rattle.plain_model.proofs.Keeping.{Like, IsMild, put-here, put-there, change-like, change-kept, removed-kept}
use Rattle.plain_model.proofs.Kept.{bytes-mild}
use Rattle.plain_model.proofs.Merged.{named-seen}
use Rattle.plain_model.proofs.Paths.{ids_tell}
use Rattle.plain_model.proofs.Uppers.{meld, merged-meld, agree-where, through-agree}
use Rattle.mount_laws.specs.Looks.{IsMountOf, IsHidden}
use Rattle.mount_laws.specs.OpenFiles.{IsLive, LawOfWritten, ChangesFile, AltersFile, DropsInode, Forgets, LawOfForgotten}
use Rattle.mount_laws.proofs.Alters.{meld-alike}
use Rattle.mount_laws.proofs.Handles.{not-same}
use Rattle.mount_laws.proofs.Removed.{same-paths, same-mount}

-- uppers that hold the same show the same where no name is of an inode that changed
pub same-shown :
    (U V : Layer) (lowers : List Layer) → ((x : Path) → held V x ≡ held U x) → (q : Path) →
    ((j : ℕ) → held U q ≡ Some (Named j) → V.inodes j ≡ U.inodes j) → merged V lowers q ≡ merged U lowers q
same-shown U V lowers objects q same =
    merged-meld V lowers q
    ∙ ap₂ (meld V.inodes) (objects q) (through-agree U V lowers q (agree-where U V (λ x. Unit {0}) (λ k x h. h) (λ x h. objects x) q tt))
    ∙ meld-alike V.inodes U.inodes (held U q) (through U lowers q) same
    ∙ sym (merged-meld U lowers q)

-- uppers that hold the same name the same inodes
pub same-linked : (U V : Layer) → ((x : Path) → held V x ≡ held U x) → (y z : Path) → AreLinked V y z → AreLinked U y z
same-linked U V objects y z l = record { number = l.number; first = sym (objects y) ∙ l.first; second = sym (objects z) ∙ l.second }

-- a live file stays so where its node, its inode and its names do
pub stays-live :
    (U V : Layer) (t u : Tree) (e : NodeId) (j : ℕ) → u e ≡ t e → V.inodes j ≡ U.inodes j →
    ((q : Path) → node_at u q ≡ node_at t q) → ((x : Path) → held V x ≡ held U x) → IsLive U t e j → IsLive V u e j
stays-live U V t u e j node inode paths objects l = record {
  bytes = l.bytes;
  attributes = l.attributes;
  links = l.links;
  mark = l.mark;
  inode = inode ∙ l.inode;
  node = node ∙ l.node;
  paths = λ q. (λ h. objects q ∙ (l.paths q).0 (sym (paths q) ∙ h), λ h. paths q ∙ (l.paths q).1 (sym (objects q) ∙ h));
}

-- the node d, of the inode k, has other bytes, or bytes of its own
module _
    (U V : Layer) (lowers : List Layer) (s : State) (m : IsMountOf U lowers s) (b : AreLayers (V ∷ lowers)) (d : NodeId) (k : ℕ)
    (f : Node → Node) (mild : IsMild f) (bytes : List ℕ) (mark : Option Path) (l : IsLive U s.tree d k)
    (does : f (Leaf (File l.bytes) l.attributes (Own (is_some l.mark)) l.links) ≡ Leaf (File bytes) l.attributes (Own (is_some mark)) l.links)
    (w : ChangesFile U V k bytes mark) where
  abbrev u : Tree
  u = change f s.tree (Some d)

  like : (x : NodeId) → Like (s.tree x) (u x)
  like = change-like f mild s.tree (Some d)

  -- paths lead where they led
  entries : (o : Option NodeId) (n : Name) → entry u o n ≡ entry s.tree o n
  entries None n = refl
  entries (Some x) n = (like x).names n

  paths : (q : Path) → node_at u q ≡ node_at s.tree q
  paths [] = refl
  paths (n ∷ q) = ap (λ o. entry u o n) (paths q) ∙ entries (node_at s.tree q) n

  others : (e : NodeId) → e ≢ d → u e ≡ s.tree e
  others e apart = put-there s.tree d (over_node f (s.tree d)) e (not-same d e (λ h. apart (sym h)))

  -- the node has the bytes, and so has the inode
  own-node : u d ≡ Some (Leaf (File bytes) l.attributes (Own (is_some mark)) l.links)
  own-node =
      put-here s.tree d (over_node f (s.tree d)) d ((ids_tell d d).1 refl)
      ∙ ap (over_node f) l.node ∙ ap Some does

  was : w.inode ≡ record { content = File l.bytes; attributes = l.attributes; links = l.links; mark = l.mark }
  was =
      let z : Some w.inode ≡ Some (record { content = File l.bytes; attributes = l.attributes; links = l.links; mark = l.mark }) =
      sym w.before ∙ l.inode in
      cc

  own-inode : V.inodes k ≡ Some (record { content = File bytes; attributes = l.attributes; links = l.links; mark = mark })
  own-inode = w.now ∙ ap {A = Inode} (λ i. Some (record i { content = File bytes; mark = mark })) was

  -- a path that names the inode shows the bytes, and any other what it did
  own-sight : (q : Path) → held U q ≡ Some (Named k) → face (u d) ≡ merged V lowers q
  own-sight q h = ap face own-node ∙ sym (named-seen V lowers q k (w.objects q ∙ h) ∙ ap (see_inode 0) own-inode)

  other : (q : Path) → (node_at s.tree q ≡ Some d → ⊥) → merged V lowers q ≡ merged U lowers q
  other q away = same-shown U V lowers w.objects q (λ j h. w.inodes j (λ e. away ((l.paths q).1 (h ∙ ap (λ n. Some (Named n)) e))))

  sights : (q : Path) → sight_at u q ≡ merged V lowers q
  sights q = ap (λ o. face (node_of u o)) (paths q) ∙ by (node_at s.tree q) refl
    where
      before : (o : Option NodeId) → node_at s.tree q ≡ o → face (node_of s.tree o) ≡ merged U lowers q
      before o h = ap (λ o. face (node_of s.tree o)) (sym h) ∙ m.shows.sights q

      by : (o : Option NodeId) → node_at s.tree q ≡ o → face (node_of u o) ≡ merged V lowers q
      by None h = before None h ∙ sym (other q (λ e. let z : None ≡ Some d = sym h ∙ e in cc))
      by (Some x) h = elim (cases_Bool (same_id d x)) [
        | inl e ↦
            let is : d ≡ x = (ids_tell d x).0 e in
            ap (λ z. face (u z)) (sym is) ∙ own-sight q ((l.paths q).0 (h ∙ ap Some (sym is)))
        | inr n ↦
            ap face (put-there s.tree d (over_node f (s.tree d)) x n)
            ∙ before (Some x) h
            ∙ sym (other q (λ e. false≢true (sym n ∙ (ids_tell d x).1 (let z : Some d ≡ Some x = sym e ∙ h in cc))))
      ]

  linked-paths : (y z : Path) → AreLinked V y z → node_at u y ≡ node_at u z
  linked-paths y z k = paths y ∙ m.shows.linked y z (same-linked U V w.objects y z k) ∙ sym (paths z)

  lift : (y z : Path) → (y ≡ z) ⊎ AreLinked U y z → (y ≡ z) ⊎ AreLinked V y z
  lift y z (inl e) = inl e
  lift y z (inr k) = inr (same-linked V U (λ x. sym (w.objects x)) y z k)

  -- so it is by any change that leaves what kind of node it is, and its names
  pub alters : AltersFile U V lowers s d k f
  alters = record {
    mounts = record {
      layers = b;
      shows = record {
        sights = sights;
        linked = linked-paths;
        apart = λ y z x h g. lift y z (m.shows.apart y z x (sym (paths y) ∙ h) (sym (paths z) ∙ g));
      };
      kept = change-kept f mild s.tree s.serial (Some d) m.kept;
      writable = m.writable;
    };
    paths = paths;
    others = others;
    hidden = λ e hid q h. hid q (sym (paths q) ∙ h);
    folders = λ e. (like e).folders;
    live = record {
      bytes = bytes;
      attributes = l.attributes;
      links = l.links;
      mark = mark;
      inode = own-inode;
      node = own-node;
      paths = λ q. (λ h. w.objects q ∙ (l.paths q).0 (sym (paths q) ∙ h), λ h. paths q ∙ (l.paths q).1 (sym (w.objects q) ∙ h));
    };
    stays = λ e j apart differs. stays-live U V s.tree u e j (others e apart) (w.inodes j differs) paths w.objects;
  }

-- other bytes of a live file make the mount one of the upper that has them
pub law_of_written : LawOfWritten
law_of_written U V lowers s m b d k bytes l w =
    let two : Some w.inode ≡ Some (record { content = File l.bytes; attributes = l.attributes; links = l.links; mark = l.mark }) = sym w.before ∙ l.inode in
    let one : w.inode ≡ record { content = File l.bytes; attributes = l.attributes; links = l.links; mark = l.mark } = cc in
    let a : AltersFile U V lowers s d k (with_bytes bytes) = alters U V lowers s m b d k (with_bytes bytes) (bytes-mild bytes) bytes l.mark l refl (record {
      inode = w.inode;
      before = w.before;
      now = w.now ∙ ap (λ (x : Inode). Some (record w.inode { content = File bytes; mark = x.mark })) one;
      inodes = w.inodes;
      objects = w.objects;
    }) in
    record { mounts = a.mounts; paths = a.paths; others = a.others; hidden = a.hidden; folders = a.folders; live = a.live; stays = a.stays }

-- the node d, of the inode k without a name, goes
module _
    (U V : Layer) (lowers : List Layer) (s : State) (m : IsMountOf U lowers s) (b : AreLayers (V ∷ lowers)) (d : NodeId) (k : ℕ)
    (l : IsLive U s.tree d k) (bare : l.links ≡ 0) (w : DropsInode U V k) where
  -- an inode that goes has no name
  unnamed : (q : Path) → held U q ≡ Some (Named k) → ⊥
  unnamed q h = false≢true (sym (ap is_some w.gone) ∙ b.0.present q k (w.objects q ∙ h))

  hid : IsHidden s.tree d
  hid q h = unnamed q ((l.paths q).0 h)

  forgotten-paths : (q : Path) → node_at (put s.tree d None) q ≡ node_at s.tree q
  forgotten-paths = same-paths s.tree d hid None

  forgotten-others : (e : NodeId) → e ≢ d → put s.tree d None e ≡ s.tree e
  forgotten-others e apart = put-there s.tree d None e (not-same d e (λ h. apart (sym h)))

  same : (q : Path) → merged V lowers q ≡ merged U lowers q
  same q = same-shown U V lowers w.objects q (λ j h. w.inodes j (λ e. unnamed q (h ∙ ap (λ n. Some (Named n)) e)))

  -- the layers show what they did
  remounts : Remounts V lowers s.tree
  remounts = record {
    sights = λ q. m.shows.sights q ∙ sym (same q);
    linked = λ y z k. m.shows.linked y z (same-linked U V w.objects y z k);
    apart = λ y z x h g. up y z (m.shows.apart y z x h g);
  }
    where
      up : (y z : Path) → (y ≡ z) ⊎ AreLinked U y z → (y ≡ z) ⊎ AreLinked V y z
      up y z (inl e) = inl e
      up y z (inr k) = inr (same-linked V U (λ x. sym (w.objects x)) y z k)

  forgets : Forgets U V lowers s d k
  forgets = record {
    hid = hid;
    mounts = record {
      layers = b;
      shows = same-mount s.tree d hid None V lowers remounts;
      kept = removed-kept s.tree s.serial d (ap count_of l.node ∙ bare) m.kept;
      writable = m.writable;
    };
    paths = forgotten-paths;
    others = forgotten-others;
    stays = λ e j apart differs.
        stays-live U V s.tree (put s.tree d None) e j (forgotten-others e apart) (w.inodes j differs) forgotten-paths w.objects;
  }

-- a file without a name is forgotten
pub law_of_forgotten : LawOfForgotten
law_of_forgotten U V lowers s m b d k l bare w = forgets U V lowers s m b d k l bare w
