-- Files of the upper that paths show, and which names what stands at a path has.
use Rattle.std.proofs.Common.{◌≡◌, ◌≢◌, ℕ, suc, ◌<◌, Bool, true, false, ◌||◌, List, [], ◌∷◌, Option, None, Some, refl, sym, ap, ◌∙◌, inl, inr, nat_eq, length, arith}
use Rattle.std.specs.List.{list_any, IsDistinct}
use Rattle.std.proofs.lemmas.Bool.{cases_Bool, false≢true, both_ways, eqb-true}
use Rattle.std.proofs.lemmas.Map.Keys.{IsDistinct-head}
use Rattle.ov_base.specs.declared.node_id.NodeId.{NodeId}
use Rattle.plain_model.specs.Layers.{Path, Named, Inode, Layer, held, below, cuts, Contents, unless, over, shows, is_directory, base, same_path, AreLinks}
use Rattle.plain_model.specs.Tree.{Node, Branch, Leaf, Own, Untouched, node_at, node_of, face, see, see_inode, merged, is_folder, is_untouched, count_of}
use Rattle.plain_model.specs.Machine.{State}
use Rattle.plain_model.proofs.Paths.{paths_tell}
use Rattle.mount_laws.specs.Looks.{IsMountOf}
use Rattle.mount_laws.specs.Nodes.{HaveOneName}
use Rattle.mount_laws.specs.OpenFiles.{IsLive}
use Rattle.mount_laws.proofs.Opens.{folder-at}
use Rattle.mount_laws.proofs.OneName.{law_of_one_name}
use Rattle.mount_laws.proofs.OnePath.{law_of_one_path}
use Rattle.mount_laws.proofs.OpenFiles.{law_of_live_shown}
use Rattle.notice_laws.specs.declared.object.Object.TheVariants as object
use Rattle.notice_laws.specs.Objects.{IsUpper, IsLower}
use Rattle.notice_laws.specs.Places.{HasNames, LawOfUpper, LawOfLastName}

-- what a path shows as a file of the upper is one there
pub law_of_upper : LawOfUpper
law_of_upper V lowers s m q key last d o at = (law_of_live_shown V lowers s m q key o.inode o.bytes d o.shown o.file at, q, at)

-- a list with one path has no two
only-one :
    (ps : List Path) → length ps ≡ 1 → (p q : Path) → list_any (same_path p) ps ≡ true → list_any (same_path q) ps ≡ true → q ≡ p
only-one [] one p q a b = absurd (false≢true a)
only-one (x ∷ y ∷ ps) one p q a b = absurd (omega arith)
only-one (x ∷ []) one p q a b = is q b ∙ sym (is p a)
  where
    is : (p : Path) → list_any (same_path p) (x ∷ []) ≡ true → p ≡ x
    is p h = elim (cases_Bool (same_path p x)) [
      | inl y ↦ (paths_tell p x).0 y
      | inr n ↦ absurd (false≢true (ap (λ b. b || false) (sym n) ∙ h))
    ]

-- another path of a list, which has more than one
abbrev Another : List Path → Path → Type 0
Another ps p = (1 < length ps) × (q : Path) × (q ≢ p) × (list_any (same_path q) ps ≡ true)

-- a list of distinct paths that is not of one alone has another than this
another : (ps : List Path) → IsDistinct same_path ps → (p : Path) → list_any (same_path p) ps ≡ true → (length ps ≡ 1 → ⊥) → Another ps p
another [] once p a many = absurd (false≢true a)
another (x ∷ []) once p a many = absurd (many refl)
another (x ∷ y ∷ ps) once p a many = elim (cases_Bool (same_path p x)) [
  | inl h ↦ (more, y, (λ e. apart (sym ((paths_tell p x).0 h) ∙ sym e)), second)
  | inr h ↦ (more, x, (λ e. both_ways (same_path p x) h ((paths_tell p x).1 (sym e))), first)
]
  where
    more : 1 < length (x ∷ y ∷ ps)
    more = omega arith

    apart : x ≢ y
    apart e = both_ways (same_path x y) (IsDistinct-head same_path x (y ∷ ps) once).0 ((paths_tell x y).1 e)

    first : list_any (same_path x) (x ∷ y ∷ ps) ≡ true
    first = ap (λ b. b || list_any (same_path x) (y ∷ ps)) ((paths_tell x x).1 refl)

    later : (b c : Bool) → c ≡ true → b || c ≡ true
    later true c h = refl
    later false c h = h

    second : list_any (same_path y) (x ∷ y ∷ ps) ≡ true
    second = later (same_path y x) _ (ap (λ b. b || list_any (same_path y) ps) ((paths_tell y y).1 refl))

-- what is seen as a file or link of a lower layer is an untouched one
seen-untouched : (o : Option Node) (j : ℕ) (i : Inode) → face o ≡ see_inode (suc j) (Some i) → is_untouched o ≡ true
seen-untouched None j i h = cc
seen-untouched (Some (Branch a b names c)) j i h = cc
seen-untouched (Some (Leaf content a (Own z) c)) j i h = cc
seen-untouched (Some (Leaf content a (Untouched k) c)) j i h = refl

-- a node at a path of the mount
module _
    (U : Layer) (lowers : List Layer) (s : State) (m : IsMountOf U lowers s) (p : Path) (d : NodeId) (at : node_at s.tree p ≡ Some d) where
  -- the node looks as the layers say
  looks : face (s.tree d) ≡ merged U lowers p
  looks = ap (λ o. face (node_of s.tree o)) (sym at) ∙ m.shows.sights p

  -- it is a directory where one is shown
  pub folder-stands : is_directory (shows 0 (U ∷ lowers) p) ≡ true → is_folder (s.tree d) ≡ true
  folder-stands shown = ap (λ o. is_folder (node_of s.tree o)) (sym at) ∙ folder-at U lowers s m p ∙ shown

  -- it is untouched where a file or link of a lower layer is shown
  pub lower-stands : IsLower U lowers p → is_untouched (s.tree d) ≡ true
  lower-stands o = seen-untouched (s.tree d) o.layer o.inode (looks ∙ ap (see (base U lowers p)) o.shown)

  -- a directory has one name
  folder-names : HaveOneName s.tree → is_folder (s.tree d) ≡ true → HasNames s.tree p object.Directory d
  folder-names one folder = record {
    one = λ last.
        let once = law_of_one_name s.tree s.serial m.kept p d at in
        (once.directory one folder, λ q h. (law_of_one_path U lowers s m).directories q p d folder h at);
    more = λ last. absurd (false≢true (sym last));
  }

  -- and so has an untouched file or link
  untouched-names : is_untouched (s.tree d) ≡ true → HasNames s.tree p object.Lower d
  untouched-names low = record {
    one = λ last.
        let once = law_of_one_name s.tree s.serial m.kept p d at in
        (once.untouched low, λ q h. (law_of_one_path U lowers s m).untouched q p d low h at);
    more = λ last. absurd (false≢true (sym last));
  }

  -- a file of the upper has the names of its inode
  module _ (key : ℕ) (last : Bool) (o : IsUpper U lowers p key last) where
    -- it is live
    live : IsLive U s.tree d key
    live = law_of_live_shown U lowers s m p key o.inode o.bytes d o.shown o.file at

    -- the path names it
    named : held U p ≡ Some (Named key)
    named = (live.paths p).0 at

    -- the inode that is shown is the one that is there
    links : live.links ≡ o.inode.links
    links =
        let held_here : shows 0 (U ∷ lowers) p ≡ Some (Contents 0 key (U.inodes key)) =
        ap (λ x. over 0 U.inodes x (unless (cuts U p) (shows 1 lowers (below U p)))) named in
        let same : Some (Contents 0 key (U.inodes key)) ≡ Some (Contents 0 key (Some o.inode)) = sym held_here ∙ o.shown in
        let inode = live.inode in
        cc

    -- its names
    names : AreLinks U key live.links
    names = m.layers.0.links key _ live.inode

    -- the node has as many
    count : count_of (s.tree d) ≡ length names.paths
    count = ap count_of live.node ∙ names.counted

    -- each path to the node is one
    listed : (q : Path) → node_at s.tree q ≡ Some d → list_any (same_path q) names.paths ≡ true
    listed q h = (names.exact q).1 ((live.paths q).0 h)

    -- there is one where it is the last
    single : last ≡ true → length names.paths ≡ 1
    single is = eqb-true (length names.paths) 1 (ap (λ n. nat_eq n 1) (sym names.counted ∙ links) ∙ sym o.names ∙ is)

    -- and else there are more
    many : last ≡ false → length names.paths ≡ 1 → ⊥
    many is one = absurd (false≢true (sym is ∙ o.names ∙ ap (λ n. nat_eq n 1) (sym links ∙ names.counted ∙ one)))

    -- so it has them
    upper-names : HasNames s.tree p (object.Upper key last) d
    upper-names = record {
      one = λ is. (count ∙ single is, λ q h. only-one names.paths (single is) p q (listed p at) (listed q h));
      more = λ is.
          let r = another names.paths names.once p (listed p at) (many is) in
          let n = r.0 in
          let c = count in
          (omega arith, r.1, r.2, (live.paths r.1).1 ((names.exact r.1).0 r.3));
    }

-- what stands at a path has one name, or another
pub law_of_last_name : LawOfLastName
law_of_last_name U lowers s m one p object.Other d not o at = absurd (not refl)
law_of_last_name U lowers s m one p object.Directory d not o at =
    folder-names U lowers s m p d at one (folder-stands U lowers s m p d at o)
law_of_last_name U lowers s m one p object.Lower d not o at = untouched-names U lowers s m p d at (lower-stands U lowers s m p d at o)
law_of_last_name U lowers s m one p (object.Upper key last) d not o at = upper-names U lowers s m p d at key last o
