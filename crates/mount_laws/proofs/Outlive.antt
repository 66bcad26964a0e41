-- Live files stay so where a name goes, also one of theirs, and where attributes change.
use Rattle.std.proofs.Common.{◌≡◌, ◌≢◌, ◌↔◌, ℕ, suc, ◌-◌, Bool, true, false, cond, ◌||◌, List, [], ◌∷◌, ◌++◌, Option, None, Some, refl, sym, ap, ◌∙◌, inl, inr, is_some}
use Rattle.std.proofs.lemmas.Bool.{false≢true, cases_Bool}
use Rattle.ov_base.specs.declared.attributes.Attributes.{Attributes}
use Rattle.ov_base.specs.declared.bytes.Content.{Content}
use Rattle.ov_base.specs.declared.bytes.Content.TheVariants.{File}
use Rattle.ov_base.specs.declared.node_id.NodeId.{NodeId}
use Rattle.plain_model.specs.Layers.{Name, Path, Directory, Named, Inode, Layer, held, Contents, over, shows, through, is_directory, AreLayers}
use Rattle.plain_model.specs.Tree.{same_id, Node, Leaf, Origin, Own, Tree, node_at}
use Rattle.plain_model.specs.Machine.{Table, State}
use Rattle.plain_model.specs.Changes.{way_of, lead_way, over_node, change, one_fewer, with_attributes, with_mode, with_owner, set_value, drop_value, is_named, is_held, settled, dropped}
use Rattle.plain_model.proofs.Keeping.{put-here, put-there}
use Rattle.plain_model.proofs.Paths.{place, ids_tell}
use Rattle.mount_laws.specs.Leaves.{PlacesLeaf}
use Rattle.mount_laws.specs.Removals.{Loses}
use Rattle.mount_laws.specs.Attributes.{shown_attributes}
use Rattle.mount_laws.specs.Altered.{AltersInode, AltersDirectory}
use Rattle.mount_laws.specs.OpenFiles.{IsLive}
use Rattle.mount_laws.specs.StayOpen.{LosesLink, LawOfLiveThroughUnlink, LawOfLiveThroughRmdir, AltersNamed, LawOfAltersNamed, LawOfLiveThroughMode, LawOfLiveThroughOwner, LawOfLiveThroughSet, LawOfLiveThroughDeleted}
use Rattle.mount_laws.proofs.Handles.{not-same}
use Rattle.mount_laws.proofs.OpenFiles.{one-number, lead-leaf}
use Rattle.mount_laws.proofs.Places.{nothing-below, named-shown}

-- a way in leaves files and links as they were
pub way-leaf :
    (t : Tree) (w : Option (NodeId × Name)) (o : Option NodeId) (e : NodeId) (content : Content) (a : Attributes) (u : Origin) (l : ℕ) →
    t e ≡ Some (Leaf content a u l) → lead_way t w o e ≡ t e
way-leaf t None o e content a u l h = refl
way-leaf t (Some w) o e content a u l h = lead-leaf t w.0 w.1 o e content a u l h

-- a file or link at e, in a tree that a name goes from
module _
    (t : Tree) (ks : List Table) (w : Option (NodeId × Name)) (e : NodeId) (content : Content) (a : Attributes) (u : Origin) (l : ℕ)
    (is : t e ≡ Some (Leaf content a u l)) where
  -- it is as it was where the name led to another node
  dropped-other : (o : Option NodeId) → (o ≡ Some e → ⊥) → settled ks (lead_way (change one_fewer t o) w None) o e ≡ t e
  dropped-other None away = way-leaf t w None e content a u l is
  dropped-other (Some d) away =
      put-there led d (cond (is_named (led d) || is_held ks d) (led d) None) e apart
      ∙ way-leaf (change one_fewer t (Some d)) w None e content a u l (there ∙ is)
      ∙ there
    where
      led : Tree
      led = lead_way (change one_fewer t (Some d)) w None

      apart : same_id d e ≡ false
      apart = not-same d e (λ h. away (ap Some h))

      there : change one_fewer t (Some d) e ≡ t e
      there = put-there t d (over_node one_fewer (t d)) e apart

  abbrev led_own : Tree
  led_own = lead_way (change one_fewer t (Some e)) w None

  abbrev fewer_own : Option Node
  fewer_own = Some (Leaf content a u (l - 1))

  counted-own : change one_fewer t (Some e) e ≡ fewer_own
  counted-own = put-here t e (over_node one_fewer (t e)) e ((ids_tell e e).1 refl) ∙ ap (over_node one_fewer) is

  led-own : led_own e ≡ fewer_own
  led-own = way-leaf (change one_fewer t (Some e)) w None e content a u (l - 1) counted-own ∙ counted-own

  -- it has a name fewer where the name led to it, if a handle is open on it
  dropped-own : is_held ks e ≡ true → settled ks led_own (Some e) e ≡ fewer_own
  dropped-own held =
      put-here led_own e (cond (is_named (led_own e) || is_held ks e) (led_own e) None) e ((ids_tell e e).1 refl)
      ∙ ap (λ b. cond (is_named (led_own e) || b) (led_own e) None) held
      ∙ by (is_named (led_own e))
      ∙ led-own
    where
      by : (b : Bool) → cond (b || true) (led_own e) None ≡ led_own e
      by true = refl
      by false = refl

-- p goes
module _
    (U V : Layer) (lowers : List Layer) (s : State) (p : Path) (g : Loses U V lowers p)
    (gone : node_at (dropped s.tables s.tree p) p ≡ None)
    (stays : (q : Path) → q ≢ p → node_at (dropped s.tables s.tree p) q ≡ node_at s.tree q) (e : NodeId) (j : ℕ) (w : LosesLink U V p j)
    (open_there : held U p ≡ Some (Named j) → is_held s.tables e ≡ true) (l : IsLive U s.tree e j) where
  abbrev u : Tree
  u = dropped s.tables s.tree p

  -- a path to the file is another
  apart : (q : Path) → node_at u q ≡ Some e → q ≢ p
  apart q h is = let z : None ≡ Some e = sym gone ∙ ap (node_at u) (sym is) ∙ h in cc

  names : (q : Path) → (node_at u q ≡ Some e) ↔ (held V q ≡ Some (Named j))
  names q = (
    λ h. (g.names q j).1 (apart q h, (l.paths q).0 (sym (stays q (apart q h)) ∙ h)),
    λ h. let n = (g.names q j).0 h in stays q n.0 ∙ (l.paths q).1 n.1,
  )

  -- the name of another object
  not-named : (node_at s.tree p ≡ Some e → ⊥) → IsLive V u e j
  not-named away = record {
    bytes = l.bytes;
    attributes = l.attributes;
    links = l.links;
    mark = l.mark;
    inode = w.same (λ h. away ((l.paths p).1 h)) ∙ l.inode;
    node =
        dropped-other s.tree s.tables (way_of s.tree p) e (File l.bytes) l.attributes (Own (is_some l.mark)) l.links l.node (node_at s.tree p) away
        ∙ l.node;
    paths = names;
  }

  -- a name of the file
  was-named : node_at s.tree p ≡ Some e → IsLive V u e j
  was-named at = record {
    bytes = l.bytes;
    attributes = l.attributes;
    links = l.links - 1;
    mark = l.mark;
    inode = w.fewer (record { content = File l.bytes; attributes = l.attributes; links = l.links; mark = l.mark }) ((l.paths p).0 at) l.inode;
    node =
        ap (λ o. settled s.tables (lead_way (change one_fewer s.tree o) (way_of s.tree p) None) o e) at
        ∙ dropped-own s.tree s.tables (way_of s.tree p) e (File l.bytes) l.attributes (Own (is_some l.mark)) l.links l.node (open_there ((l.paths p).0 at));
    paths = names;
  }

  through-removal : IsLive V u e j
  through-removal = by (node_at s.tree p) refl
    where
      by : (o : Option NodeId) → node_at s.tree p ≡ o → IsLive V u e j
      by None h = not-named (λ at. let z : None ≡ Some e = sym h ∙ at in cc)
      by (Some d) h = elim (cases_Bool (same_id d e)) [
        | inl y ↦ was-named (h ∙ ap Some ((ids_tell d e).0 y))
        | inr n ↦ not-named (λ at. false≢true (sym n ∙ (ids_tell d e).1 (let z : Some d ≡ Some e = sym h ∙ at in cc)))
      ]

-- where unlink takes a name away
pub law_of_live_through_unlink : LawOfLiveThroughUnlink
law_of_live_through_unlink p U V lowers s c g r e j w open_there l = through-removal U V lowers s p g r.gone r.stays e j w open_there l

-- where rmdir takes a directory away
pub law_of_live_through_rmdir : LawOfLiveThroughRmdir
law_of_live_through_rmdir p U V lowers s c g r e j w open_there l = through-removal U V lowers s p g r.gone r.stays e j w open_there l

-- p's attributes change by f
module _
    (U V : Layer) (lowers : List Layer) (s : State) (p : Path) (f : Attributes → Attributes) (a : Attributes)
    (has : shown_attributes (shows 0 (U ∷ lowers) p) ≡ Some a) (u : Tree)
    (is : u ≡ change (with_attributes s.options f) s.tree (node_at s.tree p)) (paths : (q : Path) → node_at u q ≡ node_at s.tree q)
    (others : (d : NodeId) → (node_at s.tree p ≡ Some d → ⊥) → u d ≡ s.tree d) (e : NodeId) (j : ℕ) (w : AltersNamed U V p (f a) j)
    (l : IsLive U s.tree e j) where
  still-names : (q : Path) → (node_at u q ≡ Some e) ↔ (held V q ≡ Some (Named j))
  still-names q = (λ h. (w.names q).1 ((l.paths q).0 (sym (paths q) ∙ h)), λ h. paths q ∙ (l.paths q).1 ((w.names q).0 h))

  elsewhere : (node_at s.tree p ≡ Some e → ⊥) → IsLive V u e j
  elsewhere away = record {
    bytes = l.bytes;
    attributes = l.attributes;
    links = l.links;
    mark = l.mark;
    inode = w.same (λ h. away ((l.paths p).1 h)) ∙ l.inode;
    node = others e away ∙ l.node;
    paths = still-names;
  }

  -- the attributes that are shown at a name of the file are its own
  own-attributes : held U p ≡ Some (Named j) → l.attributes ≡ a
  own-attributes h =
      let own : shown_attributes (shows 0 (U ∷ lowers) p) ≡ Some l.attributes =
      ap (λ o. shown_attributes (over 0 U.inodes o (through U lowers p))) h
      ∙ ap (λ o. shown_attributes (Some (Contents 0 j o))) l.inode in
      let z : Some l.attributes ≡ Some a = sym own ∙ has in
      cc

  there : node_at s.tree p ≡ Some e → IsLive V u e j
  there at = record {
    bytes = l.bytes;
    attributes = f a;
    links = l.links;
    mark = l.mark;
    inode = w.altered (record { content = File l.bytes; attributes = l.attributes; links = l.links; mark = l.mark }) ((l.paths p).0 at) l.inode;
    node =
        ap (λ t. t e) is
        ∙ ap (λ o. change (with_attributes s.options f) s.tree o e) at
        ∙ put-here s.tree e (over_node (with_attributes s.options f) (s.tree e)) e ((ids_tell e e).1 refl)
        ∙ ap (over_node (with_attributes s.options f)) l.node
        ∙ ap (λ x. Some (Leaf (File l.bytes) (f x) (Own (is_some l.mark)) l.links)) (own-attributes ((l.paths p).0 at));
    paths = still-names;
  }

  through-change : IsLive V u e j
  through-change = by (node_at s.tree p) refl
    where
      by : (o : Option NodeId) → node_at s.tree p ≡ o → IsLive V u e j
      by None h = elsewhere (λ at. let z : None ≡ Some e = sym h ∙ at in cc)
      by (Some d) h = elim (cases_Bool (same_id d e)) [
        | inl y ↦ there (h ∙ ap Some ((ids_tell d e).0 y))
        | inr n ↦ elsewhere (λ at. false≢true (sym n ∙ (ids_tell d e).1 (let z : Some d ≡ Some e = sym h ∙ at in cc)))
      ]

-- where chmod changes the mode
pub law_of_live_through_mode : LawOfLiveThroughMode
law_of_live_through_mode p mode U V lowers s c a has g e j w l =
    through-change U V lowers s p (with_mode mode) a has _ refl g.paths g.others e j w l

-- where chown changes the owner
pub law_of_live_through_owner : LawOfLiveThroughOwner
law_of_live_through_owner p uid gid U V lowers s c a has g e j w l =
    through-change U V lowers s p (with_owner uid gid) a has _ refl g.paths g.others e j w l

-- where a user attribute is set
pub law_of_live_through_set : LawOfLiveThroughSet
law_of_live_through_set p n v U V lowers s c a has g e j w l =
    through-change U V lowers s p (λ a. record a { user = set_value a.user n v }) a has _ refl g.paths g.others e j w l

-- where a user attribute is deleted
pub law_of_live_through_deleted : LawOfLiveThroughDeleted
law_of_live_through_deleted p n U V lowers s c a has g e j w l =
    through-change U V lowers s p (λ a. record a { user = drop_value a.user n }) a has _ refl g.paths g.others e j w l

-- an inode whose attributes change
by-inode : (U V : Layer) (p : Path) (a : Attributes) (j : ℕ) → AltersInode U V p a → AltersNamed U V p a j
by-inode U V p a j c = record {
  names = λ q. (λ h. sym (c.objects q) ∙ h, λ h. c.objects q ∙ h);
  altered = λ i h is.
      let number : j ≡ c.number = one-number U p j c.number h c.named in
      let z : Some c.inode ≡ Some i = sym c.before ∙ ap U.inodes (sym number) ∙ is in
      let same : c.inode ≡ i = cc in
      ap V.inodes number ∙ c.now ∙ ap {A = Inode} (λ i. Some (record i { attributes = a })) same;
  same = λ not. c.inodes j (λ e. not (c.named ∙ ap (λ n. Some (Named n)) (sym e)));
}

-- a directory whose attributes change
module _ (U V : Layer) (p : Path) (a : Attributes) (j : ℕ) (c : AltersDirectory U V p a) where
  not-before : (q : Path) → held U q ≡ Some (Named j) → q ≢ p
  not-before q h e =
      let z : Some (Directory c.number c.old c.opaque c.redirect) ≡ Some (Named j) = sym c.before
      ∙ ap (held U) (sym e)
      ∙ h in cc

  not-now : (q : Path) → held V q ≡ Some (Named j) → q ≢ p
  not-now q h e = let z : Some (Directory c.number a c.opaque c.redirect) ≡ Some (Named j) = sym c.now ∙ ap (held V) (sym e) ∙ h in cc

  by-directory : AltersNamed U V p a j
  by-directory = record {
    names = λ q. (λ h. sym (c.elsewhere q (not-now q h)) ∙ h, λ h. c.elsewhere q (not-before q h) ∙ h);
    altered = λ i h is. absurd (not-before p h refl);
    same = λ not. c.inodes j;
  }

-- a file or link of a lower layer that is copied up, as an inode of a new number
module _
    (U V : Layer) (lowers : List Layer) (p : Path) (a : Attributes) (j : ℕ) (old : is_some (U.inodes j) ≡ true)
    (layers : AreLayers (U ∷ lowers)) (l k n : ℕ) (x i : Inode) (lower : shows 0 (U ∷ lowers) p ≡ Some (Contents (suc l) n (Some x)))
    (m : PlacesLeaf U V p k i) where
  other-number : j ≢ k
  other-number e = false≢true (sym (ap is_some (ap U.inodes e ∙ m.free)) ∙ old)

  unnamed : held U p ≡ Some (Named j) → ⊥
  unnamed h =
      let z : Some (Contents 0 j (U.inodes j)) ≡ Some (Contents (suc l) n (Some x)) =
      sym (ap (λ o. over 0 U.inodes o (through U lowers p)) h) ∙ lower in
      cc

  unshown : (y : Name) (r : Path) → shows 0 (U ∷ lowers) (y ∷ r ++ p) ≡ None
  unshown = nothing-below (U ∷ lowers) layers p (ap is_directory lower)

  copied-names : (q : Path) → (held V q ≡ Some (Named j)) ↔ (held U q ≡ Some (Named j))
  copied-names q = elim (place p q) [
    | inl y ↦ below-it y.0 y.1
    | inr out ↦ (λ h. sym (m.elsewhere q out) ∙ h, λ h. m.elsewhere q out ∙ h)
  ]
    where
      below-it : (r : Path) → q ≡ r ++ p → (held V q ≡ Some (Named j)) ↔ (held U q ≡ Some (Named j))
      below-it [] e = (
        λ h. absurd (other-number (let z : Some (Named k) ≡ Some (Named j) = sym m.here ∙ ap (held V) (sym e) ∙ h in cc)),
        λ h. absurd (unnamed (ap (held U) (sym e) ∙ h)),
      )
      below-it (y ∷ r) e = (
        λ h. (let z : None ≡ Some (Named j) = sym (m.beneath y r) ∙ ap (held V) (sym e) ∙ h in cc),
        λ h. absurd (named-shown U lowers (y ∷ r ++ p) j (ap (held U) (sym e) ∙ h) (unshown y r)),
      )

  by-copy : AltersNamed U V p a j
  by-copy = record {
    names = copied-names;
    altered = λ i h is. absurd (unnamed h);
    same = λ not. m.inodes j other-number;
  }

-- each change of what p shows alters an inode that is there so
pub law_of_alters_named : LawOfAltersNamed
law_of_alters_named U V lowers p a j old = record {
  inode = by-inode U V p a j;
  directory = by-directory U V p a j;
  copied = by-copy U V lowers p a j old;
}
