-- What a mount shows before and after its upper gains a directory.
use Rattle.std.proofs.Common.{is_some, ◌≡◌, ◌≢◌, ℕ, suc, ◌+◌, ◌<◌, ◌≤◌, Bool, true, false, List, [], ◌∷◌, ◌++◌, Option, None, Some, refl, sym, ap, ap₂, ◌∙◌, subst, length, drop, take, reverse, get_or, arith, Result, Ok, Err, OnErr, ◌⊎◌, inl, inr}
use Rattle.std.proofs.lemmas.Bool.{false≢true}
use Rattle.std.proofs.lemmas.List.{length-map}
use Rattle.ov_base.specs.declared.attributes.Attributes.{Attributes}
use Rattle.ov_base.specs.declared.errno.Errno.{Errno}
use Rattle.plain_model.specs.Layers.{Name, Path, Object, Whiteout, Directory, Inode, Layer, held, below, cuts, Shown, Folder, Contents, over, shows, through, is_directory, Named, IsLayer, AreLayers, holds_directory}
use Rattle.plain_model.specs.Tree.{Sight, SeenBranch, see, see_inode, merged, IsThin, AreLinked}
use Rattle.plain_model.specs.Laws.{Placed}
use Rattle.plain_model.specs.Machine.{State}
use Rattle.mount_laws.specs.Looks.{IsMountOf}
use Rattle.mount_laws.proofs.Places.{law_of_placed_parent, longer}
use Rattle.mount_laws.proofs.Alters.{law_of_thin}
use Rattle.plain_model.proofs.Uppers.{AgreeTo, agree-where, through-agree, under-agree, merged-meld}
use Rattle.slab.specs.Slab.{get}
use Rattle.layer_tree.specs.Nameless.{KeepsObjects}
use Rattle.layer_tree.specs.Tree.{Tree, layer_of, inode_at, SetsPath, SameObjects}
use Rattle.ov_base.specs.declared.place.Place.{Place}
use Rattle.merged_lookup.specs.declared.stack.Stack.{Stack}
use Rattle.merged_lookup.specs.declared.layers.Layers.{Layers}
use Rattle.merged_lookup.specs.Merged.{level, unless_cut, places_at, top_of, upper_of, lowers_of, layers_of, or_else, fault, way_fault, IsStackOf, ShowsDirectory}
use Rattle.merged_lookup.proofs.Descending.{length-places, reverse-more}
use Rattle.merged_lookup.proofs.Looking.{head-places, head-unless, reverse-parts}
use Rattle.copy_up.specs.Showing.{PassesSame, ShowsSame, HasPlace, is_object, ChangesNoSight, Stays, StaysLayers, StaysMount, StaysSound, StaysThin, GainsParent, IsParent, GainsParents}
pub use Rattle.copy_up.proofs.Raising.{lowers-same}
use Rattle.copy_up.proofs.Raising.{layer-raised, inode-raised, inodes-raised, path-raised, placed-raised}
use Rattle.copy_up.proofs.Frames.{gains-self, gains-one, gains-then, gains-unchanged}
use Rattle.copy_up.proofs.Placing.{nothing-held, agree-placed, placed-same, placed-absent, IsHeldDirectory, top-held, free-folder}

pub same-self : (l : Layers) → ShowsSame l l
same-self l = record { lowers = refl; sights = λ p. refl; absent = λ p h. h; passes = record { cuts = λ p. refl; spelling = λ p. refl } }

pub same-then : (a b c : Layers) → ShowsSame a b → ShowsSame b c → ShowsSame a c
same-then a b c s t =
    record {
      lowers = t.lowers ∙ s.lowers;
      sights = λ p. t.sights p ∙ s.sights p;
      absent = λ p h. t.absent p (s.absent p h);
      passes = record { cuts = λ p. t.passes.cuts p ∙ s.passes.cuts p; spelling = λ p. t.passes.spelling p ∙ s.passes.spelling p };
    }

-- the same inodes by each number are the same inodes
pub inodes-same : (u v : Tree) → ((k : ℕ) → inode_at v k ≡ inode_at u k) → (layer_of v).inodes ≡ (layer_of u).inodes
inodes-same u v h = λ j k. h k j

pub sound-self : (l : Layers) → StaysSound l l
sound-self l = record { layers = λ h. h; thin = λ h. h }

pub sound-then : (a b c : Layers) → StaysSound a b → StaysSound b c → StaysSound a c
sound-then a b c s t = record { layers = λ h. t.layers (s.layers h); thin = λ h. t.thin (s.thin h) }

pub stays-then : (a b c : Layers) → Stays a b → Stays b c → Stays a c
stays-then a b c s t =
    record {
      sound = sound-then a b c s.sound t.sound;
      mounts = λ m h. t.mounts m (s.mounts m h);
      names = λ p k. (λ h. (s.names p k).0 ((t.names p k).0 h), λ h. (t.names p k).1 ((s.names p k).1 h));
      inodes = λ k. t.inodes k ∙ s.inodes k;
      holds = λ p o h. t.holds p o (s.holds p o h);
    }

-- the place of a new directory, from the places of its parent
pub place-of : (l : Layers) (p : Path) (s : Stack) (n : Name) → IsStackOf l p s → (top_of s.places.items).layer ≡ 0 → is_object (held (layer_of l.upper) (n ∷ p)) ≡ false → HasPlace (layer_of l.upper) (top_of s.places.items).key n p
place-of l p s n is top free =
    let U : Layer = layer_of l.upper in
    let rest : List Place = unless_cut (cuts U p) (places_at 1 (lowers_of l) (below U p)) in
    let some : 0 < length s.places.items = omega (arith, s.some_place) in
    let d : IsHeldDirectory (held U p) (top_of s.places.items).key = top-held (held U p) rest s.places.items is.places (head-unless (cuts U p) (places_at 1 (lowers_of l) (below U p)) (head-places 1 (lowers_of l) (below U p))) some top in
    record { attributes = d.attributes; opaque = d.opaque; redirect = d.redirect; directory = d.is; free = free }

-- an upper that stays a layer over lower ones that stay
pub stays-layers : (old new : Layers) → new.lowers ≡ old.lowers → (IsLayer (layer_of old.upper) → IsLayer (layer_of new.upper)) → StaysLayers old new
stays-layers old new low keep h = (layer-raised old new low keep h.0, subst AreLayers (sym (lowers-same old new low)) h.1)

-- a change of the upper at a path, after missing parents were placed
pub then-layers : (start old new : Layers) → StaysLayers start old → new.lowers ≡ old.lowers → (IsLayer (layer_of old.upper) → IsLayer (layer_of new.upper)) → StaysLayers start new
then-layers start old new stays low keep h = stays-layers old new low keep (stays h)

-- linked names are linked by another upper that names the same
pub linked-by : (U V : Layer) → ((p : Path) (k : ℕ) → held U p ≡ Some (Named k) → held V p ≡ Some (Named k)) → (p q : Path) → AreLinked U p q → AreLinked V p q
linked-by U V names p q l = record { number = l.number; first = names p l.number l.first; second = names q l.number l.second }

-- the second of two carried on
pub lift : {A B C : Type 0} → (B → C) → A ⊎ B → A ⊎ C
lift f (inl a) = inl a
lift f (inr b) = inr (f b)

over-alike : (old new : ℕ → Option Inode) (o : Option Object) (s : Option Shown) → ((k : ℕ) → o ≡ Some (Named k) → new k ≡ old k) → over 0 new o s ≡ over 0 old o s
over-alike old new None s same = refl
over-alike old new (Some Whiteout) s same = refl
over-alike old new (Some (Directory k a o r)) s same = refl
over-alike old new (Some (Named k)) s same = ap (λ i. Some (Contents 0 k i)) (same k refl)

-- an upper that holds the same everywhere, and under each number that it names the same inode
module _ (old new : Layers) (low : new.lowers ≡ old.lowers) (same : SameObjects (layer_of old.upper) (layer_of new.upper)) (named : (p : Path) (k : ℕ) → held (layer_of old.upper) p ≡ Some (Named k) → inode_at new.upper k ≡ inode_at old.upper k) where
  agree : (x : Path) → AgreeTo (upper_of old) (upper_of new) x
  agree x = agree-where (upper_of old) (upper_of new) (λ _. Unit {0}) (λ k y u. tt) (λ y u. same y) x tt

  shown-alike : (p : Path) → shows 0 (upper_of new ∷ lowers_of old) p ≡ shows 0 (upper_of old ∷ lowers_of old) p
  shown-alike p =
      ap₂ (λ o s. over 0 (upper_of new).inodes o s) (same p) (through-agree (upper_of old) (upper_of new) (lowers_of old) p (agree p))
      ∙ over-alike (upper_of old).inodes (upper_of new).inodes (held (upper_of old) p) (through (upper_of old) (lowers_of old) p) (λ k h. inode-raised old new low k (named p k h))

  sights-alike : (p : Path) → merged (upper_of new) (lowers_of old) p ≡ merged (upper_of old) (lowers_of old) p
  sights-alike p =
      merged-meld (upper_of new) (lowers_of old) p
      ∙ ap₂ (λ s x. see (is_directory s) x) (through-agree (upper_of old) (upper_of new) (lowers_of old) p (agree p)) (shown-alike p)
      ∙ sym (merged-meld (upper_of old) (lowers_of old) p)

  -- shows the same
  pub same-alike : ShowsSame old new
  same-alike = record {
    lowers = low;
    sights = λ p. ap (λ Ls. merged (upper_of new) Ls p) (lowers-same old new low) ∙ sights-alike p;
    absent = λ p h. ap (λ Ls. shows 0 (upper_of new ∷ Ls) p) (lowers-same old new low) ∙ shown-alike p ∙ h;
    passes = record { cuts = λ p. (agree p).cut_alike; spelling = λ p. (agree p).spelled };
  }

  more : (p : Path) (k : ℕ) → held (upper_of old) p ≡ Some (Named k) → held (upper_of new) p ≡ Some (Named k)
  more p k h = same p ∙ h

  less : (p : Path) (k : ℕ) → held (upper_of new) p ≡ Some (Named k) → held (upper_of old) p ≡ Some (Named k)
  less p k h = sym (same p) ∙ h

  mount-alike : (IsLayer (layer_of old.upper) → IsLayer (layer_of new.upper)) → (s : State) → IsMountOf (upper_of old) (lowers_of old) s → IsMountOf (upper_of new) (lowers_of old) s
  mount-alike keep s h = record {
    layers = (layer-raised old new low keep h.layers.0, h.layers.1);
    shows = record {
      sights = λ p. h.shows.sights p ∙ sym (sights-alike p);
      linked = λ p q l. h.shows.linked p q (linked-by (upper_of new) (upper_of old) less p q l);
      apart = λ p q d e g. lift (linked-by (upper_of old) (upper_of new) more p q) (h.shows.apart p q d e g);
    };
    kept = h.kept;
    writable = h.writable;
  }

  thin-upper : IsThin (upper_of old) (lowers_of old) → IsThin (upper_of new) (lowers_of old)
  thin-upper h n p is = ap is_some (under-agree (upper_of old) (upper_of new) (lowers_of old) n p (agree p)) ∙ h n p (sym (same (n ∷ p)) ∙ is)

  -- stays sound, and the mount of the same states
  layers-alike : (IsLayer (layer_of old.upper) → IsLayer (layer_of new.upper)) → StaysLayers old new
  layers-alike keep a = (layer-raised old new low keep a.0, subst AreLayers (sym (lowers-same old new low)) a.1)

  pub mounts-alike : (IsLayer (layer_of old.upper) → IsLayer (layer_of new.upper)) → StaysMount old new
  mounts-alike keep s h = subst (λ (Ls : List Layer). IsMountOf (upper_of new) Ls s) (sym (lowers-same old new low)) (mount-alike keep s h)

  thin-alike : StaysThin old new
  thin-alike h = subst (λ (Ls : List Layer). IsThin (upper_of new) Ls) (sym (lowers-same old new low)) (thin-upper h)

  pub sound-alike : (IsLayer (layer_of old.upper) → IsLayer (layer_of new.upper)) → StaysSound old new
  sound-alike keep = record { layers = layers-alike keep; thin = thin-alike }

-- an upper that holds the same everywhere shows the same
pub same-unchanged : (old new : Layers) → new.lowers ≡ old.lowers → SameObjects (layer_of old.upper) (layer_of new.upper) → ((k : ℕ) → inode_at new.upper k ≡ inode_at old.upper k) → ShowsSame old new
same-unchanged old new low same inodes = same-alike old new low same (λ p k h. inodes k)

-- and is as the old one
pub stays-unchanged : (old new : Layers) → new.lowers ≡ old.lowers → SameObjects (layer_of old.upper) (layer_of new.upper) → ((k : ℕ) → inode_at new.upper k ≡ inode_at old.upper k) → (IsLayer (layer_of old.upper) → IsLayer (layer_of new.upper)) → Stays old new
stays-unchanged old new low same inodes keep = record {
  sound = sound-alike old new low same (λ p k h. inodes k) keep;
  mounts = mounts-alike old new low same (λ p k h. inodes k) keep;
  names = λ p k. (λ h. sym (same p) ∙ h, λ h. same p ∙ h);
  inodes = inodes;
  holds = λ p o h. same p ∙ h;
}

-- an upper that is the very same changes no sight
pub no-sight : (old new : Layers) (p : Path) → new.lowers ≡ old.lowers → new.upper ≡ old.upper → ChangesNoSight old new (GainsParents old new p)
no-sight old new p low e =
    let held_same : SameObjects (layer_of old.upper) (layer_of new.upper) = λ x. ap (λ (t : Tree). held (layer_of t) x) e in
    let inodes_same : (k : ℕ) → inode_at new.upper k ≡ inode_at old.upper k = λ k. ap (λ (t : Tree). inode_at t k) e in
    record {
      shown = same-unchanged old new low held_same inodes_same;
      mount = (stays-unchanged old new low held_same inodes_same (subst (λ (t : Tree). IsLayer (layer_of t)) (sym e))).mounts;
      beneath = gains-unchanged old new p low held_same (subst (λ (t : Tree). KeepsObjects old.upper t None) (sym e) (gains-self old p).objects);
    }

-- a change that fails after missing parents were placed, and leaves what the upper holds then
module _ (start mid new : Layers) (same : ShowsSame start mid) (stays : Stays start mid) (low : new.lowers ≡ mid.lowers) (objects : SameObjects (layer_of mid.upper) (layer_of new.upper)) (kept : KeepsObjects mid.upper new.upper None) where
  inodes : (k : ℕ) → inode_at new.upper k ≡ inode_at mid.upper k
  inodes k = kept.inodes k (λ e. cc)

  pub failed-stays : (IsLayer (layer_of mid.upper) → IsLayer (layer_of new.upper)) → Stays start new
  failed-stays keep = stays-then start mid new stays (stays-unchanged mid new low objects inodes keep)

  pub failed : (Beneath : Type 0) → (IsLayer (layer_of mid.upper) → IsLayer (layer_of new.upper)) → Beneath → ChangesNoSight start new Beneath
  failed Beneath keep beneath = record {
    shown = same-then start mid new same (same-unchanged mid new low objects inodes);
    mount = (failed-stays keep).mounts;
    beneath = beneath;
  }

  -- it gained those parents at most
  pub failed-gains : (p : Path) → (IsLayer (layer_of mid.upper) → IsLayer (layer_of new.upper)) → GainsParents start mid p → ChangesNoSight start new (GainsParents start new p)
  failed-gains p keep gains = failed (GainsParents start new p) keep (gains-then start mid new p same gains (gains-unchanged mid new p low objects kept))

pub places-agree : (i : ℕ) (U V : Layer) (Ls : List Layer) (p : Path) → held V p ≡ held U p → cuts V p ≡ cuts U p → below V p ≡ below U p → places_at i (V ∷ Ls) p ≡ places_at i (U ∷ Ls) p
places-agree i U V Ls p h c b j = level i (h j) (unless_cut (c j) (places_at (suc i) Ls (b j)))

-- a directory that is shown at n in p, and that the upper lacks, is placed
module _ (old new : Layers) (low : new.lowers ≡ old.lowers) (inodes : (k : ℕ) → inode_at new.upper k ≡ inode_at old.upper k) (p : Path) (n : Name) (i m : ℕ) (a : Attributes) (shown : shows 0 (layers_of old) (n ∷ p) ≡ Some (Folder i m a)) (lacks : i ≢ 0) (key : ℕ) (sets : SetsPath (layer_of old.upper) (layer_of new.upper) (n ∷ p) (Directory key a false None)) where
  pub lacked : held (layer_of old.upper) (n ∷ p) ≡ None
  lacked = free-folder (upper_of old).inodes (held (layer_of old.upper) (n ∷ p)) (through (layer_of old.upper) (lowers_of old) (n ∷ p)) i m a shown lacks

  pub same-placed : ShowsSame old new
  same-placed =
      let I : (upper_of new).inodes ≡ (upper_of old).inodes = inodes-raised old new low inodes in
      let S : SetsPath (upper_of old) (upper_of new) (n ∷ p) (Directory key a false None) = path-raised old new low (n ∷ p) (Directory key a false None) sets in
      record {
        lowers = low;
        sights = λ x. ap (λ Ls. merged (upper_of new) Ls x) (lowers-same old new low) ∙ placed-same (upper_of old) (upper_of new) (lowers_of old) (n ∷ p) key a lacked S I i m shown x;
        absent = λ x h. ap (λ Ls. shows 0 (upper_of new ∷ Ls) x) (lowers-same old new low) ∙ placed-absent (upper_of old) (upper_of new) (lowers_of old) (n ∷ p) key a lacked S I i m shown x h;
        passes = record {
          cuts = λ x. (agree-placed (upper_of old) (upper_of new) (lowers_of old) (n ∷ p) key a lacked S I x).cut_alike;
          spelling = λ x. (agree-placed (upper_of old) (upper_of new) (lowers_of old) (n ∷ p) key a lacked S I x).spelled;
        };
      }

  pub placed : Placed (layer_of old.upper) (layer_of new.upper) (n ∷ p) (Some (Directory key a false None))
  placed = record {
    here = sets.there;
    beneath = λ k r. sets.elsewhere (k ∷ r ++ (n ∷ p)) (λ e. longer (n ∷ p) k r (sym e)) ∙ nothing-held old.upper (n ∷ p) (ap holds_directory lacked) k r;
    elsewhere = λ x out. sets.elsewhere x (λ e. out [] e);
    inodes = inodes-same old.upper new.upper inodes;
  }

  not-named : (x : Path) (k : ℕ) → held (layer_of new.upper) x ≡ Some (Named k) → x ≢ n ∷ p
  not-named x k h e = let z : Some (Directory key a false None) ≡ Some (Named k) = sym sets.there ∙ ap (held (layer_of new.upper)) (sym e) ∙ h in cc

  was-held : (x : Path) (o : Object) → held (layer_of old.upper) x ≡ Some o → x ≢ n ∷ p
  was-held x o h e = let z : None ≡ Some o = sym lacked ∙ ap (held (layer_of old.upper)) (sym e) ∙ h in cc

  pub stays-placed : (IsLayer (layer_of old.upper) → IsLayer (layer_of new.upper)) → Stays old new
  stays-placed keep =
      let U : Layer = upper_of old in
      let V : Layer = upper_of new in
      let P : Placed U V (n ∷ p) (Some (Directory key a false None)) = placed-raised old new low (n ∷ p) (Some (Directory key a false None)) placed in
      record {
        sound = record {
          layers = λ h. (layer-raised old new low keep h.0, subst AreLayers (sym (lowers-same old new low)) h.1);
          thin = λ h. subst (λ (Ls : List Layer). IsThin V Ls) (sym (lowers-same old new low)) ((law_of_thin U V (lowers_of old) h n p).directory key a false None P);
        };
        mounts = λ s h. subst (λ (Ls : List Layer). IsMountOf V Ls s) (sym (lowers-same old new low)) (law_of_placed_parent U V (lowers_of old) s h (layer-raised old new low keep h.layers.0, h.layers.1) n p i m key a lacked shown P);
        names = λ x k. (λ h. sym (sets.elsewhere x (not-named x k h)) ∙ h, λ h. sets.elsewhere x (was-held x (Named k) h) ∙ h);
        inodes = inodes;
        holds = λ x o h. sets.elsewhere x (was-held x o h) ∙ h;
      }

  pub gains-placed : GainsParent old new (n ∷ p)
  gains-placed = record { layer = i; key = m; attributes = a; shown = shown; lowers = low; number = key; placed = placed }

  pub frames-placed : get old.upper key ≡ None → (t : Path) → IsParent (n ∷ p) t → KeepsObjects old.upper new.upper None → GainsParents old new t
  frames-placed vacant t parent kept = gains-one old new t (n ∷ p) i m key a parent low shown lacked sets vacant kept

  -- its place is on top of the places that it had
  pub places-placed : (s : List Place) → s ≡ places_at 0 (layers_of old) (n ∷ p) → record { layer = 0; key = key } ∷ s ≡ places_at 0 (layers_of new) (n ∷ p)
  places-placed s is =
      let U : Layer = layer_of old.upper in
      let V : Layer = layer_of new.upper in
      let x : Path = n ∷ p in
      let agree : PassesSame U V = same-placed.passes in
      let rest : List Place = unless_cut (cuts U x) (places_at 1 (lowers_of old) (below U x)) in
      let before : s ≡ rest = is ∙ ap (λ o. level 0 o rest) lacked in
      let after : places_at 0 (V ∷ lowers_of old) x ≡ record { layer = 0; key = key } ∷ rest
      = λ j. level 0 (sets.there j) (unless_cut (agree.cuts x j) (places_at 1 (lowers_of old) (agree.spelling x j))) in
      ap (λ (z : List Place). record { layer = 0; key = key } ∷ z) before ∙ sym after ∙ sym (ap (λ Ls. places_at 0 (V ∷ Ls) x) (lowers-same old new low))

-- whether a directory is seen
abbrev is_branch : Option Sight → Bool
is_branch (Some (SeenBranch a b)) = true
is_branch _ = false

inode-branch : (i : ℕ) (x : Option Inode) → is_branch (see_inode i x) ≡ false
inode-branch i None = refl
inode-branch i (Some x) = refl

branch-see : (b : Bool) (x : Option Shown) → is_branch (see b x) ≡ is_directory x
branch-see b None = refl
branch-see b (Some (Folder i k a)) = refl
branch-see b (Some (Contents i k x)) = inode-branch i x

-- a directory stays shown as one
pub directory-same : (old new : Layers) (p : Path) → ShowsSame old new → is_directory (shows 0 (layers_of old) p) ≡ true → is_directory (shows 0 (layers_of new) p) ≡ true
directory-same old new p s h = sym (branch-see _ (shows 0 (layers_of new) p)) ∙ ap is_branch (s.sights p) ∙ branch-see _ (shows 0 (layers_of old) p) ∙ h

pub or-first : (a b : Option Errno) → or_else a b ≡ None → a ≡ None
or-first None b h = refl
or-first (Some e) b h = h

or-second : (a b : Option Errno) → or_else a b ≡ None → b ≡ None
or-second None b h = h
or-second (Some e) b h = cc

pub way-first : (Ls : List Layer) (r p : Path) → way_fault Ls (r ++ p) ≡ None → way_fault Ls p ≡ None
way-first Ls [] p h = h
way-first Ls (n ∷ r) p h = way-first Ls r p (or-first (way_fault Ls (r ++ p)) (fault (shows 0 Ls (n ∷ r ++ p))) h)

no-fault : (x : Option Shown) → fault x ≡ None → is_directory x ≡ true
no-fault None h = cc
no-fault (Some (Folder i k a)) h = refl
no-fault (Some (Contents i k x)) h = cc

pub way-directory : (Ls : List Layer) (p : Path) (n : Name) → way_fault Ls (n ∷ p) ≡ None → is_directory (shows 0 Ls (n ∷ p)) ≡ true
way-directory Ls p n h = no-fault (shows 0 Ls (n ∷ p)) (or-second (way_fault Ls p) (fault (shows 0 Ls (n ∷ p))) h)

-- each name of a way without fault shows a directory
pub way-shows : (l : Layers) (names : List Name) (i : ℕ) (n : Name) → i < length names → n ≡ get_or names i n → way_fault (layers_of l) (reverse names) ≡ None → is_directory (shows 0 (layers_of l) (n ∷ reverse (take i names))) ≡ true
way-shows l names i n h is none =
    let whole : way_fault (layers_of l) (reverse (drop (i + 1) names) ++ reverse (take (i + 1) names)) ≡ None = sym (ap (way_fault (layers_of l)) (reverse-parts names (i + 1))) ∙ none in
    let front : way_fault (layers_of l) (reverse (take (i + 1) names)) ≡ None = way-first (layers_of l) (reverse (drop (i + 1) names)) (reverse (take (i + 1) names)) whole in
    way-directory (layers_of l) (reverse (take i names)) n (sym (ap (way_fault (layers_of l)) (reverse-more names i n h is)) ∙ front)

-- the names up to one of them lead to a parent of what is in the directory that all of them lead to
pub is-parent : (names : List Name) (i : ℕ) (name n : Name) → i < length names → name ≡ get_or names i name → IsParent (name ∷ reverse (take i names)) (n ∷ reverse names)
is-parent names i name n h is = (n, reverse (drop (i + 1) names), ap (λ z. n ∷ z) (reverse-parts names (i + 1) ∙ ap (λ z. reverse (drop (i + 1) names) ++ z) (reverse-more names i name h is)))

length-unless : (c : Bool) (s : List Place) (m : ℕ) → length s ≤ m → length (unless_cut c s) ≤ m
length-unless true s m h = omega arith
length-unless false s m h = h

-- where the upper holds nothing, a path reaches directories of lower layers alone
lower-places : (U : Layer) (Ls : List Layer) (p : Path) → held U p ≡ None → length (places_at 0 (U ∷ Ls) p) ≤ length Ls
lower-places U Ls p none =
    subst (λ (o : Option Object). length (level 0 o (unless_cut (cuts U p) (places_at 1 Ls (below U p)))) ≤ length Ls) (sym none)
    (length-unless (cuts U p) (places_at 1 Ls (below U p)) (length Ls) (length-places 1 Ls (below U p)))

-- the upper has the directory n in p now, under this key, and the same is shown as before
pub record IsPlaced (old new : Layers) (p : Path) (n : Name) (key : ℕ) : Type 0 where
  pub same : ShowsSame old new
  pub places : (s : List Place) → s ≡ places_at 0 (layers_of old) (n ∷ p) → record { layer = 0; key = key } ∷ s ≡ places_at 0 (layers_of new) (n ∷ p)
  pub stays : Stays old new
  pub gains : GainsParent old new (n ∷ p)
  pub frames : (t : Path) → IsParent (n ∷ p) t → KeepsObjects old.upper new.upper None → GainsParents old new t

-- a directory that is shown by a lower layer, found from the stack of its parent in the upper
module _ (old : Layers) (p : Path) (n : Name) (parent : Stack) (is : IsStackOf old p parent) (upper : (top_of parent.places.items).layer ≡ 0) (found : List Place) (f : ShowsDirectory old (n ∷ p) found) (spot dir : Place) (is_spot : spot ≡ top_of found) (is_dir : dir ≡ top_of parent.places.items) (lower : spot.layer ≢ 0) where
  pub found-shown : shows 0 (layers_of old) (n ∷ p) ≡ Some (Folder spot.layer spot.key f.attributes)
  found-shown = f.shown ∙ ap (λ (d : Place). Some (Folder d.layer d.key f.attributes)) (sym is_spot)

  -- the upper holds nothing there
  found-lacked : held (layer_of old.upper) (n ∷ p) ≡ None
  found-lacked = free-folder (upper_of old).inodes (held (layer_of old.upper) (n ∷ p)) (through (layer_of old.upper) (lowers_of old) (n ∷ p)) spot.layer spot.key f.attributes found-shown lower

  -- so there is room for its place on top
  pub found-few : length found < 17
  found-few =
      let short : length (places_at 0 (layers_of old) (n ∷ p)) ≤ length (lowers_of old) = lower-places (layer_of old.upper) (lowers_of old) (n ∷ p) found-lacked in
      let same : length (lowers_of old) ≡ length old.lowers.items = simp length-map in
      let all : length found ≡ length (places_at 0 (layers_of old) (n ∷ p)) = ap length f.places in
      omega (arith, old.few_lowers)

  -- has a place in the upper
  pub found-place : HasPlace (layer_of old.upper) dir.key n p
  found-place = subst (λ (d : Place). HasPlace (layer_of old.upper) d.key n p) (sym is_dir) (place-of old p parent n is upper (ap is_object found-lacked))

  -- is placed there by a copy of its attributes
  pub found-placed : (new : Layers) (copy : Attributes) → copy ≡ f.attributes → new.lowers ≡ old.lowers → ((k : ℕ) → inode_at new.upper k ≡ inode_at old.upper k) → (key : ℕ) → SetsPath (layer_of old.upper) (layer_of new.upper) (n ∷ p) (Directory key copy false None) × (get old.upper key ≡ None) → (IsLayer (layer_of old.upper) → IsLayer (layer_of new.upper)) → IsPlaced old new p n key
  found-placed new copy e low inodes key sets keep =
      let shown : shows 0 (layers_of old) (n ∷ p) ≡ Some (Folder spot.layer spot.key copy) = found-shown ∙ ap (λ a. Some (Folder spot.layer spot.key a)) (sym e) in
      record {
        same = same-placed old new low inodes p n spot.layer spot.key copy shown lower key sets.0;
        places = places-placed old new low inodes p n spot.layer spot.key copy shown lower key sets.0;
        stays = stays-placed old new low inodes p n spot.layer spot.key copy shown lower key sets.0 keep;
        gains = gains-placed old new low inodes p n spot.layer spot.key copy shown lower key sets.0;
        frames = frames-placed old new low inodes p n spot.layer spot.key copy shown lower key sets.0 sets.1;
      }

pub on-err : {A E : Type 0} (P : Type 0) (r : Result A E) → P → OnErr r P
on-err P (Ok x) h = tt
on-err P (Err e) h = h

-- the place at the top of a directory's stack is in the upper exactly where the upper holds a directory
pub held-on-top : (l : Layers) (p : Path) (s : Stack) → s.places.items ≡ places_at 0 (layers_of l) p → (top_of s.places.items).layer ≡ 0 → holds_directory (held (layer_of l.upper) p) ≡ true
held-on-top l p s is top =
    let U : Layer = layer_of l.upper in
    let rest : List Place = unless_cut (cuts U p) (places_at 1 (lowers_of l) (below U p)) in
    let some : 0 < length s.places.items = omega (arith, s.some_place) in
    let d : IsHeldDirectory (held U p) (top_of s.places.items).key = top-held (held U p) rest s.places.items is (head-unless (cuts U p) (places_at 1 (lowers_of l) (below U p)) (head-places 1 (lowers_of l) (below U p))) some top in
    ap holds_directory d.is

level-top : (o : Option Object) (rest s : List Place) → s ≡ level 0 o rest → holds_directory o ≡ true → (top_of s).layer ≡ 0
level-top None rest s is h = absurd (false≢true h)
level-top (Some Whiteout) rest s is h = absurd (false≢true h)
level-top (Some (Named k)) rest s is h = absurd (false≢true h)
level-top (Some (Directory k a o r)) rest s is h = ap (λ z. (top_of z).layer) is

pub top-in-upper : (l : Layers) (p : Path) (s : Stack) → IsStackOf l p s → holds_directory (held (layer_of l.upper) p) ≡ true → (top_of s.places.items).layer ≡ 0
top-in-upper l p s is h = level-top (held (layer_of l.upper) p) (unless_cut (cuts (layer_of l.upper) p) (places_at 1 (lowers_of l) (below (layer_of l.upper) p))) s.places.items is.places h

pub apart-held : (b : Bool) (P : Type 0) → b ≡ true → b ≡ false → P
apart-held b P t f = absurd (false≢true (sym f ∙ t))
