-- What layers show once a name is removed, from what the upper held before missing parents were placed.
use Rattle.std.proofs.Common.{◌≡◌, ◌↔◌, ℕ, ◌-◌, ◌<◌, Bool, true, false, not, cond, List, [], ◌∷◌, ◌++◌, Option, None, Some, is_some, length, refl, sym, ap, ap₂, ◌∙◌, subst, arith}
use Rattle.std.proofs.lemmas.Bool.{false≢true}
use Rattle.std.specs.Prelude.{option_map}
use Rattle.slab.specs.Slab.{get}
use Rattle.ov_base.specs.declared.call.CallOf.TheVariants as call
use Rattle.ov_base.specs.declared.errno.Errno.{Errno}
use Rattle.ov_base.specs.declared.errno.Errno.TheVariants as errno
use Rattle.plain_model.specs.Layers.{Name, Path, Object, Named, Whiteout, Inode, Layer, IsLayer, AreLayers, fill, held, below, cuts, Shown, Folder, Contents, shows, through, under, is_directory}
use Rattle.plain_model.specs.Machine.{State, is_root}
use Rattle.plain_model.specs.Refusals.{refusal, when}
use Rattle.plain_model.specs.Tree.{merged, IsThin}
use Rattle.mount_laws.specs.Looks.{IsMountOf, or_else, absent, fault, way_fault, walk_fault}
use Rattle.mount_laws.specs.Removals.{fewer}
use Rattle.mount_laws.proofs.Alters.{law_of_taken_away, law_of_thin}
use Rattle.mount_laws.proofs.Refusing.{law_of_rmdir}
use Rattle.mount_laws.proofs.Removes.{law_of_unlinked, law_of_removed_directory}
use Rattle.layer_tree.specs.Tree.{Tree, IsTree, IsDirectory, layer_of, inode_at, key_at}
use Rattle.ov_base.specs.declared.place.Place.{Place}
use Rattle.merged_lookup.specs.declared.stack.Stack.{Stack}
use Rattle.merged_lookup.specs.declared.layers.Layers.{Layers}
use Rattle.merged_lookup.specs.declared.found.Found.{Found}
use Rattle.merged_lookup.specs.declared.found.Found.TheVariants as found
use Rattle.merged_lookup.specs.Merged.{upper_of, layers_of, lowers_of, top_of, unless_cut, places_at, IsStackOf, IsFound, ShowsDirectory, ShowsInode}
use Rattle.merged_lookup.proofs.Descending.{key-of}
use Rattle.merged_lookup.proofs.Looking.{head-places, head-unless}
use Rattle.copy_up.specs.Showing.{is_object, ShowsSame, StaysLayers, GainsParents}
use Rattle.copy_up.proofs.Frames.{others-then}
use Rattle.copy_up.proofs.Raising.{lowers-same, raise, layer-raised}
use Rattle.copy_up.proofs.Keeping.{linked-by}
use Rattle.merged_lookup.proofs.Folders.{IsDirectoryWith, held-node}
use Rattle.copy_up.proofs.Nodes.{table-some}
use Rattle.copy_up.proofs.Placing.{free-directory, IsHeldDirectory, top-held, mount-parents, nothing-held, free-absent}
use Rattle.make_remove.specs.Removing.{unlink_fault, rmdir_fault, ShowsNoName, TakesAway, Loses, Removes, TellsNames, TakesName, left_behind}
use Rattle.make_remove.proofs.Making.{under-same}

-- the directory at a path is under this key of the tree
pub record IsAt (t : Tree) (p : Path) (dir : ℕ) : Type 0 where
  pub key : key_at t p ≡ Some dir
  pub directory : IsDirectory t dir

-- a directory whose topmost place is in the upper is there
pub top-at : (l : Layers) (p : Path) (s : Stack) (dir : Place) → IsTree l.upper → IsStackOf l p s → (top_of s.places.items).layer ≡ 0 → dir ≡ top_of s.places.items → IsAt l.upper p dir.key
top-at l p s dir tree is top is_dir =
    let U : Layer = layer_of l.upper in
    let rest : List Place = unless_cut (cuts U p) (places_at 1 (lowers_of l) (below U p)) in
    let some : 0 < length s.places.items = omega (arith, s.some_place) in
    let d : IsHeldDirectory (held U p) (top_of s.places.items).key = top-held (held U p) rest s.places.items is.places (head-unless (cuts U p) (places_at 1 (lowers_of l) (below U p)) (head-places 1 (lowers_of l) (below U p))) some top in
    let node : IsDirectoryWith (get l.upper (top_of s.places.items).key) d.attributes = held-node l.upper tree p (top_of s.places.items).key d.attributes d.opaque d.redirect d.is in
    subst (λ (x : Place). IsAt l.upper p x.key) (sym is_dir) (record {
      key = key-of l.upper p (top_of s.places.items).key d.attributes d.opaque d.redirect d.is;
      directory = table-some (get l.upper (top_of s.places.items).key) d.attributes node;
    })

-- an upper that shows and names the same loses the same
loses-from : (W U V : Layer) (lowers : List Layer) (p : Path) → ((x : Path) → merged U lowers x ≡ merged W lowers x) → ((x : Path) (k : ℕ) → (held U x ≡ Some (Named k)) ↔ (held W x ≡ Some (Named k))) → Loses U V lowers p → Loses W V lowers p
loses-from W U V lowers p sights names l = record {
  layers = l.layers;
  gone = l.gone;
  linked = λ q ne both. l.linked q ne (linked-by W U (λ x k. (names x k).1) p q both) ∙ ap fewer (sights q);
  others = λ q ne apart. l.others q ne (λ both. apart (linked-by U W (λ x k. (names x k).0) p q both)) ∙ sights q;
  names = λ q k. (λ h. (let z = (l.names q k).0 h in (z.0, (names q k).0 z.1)), λ h. (l.names q k).1 (h.0, (names q k).1 h.1));
}

-- an object that is taken away from the raw upper is taken away from it as it shows
taken-raised : (old new : Layers) → new.lowers ≡ old.lowers → (p : Path) (o : Option Object) → TakesAway (layer_of old.upper) (layer_of new.upper) p o → TakesAway (upper_of old) (upper_of new) p o
taken-raised old new low p o t = raise old new low (λ V. TakesAway (upper_of old) V p o) (record {
  here = t.here;
  beneath = t.beneath;
  elsewhere = t.elsewhere;
  fewer = λ k i here is more. by k (inode_at old.upper k) refl i here is more;
  inodes = λ k off. ap (option_map (fill (lowers_of old))) (t.inodes k off);
})
  where
    by : (k : ℕ) (x : Option Inode) → inode_at old.upper k ≡ x → (i : Inode) → held (layer_of old.upper) p ≡ Some (Named k) → option_map (fill (lowers_of old)) (inode_at old.upper k) ≡ Some i → 1 < i.links → option_map (fill (lowers_of old)) (inode_at new.upper k) ≡ Some (record i { links = i.links - 1 })
    by k None e i here is more = let z : None ≡ Some i = sym (ap (option_map (fill (lowers_of old))) e) ∙ is in cc
    by k (Some x) e i here is more =
        let two : Some (fill (lowers_of old) x) ≡ Some i = sym (ap (option_map (fill (lowers_of old))) e) ∙ is in
        let same : fill (lowers_of old) x ≡ i = cc in
        ap (option_map (fill (lowers_of old))) (t.fewer k x here e (subst (λ (z : Inode). 1 < z.links) (sym same) more))
        ∙ ap (λ (z : Inode). Some (record z { links = z.links - 1 })) same

-- what is left is a whiteout exactly where the lower layers show something, and the upper stays without needless ones
taken-left : (old : Layers) (V : Layer) (q : Path) (n : Name) (covered : Bool) → covered ≡ is_some (under (layer_of old.upper) (lowers_of old) n q) → TakesAway (layer_of old.upper) V (n ∷ q) (cond covered (Some Whiteout) None) → TakesAway (layer_of old.upper) V (n ∷ q) (left_behind (layer_of old.upper) (lowers_of old) n q)
taken-left old V q n covered e taken = subst (λ c. TakesAway (layer_of old.upper) V (n ∷ q) (cond c (Some Whiteout) None)) e taken

pub taken-thin : (old : Layers) (V : Layer) (q : Path) (n : Name) (covered : Bool) → covered ≡ is_some (under (layer_of old.upper) (lowers_of old) n q) → TakesAway (layer_of old.upper) V (n ∷ q) (cond covered (Some Whiteout) None) → IsThin (layer_of old.upper) (lowers_of old) → IsThin V (lowers_of old)
taken-thin old V q n covered e taken thin = (law_of_thin (layer_of old.upper) V (lowers_of old) thin n q).taken (taken-left old V q n covered e taken)

-- where no name is shown in a path, the upper holds no object below it
unshown-bare : (l : Layers) (p : Path) → ShowsNoName (layers_of l) p → (m : Name) (r : Path) → is_object (held (layer_of l.upper) (m ∷ r ++ p)) ≡ false
unshown-bare l p unshown m [] = free-absent (upper_of l).inodes (held (layer_of l.upper) (m ∷ p)) (through (layer_of l.upper) (lowers_of l) (m ∷ p)) (unshown m)
unshown-bare l p unshown m (k ∷ r) = ap is_object (nothing-held l.upper (k ∷ r ++ p) (free-directory (held (layer_of l.upper) (k ∷ r ++ p)) (unshown-bare l p unshown k r)) m [])

-- the name goes from an upper that shows what the first did
module _ (start old new : Layers) (q : Path) (n : Name) (covered : Bool) (same : ShowsSame start old) (keeps : StaysLayers start old) (names : (p : Path) (k : ℕ) → (held (layer_of old.upper) p ≡ Some (Named k)) ↔ (held (layer_of start.upper) p ≡ Some (Named k))) (gains : GainsParents start old (n ∷ q)) (low : new.lowers ≡ old.lowers) (unshown : ShowsNoName (layers_of start) (n ∷ q)) (is_covered : covered ≡ is_some (under (layer_of old.upper) (lowers_of old) n q)) (taken : TakesAway (layer_of old.upper) (layer_of new.upper) (n ∷ q) (cond covered (Some Whiteout) None)) (keep : IsLayer (layer_of old.upper) → IsLayer (layer_of new.upper)) where
  loses : AreLayers (layers_of start) → Loses (upper_of start) (upper_of new) (lowers_of start) (n ∷ q)
  loses a =
      let b : AreLayers (layers_of old) = keeps a in
      let e : lowers_of old ≡ lowers_of start = lowers-same start old same.lowers in
      let left : TakesAway (upper_of old) (upper_of new) (n ∷ q) (left_behind (upper_of old) (lowers_of old) n q) =
      taken-raised old new low (n ∷ q) _ (taken-left old (layer_of new.upper) q n covered is_covered taken) in
      let l : Loses (upper_of old) (upper_of new) (lowers_of old) (n ∷ q) = law_of_taken_away (upper_of old) (upper_of new) (lowers_of old) b (layer-raised old new low keep b.0, b.1) n q (λ m. same.absent (m ∷ n ∷ q) (unshown m)) left in
      loses-from (upper_of start) (upper_of old) (upper_of new) (lowers_of start) (n ∷ q)
      (λ x. sym (ap (λ Ls. merged (upper_of old) Ls x) e) ∙ same.sights x) names
      (subst (λ (Ls : List Layer). Loses (upper_of old) (upper_of new) Ls (n ∷ q)) e l)

  pub takes-name : TakesName start new (n ∷ q)
  takes-name = record {
    lowers = low ∙ same.lowers;
    left = (taken-left old (layer_of new.upper) q n covered is_covered taken).here ∙ ap (λ s. cond (is_some s) (Some Whiteout) None) (under-same start old n q same);
    loses = loses;
    others = others-then start old new (n ∷ q) gains low taken.elsewhere (unshown-bare old (n ∷ q) (λ m. same.absent (m ∷ n ∷ q) (unshown m))) taken.beneath;
  }

-- what shows no directory shows nothing in it
pub unshown-in : (l : Layers) (p : Path) → is_directory (shows 0 (layers_of l) p) ≡ false → ShowsNoName (layers_of l) p
unshown-in l p h m = by (shows 0 (layers_of l) (m ∷ p)) refl
  where
    by : (s : Option Shown) → shows 0 (layers_of l) (m ∷ p) ≡ s → shows 0 (layers_of l) (m ∷ p) ≡ None
    by None e = e
    by (Some s) e = absurd (false≢true (sym h ∙ mount-parents l m p (ap is_some e)))

directory-some : (s : Option Shown) → is_directory s ≡ true → is_some s ≡ true
directory-some s h = grind arith

directory-fault : (s : Option Shown) → is_directory s ≡ true → (fault s ≡ None) × (absent s ≡ None)
directory-fault None h = absurd (false≢true h)
directory-fault (Some (Folder i k a)) h = (refl, refl)
directory-fault (Some (Contents i k x)) h = absurd (false≢true h)

-- a directory that is shown is walked to
way-none : (l : Layers) (p : Path) → is_directory (shows 0 (layers_of l) p) ≡ true → way_fault (layers_of l) p ≡ None
way-none l [] h = refl
way-none l (n ∷ p) h = ap₂ or_else (way-none l p (mount-parents l n p (directory-some (shows 0 (layers_of l) (n ∷ p)) h))) (directory-fault (shows 0 (layers_of l) (n ∷ p)) h).0

walk-none : (l : Layers) (p : Path) → is_directory (shows 0 (layers_of l) p) ≡ true → walk_fault (layers_of l) p ≡ None
walk-none l [] h = (directory-fault (shows 0 (layers_of l) []) h).1
walk-none l (n ∷ p) h = ap₂ or_else (way-none l p (mount-parents l n p (directory-some (shows 0 (layers_of l) (n ∷ p)) h))) (directory-fault (shows 0 (layers_of l) (n ∷ p)) h).1

fault-no-directory : (l : Layers) (p : Path) (e : Errno) → walk_fault (layers_of l) p ≡ Some e → is_directory (shows 0 (layers_of l) p) ≡ false
fault-no-directory l p e h = by (is_directory (shows 0 (layers_of l) p)) refl
  where
    by : (b : Bool) → is_directory (shows 0 (layers_of l) p) ≡ b → b ≡ false
    by false is = refl
    by true is = let z : Some e ≡ None = sym h ∙ walk-none l p is in cc

below-root : (p q : Path) (n : Name) → p ≡ n ∷ q → is_root p ≡ false
below-root p q n e = ap is_root e

allowed-chain : (r d : Bool) (w : Option Errno) → or_else (when r errno.EBUSY) (or_else w (when d errno.EISDIR)) ≡ None → (r ≡ false) × (w ≡ None) × (d ≡ false)
allowed-chain r d w h = grind arith

-- an unlink that is not refused is of what is no directory, below directories
pub unlink-allowed : (Ls : List Layer) (p : Path) → unlink_fault Ls p ≡ None → (is_root p ≡ false) × (walk_fault Ls p ≡ None) × (is_directory (shows 0 Ls p) ≡ false)
unlink-allowed Ls p h = allowed-chain (is_root p) (is_directory (shows 0 Ls p)) (walk_fault Ls p) h

-- below the root an unlink is refused as the walk is, and then what is a directory
unlink-below : (Ls : List Layer) (p q : Path) (n : Name) → p ≡ n ∷ q → unlink_fault Ls p ≡ or_else (walk_fault Ls p) (when (is_directory (shows 0 Ls p)) errno.EISDIR)
unlink-below Ls p q n e = ap (λ r. or_else (when r errno.EBUSY) (or_else (walk_fault Ls p) (when (is_directory (shows 0 Ls p)) errno.EISDIR))) (below-root p q n e)

pub unlink-walk : (Ls : List Layer) (p q : Path) (n : Name) (e : Errno) → p ≡ n ∷ q → walk_fault Ls p ≡ Some e → unlink_fault Ls p ≡ Some e
unlink-walk Ls p q n e is walk = unlink-below Ls p q n is ∙ ap (λ w. or_else w (when (is_directory (shows 0 Ls p)) errno.EISDIR)) walk

pub unlink-found : (Ls : List Layer) (p q : Path) (n : Name) (d : Bool) → p ≡ n ∷ q → walk_fault Ls p ≡ None → is_directory (shows 0 Ls p) ≡ d → unlink_fault Ls p ≡ when d errno.EISDIR
unlink-found Ls p q n d is walk dir = unlink-below Ls p q n is ∙ ap₂ (λ w d. or_else w (when d errno.EISDIR)) walk dir

-- an unlink that takes the name away is the machine's step
pub unlink-step : (old new : Layers) (p q : Path) (n : Name) → p ≡ n ∷ q → unlink_fault (layers_of old) p ≡ None → TakesName old new (n ∷ q) → (s : State) → IsMountOf (upper_of old) (lowers_of old) s → (c : ℕ) → Removes (upper_of new) (lowers_of new) s c p (call.Unlink p)
unlink-step old new p q n e fine t s m c =
    let U : Layer = upper_of old in
    let V : Layer = upper_of new in
    let lost : Loses U V (lowers_of old) p = subst (λ (x : Path). Loses U V (lowers_of old) x) (sym e) (t.loses m.layers) in
    subst (λ (Ls : List Layer). Removes V Ls s c p (call.Unlink p)) (sym (lowers-same old new t.lowers)) (law_of_unlinked U V (lowers_of old) s m c p fine lost)

rmdir-chain : (r d b : Bool) (w : Option Errno) → r ≡ false → or_else (when r errno.EBUSY) (or_else w (or_else (when (not d) errno.ENOTDIR) (when b errno.ENOTEMPTY))) ≡ or_else w (or_else (when (not d) errno.ENOTDIR) (when b errno.ENOTEMPTY))
rmdir-chain r d b w root = ap (λ r. or_else (when r errno.EBUSY) (or_else w (or_else (when (not d) errno.ENOTDIR) (when b errno.ENOTEMPTY)))) root

-- why rmdir of a path below the root is refused
rmdir-below : (Ls : List Layer) (p q : Path) (n : Name) (b : Bool) → p ≡ n ∷ q → rmdir_fault Ls p b ≡ or_else (walk_fault Ls p) (or_else (when (not (is_directory (shows 0 Ls p))) errno.ENOTDIR) (when b errno.ENOTEMPTY))
rmdir-below Ls p q n b e = rmdir-chain (is_root p) (is_directory (shows 0 Ls p)) b (walk_fault Ls p) (below-root p q n e)

-- an rmdir that takes the name away is the machine's step
pub rmdir-step : (old new : Layers) (p q : Path) (n : Name) → p ≡ n ∷ q → is_directory (shows 0 (layers_of old) p) ≡ true → ShowsNoName (layers_of old) p → TakesName old new (n ∷ q) → (s : State) → IsMountOf (upper_of old) (lowers_of old) s → (c : ℕ) → Removes (upper_of new) (lowers_of new) s c p (call.Rmdir p)
rmdir-step old new p q n e dir unshown t s m c =
    let U : Layer = upper_of old in
    let V : Layer = upper_of new in
    let fine : rmdir_fault (layers_of old) p false ≡ None = rmdir-below (layers_of old) p q n false e ∙ ap₂ (λ w d. or_else w (or_else (when (not d) errno.ENOTDIR) None)) (walk-none old p dir) dir in
    let lost : Loses U V (lowers_of old) p = subst (λ (x : Path). Loses U V (lowers_of old) x) (sym e) (t.loses m.layers) in
    subst (λ (Ls : List Layer). Removes V Ls s c p (call.Rmdir p)) (sym (lowers-same old new t.lowers)) (law_of_removed_directory U V (lowers_of old) s m c p fine unshown lost)

-- rmdir is refused as the walk is, whatever names are told
pub rmdir-walked : (Ls : List Layer) (p q : Path) (n : Name) (e : Errno) (full : Bool) → p ≡ n ∷ q → walk_fault Ls p ≡ Some e → rmdir_fault Ls p full ≡ Some e
rmdir-walked Ls p q n e full is walk =
    rmdir-below Ls p q n full is
    ∙ ap (λ w. or_else w (or_else (when (not (is_directory (shows 0 Ls p))) errno.ENOTDIR) (when full errno.ENOTEMPTY))) walk

-- and as what it finds: what is no directory is refused, and a directory isn't where none of its names is told
pub rmdir-unfit : (Ls : List Layer) (p q : Path) (n : Name) (full : Bool) → p ≡ n ∷ q → walk_fault Ls p ≡ None → is_directory (shows 0 Ls p) ≡ false → rmdir_fault Ls p full ≡ Some errno.ENOTDIR
rmdir-unfit Ls p q n full is walk file =
    rmdir-below Ls p q n full is
    ∙ ap₂ (λ w d. or_else w (or_else (when (not d) errno.ENOTDIR) (when full errno.ENOTEMPTY))) walk file

pub rmdir-fine : (Ls : List Layer) (p q : Path) (n : Name) → p ≡ n ∷ q → walk_fault Ls p ≡ None → is_directory (shows 0 Ls p) ≡ true → rmdir_fault Ls p false ≡ None
rmdir-fine Ls p q n is walk dir =
    rmdir-below Ls p q n false is
    ∙ ap₂ (λ w d. or_else w (or_else (when (not d) errno.ENOTDIR) None)) walk dir

-- rmdir's refusals are the machine's: on the way, of what is no directory, and of a directory that shows a name
pub rmdir-walk : (l : Layers) (p q : Path) (n : Name) (e : Errno) → p ≡ n ∷ q → walk_fault (layers_of l) p ≡ Some e → (s : State) → IsMountOf (upper_of l) (lowers_of l) s → (c : ℕ) → refusal s c (call.Rmdir p) ≡ Some e
rmdir-walk l p q n e is walk s m c =
    (law_of_rmdir (upper_of l) (lowers_of l) s m c p).empty (unshown-in l p (fault-no-directory l p e walk))
    ∙ rmdir-below (layers_of l) p q n false is
    ∙ ap (λ w. or_else w (or_else (when (not (is_directory (shows 0 (layers_of l) p))) errno.ENOTDIR) None)) walk

pub rmdir-file : (l : Layers) (p q : Path) (n : Name) → p ≡ n ∷ q → walk_fault (layers_of l) p ≡ None → is_directory (shows 0 (layers_of l) p) ≡ false → (s : State) → IsMountOf (upper_of l) (lowers_of l) s → (c : ℕ) → refusal s c (call.Rmdir p) ≡ Some errno.ENOTDIR
rmdir-file l p q n is walk file s m c =
    (law_of_rmdir (upper_of l) (lowers_of l) s m c p).empty (unshown-in l p file)
    ∙ rmdir-below (layers_of l) p q n false is
    ∙ ap₂ (λ w d. or_else w (or_else (when (not d) errno.ENOTDIR) None)) walk file

pub rmdir-full : (l : Layers) (p q : Path) (n m : Name) → p ≡ n ∷ q → is_directory (shows 0 (layers_of l) p) ≡ true → is_some (shows 0 (layers_of l) (m ∷ p)) ≡ true → (s : State) → IsMountOf (upper_of l) (lowers_of l) s → (c : ℕ) → refusal s c (call.Rmdir p) ≡ Some errno.ENOTEMPTY
rmdir-full l p q n m is dir some s mount c =
    (law_of_rmdir (upper_of l) (lowers_of l) s mount c p).full m some
    ∙ rmdir-below (layers_of l) p q n true is
    ∙ ap₂ (λ w d. or_else w (or_else (when (not d) errno.ENOTDIR) (Some errno.ENOTEMPTY))) (walk-none l p dir) dir

-- what a walk finds, by its kind
pub found-inode : (l : Layers) (p : Path) (f : Found) (d : Place) → f ≡ found.Inode d → IsFound l p f → is_directory (shows 0 (layers_of l) p) ≡ false
found-inode l p f d e h =
    let P : Found → Type 0 = λ f. IsFound l p f in
    let shown : ShowsInode l p d = subst P e h in
    ap is_directory shown.shown

pub found-directory : (l : Layers) (p : Path) (f : Found) (s : Stack) → f ≡ found.Directory s → IsFound l p f → ShowsDirectory l p s.places.items
found-directory l p f s e h = let P : Found → Type 0 = λ f. IsFound l p f in subst P e h

pub found-stack : (l : Layers) (p : Path) (f : Found) (s : Stack) → f ≡ found.Directory s → IsFound l p f → IsStackOf l p s
found-stack l p f s e h = record { places = (found-directory l p f s e h).places }

pub found-folder : (l : Layers) (p : Path) (f : Found) (s : Stack) → f ≡ found.Directory s → IsFound l p f → is_directory (shows 0 (layers_of l) p) ≡ true
found-folder l p f s e h = ap is_directory (found-directory l p f s e h).shown

rmdir-chain-allowed : (r d : Bool) (w : Option Errno) → or_else (when r errno.EBUSY) (or_else w (or_else (when (not d) errno.ENOTDIR) None)) ≡ None → d ≡ true
rmdir-chain-allowed r d w h = grind arith

-- an rmdir that is not refused is of a directory
pub rmdir-allowed : (Ls : List Layer) (p : Path) → rmdir_fault Ls p false ≡ None → is_directory (shows 0 Ls p) ≡ true
rmdir-allowed Ls p h = rmdir-chain-allowed (is_root p) (is_directory (shows 0 Ls p)) (walk_fault Ls p) h
