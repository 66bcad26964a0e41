-- A further name in an upper whose missing parents were placed.
use Rattle.std.proofs.Common.{◌≡◌, ◌≢◌, ◌<◌, inl, inr, ℕ, zero, suc, Bool, true, false, ◌&&◌, List, ◌∷◌, None, Some, is_some, option_map, refl, sym, ap, ◌∙◌, subst, arith}
use Rattle.ov_base.specs.declared.errno.Errno.TheVariants as errno
use Rattle.plain_model.specs.Layers.{Name, Path, Directory, Named, Inode, Layer, held, Contents, shows, is_directory, is_file, fill, filled, IsLayer, AreLayers}
use Rattle.plain_model.specs.Laws.{IsOutside}
use Rattle.plain_model.specs.Tree.{IsThin, merged}
use Rattle.plain_model.specs.Refusals.{when}
use Rattle.mount_laws.specs.Leaves.{PlacesLeaf}
use Rattle.mount_laws.specs.Looks.{or_else, parents_fault, walk_fault}
use Rattle.mount_laws.specs.Linking.{AddsName, GainsName, MakesName, linked_sight, link_fault}
use Rattle.mount_laws.specs.StayOpen.{GainsLink}
use Rattle.mount_laws.proofs.Alters.{law_of_thin}
use Rattle.mount_laws.proofs.Changed.{law_of_copied_leaf}
use Rattle.mount_laws.proofs.Linked.{law_of_name_made}
use Rattle.mount_laws.proofs.LinkedOpen.{law_of_added_link, law_of_copied_link}
use Rattle.mount_laws.proofs.Naming.{law_of_added_name, law_of_copied_name}
use Rattle.mount_laws.proofs.Raised.{raised-name}
use Rattle.layer_tree.specs.Tree.{layer_of, SameObjects}
use Rattle.layer_tree.specs.Nameless.{KeepsObjects}
use Rattle.layer_tree.proofs.Nameless.{keeps_then}
use Rattle.merged_lookup.specs.declared.layers.Layers.{Layers}
use Rattle.merged_lookup.specs.Merged.{upper_of, layers_of, lowers_of}
use Rattle.copy_up.specs.Showing.{ShowsSame, ChangesNoSight, Stays, StaysThin, GainsParents}
use Rattle.copy_up.proofs.Copying.{leaf_of}
use Rattle.copy_up.proofs.Raising.{raise, layer-raised, inode-raised}
use Rattle.copy_up.proofs.Frames.{gains-self, gains-then, gains-unchanged, path-then}
use Rattle.copy_up.proofs.Keeping.{lowers-same, linked-by, lift, same-self, same-then, same-unchanged, failed}
use Rattle.rename_redirect.specs.Linking.{GivesName, GainsBoth, CopiesName, KeepsDirectories, LinkSteps}
use Rattle.rename_redirect.proofs.Filling.{filled-stays, leaf-filled, name-raised}
use Rattle.rename_redirect.proofs.Gained.{gains-paths}
use Rattle.rename_redirect.proofs.Shown.{still-absent, thin-linked}

-- parents of the second path alone
pub gains-second : (old new : Layers) (p q : Path) → ShowsSame old new → GainsParents old new q → GainsBoth old new p q
gains-second old new p q same gains = record { mid = old; first = gains-self old p; same_first = same-self old; second = gains; same_second = same }

-- parents of the first path alone
pub gains-first : (old new : Layers) (p q : Path) → ShowsSame old new → GainsParents old new p → GainsBoth old new p q
gains-first old new p q same gains = record { mid = new; first = gains; same_first = same; second = gains-self new q; same_second = same-self new }

-- what is gained by a further name over an upper whose missing parents were placed is gained over the upper before that
module _ (start mid : Layers) (V : Layer) (same : ShowsSame start mid) (stays : Stays start mid) (p q : Path) where
  abbrev A : Layer
  A = upper_of start

  abbrev B : Layer
  B = upper_of mid

  low : lowers_of mid ≡ lowers_of start
  low = lowers-same start mid same.lowers

  up : (x : Path) (k : ℕ) → held A x ≡ Some (Named k) → held B x ≡ Some (Named k)
  up x k = (stays.names x k).1

  down : (x : Path) (k : ℕ) → held B x ≡ Some (Named k) → held A x ≡ Some (Named k)
  down x k = (stays.names x k).0

  -- an inode shows what it showed
  inodes : (j : ℕ) → B.inodes j ≡ A.inodes j
  inodes j = inode-raised start mid same.lowers j (stays.inodes j)

  name-since : (marked : Bool) → GainsName B V (lowers_of mid) marked p q → GainsName A V (lowers_of start) marked p q
  name-since marked g =
      record {
        layers = subst (λ (Ls : List Layer). AreLayers (V ∷ Ls)) low g.layers;
        here = sym (ap (λ Ls. merged V Ls p) low) ∙ g.here ∙ ap (option_map (linked_sight marked)) (same.sights p);
        there = sym (ap (λ Ls. merged V Ls q) low) ∙ g.there ∙ ap (option_map (linked_sight marked)) (same.sights p);
        together = g.together;
        linked = λ x a b l. sym (ap (λ Ls. merged V Ls x) low) ∙ g.linked x a b (linked-by A B up p x l) ∙ ap (option_map (linked_sight marked)) (same.sights x);
        others = λ x a b off. sym (ap (λ Ls. merged V Ls x) low) ∙ g.others x a b (λ l. off (linked-by B A down p x l)) ∙ same.sights x;
        earlier = λ x z a b l. lift (linked-by B A down x z) (g.earlier x z a b l);
        later = λ x z l. g.later x z (linked-by A B up x z l);
        at = λ x a l. lift (linked-by B A down p x) (g.at x a l);
      }

  link-since : (j : ℕ) → GainsLink B V p q j → GainsLink A V p q j
  link-since j g =
      record {
        names = λ x off. (λ h. down x j ((g.names x off).0 h), λ h. (g.names x off).1 (up x j h));
        further = (λ h. down p j (g.further.0 h), λ h. g.further.1 (up p j h));
        more = λ i h is. g.more i (up p j h) (inodes j ∙ is);
        same = λ off. g.same (λ h. off (down p j h)) ∙ inodes j;
      }

-- what p showed is given the further name q
pub gives-name :
    (start mid new : Layers) → ShowsSame start mid → Stays start mid → (p q : Path) (marked : Bool) → GainsBoth start mid p q →
    (AreLayers (layers_of mid) → GainsName (upper_of mid) (upper_of new) (lowers_of mid) marked p q) →
    (AreLayers (layers_of mid) → (j : ℕ) → is_some ((upper_of mid).inodes j) ≡ true →
    GainsLink (upper_of mid) (upper_of new) p q j) →
    ((x : Path) → x ≢ p → x ≢ q → held (layer_of new.upper) x ≡ held (layer_of mid.upper) x) →
    KeepsDirectories (layer_of mid.upper) (layer_of new.upper) →
    (key : ℕ) → KeepsObjects mid.upper new.upper (Some key) → GivesName start new marked p q
gives-name start mid new same stays p q marked gains name links rest directories key kept =
    let placed = keeps_then start.upper gains.mid.upper mid.upper None gains.first.objects gains.second.objects in
    let all = keeps_then start.upper mid.upper new.upper (Some key) placed kept in
    record {
      gains = λ h. name-since start mid (upper_of new) same stays p q marked (name (stays.sound.layers h));
      links = λ h j is. link-since start mid (upper_of new) same stays p q j (links (stays.sound.layers h) j (ap is_some (inode-raised start mid same.lowers j (stays.inodes j)) ∙ is));
      paths = λ x a b. elim (gains-paths start mid p q gains x) [
        | inl k ↦ inl (path-then start mid new p x (rest x a b) k)
        | inr k ↦ inr (path-then start mid new q x (rest x a b) k)
      ];
      directories = λ x k a o r h. directories x k a o r (stays.holds x (Directory k a o r) h);
      seen = all.seen;
      nameless = all.nameless;
    }

-- an allocation failure after parents of two paths were placed
pub fails-both :
    (start mid new : Layers) → ShowsSame start mid → Stays start mid → new.lowers ≡ mid.lowers → SameObjects (layer_of mid.upper) (layer_of new.upper) →
    KeepsObjects mid.upper new.upper None → (IsLayer (layer_of mid.upper) → IsLayer (layer_of new.upper)) →
    (p q : Path) → GainsBoth start mid p q → ChangesNoSight start new (GainsBoth start new p q)
fails-both start mid new same stays low unchanged kept keep p q g =
    failed start mid new same stays low unchanged kept (GainsBoth start new p q) keep
    (record {
      mid = g.mid;
      first = g.first;
      same_first = g.same_first;
      second = gains-then g.mid mid new q g.same_second g.second (gains-unchanged mid new q low unchanged kept);
      same_second = same-then g.mid mid new g.same_second (same-unchanged mid new low unchanged (λ k. kept.inodes k (λ e. cc)));
    })

-- an inode of the upper is given a further name
module _ (mid new : Layers) (low : new.lowers ≡ mid.lowers) (keep : IsLayer (layer_of mid.upper) → IsLayer (layer_of new.upper)) (p : Path) (n : Name) (q : Path) (absent : shows 0 (layers_of mid) (n ∷ q) ≡ None) (adds : AddsName (layer_of mid.upper) (layer_of new.upper) p (n ∷ q)) where
  -- so it is in the upper as it shows
  name : AddsName (upper_of mid) (upper_of new) p (n ∷ q)
  name = name-raised mid new low p (n ∷ q) adds

  pub own-name : (marked : Bool) → AreLayers (layers_of mid) → GainsName (upper_of mid) (upper_of new) (lowers_of mid) marked p (n ∷ q)
  own-name marked h = law_of_added_name (upper_of mid) (upper_of new) (lowers_of mid) h (layer-raised mid new low keep h.0, h.1) marked p n q absent name

  pub own-links : AreLayers (layers_of mid) → (j : ℕ) → is_some ((upper_of mid).inodes j) ≡ true → GainsLink (upper_of mid) (upper_of new) p (n ∷ q) j
  own-links h j is = law_of_added_link (upper_of mid) (upper_of new) (lowers_of mid) h p (n ∷ q) absent name j

  pub own-thin : StaysThin mid new
  own-thin h = subst (λ (Ls : List Layer). IsThin (layer_of new.upper) Ls) (sym (lowers-same mid new low)) (thin-linked (layer_of mid.upper) (layer_of new.upper) (lowers_of mid) p (n ∷ q) adds h)

-- one of a lower layer is copied up and given a further name
module _ (mid new : Layers) (low : new.lowers ≡ mid.lowers) (keep : IsLayer (layer_of mid.upper) → IsLayer (layer_of new.upper)) (n : Name) (p : Path) (m : Name) (q : Path) (l k : ℕ) (i : Inode) (shown : shows 0 (layers_of mid) (n ∷ p) ≡ Some (Contents (suc l) k (Some i))) (absent : shows 0 (layers_of mid) (m ∷ q) ≡ None) (out : IsOutside (n ∷ p) (m ∷ q)) (inode : Inode) (marked : Bool) (marks : is_some inode.mark ≡ (marked && is_file i.content)) (content : (fill (lowers_of mid) inode).content ≡ i.content) (attributes : inode.attributes ≡ i.attributes) (copy : CopiesName (layer_of mid.upper) (layer_of new.upper) (n ∷ p) (m ∷ q) inode) where
  -- the upper with the copy, as it shows
  abbrev C : Layer
  C = filled copy.copied (lowers_of mid)

  -- gets the copy, and then its further name
  leaf : PlacesLeaf (upper_of mid) C (n ∷ p) copy.number (leaf_of i.content inode.mark i.attributes)
  leaf = leaf-filled (layer_of mid.upper) copy.copied (lowers_of mid) (n ∷ p) copy.number inode i content attributes copy.leaf

  further : AddsName C (upper_of new) (n ∷ p) (m ∷ q)
  further = raise mid new low (λ V. AddsName C V (n ∷ p) (m ∷ q)) (raised-name (lowers_of mid) copy.copied (layer_of new.upper) (n ∷ p) (m ∷ q) copy.further)

  copy-absent : shows 0 (C ∷ lowers_of mid) (m ∷ q) ≡ None
  copy-absent = still-absent (upper_of mid) C (lowers_of mid) (n ∷ p) copy.number (leaf_of i.content inode.mark i.attributes) leaf (m ∷ q) out absent

  pub copy-name : AreLayers (layers_of mid) → GainsName (upper_of mid) (upper_of new) (lowers_of mid) marked (n ∷ p) (m ∷ q)
  copy-name h =
      let c : IsLayer C = filled-stays (layer_of mid.upper) copy.copied (lowers_of mid) copy.lawful h.0 in
      law_of_copied_name (upper_of mid) C (upper_of new) (lowers_of mid) marked (n ∷ p) (m ∷ q) l k i shown
      (law_of_copied_leaf (upper_of mid) C (lowers_of mid) h (c, h.1) n p l k copy.number i i.attributes shown marked inode.mark marks leaf)
      (law_of_added_name C (upper_of new) (lowers_of mid) (c, h.1) (layer-raised mid new low keep h.0, h.1) marked (n ∷ p) m q copy-absent further)

  pub copy-links : AreLayers (layers_of mid) → (j : ℕ) → is_some ((upper_of mid).inodes j) ≡ true → GainsLink (upper_of mid) (upper_of new) (n ∷ p) (m ∷ q) j
  copy-links h j is = law_of_copied_link (upper_of mid) C (upper_of new) (lowers_of mid) h (n ∷ p) (m ∷ q) l copy.number k i (leaf_of i.content inode.mark i.attributes) shown leaf absent further j is

  pub copy-thin : StaysThin mid new
  copy-thin h =
      subst (λ (Ls : List Layer). IsThin (layer_of new.upper) Ls) (sym (lowers-same mid new low))
      (thin-linked copy.copied (layer_of new.upper) (lowers_of mid) (n ∷ p) (m ∷ q) copy.further
      ((law_of_thin (layer_of mid.upper) copy.copied (lowers_of mid) h n p).leaf copy.number inode copy.leaf))

-- a number above 0 follows one
pub follows : (j : ℕ) → 0 < j → (l : ℕ) × (j ≡ suc l)
follows zero h = absurd (omega (arith, h))
follows (suc l) h = (l, refl)

-- nothing refuses a link of a file to a path that shows nothing
pub link-fine : (Ls : List Layer) (p q : Path) → walk_fault Ls p ≡ None → parents_fault Ls q ≡ None → shows 0 Ls q ≡ None → is_directory (shows 0 Ls p) ≡ false → link_fault Ls p q ≡ None
link-fine Ls p q walk way none file = λ i. or_else (walk i) (or_else (way i) (or_else (when (is_some (none i)) errno.EEXIST) (when (file i) errno.EPERM)))

-- link is the machine's step where the name is given
pub link-steps : (old new : Layers) (marked : Bool) (p q : Path) → new.lowers ≡ old.lowers → link_fault (layers_of old) p q ≡ None → GivesName old new marked p q → LinkSteps old new marked p q
link-steps old new marked p q low fine given s h off c =
    subst (λ (Ls : List Layer). MakesName (upper_of new) Ls s c p q) (sym (lowers-same old new low))
    (law_of_name_made (upper_of old) (upper_of new) (lowers_of old) s h c p q fine (subst (λ (z : Bool). GainsName (upper_of old) (upper_of new) (lowers_of old) z p q) (sym off) (given.gains h.layers)))
