-- Uppers that show other attributes: one to which a file or link is copied up, and one in which an inode's or a directory's change.
use Rattle.std.proofs.Common.{◌≡◌, ◌≢◌, ℕ, suc, Bool, ◌&&◌, cond, List, [], ◌∷◌, Option, None, Some, option_map, refl, sym, ap, ap₂, ◌∙◌, inl, inr, is_some}
use Rattle.std.proofs.lemmas.Bool.{cases_Bool, both_ways}
use Rattle.ov_base.specs.declared.attributes.Attributes.{Attributes}
use Rattle.ov_base.specs.declared.redirect.Redirect.{Redirect}
use Rattle.ov_base.specs.declared.redirect.Redirect.TheVariants.{Absolute, Single}
use Rattle.plain_model.specs.Layers.{Name, Path, Directory, Named, Inode, Layer, held, is_file, spell, below, cut, cuts, Contents, over, shows, through, is_directory, base, same_path, AreLayers}
use Rattle.plain_model.specs.Tree.{Own, Sight, SeenLeaf, see, see_inode, merged, AreLinked}
use Rattle.plain_model.proofs.Merged.{named-seen}
use Rattle.plain_model.proofs.Paths.{paths_tell}
use Rattle.plain_model.proofs.Uppers.{meld, merged-meld, AgreeTo, agree-step, agree-where, through-agree}
use Rattle.mount_laws.specs.Leaves.{PlacesLeaf, GainsLeafAs}
use Rattle.mount_laws.specs.Altered.{altered, LawOfCopiedLeaf, AltersInode, LawOfAlteredInode, AltersDirectory, LawOfAlteredDirectory}
use Rattle.mount_laws.proofs.Alters.{meld-alike, gains-leaf}
use Rattle.mount_laws.proofs.Links.{before, later}
use Rattle.mount_laws.proofs.Places.{other-path}

-- a file or link of a lower layer that is copied up
module _ (U V : Layer) (lowers : List Layer) (a : AreLayers (U ∷ lowers)) (b : AreLayers (V ∷ lowers)) (n : Name) (p : Path) (j l k : ℕ) (i : Inode) (x : Attributes) (lower : shows 0 (U ∷ lowers) (n ∷ p) ≡ Some (Contents (suc j) l (Some i))) (low : Bool) (mark : Option Path) (marks : is_some mark ≡ (low && is_file i.content)) (m : PlacesLeaf U V (n ∷ p) k (record { content = i.content; attributes = x; links = 1; mark = mark })) where
  gains : GainsLeafAs U V lowers (is_some mark) (n ∷ p) i.content x
  gains = gains-leaf U V lowers a b n p k (record { content = i.content; attributes = x; links = 1; mark = mark }) (ap is_directory lower) m

  -- the upper named no inode there
  unnamed : (q : ℕ) → held U (n ∷ p) ≡ Some (Named q) → ⊥
  unnamed q h = let z : Some (Contents 0 q (U.inodes q)) ≡ Some (Contents (suc j) l (Some i)) = sym (ap (λ o. over 0 U.inodes o (through U lowers (n ∷ p))) h) ∙ lower in cc

  abbrev sight : Option Sight
  sight = Some (SeenLeaf i.content x (Own (is_some mark)) 1)

  copied-here : merged V lowers (n ∷ p) ≡ option_map (altered low x) (merged U lowers (n ∷ p))
  copied-here = gains.sights (n ∷ p) ∙ ap (λ c. cond c sight (merged U lowers (n ∷ p))) ((paths_tell (n ∷ p) (n ∷ p)).1 refl) ∙ ap (λ z. Some (SeenLeaf i.content x (Own z) 1)) marks ∙ sym (ap (λ s. option_map (altered low x) (see (base U lowers (n ∷ p)) s)) lower)

  copied-others : (q : Path) → q ≢ n ∷ p → merged V lowers q ≡ merged U lowers q
  copied-others q apart = gains.sights q ∙ ap (λ c. cond c sight (merged U lowers q)) (other-path (n ∷ p) q (λ e. apart (sym e)))

-- a file or link that is copied up is altered and no more
pub law_of_copied_leaf : LawOfCopiedLeaf
law_of_copied_leaf U V lowers a b n p j l k i x lower low mark marks m =
    let g = gains U V lowers a b n p j l k i x lower low mark marks m in
    let new = unnamed U V lowers a b n p j l k i x lower low mark marks m in
    record {
      layers = b;
      here = copied-here U V lowers a b n p j l k i x lower low mark marks m;
      linked = λ q apart w. absurd (new w.number w.first);
      others = λ q apart w. copied-others U V lowers a b n p j l k i x lower low mark marks m q apart;
      earlier = before U V lowers (is_some mark) (n ∷ p) i.content x new g;
      later = later U V lowers (is_some mark) (n ∷ p) i.content x new g;
    }

-- an inode of the upper
module _ (U V : Layer) (lowers : List Layer) (low : Bool) (p : Path) (a : Attributes) (c : AltersInode U V p a) where
  agree : (q : Path) → AgreeTo U V q
  agree q = agree-where U V (λ x. Unit {0}) (λ k x h. h) (λ x h. c.objects x) q tt

  -- each of its names shows the attributes
  name-altered : (q : Path) → held U q ≡ Some (Named c.number) → merged V lowers q ≡ option_map (altered low a) (merged U lowers q)
  name-altered q h =
      named-seen V lowers q c.number (c.objects q ∙ h) ∙ ap (see_inode 0) c.now
      ∙ sym (ap (option_map (altered low a)) (named-seen U lowers q c.number h ∙ ap (see_inode 0) c.before))

  inode-linked : (q : Path) → AreLinked U p q → merged V lowers q ≡ option_map (altered low a) (merged U lowers q)
  inode-linked q l =
      let number : l.number ≡ c.number = (let w : Some (Named l.number) ≡ Some (Named c.number) = sym l.first ∙ c.named in cc) in
      name-altered q (l.second ∙ ap (λ k. Some (Named k)) number)

  inode-others : (q : Path) → (AreLinked U p q → ⊥) → merged V lowers q ≡ merged U lowers q
  inode-others q unlinked =
      merged-meld V lowers q
      ∙ ap₂ (meld V.inodes) (c.objects q) (through-agree U V lowers q (agree q))
      ∙ meld-alike V.inodes U.inodes (held U q) (through U lowers q) (λ k h. c.inodes k (λ e. unlinked (record { number = c.number; first = c.named; second = h ∙ ap (λ k. Some (Named k)) e })))
      ∙ sym (merged-meld U lowers q)

-- an upper whose inode has other attributes shows them
pub law_of_altered_inode : LawOfAlteredInode
law_of_altered_inode U V lowers b low p a c = record {
  layers = b;
  here = name-altered U V lowers low p a c p c.named;
  linked = λ q apart l. inode-linked U V lowers low p a c q l;
  others = λ q apart unlinked. inode-others U V lowers low p a c q unlinked;
  earlier = λ q z l. inr (record { number = l.number; first = sym (c.objects q) ∙ l.first; second = sym (c.objects z) ∙ l.second });
  later = λ q z l. record { number = l.number; first = c.objects q ∙ l.first; second = c.objects z ∙ l.second };
}

-- what a directory cuts and spells is told by its marks
cut-marks : (k : ℕ) (x y : Attributes) (o : Bool) (r : Option Redirect) (c : Bool) → cut (Some (Directory k x o r)) c ≡ cut (Some (Directory k y o r)) c
cut-marks k x y o None c = refl
cut-marks k x y o (Some (Absolute q)) c = refl
cut-marks k x y o (Some (Single n)) c = refl

spell-marks : (k : ℕ) (x y : Attributes) (o : Bool) (r : Option Redirect) (n : Name) (s : Path) → spell (Some (Directory k x o r)) n s ≡ spell (Some (Directory k y o r)) n s
spell-marks k x y o None n s = refl
spell-marks k x y o (Some (Absolute q)) n s = refl
spell-marks k x y o (Some (Single m)) n s = refl

-- a directory of the upper
module _ (U V : Layer) (lowers : List Layer) (low : Bool) (p : Path) (a : Attributes) (c : AltersDirectory U V p a) where
  agree-all : (q : Path) → AgreeTo U V q
  agree-all [] = record { cut_alike = refl; spelled = refl }
  agree-all (n ∷ x) = by (agree-all x)
    where
      by : AgreeTo U V x → AgreeTo U V (n ∷ x)
      by e = elim (cases_Bool (same_path p (n ∷ x))) [
        | inl h ↦
            let is : n ∷ x ≡ p = sym ((paths_tell p (n ∷ x)).0 h) in
            let was = ap (held U) is ∙ c.before in
            let now = ap (held V) is ∙ c.now in
            record {
              cut_alike = ap₂ cut now e.cut_alike ∙ cut-marks c.number a c.old c.opaque c.redirect (cuts U x) ∙ sym (ap (λ o. cut o (cuts U x)) was);
              spelled = ap₂ (λ o s. spell o n s) now e.spelled ∙ spell-marks c.number a c.old c.opaque c.redirect n (below U x) ∙ sym (ap (λ o. spell o n (below U x)) was);
            }
        | inr f ↦ agree-step U V n x (c.elsewhere (n ∷ x) (λ s. both_ways (same_path p (n ∷ x)) f ((paths_tell p (n ∷ x)).1 (sym s)))) e
      ]

  directory-here : merged V lowers p ≡ option_map (altered low a) (merged U lowers p)
  directory-here =
      merged-meld V lowers p
      ∙ ap₂ (meld V.inodes) c.now (through-agree U V lowers p (agree-all p))
      ∙ sym (ap (option_map (altered low a)) (merged-meld U lowers p ∙ ap (λ o. meld U.inodes o (through U lowers p)) c.before))

  directory-others : (q : Path) → q ≢ p → merged V lowers q ≡ merged U lowers q
  directory-others q apart =
      merged-meld V lowers q
      ∙ ap₂ (meld V.inodes) (c.elsewhere q apart) (through-agree U V lowers q (agree-all q))
      ∙ meld-alike V.inodes U.inodes (held U q) (through U lowers q) (λ k h. c.inodes k)
      ∙ sym (merged-meld U lowers q)

  -- the directory is no name of an inode, before and after
  not-named : (k : ℕ) → held U p ≡ Some (Named k) → ⊥
  not-named k h = let z : Some (Directory c.number c.old c.opaque c.redirect) ≡ Some (Named k) = sym c.before ∙ h in cc

  not-named-now : (k : ℕ) → held V p ≡ Some (Named k) → ⊥
  not-named-now k h = let z : Some (Directory c.number a c.opaque c.redirect) ≡ Some (Named k) = sym c.now ∙ h in cc

  named-before : (q : Path) (k : ℕ) → held V q ≡ Some (Named k) → held U q ≡ Some (Named k)
  named-before q k h = sym (c.elsewhere q (λ e. not-named-now k (sym (ap (held V) e) ∙ h))) ∙ h

  named-now : (q : Path) (k : ℕ) → held U q ≡ Some (Named k) → held V q ≡ Some (Named k)
  named-now q k h = c.elsewhere q (λ e. not-named k (sym (ap (held U) e) ∙ h)) ∙ h

-- an upper whose directory has other attributes shows them
pub law_of_altered_directory : LawOfAlteredDirectory
law_of_altered_directory U V lowers b low p a c = record {
  layers = b;
  here = directory-here U V lowers low p a c;
  linked = λ q apart l. absurd (not-named U V lowers low p a c l.number l.first);
  others = λ q apart unlinked. directory-others U V lowers low p a c q apart;
  earlier = λ q z l. inr (record { number = l.number; first = named-before U V lowers low p a c q l.number l.first; second = named-before U V lowers low p a c z l.number l.second });
  later = λ q z l. record { number = l.number; first = named-now U V lowers low p a c q l.number l.first; second = named-now U V lowers low p a c z l.number l.second };
}
