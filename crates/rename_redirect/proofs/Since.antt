-- What moved in an upper whose missing parents were placed moved in the upper before that.
use Rattle.std.proofs.Common.{◌≡◌, ◌↔◌, ℕ, Bool, true, false, not, ◌&&◌, ◌||◌, [], ◌∷◌, ◌++◌, ◌⊎◌, length, length-append, append_assoc, arith, Option, None, Some, is_some, refl, sym, ap, ap₂, ◌∙◌, subst, inl, inr, cond}
use Rattle.ov_base.specs.declared.redirect.Redirect.TheVariants.{Absolute}
use Rattle.plain_model.specs.Layers.{Path, Object, Directory, Named, Whiteout, Inode, Layer, held, Shown, Contents, over, shows, through, base, reaches_directory, is_directory, same_path}
use Rattle.plain_model.specs.Laws.{IsOutside, left_at}
use Rattle.plain_model.specs.Tree.{merged, AreLinked}
use Rattle.mount_laws.specs.Moving.{Follows, Goes, Stays as StaysPut, MovesTo, NamesNoInode}
use Rattle.mount_laws.specs.Renaming.{is_one, same_inode}
use Rattle.mount_laws.proofs.CopiedMoves.{law_of_same_move}
use Rattle.mount_laws.proofs.RenamedOpen.{law_of_kept_move_link}
use Rattle.layer_tree.specs.Tree.{layer_of, directory_number}
use Rattle.layer_tree.specs.Nameless.{KeepsObjects}
use Rattle.layer_tree.proofs.Changing.{same_presence}
use Rattle.layer_tree.proofs.Nameless.{keeps_then}
use Rattle.merged_lookup.specs.declared.layers.Layers.{Layers}
use Rattle.merged_lookup.specs.declared.found.Topmost.{Topmost}
use Rattle.merged_lookup.specs.declared.found.Topmost.TheVariants as topmost
use Rattle.merged_lookup.specs.Merged.{upper_of, layers_of, lowers_of, IsTopmost}
use Rattle.copy_up.specs.Showing.{ShowsSame, Stays, GainsParents, KeepsPath, IsParent}
use Rattle.copy_up.proofs.Frames.{through-same, parent-since, parent-then}
use Rattle.copy_up.proofs.Keeping.{lowers-same, linked-by}
use Rattle.copy_up.proofs.Raising.{inode-raised}
use Rattle.make_remove.specs.Making.{shown_under}
use Rattle.make_remove.specs.Removing.{last_named}
use Rattle.make_remove.proofs.Making.{under-same}
use Rattle.make_remove.proofs.Unnaming.{own-parent}
use Rattle.rename_redirect.specs.declared.renames.Renamed.{Renamed}
use Rattle.rename_redirect.specs.declared.renames.Renamed.TheVariants as renamed
use Rattle.rename_redirect.specs.Linking.{GainsBoth}
use Rattle.rename_redirect.specs.Renaming.{HasMarks, KeepsMoved, MovesMarks, MovesOver, Replaces, Moves, DoesRename}
use Rattle.rename_redirect.proofs.Overs.{last-alike}

-- a path that is no parent of the other holds what it held
keeps-apart : (a b : Layers) (t x : Path) → (IsParent x t → ⊥) → GainsParents a b t → held (layer_of b.upper) x ≡ held (layer_of a.upper) x
keeps-apart a b t x off g = by (g.paths x)
  where
    by : KeepsPath a b t x → held (layer_of b.upper) x ≡ held (layer_of a.upper) x
    by (inl e) = e
    by (inr p) = absurd (off p.parent)

-- a parent of either path stays where it is
follows-parent : (p q x y : Path) → IsOutside p q → Follows p q x y → IsParent x p ⊎ IsParent x q → y ≡ x
follows-parent p q x y out (StaysPut a b e) i = e
follows-parent p q x y out (Goes r e f) (inl (n, s, i)) =
    let a = ap length i in
    let b = length-append s x in
    let c = ap length e in
    let d = length-append r p in
    absurd (omega (arith, a, b, c, d))
follows-parent p q x y out (Goes r e f) (inr (n, s, i)) = absurd (out (n ∷ (s ++ r)) (i ∙ ap (λ z. n ∷ z) (ap (λ z. s ++ z) e ∙ sym (append_assoc s r p))))

-- what was held stays, so what is lacked after was lacked before
lacked-before : (x : Option Object) (y : Option Object) → ((o : Object) → x ≡ Some o → y ≡ Some o) → y ≡ None → x ≡ None
lacked-before None y keep none = refl
lacked-before (Some o) y keep none = let z : Some o ≡ None = sym (keep o refl) ∙ none in absurd (cc)

-- the same inodes show the same
over-alike : (f g : ℕ → Option Inode) → ((k : ℕ) → f k ≡ g k) → (o : Option Object) (s : Option Shown) → over 0 f o s ≡ over 0 g o s
over-alike f g e None s = refl
over-alike f g e (Some Whiteout) s = refl
over-alike f g e (Some (Directory k a o r)) s = refl
over-alike f g e (Some (Named k)) s = ap (λ x. Some (Contents 0 k x)) (e k)

-- whether a directory is shown is told without the inodes
folder-over : (f g : ℕ → Option Inode) (o : Option Object) (s : Option Shown) → is_directory (over 0 f o s) ≡ is_directory (over 0 g o s)
folder-over f g None s = refl
folder-over f g (Some Whiteout) s = refl
folder-over f g (Some (Directory k a o r)) s = refl
folder-over f g (Some (Named k)) s = refl

module _ (a b : Layers) (p q : Path) (same : ShowsSame a b) (stays : Stays a b) (gains : GainsBoth a b p q) (out : IsOutside p q) (within : IsOutside q p) where
  abbrev A : Layer
  A = upper_of a

  abbrev B : Layer
  B = upper_of b

  low : lowers_of b ≡ lowers_of a
  low = lowers-same a b same.lowers

  -- an inode shows what it showed
  inodes : (k : ℕ) → B.inodes k ≡ A.inodes k
  inodes k = inode-raised a b same.lowers k (stays.inodes k)

  -- both paths hold what they held
  pub old-held : held B p ≡ held A p
  old-held = keeps-apart gains.mid b q p (λ i. out (i.0 ∷ i.1) i.2) gains.second ∙ keeps-apart a gains.mid p p (own-parent p) gains.first

  pub new-held : held B q ≡ held A q
  new-held = keeps-apart gains.mid b q q (own-parent q) gains.second ∙ keeps-apart a gains.mid p q (λ i. within (i.0 ∷ i.1) i.2) gains.first

  objects : KeepsObjects a.upper b.upper None
  objects = keeps_then a.upper gains.mid.upper b.upper None gains.first.objects gains.second.objects

  shown-over : shows 0 (layers_of b) p ≡ over 0 B.inodes (held A p) (through A (lowers_of a) p)
  shown-over = ap₂ (λ o s. over 0 B.inodes o s) old-held (through-same a b p same)

  -- what the first path shows stays
  still-shows : shows 0 (layers_of b) p ≡ shows 0 (layers_of a) p
  still-shows = shown-over ∙ over-alike B.inodes A.inodes inodes (held A p) (through A (lowers_of a) p)

  -- with the same object at its top
  pub still-topmost : (t : Topmost) → IsTopmost a p (Some t) → IsTopmost b p (Some t)
  still-topmost (topmost.Directory d) h = (h.0, still-shows ∙ h.1)
  still-topmost (topmost.Inode d) h = record { inode = h.inode; shown = still-shows ∙ h.shown }

  pub still-folder : is_directory (shows 0 (layers_of b) p) ≡ is_directory (shows 0 (layers_of a) p)
  still-folder = ap is_directory shown-over ∙ folder-over B.inodes A.inodes (held A p) (through A (lowers_of a) p)

  pub still-one : is_one B p q ≡ is_one A p q
  still-one = ap₂ (λ x y. same_path p q || same_inode x y) old-held new-held

  pub still-unnamed : NamesNoInode A q → NamesNoInode B q
  still-unnamed h k e = h k (sym new-held ∙ e)

  linked : (x y : Path) → AreLinked B x y ↔ AreLinked A x y
  linked x y = (linked-by B A (λ z k. (stays.names z k).0) x y, linked-by A B (λ z k. (stays.names z k).1) x y)

  moves-since : (marked : Bool) (V : Layer) → MovesTo B V (lowers_of b) marked p q → MovesTo A V (lowers_of a) marked p q
  moves-since marked V m =
      law_of_same_move A B V (lowers_of a) (λ x. sym (ap (λ Ls. merged B Ls x) low) ∙ same.sights x) linked marked p q (subst (λ Ls. MovesTo B V Ls marked p q) low m)

  left-since : (t : Path) → left_at B (lowers_of b) t ≡ left_at A (lowers_of a) t
  left-since [] = refl
  left-since (n ∷ t) = ap (λ s. cond (is_some s) (Some Whiteout) None) (under-same a b n t same)

  under-since : (t : Path) → shown_under b t ≡ shown_under a t
  under-since [] = refl
  under-since (n ∷ t) = ap is_directory (under-same a b n t same)

  base-since : base B (lowers_of b) p ≡ base A (lowers_of a) p
  base-since = ap (λ Ls. base B Ls p) low ∙ ap₂ (λ c s. not c && reaches_directory (lowers_of a) s) (same.passes.cuts p) (same.passes.spelling p)

  module _ (c : Layers) where
    marks-since : MovesMarks b c p q → MovesMarks a c p q
    marks-since m = record {
      when_base = λ h. subst (λ x. HasMarks (layer_of c.upper) q false (Some (Absolute x))) (same.passes.spelling p) (m.when_base (base-since ∙ h));
      when_not = λ h. subst (λ x. HasMarks (layer_of c.upper) q x None) (under-since q) (m.when_not (base-since ∙ h));
    }

    held-before : (x : Path) → held B x ≡ None → held A x ≡ None
    held-before x = lacked-before (held A x) (held B x) (stays.holds x)

    paths-since : (x y : Path) → Follows p q x y → KeepsMoved b c p q x y → KeepsMoved a c p q x y
    paths-since x y f (inr (inl g)) = inr (inl (parent-since a b c p x same objects (held-before x g.lacked) g))
    paths-since x y f (inr (inr g)) = inr (inr (parent-since a b c q x same objects (held-before x g.lacked) g))
    paths-since x y f (inl e) = by (gains.first.paths x) (gains.second.paths x)
      where
        by : KeepsPath a gains.mid p x → KeepsPath gains.mid b q x → KeepsMoved a c p q x y
        by (inl h) (inl i) = inl (e ∙ i ∙ h)
        by (inr g) (inl i) = inr (inl (parent-then a gains.mid c p x y (follows-parent p q x y out f (inl g.parent)) (e ∙ i) g))
        by (inl h) (inr g) = inr (inr (parent-then a b c q x y (follows-parent p q x y out f (inr g.parent)) e (parent-since a gains.mid b q x gains.same_first gains.first.objects (sym h ∙ g.lacked) g)))
        by (inr g) (inr h) = let z : Some (Directory g.number g.attributes false None) ≡ None = sym g.gained ∙ h.lacked in absurd (cc)

    over-since : (marked : Bool) → MovesOver b c marked p q → MovesOver a c marked p q
    over-since marked o = record {
      lowers = o.lowers ∙ same.lowers;
      moves = λ h. moves-since marked (upper_of c) (o.moves (stays.sound.layers h));
      left = o.left ∙ left-since p;
      marks = λ h. marks-since (o.marks (still-folder ∙ h));
      paths = λ x y f off. paths-since x y f (o.paths x y f off);
      directories = λ x y f k i h. o.directories x y f k i (h.0, h.1, stays.holds x (Directory k i h.0 h.1) h.2);
      links = λ h j is. law_of_kept_move_link A B (upper_of c) p q j (λ x. stays.names x j) (inodes j) (o.links (stays.sound.layers h) j (ap is_some (inodes j) ∙ is));
      seen = λ k is off. o.seen k (same_presence a.upper b.upper k (objects.seen k is) ∙ is) (λ h. off (sym (ap directory_number old-held) ∙ h)) ∙ objects.seen k is;
      nameless = λ k h. o.nameless k (objects.nameless k h);
    }

    replaces-since : (released : Option ℕ) → Replaces b c q released → Replaces a c q released
    replaces-since released r = record {
      handed_back = r.handed_back ∙ ap (last_named b.upper) new-held ∙ last-alike a.upper b.upper (held A q) (λ k h. stays.inodes k);
      nameless = r.nameless;
    }

    kept-since : (marked directory : Bool) (released : Option ℕ) → Moves b c marked p q directory released → Moves a c marked p q directory released
    kept-since marked directory released m = record {
      apart = sym still-one ∙ m.apart;
      kind = sym still-folder ∙ m.kind;
      over = over-since marked m.over;
      replaces = replaces-since released m.replaces;
    }

    -- what rename did after the parents were placed
    pub does-since : (marked : Bool) (r : Renamed) → DoesRename b c marked p q r → DoesRename a c marked p q r
    does-since marked (renamed.Directory released) d = kept-since marked true released d
    does-since marked (renamed.Inode key released) d = (kept-since marked false released d.0, d.1)
