-- What a filled upper shows is what the raw one shows, its inodes filled.
use Rattle.std.proofs.Common.{◌≡◌, ℕ, zero, suc, Bool, true, false, List, [], ◌∷◌, Option, None, Some, option_map, refl, sym, ap, ◌∙◌}
use Rattle.std.proofs.lemmas.Bool.{false≢true}
use Rattle.plain_model.specs.Layers.{Path, Object, Directory, Named, Whiteout, Inode, Layer, held, below, cuts, Shown, Folder, Contents, unless, over, shows, fill, filled}

-- what is shown, with the upper's inodes filled
abbrev pub fill_shown : List Layer → Option Shown → Option Shown
fill_shown lowers (Some (Contents zero k i)) = Some (Contents zero k (option_map (fill lowers) i))
fill_shown lowers s = s

-- what comes from a lower layer is none of the upper's inodes
abbrev is_upper : Option Shown → Bool
is_upper (Some (Contents zero k i)) = true
is_upper _ = false

lower-step : (i : ℕ) (inodes : ℕ → Option Inode) (o : Option Object) (c : Bool) (s : Option Shown) → is_upper s ≡ false → is_upper (over (suc i) inodes o (unless c s)) ≡ false
lower-step i inodes None true s h = refl
lower-step i inodes None false s h = h
lower-step i inodes (Some Whiteout) c s h = refl
lower-step i inodes (Some (Directory k a o r)) c s h = refl
lower-step i inodes (Some (Named k)) c s h = refl

lower-shows : (i : ℕ) (Ls : List Layer) (p : Path) → is_upper (shows (suc i) Ls p) ≡ false
lower-shows i [] p = refl
lower-shows i (L ∷ Ls) p = lower-step i L.inodes (held L p) (cuts L p) (shows (suc (suc i)) Ls (below L p)) (lower-shows (suc i) Ls (below L p))

lower-same : (lowers : List Layer) (s : Option Shown) → is_upper s ≡ false → fill_shown lowers s ≡ s
lower-same lowers None h = refl
lower-same lowers (Some (Folder j k a)) h = refl
lower-same lowers (Some (Contents zero k i)) h = absurd (false≢true (sym h))
lower-same lowers (Some (Contents (suc j) k i)) h = refl

fill-step : (lowers : List Layer) (inodes : ℕ → Option Inode) (o : Option Object) (c : Bool) (s : Option Shown) → is_upper s ≡ false → over 0 (λ k. option_map (fill lowers) (inodes k)) o (unless c s) ≡ fill_shown lowers (over 0 inodes o (unless c s))
fill-step lowers inodes None true s h = refl
fill-step lowers inodes None false s h = sym (lower-same lowers s h)
fill-step lowers inodes (Some Whiteout) c s h = refl
fill-step lowers inodes (Some (Directory k a o r)) c s h = refl
fill-step lowers inodes (Some (Named k)) c s h = refl

pub shows-filled : (U : Layer) (lowers : List Layer) (p : Path) → shows 0 (filled U lowers ∷ lowers) p ≡ fill_shown lowers (shows 0 (U ∷ lowers) p)
shows-filled U lowers p = fill-step lowers U.inodes (held U p) (cuts U p) (shows 1 lowers (below U p)) (lower-shows 0 lowers (below U p))
