-- What a call lacks can be had: a parent is on a way that is shown, and a file has bytes.
use Rattle.std.proofs.Common.{◌≡◌, ℕ, zero, suc, ◌<◌, Bool, true, false, cond, nat_lt, List, [], ◌∷◌, Option, None, Some, refl, sym, ap, ◌∙◌, subst, arith}
use Rattle.std.specs.Option.{option_and_then}
use Rattle.std.proofs.lemmas.Bool.{ltb-true}
use Rattle.ov_base.specs.declared.bytes.Content.{Content}
use Rattle.ov_base.specs.declared.bytes.Content.TheVariants as content
use Rattle.ov_base.specs.Calls.{Call}
use Rattle.plain_model.specs.Layers.{Path, Inode, Layer, Shown, Folder, Contents, shows}
use Rattle.merged_lookup.specs.declared.layers.Layers.{Layers}
use Rattle.ov_base.specs.declared.place.Place.{Place}
use Rattle.merged_lookup.specs.Lower.{file_bytes}
use Rattle.merged_lookup.specs.Marking.{file_place}
use Rattle.merged_lookup.specs.Merged.{layers_of, lowers_of, parents_fault}
use Rattle.merged_lookup.proofs.Preparing.{lower-shown}
use Rattle.copy_up.specs.Needs.{IsNeed}
use Rattle.copy_up.proofs.OwnBytes.{has-source}
use Rattle.work_dir.specs.declared.next.Lack.{Lack}
use Rattle.mount_calls.specs.declared.mount.Mount.{Mount}
use Rattle.mount_calls.specs.Files.{place_below}
use Rattle.mount_calls.specs.Lacks.{bytes_at, copied_file, data_at, file_lack, lack_among, lacking, low_file, need_of, parent_lack, path_of_call, source_of, CanBeHad, OpensToChange}
use Rattle.mount_calls.proofs.Lacking.{need-lacking}
use Rattle.mount_calls.proofs.Stating.{the_layers, the_lowers, the_upper}

-- a lower file has bytes
abbrev pub HasBytes : List Layer → Place → Type 0
HasBytes lowers d = (b : List ℕ) × (bytes_at lowers d ≡ Some b)

low-bytes : (l : Layers) (p : Path) (j k : ℕ) (i : Inode) (b : List ℕ) → i.content ≡ content.File b → shows 0 (layers_of l) p ≡ Some (Contents j k (Some i)) → 0 < j →
    HasBytes (lowers_of l) (record { layer = j; key = k })
low-bytes l p zero k i b is shown lower = absurd (omega (arith, lower))
low-bytes l p (suc j) k i b is shown lower =
    (b, ap (option_and_then (λ (x : Inode). file_bytes x.content)) (lower-shown l p j k (Some i) shown) ∙ ap file_bytes is)

-- a lower file that is shown is there
record IsLowFile (s : Option Shown) (d : Place) : Type 0 where
  pub inode : Inode
  pub bytes : List ℕ
  pub content : inode.content ≡ content.File bytes
  pub shown : s ≡ Some (Contents d.layer d.key (Some inode))
  pub lower : 0 < d.layer

low-file-in : (j k : ℕ) (i : Inode) (d : Place) (b : Bool) (c : Content) → nat_lt 0 j ≡ b → i.content ≡ c → cond b (source_of j k c) None ≡ Some d → IsLowFile (Some (Contents j k (Some i))) d
low-file-in j k i d false c less is h = cc
low-file-in j k i d true (content.SymbolicLink target) less is h = cc
low-file-in j k i d true (content.File bytes) less is h =
    let place : Place = record { layer = j; key = k } in
    let e : Some place ≡ Some d = h in
    let same : place ≡ d = cc in
    subst (λ z. IsLowFile (Some (Contents j k (Some i))) z) same
    (record { inode = i; bytes = bytes; content = is; shown = refl; lower = ltb-true 0 j less })

is-low-file : (s : Option Shown) (d : Place) → low_file s ≡ Some d → IsLowFile s d
is-low-file None d h = cc
is-low-file (Some (Folder j k a)) d h = cc
is-low-file (Some (Contents j k None)) d h = cc
is-low-file (Some (Contents j k (Some i))) d h = low-file-in j k i d (nat_lt 0 j) i.content refl refl h

-- each file that is lacking has bytes
abbrev pub IsOfBytes : Mount → Option Place → Type 0
IsOfBytes m file = (d : Place) → file ≡ Some d → HasBytes (the_lowers m) d

pub none-bytes : (m : Mount) → IsOfBytes m None
none-bytes m d h = cc

pub shown-bytes : (m : Mount) (p : Path) → IsOfBytes m (low_file (shows 0 (the_layers m) p))
shown-bytes m p d h =
    let f = is-low-file (shows 0 (the_layers m) p) d h in
    low-bytes m.layers p d.layer d.key f.inode f.bytes f.content f.shown f.lower

-- so also where a change of attributes or names copies them
pub copied-bytes : (m : Mount) (p : Path) → IsOfBytes m (copied_file m.metacopy (shows 0 (the_layers m) p))
copied-bytes m p = by m.metacopy
  where
    by : (b : Bool) → IsOfBytes m (copied_file b (shows 0 (the_layers m) p))
    by true = none-bytes m
    by false = shown-bytes m p

-- so has a marked file, by the lower file that is shown at its mark
marked-bytes : (l : Layers) (m : Option Path) (d : Place) → place_below (lowers_of l) m ≡ Some d → HasBytes (lowers_of l) d
marked-bytes l None d h = cc
marked-bytes l (Some q) d h = by (file_place (shows 1 (lowers_of l) q)) refl h
  where
    placed : (e : Place) → file_place (shows 1 (lowers_of l) q) ≡ Some e → HasBytes (lowers_of l) e
    placed e at = let s = has-source l q e (sym at) in (s.bytes, s.there)

    by : (o : Option Place) → file_place (shows 1 (lowers_of l) q) ≡ o → o ≡ Some d → HasBytes (lowers_of l) d
    by None at h = cc
    by (Some e) at h = let same : e ≡ d = cc in subst (HasBytes (lowers_of l)) same (placed e at)

pub data-bytes : (m : Mount) (p : Path) → IsOfBytes m (data_at (the_lowers m) (shows 0 (the_layers m) p))
data-bytes m p d h = by (shows 0 (the_layers m) p) refl h
  where
    by : (s : Option Shown) → shows 0 (the_layers m) p ≡ s → data_at (the_lowers m) s ≡ Some d → HasBytes (the_lowers m) d
    by None e h = cc
    by (Some (Folder j k a)) e h = cc
    by (Some (Contents zero k None)) e h = cc
    by (Some (Contents zero k (Some i))) e h = marked-bytes m.layers i.mark d h
    by (Some (Contents (suc j) k i)) e h = shown-bytes m p d (ap low_file e ∙ h)

-- a file that is lacking can be had
can-file : (m : Mount) (k : Call) (file : Option Place) → IsOfBytes m file → CanBeHad m k (file_lack file)
can-file m k None has = tt
can-file m k (Some d) has = has d refl

-- a path of a call, first or second, to which the way is shown
pub record IsWay (m : Mount) (k : Call) (second : Bool) (p : Path) : Type 0 where
  pub path : path_of_call k second ≡ Some p
  pub way : parents_fault (the_layers m) p ≡ None
  pub opens : OpensToChange (the_layers m) k

-- a parent that is lacking can be had, and else what is lacking besides
can-parent : (m : Mount) (k : Call) (second : Bool) (p : Path) → IsWay m k second p → (o : Option ℕ) → IsNeed (the_upper m) p (need_of o) → (besides : Lack) → CanBeHad m k besides →
    CanBeHad m k (parent_lack second o besides)
can-parent m k second p w None need besides has = has
can-parent m k second p w (Some count) need besides has = (p, w.path, w.way, need, w.opens)

can-way : (m : Mount) (k : Call) (second : Bool) (p : Path) → IsWay m k second p → (besides : Lack) → CanBeHad m k besides → CanBeHad m k (parent_lack second (lacking (the_upper m) p) besides)
can-way m k second p w besides has = can-parent m k second p w (lacking (the_upper m) p) (need-lacking (the_upper m) p) besides has

-- what is lacking for one path, and for two
pub can-one : (m : Mount) (k : Call) (p : Path) (file : Option Place) → IsWay m k false p → IsOfBytes m file → CanBeHad m k (lack_among (the_upper m) false (p ∷ []) file)
can-one m k p file w has = can-way m k false p w (file_lack file) (can-file m k file has)

pub can-both : (m : Mount) (k : Call) (p q : Path) (file : Option Place) → IsWay m k false p → IsWay m k true q → IsOfBytes m file →
    CanBeHad m k (lack_among (the_upper m) false (p ∷ (q ∷ [])) file)
can-both m k p q file w v has =
    can-way m k false p w (parent_lack true (lacking (the_upper m) q) (file_lack file)) (can-way m k true q v (file_lack file) (can-file m k file has))
