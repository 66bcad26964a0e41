-- What a path lacks, by the numbers of its names, and what a call lacks.
use Rattle.std.proofs.Common.{◌≡◌, ℕ, zero, suc, ◌<◌, ◌≤◌, Bool, true, false, cond, List, [], ◌∷◌, length, take, reverse, Option, None, Some, is_none, refl, sym, ap, ◌∙◌, subst, arith}
use Rattle.std.specs.Option.{option_or}
use Rattle.std.proofs.lemmas.Bool.{false≢true, lt-ltb}
use Rattle.std.proofs.lemmas.List.{reverse-append, reverse-reverse, length-reverse, take-append-le, take_all}
use borrow.Author.Count.{below_more}
use Rattle.plain_model.specs.Layers.{Name, Path, Inode, Layer, held, holds_directory, Shown, Contents, shows}
use Rattle.merged_lookup.specs.declared.found.Topmost.{Topmost}
use Rattle.merged_lookup.specs.declared.found.Topmost.TheVariants as topmost
use Rattle.merged_lookup.specs.declared.layers.Layers.{Layers}
use Rattle.merged_lookup.specs.Merged.{layers_of, IsTopmost}
use Rattle.copy_up.specs.declared.needs.Need.{Need}
use Rattle.copy_up.specs.declared.needs.Need.TheVariants as need
use Rattle.copy_up.specs.Needs.{IsNeed, first_names, has_directory}
use Rattle.work_dir.specs.declared.next.Lack.{Lack}
use Rattle.work_dir.specs.declared.next.Lack.TheVariants as lack
use Rattle.ov_base.specs.declared.place.Place.{Place}
use Rattle.mount_calls.specs.declared.attribute_changes.AttributeCall.{AttributeCall}
use Rattle.mount_calls.specs.declared.attribute_changes.AttributeCall.TheVariants as asks
use Rattle.mount_calls.specs.AttributeCalls.{call_at}
use Rattle.mount_calls.specs.Lacks.{lacking_to, lacking, need_of, LawOfNeeds, source_of, copied_file, low_file, data_at, parent_lack, lack_among, lack_of}

-- the first names of a path are those of its parent, as far as that goes
first-within : (n : Name) (q : Path) (k : ℕ) → k ≤ length q → first_names k (n ∷ q) ≡ first_names k q
first-within n q k h =
    ap (λ z. reverse (take k z)) (reverse-append (n ∷ []) q)
    ∙ ap reverse (take-append-le k (reverse q) (n ∷ []) (omega (arith, length-reverse q)))

-- all of them are the path
first-all : (p : Path) → first_names (length p) p ≡ p
first-all p = ap reverse (take_all (length p) (reverse p) (omega (arith, length-reverse p))) ∙ reverse-reverse p

-- what the upper lacks of a path and its parents, by their numbers of names
abbrev Lacks : Layer → Path → Option ℕ → Type 0
Lacks U q None = (k : ℕ) → k ≤ length q → has_directory U q k ≡ true
Lacks U q (Some count) = (count ≤ length q) × (has_directory U q count ≡ false) × ((k : ℕ) → k < count → has_directory U q k ≡ true)

-- the same of its parents
has-within : (U : Layer) (n : Name) (q : Path) (k : ℕ) → k ≤ length q → has_directory U (n ∷ q) k ≡ has_directory U q k
has-within U n q k h = ap (λ x. holds_directory (held U x)) (first-within n q k h)

has-all : (U : Layer) (p : Path) → has_directory U p (length p) ≡ holds_directory (held U p)
has-all U p = ap (λ x. holds_directory (held U x)) (first-all p)

-- each directory on the way is held, where the last is and those before
held-all : (U : Layer) (n : Name) (q : Path) → Lacks U q None → holds_directory (held U (n ∷ q)) ≡ true → Lacks U (n ∷ q) None
held-all U n q h e k le =
    below_more (λ j. has_directory U (n ∷ q) j ≡ true) (length (n ∷ q))
    (λ j less. has-within U n q j (omega arith) ∙ h j (omega arith)) (has-all U (n ∷ q) ∙ e) k (omega arith)

lacks-next : (U : Layer) (n : Name) (q : Path) (o : Option ℕ) (b : Bool) → Lacks U q o → holds_directory (held U (n ∷ q)) ≡ b → Lacks U (n ∷ q) (option_or o (cond b None (Some (length (n ∷ q)))))
lacks-next U n q (Some count) b h e =
    (omega (arith, h.0), has-within U n q count h.0 ∙ h.1, λ k less. has-within U n q k (omega (arith, h.0)) ∙ h.2 k less)
lacks-next U n q None true h e = held-all U n q h e
lacks-next U n q None false h e =
    (omega arith, has-all U (n ∷ q) ∙ e, λ k less. has-within U n q k (omega arith) ∙ h k (omega arith))

lacks : (U : Layer) (q : Path) → Lacks U q (lacking_to U q)
lacks U [] = λ k le. let e : k ≡ 0 = omega arith in subst (λ j. has_directory U [] j ≡ true) (sym e) refl
lacks U (n ∷ q) = lacks-next U n q (lacking_to U q) (holds_directory (held U (n ∷ q))) (lacks U q) refl

-- so has a path in that directory to be placed
needs : (U : Layer) (n : Name) (q : Path) (o : Option ℕ) → Lacks U q o → IsNeed U (n ∷ q) (need_of o)
needs U n q None h = λ k less. has-within U n q k (omega arith) ∙ h k (omega arith)
needs U n q (Some count) h =
    (omega (arith, h.0), has-within U n q count h.0 ∙ h.1, λ k less. has-within U n q k (omega (arith, h.0)) ∙ h.2 k less)

-- what is lacking has to be placed
pub need-lacking : (U : Layer) (p : Path) → IsNeed U p (need_of (lacking U p))
need-lacking U [] = λ k less. absurd (omega arith)
need-lacking U (n ∷ q) = needs U n q (lacking_to U q) (lacks U q)

-- and nothing else has
one-need : (U : Layer) (p : Path) (a b : Need) → IsNeed U p a → IsNeed U p b → a ≡ b
one-need U p need.Nothing need.Nothing h g = refl
one-need U p need.Nothing (need.Directory d) h g = absurd (false≢true (sym g.1 ∙ h d g.0))
one-need U p (need.Directory c) need.Nothing h g = absurd (false≢true (sym h.1 ∙ g c h.0))
one-need U p (need.Directory c) (need.Directory d) h g =
    let less : c < d → ⊥ = λ l. false≢true (sym h.1 ∙ g.2 c l) in
    let more : d < c → ⊥ = λ l. false≢true (sym g.1 ∙ h.2 d l) in
    let e : c ≡ d = omega (arith, less, more) in ap need.Directory e

pub law_of_needs : LawOfNeeds
law_of_needs U p n =
    (λ h. one-need U p n (need_of (lacking U p)) h (need-lacking U p), λ e. subst (λ m. IsNeed U p m) (sym e) (need-lacking U p))

-- what is lacking on the way, by what has to be placed
pub lack-parent : (second : Bool) (o : Option ℕ) (count : ℕ) (besides : Lack) → need.Directory count ≡ need_of o → lack.Parent second count ≡ parent_lack second o besides
lack-parent second None count besides h = cc
lack-parent second (Some x) count besides h = cc

pub lack-besides : (second : Bool) (o : Option ℕ) (besides : Lack) → need.Nothing ≡ need_of o → besides ≡ parent_lack second o besides
lack-besides second None besides h = refl
lack-besides second (Some x) besides h = cc

-- where a file of a lower layer is; of the upper none is
pub low-lower : (s : Option Shown) (layer key : ℕ) (i : Inode) → 0 < layer → s ≡ Some (Contents layer key (Some i)) → source_of layer key i.content ≡ low_file s
low-lower s layer key i h e = sym (ap low_file e ∙ ap (λ b. cond b (source_of layer key i.content) None) (lt-ltb 0 layer h))

pub low-own : (s : Option Shown) (layer key : ℕ) (i : Option Inode) → layer ≡ 0 → s ≡ Some (Contents layer key i) → None ≡ low_file s
low-own s layer key None h e = sym (ap low_file e)
low-own s layer key (Some i) h e = sym (ap low_file (e ∙ ap (λ z. Some (Contents z key (Some i))) h))

-- no bytes are copied where no file of a lower layer is shown, and where none are copied
pub copied-none : (metacopy : Bool) (s : Option Shown) → low_file s ≡ None → copied_file metacopy s ≡ None
copied-none true s h = refl
copied-none false s h = h

pub none-copied : (metacopy : Bool) (s : Option Shown) → metacopy ≡ true → None ≡ copied_file metacopy s
none-copied metacopy s h = sym (ap (λ b. copied_file b s) h)

-- and those of a file that is shown where bytes are
pub all-copied : (metacopy : Bool) (s : Option Shown) → metacopy ≡ false → low_file s ≡ copied_file metacopy s
all-copied metacopy s h = sym (ap (λ b. copied_file b s) h)

-- what is lacking for a change of attributes
pub attribute-lack : (U : Layer) (lowers : List Layer) (metacopy : Bool) (p : Path) (x : AttributeCall) → lack_among U false (p ∷ []) (copied_file metacopy (shows 0 (U ∷ lowers) p)) ≡ lack_of U lowers metacopy (call_at p x)
attribute-lack U lowers metacopy p (asks.Mode mode) = refl
attribute-lack U lowers metacopy p (asks.Owner uid gid) = refl
attribute-lack U lowers metacopy p (asks.Set name value) = refl
attribute-lack U lowers metacopy p (asks.Delete name) = refl

-- something is shown as the topmost object
pub top-shown : (l : Layers) (p : Path) (t : Topmost) → IsTopmost l p (Some t) → is_none (shows 0 (layers_of l) p) ≡ false
top-shown l p (topmost.Directory d) h = ap is_none h.1
top-shown l p (topmost.Inode d) h = ap is_none h.shown

-- of what lower layers show the bytes are where it is
pub low-data : (lowers : List Layer) (s : Option Shown) (j k : ℕ) (i : Option Inode) → 0 < j → s ≡ Some (Contents j k i) → low_file s ≡ data_at lowers s
low-data lowers s zero k i low h = absurd (omega arith)
low-data lowers s (suc j) k i low h = ap low_file h ∙ sym (ap (data_at lowers) h)

-- for a rename, by whether both paths are one object
abbrev pub rename_lack : Layer → Path → Path → Bool → Option Place → Lack
rename_lack U p q one d = lack_among U false (cond one [] (p ∷ (q ∷ []))) (cond one None d)

pub rename-one : (U : Layer) (p q : Path) (one : Bool) (d : Option Place) → one ≡ true → lack.Nothing ≡ rename_lack U p q one d
rename-one U p q one d h = ap (λ b. rename_lack U p q b d) (sym h)

pub rename-apart : (U : Layer) (p q : Path) (one : Bool) (d : Option Place) → one ≡ false → lack_among U false (p ∷ (q ∷ [])) d ≡ rename_lack U p q one d
rename-apart U p q one d h = ap (λ b. rename_lack U p q b d) (sym h)
