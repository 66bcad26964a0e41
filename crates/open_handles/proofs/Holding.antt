-- How many descriptors hold a directory or a file, after one of them was opened, closed or read.
use Rattle.std.proofs.Common.{◌≡◌, ℕ, zero, suc, ◌+◌, ◌<◌, Bool, cond, List, [], ◌∷◌, Option, Some, None, refl, sym, ap, ◌∙◌, arith, eq-eqb}
use Rattle.open_handles.specs.declared.handle.Handle.{Handle}
use Rattle.open_handles.specs.declared.handle.Handle.TheVariants.{Directory, File}
use Rattle.open_handles.specs.declared.handle.OpenDirectory.{OpenDirectory}
use Rattle.open_handles.specs.declared.open_file.FileSource.TheVariants.{Upper}
use Rattle.open_handles.specs.declared.open_file.OpenFile.{OpenFile}
use Rattle.open_handles.specs.Descriptors.{opened, SetsSlot}
use Rattle.open_handles.specs.Holding.{holds, handles_on, is_upper, holds_file, files_on}

-- the slots of a client
abbrev Slots : Type 0
Slots = List (Option Handle)

-- the slots after the first
abbrev rest : Slots → Slots
rest [] = []
rest (slot ∷ slots) = slots

-- what is open there, one descriptor lower
opened-rest : (slots : Slots) (d : ℕ) → opened (rest slots) d ≡ opened slots (suc d)
opened-rest [] d = refl
opened-rest (slot ∷ slots) d = refl

-- a count of slots adds up what each counts for, and an empty one counts for nothing
record AddsUp (each : Option Handle → ℕ) (count : Slots → ℕ) : Type 0 where
  free : each None ≡ 0
  none : count [] ≡ 0
  more : (slot : Option Handle) (slots : Slots) → count (slot ∷ slots) ≡ each slot + count slots

-- so do those of the descriptors that hold a directory
directories : (k : ℕ) → AddsUp (λ slot. holds slot k) (λ slots. handles_on slots k)
directories k = record { free = refl; none = refl; more = λ slot slots. refl }

-- and those that hold a file
files : (k : ℕ) → AddsUp (λ slot. holds_file slot k) (λ slots. files_on slots k)
files k = record { free = refl; none = refl; more = λ slot slots. refl }

module _ (each : Option Handle → ℕ) (count : Slots → ℕ) (adds : AddsUp each count) where
  -- such a count is that of the first slot and of the others
  count-first : (slots : Slots) → count slots ≡ each (opened slots 0) + count (rest slots)
  count-first [] = omega (arith, adds.free, adds.none)
  count-first (slot ∷ slots) = adds.more slot slots

  -- where the same is open, as many are counted
  count-alike : (xs ys : Slots) → ((d : ℕ) → opened xs d ≡ opened ys d) → count xs ≡ count ys
  count-alike [] [] same = refl
  count-alike [] (y ∷ ys) same =
      let free : each y ≡ 0 = ap each (sym (same 0)) ∙ adds.free in
      let others : count [] ≡ count ys = count-alike [] ys (λ d. same (suc d)) in
      omega (arith, adds.more y ys, free, others)
  count-alike (x ∷ xs) [] same =
      let free : each x ≡ 0 = ap each (same 0) ∙ adds.free in
      let others : count xs ≡ count [] = count-alike xs [] (λ d. same (suc d)) in
      omega (arith, adds.more x xs, free, others)
  count-alike (x ∷ xs) (y ∷ ys) same =
      let first : each x ≡ each y = ap each (same 0) in
      let others : count xs ≡ count ys = count-alike xs ys (λ d. same (suc d)) in
      omega (arith, adds.more x xs, adds.more y ys, first, others)

  -- where what is open under one descriptor changes, the count changes by what that counted for and counts for
  count-sets : (old new : Slots) (d : ℕ) (value : Option Handle) → SetsSlot old new d value → count new + each (opened old d) ≡ count old + each value
  count-sets old new zero value sets =
      let others : count (rest new) ≡ count (rest old) = count-alike (rest new) (rest old) (λ d. opened-rest new d ∙ sets.others (suc d) (λ e. absurd (omega arith)) ∙ sym (opened-rest old d)) in
      let here : each (opened new 0) ≡ each value = ap each sets.here in
      omega (arith, count-first new, count-first old, others, here)
  count-sets old new (suc d) value sets =
      let later : SetsSlot (rest old) (rest new) d value = record {
        here = opened-rest new d ∙ sets.here;
        others = λ e off. opened-rest new e ∙ sets.others (suc e) (λ same. off (omega arith)) ∙ sym (opened-rest old e);
      } in
      let others = count-sets (rest old) (rest new) d value later in
      let first : each (opened new 0) ≡ each (opened old 0) = ap each (sets.others 0 (λ same. absurd (omega arith))) in
      let was : each (opened (rest old) d) ≡ each (opened old (suc d)) = ap each (opened-rest old d) in
      omega (arith, count-first new, count-first old, others, first, was)

  -- what an open descriptor counts for is counted
  count-some : (slots : Slots) (d : ℕ) → 0 < each (opened slots d) → 0 < count slots
  count-some slots zero one = omega (arith, count-first slots, one)
  count-some slots (suc d) one =
      let was : each (opened (rest slots) d) ≡ each (opened slots (suc d)) = ap each (opened-rest slots d) in
      let others : 0 < count (rest slots) = count-some (rest slots) d (omega (arith, was, one)) in
      omega (arith, count-first slots, others)

-- where the same is open, as many descriptors hold a directory
pub handles_on-alike : (xs ys : Slots) (k : ℕ) → ((d : ℕ) → opened xs d ≡ opened ys d) → handles_on xs k ≡ handles_on ys k
handles_on-alike xs ys k = count-alike _ _ (directories k) xs ys

-- and as many a file
pub files_on-alike : (xs ys : Slots) (k : ℕ) → ((d : ℕ) → opened xs d ≡ opened ys d) → files_on xs k ≡ files_on ys k
files_on-alike xs ys k = count-alike _ _ (files k) xs ys

-- where what is open under one descriptor changes, the count changes by what it held and holds
pub handles_on-sets : (old new : Slots) (d k : ℕ) (value : Option Handle) → SetsSlot old new d value → handles_on new k + holds (opened old d) k ≡ handles_on old k + holds value k
handles_on-sets old new d k value = count-sets _ _ (directories k) old new d value

-- so does that of a file
pub files_on-sets : (old new : Slots) (d k : ℕ) (value : Option Handle) → SetsSlot old new d value → files_on new k + holds_file (opened old d) k ≡ files_on old k + holds_file value k
files_on-sets old new d k value = count-sets _ _ (files k) old new d value

-- a descriptor that is closed holds none
pub handles_on-closes : (old new : Slots) (d k : ℕ) → SetsSlot old new d None → handles_on new k + holds (opened old d) k ≡ handles_on old k
handles_on-closes old new d k sets = omega (arith, handles_on-sets old new d k None sets)

-- nor a file
pub files_on-closes : (old new : Slots) (d k : ℕ) → SetsSlot old new d None → files_on new k + holds_file (opened old d) k ≡ files_on old k
files_on-closes old new d k sets = omega (arith, files_on-sets old new d k None sets)

-- a directory under an open descriptor is held
pub handles_on-some : (slots : Slots) (d : ℕ) (o : OpenDirectory) → opened slots d ≡ Some (Directory o) → 0 < handles_on slots o.directory
handles_on-some slots d o is =
    let one : holds (opened slots d) o.directory ≡ 1 = ap (λ (h : Option Handle). holds h o.directory) is ∙ ap (λ (b : Bool). cond b 1 0) (eq-eqb o.directory o.directory refl) in
    count-some _ _ (directories o.directory) slots d (omega (arith, one))

-- a file of the upper under an open descriptor is held
pub files_on-some : (slots : Slots) (d key : ℕ) (f : OpenFile) → f.source ≡ Upper key → opened slots d ≡ Some (File f) → 0 < files_on slots key
files_on-some slots d key f upper is =
    let one : holds_file (opened slots d) key ≡ 1 = ap (λ (h : Option Handle). holds_file h key) is ∙ ap (λ s. is_upper s key) upper ∙ ap (λ (b : Bool). cond b 1 0) (eq-eqb key key refl) in
    count-some _ _ (files key) slots d (omega (arith, one))
