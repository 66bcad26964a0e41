-- The table of open jobs after what changes one.
use Rattle.std.proofs.Common.{◌≡◌, ◌≢◌, ℕ, suc, zero, ◌+◌, ◌<◌, ◌≤◌, Bool, true, false, cond, List, [], ◌∷◌, length, map, set, get_or, ◌++◌, Option, Some, None, is_some, is_none, nat_lt, position, refl, sym, ap, subst, ◌∙◌, arith, count_by}
use Rattle.std.specs.List.{position_or_len}
use Rattle.std.proofs.lemmas.Bool.Decides.{nat_tests}
use Rattle.std.proofs.lemmas.List.Quantifiers.{position-Some}
use Rattle.std.proofs.lemmas.List.Sums.{sum_by-cons, sum_by-le-sum_by, fails_before_first}
use Rattle.std.proofs.lemmas.Option.{slice_get_within, slice_get-get_or, get_or_from_slice_get}
use Rattle.work_dir.specs.declared.table.OpenJob.{OpenJob}
use Rattle.work_dir.specs.OpenJobs.{job_at, has_temp, is_of, of_client, unless_of, closed, IsFree, IsFull, Same, Changes}

-- setting what stands there changes nothing
pub set_self : (work : List (Option OpenJob)) (n : ℕ) → set work n (job_at work n) ≡ work
set_self [] n = refl
set_self (o ∷ work) zero = refl
set_self (o ∷ work) (suc n) = ap (λ w. o ∷ w) (set_self work n)

-- a job that is not the client's is not closed
pub closed_other : (work : List (Option OpenJob)) (n client : ℕ) → is_of client (job_at work n) ≡ false → work ≡ closed work n client
closed_other work n client other =
    let kept : unless_of client (job_at work n) ≡ job_at work n = ap (λ b. cond b None (job_at work n)) other in
    sym (ap (λ (o : Option OpenJob). set work n o) kept ∙ set_self work n)

-- the number of a client's job is in the table
pub own_within : (work : List (Option OpenJob)) (n client : ℕ) → is_of client (job_at work n) ≡ true → n < length work
own_within [] n client own = cc
own_within (o ∷ work) zero client own = omega arith
own_within (o ∷ work) (suc n) client own = let within : n < length work = own_within work n client own in omega arith

-- what stands at a number in the table
pub job_at-get_or : (work : List (Option OpenJob)) (n : ℕ) (d : Option OpenJob) → n < length work → job_at work n ≡ get_or work n d
job_at-get_or [] n d within = absurd (omega arith)
job_at-get_or (o ∷ work) zero d within = refl
job_at-get_or (o ∷ work) (suc n) d within = job_at-get_or work n d (omega arith)

-- what stands at a number that is set, and at the others
set_there : (work : List (Option OpenJob)) (n : ℕ) (x : Option OpenJob) → n < length work → job_at (set work n x) n ≡ x
set_there [] n x within = absurd (omega arith)
set_there (o ∷ work) zero x within = refl
set_there (o ∷ work) (suc n) x within = set_there work n x (omega arith)

set_others : (work : List (Option OpenJob)) (n : ℕ) (x : Option OpenJob) (m : ℕ) → m ≢ n → job_at (set work n x) m ≡ job_at work m
set_others [] n x m other = refl
set_others (o ∷ work) zero x zero other = absurd (other refl)
set_others (o ∷ work) zero x (suc m) other = refl
set_others (o ∷ work) (suc n) x zero other = refl
set_others (o ∷ work) (suc n) x (suc m) other = set_others work n x m (λ e. other (ap suc e))

-- a number that is set
pub set_changes : (work : List (Option OpenJob)) (n : ℕ) (x : Option OpenJob) → n < length work → Changes work (set work n x) n x
set_changes work n x within = record { here = set_there work n x within; others = set_others work n x }

-- a temp is in an open job
has_le : (o : Option OpenJob) → cond (has_temp o) 1 0 ≤ cond (is_some o) 1 0
has_le None = omega arith
has_le (Some o) = elim (has_temp (Some o)) as (λ b. cond b 1 0 ≤ 1) [ true ↦ omega arith | false ↦ omega arith ]

-- where no job is open there is no temp
pub no_temps : (work : List (Option OpenJob)) → count_by is_some work ≡ 0 → count_by has_temp work ≡ 0
no_temps work none =
    omega (arith, sum_by-le-sum_by (λ o. cond (has_temp o) 1 0) (λ o. cond (is_some o) 1 0) work has_le)

-- what is left of a job is not the client's
not_of : (client : ℕ) (o : Option OpenJob) (b : Bool) → is_of client o ≡ b → is_of client (cond b None o) ≡ false
not_of client o true own = refl
not_of client o false other = other

-- the same, counted in what is left
none_left : (client : ℕ) (work : List (Option OpenJob)) → count_by (is_of client) (map (unless_of client) work) ≡ 0
none_left client [] = refl
none_left client (o ∷ work) =
    let count : Option OpenJob → ℕ = λ x. cond (is_of client x) 1 0 in
    sum_by-cons count (unless_of client o) (map (unless_of client) work)
    ∙ (ap (λ b. cond b 1 0 + count_by (is_of client) (map (unless_of client) work)) (not_of client o (is_of client o) refl)
    ∙ ap (λ n. 0 + n) (none_left client work))

-- none of a client's jobs is open once it is forgotten
pub none_in : (client : ℕ) (work now : List (Option OpenJob)) → now ≡ map (unless_of client) work → count_by (is_of client) now ≡ 0
none_in client work now forgotten = ap (count_by (is_of client)) forgotten ∙ none_left client work

-- taking a client's job out gives it
pub taken : (work : List (Option OpenJob)) (n client : ℕ) (x : Option OpenJob) → is_of client (job_at work n) ≡ true → x ≡ get_or work n x → x ≡ of_client client (job_at work n)
taken work n client x own read =
    read ∙ (sym (job_at-get_or work n x (own_within work n client own)) ∙ sym (ap (λ b. cond b (job_at work n) None) own))

-- only its number changes
pub closed_changes : (work : List (Option OpenJob)) (n client : ℕ) (x : Option OpenJob) → is_of client (job_at work n) ≡ true → x ≡ None → Changes work (set work n x) n (unless_of client (job_at work n))
closed_changes work n client x own none =
    let gone : x ≡ unless_of client (job_at work n) = none ∙ sym (ap (λ b. cond b None (job_at work n)) own) in
    subst (λ y. Changes work (set work n x) n y) gone (set_changes work n x (own_within work n client own))

-- the first number that is free is free
pub free_found : (work : List (Option OpenJob)) (n : ℕ) → position is_none work ≡ Some n → IsFree work n
free_found work n found =
    let at = position-Some is_none work n None found in
    slice_get-get_or work n None at.0 ∙ ap Some (none_is (get_or work n None) at.1)
  where
    none_is : (o : Option OpenJob) → is_none o ≡ true → o ≡ None
    none_is None h = refl
    none_is (Some o) h = cc

-- no position: the test that there is one failed
past_all : (b : Bool) (n : ℕ) → cond b (Some n) None ≡ None → b ≡ false
past_all true n h = cc
past_all false n h = refl

-- where there is none, no number is free
pub full_found : (work : List (Option OpenJob)) → position is_none work ≡ None → IsFull work
full_found work found n free =
    let past : nat_lt (position_or_len is_none work) (length work) ≡ false = past_all _ _ found in
    let within : n < length work = slice_get_within work n None free in
    let before : n < position_or_len is_none work = grind (arith, nat_tests) in
    let held : is_none (get_or work n None) ≡ false = fails_before_first is_none work n None before in
    let none : is_none (get_or work n None) ≡ true = ap is_none (get_or_from_slice_get work n None None free) in
    cc

-- the table with one number more
pub grown_free : (work : List (Option OpenJob)) → IsFree (work ++ None ∷ []) (length work)
grown_free [] = refl
grown_free (o ∷ work) = grown_free work

pub grown_same : (work : List (Option OpenJob)) → Same work (work ++ None ∷ [])
grown_same [] zero = refl
grown_same [] (suc n) = refl
grown_same (o ∷ work) zero = refl
grown_same (o ∷ work) (suc n) = grown_same work n
