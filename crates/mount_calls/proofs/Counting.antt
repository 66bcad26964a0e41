-- The handles of all clients on a directory or a file, after one client's descriptors changed.
use Rattle.std.proofs.Common.{arith, ◌≡◌, ◌≢◌, ℕ, zero, suc, ◌+◌, ◌<◌, ◌≤◌, true, List, [], ◌∷◌, Option, None, Some, refl, ap, ◌∙◌, is_some}
use Rattle.mount_calls.proofs.Words.{cases_eq, Descriptors, Directory, File, OpenDirectory, OpenFile, option_and_then, Upper}
use Rattle.std.specs.Option.{option_map_or}
use Rattle.open_handles.specs.declared.handle.Handle as handles
use Rattle.open_handles.specs.Descriptors.{opened}
use Rattle.open_handles.specs.Holding.{holds, handles_on, holds_file, files_on}
use Rattle.open_handles.proofs.Holding.{handles_on-some, files_on-some}
use Rattle.mount_calls.specs.Held.{sum_below, handles_by, handles_below, files_by, files_below}

abbrev Found : Type 0
Found = ℕ → Option Descriptors

abbrev Slots : Type 0
Slots = List (Option handles.Handle)

module _ (count : Option Descriptors → ℕ) where
  -- where a count is the same of each client, the sum is
  pub below-same : (f g : Found) (n : ℕ) → ((m : ℕ) → m < n → count (g m) ≡ count (f m)) → sum_below count g n ≡ sum_below count f n
  below-same f g zero same = refl
  below-same f g (suc n) same = grind (arith, below-same f g n)

  -- where one client's changes, the sum changes as that client's
  pub below-changes : (f g : Found) (n c : ℕ) → c < n → ((m : ℕ) → m ≢ c → g m ≡ f m) → sum_below count g n + count (f c) ≡ sum_below count f n + count (g c)
  below-changes f g zero c h others = absurd (omega arith)
  below-changes f g (suc n) c h others = grind (arith, cases_eq, below-same f g n, below-changes f g n c)

  -- one client's is no more than the sum
  pub below-one : (f : Found) (n c : ℕ) → c < n → count (f c) ≤ sum_below count f n
  below-one f zero c h = absurd (omega arith)
  below-one f (suc n) c h = grind (arith, cases_eq, below-one f n c)

-- whose descriptor is open is attached, with these descriptors
client-with : (f : Found) (c d : ℕ) (o : handles.Handle) → option_and_then (λ (e : Descriptors). opened e.slots.items d) (f c) ≡ Some o → (e : Descriptors) × (f c ≡ Some e) × (opened e.slots.items d ≡ Some o)
client-with f c d o is = by (f c) refl is
  where
    by : (x : Option Descriptors) → f c ≡ x → option_and_then (λ (e : Descriptors). opened e.slots.items d) x ≡ Some o → (e : Descriptors) × (f c ≡ Some e) × (opened e.slots.items d ≡ Some o)
    by None e at = let no : None ≡ Some o = at in absurd (cc)
    by (Some x) e at = (x, e, at)

pub has-client : (f : Found) (c d : ℕ) (o : handles.Handle) → option_and_then (λ (e : Descriptors). opened e.slots.items d) (f c) ≡ Some o → is_some (f c) ≡ true
has-client f c d o is = ap (λ (x : Option Descriptors). is_some x) (client-with f c d o is).1

-- what a client has open counts: a directory, and a file of the upper
pub below-some : (f : Found) (n c d : ℕ) (o : OpenDirectory) → c < n → option_and_then (λ (e : Descriptors). opened e.slots.items d) (f c) ≡ Some (Directory o) → 0 < handles_below f n o.directory
below-some f n c d o h is =
    let x = client-with f c d (Directory o) is in
    omega (arith, handles_on-some x.0.slots.items d o x.2, ap (λ z. handles_by z o.directory) x.1, below-one (λ z. handles_by z o.directory) f n c h)

pub file-some : (f : Found) (n c d k : ℕ) (x : OpenFile) → c < n → x.source ≡ Upper k → option_and_then (λ (e : Descriptors). opened e.slots.items d) (f c) ≡ Some (File x) → 0 < files_below f n k
file-some f n c d k x h key is =
    let y = client-with f c d (File x) is in
    omega (arith, files_on-some y.0.slots.items d k x key y.2, ap (λ z. files_by z k) y.1, below-one (λ z. files_by z k) f n c h)

-- a count of what is open
module _ (one : Option handles.Handle → ℕ) (on : Slots → ℕ) (bare : one None ≡ 0) (none : on [] ≡ 0) (step : (x : Option handles.Handle) (slots : Slots) → on (x ∷ slots) ≡ one x + on slots) where
  -- what counts in slots, and by a client
  abbrev InSlots : Slots → Type 0
  InSlots slots = (d : ℕ) × (h : handles.Handle) × (opened slots d ≡ Some h) × (0 < one (Some h))

  abbrev by_client : Option Descriptors → ℕ
  by_client x = option_map_or (λ (e : Descriptors). on e.slots.items) x 0

  abbrev ByClient : Found → Type 0
  ByClient f = (c d : ℕ) × (h : handles.Handle) × (option_and_then (λ (e : Descriptors). opened e.slots.items d) (f c) ≡ Some h) × (0 < one (Some h))

  -- some slot counts where they all do
  slots-find : (slots : Slots) → 0 < on slots → InSlots slots
  slots-find [] some = absurd (omega (arith, none))
  slots-find (x ∷ slots) some = by (λ more. slots-find slots more) x (one x) refl (omega (arith, step x slots))
    where
      by : (0 < on slots → InSlots slots) → (y : Option handles.Handle) (n : ℕ) → one y ≡ n → 0 < n + on slots → InSlots (y ∷ slots)
      by rest None n e more = let found = rest (omega (arith, bare)) in (suc found.0, found.1, found.2, found.3)
      by rest (Some h) zero e more = let found = rest (omega arith) in (suc found.0, found.1, found.2, found.3)
      by rest (Some h) (suc n) e more = (0, h, refl, omega arith)

  -- and some client's where all clients' do
  clients-find : (f : Found) (n : ℕ) → 0 < sum_below by_client f n → ByClient f
  clients-find f zero some = absurd (omega arith)
  clients-find f (suc n) some = by (λ more. clients-find f n more) (f n) refl some
    where
      of : (0 < sum_below by_client f n → ByClient f) → (x : Descriptors) → f n ≡ Some x → (m : ℕ) → on x.slots.items ≡ m → 0 < m + sum_below by_client f n → ByClient f
      of rest x e zero none more = rest (omega arith)
      of rest x e (suc m) some more =
          let found = slots-find x.slots.items (omega arith) in
          (n, found.0, found.1, ap (option_and_then (λ (y : Descriptors). opened y.slots.items found.0)) e ∙ found.2, found.3)

      by : (0 < sum_below by_client f n → ByClient f) → (x : Option Descriptors) → f n ≡ x → 0 < by_client x + sum_below by_client f n → ByClient f
      by rest None e more = rest (omega arith)
      by rest (Some x) e more = of rest x e (on x.slots.items) refl more

-- what counts on a directory is a handle on it
held-on : (h : handles.Handle) (k : ℕ) → 0 < holds (Some h) k → (o : OpenDirectory) × (h ≡ Directory o) × (o.directory ≡ k)
held-on h k some = grind arith

-- and on a file of the upper
held-file : (h : handles.Handle) (k : ℕ) → 0 < holds_file (Some h) k → (x : OpenFile) × (h ≡ File x) × (x.source ≡ Upper k)
held-file h k some = grind arith

-- a client's handle on the directory of this number
pub record HeldBy (f : Found) (k : ℕ) : Type 0 where
  pub client : ℕ
  pub descriptor : ℕ
  pub handle : OpenDirectory
  pub there : option_and_then (λ (e : Descriptors). opened e.slots.items descriptor) (f client) ≡ Some (Directory handle)
  pub on : handle.directory ≡ k

-- where clients hold a directory, one of them does
pub below-find : (f : Found) (n k : ℕ) → 0 < handles_below f n k → HeldBy f k
below-find f n k some =
    let x = clients-find (λ o. holds o k) (λ slots. handles_on slots k) refl refl (λ o slots. refl) f n some in
    let y = held-on x.2 k x.4 in
    record { client = x.0; descriptor = x.1; handle = y.0; there = x.3 ∙ ap Some y.1; on = y.2 }

-- a client's handle on the upper's file of this key
pub record FileBy (f : Found) (k : ℕ) : Type 0 where
  pub client : ℕ
  pub descriptor : ℕ
  pub file : OpenFile
  pub there : option_and_then (λ (e : Descriptors). opened e.slots.items descriptor) (f client) ≡ Some (File file)
  pub key : file.source ≡ Upper k

-- where clients hold a file of the upper, one of them does
pub file-find : (f : Found) (n k : ℕ) → 0 < files_below f n k → FileBy f k
file-find f n k some =
    let x = clients-find (λ o. holds_file o k) (λ slots. files_on slots k) refl refl (λ o slots. refl) f n some in
    let y = held-file x.2 k x.4 in
    record { client = x.0; descriptor = x.1; file = y.0; there = x.3 ∙ ap Some y.1; key = y.2 }
