-- Where a client's instance stands among all, what each client watches, and what it is told.
use Rattle.std.specs.Prelude.{◌≡◌, ◌≢◌, ℕ, zero, suc, ◌<◌, ℤ, Bool, true, false, List, [], ◌∷◌, map, nat_eq}
use Rattle.std.specs.List.{AllByRecursion, AllZip, list_any}
use Rattle.ov_base.specs.declared.node_id.NodeId.TheVariants.{New}
use Rattle.plain_model.specs.Watching.{Watch, Instance, Subject, Rule, is_numbered}
use Rattle.plain_model.specs.Machine.{instance_of, watches_of}
use Rattle.watch_table.specs.Listening.{is_on, HearsOne}

-- the clients of instances
abbrev pub clients_of : List Instance → List ℕ
clients_of es = map {A = Instance} (λ e. e.client) es

-- each number is below those after it
abbrev pub AreRising : List ℕ → Type 0
AreRising [] = Unit {0}
AreRising (c ∷ cs) = AllByRecursion (λ d. c < d) cs × AreRising cs

-- the first instance of the client stands at this place
abbrev pub IsPlace : ℕ → ℕ → List Instance → Type 0
IsPlace c i [] = ⊥
IsPlace c zero (e ∷ es) = e.client ≡ c
IsPlace c (suc i) (e ∷ es) = (e.client ≢ c) × IsPlace c i es

-- whether a client has a watch on the object of a number
abbrev pub watches : List Instance → ℕ → ℕ → Bool
watches es object c = is_on object (watches_of (instance_of es c))

-- each client watches what it watched
abbrev pub KeepWatches : List Instance → List Instance → Type 0
KeepWatches old new = (object c : ℕ) → watches new object c ≡ watches old object c

-- an instance that hears a subject, or is as it was
abbrev pub HearsIf : Rule → Subject → Bool → Instance → Instance → Type 0
HearsIf shows s true old new = HearsOne shows s old new
HearsIf shows s false old new = new ≡ old

-- these clients hear a subject, and the others are as they were
abbrev pub AreTold : Rule → Subject → List ℕ → List Instance → List Instance → Type 0
AreTold shows s clients = AllZip (λ old new. HearsIf shows s (list_any (nat_eq old.client) clients) old new)

-- each client hears a subject
abbrev pub AllHearOne : Rule → Subject → List Instance → List Instance → Type 0
AllHearOne shows s = AllZip (HearsOne shows s)

-- the watches of a number are all on the object of this one
abbrev pub AreOnlyOn : ℤ → ℕ → List Watch → Type 0
AreOnlyOn number object ws = AllByRecursion (λ w. is_numbered number w ≡ true → w.node ≡ New object) ws
