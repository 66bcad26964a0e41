-- Who is attached and who makes a call in steps, as the lines of a script tell.
use Rattle.std.specs.Prelude.{◌≡◌, ℕ, ◌+◌, Bool, true, false, not, ◌&&◌, ◌||◌, List, [], ◌∷◌, Option, None, MatchOption, Result, Ok, Err, ◌⊎◌, cond, nat_eq, nat_le}
use Rattle.std.specs.List.{list_any, filter}
use Rattle.std.specs.Option.{option_map_or}
use Rattle.ov_base.specs.Calls.{Call, call_of}
use Rattle.ov_base.specs.declared.errno.Errno.{Errno}
use Rattle.ov_script.specs.Commands.{command_of}
use Rattle.ov_script.specs.declared.script.Command.{Command}
use Rattle.ov_script.specs.declared.script.Command.TheVariants as command

-- the clients that are attached, those whose calls are on their way, and the number of the next one
pub record Roster : Type 0 where
  pub attached : List ℕ
  pub calling : List ℕ
  pub next : ℕ

-- at the beginning nobody is attached, and the first number is 0
abbrev pub nobody : Roster
nobody = record { attached = []; calling = []; next = 0 }

-- whether a number is in a list, and the others of it
abbrev pub has : List ℕ → ℕ → Bool
has clients client = list_any (nat_eq client) clients

abbrev pub others : ℕ → List ℕ → List ℕ
others client clients = filter (λ c. not (nat_eq client c)) clients

abbrev pub is_attached : Roster → ℕ → Bool
is_attached r client = has r.attached client

abbrev pub is_calling : Roster → ℕ → Bool
is_calling r client = has r.calling client

-- whether a client is attached and has no call on its way
abbrev pub may_call : Roster → ℕ → Bool
may_call r client = is_attached r client && not (is_calling r client)

-- the next client is attached
abbrev pub with_next : Roster → Roster
with_next r = record r { attached = r.next ∷ r.attached; next = r.next + 1 }

-- a client's call is on its way, and is no more
abbrev pub with_call : ℕ → Roster → Roster
with_call client r = record r { calling = client ∷ r.calling }

abbrev pub without_call : ℕ → Roster → Roster
without_call client r = record r { calling = others client r.calling }

-- a client is detached, and its call goes first
abbrev pub without : ℕ → Roster → Roster
without client r = record (without_call client r) { attached = others client r.attached }

-- an empty line and a comment do nothing
abbrev pub is_skipped : List ℕ → Bool
is_skipped [] = true
is_skipped (b ∷ line) = nat_eq b 35

-- the command of a line; none of one that does nothing
abbrev pub command_in : List ℕ → Option Command
command_in line = cond (is_skipped line) None (command_of line)

-- the layers of a mount: whether there is an upper, and how many lower ones there are
abbrev pub Layering : Type 0
Layering = Bool × ℕ

-- whether a layer has this number: the upper has 0, and the lower ones count from 1
abbrev pub is_layer : Layering → ℕ → Bool
is_layer layers index = cond (nat_eq index 0) layers.0 (nat_le index layers.1)

-- whether a command can be played: the client that it names is attached, and has a call on its way
-- where one is stepped or dropped, and none where one is made; or the layer is one of these
abbrev pub is_good_command : Layering → Roster → Command → Bool
is_good_command layers r command.Attach = true
is_good_command layers r (command.Detach client) = is_attached r client
is_good_command layers r (command.Call client text) = may_call r client
is_good_command layers r (command.Start client text) = may_call r client
is_good_command layers r (command.Step client steps) = is_calling r client
is_good_command layers r (command.Drop client) = is_calling r client
is_good_command layers r (command.Layer index) = is_layer layers index
is_good_command layers r command.Merge = true
is_good_command layers r command.Work = true

-- whether a line can be played: it does nothing, or is such a command
abbrev pub is_good : Layering → Roster → List ℕ → Bool
is_good layers r line = is_skipped line || option_map_or (is_good_command layers r) (command_of line) false

-- what a start leaves: no call where the text is refused, else one, unless memory runs out
abbrev pub StartLeaves : ℕ → Roster → Result Call Errno → Roster → Type 0
StartLeaves client r (Err errno) s = s ≡ r
StartLeaves client r (Ok call) s = (s ≡ r) ⊎ (s ≡ with_call client r)

-- what a command leaves; an attach may be refused, and steps may end their call
abbrev pub CommandLeaves : Roster → Command → Roster → Type 0
CommandLeaves r command.Attach s = (s ≡ r) ⊎ (s ≡ with_next r)
CommandLeaves r (command.Detach client) s = s ≡ without client r
CommandLeaves r (command.Start client text) s = StartLeaves client r (call_of text) s
CommandLeaves r (command.Step client steps) s = (s ≡ r) ⊎ (s ≡ without_call client r)
CommandLeaves r (command.Drop client) s = s ≡ without_call client r
CommandLeaves r _ s = s ≡ r

-- what a line leaves
abbrev pub LineLeaves : Roster → List ℕ → Roster → Type 0
LineLeaves r line s = MatchOption (command_in line) (s ≡ r) (λ command. CommandLeaves r command s)

-- lines are played on these layers, one after the other, each of which is good, from one roster to another
abbrev pub ArePlayed : Layering → Roster → List (List ℕ) → Roster → Type 0
ArePlayed layers r [] s = s ≡ r
ArePlayed layers r (line ∷ lines) s = (is_good layers r line ≡ true) × ((t : Roster) × (LineLeaves r line t × ArePlayed layers t lines s))
