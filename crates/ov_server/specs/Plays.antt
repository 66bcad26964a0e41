-- The place that a play of a script has come to.
use Rattle.std.specs.Prelude.{◌≡◌, ◌≢◌, ℕ, ◌<◌, true, false, not, List, ◌++◌, length, nat_eq, Result, Ok, Err, ◌⊎◌}
use Rattle.std.specs.List.{All}
use Rattle.ov_script.specs.declared.script.Command.{Command}
use Rattle.overlay_core.specs.Views.{core_layers, core_read_only, has_client, next_client}
use Rattle.overlay_core.specs.declared.mounted.Core.{Core}
use Rattle.watch_table.specs.declared.hook.Callback.{Ghosts as Callback}
use Rattle.watch_table.specs.declared.hook.Rule.{Ghosts as Rule}
use Rattle.ov_server.specs.Devices.{IsToldBy}
use Rattle.ov_server.specs.Faults.{device_fault}
use Rattle.ov_server.specs.declared.commands.LineFault.{LineFault}
use Rattle.ov_server.specs.declared.commands.LineFault.TheVariants as line
use Rattle.ov_server.specs.declared.fault.DeviceFault.{DeviceFault}
use Rattle.ov_server.specs.declared.fault.DeviceFault.TheVariants.{Stream, Memory}
use Rattle.ov_server.specs.declared.fault.Fault.{Fault}
use Rattle.ov_server.specs.declared.fault.Fault.TheVariants as fault
use Rattle.ov_server.specs.declared.play.PlayFault.{PlayFault}
use Rattle.ov_server.specs.declared.play.PlayFault.TheVariants as play
use Rattle.ov_server.specs.declared.stage.Stage.{Stage}
use Rattle.ov_server.specs.Rosters.{ArePlayed, CommandLeaves, Layering, LineLeaves, Roster, is_attached, is_calling, is_good, is_good_command, nobody}
use Rattle.ov_server.specs.Scripts.{IsBadLine, script_lines}
use Rattle.ov_server.specs.Stages as stages

-- the layers of a mount
abbrev pub layers_in : {F G : Type 0} {asks : Callback F} {rule : Rule G} → Core F G asks rule → Layering
layers_in m = (not (core_read_only m), length (core_layers m).lowers.items)

-- at the beginning nobody is attached, and no number was given
pub record BeginsOn {F G : Type 0} {asks : Callback F} {rule : Rule G} (m : Core F G asks rule) : Type 0 where
  pub nobody : (n : ℕ) → has_client m n ≢ true
  pub first : next_client m ≡ 0

-- the clients of a mount and their calls are those of a roster, and its next number is the same
pub record IsRosterOf {F G : Type 0} {asks : Callback F} {rule : Rule G} (m : Stage F G asks rule) (r : Roster) : Type 0 where
  pub attached : (client : ℕ) → is_attached r client ≡ has_client m.core client
  pub calling : (client : ℕ) → is_calling r client ≡ stages.is_calling m client
  pub next : next_client m.core ≡ r.next

-- a call leaves who is attached, and which layers there are
pub record KeepsClients {F G : Type 0} {asks : Callback F} {rule : Rule G} (old new : Core F G asks rule) : Type 0 where
  pub attached : (client : ℕ) → has_client new client ≡ has_client old client
  pub next : next_client new ≡ next_client old
  pub layers : layers_in new ≡ layers_in old

-- a command was played: it is good, and the mount goes on as it says
pub record PlaysCommand {F G : Type 0} {asks : Callback F} {rule : Rule G} (old : Stage F G asks rule) (command : Command) (new : Stage F G asks rule) : Type 0 where
  pub good : (r : Roster) → IsRosterOf old r → is_good_command (layers_in old.core) r command ≡ true
  pub leaves : (r : Roster) → IsRosterOf old r → (s : Roster) × (CommandLeaves r command s × IsRosterOf new s)
  pub layers : layers_in new.core ≡ layers_in old.core

-- the same of a line
pub record PlaysLine {F G : Type 0} {asks : Callback F} {rule : Rule G} (old : Stage F G asks rule) (text : List ℕ) (new : Stage F G asks rule) : Type 0 where
  pub good : (r : Roster) → IsRosterOf old r → is_good (layers_in old.core) r text ≡ true
  pub leaves : (r : Roster) → IsRosterOf old r → (s : Roster) × (LineLeaves r text s × IsRosterOf new s)
  pub layers : layers_in new.core ≡ layers_in old.core

-- a command cannot be played on a mount, nor a line
abbrev pub CannotPlay : {F G : Type 0} {asks : Callback F} {rule : Rule G} → Stage F G asks rule → Command → Type 0
CannotPlay m command = (r : Roster) → IsRosterOf m r → is_good_command (layers_in m.core) r command ≡ false

abbrev pub IsBadOn : {F G : Type 0} {asks : Callback F} {rule : Rule G} → Stage F G asks rule → List ℕ → Type 0
IsBadOn m text = (r : Roster) → IsRosterOf m r → is_good (layers_in m.core) r text ≡ false

-- how the play of a command, of a line, and of a line with a number ends early
abbrev pub IsCommandRefusal : {F G : Type 0} {asks : Callback F} {rule : Rule G} → Stage F G asks rule → Command → LineFault → Type 0
IsCommandRefusal m command line.BadCommand = CannotPlay m command
IsCommandRefusal m command (line.Device fault) = Unit {0}

abbrev pub IsRefusal : {F G : Type 0} {asks : Callback F} {rule : Rule G} → Stage F G asks rule → List ℕ → LineFault → Type 0
IsRefusal m text line.BadCommand = IsBadOn m text
IsRefusal m text (line.Device fault) = Unit {0}

abbrev pub IsLineFault : {F G : Type 0} {asks : Callback F} {rule : Rule G} → Stage F G asks rule → List ℕ → ℕ → PlayFault → Type 0
IsLineFault m text number (play.BadLine told) = (told ≡ number) × IsBadOn m text
IsLineFault m text number (play.Device fault) = Unit {0}

-- how the play of a script ends early
abbrev pub IsPlayFault : Layering → List ℕ → PlayFault → Type 0
IsPlayFault layers script (play.BadLine number) = IsBadLine layers script number
IsPlayFault layers script (play.Device fault) = Unit {0}

abbrev pub IsOfDevice : LineFault → Type 0
IsOfDevice line.BadCommand = ⊥
IsOfDevice (line.Device fault) = Unit {0}

-- what faults are told as
abbrev pub bad_line : LineFault
bad_line = line.BadCommand

abbrev pub device : DeviceFault → LineFault
device fault = line.Device fault

abbrev pub line_memory : LineFault
line_memory = line.Device Memory

abbrev pub play_device : DeviceFault → PlayFault
play_device fault = play.Device fault

abbrev pub play_memory : PlayFault
play_memory = play.Device Memory

abbrev pub play_fault : PlayFault → Fault
play_fault (play.BadLine number) = fault.BadCommand number
play_fault (play.Device f) = device_fault f

-- how often the output has failed before and after a line, and after lines: as often where all went well, and it has where a stream is told at fault
abbrev pub TellsLine : {T : Type 0} → ℕ → ℕ → Result T LineFault → Type 0
TellsLine before after (Ok x) = after ≡ before
TellsLine before after (Err line.BadCommand) = Unit {0}
TellsLine before after (Err (line.Device f)) = IsToldBy after f

abbrev pub TellsPlay : {T : Type 0} → ℕ → ℕ → Result T PlayFault → Type 0
TellsPlay before after (Ok x) = after ≡ before
TellsPlay before after (Err (play.BadLine number)) = Unit {0}
TellsPlay before after (Err (play.Device f)) = IsToldBy after f

-- the play tells a stream at fault only where a device has failed, or no read is left
abbrev pub IsStreamFault : ℕ → ℕ → ℕ → ℕ → PlayFault → Type 0
IsStreamFault input_failures reads most output_failures (play.Device Stream) = (0 < input_failures) ⊎ ((reads ≡ most) ⊎ (0 < output_failures))
IsStreamFault input_failures reads most output_failures _ = Unit {0}

-- The lines of a script that have ended were played, and left this mount. `begun` is what there is of the next one, and `rest` follows.
pub record IsPlayed {F G : Type 0} {asks : Callback F} {rule : Rule G} (layers : Layering) (script rest begun : List ℕ) (count : ℕ) (m : Stage F G asks rule) : Type 0 where
  pub ended : List (List ℕ)
  pub lines : script_lines script ≡ ended ++ script_lines (begun ++ rest)
  pub counted : length ended ≡ count
  pub roster : Roster
  pub played : ArePlayed layers nobody ended roster
  pub stands : IsRosterOf m roster
  pub layered : layers_in m.core ≡ layers
  pub unbroken : All (λ b. nat_eq b 10 ≡ false) begun

-- From one place in a script, told by what is begun, the lines before, the mount and what follows, the play goes on to another.
abbrev pub GoesOn : {F G : Type 0} {asks : Callback F} {rule : Rule G} → List ℕ → List ℕ → ℕ → Stage F G asks rule → List ℕ → List ℕ → ℕ → Stage F G asks rule → Type 0
GoesOn from begun count m to begun_then count_then m_then =
    (layers : Layering) (script more : List ℕ) → IsPlayed layers script (from ++ more) begun count m → IsPlayed layers script (to ++ more) begun_then count_then m_then

-- from a place in a script the play ends by a fault
abbrev pub EndsBy : {F G : Type 0} {asks : Callback F} {rule : Rule G} → List ℕ → List ℕ → ℕ → Stage F G asks rule → PlayFault → Type 0
EndsBy from begun count m fault =
    (layers : Layering) (script more : List ℕ) → IsPlayed layers script (from ++ more) begun count m → IsPlayFault layers script fault
