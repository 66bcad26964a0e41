-- Why the words of a command line ask for nothing to be done.
use Rattle.std.specs.Prelude.{ℕ}
use Rattle.clap.specs.Values.{kind_of}
use Rattle.clap.specs.declared.error.kind.ErrorKind.{ErrorKind}
use Rattle.clap.specs.declared.error.kind.ErrorKind.TheVariants as kind
use Rattle.clap.specs.declared.error.Error.{Error}
use Rattle.command_line.specs.declared.usage_fault.UsageFault.{UsageFault}
use Rattle.command_line.specs.declared.usage_fault.UsageFault.TheVariants.{CommandLine, NotText}
use Rattle.command_line.specs.declared.usage_fault.UsageFault.TheVariants.{Memory}

-- the exit status of what a command line comes to: 0 where help or the version is asked for
abbrev pub status_of_kind : ErrorKind → ℕ
status_of_kind kind.DisplayHelp = 0
status_of_kind kind.DisplayVersion = 0
status_of_kind _ = 2

-- the exit status of such a fault
abbrev pub status_of : UsageFault → ℕ
status_of (CommandLine error) = status_of_kind (kind_of error)
status_of NotText = 2
status_of Memory = 3

-- the fault of what the parser tells
abbrev pub usage_fault : Error → ErrorKind → UsageFault
usage_fault error kind.OutOfMemory = Memory
usage_fault error _ = CommandLine error

-- an allocation failure
abbrev pub memory : UsageFault
memory = Memory
