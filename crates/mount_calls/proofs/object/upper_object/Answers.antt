use Rattle.mount_calls.proofs.Marks.{upper-file, upper-link}
use Rattle.mount_calls.proofs.object.upper_object.Goals as goal

pub returns-in-File : goal.returns-in-File
returns-in-File c = λ U lowers below p shown. upper-file U lowers below p c.args.key _ _ c.in-File.is shown

pub returns-in-SymbolicLink : goal.returns-in-SymbolicLink
returns-in-SymbolicLink c = λ U lowers below p shown. upper-link U lowers below p c.args.key _ _ c.in-SymbolicLink.is shown
