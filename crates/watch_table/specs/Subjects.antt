-- What is fired: subjects as the code has them.
use Rattle.std.specs.Prelude.{List, map, option_copied}
use Rattle.ov_base.specs.declared.node_id.NodeId.TheVariants.{New}
use Rattle.plain_model.specs.Watching as plain
pub use Rattle.plain_model.specs.Watching.{IsSubject}
use Rattle.watch_table.specs.declared.subject.Aim.{Aim}
use Rattle.watch_table.specs.declared.subject.Aim.TheVariants.{On, Only}
use Rattle.watch_table.specs.declared.subject.Subject.{Subject}

-- whom a subject is for: at run time an object is told by its number
abbrev pub aim_of : Aim → plain.Aim
aim_of (On object) = plain.On (New object)
aim_of (Only client number) = plain.Only client number

-- a subject, as the machine has it
abbrev pub subject_of : Subject → plain.Subject
subject_of s = record { aim = aim_of s.aim; bits = s.bits; cookie = s.cookie; name = option_copied s.name }

abbrev pub subjects_of : List Subject → List plain.Subject
subjects_of ss = map subject_of ss
