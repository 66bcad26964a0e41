use Rattle.std.proofs.Common.{ap}
use Rattle.mount_calls.specs.Plans.{call_of}
use Rattle.overlay_core.proofs.Making.{performs-as}
use Rattle.overlay_core.proofs.Planned.{found-as, performs-same}
use Rattle.overlay_core.proofs.watched.Watched.carry_out.Goals as goal

pub alter-requires-clause-look : goal.alter-requires-clause-look
alter-requires-clause-look g c = (found-as c.in-Alter.is c.requires.planned).0

pub alter-requires-clause-found : goal.alter-requires-clause-found
alter-requires-clause-found g c = (found-as c.in-Alter.is c.requires.planned).1

pub returns-in-Alter : goal.returns-in-Alter
returns-in-Alter g c = performs-as (ap call_of c.in-Alter.is) c.alter.ensures

pub mkdir-requires-clause-found : goal.mkdir-requires-clause-found
mkdir-requires-clause-found g c = (found-as c.in-Mkdir.is c.requires.planned).1

pub returns-in-Mkdir : goal.returns-in-Mkdir
returns-in-Mkdir g c = performs-as (ap call_of c.in-Mkdir.is) c.mkdir.ensures

pub symlink-requires-clause-found : goal.symlink-requires-clause-found
symlink-requires-clause-found g c = (found-as c.in-Symlink.is c.requires.planned).1

pub symlink-requires-clause-target : goal.symlink-requires-clause-target
symlink-requires-clause-target g c = (found-as c.in-Symlink.is c.requires.planned).2

pub returns-in-Symlink : goal.returns-in-Symlink
returns-in-Symlink g c = performs-as (ap call_of c.in-Symlink.is) c.symlink.ensures

pub open-requires-clause-look : goal.open-requires-clause-look
open-requires-clause-look g c = (found-as c.in-Open.is c.requires.planned).0

pub open-requires-clause-judged : goal.open-requires-clause-judged
open-requires-clause-judged g c = (found-as c.in-Open.is c.requires.planned).1

pub returns-in-Open : goal.returns-in-Open
returns-in-Open g c = performs-as (ap call_of c.in-Open.is) c.«open».ensures

pub unlink-requires-clause-found : goal.unlink-requires-clause-found
unlink-requires-clause-found g c = (found-as c.in-Unlink.is c.requires.planned).1

pub returns-in-Unlink : goal.returns-in-Unlink
returns-in-Unlink g c = performs-as (ap call_of c.in-Unlink.is) c.unlink.ensures

pub rmdir-requires-clause-look : goal.rmdir-requires-clause-look
rmdir-requires-clause-look g c = (found-as c.in-Rmdir.is c.requires.planned).0

pub rmdir-requires-clause-found : goal.rmdir-requires-clause-found
rmdir-requires-clause-found g c = (found-as c.in-Rmdir.is c.requires.planned).1

pub returns-in-Rmdir : goal.returns-in-Rmdir
returns-in-Rmdir g c = performs-as (ap call_of c.in-Rmdir.is) c.rmdir.ensures

pub link-requires-clause-from : goal.link-requires-clause-from
link-requires-clause-from g c = (found-as c.in-Link.is c.requires.planned).0

pub link-requires-clause-found : goal.link-requires-clause-found
link-requires-clause-found g c = (found-as c.in-Link.is c.requires.planned).2

pub returns-in-Link : goal.returns-in-Link
returns-in-Link g c = performs-as (ap call_of c.in-Link.is) c.link.ensures

pub rename-requires-clause-from : goal.rename-requires-clause-from
rename-requires-clause-from g c = (found-as c.in-Rename.is c.requires.planned).0

pub rename-requires-clause-onto : goal.rename-requires-clause-onto
rename-requires-clause-onto g c = (found-as c.in-Rename.is c.requires.planned).1

pub rename-requires-clause-moving : goal.rename-requires-clause-moving
rename-requires-clause-moving g c = (found-as c.in-Rename.is c.requires.planned).2

pub returns-in-Rename : goal.returns-in-Rename
returns-in-Rename g c = performs-as (ap call_of c.in-Rename.is) c.rename.ensures

pub returns-in-Nothing : goal.returns-in-Nothing
returns-in-Nothing g c =
    let found = found-as c.in-Nothing.is c.requires.planned in
    performs-as (ap call_of c.in-Nothing.is) (performs-same c.requires.there found.0 found.1)
