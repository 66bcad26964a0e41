use Rattle.make_remove.proofs.Sights.{seen-directory, seen-refused, seen-some, walk-nothing, walk-refused, walk-some}
use Rattle.make_remove.proofs.seen.there.Goals as goal

pub returns-in-Err-clause-refused : goal.returns-in-Err-clause-refused
returns-in-Err-clause-refused c = λ l p h. walk-refused l p c.in-Err.errno (seen-refused l p c.args.seen.now c.in-Err.errno c.in-Err.is h)

pub returns-in-Some-clause-fine : goal.returns-in-Some-clause-fine
returns-in-Some-clause-fine c = λ l p h. walk-some l p c.args.seen.now c.in-Ok.shown c.in-Ok.is c.in-Some.top c.in-Some.is h

pub returns-in-Some-clause-directory : goal.returns-in-Some-clause-directory
returns-in-Some-clause-directory c = λ l p h. seen-directory l p c.args.seen.now c.in-Ok.shown c.in-Ok.is h

pub returns-in-Some-clause-top : goal.returns-in-Some-clause-top
returns-in-Some-clause-top c = λ l p h. seen-some l p c.args.seen.now c.in-Ok.shown c.in-Ok.is c.in-Some.top c.in-Some.is h

pub returns-in-None-clause-refused : goal.returns-in-None-clause-refused
returns-in-None-clause-refused c = λ l p h. walk-nothing l p c.args.seen.now c.in-Ok.shown c.in-Ok.is c.in-None.is h
