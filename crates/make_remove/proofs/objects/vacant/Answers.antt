use Rattle.make_remove.proofs.Sights.{seen-directory, seen-nothing, seen-refused, seen-way, vacancy-nothing, vacancy-refused, vacancy-some}
use Rattle.make_remove.proofs.objects.vacant.Goals as goal

pub returns-in-Err-clause-cases : goal.returns-in-Err-clause-cases
returns-in-Err-clause-cases c = λ l p h. vacancy-refused l p c.in-Err.errno (seen-refused l p c.args.seen.now c.in-Err.errno c.in-Err.is h)

pub returns-in-Some-clause-cases : goal.returns-in-Some-clause-cases
returns-in-Some-clause-cases c = λ l p h. vacancy-some l p c.args.seen.now c.in-Ok.shown c.in-Ok.is c.in-Some.field-0 c.in-Some.is h

pub returns-in-None-clause-cases : goal.returns-in-None-clause-cases
returns-in-None-clause-cases c = λ l p h. vacancy-nothing l p c.args.seen.now c.in-Ok.shown c.in-Ok.is c.in-None.is h

pub returns-in-None-clause-parents : goal.returns-in-None-clause-parents
returns-in-None-clause-parents c = λ l p h. seen-way l p c.args.seen.now c.in-Ok.shown c.in-Ok.is h

pub returns-in-None-clause-absent : goal.returns-in-None-clause-absent
returns-in-None-clause-absent c = λ l p h. seen-nothing l p c.args.seen.now c.in-Ok.shown c.in-Ok.is c.in-None.is h

pub returns-in-None-clause-parent : goal.returns-in-None-clause-parent
returns-in-None-clause-parent c = λ l p h. seen-directory l p c.args.seen.now c.in-Ok.shown c.in-Ok.is h
