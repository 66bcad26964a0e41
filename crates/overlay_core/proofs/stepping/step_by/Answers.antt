use Rattle.std.proofs.Common.{◌≡◌, ◌⊎◌, inl, inr, Ok, refl, sym, ap, ◌∙◌, subst}
use Rattle.ov_base.specs.declared.reply.Reply.TheVariants.{Refused}
use Rattle.plain_model.specs.Refusals.{refusal}
use Rattle.merged_lookup.specs.Merged.{lowers_of}
use Rattle.work_dir.specs.declared.next.Lack.TheVariants.{File, Parent}
use Rattle.work_dir.specs.declared.next.Next.{Next}
use Rattle.work_dir.specs.declared.next.Next.TheVariants.{Finish, Place, Begin, Copy, AtOnce}
use Rattle.mount_calls.specs.Plans.{call_of}
use Rattle.overlay_core.specs.Steps.{held_by, next_by, without, IsLast}
use Rattle.overlay_core.proofs.ReadSteps.{held-writes, lacks-writes}
use Rattle.overlay_core.proofs.StepsMade.{ended-allowed, made-next, made-planned, made-refused}
use Rattle.overlay_core.proofs.stepping.step_by.Goals as goal

pub returns-in-Err-clause-makes : goal.returns-in-Err-clause-makes
returns-in-Err-clause-makes g c =
    let old = c.args.watched.now in
    let j = c.args.job.now in
    let work = c.args.work.now in
    let t = held_by work j in
    let w = c.let_go.new.work in
    made-next g.R.Rule.shows c.args.read_only c.args.read_only old old work w w j c.ended.new.job
    c.ended.result Finish t refl c.let_go.ensures.table refl
    (λ s a. ap (next_by old.mount j t) (c.in-Err.ensures.refused s a))
    (made-refused g.R.Rule.shows c.args.read_only old w j c.ended.new.job Finish t tt
    (c.let_go.ensures.temps (lowers_of old.mount.layers) c.requires.temps) c.in-Err.errno
    c.ended.result c.ended.ensures.ends c.requires.attached c.in-Err.ensures.refused)

pub returns-in-Err-clause-allowed : goal.returns-in-Err-clause-allowed
returns-in-Err-clause-allowed g c =
    ended-allowed c.ended.new.job (Ok (Refused c.in-Err.errno)) c.ended.result _
    c.ended.ensures.ends tt

-- a step that ends the call, whether nothing is lacking or so many steps were made
ends : (n : Next) → (n ≡ Finish) ⊎ (n ≡ AtOnce) → IsLast n
ends n (inl is) = subst IsLast (sym is) tt
ends n (inr is) = subst IsLast (sym is) tt

pub returns-in-Finish-clause-makes : goal.returns-in-Finish-clause-makes
returns-in-Finish-clause-makes g c =
    let old = c.args.watched.now in
    let j = c.args.job.now in
    let work = c.args.work.now in
    let t = held_by work j in
    let next = c.next_step.result in
    let w = c.let_go-in-Finish.new.work in
    let new = c.carry_out-outcome.new.self in
    made-next g.R.Rule.shows c.args.read_only c.args.read_only old new work w w j
    c.ended-in-Finish.new.job c.ended-in-Finish.result next t refl c.let_go-in-Finish.ensures.table
    refl
    (λ s a. ap (next_by old.mount j t) (c.in-Ok.ensures.allowed s a)
    ∙ (rw c.temp_of.ensures at c.next_step.ensures.next))
    (made-planned g.R.Rule.shows c.args.read_only old new w j c.ended-in-Finish.new.job next t
    (ends next c.in-Finish.is)
    (c.let_go-in-Finish.ensures.temps (lowers_of old.mount.layers) c.requires.temps)
    c.client.result (call_of c.in-Ok.plan) c.client.ensures c.in-Ok.ensures.call
    c.carry_out-outcome.result c.ended-in-Finish.result c.ended-in-Finish.ensures.ends
    c.carry_out-outcome.ensures c.requires.may c.in-Ok.ensures.reads)

pub returns-in-Place-clause-makes : goal.returns-in-Place-clause-makes
returns-in-Place-clause-makes g c =
    let old = c.args.watched.now in
    let j = c.args.job.now in
    let work = c.args.work.now in
    let writes = lacks-writes c.args.read_only old.mount old.notifier j
    (Parent c.in-Place.second c.in-Place.count) c.in-Ok.ensures.reads c.in-Place.ensures.due.0
    (λ e. cc) in
    made-next g.R.Rule.shows c.args.read_only _ old c.place.new.watched work c.held-temp.new.work
    c.place.new.work j c.place.new.job c.place.result (Place c.in-Place.second c.in-Place.count)
    c.held-temp.result (sym writes) c.held-temp.ensures.table c.held-temp.ensures.temp
    (λ s a. ap (next_by old.mount j (held_by work j)) (c.in-Ok.ensures.allowed s a)
    ∙ (rw c.temp_of.ensures at c.in-Place.ensures.next)) c.place.ensures.makes

pub place-requires-clause-temps : goal.place-requires-clause-temps
place-requires-clause-temps g c =
    (c.held-temp.ensures.temps (lowers_of c.args.watched.now.mount.layers) c.requires.temps).0

pub place-requires-clause-temp : goal.place-requires-clause-temp
place-requires-clause-temp g c =
    (c.held-temp.ensures.temps (lowers_of c.args.watched.now.mount.layers) c.requires.temps).1

pub begin-requires-clause-temps : goal.begin-requires-clause-temps
begin-requires-clause-temps g c =
    c.let_go-in-Begin.ensures.temps (lowers_of c.args.watched.now.mount.layers) c.requires.temps

pub returns-in-Begin-clause-makes : goal.returns-in-Begin-clause-makes
returns-in-Begin-clause-makes g c =
    let old = c.args.watched.now in
    let j = c.args.job.now in
    let work = c.args.work.now in
    let t = held_by work j in
    let d = c.in-Begin.source in
    let writes = lacks-writes c.args.read_only old.mount old.notifier j (File d)
    c.in-Ok.ensures.reads c.in-Begin.ensures.due.0 (λ e. cc) in
    made-next g.R.Rule.shows c.args.read_only _ old old work c.let_go-in-Begin.new.work
    c.begin.new.work j c.begin.new.job c.begin.result (Begin d) t (sym writes)
    c.let_go-in-Begin.ensures.table refl
    (λ s a. ap (next_by old.mount j t) (c.in-Ok.ensures.allowed s a)
    ∙ (rw c.temp_of.ensures at c.in-Begin.ensures.next)) (c.begin.ensures.makes t)

pub returns-in-Copy-clause-makes : goal.returns-in-Copy-clause-makes
returns-in-Copy-clause-makes g c =
    let old = c.args.watched.now in
    let j = c.args.job.now in
    let work = c.args.work.now in
    let t = held_by work j in
    let writes = held-writes c.args.read_only work j _ c.requires.idle
    (rw c.temp_of.ensures at c.in-Copy.ensures.due) in
    made-next g.R.Rule.shows c.args.read_only _ old old work (without work j) c.copy.new.work j
    c.copy.new.job c.copy.result Copy t (sym writes) refl refl
    (λ s a. ap (next_by old.mount j t) (c.in-Ok.ensures.allowed s a)
    ∙ (rw c.temp_of.ensures at c.in-Copy.ensures.next)) c.copy.ensures.makes

pub returns-in-Begin-clause-waits : goal.returns-in-Begin-clause-waits
returns-in-Begin-clause-waits g c = c.note.ensures

pub returns-in-Place-clause-allowed : goal.returns-in-Place-clause-allowed
returns-in-Place-clause-allowed g c = λ is. c.in-Ok.ensures.allowed

pub returns-in-Begin-clause-allowed : goal.returns-in-Begin-clause-allowed
returns-in-Begin-clause-allowed g c = λ is. c.in-Ok.ensures.allowed

pub returns-in-Finish-clause-allowed : goal.returns-in-Finish-clause-allowed
returns-in-Finish-clause-allowed g c = λ is. c.in-Ok.ensures.allowed

pub returns-in-Copy-clause-allowed : goal.returns-in-Copy-clause-allowed
returns-in-Copy-clause-allowed g c = λ is. c.in-Ok.ensures.allowed

pub note-requires-clause-allowed : goal.note-requires-clause-allowed
note-requires-clause-allowed g c = λ s st.
    ap (refusal s c.args.job.now.client) (sym c.in-Ok.ensures.call)
    ∙ c.in-Ok.ensures.planned.allowed s st
