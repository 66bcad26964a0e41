use Rattle.std.proofs.Common.{◌≡◌, [], sym, ap, ap₂, ◌∙◌, subst}
use Rattle.std.proofs.lemmas.Bool.{false≢true}
use Rattle.plain_model.specs.Machine.{writable}
use Rattle.plain_model.specs.Refusals.{refusal, writes}
use Rattle.merged_lookup.specs.Merged.{upper_of, lowers_of}
use Rattle.mount_calls.specs.Lacks.{changed_paths}
use Rattle.mount_calls.specs.Plans.{call_of}
use Rattle.overlay_core.specs.Watching.{AgreesAs}
use Rattle.overlay_core.proofs.ReadRefusals.{refused-as, refused-first, refused-last, same-writes}
use Rattle.overlay_core.proofs.finishing.planned.Goals as goal
use Rattle.overlay_core.proofs.finishing.planned.Goals.{
  else-read_only-via-else-read_only,
  else-read_only-via-then-read_only+else-writes,
}

pub returns-in-Err-clause-refused : goal.returns-in-Err-clause-refused
returns-in-Err-clause-refused g c = λ s a.
    refused-first s c.args.job.now.client c.args.job.now.call _
    (ap₂ (refusal (writable s)) (sym c.client.ensures) (sym c.call.ensures)
    ∙ c.in-Err.ensures.refused (writable s) a.0.stands)

pub returns-then-writes-clause-refused : goal.returns-then-writes-clause-refused
returns-then-writes-clause-refused g c = λ s a.
    let m = c.args.watched.now.mount in
    let j = c.args.job.now in
    let same : call_of c.in-Ok.plan ≡ j.call = c.in-Ok.ensures.call ∙ c.call.ensures in
    refused-last s j.client j.call
    (ap₂ (refusal (writable s)) (sym c.client.ensures) (sym same)
    ∙ c.in-Ok.ensures.planned.allowed (writable s) a.0.stands)
    (ap (writes (writable s)) (sym same)
    ∙ sym (c.writes.ensures.writes m c.client.result c.in-Ok.ensures.planned (writable s)
    a.0.stands) ∙ c.if-writes.true) (a.1 ∙ c.if-read_only.true)

pub returns-clause-reads : goal.returns-clause-reads
returns-clause-reads g c = λ only.
    let m = c.args.watched.now.mount in
    let j = c.args.job.now in
    let planned = c.in-Ok.ensures.planned in
    let same : call_of c.in-Ok.plan ≡ j.call = c.in-Ok.ensures.call ∙ c.call.ensures in
    elim c.else-read_only.branch [
      | else-read_only-via-then-read_only+else-writes w ↦ (
        (λ s a. sym (same-writes s j.call) ∙ ap (writes (writable s)) (sym same)
            ∙ sym (w.writes.ensures.writes m c.client.result planned (writable s) a.0.stands)
            ∙ w.if-writes.false),
        subst (λ k. changed_paths (upper_of m.layers) (lowers_of m.layers) k ≡ []) same
            (w.writes.ensures.none w.if-writes.false m c.client.result planned),
      )
      | else-read_only-via-else-read_only w ↦ absurd (false≢true (sym w.if-read_only.false ∙ only))
    ]

pub returns-clause-allowed : goal.returns-clause-allowed
returns-clause-allowed g c = λ s a.
    let m = c.args.watched.now in
    let j = c.args.job.now in
    let same : call_of c.in-Ok.plan ≡ j.call = c.in-Ok.ensures.call ∙ c.call.ensures in
    refused-as s j.client j.call c.args.read_only a.1
    (λ only. (returns-clause-reads g c only).0 s
    (subst (λ b. AgreesAs b m.mount m.notifier s) only a))
    ∙ ap₂ (refusal (writable s)) (sym c.client.ensures) (sym same)
    ∙ c.in-Ok.ensures.planned.allowed (writable s) a.0.stands
