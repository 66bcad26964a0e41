use Rattle.std.proofs.Common.{◌≡◌, ◌+◌, [], ◌∷◌, ◌++◌, take, sym, ap, subst, ◌∙◌}
use Rattle.std.proofs.lemmas.List.{map_more}
use Rattle.std.proofs.lemmas.List.Elements.{All-get_or}
use Rattle.plain_model.specs.Watching.{AllHear}
use Rattle.watch_table.specs.Subjects.{IsSubject, subject_of, subjects_of}
use Rattle.plain_model.proofs.Watching.{AllHear-none}
use Rattle.watch_table.proofs.Hearing.{AllHear-push}
use Rattle.watch_table.proofs.table.WatchTable.fire.Goals as goal

pub loop-subject-init : goal.loop-subject-init
loop-subject-init g c = AllHear-none g.R.Rule.shows c.args.self.now

pub tell-requires : goal.tell-requires
tell-requires g c = subst (λ s. IsSubject (subject_of s)) (sym c.subject-item.is)
    (All-get_or (λ s. IsSubject
    (subject_of s)) c.args.subjects.now c.loop-subject.subject-index c.subject-item.result c.loop-subject-test.true c.requires)

pub loop-subject-preserved : goal.loop-subject-preserved
loop-subject-preserved g c =
    let ss = c.args.subjects.now in
    let i = c.loop-subject.subject-index in
    let more : subjects_of (take (i + 1) ss) ≡ subjects_of (take i ss) ++ subject_of c.subject-item.result ∷ [] =
    map_more subject_of ss i c.subject-item.result c.loop-subject-test.true
    ∙ ap (λ x. subjects_of (take i ss) ++ subject_of x ∷ []) (sym c.subject-item.is) in
    subst (λ xs. AllHear g.R.Rule.shows xs c.args.self.now c.tell.new.self) (sym more)
    (AllHear-push g.R.Rule.shows (subjects_of (take i ss))
    (subject_of c.subject-item.result) c.args.self.now c.loop-subject.self c.tell.new.self c.loop-subject.invariant c.tell.ensures)
