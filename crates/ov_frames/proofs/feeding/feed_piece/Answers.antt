use Rattle.std.proofs.Common.{◌≡◌, ℕ, List, [], ◌∷◌, ◌++◌, ap, subst, ◌∙◌}
use Rattle.std.proofs.lemmas.List.{take_rest}
use Rattle.ov_frames.specs.Feeding.{Adds, IsCompleted}
use Rattle.ov_frames.specs.Streams.{left_of}
use Rattle.ov_frames.specs.declared.front.Front.{Front}
use Rattle.ov_frames.specs.declared.request.Request.{Request}
use Rattle.ov_frames.proofs.Completing.{completed_bad, completed_whole, spelled_begun}
use Rattle.ov_frames.proofs.feeding.feed_piece.Goals as goal

pub returns-then-is_empty-clause-begun : goal.returns-then-is_empty-clause-begun
returns-then-is_empty-clause-begun c =
    let adds = c.in_ok-fault.ensures.ok in
    spelled_begun c.args.piece.now adds.added c.in_ok-fault.fault c.go_on.new.held.items adds.spells

pub returns-in_ok-fault-in-Whole-clause-ok : goal.returns-in_ok-fault-in-Whole-clause-ok
returns-in_ok-fault-in-Whole-clause-ok c =
    let old = c.args.held.now.items in
    let piece = c.args.piece.now in
    let new = c.complete.new.held.items in
    let used = c.in_ok-front.used in
    let before = c.push.new.self.items in
    let after = c.go_on-in-Whole.new.requests.items in
    let left = left_of c.in_ok-fault-in-Whole.fault c.go_on-in-Whole.new.held.items in
    let first : before ≡ c.in-Whole.request ∷ [] =
    c.in_ok-push-in-Whole.ensures.items ∙ ap (λ (rs : List Request). rs
    ++ c.in-Whole.request ∷ []) c.new-requests.ensures.items in
    let done =
    subst (λ (f : Front). IsCompleted old piece new f used) c.in-Whole.is
    c.in_ok-front.ensures.ok in
    let adds =
    subst (λ (bs : List ℕ). Adds before after bs left)
    (take_rest piece used) c.in_ok-fault-in-Whole.ensures.ok in
    completed_whole old piece new before after c.in-Whole.request c.in-Whole.field-1 used left done
    first adds

pub returns-in_ok-fault-in-Whole-clause-begun : goal.returns-in_ok-fault-in-Whole-clause-begun
returns-in_ok-fault-in-Whole-clause-begun c =
    let adds = c.in_ok-fault-in-Whole.ensures.ok in
    spelled_begun _ adds.added c.in_ok-fault-in-Whole.fault c.go_on-in-Whole.new.held.items
    adds.spells

pub returns-in-Bad-clause-ok : goal.returns-in-Bad-clause-ok
returns-in-Bad-clause-ok c =
    let old = c.args.held.now.items in
    let piece = c.args.piece.now in
    let new = c.complete.new.held.items in
    let used = c.in_ok-front.used in
    let done =
    subst (λ (f : Front). IsCompleted old piece new f used) c.in-Bad.is
    c.in_ok-front.ensures.ok in
    completed_bad old piece new c.new-requests.result.items c.in-Bad.fault used done
    c.new-requests.ensures.items
