use Rattle.std.proofs.Common.{◌≡◌, ℕ, ◌+◌, ◌-◌, length, take, drop, sym, ap, subst, ◌∙◌}
use Rattle.ov_frames.specs.Feeding.{IsCompleted, IsFilled}
use Rattle.ov_frames.specs.Fronts.{front_end}
use Rattle.ov_frames.specs.Streams.{front_of}
use Rattle.ov_frames.specs.declared.front.Front.{Front}
use Rattle.ov_frames.proofs.Completing.{completes}
use Rattle.ov_frames.proofs.feeding.complete.Goals as goal

pub returns-clause-ok : goal.returns-clause-ok
returns-clause-ok c =
    let old = c.args.held.now.items in
    let piece = c.args.piece.now in
    let mid = c.fill.new.held.items in
    let new = c.fill-2.new.held.items in
    let a = c.in_ok-first.first in
    let b = c.in_ok-second.second in
    let end : c.front_end.result ≡ front_end old =
    c.front_end.ensures ∙ ap front_end c.as_slice.ensures.value in
    let next : c.front_end-2.result ≡ front_end mid =
    c.front_end-2.ensures ∙ ap front_end c.as_slice-2.ensures.value in
    let stands : c.in_ok-front.front ≡ front_of new =
    c.in_ok-front.ensures.front ∙ ap front_of c.as_slice-3.ensures.value in
    let first = subst (λ (e : ℕ). IsFilled old e piece mid a) end c.in_ok-first.ensures.ok in
    let second =
    subst (λ (e : ℕ). IsFilled mid e (take (length piece - a) (drop a piece)) new b) next
    c.in_ok-second.ensures.ok in
    subst (λ (f : Front). IsCompleted old piece new f (a + b)) (sym stands)
    (completes old piece mid new a b c.requires first second)
