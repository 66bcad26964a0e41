use Rattle.std.proofs.Common.{◌≡◌, ◌+◌, List, ℕ, Option, None, Some, position, nat_eq, refl, length, length-drop, ap, arith}
use Rattle.std.proofs.lemmas.List.{take_rest}
use Rattle.std.proofs.lemmas.Result.{err_from_is_err_and}
use Rattle.ov_server.proofs.Scripts.{last_line, next_line, rest_begun}
use Rattle.ov_server.proofs.play.Script.feed.Goals as goal

-- a search that gives no place finds nothing
not_found : (found : Option ℕ) (text : List ℕ) → found ≡ position (λ b. nat_eq b 10) text → ((place : ℕ) → found ≡ Some place → ⊥) → None ≡ position (λ b. nat_eq b 10) text
not_found None text e never = e
not_found (Some place) text e never = absurd (never place refl)

pub returns-in_err-line-clause-err : goal.returns-in_err-line-clause-err
returns-in_err-line-clause-err g c =
    let p = err_from_is_err_and c.from_residual-in_err-line.result c.from_residual-in_err-line.ensures.1 in
    rw (p.1, p.2) (last_line c.args.piece.now c.args.self.now.pending.items c.lines.rest.now c.lines.self.pending.items c.extend_from_slice.new.self.items c.args.self.now.lines c.lines.self.lines c.in-Some.end c.args.self.now.stage c.lines.self.stage c.in_err-line.field-0.0 c.lines.invariant.played c.in-Some.ensures.place c.in_ok-extend_from_slice.ensures.items c.in_err-line.ensures.err)

pub lines-preserved : goal.lines-preserved
lines-preserved g c =
    let rest = take_rest c.lines.rest.now (c.in-Some.end + 1) in record {
      played = next_line c.args.piece.now c.args.self.now.pending.items c.lines.rest.now c.lines.self.pending.items c.extend_from_slice.new.self.items _ c.line.new.self.pending.items c.args.self.now.lines c.lines.self.lines c.line.new.self.lines c.in-Some.end c.args.self.now.stage c.lines.self.stage c.line.new.self.stage c.lines.invariant.played c.in-Some.ensures.place c.in_ok-extend_from_slice.ensures.items c.in_ok-line.ensures.ok rest c.in_ok-line.ensures.pending c.in_ok-line.ensures.lines;
      few = omega (arith, c.in_ok-line.ensures.lines, c.in-Some.ensures.within, c.lines.invariant.few, ap length rest, length-drop {A = ℕ});
      well = cc (c.in_ok-line.ensures.stream, c.lines.invariant.well);
    }

pub returns-clause-ok : goal.returns-clause-ok
returns-clause-ok g c =
    rest_begun c.args.piece.now c.args.self.now.pending.items c.lines.rest.now c.lines.self.pending.items c.extend_from_slice-2.new.self.items c.args.self.now.lines c.lines.self.lines c.args.self.now.stage c.lines.self.stage c.lines.invariant.played (not_found c.line_break.result c.lines.rest.now c.line_break.ensures.place c.in_default.not-Some) c.in_ok-extend_from_slice-2.ensures.items
