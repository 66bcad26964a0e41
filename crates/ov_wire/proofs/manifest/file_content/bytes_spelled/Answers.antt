use Rattle.std.proofs.Common.{◌≡◌, ◌+◌, ◌*◌, ◌/◌, ℕ, List, Option, length, ◌<◌, ap, sym, ◌∙◌, arith}
use Rattle.std.specs.Option.{ok_or}
use Rattle.ov_wire.specs.declared.manifest.fault.EntryFault.TheVariants as fault
use Rattle.ov_wire.proofs.HexDigits.{odd-digits, pair-on}
use Rattle.ov_wire.proofs.manifest.file_content.bytes_spelled.Goals as goal

pub returns-then-digits-count : goal.returns-then-digits-count
returns-then-digits-count c =
    let odd : length c.args.digits.now ≡ 2 * (length c.args.digits.now / 2) + 1 = omega arith in
    ap (λ (o : Option (List ℕ)). ok_or o fault.Value) (odd-digits c.args.digits.now (length c.args.digits.now / 2) odd)

pub loop-index-preserved : goal.loop-index-preserved
loop-index-preserved c =
    let within : 2 * c.loop-index.index + 1 < length c.args.digits.now = omega arith in
    c.loop-index.invariant
    ∙ pair-on c.args.digits.now c.loop-index.index within c.loop-index.bytes.items c.push.new.self.items c.in-Some.byte (sym c.pair_value.ensures ∙ c.in-Some.is) c.in_ok-push-in-Some.ensures.items
