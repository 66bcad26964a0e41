use Rattle.std.proofs.Common.{is_some, sym, ap, ◌∙◌}
use Rattle.copy_up.proofs.Copying.{answer-more}
use Rattle.copy_up.proofs.OwnBytes.{has-source, is-marked, shows-low}
use Rattle.copy_up.proofs.filling.shown_bytes.Goals as goal

pub low_copy-requires : goal.low_copy-requires
low_copy-requires c = ap is_some (has-source c.args.layers.now c.requires.source.0 c.in-Some.place (sym c.in-Some.is ∙ c.requires.source.2)).there

pub returns-in-Some : goal.returns-in-Some
returns-in-Some c = answer-more _ _ _ c.low_copy.result c.low_copy.ensures (λ b has i is.
    shows-low c.args.layers.now c.args.key c.requires.source.0 (is-marked c.args.layers.now.upper c.args.key c.requires.source.0 c.requires.file c.requires.source.1) i is
    c.in-Some.place b (sym c.in-Some.is ∙ c.requires.source.2) has)
