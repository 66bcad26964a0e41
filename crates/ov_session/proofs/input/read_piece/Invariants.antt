use Rattle.std.proofs.Common.{◌≡◌, ◌≤◌, ◌-◌, length}
use Rattle.std.specs.Io.KnownBytes.{Keeps}
use Rattle.ov_session.proofs.input.read_piece.Given as goal

abbrev pub invariant-tries : goal.invariant-tries
invariant-tries g l = record {
  kept : Keeps (g.S.Source.remaining l.fn.input) (g.S.Source.remaining l.input);
  reads : g.S.Source.reads l.fn.input ≤ g.S.Source.reads l.input;
  most : g.S.Source.most l.input ≡ g.S.Source.most l.fn.input;
  room : length l.piece ≡ length l.fn.piece;
  well : g.S.Source.failures l.input ≡ g.S.Source.failures l.fn.input;
}

abbrev pub decreases-tries : goal.decreases-tries
decreases-tries g l = g.S.Source.most l.input - g.S.Source.reads l.input
