use Rattle.std.proofs.Common.{◌≡◌, ◌∙◌, ◌+◌, ◌*◌, ◌<◌, ◌≤◌, ◌^◌, ℕ, add-zero, take, refl, sym, arith, min, inl, inr}
use Rattle.std.proofs.lemmas.List.{length-take}
use Rattle.std.proofs.lemmas.Result.{err_from_is_err_and, IfErr-weaker, on_ok_weaker}
use Rattle.ov_server.specs.Plays.{layers_in}
use Rattle.ov_server.specs.declared.fault.DeviceFault.TheVariants.{Stream}
use Rattle.ov_server.proofs.Scripts.{device_ends, error_stream, input_stream, mark_stream, output_stream, output_well, plays_none, plays_until_end, plays_whole, read_end, read_kept, read_on, read_until}
use Rattle.ov_server.proofs.play.Script.play.Goals as goal

-- how many lines there are at most, and how many reads were made
no_lines : (lines : ℕ) → lines ≡ 0 → lines ≤ 65536 * 0
no_lines lines e = omega arith

more_reads : (lines read : ℕ) → lines ≤ 65536 * read → lines ≤ 65536 * (read + 1)
more_reads lines read h = omega arith

one_read : (reads was read first : ℕ) → reads ≡ was + 1 → was ≡ first + read → reads ≡ first + (read + 1)
one_read reads was read first e h = omega arith

more_lines : (lines before taken count piece_then piece read : ℕ) → lines ≤ before + taken → taken ≡ min count piece_then → piece_then ≡ piece → piece ≡ 65536 → before ≤ 65536 * read → lines ≤ 65536 * (read + 1)
more_lines lines before taken count piece_then piece read fed is same long h = omega arith

room : (lines read stop first most : ℕ) → lines ≤ 65536 * read → read < stop → stop + first ≡ most → most ≤ 140737488355327 → lines + 1 < 2 ^ 63
room lines read stop first most few within fits bound = omega arith

room_for : (before taken count piece_then piece read stop first most : ℕ) → taken ≡ min count piece_then → piece_then ≡ piece → piece ≡ 65536 → before ≤ 65536 * read → read < stop → stop + first ≡ most → most ≤ 140737488355327 → before + taken < 2 ^ 63
room_for before taken count piece_then piece read stop first most is same long few within fits bound = omega arith

none_left : (reads read stop first most now : ℕ) → reads ≡ first + read → stop ≤ read → stop + first ≡ most → reads ≤ now → now ≡ most → reads ≡ now
none_left reads read stop first most now all past is bound same = omega arith

pub loop-read-init : goal.loop-read-init
loop-read-init g c = record {
  played = plays_none (g.S.Source.remaining c.args.input.now) c.args.self.now.pending.items c.args.self.now.lines c.args.self.now.stage c.requires.pending c.requires.lines c.requires.begins;
  few = no_lines _ c.requires.lines;
  reads = sym (add-zero _);
  most = refl;
  piece = c.as_mut_slice-piece.ensures.len ∙ c.in_ok-buffer.ensures.len;
  input = refl;
  output = refl;
}

pub returns-in_err-count-clause-err : goal.returns-in_err-count-clause-err
returns-in_err-count-clause-err g c =
    let p = err_from_is_err_and c.from_residual-in_err-count.result c.from_residual-in_err-count.ensures.1 in
    rw (p.1, p.2) (device_ends (layers_in c.args.self.now.stage.core) (g.S.Source.remaining c.args.input.now) c.in_err-count.field-0.0)

pub returns-in_err-count-clause-stream : goal.returns-in_err-count-clause-stream
returns-in_err-count-clause-stream g c =
    let p = err_from_is_err_and c.from_residual-in_err-count.result c.from_residual-in_err-count.ensures.1 in
    rw (p.1, p.2) (input_stream (g.S.Source.failures c.read_some.new.input) (g.K.Sink.failures c.loop-read.output.sink) (g.S.Source.reads c.read_some.new.input) (g.S.Source.most c.read_some.new.input) c.in_err-count.field-0.0 c.in_err-count.ensures.err)

pub loop-read-preserved-in_default : goal.loop-read-preserved-in_default
loop-read-preserved-in_default g c =
    let invariant = c.loop-read.invariant in record {
      played = read_kept (layers_in c.args.self.now.stage.core) c.in_ok-count.field-0 (g.S.Source.remaining c.args.input.now) (g.S.Source.remaining c.loop-read.input) (g.S.Source.remaining c.read_some.new.input) c.read_some.new.piece c.loop-read.self.pending.items c.loop-read.self.lines c.loop-read.self.stage c.in_ok-count.ensures.ok c.in_default.not-Some invariant.played;
      few = more_reads _ _ invariant.few;
      reads = one_read _ _ _ _ c.in_ok-count.ensures.reads invariant.reads;
      most = c.read_some.ensures.most ∙ invariant.most;
      piece = c.read_some.auto.piece ∙ invariant.piece;
      input = c.in_ok-count.ensures.well ∙ invariant.input;
      output = invariant.output;
    }

pub end-requires : goal.end-requires
end-requires g c = room _ _ _ _ _ c.loop-read.invariant.few c.loop-read-test.true c.reads_left-read-end.ensures (g.met.S.Source.bounded c.args.input.now).1

pub returns-then-count-eq0-clause-ok : goal.returns-then-count-eq0-clause-ok
returns-then-count-eq0-clause-ok g c =
    let reads = rw c.in-Some.is at c.in_ok-count.ensures.ok in
    let whole = read_end (layers_in c.args.self.now.stage.core) (g.S.Source.remaining c.args.input.now) (g.S.Source.remaining c.loop-read.input) (g.S.Source.remaining c.read_some.new.input) c.read_some.new.piece c.loop-read.self.pending.items c.in-Some.count c.loop-read.self.lines c.loop-read.self.stage reads c.if-count-eq0.true c.loop-read.invariant.played in
    on_ok_weaker c.end.result (λ (plays : _). plays_whole (layers_in c.args.self.now.stage.core) (g.S.Source.remaining c.args.input.now) c.loop-read.self.pending.items c.loop-read.self.lines c.loop-read.self.stage c.end.new.self.stage plays whole) c.end.ensures.ok

pub returns-then-count-eq0-clause-err : goal.returns-then-count-eq0-clause-err
returns-then-count-eq0-clause-err g c =
    let reads = rw c.in-Some.is at c.in_ok-count.ensures.ok in
    let whole = read_end (layers_in c.args.self.now.stage.core) (g.S.Source.remaining c.args.input.now) (g.S.Source.remaining c.loop-read.input) (g.S.Source.remaining c.read_some.new.input) c.read_some.new.piece c.loop-read.self.pending.items c.in-Some.count c.loop-read.self.lines c.loop-read.self.stage reads c.if-count-eq0.true c.loop-read.invariant.played in
    IfErr-weaker c.end.result _ _ (λ fault h. plays_until_end (layers_in c.args.self.now.stage.core) (g.S.Source.remaining c.args.input.now) c.loop-read.self.pending.items c.loop-read.self.lines c.loop-read.self.stage fault h whole) c.end.ensures.err

pub returns-then-count-eq0-clause-stream : goal.returns-then-count-eq0-clause-stream
returns-then-count-eq0-clause-stream g c = output_stream (g.S.Source.failures c.read_some.new.input) (g.K.Sink.failures c.loop-read.output.sink) (g.K.Sink.failures c.end.new.output.sink) (g.S.Source.reads c.read_some.new.input) (g.S.Source.most c.read_some.new.input) c.end.result c.end.ensures.stream

pub returns-then-count-eq0-clause-well : goal.returns-then-count-eq0-clause-well
returns-then-count-eq0-clause-well g c = output_well (g.K.Sink.failures c.args.output.now.sink) (g.K.Sink.failures c.loop-read.output.sink) (g.K.Sink.failures c.end.new.output.sink) _ c.end.result (c.in_ok-count.ensures.well ∙ c.loop-read.invariant.input) c.loop-read.invariant.output c.end.ensures.stream

pub feed-requires : goal.feed-requires
feed-requires g c = room_for _ _ c.in-Some.count _ _ _ _ _ _ (length-take c.in-Some.count c.read_some.new.piece) c.read_some.auto.piece c.loop-read.invariant.piece c.loop-read.invariant.few c.loop-read-test.true c.reads_left-read-end.ensures (g.met.S.Source.bounded c.args.input.now).1

pub returns-in_err-feed-clause-err : goal.returns-in_err-feed-clause-err
returns-in_err-feed-clause-err g c =
    let reads = rw c.in-Some.is at c.in_ok-count.ensures.ok in
    let p = err_from_is_err_and c.from_residual-in_err-feed.result c.from_residual-in_err-feed.ensures.1 in
    rw (p.1, p.2) (read_until (layers_in c.args.self.now.stage.core) (g.S.Source.remaining c.args.input.now) (g.S.Source.remaining c.loop-read.input) (g.S.Source.remaining c.read_some.new.input) c.read_some.new.piece (take c.in-Some.count c.read_some.new.piece) c.loop-read.self.pending.items c.in-Some.count c.loop-read.self.lines c.loop-read.self.stage c.in_err-feed.field-0.0 reads refl c.in_err-feed.ensures.err c.loop-read.invariant.played)

pub returns-in_err-feed-clause-stream : goal.returns-in_err-feed-clause-stream
returns-in_err-feed-clause-stream g c =
    let p = err_from_is_err_and c.from_residual-in_err-feed.result c.from_residual-in_err-feed.ensures.1 in
    rw (p.1, p.2) (error_stream (Unit {0}) (g.S.Source.failures c.read_some.new.input) (g.K.Sink.failures c.loop-read.output.sink) (g.K.Sink.failures c.feed.new.output.sink) (g.S.Source.reads c.read_some.new.input) (g.S.Source.most c.read_some.new.input) c.in_err-feed.field-0.0 c.in_err-feed.ensures.stream)

pub returns-in_err-flush-clause-err : goal.returns-in_err-flush-clause-err
returns-in_err-flush-clause-err g c =
    let p = err_from_is_err_and c.from_residual-in_err-flush.result c.from_residual-in_err-flush.ensures.1 in
    rw (p.1, p.2) (device_ends (layers_in c.args.self.now.stage.core) (g.S.Source.remaining c.args.input.now) c.in_err-flush.field-0.0)

pub returns-in_err-flush-clause-stream : goal.returns-in_err-flush-clause-stream
returns-in_err-flush-clause-stream g c =
    let p = err_from_is_err_and c.from_residual-in_err-flush.result c.from_residual-in_err-flush.ensures.1 in
    rw (p.1, p.2) (mark_stream (g.S.Source.failures c.read_some.new.input) (g.K.Sink.failures c.feed.new.output.sink) (g.K.Sink.failures c.flush.new.self.sink) (g.S.Source.reads c.read_some.new.input) (g.S.Source.most c.read_some.new.input) c.in_err-flush.field-0.0 c.in_err-flush.ensures.mark)

pub loop-read-preserved : goal.loop-read-preserved
loop-read-preserved g c =
    let reads = rw c.in-Some.is at c.in_ok-count.ensures.ok in
    let invariant = c.loop-read.invariant in record {
      played = read_on (layers_in c.args.self.now.stage.core) (g.S.Source.remaining c.args.input.now) (g.S.Source.remaining c.loop-read.input) (g.S.Source.remaining c.read_some.new.input) c.read_some.new.piece (take c.in-Some.count c.read_some.new.piece) c.loop-read.self.pending.items c.feed.new.self.pending.items c.in-Some.count c.loop-read.self.lines c.feed.new.self.lines c.loop-read.self.stage c.feed.new.self.stage reads refl c.in_ok-feed.ensures.ok invariant.played;
      few = more_lines _ _ _ c.in-Some.count _ _ _ c.in_ok-feed.ensures.lines (length-take c.in-Some.count c.read_some.new.piece) c.read_some.auto.piece invariant.piece invariant.few;
      reads = one_read _ _ _ _ c.in_ok-count.ensures.reads invariant.reads;
      most = c.read_some.ensures.most ∙ invariant.most;
      piece = c.read_some.auto.piece ∙ invariant.piece;
      input = c.in_ok-count.ensures.well ∙ invariant.input;
      output = c.in_ok-flush.ensures.mark ∙ c.in_ok-feed.ensures.stream ∙ invariant.output;
    }

pub returns-clause-err : goal.returns-clause-err
returns-clause-err g c = device_ends (layers_in c.args.self.now.stage.core) (g.S.Source.remaining c.args.input.now) Stream

pub returns-clause-stream : goal.returns-clause-stream
returns-clause-stream g c = inr (inl (none_left _ _ _ _ _ _ c.loop-read.invariant.reads c.loop-read-test.false c.reads_left-read-end.ensures (g.met.S.Source.bounded c.loop-read.input).0 c.loop-read.invariant.most))
