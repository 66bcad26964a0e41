use Rattle.std.proofs.Common.{◌≡◌, ◌+◌, ◌-◌, ◌<◌, ◌≤◌, ℕ, List, [], length, take, drop, drop-drop, arith, length-drop, length-take, refl, sym, ap, subst, ◌∙◌}
use Rattle.std.proofs.lemmas.List.{nil_from_length}
use Rattle.std.proofs.lemmas.Slice.{between_is}
use borrow.Rule.Slice.PartMut.{put_mid}
use Rattle.ov_frames.proofs.Pieces.{held_short}
use Rattle.ov_frames.specs.Streams.{Held, Spells}
use Rattle.ov_session.specs.Talks.{place}
use Rattle.ov_session.proofs.Conversation.{ended_between, ended_inside, input_at, input_ended, input_well, nothing_spelled, read_ended, read_unwritten, so_far_more, so_far_nothing, so_far_same, turn_ends, turn_no_read}
use Rattle.ov_session.proofs.Talking.{Doorway, counted_at, ending_empty}
use Rattle.ov_session.proofs.Turning.{filled, filled_long}
use Rattle.ov_session.proofs.session.pieces_of.Goals as goal

pub pieces-init : goal.pieces-init
pieces-init g c =
    let remaining = g.S.Source.remaining in
    let contents = g.K.Sink.contents in
    let failures = g.K.Sink.failures in
    let told = g.D.Door.told in
    let laws : Doorway g.D.Door.goes = record {
      stays = g.met.D.Door.stays;
      joins = g.met.D.Door.joins;
    } in
    let o = place contents failures told c.args.output.now c.args.session.now c.args.door.now in
    record {
      so_far =
          so_far_nothing g.D.Door.goes (remaining c.args.input.now) o (Held []) laws
          nothing_spelled;
      near = omega arith;
      within = omega arith;
      room = c.requires.room;
      input = refl;
      reads = omega arith;
      most = refl;
      well = refl;
      held = c.requires.held;
      admitted = c.requires.admitted;
    }

pub read_piece-requires : goal.read_piece-requires
read_piece-requires g c =
    let loop = c.pieces in
    let is = loop.invariant in
    let bytes = loop.bytes in
    let start = loop.start in
    let end = loop.end in
    let short : length (drop start (take end bytes)) < 70004 =
    held_short is.so_far.taken is.so_far.requests (drop start (take end bytes))
    is.so_far.spelled in
    record {
      room = omega (
        arith,
        short,
        length-drop start (take end bytes),
        length-take end bytes,
        length-take (length bytes - end) (drop end bytes),
        length-drop end bytes,
        is.room,
        is.near,
        is.within,
      );
    }

pub returns-in-Err : goal.returns-in-Err
returns-in-Err g c =
    let remaining = g.S.Source.remaining in
    let contents = g.K.Sink.contents in
    let failures = g.K.Sink.failures in
    let told = g.D.Door.told in
    let loop = c.pieces in
    let is = loop.invariant in
    let read = c.read_piece.new.input in
    let end = c.in-Err.ending in
    let o = place contents failures told c.args.output.now c.args.session.now c.args.door.now in
    let n = place contents failures told loop.output loop.session loop.door in
    let before = g.S.Source.failures c.args.input.now in
    let most = g.S.Source.most c.args.input.now in
    let ended =
    input_ended before (g.S.Source.failures loop.input) (g.S.Source.failures read)
    (g.S.Source.reads read) (g.S.Source.most loop.input) most end is.input is.most
    c.in-Err.ensures.end in
    record {
      talk = record {
        conversed =
            read_ended g.D.Door.goes (remaining c.args.input.now) (remaining loop.input)
            (remaining read) o n (Held (drop loop.start (take loop.end loop.bytes))) before
            (g.S.Source.failures read) (g.S.Source.reads read) most end is.so_far refl
            c.in-Err.ensures.kept ended;
        handed_on = ending_empty end n.held is.held;
        output =
            read_unwritten before (g.S.Source.failures read) (g.S.Source.reads read) most
            o.failures n.failures end ended is.well;
        admitted = is.admitted;
      };
      input = input_at before (g.S.Source.failures read) (g.S.Source.reads read) most end ended;
      reads = omega (arith, is.reads, c.read_piece.ensures.reads);
      most = c.read_piece.ensures.most ∙ is.most;
    }

pub returns-then-start-end : goal.returns-then-start-end
returns-then-start-end g c =
    let remaining = g.S.Source.remaining in
    let contents = g.K.Sink.contents in
    let failures = g.K.Sink.failures in
    let told = g.D.Door.told in
    let loop = c.pieces in
    let is = loop.invariant in
    let read = c.read_piece.new.input in
    let i = remaining c.args.input.now in
    let k = remaining read in
    let o = place contents failures told c.args.output.now c.args.session.now c.args.door.now in
    let n = place contents failures told loop.output loop.session loop.door in
    let all = take loop.end loop.bytes in
    let begun = drop loop.start all in
    let h = c.in-Ok.ensures.ok in
    let last = take c.in-Ok.count c.read_piece.new.piece in
    let none : last ≡ [] = ap (λ (m : ℕ). take m c.read_piece.new.piece) c.if-count-eq0.true in
    let none_long : length begun ≡ 0 =
    omega (
      arith,
      c.if-start-end.true,
      length-drop loop.start all,
      length-take loop.end loop.bytes,
    ) in
    let empty : begun ≡ [] = nil_from_length begun none_long in
    let s =
    so_far_same g.D.Door.goes i (remaining loop.input) k o n (Held begun) last is.so_far
    h.1 none in
    record {
      talk = record {
        conversed = ended_between g.D.Door.goes i k o n begun empty s (h.2 c.if-count-eq0.true);
        handed_on = is.held;
        output = is.well;
        admitted = is.admitted;
      };
      input = c.in-Ok.ensures.well ∙ is.input;
      reads = omega (arith, is.reads, c.read_piece.ensures.reads);
      most = c.read_piece.ensures.most ∙ is.most;
    }

pub returns-then-count-eq0 : goal.returns-then-count-eq0
returns-then-count-eq0 g c =
    let remaining = g.S.Source.remaining in
    let contents = g.K.Sink.contents in
    let failures = g.K.Sink.failures in
    let told = g.D.Door.told in
    let loop = c.pieces in
    let is = loop.invariant in
    let read = c.read_piece.new.input in
    let i = remaining c.args.input.now in
    let k = remaining read in
    let o = place contents failures told c.args.output.now c.args.session.now c.args.door.now in
    let n = place contents failures told loop.output loop.session loop.door in
    let all = take loop.end loop.bytes in
    let begun = drop loop.start all in
    let h = c.in-Ok.ensures.ok in
    let last = take c.in-Ok.count c.read_piece.new.piece in
    let none : last ≡ [] = ap (λ (m : ℕ). take m c.read_piece.new.piece) c.if-count-eq0.true in
    let some : begun ≡ [] → ⊥ =
    λ (e : begun ≡ []).
    let none_long : length begun ≡ 0 = ap (λ (l : List ℕ). length l) e in
    c.if-start-end.false (omega (
      arith,
      none_long,
      length-drop loop.start all,
      length-take loop.end loop.bytes,
      is.near,
      is.within,
    )) in
    let s =
    so_far_same g.D.Door.goes i (remaining loop.input) k o n (Held begun) last is.so_far
    h.1 none in
    record {
      talk = record {
        conversed = ended_inside g.D.Door.goes i k o n begun some s (h.2 c.if-count-eq0.true);
        handed_on = is.held;
        output = is.well;
        admitted = is.admitted;
      };
      input = c.in-Ok.ensures.well ∙ is.input;
      reads = omega (arith, is.reads, c.read_piece.ensures.reads);
      most = c.read_piece.ensures.most ∙ is.most;
    }

pub shape_of-bytes-in-Err : goal.shape_of-bytes-in-Err
shape_of-bytes-in-Err g c =
    let loop = c.pieces in
    filled_long loop.bytes c.read_piece.new.piece loop.end (length loop.bytes - loop.end)
    c.in-Err.ensures.room ∙ loop.invariant.room ∙ sym c.requires.room

pub shape_of-bytes-then-start-end : goal.shape_of-bytes-then-start-end
shape_of-bytes-then-start-end g c =
    let loop = c.pieces in
    filled_long loop.bytes c.read_piece.new.piece loop.end (length loop.bytes - loop.end)
    c.in-Ok.ensures.room ∙ loop.invariant.room ∙ sym c.requires.room

pub shape_of-bytes-then-count-eq0 : goal.shape_of-bytes-then-count-eq0
shape_of-bytes-then-count-eq0 g c =
    let loop = c.pieces in
    filled_long loop.bytes c.read_piece.new.piece loop.end (length loop.bytes - loop.end)
    c.in-Ok.ensures.room ∙ loop.invariant.room ∙ sym c.requires.room

pub shape_of-bytes-in-Err-take_piece : goal.shape_of-bytes-in-Err-take_piece
shape_of-bytes-in-Err-take_piece g c =
    let loop = c.pieces in
    filled_long loop.bytes c.read_piece.new.piece loop.end (length loop.bytes - loop.end)
    c.in-Ok.ensures.room ∙ loop.invariant.room ∙ sym c.requires.room

pub overflow_add-filled : goal.overflow_add-filled
overflow_add-filled g c =
    let loop = c.pieces in
    let is = loop.invariant in
    let bytes = loop.bytes in
    let end = loop.end in
    omega (
      arith,
      c.in-Ok.ensures.ok.0,
      c.in-Ok.ensures.room,
      length-take (length bytes - end) (drop end bytes),
      length-drop end bytes,
      is.room,
      is.within,
    )

-- the begun frame of all that was there stands where it was settled
stands_so : (all bytes new : List ℕ) (start used filled first last : ℕ)
    → all ≡ take (filled - start) (drop start bytes)
    → drop first (take last new) ≡ drop (start + used) (take filled bytes)
    → drop used all ≡ drop first (take last new)
stands_so all bytes new start used filled first last is moved =
    ap (λ (l : List ℕ). drop used l) (is ∙ between_is bytes start filled)
    ∙ drop-drop used start (take filled bytes) ∙ sym moved

-- a front of all that is there ends within it
ends_within : (bytes : List ℕ) (start used filled : ℕ) → start ≤ filled → filled ≤ length bytes
    → used ≤ length (take (filled - start) (drop start bytes)) → start + used ≤ filled
ends_within bytes start used filled ordered within h =
    omega (
      arith,
      h,
      length-take (filled - start) (drop start bytes),
      length-drop start bytes,
    )

pub overflow_add-start : goal.overflow_add-start
overflow_add-start g c =
    let loop = c.pieces in
    let is = loop.invariant in
    let bytes = loop.bytes in
    let end = loop.end in
    let piece = c.read_piece.new.piece in
    let room = put_mid end (length bytes - end) bytes piece in
    let long : length room ≡ length bytes =
    filled_long bytes piece end (length bytes - end) c.in-Ok.ensures.room in
    let few : c.in-Ok.count ≤ length bytes - end =
    omega (
      arith,
      c.in-Ok.ensures.ok.0,
      c.in-Ok.ensures.room,
      length-take (length bytes - end) (drop end bytes),
      length-drop end bytes,
    ) in
    let last =
    ends_within room loop.start c.in-Ok-take_piece.used (end + c.in-Ok.count)
    (omega (arith, is.near)) (omega (arith, long, few, is.within))
    c.in-Ok-take_piece.ensures.serves.turn.0 in
    omega (arith, last, few, is.within, is.room)

pub settled-span-requires : goal.settled-span-requires
settled-span-requires g c =
    let loop = c.pieces in
    let is = loop.invariant in
    let bytes = loop.bytes in
    let end = loop.end in
    let piece = c.read_piece.new.piece in
    let room = put_mid end (length bytes - end) bytes piece in
    let long : length room ≡ length bytes =
    filled_long bytes piece end (length bytes - end) c.in-Ok.ensures.room in
    let few : c.in-Ok.count ≤ length bytes - end =
    omega (
      arith,
      c.in-Ok.ensures.ok.0,
      c.in-Ok.ensures.room,
      length-take (length bytes - end) (drop end bytes),
      length-drop end bytes,
    ) in
    let fits : end + c.in-Ok.count ≤ length room = omega (arith, long, few, is.within) in
    record {
      within = (
        ends_within room loop.start c.in-Ok-take_piece.used (end + c.in-Ok.count)
            (omega (arith, is.near)) fits c.in-Ok-take_piece.ensures.serves.turn.0,
        fits,
      );
    }

pub pieces-preserved : goal.pieces-preserved
pieces-preserved g c =
    let remaining = g.S.Source.remaining in
    let contents = g.K.Sink.contents in
    let failures = g.K.Sink.failures in
    let told = g.D.Door.told in
    let laws : Doorway g.D.Door.goes = record {
      stays = g.met.D.Door.stays;
      joins = g.met.D.Door.joins;
    } in
    let loop = c.pieces in
    let is = loop.invariant in
    let next = c.take_piece.new in
    let o = place contents failures told c.args.output.now c.args.session.now c.args.door.now in
    let m = place contents failures told loop.output loop.session loop.door in
    let n = place contents failures told next.output next.session next.door in
    let bytes = loop.bytes in
    let start = loop.start in
    let end = loop.end in
    let piece = c.read_piece.new.piece in
    let count = c.in-Ok.count in
    let used = c.in-Ok-take_piece.used in
    let span = c.settled-span.result in
    let new = c.settled-span.new.bytes in
    let h = c.in-Ok-take_piece.ensures in
    let t = h.serves.turn in
    let room = put_mid end (length bytes - end) bytes piece in
    let all = take (end + count - start) (drop start room) in
    let left = Held (drop span.start (take span.end new)) in
    let long : length room ≡ length bytes =
    filled_long bytes piece end (length bytes - end) c.in-Ok.ensures.room in
    let same = filled bytes piece start end (length bytes - end) count (omega (arith, is.near))
    is.within c.in-Ok.ensures.ok.0 in
    let spelled : Spells all t.1.0 left =
    subst (λ (l : List ℕ). Spells all t.1.0 (Held l))
    (stands_so all room new start used (end + count) span.start span.end refl
    c.settled-span.ensures.same) t.1.1 in
    record {
      so_far =
          so_far_more g.D.Door.goes (remaining c.args.input.now)
          (remaining loop.input) (remaining c.read_piece.new.input) o m n
          (Held (drop start (take end bytes))) left (take count piece) t.1.0 laws
          is.so_far c.in-Ok.ensures.ok.1
          (subst (λ (bs : List ℕ). Spells bs t.1.0 left) same spelled) t.1.2;
      near = c.settled-span.ensures.near;
      within = c.settled-span.ensures.within;
      room = omega (arith, c.settled-span.ensures.room, long, is.room);
      input = c.in-Ok.ensures.well ∙ is.input;
      reads = omega (arith, is.reads, c.read_piece.ensures.reads);
      most = c.read_piece.ensures.most ∙ is.most;
      well = h.serves.output ∙ is.well;
      held = h.handed_on;
      admitted = h.serves.admitted;
    }

pub returns-in-Err-take_piece : goal.returns-in-Err-take_piece
returns-in-Err-take_piece g c =
    let remaining = g.S.Source.remaining in
    let contents = g.K.Sink.contents in
    let failures = g.K.Sink.failures in
    let told = g.D.Door.told in
    let laws : Doorway g.D.Door.goes = record {
      stays = g.met.D.Door.stays;
      joins = g.met.D.Door.joins;
    } in
    let loop = c.pieces in
    let is = loop.invariant in
    let read = c.read_piece.new.input in
    let next = c.take_piece.new in
    let end = c.in-Err-take_piece.ending in
    let o = place contents failures told c.args.output.now c.args.session.now c.args.door.now in
    let m = place contents failures told loop.output loop.session loop.door in
    let n = place contents failures told next.output next.session next.door in
    let bytes = loop.bytes in
    let piece = c.read_piece.new.piece in
    let count = c.in-Ok.count in
    let h = c.in-Err-take_piece.ensures in
    let same = filled bytes piece loop.start loop.end (length bytes - loop.end) count
    (omega (arith, is.near)) is.within c.in-Ok.ensures.ok.0 in
    record {
      talk = record {
        conversed =
            turn_ends g.D.Door.goes (remaining c.args.input.now) (remaining loop.input)
            (remaining read) o m n (drop loop.start (take loop.end bytes)) (take count piece)
            _ end laws same is.so_far c.in-Ok.ensures.ok.1 h.serves.turn;
        handed_on = h.handed_on;
        output =
            counted_at o.failures m.failures n.failures end is.well h.serves.output;
        admitted = h.serves.admitted;
      };
      input =
          input_well (g.S.Source.failures c.args.input.now) (g.S.Source.failures read)
          (g.S.Source.reads read) (g.S.Source.most c.args.input.now) end
          (c.in-Ok.ensures.well ∙ is.input)
          (turn_no_read g.D.Door.goes _ m n end h.serves.turn);
      reads = omega (arith, is.reads, c.read_piece.ensures.reads);
      most = c.read_piece.ensures.most ∙ is.most;
    }
