-- A read into some room.
use Rattle.std.specs.Prelude.{◌≡◌, ℕ, ◌≤◌, List, Ok, Err, Result, drop, length, take}
use Rattle.ov_base.specs.declared.errno.Errno.{Errno}
use Rattle.ov_base.specs.declared.reply.Reply.{Reply}
use Rattle.ov_base.specs.declared.reply.Reply.TheVariants as reply

-- the reply of a read that left this room, with so many bytes at its start
abbrev pub read_reply : Result ℕ Errno → List ℕ → Reply
read_reply (Ok n) room = reply.Read (take n room)
read_reply (Err e) room = reply.Refused e

-- the room is as it was behind them, and all of it where the read is refused
abbrev pub KeepsRoom : Result ℕ Errno → List ℕ → List ℕ → Type 0
KeepsRoom (Ok n) old new =
    (n ≤ length old) × (length new ≡ length old) × (drop n new ≡ drop n old)
KeepsRoom (Err e) old new = new ≡ old
