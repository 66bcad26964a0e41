-- What a seek does on a handle on a directory (POSIX.1-2017, lseek() and rewinddir()).
use Rattle.std.specs.Prelude.{◌≡◌, ℕ, ℤ, pos, true, not, ◌&&◌, nat_abs, nat_eq, None, Some}
use Rattle.ov_base.specs.declared.call.CallOf.TheVariants as call
use Rattle.ov_base.specs.declared.errno.Errno.TheVariants as errno
use Rattle.ov_base.specs.declared.reply.Reply.TheVariants as reply
use Rattle.plain_model.specs.Tree.{is_folder}
use Rattle.plain_model.specs.Machine.{Handle, State, handle_of}
use Rattle.plain_model.specs.Refusals.{when, refusal}
use Rattle.plain_model.specs.Changes.{with_handle, after}
use Rattle.plain_model.specs.Replies.{reply_of}

-- A handle on a directory goes to its start alone. It keeps no listing then, so that the next one is made anew; all else stays.
pub record Seeks (s : State) (c fd : ℕ) (h : Handle) : Type 0 where
  pub refused : (offset : ℤ) (whence : ℕ) → refusal s c (call.Seek fd offset whence) ≡ when (not (nat_eq (nat_abs offset) 0 && nat_eq whence 0)) errno.EINVAL
  pub answer : reply_of s c (call.Seek fd (pos 0) 0) ≡ reply.Place 0
  pub state : after s c (call.Seek fd (pos 0) 0) ≡ record s { tables = with_handle s.tables c fd (Some (record h { place = 0; listed = None })) }

abbrev pub LawOfSeek : Type 0
LawOfSeek = (s : State) (c fd : ℕ) (h : Handle) → handle_of s.tables c fd ≡ Some h → is_folder (s.tree h.node) ≡ true → Seeks s c fd h
