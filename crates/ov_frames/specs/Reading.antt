-- HOW A CLIENT READS THE REPLY to a request that it made. The frame of a reply doesn't tell which
-- call
-- it answers: its reader knows, as replies come in the order of the requests.
use Rattle.std.specs.Prelude.{◌≡◌, ℕ, ◌<◌, ◌≤◌, ◌^◌, FitsSigned, List, [], ◌∷◌, length, Option, Some, None, Result, Ok, Err, nat_eq, nat_lt, if◌then◌else◌}
use Rattle.std.specs.Int.{w32}
use Rattle.std.specs.List.{AllByRecursion}
use Rattle.ov_base.specs.declared.call.CallOf.TheVariants as call
use Rattle.ov_base.specs.declared.notice.Notice.{Notice}
use Rattle.ov_base.specs.declared.reply.Reply.{Reply}
use Rattle.ov_base.specs.declared.reply.Reply.TheVariants as reply
use Rattle.ov_base.specs.declared.reply.Stat.{Stat}
use Rattle.ov_frames.specs.Fields.{◌>>=◌, ◌then◌, signed, text, block, nothing}
use Rattle.ov_frames.specs.Replies.{answer_body}
use Rattle.ov_frames.specs.Requests.{u32, u64, made}
use Rattle.ov_frames.specs.Streams.{FRAME_MAX}
use Rattle.ov_frames.specs.Values.{errno_byte, listed, notice, stat}
use Rattle.ov_frames.specs.declared.answer.Answer.{Answer}
use Rattle.ov_frames.specs.declared.answer.Answer.TheVariants.{Replied, NotTaken}
use Rattle.ov_frames.specs.declared.fault.FrameFault.{FrameFault}
use Rattle.ov_frames.specs.declared.fault.FrameFault.TheVariants.{BadLength, BadFields}
use Rattle.ov_frames.specs.declared.request.Request.{Request}
use Rattle.ov_frames.specs.declared.request.Request.TheVariants.{Call}

-- what the calls answer
pub data Kind : Type 0 where
  OfNothing : Kind
  OfStatus : Kind
  OfTarget : Kind
  OfValue : Kind
  OfBytes : Kind
  OfDescriptor : Kind
  OfWritten : Kind
  OfPlace : Kind
  OfNames : Kind
  OfAttributeNames : Kind
  OfWatch : Kind
  OfNotices : Kind

abbrev pub kind_for : Request → Kind
kind_for (Call (call.Stat p)) = OfStatus
kind_for (Call (call.Readlink p)) = OfTarget
kind_for (Call (call.GetAttribute p name)) = OfValue
kind_for (Call (call.ListAttributes p)) = OfAttributeNames
kind_for (Call (call.Open p flags mode)) = OfDescriptor
kind_for (Call (call.Read fd n)) = OfBytes
kind_for (Call (call.Write fd bytes)) = OfWritten
kind_for (Call (call.Seek fd offset whence)) = OfPlace
kind_for (Call (call.Fstat fd)) = OfStatus
kind_for (Call (call.ListNames fd n)) = OfNames
kind_for (Call (call.Arm slot p mask)) = OfWatch
kind_for (Call (call.TakeNotices n)) = OfNotices
kind_for r = OfNothing

-- the answer of a call that was made: all of the bytes behind its place
abbrev pub reply_read : Kind → List ℕ → Result Reply FrameFault
reply_read OfNothing bytes = made nothing (λ _. reply.Done) bytes
reply_read OfStatus bytes = made stat reply.Status bytes
reply_read OfTarget bytes = made text reply.Target bytes
reply_read OfValue bytes = made text reply.Value bytes
reply_read OfBytes bytes = made block reply.Read bytes
reply_read OfDescriptor bytes = made u32 reply.Descriptor bytes
reply_read OfWritten bytes = made u32 reply.Written bytes
reply_read OfPlace bytes = made u64 reply.Place bytes
reply_read OfNames bytes = made (listed text) reply.Names bytes
reply_read OfAttributeNames bytes = made (listed text) reply.AttributeNames bytes
reply_read OfWatch bytes = made (signed w32) reply.Watch bytes
reply_read OfNotices bytes = made (listed notice) reply.Unread bytes

-- status 0 has a place and the call's answer, 1 a place and an error number, 2 an error number
unfoldable pub by_status : Kind → ℕ → List ℕ → Result Answer FrameFault
by_status kind status bytes =
    if nat_eq status 0 then (do
      place ← u64.read bytes
      answered ← reply_read kind place.1
      Ok (Replied place.0 answered))
    else (if nat_eq status 1 then made (u64 then errno_byte) (λ x. Replied x.0 (reply.Refused x.1)) bytes
    else (if nat_eq status 2 then made errno_byte NotTaken bytes
    else Err BadFields))

-- what stands behind a reply's length
abbrev pub answer_read : Kind → List ℕ → Result Answer FrameFault
answer_read kind [] = Err BadLength
answer_read kind (status ∷ bytes) = by_status kind status bytes

abbrev pub within_frame : Kind → List ℕ → Result Answer FrameFault
within_frame kind bytes =
    if nat_lt FRAME_MAX (length bytes) then Err BadLength else answer_read kind bytes

-- THE REPLY AT THE FRONT of the bytes that a client was sent, and the bytes after its frame
abbrev pub reply_front : Request → List ℕ → Result (Answer × List ℕ) FrameFault
reply_front request bytes = do
  frame ← block.read bytes
  answer ← within_frame (kind_for request) frame.0
  Ok (answer, frame.1)

-- ---- what has a frame: a reply of the request's kind whose values their fields hold

abbrev pub kind_of : Reply → Kind
kind_of (reply.Refused errno) = OfNothing
kind_of reply.Done = OfNothing
kind_of (reply.Status status) = OfStatus
kind_of (reply.Target bytes) = OfTarget
kind_of (reply.Value bytes) = OfValue
kind_of (reply.Read bytes) = OfBytes
kind_of (reply.Names names) = OfNames
kind_of (reply.AttributeNames names) = OfAttributeNames
kind_of (reply.Descriptor n) = OfDescriptor
kind_of (reply.Written n) = OfWritten
kind_of (reply.Place place) = OfPlace
kind_of (reply.Watch watch) = OfWatch
kind_of (reply.Unread notices) = OfNotices

-- each call may be refused, or not taken
abbrev pub IsOfKind : Kind → Answer → Type 0
IsOfKind kind (Replied place (reply.Refused errno)) = Unit {0}
IsOfKind kind (Replied place answered) = kind_of answered ≡ kind
IsOfKind kind (NotTaken errno) = Unit {0}

-- each value fits its field
abbrev pub StatFits : Stat → Type 0
StatFits s =
    (s.mode < 2 ^ 32) × ((s.uid < 2 ^ 32) × ((s.gid < 2 ^ 32)
    × ((s.size < 2 ^ 64) × (s.links < 2 ^ 32))))

abbrev pub TextFits : List ℕ → Type 0
TextFits bytes = length bytes < 2 ^ 16

-- a name that is there has a byte
abbrev pub NameFits : Option (List ℕ) → Type 0
NameFits None = Unit {0}
NameFits (Some name) = (0 < length name) × TextFits name

abbrev pub NoticeFits : Notice → Type 0
NoticeFits n =
    FitsSigned w32 n.watch × ((n.mask < 2 ^ 32) × ((n.cookie < 2 ^ 32) × NameFits n.name))

abbrev pub ListFits : {A : Type 0} → (A → Type 0) → List A → Type 0
ListFits fits xs = (length xs < 2 ^ 16) × AllByRecursion fits xs

abbrev pub ReplyFits : Reply → Type 0
ReplyFits (reply.Refused errno) = Unit {0}
ReplyFits reply.Done = Unit {0}
ReplyFits (reply.Status status) = StatFits status
ReplyFits (reply.Target bytes) = TextFits bytes
ReplyFits (reply.Value bytes) = TextFits bytes
ReplyFits (reply.Read bytes) = length bytes < 2 ^ 32
ReplyFits (reply.Names names) = ListFits TextFits names
ReplyFits (reply.AttributeNames names) = ListFits TextFits names
ReplyFits (reply.Descriptor n) = n < 2 ^ 32
ReplyFits (reply.Written n) = n < 2 ^ 32
ReplyFits (reply.Place place) = place < 2 ^ 64
ReplyFits (reply.Watch watch) = FitsSigned w32 watch
ReplyFits (reply.Unread notices) = ListFits NoticeFits notices

abbrev pub AnswerFits : Answer → Type 0
AnswerFits (Replied place answered) = (place < 2 ^ 64) × ReplyFits answered
AnswerFits (NotTaken errno) = Unit {0}

-- there is a frame of the answer to the request
pub record IsReplyTo (request : Request) (answer : Answer) : Type 0 where
  pub kind : IsOfKind (kind_for request) answer
  pub fits : AnswerFits answer
  pub short : length (answer_body answer) ≤ FRAME_MAX
