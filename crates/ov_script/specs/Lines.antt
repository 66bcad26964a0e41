-- The lines that answer calls.
use Rattle.std.specs.Prelude.{ℕ, ◌-◌, ◌^◌, false, List, [], ◌∷◌, ◌++◌, Option, Some, None, codes}
use Rattle.std.specs.List.{flat_map}
use Rattle.std.specs.Fmt.{decimal, signed_decimal, digits, padded_integral, format_spec}
use Rattle.ov_base.specs.Errnos.{text_of}
use Rattle.ov_base.specs.declared.notice.Notice.{Notice}
use Rattle.ov_base.specs.declared.reply.ObjectKind.{ObjectKind}
use Rattle.ov_base.specs.declared.reply.ObjectKind.TheVariants.{Directory, File, SymbolicLink}
use Rattle.ov_base.specs.declared.reply.Stat.{Stat}
use Rattle.ov_base.specs.declared.reply.Reply.{Reply}
use Rattle.ov_base.specs.declared.reply.Reply.TheVariants.{Refused, Done, Status, Target, Value, Read, Names, AttributeNames, Descriptor, Written, Place, Watch, Unread}
use Rattle.ov_script.specs.Escapes.{escaped_of}

-- the letter of a kind
abbrev pub kind_letter : ObjectKind → ℕ
kind_letter Directory = 100
kind_letter File = 102
kind_letter SymbolicLink = 108

-- a number in a base, of at least so many digits
abbrev pub padded : ℕ → ℕ → ℕ → List ℕ
padded base width n = padded_integral (format_spec 32 0 4 width (2 ^ 64 - 1)) false [] (digits base false n)

-- kind, mode, owner, group, size and links
abbrev pub stat_words : Stat → List ℕ
stat_words s =
    kind_letter s.kind ∷ 32 ∷ padded 8 4 s.mode ++ 32 ∷ decimal s.uid ++ 32 ∷ decimal s.gid ++ 32 ∷ decimal s.size ++ 32 ∷ decimal s.links

-- one more word of bytes
abbrev pub word_after : List ℕ → List ℕ
word_after bytes = 32 ∷ escaped_of bytes

-- the name of a notice; none is as no bytes
abbrev pub notice_name : Option (List ℕ) → List ℕ
notice_name None = escaped_of []
notice_name (Some name) = escaped_of name

-- the word of a notice: its watch, mask, cookie and name
abbrev pub notice_word : Notice → List ℕ
notice_word n = signed_decimal n.watch ++ 58 ∷ padded 16 8 n.mask ++ 58 ∷ decimal n.cookie ++ 58 ∷ notice_name n.name

-- one more word of a notice
abbrev pub notice_after : Notice → List ℕ
notice_after n = 32 ∷ notice_word n

-- the words of an answer, each after a space
abbrev pub answer_words : Reply → List ℕ
answer_words (Refused errno) = []
answer_words Done = []
answer_words (Status status) = 32 ∷ stat_words status
answer_words (Target bytes) = word_after bytes
answer_words (Value bytes) = word_after bytes
answer_words (Read bytes) = word_after bytes
answer_words (Names names) = flat_map word_after names
answer_words (AttributeNames names) = flat_map word_after names
answer_words (Descriptor number) = 32 ∷ decimal number
answer_words (Written count) = 32 ∷ decimal count
answer_words (Place place) = 32 ∷ decimal place
answer_words (Watch number) = 32 ∷ signed_decimal number
answer_words (Unread notices) = flat_map notice_after notices

-- what follows the client's number: the refusal, or `ok` and the answer
abbrev pub outcome_words : Reply → List ℕ
outcome_words (Refused errno) = text_of errno
outcome_words reply = codes "ok" ++ answer_words reply

-- the line that answers a call, without its line break
abbrev pub reply_line : ℕ → Reply → List ℕ
reply_line client reply = decimal client ++ 32 ∷ outcome_words reply
