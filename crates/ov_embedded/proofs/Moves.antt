-- Bytes that are moved without frames.
use Rattle.std.proofs.Common.{◌≡◌, ◌≤◌, ℕ, zero, suc, List, [], ◌∷◌, ◌++◌, drop, length, take, Some, Result, Ok, Err, inl, inr, refl, sym, ap, ◌∙◌, subst, arith}
use Rattle.std.proofs.lemmas.List.{append_assoc, length-take-le, take-append-drop, take_all}
use Rattle.mount_calls.specs.Reading.{KeepsRoom}
use Rattle.ov_base.specs.declared.call.CallOf.TheVariants as call
use Rattle.ov_base.specs.declared.errno.Errno.{Errno}
use Rattle.ov_base.specs.declared.reply.Reply.TheVariants as reply
use Rattle.ov_frames.specs.declared.answer.Answer.{Answer}
use Rattle.ov_frames.specs.declared.answer.Answer.TheVariants.{Replied}
use Rattle.ov_session.specs.declared.exchange.Exchange.TheVariants.{Called}
use Rattle.ov_embedded.specs.Calling.{Makes}
use Rattle.ov_embedded.specs.Jobs.{KeepsRest}
use Rattle.ov_embedded.specs.Moving.{IsBarred, ReadsOff, TellsWritten, WritesOff, moved}
use Rattle.ov_embedded.specs.declared.mounted.Mounted.{Mounted}
use Rattle.ov_embedded.specs.declared.outcome.Outcome.{Outcome}
use Rattle.ov_embedded.specs.declared.outcome.Outcome.TheVariants as outcome

-- no call is made
pub reads_nothing : (client descriptor : ℕ) (room : List ℕ) (m : Mounted) (why : Outcome) →
    IsBarred client m (Some why) → ReadsOff client descriptor room room m m (Err why)
reads_nothing client descriptor room m why barred = inl (why, barred, refl, refl, refl)

pub writes_nothing : (client descriptor : ℕ) (bytes : List ℕ) (m : Mounted) (why : Outcome) →
    IsBarred client m (Some why) → WritesOff client descriptor bytes m m (Err why)
writes_nothing client descriptor bytes m why barred = inl (why, inl barred, refl, refl)

pub writes_short : (client descriptor : ℕ) (bytes : List ℕ) (m : Mounted) →
    WritesOff client descriptor bytes m m (Err outcome.NoMemory)
writes_short client descriptor bytes m = inl (outcome.NoMemory, inr refl, refl, refl)

-- what a read into the front of some room leaves behind it
behind_front : (n m : ℕ) (l : List ℕ) → n ≤ m → drop n (take m l) ++ drop m l ≡ drop n l
behind_front zero m l h = take-append-drop m l
behind_front (suc n) zero l h = absurd (omega (arith, h))
behind_front (suc n) (suc m) [] h = refl
behind_front (suc n) (suc m) (x ∷ l) h = behind_front n m l (omega (arith, h))

module _ (client descriptor : ℕ) (before after front : List ℕ) (m place : ℕ) (old new : Mounted)
    (most : m ≡ moved (length before)) (fits : m ≤ length before) (rest : KeepsRest old new)
    (is : after ≡ front ++ drop m before) where
  -- the call as one for as many bytes as the front has
  asked : (answer : Answer) →
      Makes client old.core (Called (call.Read descriptor (length (take m before))) answer ∷ [])
      new.core →
      Makes client old.core (Called (call.Read descriptor (moved (length before))) answer ∷ [])
      new.core
  asked answer made =
      subst (λ k. Makes client old.core (Called (call.Read descriptor k) answer ∷ []) new.core)
      (length-take-le m before fits ∙ most) made

  -- a read into it leaves the room with what was read
  pub reads_front : (n : ℕ) → KeepsRoom (Ok n) (take m before) front →
      Makes client old.core
      (Called (call.Read descriptor (length (take m before)))
      (Replied place (reply.Read (take n front))) ∷ []) new.core →
      ReadsOff client descriptor before after old new (Ok n)
  reads_front n keeps made =
      let size : length (take m before) ≡ m = length-take-le m before fits in
      let within : n ≤ length front = omega (arith, keeps.0, keeps.1) in
      let count : n ≡ length (take n front) = sym (length-take-le n front within) in
      let below : n ≤ m = omega (arith, keeps.0, size) in
      let short : length (take n front) ≤ length before = omega (arith, count, below, fits) in
      let parts : front ≡ take n front ++ drop n (take m before) =
      sym (take-append-drop n front) ∙ ap (λ (l : List ℕ). take n front ++ l) keeps.2 in
      let all : after ≡ take n front ++ drop n before =
      is ∙ ap (λ (l : List ℕ). l ++ drop m before) parts
      ∙ append_assoc (take n front) (drop n (take m before)) (drop m before)
      ∙ ap (λ (l : List ℕ). take n front ++ l) (behind_front n m before below) in
      let copied : after ≡ take (length before) (take n front) ++ drop (length (take n front)) before =
      all ∙ ap (λ k. take n front ++ drop k before) count
      ∙ ap (λ (l : List ℕ). l ++ drop (length (take n front)) before)
      (sym (take_all (length before) (take n front) short)) in
      inr (Replied place (reply.Read (take n front)), (asked _ made, rest), (n, refl, (copied, count)))

  -- a refused one leaves it as it was
  pub reads_refused : (e : Errno) → KeepsRoom (Err e) (take m before) front →
      Makes client old.core
      (Called (call.Read descriptor (length (take m before)))
      (Replied place (reply.Refused e)) ∷ []) new.core →
      ReadsOff client descriptor before after old new (Err (outcome.Refused e))
  reads_refused e keeps made =
      let same : after ≡ before =
      is ∙ ap (λ (l : List ℕ). l ++ drop m before) keeps ∙ take-append-drop m before in
      inr (Replied place (reply.Refused e), (asked _ made, rest), (refl, same))

-- the call is made
pub writes : (client descriptor : ℕ) (bytes : List ℕ) (old new : Mounted) (answer : Answer)
    (result : Result ℕ Outcome) →
    Makes client old.core
    (Called (call.Write descriptor (take (moved (length bytes)) bytes)) answer ∷ []) new.core →
    KeepsRest old new → TellsWritten answer result →
    WritesOff client descriptor bytes old new result
writes client descriptor bytes old new answer result made rest told =
    inr (answer, (made, rest), told)
