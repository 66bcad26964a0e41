-- What reads and writes leave.
use Rattle.std.specs.Prelude.{◌≡◌, ℕ, ◌+◌, Bool, true, false, List, [], ◌++◌, Option, Result, Ok, Err, ◌⊎◌}
use Rattle.std.specs.Io.KnownBytes.{Appends}
use Rattle.ov_devices.specs.Devices.{one_more}
use Rattle.ov_frames.specs.Replies.{answer_frame}
use Rattle.ov_frames.specs.declared.answer.Answer.{Answer}
use Rattle.ov_session.specs.declared.ending.Ending.{Ending}
use Rattle.ov_session.specs.declared.ending.Ending.TheVariants as ending

-- bytes are a beginning of others
abbrev pub IsFrontOf : List ℕ → List ℕ → Type 0
IsFrontOf front all = (rest : List ℕ) × (all ≡ front ++ rest)

-- how often the source had failed before and after a session that ends so, how often it was read in
-- all, and how often it may be: by `Read` only where it failed once more, or no read is left
abbrev pub InputAt : ℕ → ℕ → ℕ → ℕ → Ending → Type 0
InputAt before after reads most ending.Read =
    (after ≡ before + 1) ⊎ ((after ≡ before) × (reads ≡ most))
InputAt before after reads most _ = after ≡ before

-- how reads may end a session, with the same numbers
abbrev pub IsInputEnd : ℕ → ℕ → ℕ → ℕ → Ending → Type 0
IsInputEnd before after reads most ending.Read = InputAt before after reads most ending.Read
IsInputEnd before after reads most ending.Memory = InputAt before after reads most ending.Memory
IsInputEnd before after reads most _ = ⊥

-- how a write may end a session
abbrev pub IsOutputEnd : Ending → Type 0
IsOutputEnd ending.Write = Unit {0}
IsOutputEnd ending.Memory = Unit {0}
IsOutputEnd _ = ⊥

-- how often the sink had failed before and after a session that ends so: once more where that is by
-- `Write`, up to the last that is counted, and else as often
abbrev pub OutputAt : ℕ → ℕ → Ending → Type 0
OutputAt before after ending.Write = after ≡ one_more before
OutputAt before after _ = after ≡ before

-- requests were served until a write failed
abbrev pub write_failed : {A : Type 0} → Result A Ending → Bool
write_failed (Err ending.Write) = true
write_failed _ = false

abbrev pub OutputAfter : {A : Type 0} → ℕ → ℕ → Result A Ending → Type 0
OutputAfter before after (Ok x) = after ≡ before
OutputAfter before after (Err end) = OutputAt before after end

-- what was held and these bytes were written, as far as they aren't held now
abbrev pub Gains : Option (List ℕ) → Option (List ℕ) → List ℕ → List ℕ → List ℕ → Type 0
Gains before after held_before held_after bytes =
    (written : List ℕ) × Appends before after written
    × (held_before ++ bytes ≡ written ++ held_after)

-- an answer was taken; where memory ran out, perhaps not
abbrev pub IsPut : Option (List ℕ) → Option (List ℕ) → List ℕ → List ℕ → Answer
    → Result (Unit {0}) Ending → Type 0
IsPut o n held held' answer (Ok x) = Gains o n held held' (answer_frame answer)
IsPut o n held held' answer (Err ending.Write) = Gains o n held held' (answer_frame answer)
IsPut o n held held' answer (Err ending.Memory) =
    (front : List ℕ) × IsFrontOf front (answer_frame answer) × Gains o n held held' front
IsPut o n held held' answer (Err _) = ⊥

-- an answer was taken and handed on, and the session ends detached; else the output failed, or
-- memory ran out
abbrev pub IsSent : Option (List ℕ) → Option (List ℕ) → List ℕ → List ℕ → Answer → Ending → Type 0
IsSent o n held held' answer ending.Detached =
    Gains o n held held' (answer_frame answer) × (held' ≡ [])
IsSent o n held held' answer ending.Write = Gains o n held held' (answer_frame answer)
IsSent o n held held' answer ending.Memory =
    (front : List ℕ) × IsFrontOf front (answer_frame answer) × Gains o n held held' front
IsSent o n held held' answer _ = ⊥
