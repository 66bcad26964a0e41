-- A run goes on by one entry at its end; so does a history.
use Rattle.std.proofs.Common.{◌≡◌, List, [], ◌∷◌, ◌++◌, refl, sym, ap, subst, append_assoc}
use Rattle.plain_model.specs.Watching.{Rule}
use Rattle.plain_model.specs.Machine.{State}
use Rattle.plain_model.specs.Runs.{Entry, Does, Run, IsNext, IsNumberedAfter, IsLegal}

-- a run goes on by one entry
pub Run-push : (shows : Rule) (old : State) (es : List Entry) (mid : State) (e : Entry) (new : State) → Run shows old es mid → Does shows mid e.client e.deed new → Run shows old (es ++ e ∷ []) new
Run-push shows old [] mid e new r d = (new, subst (λ s. Does shows s e.client e.deed new) r d, refl)
Run-push shows old (x ∷ es) mid e new r d = (r.0, r.1, Run-push shows r.0 es mid e new r.2 d)

-- two runs are one
pub Run-append : (shows : Rule) (old : State) (es fs : List Entry) (mid new : State) → Run shows old es mid → Run shows mid fs new → Run shows old (es ++ fs) new
Run-append shows old [] fs mid new r q = subst (λ s. Run shows s fs new) r q
Run-append shows old (x ∷ es) fs mid new r q = (r.0, r.1, Run-append shows r.0 es fs mid new r.2 q)

-- numbered entries go on by the next one
pub numbered-push : (before es : List Entry) (e : Entry) → IsNumberedAfter before es → IsNext (before ++ es) e → IsNumberedAfter before (es ++ e ∷ [])
numbered-push before [] e n h = (subst (λ b. IsNext b e) (append-nil before) h, tt)
  where
    append-nil : (b : List Entry) → b ++ [] ≡ b
    append-nil [] = refl
    append-nil (x ∷ xs) = ap (λ y. x ∷ y) (append-nil xs)
numbered-push before (x ∷ es) e n h = (n.0, numbered-push (before ++ x ∷ []) es e n.1 (subst (λ b. IsNext b e) (sym (append_assoc before (x ∷ []) es)) h))

-- an entry that is its client's next, and a step of the machine, make the history longer
pub legal-push : (shows : Rule) (opening : State) (es : List Entry) (last : State) (e : Entry) (new : State) → IsLegal shows opening es last → Does shows last e.client e.deed new → IsNext es e → IsLegal shows opening (es ++ e ∷ []) new
legal-push shows opening es last e new l d n = record {
  run = Run-push shows opening es last e new l.run d;
  numbered = numbered-push [] es e l.numbered n;
}
