-- Instances that hear some subjects and then others, and how many watch an object after one.
use Rattle.std.proofs.Common.{◌≡◌, ◌≢◌, ℕ, ℤ, ◌+◌, ◌≤◌, Bool, true, false, cond, ◌&&◌, List, [], ◌∷◌, ◌++◌, Some, refl, sym, ap, subst, ◌∙◌, append_assoc, arith, eqb-true}
use Rattle.std.specs.List.{AllByRecursion}
use Rattle.std.proofs.lemmas.Bool.{false≢true}
use Rattle.std.proofs.lemmas.List.Sums.{sum_by-cons}
use Rattle.ov_base.specs.declared.node_id.NodeId.TheVariants.{New}
use Rattle.ov_base.specs.declared.notice.Notice.{Notice}
use Rattle.plain_model.specs.Tree.{same_id}
use Rattle.plain_model.specs.Watching.{Rule, Subject, Instance, On, Only, Puts, Hears, ends, AllHear, asked, passed, all_asked, all_passed}
use Rattle.plain_model.specs.Machine.{instance_of, watches_of}
use Rattle.watch_table.specs.Clients.{AreOnlyOn}
use Rattle.watch_table.specs.Listening.{is_on}
use Rattle.watch_table.proofs.Hearing.{Puts-append}
use Rattle.watch_table.proofs.Reaching.{any-filter, stay, on-stay, off-object, off-number}
use Rattle.notifier.specs.Notifying.{watchers}

passed-append : (e : Instance) (ss tz : List Subject) → all_passed e (ss ++ tz) ≡ all_passed (all_passed e ss) tz
passed-append e [] tz = refl
passed-append e (s ∷ ss) tz = passed-append (passed e s) ss tz

asked-append : (e : Instance) (ss tz : List Subject) → all_asked e (ss ++ tz) ≡ all_asked e ss ++ all_asked (all_passed e ss) tz
asked-append e [] tz = refl
asked-append e (s ∷ ss) tz = ap (λ xs. asked e s ++ xs) (asked-append (passed e s) ss tz)
    ∙ sym (append_assoc (asked e s) (all_asked (passed e s) ss) (all_asked (all_passed (passed e s) ss) tz))

-- what is heard goes on alike whatever is unread
queue-passed : (q : List Notice) (ss : List Subject) (e : Instance) →
    all_passed (record e { queue = q }) ss ≡ record (all_passed e ss) { queue = q }
queue-passed q [] e = refl
queue-passed q (s ∷ ss) e = queue-passed q ss (passed e s)

queue-asked : (q : List Notice) (ss : List Subject) (e : Instance) → all_asked (record e { queue = q }) ss ≡ all_asked e ss
queue-asked q [] e = refl
queue-asked q (s ∷ ss) e = ap (λ xs. asked e s ++ xs) (queue-asked q ss (passed e s))

-- one client hears some subjects and then others
Hears-append : (shows : Rule) (ss tz : List Subject) (a b c : Instance) → Hears shows ss a b → Hears shows tz b c → Hears shows (ss ++ tz) a c
Hears-append shows ss tz a b c h k = record {
  watches =
      let with : Instance → Instance = λ e. record e { queue = c.queue } in
      k.watches ∙ ap (λ e. with (all_passed e tz)) h.watches ∙ ap with (queue-passed b.queue tz (all_passed a ss))
      ∙ ap with (sym (passed-append a ss tz));
  queue = subst (λ xs. Puts shows xs a.queue c.queue) (sym (asked-append a ss tz))
      (Puts-append shows (all_asked a ss) (all_asked (all_passed a ss) tz) a.queue b.queue c.queue h.queue
      (subst (λ xs. Puts shows xs b.queue c.queue) (ap (λ e. all_asked e tz) h.watches ∙ queue-asked b.queue tz (all_passed a ss)) k.queue));
}

-- and so do all
pub AllHear-append : (shows : Rule) (ss tz : List Subject) (es fs gs : List Instance) → AllHear shows ss es fs → AllHear shows tz fs gs →
    AllHear shows (ss ++ tz) es gs
AllHear-append shows ss tz [] [] [] h k = tt
AllHear-append shows ss tz [] [] (g ∷ gs) h k = absurd k
AllHear-append shows ss tz [] (f ∷ fs) gs h k = absurd h
AllHear-append shows ss tz (e ∷ es) [] gs h k = absurd h
AllHear-append shows ss tz (e ∷ es) (f ∷ fs) [] h k = absurd k
AllHear-append shows ss tz (e ∷ es) (f ∷ fs) (g ∷ gs) h k =
    (Hears-append shows ss tz e f g h.0 k.0, AllHear-append shows ss tz es fs gs h.1 k.1)

-- a client more that watches an object, or not
pub one-more : (n : ℕ) (e : Instance) (es : List Instance) → watchers (e ∷ es) n ≡ cond (is_on n e.watches) 1 0 + watchers es n
one-more n e es = sum_by-cons (λ (x : Instance). cond (is_on n x.watches) 1 0) e es

no-more : (a b : Bool) → (a && b) ≡ b → cond b 1 0 ≤ cond a 1 0
no-more true true h = omega arith
no-more true false h = omega arith
no-more false true h = absurd (false≢true h)
no-more false false h = omega arith

-- no watch of instances on the object of a number ends with a subject
abbrev pub AreSpared : Subject → ℕ → List Instance → Type 0
AreSpared s n es = AllByRecursion (λ (e : Instance). AllByRecursion (λ w. same_id (New n) w.node ≡ true → ends e.client s w ≡ false) e.watches) es

module _ (shows : Rule) (s : Subject) (o : ℕ) where
  -- whether an instance is on an object after it heard a subject
  after-one : (n : ℕ) (e f : Instance) → Hears shows (s ∷ []) e f → is_on n f.watches ≡ is_on n (stay shows s e.client e.watches)
  after-one n e f h = ap (λ x. is_on n x.watches) h.watches

  -- no more clients watch an object after a subject
  pub fewer-watch : (es fs : List Instance) → AllHear shows (s ∷ []) es fs → watchers fs o ≤ watchers es o
  fewer-watch [] [] h = omega arith
  fewer-watch [] (f ∷ fs) h = absurd h
  fewer-watch (e ∷ es) [] h = absurd h
  fewer-watch (e ∷ es) (f ∷ fs) h =
      let here = no-more (is_on o e.watches) (is_on o f.watches)
      (ap (λ b. is_on o e.watches && b) (after-one o e f h.0) ∙ any-filter (λ w. same_id (New o) w.node) _ e.watches
      ∙ sym (after-one o e f h.0)) in
      let rest = fewer-watch es fs h.1 in
      let old = one-more o e es in
      let new = one-more o f fs in
      omega arith

  -- and as many watch an object whose watches all go on
  pub others-watch : (n : ℕ) (es fs : List Instance) → AreSpared s n es → AllHear shows (s ∷ []) es fs → watchers fs n ≡ watchers es n
  others-watch n [] [] spared h = refl
  others-watch n [] (f ∷ fs) spared h = absurd h
  others-watch n (e ∷ es) [] spared h = absurd h
  others-watch n (e ∷ es) (f ∷ fs) spared h =
      one-more n f fs
      ∙ ap (λ b. cond b 1 0 + watchers fs n) (after-one n e f h.0 ∙ on-stay shows s n e.client e.watches spared.0)
      ∙ ap (λ m. cond (is_on n e.watches) 1 0 + m) (others-watch n es fs spared.1 h.1)
      ∙ sym (one-more n e es)

  -- so do those on every object but the one that the subject is for
  pub others-spared : s.aim ≡ On (New o) → (n : ℕ) → n ≢ o → (es : List Instance) → AreSpared s n es
  others-spared aim n ne [] = tt
  others-spared aim n ne (e ∷ es) = (off-object shows s o n e.client e.watches aim ne, others-spared aim n ne es)

  -- and those on every object but that of the one watch that it is for
  pub one-spared : (k : ℕ) (number : ℤ) → s.aim ≡ Only k number → (n : ℕ) → n ≢ o → (es fs : List Instance) →
      AreOnlyOn number o (watches_of (instance_of es k)) →
      AllByRecursion (λ (f : Instance). instance_of es f.client ≡ Some f) fs → AreSpared s n fs
  one-spared k number aim n ne es [] one own = tt
  one-spared k number aim n ne es (f ∷ fs) one own = (
    off-number shows s k number o n f.client f.watches aim ne
        (λ q. subst (λ x. AreOnlyOn number o (watches_of x)) (ap (instance_of es) (sym (eqb-true f.client k q)) ∙ own.0) one),
    one-spared k number aim n ne es fs one own.1,
  )
