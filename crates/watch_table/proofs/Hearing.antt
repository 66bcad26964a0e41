-- Queues after one list of events and then another, and instances after one subject more.
use Rattle.std.proofs.Common.{◌≡◌, ℕ, Bool, length, filter, List, [], ◌∷◌, ◌++◌, refl, sym, ap, subst, ◌∙◌, append_assoc, nat_eq}
use Rattle.std.proofs.lemmas.List.{append-nil}
use Rattle.std.proofs.lemmas.List.Elements.{All-filter}
use Rattle.ov_base.specs.declared.notice.Event.{Event}
use Rattle.ov_base.specs.declared.notice.Notice.{Notice}
use Rattle.plain_model.specs.Watching.{Rule, Watch, Subject, Instance, Puts, Hears, AllHear, asked, passed, all_asked, all_passed}
use Rattle.plain_model.specs.Tree.{same_id}
use Rattle.plain_model.proofs.Watching.{AllHear-none}
use Rattle.watch_table.specs.Clients.{AllHearOne}
use Rattle.watch_table.specs.Listening.{HearsOne, IsWatch, IsInstance}
use Rattle.watch_table.proofs.Keys.{distinct_filter}

-- what is asked first and what is asked next
pub Puts-append : (shows : Rule) (xs ys : List (ℕ × Event)) (a b c : List Notice) → Puts shows xs a b → Puts shows ys b c →
    Puts shows (xs ++ ys) a c
Puts-append shows [] ys a b c h k = subst (λ q. Puts shows ys q c) h k
Puts-append shows (x ∷ xs) ys a b c h k = (h.0, h.1, Puts-append shows xs ys _ b c h.2 k)

all_passed-push : (e : Instance) (ss : List Subject) (s : Subject) → all_passed e (ss ++ s ∷ []) ≡ passed (all_passed e ss) s
all_passed-push e [] s = refl
all_passed-push e (t ∷ ss) s = all_passed-push (passed e t) ss s

all_asked-push : (e : Instance) (ss : List Subject) (s : Subject) → all_asked e (ss ++ s ∷ []) ≡ all_asked e ss ++ asked (all_passed e ss) s
all_asked-push e [] s = append-nil (asked e s)
all_asked-push e (t ∷ ss) s = ap (λ xs. asked e t ++ xs) (all_asked-push (passed e t) ss s)
    ∙ sym (append_assoc (asked e t) (all_asked (passed e t) ss) (asked (all_passed (passed e t) ss) s))

-- one subject more
pub Hears-push : (shows : Rule) (ss : List Subject) (s : Subject) (a b c : Instance) → Hears shows ss a b → HearsOne shows s b c →
    Hears shows (ss ++ s ∷ []) a c
Hears-push shows ss s a b c h k = record {
  watches =
      let with : Instance → Instance = λ e. record e { queue = c.queue } in
      let on : Instance → Instance = λ e. record (passed e s) { queue = c.queue } in
      k.watches ∙ ap on h.watches ∙ ap with (sym (all_passed-push a ss s));
  queue = subst (λ xs. Puts shows xs a.queue c.queue) (sym (all_asked-push a ss s))
      (Puts-append shows (all_asked a ss) (asked (all_passed a ss) s) a.queue b.queue c.queue h.queue
      (subst (λ e. Puts shows (asked e s) b.queue c.queue) h.watches k.queue));
}

-- all hear one subject more
pub AllHear-push : (shows : Rule) (ss : List Subject) (s : Subject) (es fs gs : List Instance) → AllHear shows ss es fs →
    AllHearOne shows s fs gs → AllHear shows (ss ++ s ∷ []) es gs
AllHear-push shows ss s [] [] [] h k = tt
AllHear-push shows ss s [] [] (g ∷ gs) h k = absurd k
AllHear-push shows ss s [] (f ∷ fs) gs h k = absurd h
AllHear-push shows ss s (e ∷ es) [] gs h k = absurd h
AllHear-push shows ss s (e ∷ es) (f ∷ fs) [] h k = absurd k
AllHear-push shows ss s (e ∷ es) (f ∷ fs) (g ∷ gs) h k = (Hears-push shows ss s e f g h.0 k.0, AllHear-push shows ss s es fs gs h.1 k.1)

-- all hear one subject alone
pub one-heard : (shows : Rule) (s : Subject) (es fs : List Instance) → AllHearOne shows s es fs → AllHear shows (s ∷ []) es fs
one-heard shows s es fs = AllHear-push shows [] s es es fs (AllHear-none shows es)

pub heard-one : (shows : Rule) (s : Subject) (es fs : List Instance) → AllHear shows (s ∷ []) es fs → AllHearOne shows s es fs
heard-one shows s [] [] h = tt
heard-one shows s [] (f ∷ fs) h = absurd h
heard-one shows s (e ∷ es) [] h = absurd h
heard-one shows s (e ∷ es) (f ∷ fs) h = (
  record {
    watches = h.0.watches;
    queue = subst (λ xs. Puts shows xs e.queue f.queue) (append-nil (asked e s)) h.0.queue;
  },
  heard-one shows s es fs h.1,
)

-- an instance some of whose watches go
pub IsInstance-filter : (e : Instance) (p : Watch → Bool) (q : List Notice) → IsInstance e →
    IsInstance (record e { watches = filter p e.watches; queue = q })
IsInstance-filter e p q h = record {
  hooks = h.hooks;
  watches = All-filter p (IsWatch (length e.tags) e.armed) e.watches h.watches;
  few = h.few;
  numbers = distinct_filter nat_eq (λ w. w.number) p e.watches h.numbers;
  slots = distinct_filter nat_eq (λ w. w.slot) p e.watches h.slots;
  objects = distinct_filter same_id (λ w. w.node) p e.watches h.objects;
}
