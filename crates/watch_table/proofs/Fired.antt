-- One subject told to those whom it is for, and the index after it.
use Rattle.std.proofs.Common.{◌≡◌, ℕ, ℤ, true, false, ◌&&◌, filter, length, List, [], ◌∷◌, Some, refl, sym, ap, subst, ◌∙◌, ◌⊎◌, inl, inr, arith, nat_eq, eqb-true}
use Rattle.std.specs.List.{AllByRecursion, count_by, list_any}
use Rattle.std.proofs.lemmas.Bool.{cases_Bool, or_parts}
use Rattle.ov_base.specs.declared.node_id.NodeId.TheVariants.{New}
use Rattle.plain_model.specs.Watching.{Rule, Watch, Subject, Instance, On, Only, is_aimed, is_numbered, reaches}
use Rattle.plain_model.specs.Tree.{same_id}
use Rattle.plain_model.specs.Machine.{instance_of, watches_of}
use Rattle.watch_table.specs.Clients.{clients_of, AreRising, AreTold, AllHearOne, AreOnlyOn, KeepWatches, watches}
use Rattle.watch_table.specs.Listening.{is_on}
use Rattle.watch_table.specs.Watched.{Watched, watchers_of, SetsWatchers, IsIndexOf}
use Rattle.watch_table.proofs.Telling.{told-none}
use Rattle.watch_table.proofs.Reaching.{any-filter, and-false, IsUnreached, unaimed, told-all, heard-watches, on-stay, off-object, off-number}
use Rattle.watch_table.proofs.Counting.{index-counts}
use Rattle.watch_table.proofs.Indexing.{index-less, each-own}

-- a list without a length
pub nil-from : (ks : List ℕ) → nat_eq (length ks) 0 ≡ true → ks ≡ []
nil-from [] h = refl
nil-from (k ∷ ks) h = let e = eqb-true (length (k ∷ ks)) 0 h in absurd (omega arith)

module _ (shows : Rule) (s : Subject) (es : List Instance) (t : Watched) (index : IsIndexOf es t) (rising : AreRising (clients_of es)) where
  -- a subject for an object reaches no watch of who doesn't watch it
  off-watches : (o c : ℕ) (ws : List Watch) → s.aim ≡ On (New o) → is_on o ws ≡ false → AllByRecursion (λ w. reaches c s w ≡ false) ws
  off-watches o c [] aim h = tt
  off-watches o c (w ∷ ws) aim h =
      let n = or_parts (same_id (New o) w.node) (is_on o ws) h in
      (unaimed shows s c w (ap (λ a. is_aimed c a w) aim ∙ n.0), off-watches o c ws aim n.1)

  on-unreached : (o : ℕ) (fs : List Instance) → s.aim ≡ On (New o) →
      AllByRecursion (λ (e : Instance). instance_of es e.client ≡ Some e) fs →
      AllByRecursion (λ (e : Instance). list_any (nat_eq e.client) (watchers_of t o) ≡ false → IsUnreached shows s e) fs
  on-unreached o [] aim own = tt
  on-unreached o (e ∷ fs) aim own = (
    (λ h. off-watches o e.client e.watches aim
        (sym (ap (λ x. is_on o (watches_of x)) own.0) ∙ sym (index.exact o e.client) ∙ h)),
    on-unreached o fs aim own.1,
  )

  -- all hear a subject for an object where those are told that watch it
  pub tell-on : (o : ℕ) (fs : List Instance) → s.aim ≡ On (New o) → AreTold shows s (watchers_of t o) es fs → AllHearOne shows s es fs
  tell-on o fs aim h = told-all shows s (watchers_of t o) es fs (on-unreached o es aim (each-own es rising)) h

  -- nobody is told where nobody watches it
  pub tell-nobody : (o : ℕ) → s.aim ≡ On (New o) → watchers_of t o ≡ [] → AllHearOne shows s es es
  tell-nobody o aim none = tell-on o es aim (subst (λ ks. AreTold shows s ks es es) (sym none) (told-none shows s es))

  less-on : (o c : ℕ) (fs : List Instance) → AllHearOne shows s es fs → (watches es o c && watches fs o c) ≡ watches fs o c
  less-on o c fs heard =
      let left = heard-watches shows s es fs heard o c in
      ap (λ b. watches es o c && b) left ∙ any-filter (λ w. same_id (New o) w.node) _ (watches_of (instance_of es c)) ∙ sym left

  pub index-on : (u : Watched) (o : ℕ) (fs : List Instance) → s.aim ≡ On (New o) → AllHearOne shows s es fs →
      SetsWatchers t u o (filter (watches fs o) (watchers_of t o)) → IsIndexOf fs u
  index-on u o fs aim heard set =
      index-less es fs t u o index set
      (λ n c ne. heard-watches shows s es fs heard n c ∙ on-stay shows s n c (watches_of (instance_of es c))
      (off-object shows s o n c (watches_of (instance_of es c)) aim ne))
      (λ c. less-on o c fs heard)

  only-unreached : (k : ℕ) (number : ℤ) (e : Instance) → s.aim ≡ Only k number → nat_eq e.client k ≡ false → IsUnreached shows s e
  only-unreached k number e aim off = by e.watches
    where
      by : (ws : List Watch) → AllByRecursion (λ w. reaches e.client s w ≡ false) ws
      by [] = tt
      by (w ∷ ws) = (unaimed shows s e.client w (ap (λ a. is_aimed e.client a w) aim ∙ ap (λ b. b && is_numbered number w) off), by ws)

  others-unreached : (k : ℕ) (number : ℤ) (fs : List Instance) → s.aim ≡ Only k number →
      AllByRecursion (λ (e : Instance). list_any (nat_eq e.client) (k ∷ []) ≡ false → IsUnreached shows s e) fs
  others-unreached k number [] aim = tt
  others-unreached k number (e ∷ fs) aim = (
    (λ h. only-unreached k number e aim
        (or_parts (nat_eq e.client k) false h).0),
    others-unreached k number fs aim,
  )

  -- all hear a subject for one watch where its client is told
  pub tell-only : (k : ℕ) (number : ℤ) (fs : List Instance) → s.aim ≡ Only k number → AreTold shows s (k ∷ []) es fs →
      AllHearOne shows s es fs
  tell-only k number fs aim h = told-all shows s (k ∷ []) es fs (others-unreached k number es aim) h

  none-numbered : (k c : ℕ) (number : ℤ) (ws : List Watch) → s.aim ≡ Only k number → list_any (is_numbered number) ws ≡ false →
      AllByRecursion (λ w. reaches c s w ≡ false) ws
  none-numbered k c number [] aim h = tt
  none-numbered k c number (w ∷ ws) aim h =
      let n = or_parts (is_numbered number w) (list_any (is_numbered number) ws) h in (
        unaimed shows s c w (ap (λ a. is_aimed c a w) aim ∙ ap (λ b. nat_eq c k && b) n.0
            ∙ and-false (nat_eq c k)),
        none-numbered k c number ws aim n.1,
      )

  none-unreached : (k : ℕ) (number : ℤ) (fs : List Instance) → s.aim ≡ Only k number →
      list_any (is_numbered number) (watches_of (instance_of es k)) ≡ false →
      AllByRecursion (λ (e : Instance). instance_of es e.client ≡ Some e) fs →
      AllByRecursion (λ (e : Instance). list_any (nat_eq e.client) [] ≡ false → IsUnreached shows s e) fs
  none-unreached k number [] aim none own = tt
  none-unreached k number (e ∷ fs) aim none own = ((λ h. by (cases_Bool (nat_eq e.client k))), none-unreached k number fs aim none own.1)
    where
      by : (nat_eq e.client k ≡ true) ⊎ (nat_eq e.client k ≡ false) → IsUnreached shows s e
      by (inl q) = none-numbered k e.client number e.watches aim
          (sym (ap (λ x. list_any (is_numbered number) (watches_of x)) (sym (ap (instance_of es) (eqb-true e.client k q)) ∙ own.0)) ∙ none)
      by (inr f) = only-unreached k number e aim f

  -- nobody is told where the client has no such watch
  pub tell-none : (k : ℕ) (number : ℤ) → s.aim ≡ Only k number → list_any (is_numbered number) (watches_of (instance_of es k)) ≡ false →
      AllHearOne shows s es es
  tell-none k number aim none = told-all shows s [] es es (none-unreached k number es aim none (each-own es rising)) (told-none shows s es)

  pub index-only : (u : Watched) (k : ℕ) (number : ℤ) (o : ℕ) (fs : List Instance) → s.aim ≡ Only k number →
      AreOnlyOn number o (watches_of (instance_of es k)) → AllHearOne shows s es fs →
      SetsWatchers t u o (filter (watches fs o) (watchers_of t o)) → IsIndexOf fs u
  index-only u k number o fs aim one heard set =
      index-less es fs t u o index set
      (λ n c ne. heard-watches shows s es fs heard n c ∙ on-stay shows s n c (watches_of (instance_of es c))
      (off-number shows s k number o n c (watches_of (instance_of es c)) aim ne
      (λ q. subst (λ x. AreOnlyOn number o (watches_of (instance_of es x))) (sym (eqb-true c k q)) one)))
      (λ c. less-on o c fs heard)

  -- an index of instances is one of those that watch what they watched
  pub index-kept : (fs : List Instance) → KeepWatches es fs → IsIndexOf fs t
  index-kept fs keep = record { exact = λ o c. index.exact o c ∙ sym (keep o c); once = index.once }

  -- as many clients watch an object then
  pub count-kept : (fs : List Instance) (o : ℕ) → AreRising (clients_of fs) → KeepWatches es fs →
      count_by (λ (e : Instance). is_on o e.watches) fs ≡ count_by (λ (e : Instance). is_on o e.watches) es
  count-kept fs o rises keep = sym (index-counts fs t o (index-kept fs keep) rises) ∙ index-counts es t o index rising
