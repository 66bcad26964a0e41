-- Exchanges one after the other are played together.
use Rattle.std.proofs.Common.{◌≡◌, ℕ, suc, ◌+◌, List, [], ◌∷◌, ◌++◌, refl, subst, ◌∙◌}
use Rattle.plain_model.specs.Watching as watching
use Rattle.plain_model.specs.Machine.{State}
use Rattle.plain_model.specs.Runs.{Run}
use Rattle.ov_frames.specs.declared.answer.Answer.TheVariants.{Replied, NotTaken}
use Rattle.ov_session.specs.declared.exchange.Exchange.{Exchange}
use Rattle.ov_session.specs.declared.exchange.Exchange.TheVariants.{Called, HeldBack, Departed}
use Rattle.overlay_core.specs.Views.{core_finished}
use Rattle.overlay_core.specs.declared.mounted.Core.{Core}
use Rattle.watch_table.specs.declared.hook.Callback.{Ghosts as Callback}
use Rattle.watch_table.specs.declared.hook.Rule.{Ghosts as Rule}
use Rattle.doors.specs.owned.Entries.{entries_of, IsCounted, IsPlayed}
use Rattle.doors.specs.owned.Rooms.{AreSteps, IsServed}

-- two counts are one
counted_on : (l m n : ℕ) (xs ys : List Exchange) →
    IsCounted l xs m → IsCounted m ys n → IsCounted l (xs ++ ys) n
counted_on l m n [] ys h k = subst (λ i. IsCounted i ys n) h k
counted_on l m n (Called call (Replied place reply) ∷ xs) ys h k =
    (h.0, counted_on (l + 1) m n xs ys h.1 k)
counted_on l m n (Called call (NotTaken errno) ∷ xs) ys h k =
    (h.0, counted_on l m n xs ys h.1 k)
counted_on l m n (HeldBack call ∷ xs) ys h k = (h.0, counted_on l m n xs ys h.1 k)
counted_on l m n (Departed answer ∷ xs) ys h k = (h.0, counted_on (l + 1) m n xs ys h.1 k)

-- two runs of a client are one
run_on : (shows : watching.Rule) (c number : ℕ) (s t u : State) (xs ys : List Exchange) →
    Run shows s (entries_of c number xs) t →
    ((n : ℕ) → Run shows t (entries_of c n ys) u) →
    Run shows s (entries_of c number (xs ++ ys)) u
run_on shows c number s t u [] ys r q =
    subst (λ x. Run shows x (entries_of c number ys) u) r (q number)
run_on shows c number s t u (Called call (Replied place reply) ∷ xs) ys r q =
    (r.0, r.1, run_on shows c (suc number) r.0 t u xs ys r.2 q)
run_on shows c number s t u (Called call (NotTaken errno) ∷ xs) ys r q =
    run_on shows c number s t u xs ys r q
run_on shows c number s t u (HeldBack call ∷ xs) ys r q = run_on shows c number s t u xs ys r q
run_on shows c number s t u (Departed answer ∷ xs) ys r q =
    (r.0, r.1, run_on shows c (suc number) r.0 t u xs ys r.2 q)

module _ {F G : Type 0} {asks : Callback F} {rule : Rule G} where
  -- where nothing passed, nothing is played
  played_nothing : (client : ℕ) (m : Core F G asks rule) → IsPlayed client m [] m
  played_nothing client m = record {
    counted = refl;
    run = λ s agrees. (s, (λ number. refl), agrees);
  }

  -- where nothing passed, nothing is served
  pub served_nothing : (client : ℕ) (m : Core F G asks rule) → IsServed client m [] m
  served_nothing client m = (played_nothing client m, refl)

  -- two parts of what passed are played together
  played_then : (client : ℕ) (a b c : Core F G asks rule) (xs ys : List Exchange) →
      IsPlayed client a xs b → IsPlayed client b ys c → IsPlayed client a (xs ++ ys) c
  played_then client a b c xs ys h k = record {
    counted =
        counted_on (core_finished a) (core_finished b) (core_finished c) xs ys h.counted
        k.counted;
    run = λ s agrees.
        let x = h.run s agrees in
        let y = k.run x.0 x.2 in (
          y.0,
          (λ number. run_on rule.shows client number s x.0 y.0 xs ys (x.1 number) y.1),
          y.2,
        );
  }

  -- so are two parts step by step
  steps_then : (client : ℕ) (a b c : Core F G asks rule) (xs ys : List Exchange) →
      AreSteps client a xs b → AreSteps client b ys c → AreSteps client a (xs ++ ys) c
  steps_then client a b c [] ys h k = subst (λ m. AreSteps client m ys c) h k
  steps_then client a b c (x ∷ xs) ys h k = (h.0, h.1, steps_then client h.0 b c xs ys h.2 k)

  -- two parts of what passed are served together, by the same client
  pub served_on : (l m n : ℕ) (a b c : Core F G asks rule) (xs ys : List Exchange) →
      (m ≡ l) × IsServed l a xs b → (n ≡ m) × IsServed m b ys c →
      (n ≡ l) × IsServed l a (xs ++ ys) c
  served_on l m n a b c xs ys h k =
      let second = subst (λ i. IsServed i b ys c) h.0 k.1 in (
        k.0 ∙ h.0,
        (
          played_then l a b c xs ys h.1.0 second.0,
          steps_then l a b c xs ys h.1.1 second.1,
        ),
      )
