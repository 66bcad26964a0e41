-- What is judged of a rename: its refusal, that both paths are one object, or what moves.
use Rattle.std.proofs.Common.{
  ◌≡◌,
  ℕ,
  true,
  false,
  Option,
  None,
  Some,
  IfNone,
  IfSome,
  Result,
  Ok,
  Err,
  refl,
}
use Rattle.std.specs.Prelude.{IfErr, IfOk, IsErr, OnOk}
use Rattle.std.specs.Result.{result_and}
use Rattle.ov_base.specs.declared.call.CallOf.TheVariants as call
use Rattle.ov_base.specs.declared.errno.Errno.{Errno}
use Rattle.ov_base.specs.declared.reply.Reply.TheVariants as reply
use Rattle.plain_model.specs.Layers.{Path}
use Rattle.plain_model.specs.Machine.{State}
use Rattle.plain_model.specs.Refusals.{refusal}
use Rattle.mount_laws.specs.Renaming.{is_one, rename_fault}
use Rattle.rename_redirect.specs.declared.renames.JudgedRename.{JudgedRename}
use Rattle.rename_redirect.specs.Judging.{IsFaultOf, MayMove}
use Rattle.mount_calls.specs.declared.mount.Mount.{Mount}
use Rattle.mount_calls.specs.Making.{MakesEach}
use Rattle.mount_calls.specs.States.{IsStateOf}
use Rattle.mount_calls.proofs.Judging.{allows-rename, allows-same, refuses-rename}
use Rattle.mount_calls.proofs.MakingCalls.{attached-same, makes-same}
use Rattle.mount_calls.proofs.Renaming.{rename-same, rename-same-named}
use Rattle.mount_calls.proofs.Stating.{the_lowers, the_upper}

-- where memory ran out for what is handed on, it did for the reply
pub reply-err : {A B E : Type 0} (r : Result A E) (s : Result B E) → IsErr r →
    IsErr (result_and r s)
reply-err (Ok x) s wrong = absurd (let no : false ≡ true = wrong in cc)
reply-err (Err e) s wrong = wrong

module _ (m : Mount) (p q : Path) where
  -- why the machine refuses it
  pub judged-refused : (r : Result (Option JudgedRename) Errno) →
      IfErr r (λ e. IsFaultOf m.layers q (rename_fault (the_upper m) (the_lowers m) m.redirects p q)
      e) →
      IfErr r (λ e. (s : State) → IsStateOf m s → (c : ℕ) → refusal s c (call.Rename p q) ≡ Some e)
  judged-refused (Ok o) h = tt
  judged-refused (Err e) h = λ s st c. refuses-rename m c p q e h s st

  -- nothing moves of one object
  pub judged-one : (r : Result (Option JudgedRename) Errno) →
      IfOk r (λ o. o ≡ None → is_one (the_upper m) p q ≡ true) →
      IfOk r (λ o. IfNone o (is_one (the_upper m) p q ≡ true))
  judged-one (Ok None) h = h refl
  judged-one (Ok (Some w)) h = tt
  judged-one (Err e) h = tt

  -- and the mount stands for the state after the call as it is
  pub judged-stays : (r : Result (Option JudgedRename) Errno) →
      IfOk r (λ o. o ≡ None → is_one (the_upper m) p q ≡ true) →
      OnOk r (rename_fault (the_upper m) (the_lowers m) m.redirects p q false ≡ None) →
      IfOk r (λ o. IfNone o (MakesEach (call.Rename p q) m m (Ok reply.Done)))
  judged-stays (Ok None) one fine = λ c.
      makes-same c (call.Rename p q) m m (attached-same m.clients) refl reply.Done
      (λ s st. rename-same m s st c p q fine (one refl) m st)
      (λ s st allowed. rename-same-named m s st c p q fine (one refl) m.layers refl)
  judged-stays (Ok (Some w)) one fine = tt
  judged-stays (Err e) one fine = tt

  -- else the machine refuses nothing
  pub judged-allowed : (r : Result (Option JudgedRename) Errno) →
      IfOk r (λ o. o ≡ None → is_one (the_upper m) p q ≡ true) →
      OnOk r (rename_fault (the_upper m) (the_lowers m) m.redirects p q false ≡ None) →
      IfOk r (λ o. IfSome o (MayMove m.layers m.redirects p q)) →
      OnOk r ((s : State) → IsStateOf m s → (c : ℕ) → refusal s c (call.Rename p q) ≡ None)
  judged-allowed (Ok None) one fine may = λ s st c. allows-same m c p q fine (one refl) s st
  judged-allowed (Ok (Some w)) one fine may = λ s st c. allows-rename m c p q fine may.empty s st
  judged-allowed (Err e) one fine may = tt
