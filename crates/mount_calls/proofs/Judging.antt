-- Why the machine refuses a call that was judged, or that it doesn't, told by the layers.
use Rattle.std.proofs.Common.{◌≡◌, ℕ, true, false, List, length, nat_eq, nat_lt, Option, None, Some, refl, ap, ◌∙◌, arith}
use Rattle.std.specs.Result.{result_err}
use Rattle.ov_base.specs.declared.call.CallOf.TheVariants as call
use Rattle.ov_base.specs.declared.errno.Errno.{Errno}
use Rattle.ov_base.specs.declared.errno.Errno.TheVariants.{EINVAL, ENAMETOOLONG, ENOENT}
use Rattle.ov_base.specs.Targets.{target_of}
use Rattle.plain_model.specs.Layers.{Path}
use Rattle.plain_model.specs.Machine.{State, has_names}
use Rattle.plain_model.specs.Refusals.{bad_mode, has_nul, refusal, when}
use Rattle.plain_model.specs.Tree.{node_at, node_of}
use Rattle.mount_laws.specs.Linking.{link_fault}
use Rattle.mount_laws.specs.Looks.{or_else}
use Rattle.mount_laws.specs.Removals.{rmdir_fault, unlink_fault, ShowsNoName}
use Rattle.mount_laws.specs.Renaming.{is_one, rename_fault}
use Rattle.mount_laws.proofs.Linked.{law_of_link}
use Rattle.mount_laws.proofs.Looks.{law_of_mkdir}
use Rattle.mount_laws.proofs.Refusing.{law_of_rmdir, law_of_symlink, law_of_unlink}
use Rattle.mount_laws.proofs.Renaming.{law_of_rename, told}
use Rattle.make_remove.specs.Making.{vacancy_fault}
use Rattle.rename_redirect.specs.Judging.{IsFaultOf}
use Rattle.rename_redirect.proofs.Steps.{rename-refused}
use Rattle.mount_calls.specs.declared.attribute_changes.AttributeCall.{AttributeCall}
use Rattle.mount_calls.specs.declared.mount.Mount.{Mount}
use Rattle.mount_calls.specs.AttributeCalls.{asked_fault, call_at}
use Rattle.mount_calls.specs.States.{IsStateOf}
use Rattle.mount_calls.proofs.AttributeCalls.{refusal-asked}
use Rattle.mount_calls.proofs.Renaming.{one-fault}
use Rattle.mount_calls.proofs.Stating.{the_layers, the_lowers, the_upper}

-- a target's faults come before those of the path
pub target-first : (t : List ℕ) (e : Errno) (f : Option Errno) → result_err (target_of t) ≡ Some e → or_else (when (nat_lt 4095 (length t)) ENAMETOOLONG) (or_else (when (nat_eq (length t) 0) ENOENT) (or_else (when (has_nul t) EINVAL) f)) ≡ Some e
target-first t e f h = grind arith

pub target-next : (t : List ℕ) (f : Option Errno) → result_err (target_of t) ≡ None → or_else (when (nat_lt 4095 (length t)) ENAMETOOLONG) (or_else (when (nat_eq (length t) 0) ENOENT) (or_else (when (has_nul t) EINVAL) f)) ≡ f
target-next t f h = grind arith

module _ (m : Mount) (c : ℕ) where
  -- what the machine refuses of the calls, told by the layers
  pub refuses-asked : (p : Path) (x : AttributeCall) (o : Option Errno) → asked_fault (the_layers m) p x ≡ o → (s : State) → IsStateOf m s → refusal s c (call_at p x) ≡ o
  refuses-asked p x o h s st = refusal-asked (the_upper m) (the_lowers m) s st.layers c p x ∙ h

  pub refuses-mode : (p : Path) (mode : ℕ) (e : Errno) → bad_mode mode ≡ Some e → (s : State) → IsStateOf m s → refusal s c (call.Mkdir p mode) ≡ Some e
  refuses-mode p mode e h s st =
      law_of_mkdir (the_upper m) (the_lowers m) s st.layers c p mode ∙ ap (λ z. or_else z (vacancy_fault (the_layers m) p)) h

  pub refuses-mkdir : (p : Path) (mode : ℕ) (o : Option Errno) → bad_mode mode ≡ None → vacancy_fault (the_layers m) p ≡ o → (s : State) → IsStateOf m s → refusal s c (call.Mkdir p mode) ≡ o
  refuses-mkdir p mode o h g s st =
      law_of_mkdir (the_upper m) (the_lowers m) s st.layers c p mode ∙ ap (λ z. or_else z (vacancy_fault (the_layers m) p)) h ∙ g

  pub refuses-target : (t : List ℕ) (p : Path) (e : Errno) → result_err (target_of t) ≡ Some e → (s : State) → IsStateOf m s → refusal s c (call.Symlink t p) ≡ Some e
  refuses-target t p e h s st =
      law_of_symlink (the_upper m) (the_lowers m) s st.layers c t p ∙ target-first t e (vacancy_fault (the_layers m) p) h

  pub refuses-symlink : (t : List ℕ) (p : Path) (o : Option Errno) → result_err (target_of t) ≡ None → vacancy_fault (the_layers m) p ≡ o → (s : State) → IsStateOf m s → refusal s c (call.Symlink t p) ≡ o
  refuses-symlink t p o h g s st =
      law_of_symlink (the_upper m) (the_lowers m) s st.layers c t p ∙ target-next t (vacancy_fault (the_layers m) p) h ∙ g

  pub refuses-unlink : (p : Path) (o : Option Errno) → unlink_fault (the_layers m) p ≡ o → (s : State) → IsStateOf m s → refusal s c (call.Unlink p) ≡ o
  refuses-unlink p o h s st = law_of_unlink (the_upper m) (the_lowers m) s st.layers c p ∙ h

  pub allows-rmdir : (p : Path) → ShowsNoName (the_layers m) p → rmdir_fault (the_layers m) p false ≡ None → (s : State) → IsStateOf m s → refusal s c (call.Rmdir p) ≡ None
  allows-rmdir p bare h s st = (law_of_rmdir (the_upper m) (the_lowers m) s st.layers c p).empty bare ∙ h

  pub refuses-link : (p q : Path) (o : Option Errno) → link_fault (the_layers m) p q ≡ o → (s : State) → IsStateOf m s → refusal s c (call.Hardlink p q) ≡ o
  refuses-link p q o h s st = law_of_link (the_upper m) (the_lowers m) s st.layers c p q ∙ h

  pub refuses-rename : (p q : Path) (e : Errno) → IsFaultOf m.layers q (rename_fault (the_upper m) (the_lowers m) m.redirects p q) e → (s : State) → IsStateOf m s → refusal s c (call.Rename p q) ≡ Some e
  refuses-rename p q e h s st = rename-refused m.layers m.redirects p q e h s st.layers st.redirects c

  module _ (p q : Path) (fine : rename_fault (the_upper m) (the_lowers m) m.redirects p q false ≡ None) where
    pub allows-rename : ShowsNoName (the_layers m) q → (s : State) → IsStateOf m s → refusal s c (call.Rename p q) ≡ None
    allows-rename bare s st =
        (law_of_rename (the_upper m) (the_lowers m) s st.layers c p q).empty bare
        ∙ ap (λ x. rename_fault (the_upper m) (the_lowers m) x p q false) st.redirects ∙ fine

    pub allows-same : is_one (the_upper m) p q ≡ true → (s : State) → IsStateOf m s → refusal s c (call.Rename p q) ≡ None
    allows-same one s st =
        let names = has_names (node_of s.tree (node_at s.tree q)) in
        told (the_upper m) (the_lowers m) s st.layers c p q names refl
        ∙ one-fault (the_upper m) (the_lowers m) s.options.redirects p q one names false
        ∙ ap (λ x. rename_fault (the_upper m) (the_lowers m) x p q false) st.redirects ∙ fine
