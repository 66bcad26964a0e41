-- A call on attributes is judged by what was seen, and answered as the machine answers it, whatever
-- came of it.
use Rattle.std.proofs.Common.{◌≡◌, ℕ, None, Some, Result, Ok, Err, IfErr, IfOk, OnOk, refl}
use Rattle.std.specs.Borrow.{Bor}
use Rattle.std.specs.declared.alloc.AllocError.{AllocError}
use Rattle.ov_base.specs.declared.errno.Errno.{Errno}
use Rattle.plain_model.specs.Layers.{Path}
use Rattle.merged_lookup.specs.declared.found.Topmost.{Topmost}
use Rattle.merged_lookup.specs.declared.layers.Layers.{Layers}
use Rattle.merged_lookup.specs.declared.stack.Stack.{Stack}
use Rattle.mount_calls.specs.declared.attribute_changes.AttributeCall.{AttributeCall}
use Rattle.mount_calls.specs.declared.look.Look.{Look}
use Rattle.mount_calls.specs.declared.mount.Mount.{Mount}
use Rattle.mount_calls.specs.Altering.{AltersUnless, IsTarget, Judges}
use Rattle.mount_calls.specs.AttributeCalls.{asked_fault, call_at}
use Rattle.mount_calls.specs.Looking.{IsLook}
use Rattle.mount_calls.specs.Making.{Allows, MakesEach, Refuses}
use Rattle.mount_calls.specs.Status.{done_result}
use Rattle.mount_calls.proofs.AttributeCalls.{layers-asked}
use Rattle.mount_calls.proofs.Changing.{altered-done}
use Rattle.mount_calls.proofs.Judging.{refuses-asked}
use Rattle.mount_calls.proofs.MakingCalls.{makes-done, makes-unshown}
use Rattle.mount_calls.proofs.Named.{keeps-named}
use Rattle.mount_calls.proofs.Stating.{the_layers}

module _ (m : Mount) (look : Look) (x : AttributeCall) (r : Result (Bor Stack × Topmost) Errno)
    (h : (p : Path) → IsLook m.layers p look → Judges m.layers p x r) where
  -- what is judged to be refused each state refuses
  pub judged-refused : IfErr r (λ e. (p : Path) → IsLook m.layers p look →
      Refuses m (call_at p x) e)
  judged-refused = by r h
    where
      by : (s : Result (Bor Stack × Topmost) Errno) →
          ((p : Path) → IsLook m.layers p look → Judges m.layers p x s) →
          IfErr s (λ e. (p : Path) → IsLook m.layers p look → Refuses m (call_at p x) e)
      by (Ok target) g = tt
      by (Err e) g = λ p is c. refuses-asked m c p x (Some e) (g p is)

  -- and what isn't none refuses
  pub judged-allowed : OnOk r ((p : Path) → IsLook m.layers p look → Allows m (call_at p x))
  judged-allowed = by r h
    where
      by : (s : Result (Bor Stack × Topmost) Errno) →
          ((p : Path) → IsLook m.layers p look → Judges m.layers p x s) →
          OnOk s ((p : Path) → IsLook m.layers p look → Allows m (call_at p x))
      by (Ok target) g = λ p is c. refuses-asked m c p x None (g p is).allowed
      by (Err e) g = tt

  -- and what it changes is told
  pub judged-target : IfOk r (λ found. (p : Path) → IsLook m.layers p look →
      IsTarget m.layers p x (found.0.now, found.1))
  judged-target = by r h
    where
      by : (s : Result (Bor Stack × Topmost) Errno) →
          ((p : Path) → IsLook m.layers p look → Judges m.layers p x s) →
          IfOk s (λ found. (p : Path) → IsLook m.layers p look →
          IsTarget m.layers p x (found.0.now, found.1))
      by (Ok target) g = g
      by (Err e) g = tt

-- it is made, whatever came of it
pub alter-made : (m : Mount) (new : Layers) (p : Path) (x : AttributeCall) (r : Result ℕ AllocError) → asked_fault (the_layers m) p x ≡ None →
    AltersUnless x m.layers new m.metacopy p r →
    MakesEach (call_at p x) m (record m { layers = new }) (done_result r)
alter-made m new p x (Ok key) fine y c =
    makes-done c (call_at p x) m new
    (λ s st. altered-done m s st new c p x key fine y)
    (λ s st fine. keeps-named m.layers new m.metacopy (call_at p x) y.live s st.layers st.metacopy c)
    (layers-asked m.layers new p x y.around y.texts) y.lowers y.sound.thin
alter-made m new p x (Err e) fine y c =
    makes-unshown c (call_at p x) m new (Err e) refl y.no_memory.mount y.no_memory.beneath
    (layers-asked m.layers new p x y.around y.texts) y.lowers y.sound.thin
