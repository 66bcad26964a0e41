-- A link is answered as the machine answers it, whatever came of it.
use Rattle.std.proofs.Common.{◌≡◌, ℕ, None, Some, Result, Ok, Err, OnErr, OnOk, refl}
use Rattle.std.specs.declared.alloc.AllocError.{AllocError}
use Rattle.ov_base.specs.declared.call.CallOf.TheVariants as call
use Rattle.plain_model.specs.Layers.{Path}
use Rattle.merged_lookup.specs.declared.layers.Layers.{Layers}
use Rattle.mount_laws.specs.Linking.{link_fault}
use Rattle.copy_up.specs.Showing.{ChangesNoSight, StaysSound}
use Rattle.copy_up.specs.Texts.{KeepsTexts}
use Rattle.rename_redirect.specs.Linking.{GainsBoth, GivesName, LinkSteps}
use Rattle.mount_calls.specs.declared.mount.Mount.{Mount}
use Rattle.mount_calls.specs.Making.{MakesEach}
use Rattle.mount_calls.specs.Status.{done_result}
use Rattle.mount_calls.proofs.Changing.{link-done}
use Rattle.mount_calls.proofs.Frames.{but-given, but-parents}
use Rattle.mount_calls.proofs.Lasting.{both-live, link-live, link-leaves}
use Rattle.mount_calls.proofs.MakingCalls.{makes-done, makes-unshown}
use Rattle.mount_calls.proofs.Named.{keeps-named}
use Rattle.mount_calls.proofs.Stating.{the_layers}

module _ (m : Mount) (new : Layers) (p q : Path) (low : new.lowers ≡ m.layers.lowers)
    (texts : KeepsTexts m.layers new (Some p)) (sound : StaysSound m.layers new) where
  -- it is made, whatever came of it
  pub link-made :
      (r : Result ℕ AllocError) → link_fault (the_layers m) p q ≡ None →
      OnOk r (GivesName m.layers new m.metacopy p q) →
      OnOk r (LinkSteps m.layers new m.metacopy p q) →
      OnErr r (ChangesNoSight m.layers new (GainsBoth m.layers new p q)) →
      MakesEach (call.Hardlink p q) m (record m { layers = new }) (done_result r)
  link-made (Ok key) fine linked steps out c =
      let live = link-live m.layers new m.metacopy p q low linked steps in
      makes-done c (call.Hardlink p q) m new
      (λ s st. link-done m s st new c p q fine low (steps s st.layers st.metacopy c) live
      (link-leaves p q))
      (λ s st fine. keeps-named m.layers new m.metacopy (call.Hardlink p q) live s st.layers
      st.metacopy c)
      (record { paths = but-given m.layers new m.metacopy p q linked; texts = texts }) low
      sound.thin
  link-made (Err e) fine linked steps out c =
      makes-unshown c (call.Hardlink p q) m new (Err e) refl out.mount
      (both-live m.layers new p q out.beneath)
      (record { paths = but-parents m.layers new p q out.beneath; texts = texts }) low sound.thin
