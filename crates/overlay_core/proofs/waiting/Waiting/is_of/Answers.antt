use Rattle.std.proofs.Common.{◌≡◌, reverse, sym, ap, ap₂, ◌∙◌}
use Rattle.std.proofs.lemmas.List.{reverse-reverse}
use Rattle.ov_base.specs.declared.call.CallOf.TheVariants.{Open}
use Rattle.plain_model.specs.Layers.{same_path}
use Rattle.plain_model.proofs.Paths.{paths_tell}
use Rattle.overlay_core.specs.Waits.{waiting_call}
use Rattle.overlay_core.proofs.Waited.{same-flags}
use Rattle.overlay_core.proofs.waiting.Waiting.is_of.Goals as goal

pub returns : goal.returns
returns c = λ yes.
    let w = c.args.self.now in
    let j = c.args.job.now in
    let p = c.in-Open.path in
    let same : c.eq.result ≡ same_path w.names.items (reverse p) = c.eq.ensures ∙ ap₂ same_path c.as_slice.ensures.value c.names.ensures in
    let path : reverse w.names.items ≡ p =
    ap reverse ((paths_tell w.names.items (reverse p)).0 (sym same ∙ yes)) ∙ reverse-reverse p in
    let client : j.client ≡ w.client = sym c.client.ensures ∙ sym c.if-self-client.false in
    let flags : w.flags ≡ c.in-Open.flags = same-flags w.flags c.in-Open.flags c.if-ne.ensures in
    let mode : w.mode ≡ c.in-Open.mode = c.if-self-mode.false in
    let is : j.call ≡ Open p c.in-Open.flags c.in-Open.mode = sym c.call.ensures ∙ c.in-Open.is in
    let call : j.call ≡ waiting_call w = cc in
    (client, call)
