use Rattle.std.proofs.Common.{◌≡◌, ◌&&◌, refl, is_none, rules}
use Rattle.plain_model.specs.Layers.{shows}
use Rattle.merged_lookup.specs.Merged.{layers_of}
use Rattle.mount_calls.specs.Keeping.{BringsNone}
use Rattle.mount_calls.proofs.Frames.{none-same, none-then, reads-whole, unless-first}
use Rattle.mount_calls.proofs.Openings.{flags-fine}
use Rattle.mount_calls.proofs.mount.Mount.open_judged.Goals as goal

pub returns-in-Some-clause-layers : goal.returns-in-Some-clause-layers
returns-in-Some-clause-layers c =
    let old = c.args.self.now.layers in
    let new = c.open_shown.new.self.layers in
    let p = c.args.path.now in
    let f = c.args.flags in
    let fine = flags-fine (layers_of old) p f c.args.judged.mode c.requires.judged.allowed in
    record {
      paths =
          unless-first f.writes (f.create && is_none (shows 0 (layers_of old) p)) (BringsNone old new p) (new ≡ old)
          (none-then old old new p c.open_shown.ensures.objects (none-same old old p refl))
          (λ off. c.open_shown.ensures.layers (reads-whole f fine off));
      texts = c.open_shown.ensures.texts;
    }

pub returns-in-None-clause-layers : goal.returns-in-None-clause-layers
returns-in-None-clause-layers c = record { paths = search rules; texts = c.open_made.ensures.texts }
