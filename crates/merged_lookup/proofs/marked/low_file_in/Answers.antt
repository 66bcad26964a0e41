use Rattle.std.proofs.Common.{◌∷◌, ap, sym, ◌∙◌, map, reverse}
use Rattle.plain_model.specs.Layers.{shows}
use Rattle.layer_tree.specs.Tree.{layer_of}
use Rattle.merged_lookup.specs.Marking.{file_place, topmost_file}
use Rattle.merged_lookup.proofs.Marking.{root-none, file-shown}
use Rattle.merged_lookup.proofs.marked.low_file_in.Goals as goal

pub returns-in_err-name : goal.returns-in_err-name
returns-in_err-name c =
    c.from_residual.ensures ∙ root-none (map layer_of c.args.lowers.now) ∙ sym (ap (λ q. file_place (shows 1 (map layer_of c.args.lowers.now) q)) c.in_err-name.ensures)

pub returns-in_err-topmost_at : goal.returns-in_err-topmost_at
returns-in_err-topmost_at c =
    c.from_residual-in_err-topmost_at.ensures
    ∙ sym (ap (topmost_file (c.in_ok-first.field-0.now ∷ c.args.lowers.now)) c.in_err-topmost_at.was)
    ∙ file-shown c.in_ok-first.field-0.now c.args.lowers.now c.args.path.now (reverse c.in_ok-name.parents.now) c.in_ok-name.name.now c.cross_from-directories.result.items c.as_slice.result.now c.topmost_at.result c.in_ok-name.ensures c.cross_from-directories.ensures c.as_slice.ensures.value c.topmost_at.ensures.place c.topmost_at.ensures.directory

pub returns : goal.returns
returns c =
    c.place_of_file.ensures
    ∙ sym (ap (topmost_file (c.in_ok-first.field-0.now ∷ c.args.lowers.now)) c.in_ok-topmost_at.was)
    ∙ file-shown c.in_ok-first.field-0.now c.args.lowers.now c.args.path.now (reverse c.in_ok-name.parents.now) c.in_ok-name.name.now c.cross_from-directories.result.items c.as_slice.result.now c.topmost_at.result c.in_ok-name.ensures c.cross_from-directories.ensures c.as_slice.ensures.value c.topmost_at.ensures.place c.topmost_at.ensures.directory
