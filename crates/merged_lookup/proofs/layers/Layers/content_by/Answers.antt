use Rattle.std.proofs.Common.{◌≡◌, None, Some, refl, ap, sym, ◌∙◌}
use Rattle.std.specs.Option.{option_copied}
use Rattle.plain_model.specs.Layers.{file_or, shows}
use Rattle.merged_lookup.specs.Merged.{lowers_of}
use Rattle.merged_lookup.proofs.Marking.{content-there, over-file}
use Rattle.merged_lookup.proofs.layers.Layers.content_by.Goals as goal

pub unreachable-requires : goal.unreachable-requires
unreachable-requires c =
    let shown = shows 1 (lowers_of c.args.self.now) c.args.mark.now in
    let none : Some (file_or c.args.own.now shown) ≡ None =
    content-there c.args.self.now c.args.mark.now c.in-Some.place c.args.own.now shown refl (sym c.in-Some.is ∙ c.low_file.ensures)
    ∙ sym c.file_at.ensures ∙ ap option_copied c.in-None.is in
    cc

pub returns : goal.returns
returns c =
    let shown = shows 1 (lowers_of c.args.self.now) c.args.mark.now in
    let there : Some c.in-Some-file_at.low.now ≡ Some (file_or c.args.own.now shown) =
    sym (ap option_copied c.in-Some-file_at.is) ∙ c.file_at.ensures
    ∙ sym (content-there c.args.self.now c.args.mark.now c.in-Some.place c.args.own.now shown refl (sym c.in-Some.is ∙ c.low_file.ensures)) in
    let one : c.in-Some-file_at.low.now ≡ file_or c.args.own.now shown = cc in
    one ∙ sym (over-file (lowers_of c.args.self.now) c.args.mark.now c.args.own.now c.in-File.field-0 c.in-File.is)
