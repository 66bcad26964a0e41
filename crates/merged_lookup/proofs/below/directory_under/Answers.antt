use Rattle.std.proofs.Common.{Some, sym, ap, ◌∙◌}
use Rattle.std.specs.Option.{option_copied}
use Rattle.merged_lookup.proofs.Respelling.{directory-held}
use Rattle.merged_lookup.proofs.below.directory_under.Goals as goal

pub returns-in-Some-Directory : goal.returns-in-Some-Directory
returns-in-Some-Directory c =
    directory-held c.args.layer.now c.args.dir c.in_ok-dir.field-0 c.args.name.now c.in-Some-Object.key c.in-Some-Directory.directory c.in_ok-dir.was
    (sym c.entry.ensures ∙ c.in-Some-Object.is ∙ ap Some c.in-Some-Object.field-0-is)
    (sym c.node.ensures ∙ ap option_copied c.in-Some-Directory.is ∙ ap Some c.in-Some-Directory.field-0-is)
