use Rattle.std.proofs.Common.{◌∙◌, ap, true}
use Rattle.clap.specs.Simple.{Shape, app_of_fields, on_top}
use Rattle.command_line.proofs.arguments.bare.Goals as goal

-- one of several subcommands is wanted
abbrev wanting : Shape → Shape
wanting s = record s { subcommand_required = true }

-- it has a version
abbrev with_version : Shape → Shape
with_version s = record s { has_version = true }

pub returns : goal.returns
returns c =
    ap app_of_fields c.subcommand_required.ensures
    ∙ ap (on_top wanting) (ap app_of_fields c.about.ensures
    ∙ (ap app_of_fields c.version.ensures ∙ ap (on_top with_version) c.new.ensures.app))
