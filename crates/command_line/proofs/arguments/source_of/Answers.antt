use Rattle.std.proofs.Common.{◌∙◌, codes, refl, sym}
use Rattle.clap.specs.Matches.{found_of}
use Rattle.clap.proofs.WalkLemmas.{first_value-rows}
use Rattle.command_line.proofs.Told.{flag, told}
use Rattle.command_line.proofs.arguments.source_of.Goals as goal

pub returns : goal.returns
returns c =
    let found = found_of c.args.matches.now in record {
      manifest_named = sym (first_value-rows found (codes "MANIFEST")) ∙ sym c.in_ok-manifest.ensures;
      limit_told = told found (codes "manifest-limit") _ c.in_ok-manifest_limit.manifest_limit refl
          c.in_ok-manifest_limit.ensures.none c.in_ok-manifest_limit.ensures.value;
      upper_named = sym (first_value-rows found (codes "upper")) ∙ sym c.get_str-upper.ensures;
      explains = flag found (codes "explain") c.get_flag-explain.result
          c.get_flag-explain.ensures.value c.get_flag-explain.ensures.other
          c.get_flag-explain.ensures.none;
    }
