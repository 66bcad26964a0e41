use Rattle.std.proofs.Common.{rules, sym, ap, ◌∙◌}
use Rattle.layer_tree.specs.Change.{left_names}
use Rattle.layer_tree.proofs.layer.moves.leave_in.Goals as goal

pub returns-in-Directory-clause-retabled : goal.returns-in-Directory-clause-retabled
returns-in-Directory-clause-retabled c =
    record {
      before = c.in-Directory.directory;
      was = c.in-Directory.is;
      table = c.replace.new.self;
      entries = c.replace.ensures.entries ∙ sym (ap (λ b. left_names b c.args.name.now c.in-Directory.directory.names.entries) c.if-covered.true);
      spare = search rules;
      is = search rules;
    }

pub returns-in-Directory-2-clause-retabled : goal.returns-in-Directory-2-clause-retabled
returns-in-Directory-2-clause-retabled c =
    record {
      before = c.in-Directory.directory;
      was = c.in-Directory.is;
      table = c.remove.new.self;
      entries = c.remove.ensures.entries ∙ sym (ap (λ b. left_names b c.args.name.now c.in-Directory.directory.names.entries) c.if-covered.false);
      spare = search rules;
      is = search rules;
    }
