use Rattle.std.proofs.lemmas.Result.{on_ok_weaker}
use Rattle.rename_redirect.proofs.Given.{link-steps}
use Rattle.rename_redirect.proofs.Texts.{texts-given}
use Rattle.rename_redirect.proofs.links.link.Goals as goal

pub returns-then-place-eq0-clause-linked : goal.returns-then-place-eq0-clause-linked
returns-then-place-eq0-clause-linked c = on_ok_weaker c.link_own.result (λ linked. linked c.args.metacopy) c.link_own.ensures.linked

pub returns-then-place-eq0-clause-steps : goal.returns-then-place-eq0-clause-steps
returns-then-place-eq0-clause-steps c =
    on_ok_weaker c.link_own.result (λ linked. link-steps c.args.layers.now c.link_own.new.layers c.args.metacopy c.args.old.now c.args.new.now c.link_own.ensures.lowers c.requires.may.fine (linked c.args.metacopy)) c.link_own.ensures.linked

pub returns-then-place-eq0-clause-texts : goal.returns-then-place-eq0-clause-texts
returns-then-place-eq0-clause-texts c =
    texts-given c.link_own.result c.args.layers.now c.link_own.new.layers c.args.old.now c.args.new.now c.link_own.ensures.texts c.link_own.ensures.no_memory

pub returns-clause-steps : goal.returns-clause-steps
returns-clause-steps c =
    on_ok_weaker c.link_copy.result (λ linked. link-steps c.args.layers.now c.link_copy.new.layers c.args.metacopy c.args.old.now c.args.new.now c.link_copy.ensures.lowers c.requires.may.fine linked) c.link_copy.ensures.linked

pub returns-clause-texts : goal.returns-clause-texts
returns-clause-texts c =
    texts-given c.link_copy.result c.args.layers.now c.link_copy.new.layers c.args.old.now c.args.new.now c.link_copy.ensures.texts c.link_copy.ensures.no_memory
