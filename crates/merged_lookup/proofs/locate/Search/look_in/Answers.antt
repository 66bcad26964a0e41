use Rattle.std.proofs.Common.{◌∷◌, ◌++◌, Some, sym, ap, ◌∙◌}
use Rattle.std.proofs.lemmas.List.{take_all}
use Rattle.std.specs.List.{list_any}
use Rattle.std.specs.Str.{bytes_eq}
use Rattle.merged_lookup.proofs.Locating.{child-below, bound-below}
use Rattle.merged_lookup.proofs.Searching.{further, covers-more}
use Rattle.merged_lookup.proofs.locate.Search.look_in.Goals as goal

pub loop-name-preserved : goal.loop-name-preserved
loop-name-preserved c =
    let t = c.args.layer.now in
    let k = c.args.self.now.key in
    let p = c.args.directory.now.path in
    record {
      goes = further t c.args.self.now c.loop-name.self c.meet.new.self c.loop-name.invariant.goes c.in_ok-meet.ensures.goes;
      looked =
          covers-more t k c.meet.new.self p c.bound_names-name-items.result.now c.loop-name.name-index c.name-item.result c.loop-name-test.true c.name-item.is
          (λ n h r e. c.in_ok-meet.ensures.goes.keeps (r ++ n ∷ p) (c.loop-name.invariant.looked n h r e))
          (λ r e. c.in_ok-meet.ensures.met r (e ∙ ap Some (sym c.loop-name.invariant.goes.key)));
    }

pub loop-name-preserved-in_default : goal.loop-name-preserved-in_default
loop-name-preserved-in_default c =
    let t = c.args.layer.now in
    let k = c.args.self.now.key in
    let p = c.args.directory.now.path in
    record {
      goes = c.loop-name.invariant.goes;
      looked =
          covers-more t k c.loop-name.self p c.bound_names-name-items.result.now c.loop-name.name-index c.name-item.result c.loop-name-test.true c.name-item.is c.loop-name.invariant.looked
          (λ r e. let w = child-below t r p c.name-item.result c.args.directory.now.key k c.requires e in absurd (cc (w.1, c.in_default.is, c.object_at.ensures)));
    }

pub returns-clause-looked : goal.returns-clause-looked
returns-clause-looked c = λ n r e.
    let names = c.bound_names-name-items.result.now in
    let all = take_all c.loop-name.name-index names c.loop-name-test.false in
    c.loop-name.invariant.looked n (ap (list_any (bytes_eq n)) all ∙ c.bound_names-name-items.ensures.names n ∙ bound-below c.args.layer.now r c.args.directory.now.path n c.args.directory.now.key c.args.self.now.key c.requires e) r e
