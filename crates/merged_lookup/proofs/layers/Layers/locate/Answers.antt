use Rattle.std.proofs.Common.{◌≡◌, ◌∙◌, subst, length, refl, arith}
use Rattle.std.proofs.lemmas.List.{nil_from_length}
use Rattle.layer_tree.specs.Tree.{IsTree}
use Rattle.merged_lookup.specs.declared.locate.Search.{Search}
use Rattle.merged_lookup.proofs.Locating.{place-shown}
use Rattle.merged_lookup.proofs.Searching.{begun, ended, taken-stand, taken-goes}
use Rattle.merged_lookup.proofs.layers.Layers.locate.Goals as goal

pub loop-init : goal.loop-init
loop-init c =
    let s = c.in_ok-search.search in
    let w = begun c.upper-layer.result.now s c.args.key c.in_ok-search.ensures.key c.if-key-eq-ROOT.false c.in_ok-search.ensures.waiting c.in_ok-search.ensures.best in
    record { key = c.in_ok-search.ensures.key; sound = w.0; covers = w.1 }

pub returns-in_default-clause-place : goal.returns-in_default-clause-place
returns-in_default-clause-place c =
    let empty : length c.loop.search.waiting.items ≡ 0 = grind (arith, c.in_default.ensures.cases.0) in
    let none = nil_from_length c.loop.search.waiting.items empty in
    ended c.args.self.now c.upper-layer.result.now c.loop.search c.args.key c.path.result c.upper-layer.ensures c.path.ensures c.loop.invariant.key none c.loop.invariant.sound c.loop.invariant.covers

pub returns-in_default-clause-shown : goal.returns-in_default-clause-shown
returns-in_default-clause-shown c =
    place-shown c.args.self.now (subst IsTree c.upper-layer.ensures c.lawful.ensures.tree) c.args.key c.path.result (returns-in_default-clause-place c)

pub look_in-requires : goal.look_in-requires
look_in-requires c =
    (taken-stand c.upper-layer.result.now c.loop.search c.pop.new.self.items c.in-Some.directory c.in-Some.ensures.items c.loop.invariant.sound).1

pub loop-preserved : goal.loop-preserved
loop-preserved c =
    let t = c.upper-layer.result.now in
    let s = c.loop.search in
    let between : Search = record { key = s.key; waiting = c.pop.new.self; best = s.best } in
    let goes = c.in_ok-look_in.ensures.goes in
    let stand = taken-stand t s c.pop.new.self.items c.in-Some.directory c.in-Some.ensures.items c.loop.invariant.sound in
    record {
      key = goes.key ∙ c.loop.invariant.key;
      sound = goes.sound (record { stand = stand.0; leads = c.loop.invariant.sound.leads });
      covers = taken-goes t s between c.look_in.new.self c.in-Some.directory c.args.key c.loop.invariant.key refl refl c.in-Some.ensures.items c.loop.invariant.covers goes c.in_ok-look_in.ensures.looked;
    }
