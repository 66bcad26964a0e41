use Rattle.std.proofs.Common.{false, [], ◌∷◌, refl, ap, ◌∙◌}
use Rattle.mount_laws.specs.Renaming.{is_one}
use Rattle.plain_model.specs.Layers.{shows}
use Rattle.mount_calls.specs.Lacks.{copied_file, lack_among}
use Rattle.mount_calls.proofs.Lacking.{attribute-lack, rename-apart}
use Rattle.mount_calls.proofs.PlanLacks.{can-by, lack-by, name-lack}
use Rattle.mount_calls.proofs.Planning.{found-of}
use Rattle.mount_calls.proofs.Stating.{the_layers, the_lowers, the_upper}
use Rattle.mount_calls.proofs.mount.Mount.lack.Goals as goal

pub copied_file-file-requires : goal.copied_file-file-requires
copied_file-file-requires c =
    let found = found-of c.args.self.now c.requires.0 c.args.plan.now _ c.in-Rename.is c.requires.1 in
    (c.in-Rename.old.now, found.2.shown)

pub returns-in-Alter-clause-can : goal.returns-in-Alter-clause-can
returns-in-Alter-clause-can c =
    let m = c.args.self.now in
    can-by m c.args.plan.now _ c.attribute_lack.result c.requires c.in-Alter.is
    (c.attribute_lack.ensures
    ∙ attribute-lack (the_upper m) (the_lowers m) m.metacopy c.in-Alter.path.now c.in-Alter.ask)

pub returns-in-Mkdir-clause-can : goal.returns-in-Mkdir-clause-can
returns-in-Mkdir-clause-can c =
    let m = c.args.self.now in
    can-by m c.args.plan.now c.args.plan.now c.parent_lack.result c.requires refl
    (c.parent_lack.ensures ∙ name-lack m c.args.plan.now c.in-Mkdir.path c.in-Mkdir.look c.in-Mkdir.is)

pub returns-in-Open-clause-lack : goal.returns-in-Open-clause-lack
returns-in-Open-clause-lack c =
    lack-by c.args.self.now c.args.plan.now _ c.open_lack.result c.in-Open.is
    (c.open_lack.ensures c.in-Open.judged.mode)

pub returns-in-Open-clause-can : goal.returns-in-Open-clause-can
returns-in-Open-clause-can c =
    can-by c.args.self.now c.args.plan.now _ c.open_lack.result c.requires c.in-Open.is
    (c.open_lack.ensures c.in-Open.judged.mode)

pub returns-in-Link-clause-can : goal.returns-in-Link-clause-can
returns-in-Link-clause-can c =
    let m = c.args.self.now in
    let p = c.in-Link.old.now in
    let q = c.in-Link.new.now in
    let found = found-of m c.requires.0 c.args.plan.now _ c.in-Link.is c.requires.1 in
    can-by m c.args.plan.now _ c.both_lack.result c.requires c.in-Link.is
    (c.both_lack.ensures
    ∙ ap (λ d. lack_among (the_upper m) false (p ∷ (q ∷ [])) d)
    (c.copied_inode-file.ensures p found.2.shown))

pub returns-in-Rename-clause-can : goal.returns-in-Rename-clause-can
returns-in-Rename-clause-can c =
    let m = c.args.self.now in
    let p = c.in-Rename.old.now in
    let q = c.in-Rename.new.now in
    let found = found-of m c.requires.0 c.args.plan.now _ c.in-Rename.is c.requires.1 in
    can-by m c.args.plan.now _ c.both_lack-in-Rename.result c.requires c.in-Rename.is
    (c.both_lack-in-Rename.ensures
    ∙ ap (λ d. lack_among (the_upper m) false (p ∷ (q ∷ [])) d)
    (c.copied_file-file.ensures p found.2.shown)
    ∙ rename-apart (the_upper m) p q (is_one (the_upper m) p q)
    (copied_file m.metacopy (shows 0 (the_layers m) p)) found.2.apart)
