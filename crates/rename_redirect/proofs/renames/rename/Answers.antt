use Rattle.std.proofs.Common.{◌∙◌, ◌∷◌, Some, sym}
use Rattle.copy_up.proofs.Keeping.{on-err, failed-stays, then-layers}
use Rattle.rename_redirect.proofs.Given.{fails-both}
use Rattle.rename_redirect.proofs.Since.{does-since, still-topmost, still-one, still-folder, still-unnamed}
use Rattle.rename_redirect.proofs.Steps.{renamed-over, rename-steps}
use Rattle.rename_redirect.proofs.Texts.{texts-both, texts-since}
use Rattle.rename_redirect.proofs.renames.rename.Goals as goal

pub move_placed-requires-clause-shown : goal.move_placed-requires-clause-shown
move_placed-requires-clause-shown c =
    still-topmost c.args.layers.now c.place_ways.new.layers c.args.old.now c.args.new.now
    c.place_ways.ensures.same c.place_ways.ensures.stays c.place_ways.ensures.gains
    c.requires.may.1.out c.requires.may.1.within c.args.moving.top c.requires.may.1.shown

pub move_placed-requires-clause-kind : goal.move_placed-requires-clause-kind
move_placed-requires-clause-kind c = λ h. still-unnamed c.args.layers.now c.place_ways.new.layers c.args.old.now c.args.new.now c.place_ways.ensures.same c.place_ways.ensures.stays c.place_ways.ensures.gains c.requires.may.1.out c.requires.may.1.within (c.requires.may.1.kind (sym (still-folder c.args.layers.now c.place_ways.new.layers c.args.old.now c.args.new.now c.place_ways.ensures.same c.place_ways.ensures.stays c.place_ways.ensures.gains c.requires.may.1.out c.requires.may.1.within) ∙ h))

pub move_placed-requires-clause-empty : goal.move_placed-requires-clause-empty
move_placed-requires-clause-empty c = λ n. c.place_ways.ensures.same.absent (n ∷ c.args.new.now) (c.requires.may.1.empty n)

pub move_placed-requires-clause-apart : goal.move_placed-requires-clause-apart
move_placed-requires-clause-apart c = still-one c.args.layers.now c.place_ways.new.layers c.args.old.now c.args.new.now c.place_ways.ensures.same c.place_ways.ensures.stays c.place_ways.ensures.gains c.requires.may.1.out c.requires.may.1.within ∙ c.requires.may.1.apart

pub returns-in_err-renamed-clause-no_memory : goal.returns-in_err-renamed-clause-no_memory
returns-in_err-renamed-clause-no_memory c = on-err _ c.from_residual-in_err-renamed.result (fails-both c.args.layers.now c.place_ways.new.layers c.move_placed.new.layers c.place_ways.ensures.same c.place_ways.ensures.stays c.move_placed.ensures.lowers c.in_err-renamed.ensures.unchanged c.in_err-renamed.ensures.same c.move_placed.ensures.keeps c.args.old.now c.args.new.now c.place_ways.ensures.gains)

pub returns-in_err-renamed-clause-keeps : goal.returns-in_err-renamed-clause-keeps
returns-in_err-renamed-clause-keeps c = (failed-stays c.args.layers.now c.place_ways.new.layers c.move_placed.new.layers c.place_ways.ensures.same c.place_ways.ensures.stays c.move_placed.ensures.lowers c.in_err-renamed.ensures.unchanged c.in_err-renamed.ensures.same c.move_placed.ensures.keeps).sound.layers

pub returns-in_err-renamed-clause-thin : goal.returns-in_err-renamed-clause-thin
returns-in_err-renamed-clause-thin c = λ h. (failed-stays c.args.layers.now c.place_ways.new.layers c.move_placed.new.layers c.place_ways.ensures.same c.place_ways.ensures.stays c.move_placed.ensures.lowers c.in_err-renamed.ensures.unchanged c.in_err-renamed.ensures.same c.move_placed.ensures.keeps).sound.thin

pub returns-in_err-renamed-clause-texts : goal.returns-in_err-renamed-clause-texts
returns-in_err-renamed-clause-texts c =
    texts-both c.args.layers.now c.move_placed.new.layers c.args.old.now c.args.new.now (Some c.args.old.now)
    (fails-both c.args.layers.now c.place_ways.new.layers c.move_placed.new.layers
    c.place_ways.ensures.same c.place_ways.ensures.stays c.move_placed.ensures.lowers
    c.in_err-renamed.ensures.unchanged c.in_err-renamed.ensures.same c.move_placed.ensures.keeps
    c.args.old.now c.args.new.now c.place_ways.ensures.gains).beneath

pub returns-clause-keeps : goal.returns-clause-keeps
returns-clause-keeps c = then-layers c.args.layers.now c.place_ways.new.layers c.move_placed.new.layers c.place_ways.ensures.stays.sound.layers c.move_placed.ensures.lowers c.move_placed.ensures.keeps

pub returns-clause-thin : goal.returns-clause-thin
returns-clause-thin c = λ h t. c.in_ok-renamed.ensures.thin (c.place_ways.ensures.stays.sound.layers h) (c.place_ways.ensures.stays.sound.thin t)

pub returns-clause-does : goal.returns-clause-does
returns-clause-does c = does-since c.args.layers.now c.place_ways.new.layers c.args.old.now
    c.args.new.now c.place_ways.ensures.same c.place_ways.ensures.stays c.place_ways.ensures.gains
    c.requires.may.1.out c.requires.may.1.within c.move_placed.new.layers c.args.metacopy
    c.in_ok-renamed.renamed c.in_ok-renamed.ensures.does

pub returns-clause-steps : goal.returns-clause-steps
returns-clause-steps c = λ redirects may.
    let l = c.args.layers.now in
    let p = c.args.old.now in
    let q = c.args.new.now in
    let does = does-since c.args.layers.now c.place_ways.new.layers c.args.old.now c.args.new.now
    c.place_ways.ensures.same c.place_ways.ensures.stays c.place_ways.ensures.gains
    c.requires.may.1.out c.requires.may.1.within c.move_placed.new.layers c.args.metacopy
    c.in_ok-renamed.renamed c.in_ok-renamed.ensures.does in
    rename-steps l c.move_placed.new.layers redirects c.args.metacopy p q may.fine may.empty
    may.apart
    (renamed-over l c.move_placed.new.layers c.args.metacopy p q c.in_ok-renamed.renamed does)

pub returns-clause-texts : goal.returns-clause-texts
returns-clause-texts c =
    texts-since c.args.layers.now c.place_ways.new.layers c.move_placed.new.layers c.args.old.now c.place_ways.ensures.same.passes c.place_ways.ensures.stays
    c.in_ok-renamed.ensures.texts
