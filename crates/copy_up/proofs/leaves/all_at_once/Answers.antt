use Rattle.std.proofs.Common.{◌∷◌, Some, None, reverse, refl}
use Rattle.plain_model.specs.Layers.{Path}
use Rattle.copy_up.proofs.Keeping.{no-sight, on-err}
use Rattle.copy_up.proofs.Copying.{leaf_of, answer-more}
use Rattle.copy_up.proofs.leaves.all_at_once.Goals as goal

pub content_of-requires-clause-shown : goal.content_of-requires-clause-shown
content_of-requires-clause-shown c = (
  c.args.name.now ∷ reverse c.args.parents.now,
  record { inode = Some c.requires.shown.0; shown = c.requires.shown.1 },
)

pub returns-in_err-content-clause-no_memory : goal.returns-in_err-content-clause-no_memory
returns-in_err-content-clause-no_memory c =
    on-err _ c.from_residual.result
    (no-sight c.args.layers.now c.args.layers.now
    (c.args.name.now ∷ reverse c.args.parents.now) refl refl)

pub place_leaf-requires-clause-leaf : goal.place_leaf-requires-clause-leaf
place_leaf-requires-clause-leaf c = (leaf_of c.in_ok-content.content None c.args.attributes, refl)

pub returns-clause-copied : goal.returns-clause-copied
returns-clause-copied c =
    let p : Path = c.args.name.now ∷ reverse c.args.parents.now in
    answer-more _ _ _ c.place_leaf.result c.place_leaf.ensures.copied (λ key copied i shown.
    copied i (leaf_of c.in_ok-content.content None c.args.attributes) shown refl
    (c.in_ok-content.ensures p i shown))
