-- The upper layer, lent to be changed.
use Rattle.std.specs.Borrow.{Lends, MutBor, Fml}
use Rattle.layer_tree.specs.Tree.{Tree}
use Rattle.layer_tree.specs.contracts.layer.Layer as layer
use Rattle.merged_lookup.specs.declared.layers.Layers.{Layers}
use Rattle.merged_lookup.specs.declared.stacked.Stacked.{Stacked}
use Rattle.merged_lookup.specs.contracts.layers.Layers.{the_row}
use Rattle.merged_lookup.specs.contracts.stacked.Stacked as stacked_row

-- the layers end with the upper that is left, and the lower ones that they had
abbrev pub LendsUpper : MutBor Layers → MutBor Tree → Fml
LendsUpper s r = Lends the_row layer.the_row s r (λ u. record s.now { upper = u })

-- so of the layers alone
abbrev pub LendsStacked : MutBor Stacked → MutBor Tree → Fml
LendsStacked s r = Lends stacked_row.the_row layer.the_row s r (λ u. record s.now { upper = u })
