-- What the looks of a call saw.
use Rattle.std.proofs.Common.{◌≡◌, Option, None, Result, Ok, IfOk, subst}
use Rattle.ov_base.specs.declared.errno.Errno.{Errno}
use Rattle.plain_model.specs.Layers.{Path}
use Rattle.layer_tree.specs.Tree.{layer_of, IsHeldTogether}
use Rattle.merged_lookup.specs.declared.layers.Layers.{Layers}
use Rattle.merged_lookup.specs.declared.found.Topmost.{Topmost}
use Rattle.merged_lookup.specs.declared.stack.Stack.{Stack}
use Rattle.merged_lookup.specs.Merged.{upper_of, parent, top_of, IsStackOf}
use Rattle.copy_up.proofs.Keeping.{held-on-top}
use Rattle.mount_calls.specs.declared.look.Look.{Look}
use Rattle.mount_calls.specs.Lacks.{lacking}
use Rattle.mount_calls.specs.Looking.{IsLook}
use Rattle.mount_calls.proofs.Placing.{held-to}

-- a look that saw a directory of the upper on the way: the upper has each parent
pub saw-parents : (l : Layers) (p : Path) (look : Look) (directory : Stack) (top : Option Topmost) → IsHeldTogether (layer_of l.upper) → IsLook l p look →
    look.shown ≡ Ok (directory, top) → (top_of directory.places.items).layer ≡ 0 → lacking (upper_of l) p ≡ None
saw-parents l p look directory top together saw is upper =
    let at : IsStackOf l (parent p) directory =
    subst (λ (r : Result (Stack × Option Topmost) Errno). IfOk r (λ seen. IsStackOf l (parent p) seen.0)) is saw.directory in
    held-to (layer_of l.upper) together (parent p) (held-on-top l (parent p) directory at.places upper)
