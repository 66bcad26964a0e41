-- The names that a row of cursors has left.
use Rattle.std.specs.Prelude.{List, [], ◌∷◌, ◌++◌}
use Rattle.plain_model.specs.Layers.{Name}
use Rattle.merged_lookup.specs.declared.cursor.Cursor.{Cursor}
use Rattle.merged_lookup.specs.Passing.{pass}

-- root first, the lowest layer's cursor being the first
abbrev pub spelled : List Cursor → List Name
spelled [] = []
spelled (c ∷ cs) = c.names.now ++ pass c.layer.now c.dir (spelled cs)
