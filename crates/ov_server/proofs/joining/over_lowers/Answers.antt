use Rattle.std.proofs.Common.{◌∙◌, true, ap}
use Rattle.toml.specs.Data.{item}
use Rattle.toml.specs.View.{items_view, table_view, view}
use Rattle.toml.proofs.Views.{view-Array, view-Boolean}
use Rattle.ov_server.proofs.GoingOn.{joined_view}
use Rattle.ov_server.proofs.joining.over_lowers.Goals as goal

pub returns : goal.returns
returns c =
    joined_view (table_view c.args.manifest) _ _ _ _ _ _ (view c.args.upper)
    (items_view c.in_ok-joined.joined.items) (items_view c.in_ok-own.own.items) _
    c.in_ok-own.ensures.rest.1 c.in_ok-put.ensures.put c.in_ok-put-2.ensures.put
    (view-Array c.in_ok-joined.joined) (view-Boolean true) (c.in_ok-joined.ensures ∙ ap (item (view c.args.upper)) c.lowers_in.ensures)
    c.in_ok-own.ensures.layers c.has_upper-has_upper.ensures
