use Rattle.std.proofs.Common.{◌≡◌, Bool, List, ℕ, Err, rules, sym, subst, ◌∙◌}
use Rattle.toml.specs.View.{view, table_view}
use Rattle.layer_tree.specs.Tree.{layer_of}
use Rattle.ov_wire.specs.Drafts.{Places, Lists}
use Rattle.ov_wire.specs.ManifestLayers.{with_spelled}
use Rattle.ov_wire.proofs.Placing.{spelled-is}
use Rattle.ov_wire.proofs.Listing.{tells, lists-kept, lists-more}
use Rattle.ov_wire.proofs.manifest.place.read_entry.Goals.{then-is_further+in_ok-list, else-is_further}
use Rattle.ov_wire.proofs.manifest.place.read_entry.Goals as goal

pub returns-in_err-is_set-clause-places : goal.returns-in_err-is_set-clause-places
returns-in_err-is_set-clause-places c = λ a before d lists.
    let spelled = spelled-is c.args.limit c.args.blobs.now before (view c.args.entry.now) (table_view c.in-Some.entry.now) c.in_ok-path.path c.in_ok-path.item (sym c.in-Some.ensures) c.in_ok-path.ensures.answer in
    let told = tells c.args.limit c.args.blobs.now c.args.links.now before (table_view c.in-Some.entry.now) c.in_ok-path.path c.in_ok-path.item c.in_ok-to_further.to_further lists c.in_ok-path.ensures.answer c.in_ok-to_further.ensures in
    let same : c.from_residual-in_err-is_set.result ≡ Err c.in_err-is_set.field-0.0 = search rules in
    subst (λ r. Places {T = Bool} (λ is_set. is_set) (layer_of c.put.new.layer) a (with_spelled c.args.limit c.args.blobs.now before (view c.args.entry.now)) r) (sym same)
    (subst (λ w. Places {T = Bool} (λ is_set. is_set) (layer_of c.put.new.layer) a w (Err c.in_err-is_set.field-0.0)) (sym spelled) (c.in_err-is_set.ensures.places a before d told))

pub returns-clause-places : goal.returns-clause-places
returns-clause-places c = λ a before d lists.
    let spelled = spelled-is c.args.limit c.args.blobs.now before (view c.args.entry.now) (table_view c.in-Some.entry.now) c.in_ok-path.path c.in_ok-path.item (sym c.in-Some.ensures) c.in_ok-path.ensures.answer in
    let told = tells c.args.limit c.args.blobs.now c.args.links.now before (table_view c.in-Some.entry.now) c.in_ok-path.path c.in_ok-path.item c.in_ok-to_further.to_further lists c.in_ok-path.ensures.answer c.in_ok-to_further.ensures in
    let placed = c.in_ok-is_set.ensures.places a before d told in
    (placed.0, spelled ∙ placed.1, placed.2)

pub returns-clause-lists : goal.returns-clause-lists
returns-clause-lists c = λ before after lists w.
    let spelled = spelled-is c.args.limit c.args.blobs.now before (view c.args.entry.now) (table_view c.in-Some.entry.now) c.in_ok-path.path c.in_ok-path.item (sym c.in-Some.ensures) c.in_ok-path.ensures.answer in
    elim c.if-is_further.branch [
      | then-is_further+in_ok-list x ↦
          subst (λ (texts : List (List ℕ)). Lists texts after) (sym x.links-is)
          (lists-more c.args.limit c.args.blobs.now c.args.links.now x.list.new.links before after (table_view c.in-Some.entry.now) c.in_ok-path.path c.in_ok-path.item lists c.in_ok-path.ensures.answer (sym c.is_link-is_further.ensures ∙ x.if-is_further.true) x.in_ok-list.ensures (sym spelled ∙ w))
      | else-is_further x ↦
          subst (λ (texts : List (List ℕ)). Lists texts after) (sym x.links-is)
          (lists-kept c.args.links.now before after c.in_ok-path.path c.in_ok-path.item lists (sym c.is_link-is_further.ensures ∙ x.if-is_further.false) (sym spelled ∙ w))
    ]
