use Rattle.std.proofs.Common.{◌≡◌, [], Some, None, false, refl, sym, ap, ◌∙◌}
use Rattle.ov_base.specs.declared.attributes.Attributes.{Attributes}
use Rattle.plain_model.specs.Layers.{Directory, held}
use Rattle.toml.specs.View.{items_view}
use Rattle.layer_tree.specs.Tree.{layer_of}
use Rattle.ov_wire.specs.Drafts.{first_root, has_text}
use Rattle.ov_wire.proofs.RootEntries.{root-said}
use Rattle.ov_wire.proofs.Placing.{draft-first}
use Rattle.ov_wire.proofs.Reading.{entry-on, entries-end, told}
use Rattle.ov_wire.proofs.Unmarked.{unmarked-new}
use Rattle.ov_wire.proofs.manifest.place.read_layer.Goals as goal

pub returns-in-Err-clause-reads : goal.returns-in-Err-clause-reads
returns-in-Err-clause-reads c =
    let so_far = c.loop-number.invariant in
    told c.args.limit c.args.blobs.now c.args.entries.now c.loop-number.number so_far.0 c.index-entries-number.result c.args.index (layer_of c.read_entry.new.layer) (first_root (items_view c.args.entries.now)) c.in-Err.error c.at.result
    c.at.ensures c.loop-number-test.true c.index-entries-number.is so_far.1 (c.in-Err.ensures.places (first_root (items_view c.args.entries.now)) so_far.0 so_far.2 so_far.3)

pub loop-number-preserved : goal.loop-number-preserved
loop-number-preserved c =
    let so_far = c.loop-number.invariant in
    let placed = c.in-Ok.ensures.places (first_root (items_view c.args.entries.now)) so_far.0 so_far.2 so_far.3 in
    (placed.0, so_far.1 ∙ entry-on c.args.limit c.args.blobs.now c.args.entries.now c.loop-number.number so_far.0 c.index-entries-number.result placed.0 c.loop-number-test.true c.index-entries-number.is placed.1, placed.2, c.in-Ok.ensures.lists so_far.0 placed.0 so_far.3 placed.1, c.in-Ok.ensures.unmarked so_far.4)

pub returns-clause-reads : goal.returns-clause-reads
returns-clause-reads c =
    let so_far = c.loop-number.invariant in
    let all = so_far.1 ∙ entries-end c.args.limit c.args.blobs.now c.args.entries.now c.loop-number.number so_far.0 c.loop-number-test.false in
    (so_far.0, all, record { root = so_far.2.root ∙ sym (root-said c.args.limit c.args.blobs.now 0 [] (items_view c.args.entries.now) so_far.0 all refl); below = so_far.2.below; apart = so_far.2.apart; lead = so_far.2.lead })

pub loop-number-init : goal.loop-number-init
loop-number-init c =
    let root : held (layer_of c.in_ok-layer.layer) [] ≡ Some (Directory 0 (first_root (items_view c.args.entries.now)) false None) =
    c.in_ok-layer.ensures.root ∙ ap (λ (a : Attributes). Some (Directory 0 a false None)) c.in_ok-root_attributes.ensures in
    ([], refl, draft-first (layer_of c.in_ok-layer.layer) (first_root (items_view c.args.entries.now)) c.in_ok-layer.ensures.layer root c.in_ok-layer.ensures.nothing_else, λ text p e. ap (λ texts. has_text texts text) c.new-links.ensures, unmarked-new c.in_ok-layer.layer c.in_ok-layer.ensures.no_inodes)
