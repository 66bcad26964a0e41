use Rattle.std.proofs.Common.{Some, sym, ap, ◌∙◌}
use Rattle.merged_lookup.proofs.Ways.{blocked-way, missing-way}
use Rattle.merged_lookup.proofs.layers.Layers.fault_on.Goals as goal

pub returns-in-Some : goal.returns-in-Some
returns-in-Some c =
    let d = c.directories_on-directories in
    blocked-way c.args.self.now c.args.names.now d.result c.index-names-directories.result d.ensures.within c.index-names-directories.is d.ensures.directory d.ensures.nowhere c.as_slice.result.now (c.as_slice.ensures.value ∙ c.cross_all-parent.ensures) c.place.result (sym c.in-Some.ensures.place ∙ ap Some (sym c.place.ensures))
    ∙ ap Some (sym c.blocked.ensures)

pub returns-in-None : goal.returns-in-None
returns-in-None c =
    let d = c.directories_on-directories in
    missing-way c.args.self.now c.args.names.now d.result c.index-names-directories.result d.ensures.within c.index-names-directories.is d.ensures.directory d.ensures.nowhere c.as_slice.result.now (c.as_slice.ensures.value ∙ c.cross_all-parent.ensures) (sym c.in-None.ensures.place)
