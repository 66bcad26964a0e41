use Rattle.std.proofs.Common.{Option, inl, ap, subst, sym, is_none, ◌∙◌}
use Rattle.merged_lookup.specs.declared.found.Topmost.{Topmost}
use Rattle.merged_lookup.specs.Merged.{IsTopmost}
use Rattle.mount_calls.proofs.Objects.{seen-top}
use Rattle.mount_calls.proofs.mount.Mount.object_seen.Goals as goal

pub object_of-requires : goal.object_of-requires
object_of-requires c =
    let l = c.args.self.now.layers in
    let p = c.requires.0 in
    let P : Option Topmost → Type 0 = λ t. IsTopmost l p t in
    (p, subst P (sym c.topmost.ensures ∙ c.in-Some.is) (seen-top l p c.args.look.now c.requires.1))

pub returns-in-Some : goal.returns-in-Some
returns-in-Some c = λ p at.
    let l = c.args.self.now.layers in
    let P : Option Topmost → Type 0 = λ t. IsTopmost l p t in
    c.object_of.ensures p (subst P (sym c.topmost.ensures ∙ c.in-Some.is)
    (seen-top l p c.args.look.now at))

pub returns-in-None : goal.returns-in-None
returns-in-None c = λ p at.
    let P : Option Topmost → Type 0 = λ t. IsTopmost c.args.self.now.layers p t in
    let nothing = subst P (sym c.topmost.ensures ∙ c.in-None.is) (seen-top c.args.self.now.layers p c.args.look.now at) in
    inl (ap is_none nothing.shown)
