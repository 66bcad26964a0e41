use Rattle.std.proofs.Common.{◌≡◌, ◌≤◌, ◌<◌, ◌∷◌, length, arith, Option, sym, subst}
use Rattle.merged_lookup.specs.declared.found.Found.{Found}
use Rattle.merged_lookup.specs.Merged.{trees, IsAnswer}
use Rattle.merged_lookup.proofs.Looking.{step-directory, step-inode, step-none}
use Rattle.merged_lookup.proofs.layers.Layers.found.Goals as goal

pub returns-then-not-is_empty : goal.returns-then-not-is_empty
returns-then-not-is_empty c =
    let few : length (trees c.args.self.now) ≤ 17 = omega (arith, c.args.self.now.few_lowers) in
    let some : 0 < length c.enter-inode.new.places.items = grind arith in
    λ p is. step-directory c.args.self.now c.args.places.items c.args.name.now few c.enter-inode.new.places.items c.enter-inode.ensures.reached p is some

pub returns-in_err-inode : goal.returns-in_err-inode
returns-in_err-inode c =
    let few : length (trees c.args.self.now) ≤ 17 = omega (arith, c.args.self.now.few_lowers) in
    let none : length c.enter-inode.new.places.items ≡ 0 = grind arith in
    λ p is.
    let P : Option Found → Type 0 = λ r. IsAnswer c.args.self.now (c.args.name.now ∷ p) r in
    subst P (sym c.from_residual.ensures)
    (step-none c.args.self.now c.args.places.items c.args.name.now few c.enter-inode.new.places.items c.enter-inode.ensures.reached p is c.enter-inode.result c.in_err-inode.was none c.enter-inode.ensures.inode)

pub returns : goal.returns
returns c =
    let few : length (trees c.args.self.now) ≤ 17 = omega (arith, c.args.self.now.few_lowers) in
    let none : length c.enter-inode.new.places.items ≡ 0 = grind arith in
    λ p is. step-inode c.args.self.now c.args.places.items c.args.name.now few c.enter-inode.new.places.items c.enter-inode.ensures.reached p is c.in_ok-inode.field-0 c.enter-inode.result c.in_ok-inode.was none c.enter-inode.ensures.inode
