use Rattle.std.proofs.Common.{◌≡◌, List, ℕ, Bool, true, false, cond, Ok, Err, refl, sym, subst, ◌∙◌}
use Rattle.ov_base.specs.declared.errno.Errno.{Errno}
use Rattle.ov_base.specs.declared.redirect.Redirect.TheVariants as redirect
use Rattle.ov_base.specs.Names.{is_name}
use Rattle.ov_base.specs.Paths.{path_of_text}
use Rattle.ov_wire.specs.ManifestEntries.{Answers, redirect_to}
use Rattle.ov_wire.proofs.manifest.entry.redirect_spelled.Goals as goal

-- what is refused as a name is none
no_name : (b : Bool) (text : List ℕ) (e fault : Errno) → Err e ≡ cond b (Ok text) (Err fault) → false ≡ b
no_name true text e fault is = cc
no_name false text e fault is = refl

pub returns-in-Err-clause-answer : goal.returns-in-Err-clause-answer
returns-in-Err-clause-answer c =
    let none = no_name (is_name c.args.text.now) c.args.text.now _ _ (sym c.in-Err.is ∙ c.in_ok-name.ensures.told) in
    subst (λ (b : Bool). Answers c.redirect_to.result (cond b (Ok (redirect.Single c.args.text.now)) (redirect_to (path_of_text c.args.text.now)))) none c.redirect_to.ensures.answer
