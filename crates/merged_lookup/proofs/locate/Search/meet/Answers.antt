use Rattle.std.proofs.Common.{◌∷◌, ◌++◌, Some, sym, ap, ◌∙◌, subst, refl}
use Rattle.std.proofs.lemmas.Bool.{true≢false}
use Rattle.std.proofs.lemmas.Result.{on_ok_weaker}
use Rattle.plain_model.specs.Layers.{Path}
use Rattle.layer_tree.specs.Tree.{key_at}
use Rattle.merged_lookup.specs.declared.locate.Waiting.{Waiting}
use Rattle.merged_lookup.specs.declared.locate.Search.{Search}
use Rattle.merged_lookup.specs.Searching.{Covers, Offers}
use Rattle.merged_lookup.proofs.Searching.{offered-goes, offered-meets, put-off-goes, put-off-meets, passed-meets}
use Rattle.merged_lookup.proofs.locate.Search.meet.Goals as goal

pub returns-then-key-self-clause-goes : goal.returns-then-key-self-clause-goes
returns-then-key-self-clause-goes c =
    let at = c.requires ∙ ap Some c.if-key-self.true in
    on_ok_weaker c.offer.result (λ o. offered-goes c.args.layer.now c.args.self.now c.offer.new.self c.in_ok-path_below.field-0 (ap (key_at c.args.layer.now) c.in_ok-path_below.ensures ∙ at) o) c.offer.ensures

pub returns-then-key-self-clause-met : goal.returns-then-key-self-clause-met
returns-then-key-self-clause-met c =
    let at = c.requires ∙ ap Some c.if-key-self.true in
    let P : Path → Type 0 = λ p. Offers p c.args.self.now c.offer.new.self in
    on_ok_weaker c.offer.result (λ o. offered-meets c.args.layer.now c.lawful.ensures.together c.args.self.now c.offer.new.self (c.args.name.now ∷ c.args.directory.now.path) at (subst P c.in_ok-path_below.ensures o)) c.offer.ensures

pub returns-in_ok-push-clause-goes : goal.returns-in_ok-push-clause-goes
returns-in_ok-push-clause-goes c =
    let d : Waiting = record { key = c.args.key; path = c.in_ok-path.path } in
    put-off-goes c.args.layer.now c.args.self.now _ d (ap (key_at c.args.layer.now) c.in_ok-path.ensures ∙ c.requires) refl refl c.in_ok-push.ensures.items

pub returns-in_ok-push-clause-met : goal.returns-in_ok-push-clause-met
returns-in_ok-push-clause-met c =
    let d : Waiting = record { key = c.args.key; path = c.in_ok-path.path } in
    let new : Search = record { key = c.args.self.now.key; waiting = c.push.new.self; best = c.args.self.now.best } in
    let P : Path → Type 0 = λ p. (r : Path) → Covers c.args.layer.now c.args.self.now.key new (r ++ p) in
    subst P c.in_ok-path.ensures (put-off-meets c.args.layer.now c.args.self.now new d (ap (key_at c.args.layer.now) c.in_ok-path.ensures ∙ c.requires) refl refl c.in_ok-push.ensures.items c.if-key-self.false)

pub returns-else-is_directory-clause-met : goal.returns-else-is_directory-clause-met
returns-else-is_directory-clause-met c =
    passed-meets c.args.layer.now c.args.self.now (c.args.name.now ∷ c.args.directory.now.path) c.args.key c.requires c.if-key-self.false (λ h. true≢false (sym (c.is_directory.ensures.1 h) ∙ c.if-is_directory.false))
