use Rattle.std.proofs.Common.{◌≡◌, ◌∷◌, reverse, sym, ap, ◌∙◌, subst, Some}
use Rattle.plain_model.specs.Layers.{Path, below, shows}
use Rattle.layer_tree.specs.Tree.{layer_of}
use Rattle.merged_lookup.specs.declared.stack.Stack.{Stack}
use Rattle.merged_lookup.specs.Merged.{layers_of, top_of, IsStackOf}
use Rattle.copy_up.specs.Showing.{GainsParents}
use Rattle.copy_up.proofs.Keeping.{on-err, failed-stays, then-layers}
use Rattle.copy_up.proofs.OtherAttributes.{upper-named}
use Rattle.make_remove.proofs.Making.{absent-place}
use Rattle.rename_redirect.specs.Linking.{GivesName}
use Rattle.rename_redirect.proofs.Gained.{beside-name}
use Rattle.rename_redirect.proofs.Given.{gains-second, gives-name, fails-both, own-name, own-links, own-thin}
use Rattle.rename_redirect.proofs.Shown.{shown-apart}
use Rattle.rename_redirect.proofs.Texts.{marks-named, texts-since}
use Rattle.rename_redirect.proofs.links.link_own.Goals as goal

pub link_in_upper-requires-clause-place : goal.link_in_upper-requires-clause-place
link_in_upper-requires-clause-place c =
    let t = reverse c.in-Some.parents.now in
    (t, absent-place c.args.layers.now c.place_parents.new.layers c.args.new.now t c.in-Some.name.now c.placed_or.result.now c.top-dir.result c.in-Some.ensures c.place_parents.ensures.same c.requires.absent (subst (λ (s : Stack). IsStackOf c.place_parents.new.layers (reverse c.in-Some.parents.now) s) (sym c.placed_or.ensures) c.in_ok-placed.ensures.stack) (subst (λ (s : Stack). (top_of s.places.items).layer ≡ 0) (sym c.placed_or.ensures) c.in_ok-placed.ensures.upper) c.top-dir.ensures)

pub link_in_upper-requires-clause-source : goal.link_in_upper-requires-clause-source
link_in_upper-requires-clause-source c =
    let named = upper-named c.args.layers.now c.args.old.now c.args.place c.requires.shown.inode c.requires.own c.requires.shown.shown in
    (c.args.old.now, (c.place_parents.ensures.stays.names c.args.old.now c.args.place.key).1 named.named)

pub returns-in_err-link_in_upper-clause-no_memory : goal.returns-in_err-link_in_upper-clause-no_memory
returns-in_err-link_in_upper-clause-no_memory c =
    let p = c.place_parents.ensures in
    let l0 = c.args.layers.now in
    let l1 = c.place_parents.new.layers in
    on-err _ c.from_residual-in_err-link_in_upper.result
    (fails-both l0 l1 c.link_in_upper.new.layers p.same p.stays c.link_in_upper.ensures.lowers c.in_err-link_in_upper.ensures.unchanged c.in_err-link_in_upper.ensures.same c.link_in_upper.ensures.keeps c.args.old.now c.args.new.now (gains-second l0 l1 c.args.old.now c.args.new.now p.same (subst (GainsParents l0 l1) (sym c.in-Some.ensures) (p.gains c.in-Some.name.now))))

pub returns-clause-linked : goal.returns-clause-linked
returns-clause-linked c = λ low.
    let p = c.place_parents.ensures in
    let l0 = c.args.layers.now in
    let l1 = c.place_parents.new.layers in
    let l2 = c.link_in_upper.new.layers in
    let n = c.in-Some.name.now in
    let t = reverse c.in-Some.parents.now in
    let place = absent-place l0 l1 c.args.new.now t n c.placed_or.result.now c.top-dir.result c.in-Some.ensures p.same c.requires.absent (subst (λ (s : Stack). IsStackOf c.place_parents.new.layers (reverse c.in-Some.parents.now) s) (sym c.placed_or.ensures) c.in_ok-placed.ensures.stack) (subst (λ (s : Stack). (top_of s.places.items).layer ≡ 0) (sym c.placed_or.ensures) c.in_ok-placed.ensures.upper) c.top-dir.ensures in
    let named = upper-named l0 c.args.old.now c.args.place c.requires.shown.inode c.requires.own c.requires.shown.shown in
    let absent = p.same.absent (n ∷ t) (sym (ap (shows 0 (layers_of l0)) c.in-Some.ensures) ∙ c.requires.absent) in
    let adds = c.in_ok-link_in_upper.ensures.added t place c.args.old.now ((p.stays.names c.args.old.now c.args.place.key).1 named.named) in
    subst (λ (z : Path). GivesName l0 l2 low c.args.old.now z) (sym c.in-Some.ensures)
    (gives-name l0 l1 l2 p.same p.stays c.args.old.now (n ∷ t) low (gains-second l0 l1 c.args.old.now (n ∷ t) p.same (p.gains n))
    (own-name l1 l2 c.link_in_upper.ensures.lowers c.link_in_upper.ensures.keeps c.args.old.now n t absent adds low)
    (own-links l1 l2 c.link_in_upper.ensures.lowers c.link_in_upper.ensures.keeps c.args.old.now n t absent adds)
    (λ x a. beside-name l1.upper (layer_of l2.upper) c.args.old.now (n ∷ t) place.free adds x)
    c.in_ok-link_in_upper.ensures.directories c.args.place.key c.in_ok-link_in_upper.ensures.objects)

pub returns-clause-sound : goal.returns-clause-sound
returns-clause-sound c =
    let p = c.place_parents.ensures in
    let l0 = c.args.layers.now in
    let l1 = c.place_parents.new.layers in
    let l2 = c.link_in_upper.new.layers in
    let n = c.in-Some.name.now in
    let t = reverse c.in-Some.parents.now in
    let place = absent-place l0 l1 c.args.new.now t n c.placed_or.result.now c.top-dir.result c.in-Some.ensures p.same c.requires.absent (subst (λ (s : Stack). IsStackOf c.place_parents.new.layers (reverse c.in-Some.parents.now) s) (sym c.placed_or.ensures) c.in_ok-placed.ensures.stack) (subst (λ (s : Stack). (top_of s.places.items).layer ≡ 0) (sym c.placed_or.ensures) c.in_ok-placed.ensures.upper) c.top-dir.ensures in
    let named = upper-named l0 c.args.old.now c.args.place c.requires.shown.inode c.requires.own c.requires.shown.shown in
    let absent = p.same.absent (n ∷ t) (sym (ap (shows 0 (layers_of l0)) c.in-Some.ensures) ∙ c.requires.absent) in
    let adds = c.in_ok-link_in_upper.ensures.added t place c.args.old.now ((p.stays.names c.args.old.now c.args.place.key).1 named.named) in
    record {
      layers = then-layers l0 l1 l2 p.stays.sound.layers c.link_in_upper.ensures.lowers c.link_in_upper.ensures.keeps;
      thin = λ h. own-thin l1 l2 c.link_in_upper.ensures.lowers c.link_in_upper.ensures.keeps c.args.old.now n t absent adds (p.stays.sound.thin h);
    }

pub returns-clause-key : goal.returns-clause-key
returns-clause-key c =
    let p = c.place_parents.ensures in
    let l0 = c.args.layers.now in
    let l1 = c.place_parents.new.layers in
    let l2 = c.link_in_upper.new.layers in
    let n = c.in-Some.name.now in
    let t = reverse c.in-Some.parents.now in
    let place = absent-place l0 l1 c.args.new.now t n c.placed_or.result.now c.top-dir.result c.in-Some.ensures p.same c.requires.absent (subst (λ (s : Stack). IsStackOf c.place_parents.new.layers (reverse c.in-Some.parents.now) s) (sym c.placed_or.ensures) c.in_ok-placed.ensures.stack) (subst (λ (s : Stack). (top_of s.places.items).layer ≡ 0) (sym c.placed_or.ensures) c.in_ok-placed.ensures.upper) c.top-dir.ensures in
    let named = upper-named l0 c.args.old.now c.args.place c.requires.shown.inode c.requires.own c.requires.shown.shown in
    let still = (p.stays.names c.args.old.now c.args.place.key).1 named.named in
    let adds = c.in_ok-link_in_upper.ensures.added t place c.args.old.now still in
    let off = shown-apart (layers_of l0) c.args.old.now c.args.new.now c.args.place.layer c.args.place.key c.requires.shown.inode c.requires.shown.shown c.requires.absent in
    beside-name l1.upper (layer_of l2.upper) c.args.old.now (n ∷ t) place.free adds c.args.old.now (λ e. off (e ∙ sym c.in-Some.ensures)) ∙ still

pub returns-in_err-placed-clause-no_memory : goal.returns-in_err-placed-clause-no_memory
returns-in_err-placed-clause-no_memory c =
    let p = c.place_parents.ensures in
    let l0 = c.args.layers.now in
    let l1 = c.place_parents.new.layers in
    on-err _ c.from_residual.result (record { shown = p.same; mount = p.stays.mounts; beneath = gains-second l0 l1 c.args.old.now c.args.new.now p.same (subst (GainsParents l0 l1) (sym c.in-Some.ensures) (p.gains c.in-Some.name.now)) })

pub returns-in_err-link_in_upper-clause-sound : goal.returns-in_err-link_in_upper-clause-sound
returns-in_err-link_in_upper-clause-sound c =
    let p = c.place_parents.ensures in
    let l0 = c.args.layers.now in
    let l1 = c.place_parents.new.layers in
    (failed-stays l0 l1 c.link_in_upper.new.layers p.same p.stays c.link_in_upper.ensures.lowers c.in_err-link_in_upper.ensures.unchanged c.in_err-link_in_upper.ensures.same c.link_in_upper.ensures.keeps).sound

pub returns-clause-texts : goal.returns-clause-texts
returns-clause-texts c =
    let p = c.place_parents.ensures in
    let l0 = c.args.layers.now in
    let l1 = c.place_parents.new.layers in
    let l2 = c.link_in_upper.new.layers in
    let n = c.in-Some.name.now in
    let t = reverse c.in-Some.parents.now in
    let place = absent-place l0 l1 c.args.new.now t n c.placed_or.result.now c.top-dir.result c.in-Some.ensures p.same c.requires.absent (subst (λ (s : Stack). IsStackOf c.place_parents.new.layers (reverse c.in-Some.parents.now) s) (sym c.placed_or.ensures) c.in_ok-placed.ensures.stack) (subst (λ (s : Stack). (top_of s.places.items).layer ≡ 0) (sym c.placed_or.ensures) c.in_ok-placed.ensures.upper) c.top-dir.ensures in
    let named = upper-named l0 c.args.old.now c.args.place c.requires.shown.inode c.requires.own c.requires.shown.shown in
    let adds = c.in_ok-link_in_upper.ensures.added t place c.args.old.now ((p.stays.names c.args.old.now c.args.place.key).1 named.named) in
    texts-since l0 l1 l2 c.args.old.now p.same.passes p.stays
    (marks-named (layer_of l1.upper) (layer_of l2.upper) c.args.old.now (n ∷ t) (Some (below (layer_of l1.upper) c.args.old.now)) adds)
