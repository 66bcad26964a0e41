-- A number that no tracked object has is given to a node: what its bearers are then, and that one more may be held so.
use Rattle.std.proofs.Common.{◌≡◌, ◌≢◌, ℕ, ◌<◌, ◌≤◌, true, false, cond, List, ◌∷◌, Option, None, Some, refl, sym, ap, subst, ◌∙◌, ◌⊎◌, inl, inr, nat_eq, arith}
use Rattle.std.specs.Option.{IsSome, is_some}
use Rattle.std.proofs.lemmas.Bool.{cases_Bool, false≢true, both_ways, eqb-true, eq-eqb}
use Rattle.ov_base.specs.declared.node_id.NodeId.{NodeId}
use Rattle.ov_base.specs.declared.node_id.NodeId.TheVariants.{New}
use Rattle.plain_model.specs.Layers.{Path, Layer, Shown, shows, is_directory}
use Rattle.plain_model.specs.Tree.{Tree, node_at, count_of, IsKept}
use Rattle.plain_model.specs.Machine.{State}
use Rattle.plain_model.proofs.Kept.{at-path}
use Rattle.mount_laws.specs.Looks.{IsMountOf, shows_link}
use Rattle.mount_laws.proofs.Looks.{at-some}
use Rattle.mount_laws.proofs.OpenFiles.{law_of_live_shown}
use Rattle.object_table.specs.Objects.{Objects, Spot, spot_of, IsVacant}
use Rattle.notice_laws.specs.declared.object.Object.{Object}
use Rattle.notice_laws.specs.declared.object.Object.TheVariants as object
use Rattle.notice_laws.specs.Notified.{Notified, Bearers, IsAt, AreBorne, Tracks}
use Rattle.notice_laws.specs.Objects.{IsObject, IsNumberOf, Means}
use Rattle.notice_laws.specs.Steps.{IsSpotOf}
use Rattle.notice_laws.specs.Opens.{LawOfHeldNumber}
use Rattle.notice_laws.proofs.FewerObjects.{alike-known}
use Rattle.notice_laws.proofs.ObjectNodes.{at-folder, folder-alone, lower-alone}
use Rattle.notice_laws.proofs.Slots.{AreSameBearers, slot-more}
use Rattle.notice_laws.proofs.Numbers.{law_of_numbers}

-- the bearers with a node for a number
abbrev pub with_bearer : Bearers → ℕ → NodeId → Bearers
with_bearer bearers number d n = cond (nat_eq n number) d (bearers n)

-- the number has it
pub with-here : (bearers : Bearers) (number : ℕ) (d : NodeId) → with_bearer bearers number d number ≡ d
with-here bearers number d = ap (λ b. cond b d (bearers number)) (eq-eqb number number refl)

-- every other has its own
pub with-other : (bearers : Bearers) (number : ℕ) (d : NodeId) (n : ℕ) → n ≢ number → with_bearer bearers number d n ≡ bearers n
with-other bearers number d n other = by (cases_Bool (nat_eq n number))
  where
    by : (nat_eq n number ≡ true) ⊎ (nat_eq n number ≡ false) → with_bearer bearers number d n ≡ bearers n
    by (inl y) = absurd (other (eqb-true n number y))
    by (inr f) = ap (λ b. cond b d (bearers n)) f

-- a number that is unknown is no tracked object's
pub unknown-other : (objects : Objects) (number : ℕ) → spot_of objects number ≡ None → (n : ℕ) → IsSome (spot_of objects n) → n ≢ number
unknown-other objects number unknown n there same =
    false≢true (sym (ap is_some unknown) ∙ ap (λ m. is_some (spot_of objects m)) (sym same) ∙ there)

-- so these have the nodes that they had
pub with-same : (objects : Objects) (bearers : Bearers) (number : ℕ) (d : NodeId) → spot_of objects number ≡ None →
    AreSameBearers objects bearers (with_bearer bearers number d)
with-same objects bearers number d unknown n there = with-other bearers number d n (unknown-other objects number unknown n there)

-- A number that was none's is that of a node which no tracked object was; every other was tracked.
pub record GivesNumber (old new : Objects) (bearers : Bearers) (next number : ℕ) (d : NodeId) : Type 0 where
  pub were : (n : ℕ) → n ≢ number → IsSome (spot_of new n) → IsSome (spot_of old n)
  pub one : (m n : ℕ) → IsSome (spot_of old m) → IsSome (spot_of old n) → bearers m ≡ bearers n → m ≡ n
  pub fresh : (m : ℕ) → IsSome (spot_of old m) → bearers m ≢ d
  pub others : (n i : ℕ) → IsSome (spot_of old n) → bearers n ≡ New i → i < next
  pub given : (i : ℕ) → d ≡ New i → i < next

-- then tracked objects are nodes, where each is where it is
pub given-borne : (V : Layer) (u : Tree) (old new : Objects) (bearers : Bearers) (next number : ℕ) (d : NodeId) →
    GivesNumber old new bearers next number d → ((spot : Spot) → spot_of new number ≡ Some spot → IsAt V u spot d) →
    ((n : ℕ) (spot : Spot) → n ≢ number → spot_of new n ≡ Some spot → IsAt V u spot (bearers n)) →
    AreBorne V u next new (with_bearer bearers number d)
given-borne V u old new bearers next number d g here there = record {
  places = λ n spot is. by n
      (λ same. subst (λ m. IsAt V u spot (now m)) (sym same)
      (subst (IsAt V u spot) (sym (with-here bearers number d)) (here spot (ap (spot_of new) (sym same) ∙ is))))
      (λ other. subst (IsAt V u spot) (sym (with-other bearers number d n other)) (there n spot other is));
  given = λ n i known is. by n
      (λ same. g.given i (sym (with-here bearers number d) ∙ ap now (sym same) ∙ is))
      (λ other. g.others n i (g.were n other known) (sym (with-other bearers number d n other) ∙ is));
  one = λ m n first second is. by m
      (λ same. by n
      (λ too. same ∙ sym too)
      (λ other. absurd (g.fresh n (g.were n other second)
      (sym (with-other bearers number d n other) ∙ sym is ∙ ap now same ∙ with-here bearers number d))))
      (λ apart. by n
      (λ too. absurd (g.fresh m (g.were m apart first)
      (sym (with-other bearers number d m apart) ∙ is ∙ ap now too ∙ with-here bearers number d)))
      (λ other. g.one m n (g.were m apart first) (g.were n other second)
      (sym (with-other bearers number d m apart) ∙ is ∙ with-other bearers number d n other)));
}
  where
    now : Bearers
    now = with_bearer bearers number d

    by : {P : Type 0} (n : ℕ) → (n ≡ number → P) → (n ≢ number → P) → P
    by n yes-so not-so = elim (cases_Bool (nat_eq n number)) [
      | inl y ↦ yes-so (eqb-true n number y)
      | inr f ↦ not-so (λ e. both_ways (nat_eq n number) f (eq-eqb n number e))
    ]

-- a node at a path was there before the next serial
pub serial-before : (t : Tree) (serial : ℕ) → IsKept t serial → (p : Path) (d : NodeId) → node_at t p ≡ Some d →
    (i : ℕ) → d ≡ New i → i < serial
serial-before t serial kept p d at i is =
    let not : serial ≤ i → ⊥ = λ past. at-path t serial kept p d at (ap (λ x. count_of (t x)) is ∙ ap count_of (kept.unused i past)) in
    omega arith

-- what stands at a path, in the layers and in the machine's tree
module _ (U : Layer) (lowers : List Layer) (s : State) (m : IsMountOf U lowers s) (p : Path) where
  -- a directory or file is a node
  object-node : (o : Object) (spot : Spot) → IsObject U lowers p o → IsSpotOf p o spot → (d : NodeId) × (node_at s.tree p ≡ Some d)
  object-node o spot is at = by (node_at s.tree p) (at-some U lowers s m p ∙ some o is at)
    where
      directory : (x : Option Shown) → is_directory x ≡ true → is_some x ≡ true
      directory None h = h
      directory (Some x) h = refl

      some : (o : Object) → IsObject U lowers p o → IsSpotOf p o spot → is_some (shows 0 (U ∷ lowers) p) ≡ true
      some object.Directory is at = directory (shows 0 (U ∷ lowers) p) is
      some object.Lower is at = ap is_some is.shown
      some (object.Upper key last) is at = ap is_some is.shown
      some object.Other is at = absurd at

      by : (x : Option NodeId) → is_some x ≡ true → (d : NodeId) × (x ≡ Some d)
      by None h = absurd (false≢true h)
      by (Some d) h = (d, refl)

  -- which is at its spot
  object-at : (o : Object) (spot : Spot) → IsObject U lowers p o → shows_link (shows 0 (U ∷ lowers) p) ≡ false → IsSpotOf p o spot →
      (d : NodeId) → node_at s.tree p ≡ Some d → IsAt U s.tree spot d
  object-at object.Directory spot is file e d at =
      subst (λ x. IsAt U s.tree x d) (sym e) (at, folder-alone (s.tree d) (at-folder U lowers s m p d at ∙ is))
  object-at object.Lower spot is file e d at = subst (λ x. IsAt U s.tree x d) (sym e) (at, lower-alone U lowers s m p d at is file)
  object-at (object.Upper key last) spot is file e d at =
      subst (λ x. IsAt U s.tree x d) (sym e) (law_of_live_shown U lowers s m p key is.inode is.bytes d is.shown is.file at, p, at)
  object-at object.Other spot is file e d at = absurd e

  -- and no tracked object's where its spot is vacant
  object-fresh : (objects : Objects) (bearers : Bearers) → AreBorne U s.tree s.serial objects bearers →
      (o : Object) (spot : Spot) → IsObject U lowers p o → IsSpotOf p o spot → IsVacant objects spot →
      (d : NodeId) → node_at s.tree p ≡ Some d → (n : ℕ) → IsSome (spot_of objects n) → bearers n ≢ d
  object-fresh objects bearers borne o spot is e vacant d at =
      subst (Means objects bearers None) at (law_of_numbers U lowers s m objects bearers borne p o None is (by o e))
    where
      by : (o : Object) → IsSpotOf p o spot → IsNumberOf objects p o None
      by object.Directory e = subst (IsVacant objects) e vacant
      by object.Lower e = subst (IsVacant objects) e vacant
      by (object.Upper key last) e = subst (IsVacant objects) e vacant
      by object.Other e = absurd e

-- what is kept for watches, where all that was tracked is where it was
same-spots : (U : Layer) (s : State) (k : Notified) → Tracks U s k → (objects : Objects) →
    ((n : ℕ) → spot_of objects n ≡ spot_of k.objects n) → Tracks U s (record k { objects = objects })
same-spots U s k t objects same = record {
  bearers = t.bearers;
  borne = record {
    places = λ n spot is. t.borne.places n spot (sym (same n) ∙ is);
    given = λ n i there is. t.borne.given n i (was n there) is;
    one = λ m n first second is. t.borne.one m n (was m first) (was n second) is;
  };
  clients = t.clients;
  slots = λ c fd. slot-more k.objects objects t.bearers t.bearers (λ n there. refl) more _ _ (t.slots c fd);
  heard = alike-known k.objects objects t.bearers t.bearers (λ n there. refl) k.instances s.instances (λ n watched. more n) t.heard;
  renames = t.renames;
}
  where
    more : (n : ℕ) → IsSome (spot_of k.objects n) → IsSome (spot_of objects n)
    more n there = ap is_some (same n) ∙ there

    was : (n : ℕ) → IsSome (spot_of objects n) → IsSome (spot_of k.objects n)
    was n there = ap is_some (sym (same n)) ∙ there

-- what is kept for watches, where a number that was none's is given to a node that no tracked object was
given-spot : (U : Layer) (s : State) (k : Notified) → (t : Tracks U s k) → (objects : Objects) (n : ℕ) (spot : Spot) (d : NodeId) →
    spot_of k.objects n ≡ None → spot_of objects n ≡ Some spot → ((x : ℕ) → x ≢ n → spot_of objects x ≡ spot_of k.objects x) →
    IsAt U s.tree spot d → ((i : ℕ) → d ≡ New i → i < s.serial) → ((x : ℕ) → IsSome (spot_of k.objects x) → t.bearers x ≢ d) →
    Tracks U s (record k { objects = objects })
given-spot U s k t objects n spot d unknown here others at given fresh = record {
  bearers = now;
  borne = given-borne U s.tree k.objects objects t.bearers s.serial n d
      (record {
        were = λ x other there. ap is_some (sym (others x other)) ∙ there;
        one = t.borne.one;
        fresh = fresh;
        others = t.borne.given;
        given = given;
      })
      (λ x is. let spots : Some spot ≡ Some x = sym here ∙ is in let same : spot ≡ x = cc in subst (λ y. IsAt U s.tree y d) same at)
      (λ x spot other is. t.borne.places x spot (sym (others x other) ∙ is));
  clients = t.clients;
  slots = λ c fd. slot-more k.objects objects t.bearers now same more _ _ (t.slots c fd);
  heard = alike-known k.objects objects t.bearers now same k.instances s.instances (λ x watched. more x) t.heard;
  renames = t.renames;
}
  where
    now : Bearers
    now = with_bearer t.bearers n d

    same : AreSameBearers k.objects t.bearers now
    same = with-same k.objects t.bearers n d unknown

    more : (x : ℕ) → IsSome (spot_of k.objects x) → IsSome (spot_of objects x)
    more x there = ap is_some (others x (unknown-other k.objects n unknown x there)) ∙ there

-- one more may hold what stands at a path, a directory or a file, under its number or under a new one
pub law_of_held_number : LawOfHeldNumber
law_of_held_number U lowers s m k t p o spot is file e objects n holds = elim holds.was [
  | inl was ↦ known was
  | inr new ↦ given new.0 new.1
]
  where
    known : spot_of k.objects n ≡ Some spot → Tracks U s (record k { objects = objects })
    known was = same-spots U s k t objects (λ x. elim (cases_Bool (nat_eq x n)) [
      | inl y ↦ (let same = eqb-true x n y in ap (spot_of objects) same ∙ holds.sets.here ∙ sym was ∙ sym (ap (spot_of k.objects) same))
      | inr f ↦ holds.sets.other_spots x (λ same. both_ways (nat_eq x n) f (eq-eqb x n same))
    ])

    given : IsVacant k.objects spot → spot_of k.objects n ≡ None → Tracks U s (record k { objects = objects })
    given vacant unknown =
        let d = object-node U lowers s m p o spot is e in
        given-spot U s k t objects n spot d.0 unknown holds.sets.here holds.sets.other_spots (object-at U lowers s m p o spot is file e d.0 d.1)
        (serial-before s.tree s.serial m.kept p d.0 d.1) (object-fresh U lowers s m p k.objects t.bearers t.borne o spot is e vacant d.0 d.1)
