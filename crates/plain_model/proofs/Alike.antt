-- Instances that are alike, watch by watch, hear alike what is told alike.
use Rattle.std.proofs.Common.{◌≡◌, ℕ, Bool, true, false, cond, not, ◌&&◌, ◌||◌, List, [], ◌∷◌, ◌++◌, None, refl, sym, ap, subst, ◌∙◌, map, filter, flat_map, nat_eq, slice_index_or, pos, int_eq, inl, inr}
use Rattle.std.specs.List.{list_any, AllZip}
use Rattle.std.proofs.lemmas.Bool.{false≢true, cases_Bool, or_parts}
use Rattle.ov_base.specs.declared.node_id.NodeId.{NodeId}
use Rattle.ov_base.specs.declared.notice.Event.{Event}
use Rattle.plain_model.specs.Tree.{same_id}
use Rattle.plain_model.specs.Watching.{IGNORED, has_bit, Aim, On, Only, Subject, Watch, Instance, Rule, is_aimed, is_last, reaches, events, ends, asked, passed, all_asked, all_passed, Puts, Hears, AllHear}
use Rattle.plain_model.specs.Alike.{Identities, IsOneToOne, AreAlikeWatches, AreAlikeInstances, AreAllAlike, AreAlikeAims, AreAlikeSubjects, is_watched, LawOfAlikeHearing}
use Rattle.plain_model.proofs.Paths.{ids_tell}

-- lists that agree one by one, at which two tests agree, agree where these pass
pub zip-filter : {A B : Type 0} (R : A → B → Type 0) (p : A → Bool) (q : B → Bool) → ((x : A) (y : B) → R x y → p x ≡ q y) →
    (xs : List A) (ys : List B) → AllZip R xs ys → AllZip R (filter p xs) (filter q ys)
zip-filter R p q same [] [] h = tt
zip-filter R p q same [] (y ∷ ys) h = absurd h
zip-filter R p q same (x ∷ xs) [] h = absurd h
zip-filter R p q same (x ∷ xs) (y ∷ ys) h = by (p x) (q y) (same x y h.0) (zip-filter R p q same xs ys h.1)
  where
    by : (b c : Bool) → b ≡ c → AllZip R (filter p xs) (filter q ys) →
        AllZip R (cond b (x ∷ filter p xs) (filter p xs)) (cond c (y ∷ filter q ys) (filter q ys))
    by true true e rest = (h.0, rest)
    by true false e rest = absurd (false≢true (sym e))
    by false true e rest = absurd (false≢true e)
    by false false e rest = rest

-- and two tests pass somewhere or nowhere
pub zip-any : {A B : Type 0} (R : A → B → Type 0) (p : A → Bool) (q : B → Bool) → ((x : A) (y : B) → R x y → p x ≡ q y) →
    (xs : List A) (ys : List B) → AllZip R xs ys → list_any p xs ≡ list_any q ys
zip-any R p q same [] [] h = refl
zip-any R p q same [] (y ∷ ys) h = absurd h
zip-any R p q same (x ∷ xs) [] h = absurd h
zip-any R p q same (x ∷ xs) (y ∷ ys) h = λ i. same x y h.0 i || zip-any R p q same xs ys h.1 i

-- what passes nowhere passes nowhere in a part
none-left : {A : Type 0} (p q : A → Bool) (xs : List A) → list_any p xs ≡ false → list_any p (filter q xs) ≡ false
none-left p q [] h = refl
none-left p q (x ∷ xs) h = by (q x) (or_parts (p x) (list_any p xs) h) (none-left p q xs)
  where
    by : (b : Bool) → (p x ≡ false) × (list_any p xs ≡ false) → (list_any p xs ≡ false → list_any p (filter q xs) ≡ false) →
        list_any p (cond b (x ∷ filter q xs) (filter q xs)) ≡ false
    by true none rest = λ i. none.0 i || rest none.1 i
    by false none rest = rest none.1

-- what a subject asks at watches of a client whose hooks have these tags
abbrev asked_at : List ℕ → List Event → Watch → List (ℕ × Event)
asked_at tags vs w = map (λ v. (slice_index_or tags w.slot 0, v)) vs

-- and at all of them
abbrev asked_by : ℕ → List ℕ → Subject → List Watch → List (ℕ × Event)
asked_by c tags s ws = flat_map (λ w. asked_at tags (events c s w) w) ws

module _ (of : Identities) (one : IsOneToOne of) where
  -- related identities are told apart alike
  pub same-ids : (a b d e : NodeId) → of a d → of b e → same_id a b ≡ same_id d e
  same-ids a b d e x y = elim (cases_Bool (same_id a b)) [
    | inl t ↦ t ∙ sym ((ids_tell d e).1 ((one a b d e x y).0 ((ids_tell a b).0 t)))
    | inr f ↦ elim (cases_Bool (same_id d e)) [
      | inl t ↦ absurd (false≢true (sym f ∙ (ids_tell a b).1 ((one a b d e x y).1 ((ids_tell d e).0 t))))
      | inr g ↦ f ∙ sym g
    ]
  ]

  -- alike aims are at alike watches
  pub same-aimed : (c : ℕ) (x y : Aim) (v w : Watch) → AreAlikeAims of x y → AreAlikeWatches of v w → is_aimed c x v ≡ is_aimed c y w
  same-aimed c (On a) (On d) v w h k = same-ids a v.node d w.node h k.node
  same-aimed c (Only k number) (Only l other) v w h g = λ i. nat_eq c (h.0 i) && int_eq (h.1 i) (pos (g.number i))
  same-aimed c (On a) (Only l other) v w h k = absurd h
  same-aimed c (Only k number) (On d) v w h g = absurd h

  module _ (s t : Subject) (told : AreAlikeSubjects of s t) where
    -- alike subjects reach alike watches
    same-reaches : (c : ℕ) (v w : Watch) → AreAlikeWatches of v w → reaches c s v ≡ reaches c t w
    same-reaches c v w k =
        λ i. same-aimed c s.aim t.aim v w told.aim k i && (nat_eq (told.bits i) IGNORED || has_bit (told.bits i) (k.mask i))

    -- so they ask the same there
    same-events : (c : ℕ) (v w : Watch) → AreAlikeWatches of v w → events c s v ≡ events c t w
    same-events c v w k = λ i.
        cond (same-reaches c v w k i)
        (record { watch = k.number i; bits = told.bits i; cookie = told.cookie i; name = told.name i }
        ∷ cond (k.once i && not (nat_eq (told.bits i) IGNORED))
        (record { watch = k.number i; bits = IGNORED; cookie = 0; name = None } ∷ []) [])
        []

    -- and end the same ones
    same-ends : (c : ℕ) (v w : Watch) → AreAlikeWatches of v w → ends c s v ≡ ends c t w
    same-ends c v w k = λ i. same-reaches c v w k i && (k.once i || nat_eq (told.bits i) IGNORED)

    -- in the order of the watches
    same-asked-by : (c : ℕ) (tags : List ℕ) (vs ws : List Watch) → AllZip (AreAlikeWatches of) vs ws →
        asked_by c tags s vs ≡ asked_by c tags t ws
    same-asked-by c tags [] [] h = refl
    same-asked-by c tags [] (w ∷ ws) h = absurd h
    same-asked-by c tags (v ∷ vs) [] h = absurd h
    same-asked-by c tags (v ∷ vs) (w ∷ ws) h =
        λ i. map {B = ℕ × Event} (λ x. (slice_index_or tags (h.0.slot i) 0, x)) (same-events c v w h.0 i)
        ++ same-asked-by c tags vs ws h.1 i

    -- one subject asks the same of alike instances
    same-asked : (e f : Instance) → AreAlikeInstances of e f → asked e s ≡ asked f t
    same-asked e f h =
        (λ i. asked_by (h.client i) (h.tags i) s e.watches)
        ∙ same-asked-by f.client f.tags e.watches f.watches h.watches

    -- and leaves them alike
    passed-alike : (e f : Instance) → AreAlikeInstances of e f → AreAlikeInstances of (passed e s) (passed f t)
    passed-alike e f h = record {
      client = h.client;
      tags = h.tags;
      watches =
          zip-filter (AreAlikeWatches of) (λ w. not (ends e.client s w)) (λ w. not (ends f.client t w))
          (λ v w k. ap (λ c. not (ends c s v)) h.client ∙ ap not (same-ends f.client v w k)) e.watches f.watches h.watches;
      armed = h.armed;
      queue = h.queue;
    }

  -- subjects that are alike, one by one, ask the same in their order
  all-asked-alike : (ss ts : List Subject) (e f : Instance) → AllZip (AreAlikeSubjects of) ss ts → AreAlikeInstances of e f →
      all_asked e ss ≡ all_asked f ts
  all-asked-alike [] [] e f h k = refl
  all-asked-alike [] (t ∷ ts) e f h k = absurd h
  all-asked-alike (s ∷ ss) [] e f h k = absurd h
  all-asked-alike (s ∷ ss) (t ∷ ts) e f h k =
      λ i. same-asked s t h.0 e f k i ++ all-asked-alike ss ts (passed e s) (passed f t) h.1 (passed-alike s t h.0 e f k) i

  -- and leave alike instances alike
  all-passed-alike : (ss ts : List Subject) (e f : Instance) → AllZip (AreAlikeSubjects of) ss ts → AreAlikeInstances of e f →
      AreAlikeInstances of (all_passed e ss) (all_passed f ts)
  all-passed-alike [] [] e f h k = k
  all-passed-alike [] (t ∷ ts) e f h k = absurd h
  all-passed-alike (s ∷ ss) [] e f h k = absurd h
  all-passed-alike (s ∷ ss) (t ∷ ts) e f h k = all-passed-alike ss ts (passed e s) (passed f t) h.1 (passed-alike s t h.0 e f k)

-- whether one watch of an instance is aimed at
abbrev is_aimed_at : Instance → Aim → Bool
is_aimed_at e aim = list_any (is_aimed e.client aim) e.watches

-- a subject that no watch is there for asks nothing, and ends nothing
unheard-asks : (c : ℕ) (tags : List ℕ) (s : Subject) (ws : List Watch) → list_any (is_aimed c s.aim) ws ≡ false → asked_by c tags s ws ≡ []
unheard-asks c tags s [] h = refl
unheard-asks c tags s (w ∷ ws) h =
    let none = or_parts (is_aimed c s.aim w) (list_any (is_aimed c s.aim) ws) h in
    ap (λ b. asked_at tags (by b) w ++ asked_by c tags s ws) none.0 ∙ unheard-asks c tags s ws none.1
  where
    by : Bool → List Event
    by b =
        cond (b && (is_last s || has_bit s.bits w.mask))
        (record { watch = w.number; bits = s.bits; cookie = s.cookie; name = s.name } ∷ cond (w.once && not (is_last s))
        (record { watch = w.number; bits = IGNORED; cookie = 0; name = None } ∷ []) []) []

-- no watch ends with it
unheard-ends : (c : ℕ) (s : Subject) (ws : List Watch) → list_any (is_aimed c s.aim) ws ≡ false → filter (λ w. not (ends c s w)) ws ≡ ws
unheard-ends c s [] h = refl
unheard-ends c s (w ∷ ws) h =
    let none = or_parts (is_aimed c s.aim w) (list_any (is_aimed c s.aim) ws) h in
    ap (λ b. cond (not ((b && (is_last s || has_bit s.bits w.mask)) && (w.once || is_last s))) (w ∷ filter (λ w. not (ends c s w)) ws)
    (filter (λ w. not (ends c s w)) ws)) none.0
    ∙ ap (λ xs. w ∷ xs) (unheard-ends c s ws none.1)

-- so the instance stays as it is
unheard-passed : (e : Instance) (s : Subject) → is_aimed_at e s.aim ≡ false → passed e s ≡ e
unheard-passed e s h = ap (λ ws. record e { watches = ws }) (unheard-ends e.client s e.watches h)

-- so such subjects may be left out
module _ (p : Subject → Bool) where
  -- the instance is the same afterwards
  heard-passed : (ss : List Subject) (e : Instance) → ((s : Subject) → p s ≡ false → is_aimed_at e s.aim ≡ false) →
      all_passed e (filter p ss) ≡ all_passed e ss
  heard-passed [] e h = refl
  heard-passed (s ∷ ss) e h =
      by (p s) (h s) (heard-passed ss (passed e s)
      (λ x n. none-left (is_aimed e.client x.aim) (λ w. not (ends e.client s w)) e.watches (h x n))) (heard-passed ss e h)
    where
      by : (b : Bool) → (b ≡ false → is_aimed_at e s.aim ≡ false) → all_passed (passed e s) (filter p ss) ≡ all_passed (passed e s) ss →
          all_passed e (filter p ss) ≡ all_passed e ss → all_passed e (cond b (s ∷ filter p ss) (filter p ss)) ≡ all_passed (passed e s) ss
      by true n went stays = went
      by false n went stays = stays ∙ ap (λ x. all_passed x ss) (sym (unheard-passed e s (n refl)))

  -- and as much was asked
  heard-asked : (ss : List Subject) (e : Instance) → ((s : Subject) → p s ≡ false → is_aimed_at e s.aim ≡ false) →
      all_asked e (filter p ss) ≡ all_asked e ss
  heard-asked [] e h = refl
  heard-asked (s ∷ ss) e h =
      by (p s) (h s) (heard-asked ss (passed e s)
      (λ x n. none-left (is_aimed e.client x.aim) (λ w. not (ends e.client s w)) e.watches (h x n))) (heard-asked ss e h)
    where
      by : (b : Bool) → (b ≡ false → is_aimed_at e s.aim ≡ false) → all_asked (passed e s) (filter p ss) ≡ all_asked (passed e s) ss →
          all_asked e (filter p ss) ≡ all_asked e ss →
          all_asked e (cond b (s ∷ filter p ss) (filter p ss)) ≡ asked e s ++ all_asked (passed e s) ss
      by true n went stays = ap (λ xs. asked e s ++ xs) went
      by false n went stays =
          stays ∙ λ i. sym (unheard-asks e.client e.tags s e.watches (n refl)) i ++ all_asked (sym (unheard-passed e s (n refl)) i) ss

  -- a client hears the same without them
  hears-fewer : (shows : Rule) (ss : List Subject) (e f : Instance) → ((s : Subject) → p s ≡ false → is_aimed_at e s.aim ≡ false) →
      Hears shows ss e f → Hears shows (filter p ss) e f
  hears-fewer shows ss e f none h = record {
    watches = h.watches ∙ ap (λ (x : Instance). record x { queue = f.queue }) (sym (heard-passed ss e none));
    queue = subst (λ xs. Puts shows xs e.queue f.queue) (sym (heard-asked ss e none)) h.queue;
  }

  -- nor with them
  hears-more : (shows : Rule) (ss : List Subject) (e f : Instance) → ((s : Subject) → p s ≡ false → is_aimed_at e s.aim ≡ false) →
      Hears shows (filter p ss) e f → Hears shows ss e f
  hears-more shows ss e f none h = record {
    watches = h.watches ∙ ap (λ (x : Instance). record x { queue = f.queue }) (heard-passed ss e none);
    queue = subst (λ xs. Puts shows xs e.queue f.queue) (heard-asked ss e none) h.queue;
  }

-- watches that are left were there
some-was : {A : Type 0} (p q : A → Bool) (xs : List A) → list_any p (filter q xs) ≡ true → list_any p xs ≡ true
some-was p q xs h = elim (cases_Bool (list_any p xs)) [ inl t ↦ t | inr f ↦ absurd (false≢true (sym (none-left p q xs f) ∙ h)) ]

-- after some subjects too
passed-aimed : (aim : Aim) (ss : List Subject) (e : Instance) → is_aimed_at (all_passed e ss) aim ≡ true → is_aimed_at e aim ≡ true
passed-aimed aim [] e h = h
passed-aimed aim (s ∷ ss) e h =
    some-was (is_aimed e.client aim) (λ w. not (ends e.client s w)) e.watches (passed-aimed aim ss (passed e s) h)

-- and after all instances heard them
heard-watched : (shows : Rule) (aim : Aim) (ss : List Subject) (es new : List Instance) → AllHear shows ss es new →
    is_watched new aim ≡ true → is_watched es aim ≡ true
heard-watched shows aim ss [] [] h w = w
heard-watched shows aim ss [] (f ∷ new) h w = absurd h
heard-watched shows aim ss (e ∷ es) [] h w = absurd h
heard-watched shows aim ss (e ∷ es) (f ∷ new) h w =
    by (is_aimed_at f aim) (λ t. passed-aimed aim ss e (sym (ap (λ x. is_aimed_at x aim) h.0.watches) ∙ t)) w
    (heard-watched shows aim ss es new h.1)
  where
    right : (b : Bool) → b || true ≡ true
    right true = refl
    right false = refl

    by : (b : Bool) → (b ≡ true → is_aimed_at e aim ≡ true) → b || is_watched new aim ≡ true →
        (is_watched new aim ≡ true → is_watched es aim ≡ true) → is_aimed_at e aim || is_watched es aim ≡ true
    by true here w rest = ap (λ b. b || is_watched es aim) (here refl)
    by false here w rest = ap (λ b. is_aimed_at e aim || b) (rest w) ∙ right (is_aimed_at e aim)

-- one client hears alike
module _ (shows : Rule) (of : Identities) (one : IsOneToOne of) where
  -- by the queue that it has
  one-hears : (ss ts : List Subject) (e f new : Instance) → AllZip (AreAlikeSubjects of) ss ts → AreAlikeInstances of e f →
      Hears shows ss e new → (heard : Instance) × Hears shows ts f heard × AreAlikeInstances of new heard
  one-hears ss ts e f new told alike h =
      let passed = all-passed-alike of one ss ts e f told alike in (
        record (all_passed f ts) { queue = new.queue },
        record {
          watches = refl;
          queue = subst (λ xs. Puts shows xs f.queue new.queue) (all-asked-alike of one ss ts e f told alike)
              (subst (λ q. Puts shows (all_asked e ss) q new.queue) alike.queue h.queue);
        },
        subst (λ x. AreAlikeInstances of x (record (all_passed f ts) { queue = new.queue })) (sym h.watches)
            (record { client = passed.client; tags = passed.tags; watches = passed.watches; armed = passed.armed; queue = refl }),
      )

  -- all clients do, where what is left out is for none of their watches
  all-hear : (p q : Subject → Bool) (ss ts : List Subject) → AllZip (AreAlikeSubjects of) (filter p ss) (filter q ts) →
      (es fs new : List Instance) → ((s : Subject) → p s ≡ false → is_watched es s.aim ≡ false) →
      ((t : Subject) → q t ≡ false → is_watched fs t.aim ≡ false) → AreAllAlike of es fs → AllHear shows ss es new →
      (heard : List Instance) × AllHear shows ts fs heard × AreAllAlike of new heard
  all-hear p q ss ts told [] [] [] n m alike h = ([], tt, tt)
  all-hear p q ss ts told [] (f ∷ fs) new n m alike h = absurd alike
  all-hear p q ss ts told (e ∷ es) [] new n m alike h = absurd alike
  all-hear p q ss ts told [] [] (x ∷ new) n m alike h = absurd h
  all-hear p q ss ts told (e ∷ es) (f ∷ fs) [] n m alike h = absurd h
  all-hear p q ss ts told (e ∷ es) (f ∷ fs) (x ∷ new) n m alike h =
      let here =
      one-hears (filter p ss) (filter q ts) e f x told alike.0
      (hears-fewer p shows ss e x (λ s k. (or_parts (is_aimed_at e s.aim) (is_watched es s.aim) (n s k)).0) h.0) in
      let rest =
      all-hear p q ss ts told es fs new (λ s k. (or_parts (is_aimed_at e s.aim) (is_watched es s.aim) (n s k)).1)
      (λ t k. (or_parts (is_aimed_at f t.aim) (is_watched fs t.aim) (m t k)).1) alike.1 h.1 in (
        here.0 ∷ rest.0,
        (hears-more q shows ts f here.0 (λ t k. (or_parts (is_aimed_at f t.aim) (is_watched fs t.aim) (m t k)).0) here.1, rest.1),
        (here.2, rest.2),
      )

-- instances that are alike hear alike
pub alike-hearing : (shows : Rule) (of : Identities) → LawOfAlikeHearing shows of
alike-hearing shows of es fs new ss ts one alike told h =
    let heard =
    all-hear shows of one (λ s. is_watched es s.aim) (λ t. is_watched fs t.aim) ss ts told es fs new (λ s n. n) (λ t n. n) alike h in
    record { heard = heard.0; hears = heard.1; alike = heard.2; fewer = λ aim w. heard-watched shows aim ss es new h w }
