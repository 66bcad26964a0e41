-- A node that loses a name at a path: what stands there by its spot, which nodes keep another name, and whose end is told.
use Rattle.std.proofs.Common.{◌≡◌, ◌≢◌, ◌↔◌, ℕ, ◌<◌, Bool, true, false, not, cond, ◌&&◌, List, [], ◌∷◌, ◌++◌, Option, None, Some, IsSome, refl, sym, ap, subst, subst₂, ◌∙◌, ◌⊎◌, inl, inr, nat_lt, is_none, is_some, arith}
use Rattle.std.specs.List.{IsDistinct}
use Rattle.std.proofs.lemmas.Bool.{cases_Bool, false≢true, lt-ltb, and_right, false_from_ne_true}
use Rattle.std.specs.Prelude.{nat_eq}
use Rattle.ov_base.specs.declared.bytes.Content.TheVariants.{File, SymbolicLink}
use Rattle.ov_base.specs.declared.node_id.NodeId.{NodeId}
use Rattle.plain_model.specs.Layers.{Path, Layer, same_path, Shown, shows}
use Rattle.plain_model.specs.Tree.{Node, Branch, Leaf, Own, Untouched, Tree, node_at, node_of, count_of, is_folder, is_untouched}
use Rattle.plain_model.specs.Watching.{DELETE_SELF, IGNORED, Subject, Instance}
use Rattle.plain_model.specs.Machine.{Table, State, is_link}
use Rattle.plain_model.specs.Changes.{is_held}
use Rattle.plain_model.specs.Settling as settling
use Rattle.plain_model.specs.Subjects as told
use Rattle.plain_model.specs.Alike.{AreToldAlike}
use Rattle.plain_model.proofs.Paths.{paths_tell}
use Rattle.mount_laws.specs.Looks.{IsMountOf}
use Rattle.mount_laws.specs.Nodes.{HaveOneName, Goes}
use Rattle.mount_laws.specs.OpenFiles.{IsLive}
use Rattle.mount_laws.proofs.OpenFiles.{law_of_live_shown, law_of_live_one}
use Rattle.mount_laws.proofs.Opens.{link-at}
use Rattle.mount_laws.proofs.Looks.{at-some}
use Rattle.mount_laws.proofs.Removes.{counted-some}
use Rattle.object_table.specs.Objects.{Objects, Spot, At, Upper, Nowhere, spot_of}
use Rattle.open_handles.specs.TrackedHandles.{TrackedTables, IsOn}
use Rattle.notice_laws.specs.declared.object.Object.{Object}
use Rattle.notice_laws.specs.declared.object.Object.TheVariants as object
use Rattle.notice_laws.specs.Notified.{Notified, Bearers, stands_alone, IsAt, stands_for, Tracks}
use Rattle.notice_laws.specs.Objects.{IsUpper, IsObject, IsNumberOf, Means}
use Rattle.notice_laws.specs.Telling.{of_number, of_end, TellAlike, IsEnd}
use Rattle.notice_laws.specs.Steps.{is_last_name, IsSpotOf}
use Rattle.notice_laws.specs.Places.{HasNames}
use Rattle.notice_laws.proofs.Numbers.{law_of_numbers}
use Rattle.notice_laws.proofs.Told.{law_of_told}
use Rattle.notice_laws.proofs.LastNames.{law_of_last_name, folder-stands, lower-stands}
use Rattle.notice_laws.proofs.Slots.{law_of_held_objects}
use Rattle.notice_laws.proofs.Closing.{means-bearer}

-- a symbolic link is no directory and no file
link-not-alone : (o : Option Node) → is_link o ≡ true → stands_alone o ≡ false
link-not-alone None h = refl
link-not-alone (Some (Branch a b names c)) h = absurd (false≢true h)
link-not-alone (Some (Leaf (File bytes) a u c)) h = absurd (false≢true h)
link-not-alone (Some (Leaf (SymbolicLink target) a (Own z) c)) h = refl
link-not-alone (Some (Leaf (SymbolicLink target) a (Untouched k) c)) h = refl

-- what stands at p, where the node d is
module _ (U : Layer) (lowers : List Layer) (s : State) (m : IsMountOf U lowers s) (p : Path) (d : NodeId)
    (at : node_at s.tree p ≡ Some d) where
  -- a file of the upper is live
  pub upper-stands : (key : ℕ) (last : Bool) → IsUpper U lowers p key last → IsLive U s.tree d key
  upper-stands key last o = law_of_live_shown U lowers s m p key o.inode o.bytes d o.shown o.file at

  -- and what is none of these is a link
  pub other-stands : IsObject U lowers p object.Other → is_link (s.tree d) ≡ true
  other-stands (inl none) = absurd (false≢true (sym (nothing (shows 0 (U ∷ lowers) p) none) ∙ sym (at-some U lowers s m p) ∙ ap is_some at))
    where
      nothing : (o : Option Shown) → is_none o ≡ true → is_some o ≡ false
      nothing None h = refl
      nothing (Some x) h = absurd (false≢true h)
  other-stands (inr link) = ap (λ x. is_link (node_of s.tree x)) (sym at) ∙ link-at U lowers s m p ∙ link

  -- so what stands alone there has the path for its spot, and no other name
  pub alone-spot : (o : Object) → IsObject U lowers p o → stands_alone (s.tree d) ≡ true → (is_last_name o ≡ true) × IsSpotOf p o (At p)
  alone-spot object.Directory o alone = (refl, refl)
  alone-spot object.Lower o alone = (refl, refl)
  alone-spot (object.Upper key last) o alone =
      absurd (false≢true (ap stands_alone (sym (upper-stands key last o).node) ∙ alone))
  alone-spot object.Other o alone = absurd (false≢true (sym (link-not-alone (s.tree d) (other-stands o)) ∙ alone))

  -- and a live file there has its key for its spot
  live-spot : (o : Object) → IsObject U lowers p o → (key : ℕ) → IsLive U s.tree d key → IsSpotOf p o (Upper key)
  live-spot object.Directory o key live = absurd (false≢true (ap is_folder (sym live.node) ∙ folder-stands U lowers s m p d at o))
  live-spot object.Lower o key live = absurd (false≢true (ap is_untouched (sym live.node) ∙ lower-stands U lowers s m p d at o))
  live-spot (object.Upper k last) o key live =
      ap Upper ((law_of_live_one U s.tree p d d key k at live (upper-stands k last o)).0 refl)
  live-spot object.Other o key live = absurd (false≢true (ap is_link (sym live.node) ∙ other-stands o))

-- a node that is at a spot has a path that is not p: where the spot is a path, it is that
abbrev pub HasOtherPath : Tree → Path → Spot → NodeId → Type 0
HasOtherPath t p (At q) d = q ≢ p
HasOtherPath t p (Upper key) d = (q : Path) × (q ≢ p) × (node_at t q ≡ Some d)
HasOtherPath t p Nowhere d = Unit {0}

-- what has a spot is something
pub spot-something : (p : Path) (o : Object) (spot : Spot) → IsSpotOf p o spot → o ≢ object.Other
spot-something p o spot h other = subst (λ o. IsSpotOf p o spot) other h

-- what p leads to that is not the last of its names to go has another path, and so has all else that a path leads to
pub other-path :
    (U : Layer) (lowers : List Layer) (s : State) → IsMountOf U lowers s → HaveOneName s.tree →
    (p : Path) (o : Object) → IsObject U lowers p o → (was : Spot) → (is_last_name o ≡ true → IsSpotOf p o was → ⊥) →
    (d : NodeId) → IsAt U s.tree was d → HasOtherPath s.tree p was d
other-path U lowers s m one p o is (At q) rests d here = λ same.
    let at : node_at s.tree p ≡ Some d = ap (node_at s.tree) (sym same) ∙ here.0 in
    let spot = alone-spot U lowers s m p d at o is here.1 in
    rests spot.0 (subst (λ q. IsSpotOf p o (At q)) (sym same) spot.1)
other-path U lowers s m one p o is (Upper key) rests d here = elim (cases_Bool (same_path here.1 p)) [
  | inr n ↦ (here.1, (λ e. false≢true (sym n ∙ (paths_tell here.1 p).1 e)), here.2)
  | inl y ↦
      (let at : node_at s.tree p ≡ Some d = ap (node_at s.tree) (sym ((paths_tell here.1 p).0 y)) ∙ here.2 in
      let spot = live-spot U lowers s m p d at o is key here.0 in
      let names = law_of_last_name U lowers s m one p o d (spot-something p o (Upper key) spot) is at in
      let more = names.more (false_from_ne_true (is_last_name o) (λ last. rests last spot)) in
      (more.1, more.2, more.3))
]
other-path U lowers s m one p o is Nowhere rests d here = tt

-- a number at the spot of what stands at p is found by it
spot-number :
    (objects : Objects) (p : Path) (o : Object) (n : ℕ) (was : Spot) → IsSpotOf p o was → spot_of objects n ≡ Some was →
    IsNumberOf objects p o (Some n)
spot-number objects p object.Directory n was spot is = is ∙ ap Some spot
spot-number objects p object.Lower n was spot is = is ∙ ap Some spot
spot-number objects p (object.Upper key last) n was spot is = is ∙ ap Some spot
spot-number objects p object.Other n was spot is = absurd spot

-- so p leads to the node of the tracked object that has the spot of what stands there
pub spot-node :
    (U : Layer) (lowers : List Layer) (s : State) → IsMountOf U lowers s → (k : Notified) → (t : Tracks U s k) →
    (p : Path) (o : Object) → IsObject U lowers p o → (n : ℕ) (was : Spot) → IsSpotOf p o was → spot_of k.objects n ≡ Some was →
    node_at s.tree p ≡ Some (t.bearers n)
spot-node U lowers s m k t p o here n was spot is =
    means-bearer k.objects t.bearers n (node_at s.tree p)
    (law_of_numbers U lowers s m k.objects t.bearers t.borne p o (Some n) here (spot-number k.objects p o n was spot is))

-- whether the node of a number is gone: not where it has a name left or a handle, and else it is
pub record IsGoneWith (handles : TrackedTables) (lost : Bool) (n : ℕ) (is_gone : Bool) : Type 0 where
  pub named : lost ≡ false → is_gone ≡ false
  pub held : IsOn handles n → is_gone ≡ false
  pub free : lost ≡ true → (IsOn handles n → ⊥) → is_gone ≡ true

-- so it is with what loses a name
pub gone-with :
    (U : Layer) (s : State) (k : Notified) → (t : Tracks U s k) → IsDistinct nat_eq (settling.clients_of s.tables) →
    (p : Path) (o : Object) (n : ℕ) → IsSome (spot_of k.objects n) → HasNames s.tree p o (t.bearers n) →
    (u : Tree) (loser : Option NodeId) (ks : List Table) → Goes s.tree u loser 1 ks → ((x : NodeId) → is_held ks x ≡ is_held s.tables x) →
    loser ≡ Some (t.bearers n) → IsGoneWith k.handles (is_last_name o) n (is_none (u (t.bearers n)))
gone-with U s k t apart p o n known names u loser ks goes same loses = record {
  named = λ more. (let many = (names.more more).0 in told (many-some many) ∙ ap (λ b. not b && not held) (lt-ltb 1 count many));
  held = λ on. by-name on (cases_Bool (is_last_name o));
  free = λ last off.
      told (one-some (names.one last).0)
      ∙ ap (λ n. not (nat_lt 1 n) && not held) (names.one last).0
      ∙ ap not (false_from_ne_true held (λ h. off (holds.0 (sym (same (t.bearers n)) ∙ h))));
}
  where
    count : ℕ
    count = count_of (s.tree (t.bearers n))

    held : Bool
    held = is_held ks (t.bearers n)

    holds : (is_held s.tables (t.bearers n) ≡ true) ↔ IsOn k.handles n
    holds = law_of_held_objects U s k t apart n known

    told : is_some (s.tree (t.bearers n)) ≡ true → is_none (u (t.bearers n)) ≡ not (nat_lt 1 count) && not held
    told = goes.goes (t.bearers n) loses

    many-some : 1 < count → is_some (s.tree (t.bearers n)) ≡ true
    many-some many = counted-some (s.tree (t.bearers n)) (λ e. absurd (omega arith))

    one-some : count ≡ 1 → is_some (s.tree (t.bearers n)) ≡ true
    one-some one = counted-some (s.tree (t.bearers n)) (λ e. absurd (omega arith))

    by-name : IsOn k.handles n → (is_last_name o ≡ true) ⊎ (is_last_name o ≡ false) → is_none (u (t.bearers n)) ≡ false
    by-name on last = (elim last [ inl y ↦ told (one-some (names.one y).0) | inr f ↦ told (many-some (names.more f).0) ])
        ∙ and_right (not (nat_lt 1 count)) (not held) (ap not (same (t.bearers n) ∙ holds.1 on))

-- the end of what loses a name is told alike
module _ (objects : Objects) (bearers : Bearers) (es fs : List Instance) (tell : TellAlike objects bearers es fs) where
  -- by what is said of a node's end, where it is gone or not
  abbrev TellsEnd : Option ℕ → NodeId → Bool → Type 0
  TellsEnd ended d is_gone =
      AreToldAlike (stands_for objects bearers) es fs (of_end ended)
      (cond is_gone (told.of_node (Some d) DELETE_SELF ++ told.of_node (Some d) IGNORED) [])

  -- nobody hears of a node that no tracked object is
  untold-end : (d : NodeId) → Means objects bearers None (Some d) → (is_gone : Bool) → TellsEnd None d is_gone
  untold-end d means true =
      tell.parts [] [] (told.of_node (Some d) DELETE_SELF) (told.of_node (Some d) IGNORED)
      (tell.untold (Some d) DELETE_SELF means) (tell.untold (Some d) IGNORED means)
  untold-end d means false = tell.none

  -- and of one that is, by its number
  told-end : (n : ℕ) (d : NodeId) → Means objects bearers (Some n) (Some d) → TellsEnd (Some n) d true
  told-end n d means =
      tell.parts (of_number (Some n) DELETE_SELF) (of_number (Some n) IGNORED)
      (told.of_node (Some d) DELETE_SELF) (told.of_node (Some d) IGNORED)
      (tell.node (Some n) (Some d) DELETE_SELF means) (tell.node (Some n) (Some d) IGNORED means)

  -- as it is where a handle is on it or not
  number-end :
      (handles : TrackedTables) (lost : Bool) (n : ℕ) (d : NodeId) (ended : Option ℕ) → IsEnd handles lost (Some n) ended →
      Means objects bearers (Some n) (Some d) → (is_gone : Bool) → IsGoneWith handles lost n is_gone → TellsEnd ended d is_gone
  number-end handles false n d ended end means is_gone g = subst₂ (λ x b. TellsEnd x d b) (sym end) (sym (g.named refl)) tell.none
  number-end handles true n d ended (inl end) means is_gone g =
      subst₂ (λ x b. TellsEnd x d b) (sym end.0) (sym (g.free refl end.1)) (told-end n d means)
  number-end handles true n d ended (inr end) means is_gone g = subst₂ (λ x b. TellsEnd x d b) (sym end.0) (sym (g.held end.1)) tell.none

  pub end-told :
      (handles : TrackedTables) (lost : Bool) (number ended : Option ℕ) (loser : Option NodeId) (u : Tree) →
      Means objects bearers number loser → IsEnd handles lost number ended →
      ((n : ℕ) → number ≡ Some n → loser ≡ Some (bearers n) → IsGoneWith handles lost n (is_none (u (bearers n)))) →
      AreToldAlike (stands_for objects bearers) es fs (of_end ended) (told.gone u loser)
  end-told handles lost None ended None u means end gone =
      subst (λ x. AreToldAlike (stands_for objects bearers) es fs (of_end x) []) (sym end) tell.none
  end-told handles lost None ended (Some d) u means end gone =
      subst (λ x. TellsEnd x d (is_none (u d))) (sym end) (untold-end d means (is_none (u d)))
  end-told handles lost (Some n) ended None u means end gone = absurd means
  end-told handles lost (Some n) ended (Some d) u means end gone =
      number-end handles lost n d ended end means (is_none (u d))
      (subst (λ x. IsGoneWith handles lost n (is_none (u x))) means.1 (gone n refl (ap Some (sym means.1))))

-- what has a number is something
number-something : (objects : Objects) (p : Path) (o : Object) (n : ℕ) → IsNumberOf objects p o (Some n) → o ≢ object.Other
number-something objects p o n found other = let z : Some n ≡ None = subst (λ o. IsNumberOf objects p o (Some n)) other found in cc

-- a number that means a node is a tracked object's
means-known :
    (objects : Objects) (bearers : Bearers) (n : ℕ) (d : Option NodeId) → Means objects bearers (Some n) d → IsSome (spot_of objects n)
means-known objects bearers n None h = absurd h
means-known objects bearers n (Some d) h = h.0

-- what is told to the instances that are kept for watches is like what is told to the state's
abbrev pub AreTold : (U : Layer) (s : State) (k : Notified) → Tracks U s k → List Subject → List Subject → Type 0
AreTold U s k t = AreToldAlike (stands_for k.objects t.bearers) k.instances s.instances

-- so the end of what p leads to is told alike, where it loses the name to the tree u
pub loser-end :
    (U : Layer) (lowers : List Layer) (s : State) → IsMountOf U lowers s →
    HaveOneName s.tree → IsDistinct nat_eq (settling.clients_of s.tables) → (k : Notified) → (t : Tracks U s k) →
    (p : Path) (o : Object) → IsObject U lowers p o → (number ended : Option ℕ) → IsNumberOf k.objects p o number →
    IsEnd k.handles (is_last_name o) number ended → (u : Tree) (ks : List Table) → Goes s.tree u (node_at s.tree p) 1 ks →
    ((x : NodeId) → is_held ks x ≡ is_held s.tables x) →
    AreTold U s k t (of_end ended) (told.gone u (node_at s.tree p))
loser-end U lowers s m one apart k t p o is number ended found ends
    u ks goes same =
    end-told k.objects t.bearers k.instances s.instances
    (law_of_told U s k.objects t.bearers k.instances s.instances t.borne t.heard)
    k.handles (is_last_name o) number ended (node_at s.tree p) u (means number found) ends
    (λ n is_number at.
    let found_now = subst (IsNumberOf k.objects p o) is_number found in
    gone-with U s k t apart p o n (means-known k.objects t.bearers n (node_at s.tree p) (means (Some n) found_now))
    (law_of_last_name U lowers s m one p o (t.bearers n) (number-something k.objects p o n found_now) is at)
    u (node_at s.tree p) ks goes same at)
  where
    means : (r : Option ℕ) → IsNumberOf k.objects p o r → Means k.objects t.bearers r (node_at s.tree p)
    means r = law_of_numbers U lowers s m k.objects t.bearers t.borne p o r is
