-- What is kept for watches where fewer objects are tracked, or others by other bearers, and where the upper is another.
use Rattle.std.proofs.Common.{◌≡◌, ℕ, true, List, Some, IsSome, refl, sym, ap, subst, ◌∙◌, is_some}
use Rattle.ov_base.specs.declared.node_id.NodeId.{NodeId}
use Rattle.ov_base.specs.declared.node_id.NodeId.TheVariants.{New}
use Rattle.plain_model.specs.Layers.{Path, Layer}
use Rattle.plain_model.specs.Tree.{Tree, node_at}
use Rattle.plain_model.specs.Watching.{On, Instance}
use Rattle.plain_model.specs.Machine.{State, handle_of}
use Rattle.plain_model.specs.Settling as settling
use Rattle.plain_model.specs.Alike.{IsOneToOne, AreAllAlike, KeepAlike, is_watched}
use Rattle.plain_model.proofs.AlikeKept.{alike-kept, alike-now}
use Rattle.mount_laws.specs.OpenFiles.{IsLive}
use Rattle.object_table.specs.Objects.{Objects, Spot, At, Upper, Nowhere, spot_of}
use Rattle.open_handles.specs.TrackedHandles.{clients_of, tracked_by}
use Rattle.notice_laws.specs.Notified.{Notified, AreKnown, Bearers, IsAt, AreBorne, stands_for, IsSlotOn, Tracks}
use Rattle.notice_laws.specs.Opens.{AreFewer, LawOfFewerNumbers}
use Rattle.notice_laws.proofs.Numbers.{some-is}
use Rattle.notice_laws.proofs.Slots.{law_of_known_slots}

-- a live file of U to which a path leads is live in V too
abbrev pub KeepsLive : Layer → Layer → Tree → Type 0
KeepsLive U V t = (d : NodeId) (key : ℕ) (q : Path) → IsLive U t d key → node_at t q ≡ Some d → IsLive V t d key

-- what is somewhere is there in an upper that keeps live files
pub at-still : (U V : Layer) (t : Tree) → KeepsLive U V t → (spot : Spot) (d : NodeId) → IsAt U t spot d → IsAt V t spot d
at-still U V t lives (At p) d h = h
at-still U V t lives (Upper key) d h = (lives d key h.1 h.0 h.2, h.1, h.2)
at-still U V t lives Nowhere d h = h

-- what is tracked still was tracked
pub was-some : (old new : Objects) → AreFewer old new → (n : ℕ) → IsSome (spot_of new n) → IsSome (spot_of old n)
was-some old new fewer n there = let spot = some-is (spot_of new n) there in ap is_some (fewer n spot.0 spot.1)

-- fewer tracked objects are the same nodes, in an upper that keeps live files
pub fewer-borne : (U V : Layer) (t : Tree) (i : ℕ) (old new : Objects) (bearers : Bearers) → KeepsLive U V t → AreFewer old new →
    AreBorne U t i old bearers → AreBorne V t i new bearers
fewer-borne U V t i old new bearers lives fewer borne = record {
  places = λ n spot is. at-still U V t lives spot (bearers n) (borne.places n spot (fewer n spot is));
  given = λ n j there. borne.given n j (was-some old new fewer n there);
  one = λ m n first second. borne.one m n (was-some old new fewer m first) (was-some old new fewer n second);
}

-- a number that stands for a node stands for it by other bearers, where these know it and give it the same node
pub stands-now : (old new : Objects) (bearers now : Bearers) → ((n : ℕ) → IsSome (spot_of old n) → now n ≡ bearers n) → (a d : NodeId) →
    ((n : ℕ) → a ≡ New n → IsSome (spot_of old n) → IsSome (spot_of new n)) → stands_for old bearers a d → stands_for new now a d
stands-now old new bearers now same a d known (n, is, there, on) = (n, is, known n is there, same n there ∙ on)

-- so instances that are alike stay so, where each number that is watched is known
pub alike-known : (old new : Objects) (bearers now : Bearers) → ((n : ℕ) → IsSome (spot_of old n) → now n ≡ bearers n) →
    (es fs : List Instance) → ((n : ℕ) → is_watched es (On (New n)) ≡ true → IsSome (spot_of old n) → IsSome (spot_of new n)) →
    AreAllAlike (stands_for old bearers) es fs → AreAllAlike (stands_for new now) es fs
alike-known old new bearers now same es fs known alike =
    alike-now (stands_for old bearers) (stands_for new now) es fs
    (λ a d watched stands. stands-now old new bearers now same a d
    (λ n is there. known n (ap (λ x. is_watched es (On x)) (sym is) ∙ watched) there) stands) alike

-- numbers stand for nodes one to one
pub one-to-one : (objects : Objects) (bearers : Bearers) →
    ((m n : ℕ) → IsSome (spot_of objects m) → IsSome (spot_of objects n) → bearers m ≡ bearers n → m ≡ n) →
    IsOneToOne (stands_for objects bearers)
one-to-one objects bearers one a b d e (m, is, there, on) (n, by, known, at) = (
  λ same. (let numbers : New m ≡ New n = sym is ∙ same ∙ by in let number : m ≡ n = cc in sym on ∙ ap bearers number ∙ at),
  λ same. is ∙ ap New (one m n there known (on ∙ same ∙ sym at)) ∙ sym by,
)

-- so the instances of what is kept for watches keep what alike ones keep
pub tracks-alike : (U : Layer) (s : State) (k : Notified) (t : Tracks U s k) →
    KeepAlike (stands_for k.objects t.bearers) k.instances s.instances
tracks-alike U s k t =
    alike-kept (stands_for k.objects t.bearers) k.instances s.instances
    (one-to-one k.objects t.bearers t.borne.one) t.heard

-- where handles are what they were, descriptors are on what they were
pub kept-slots : (U : Layer) (s : State) (old new : Notified) (k : Tracks U s old) → new.handles ≡ old.handles → (c fd : ℕ) →
    IsSlotOn old.objects k.bearers (tracked_by new.handles c fd) (handle_of s.tables c fd)
kept-slots U s old new k same c fd =
    subst (λ ks. IsSlotOn old.objects k.bearers (tracked_by ks c fd) (handle_of s.tables c fd)) (sym same) (k.slots c fd)

-- what is kept for watches is a state's, where it is so by the numbers of before, and each that is needed is tracked still
pub known-tracks : (V : Layer) (u : State) (old new : Notified) (bearers : Bearers) → AreKnown new →
    AreBorne V u.tree u.serial new.objects bearers → clients_of new.handles ≡ settling.clients_of u.tables →
    ((c fd : ℕ) → IsSlotOn old.objects bearers (tracked_by new.handles c fd) (handle_of u.tables c fd)) →
    AreAllAlike (stands_for old.objects bearers) new.instances u.instances → new.renames ≡ u.renames → Tracks V u new
known-tracks V u old new bearers known borne clients slots heard renames = record {
  bearers = bearers;
  borne = borne;
  clients = clients;
  slots = λ c fd. law_of_known_slots old new bearers known c fd (handle_of u.tables c fd) (slots c fd);
  heard =
      alike-known old.objects new.objects bearers bearers (λ n there. refl) new.instances u.instances
      (λ n on there. known.watched n on) heard;
  renames = renames;
}

-- objects that no watch and no handle needs may be let go
pub law_of_fewer_numbers : LawOfFewerNumbers
law_of_fewer_numbers U s k t objects few known =
    known-tracks U s k (record k { objects = objects }) t.bearers known
    (fewer-borne U U s.tree s.serial k.objects objects t.bearers (λ d key q live at. live) few t.borne) t.clients t.slots t.heard t.renames
