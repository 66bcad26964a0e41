-- What is kept for watches stays right in another upper, and by calls that tell nothing.
use Rattle.std.proofs.Common.{◌≡◌, ℕ, ◌<◌, Bool, true, false, not, cond, List, [], Some, refl, sym, ap, subst, ◌∙◌, arith}
use Rattle.std.proofs.lemmas.Bool.{false≢true}
use Rattle.ov_base.specs.Calls.{Call}
use Rattle.ov_base.specs.declared.call.CallOf.TheVariants.{Rename, Arm, TakeNotices}
use Rattle.ov_base.specs.declared.node_id.NodeId.{NodeId}
use Rattle.plain_model.specs.Layers.{Path, Layer}
use Rattle.plain_model.specs.Tree.{Tree, node_at}
use Rattle.plain_model.specs.Watching.{AllHear, Rule}
use Rattle.plain_model.specs.Machine.{State, handle_of}
use Rattle.plain_model.specs.Changes.{makes, moves, next_if, re_ways, way_of, settled, renamed, tree_after, tables_after, instances_after}
use Rattle.plain_model.specs.Settling as settling
use Rattle.plain_model.specs.Subjects.{subjects, rename_subjects}
use Rattle.plain_model.proofs.Watching.{AllHear-none}
use Rattle.mount_laws.specs.OpenFiles.{IsLive}
use Rattle.object_table.specs.Objects.{Spot, At, Upper, Nowhere}
use Rattle.notice_laws.specs.Notified.{Notified, IsAt, IsSlotOn, Tracks, Passes, Resumes}
use Rattle.notice_laws.specs.Places.{KeepsSlots}
use Rattle.notice_laws.specs.Steps.{keeps_handles, LawOfStaying, LawOfSilent}
use Rattle.notice_laws.specs.Moves.{LawOfUnmoved}
use Rattle.notice_laws.proofs.Slots.{law_of_same_handles}

-- where a tracked object is it is in another upper that keeps its file live, if it is one
upper-at :
    (U V : Layer) (t : Tree) (d : NodeId) → ((key : ℕ) (q : Path) → IsLive U t d key → node_at t q ≡ Some d → IsLive V t d key) →
    (spot : Spot) → IsAt U t spot d → IsAt V t spot d
upper-at U V t d live (At p) at = at
upper-at U V t d live (Upper key) at = (live key at.1 at.0 at.2, at.1, at.2)
upper-at U V t d live Nowhere at = at

-- what is kept stays right
pub law_of_staying : LawOfStaying
law_of_staying U V s k live t = record {
  bearers = t.bearers;
  borne = record {
    places = λ n spot h. upper-at U V s.tree (t.bearers n) (live (t.bearers n)) spot (t.borne.places n spot h);
    given = t.borne.given;
    one = t.borne.one;
  };
  clients = t.clients;
  slots = t.slots;
  heard = t.heard;
  renames = t.renames;
}

-- the calls that leave handles leave the instances too
pub same-instances : (s : State) (c : ℕ) (call : Call) → keeps_handles call ≡ true → instances_after s c call ≡ s.instances
same-instances s c (Arm slot p mask) h = absurd (false≢true h)
same-instances s c (TakeNotices n) h = absurd (false≢true h)
same-instances s c _ h = refl

-- and they move nothing
pub moves-nothing : (s : State) (call : Call) → keeps_handles call ≡ true → moves s call ≡ false
moves-nothing s (Rename old new) h = absurd (false≢true h)
moves-nothing s _ h = refl

-- a serial that was given is given still
pub still-given : (b : Bool) (i n : ℕ) → i < n → i < next_if b n
still-given true i n h = omega arith
still-given false i n h = h

-- a call that changes nothing that is kept for watches
record IsQuiet (s : State) (c : ℕ) (call : Call) : Type 0 where
  pub tells : subjects s c call ≡ []
  pub tree : tree_after s c call ≡ s.tree
  pub slots : KeepsSlots s c call
  pub instances : instances_after s c call ≡ s.instances
  pub moves : moves s call ≡ false

-- after it all stays as it is
quiet :
    (shows : Rule) (U V : Layer) (lowers : List Layer) (s : State) (c : ℕ) (call : Call) → IsQuiet s c call → Passes U V lowers s c call →
    (k : Notified) → Tracks U s k → Resumes shows V s c call k
quiet shows U V lowers s c call is passes k t = record {
  heard = s.instances;
  hears =
      subst (λ ss. AllHear shows ss (instances_after s c call) s.instances) (sym is.tells)
      (subst (λ es. AllHear shows [] es s.instances) (sym is.instances) (AllHear-none shows s.instances));
  tracks = record {
    bearers = t.bearers;
    borne = record {
      places = λ n spot h. places (t.bearers n) spot (t.borne.places n spot h);
      given = λ n i h e. still-given (makes s call) i s.serial (t.borne.given n i h e);
      one = t.borne.one;
    };
    clients = t.clients ∙ sym is.slots.clients;
    slots = λ k2 i. is.slots.slots k.objects t.bearers _ k2 i (t.slots k2 i);
    heard = t.heard;
    renames = t.renames ∙ ap (λ b. next_if b s.renames) (sym is.moves);
  };
}
  where
    places : (d : NodeId) (spot : Spot) → IsAt U s.tree spot d → IsAt V (tree_after s c call) spot d
    places d spot at =
        subst (λ u. IsAt V u spot d) (sym is.tree)
        (upper-at U V s.tree d
        (λ key q live there. subst (λ u. IsLive V u d key) is.tree (passes.named d key q live (ap (λ u. node_at u q) is.tree ∙ there)))
        spot at)

-- after a silent call that opens, closes and moves nothing, all stays as it is
pub law_of_silent : (shows : Rule) → LawOfSilent shows
law_of_silent shows U V lowers s c call keeps silent passes k t =
    quiet shows U V lowers s c call (record {
      tells = silent.tells;
      tree = silent.tree;
      slots = law_of_same_handles s c call keeps;
      instances = same-instances s c call keeps;
      moves = moves-nothing s call keeps;
    }) passes k t

-- a rename onto the same object changes nothing
pub law_of_unmoved : (shows : Rule) → LawOfUnmoved shows
law_of_unmoved shows U V lowers s c p q passes same k t =
    quiet shows U V lowers s c (Rename p q) (record {
      tells = ap (λ b. cond b [] (rename_subjects s (node_at s.tree p) (node_at s.tree q) (way_of s.tree p) (way_of s.tree q)
          (tree_after s c (Rename p q)))) same;
      tree = ap (λ b. cond b s.tree (settled s.tables (renamed s.options s.tree p q) (node_at s.tree q))) same;
      slots = record {
        slots = λ objects bearers r j i h. subst (λ ks. IsSlotOn objects bearers r (handle_of ks j i)) (sym tables) h;
        clients = ap settling.clients_of tables;
      };
      instances = refl;
      moves = ap not same;
    }) passes k t
  where
    tables : tables_after s c (Rename p q) ≡ s.tables
    tables = ap (λ b. cond b s.tables (re_ways s.tables (node_at s.tree p) (way_of s.tree p) (way_of s.tree q))) same
