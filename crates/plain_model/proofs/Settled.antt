-- Every state of a mount is settled, whatever callbacks answer.
use Rattle.std.proofs.Common.{◌≡◌, ℕ, zero, suc, ◌<◌, ◌≤◌, true, false, not, ◌||◌, List, [], ◌∷◌, ◌++◌, Option, None, Some, refl, sym, ap, subst, ◌∙◌, nat_eq, length, is_some, is_none, ◌⊎◌, inl, inr, arith, length-append}
use Rattle.std.specs.Prelude.{slice_get, slice_set}
use Rattle.std.specs.List.{All, IsDistinct, list_any}
use Rattle.std.proofs.lemmas.Bool.{false≢true, or_cases, eqb-true}
use Rattle.std.proofs.lemmas.List.{map-append, length-map, length-replicate}
use Rattle.std.proofs.lemmas.List.Folds.{list_any-append}
use Rattle.std.proofs.lemmas.List.Elements.{All-nil, All-push, All-filter}
use Rattle.ov_base.specs.Calls.{Call}
use Rattle.ov_base.specs.declared.call.CallOf.TheVariants.{Close}
use Rattle.ov_base.specs.declared.errno.Errno.{Errno}
use Rattle.ov_base.specs.declared.errno.Errno.TheVariants.{EBADF}
use Rattle.ov_base.specs.declared.node_id.NodeId.{NodeId}
use Rattle.ov_base.specs.declared.reply.Reply.{Reply}
use Rattle.plain_model.specs.Layers.{Layer}
use Rattle.plain_model.specs.Tree.{Tree}
use Rattle.plain_model.specs.Merging.{IsMerge}
use Rattle.plain_model.specs.Watching.{Rule, Instance, silent}
use Rattle.plain_model.specs.Machine.{Handle, Table, State, MountOptions, DESCRIPTORS_MAX, free_table, opening, handles_of, held_in, handle_of}
use Rattle.plain_model.specs.Refusals.{refusal, when, ◌or_else◌}
use Rattle.plain_model.specs.Changes.{holds, is_named, after}
use Rattle.plain_model.specs.Subjects.{subjects}
use Rattle.plain_model.specs.Runs.{Answered, Step, Closes, CLIENTS_MAX, joined, without_instance, without_table, Deed, Attached, Called, Detached, Entry, Does, Run, IsLegal}
use Rattle.plain_model.specs.Settling.{clients_of, IsSettled, LawOfSettledOpening, LawOfSettling, LawOfSettledRuns, Anything}
use Rattle.plain_model.proofs.Kept.{at-path}
use Rattle.plain_model.proofs.RunsKept.{Keeps, step-keeps, does-keeps}
use Rattle.plain_model.proofs.Held.{is_on, with-handles, joined-held, left-held}
use Rattle.plain_model.proofs.Lasting.{Lasts, AllLast, some-named, named-lasts}
use Rattle.plain_model.proofs.Calls.{call-lasts}
use Rattle.plain_model.proofs.Clients.{call-fixed, hearers_of, call-hearers, heard-hearers, size, same-sizes, but, filter-map, but-apart, but-member, but-fewer, last-apart, none-is, attached-is}

-- What a settled state is, where the clients cs are attached, and hs hear: the two are the same but while a client goes.
pub record Settles (s : State) (cs hs : List ℕ) : Type 0 where
  pub lasts : AllLast s.tree s.tables
  pub clients : clients_of s.tables ≡ cs
  pub hearers : hearers_of s.instances ≡ hs
  pub apart : IsDistinct nat_eq cs
  pub before : (c : ℕ) → list_any (λ x. nat_eq x c) cs ≡ true → c < s.arrived
  pub full : All (λ (k : Table). size k ≡ DESCRIPTORS_MAX) s.tables
  pub few : length cs ≤ CLIENTS_MAX

-- the two ways between them
opens : (s : State) → IsSettled s → Settles s (clients_of s.tables) (clients_of s.tables)
opens s x = record {
  lasts = λ d. record { named = x.named d; there = x.there d };
  clients = refl;
  hearers = x.heard;
  apart = x.apart;
  before = λ c h. x.before c (attached-is c s.tables ∙ h);
  full = x.full;
  few = let e = length-map s.tables (λ (k : Table). k.client) in let f = x.few in omega arith;
}

shuts : (s : State) (cs : List ℕ) → Settles s cs cs → IsSettled s
shuts s cs x = record {
  named = λ d. (x.lasts d).named;
  there = λ d. (x.lasts d).there;
  apart = subst (IsDistinct nat_eq) (sym x.clients) x.apart;
  before = λ c h. x.before c (ap (list_any (λ x. nat_eq x c)) (sym x.clients) ∙ sym (attached-is c s.tables) ∙ h);
  full = x.full;
  heard = x.hearers ∙ sym x.clients;
  few = let e = length-map s.tables (λ (k : Table). k.client) in let f = x.few in let g = ap length x.clients in omega arith;
}

-- a call keeps what a settled state is
pub step-settles : (shows : Rule) (old : State) (c : ℕ) (call : Call) (reply : Reply) (new : State) (cs hs : List ℕ) → Step shows old c call reply new → Keeps old → Settles old cs hs → Settles new cs hs
step-settles shows old c call reply new cs hs step k x = by (refusal old c call) refl step
  where
    by : (o : Option Errno) → refusal old c call ≡ o → Answered o shows old c call reply new → Settles new cs hs
    by (Some e) r a = subst (λ s. Settles s cs hs) (sym a.1) x
    by None r a = subst (λ s. Settles s cs hs) (sym a.state) (record {
      lasts = call-lasts old c k (subst (IsDistinct nat_eq) (sym x.clients) x.apart) x.lasts call r;
      clients = call-fixed (λ k. k.client) (λ k hs e. refl) old c call ∙ x.clients;
      hearers = heard-hearers shows (subjects old c call) (after old c call).instances new.instances a.heard ∙ call-hearers old c call ∙ x.hearers;
      apart = x.apart;
      before = x.before;
      full = same-sizes old.tables (after old c call).tables (call-fixed size (λ k hs e. e) old c call) x.full;
      few = x.few;
    })

-- what is left of descriptors to be closed from the i-th on: those before it are free
abbrev pub IsLeft : ℕ → List (Option Handle) → List (Option Handle) → Type 0
IsLeft zero all rest = all ≡ rest
IsLeft (suc i) [] rest = ⊥
IsLeft (suc i) (h ∷ all) rest = (h ≡ None) × IsLeft i all rest

-- the next descriptor is free
left-free : (i : ℕ) (all rest : List (Option Handle)) → IsLeft i all (None ∷ rest) → IsLeft (suc i) all rest
left-free zero [] rest l = absurd (cc)
left-free zero (h ∷ all) rest l = (cc, cc)
left-free (suc i) [] rest l = absurd l
left-free (suc i) (h ∷ all) rest l = (l.0, left-free i all rest l.1)

-- the next descriptor is open
left-open : (i : ℕ) (all rest : List (Option Handle)) (x : Handle) → IsLeft i all (Some x ∷ rest) → held_in (slice_get all i) ≡ Some x
left-open zero all rest x l = ap (λ hs. held_in (slice_get hs 0)) l
left-open (suc i) [] rest x l = absurd l
left-open (suc i) (h ∷ all) rest x l = left-open i all rest x l.1

-- the next descriptor is closed
left-closed : (i : ℕ) (all rest : List (Option Handle)) (x : Handle) → IsLeft i all (Some x ∷ rest) → IsLeft (suc i) (slice_set all i None) rest
left-closed zero [] rest x l = absurd (cc)
left-closed zero (h ∷ all) rest x l = (refl, cc)
left-closed (suc i) [] rest x l = absurd l
left-closed (suc i) (h ∷ all) rest x l = (l.0, left-closed i all rest x l.1)

-- none is left
left-none : (i : ℕ) (all : List (Option Handle)) (d : NodeId) → IsLeft i all [] → is_on d all ≡ false
left-none zero all d l = ap (is_on d) l
left-none (suc i) [] d l = absurd l
left-none (suc i) (h ∷ all) d l = ap (λ o. holds d o || is_on d all) l.0 ∙ left-none i all d l.1

-- an open descriptor that is closed is free
closed-handles : (shows : Rule) (old : State) (c i : ℕ) (reply : Reply) (new : State) (x : Handle) → handle_of old.tables c i ≡ Some x → Step shows old c (Close i) reply new → handles_of new.tables c ≡ slice_set (handles_of old.tables c) i None
closed-handles shows old c i reply new x e step =
    let taken : Answered None shows old c (Close i) reply new = subst (λ o. Answered o shows old c (Close i) reply new) (ap (λ h. when (is_none h) EBADF or_else None) e) step in
    ap (λ s. handles_of s.tables c) taken.state ∙ with-handles old.tables c i None

-- all descriptors of a client close
closes-settles : (shows : Rule) (c i : ℕ) (rest : List (Option Handle)) (old new : State) (cs hs : List ℕ) → Closes shows old c i rest new → Keeps old → Settles old cs hs → IsLeft i (handles_of old.tables c) rest → Settles new cs hs × ((d : NodeId) → is_on d (handles_of new.tables c) ≡ false)
closes-settles shows c i [] old new cs hs h k x l =
    subst (λ s. Settles s cs hs × ((d : NodeId) → is_on d (handles_of s.tables c) ≡ false)) (sym h) (x, λ d. left-none i (handles_of old.tables c) d l)
closes-settles shows c i (None ∷ rest) old new cs hs h k x l = closes-settles shows c (suc i) rest old new cs hs h k x (left-free i (handles_of old.tables c) rest l)
closes-settles shows c i (Some y ∷ rest) old new cs hs h k x l =
    closes-settles shows c (suc i) rest h.1 new cs hs h.3 (step-keeps shows old c (Close i) h.0 h.1 h.2 k) (step-settles shows old c (Close i) h.0 h.1 cs hs h.2 k x)
    (subst (λ all. IsLeft (suc i) all rest) (sym (closed-handles shows old c i h.0 h.1 y (left-open i (handles_of old.tables c) rest y l) h.2)) (left-closed i (handles_of old.tables c) rest y l))

-- a client goes
leaves-settles : (shows : Rule) (old : State) (c : ℕ) (mid : State) → Closes shows (without_instance old c) c 0 (handles_of old.tables c) mid → Keeps old → IsSettled old → IsSettled (without_table mid c)
leaves-settles shows old c mid h k x =
    let start = opens old x in
    let cs = clients_of old.tables in
    let z = closes-settles shows c 0 (handles_of old.tables c) (without_instance old c) mid cs (but c cs) h k (record {
      lasts = start.lasts;
      clients = refl;
      hearers = filter-map {A = Instance} (λ e. e.client) c old.instances ∙ ap (but c) x.heard;
      apart = start.apart;
      before = start.before;
      full = start.full;
      few = start.few;
    }) refl in
    shuts (without_table mid c) (but c cs) (record {
      lasts = λ d. subst (Lasts (mid.tree d)) (sym (left-held mid.tables c d (subst (IsDistinct nat_eq) (sym z.0.clients) z.0.apart) (z.1 d))) (z.0.lasts d);
      clients = filter-map {A = Table} (λ k. k.client) c mid.tables ∙ ap (but c) z.0.clients;
      hearers = z.0.hearers;
      apart = but-apart c cs start.apart;
      before = λ y m. z.0.before y (but-member c y cs m);
      full = All-filter (λ k. not (nat_eq k.client c)) (λ k. size k ≡ DESCRIPTORS_MAX) mid.tables z.0.full;
      few = let f = but-fewer c cs in let g = start.few in omega arith;
    })

-- a client comes
joins-settles : (old : State) (tags : List ℕ) → length old.tables < CLIENTS_MAX → IsSettled old → IsSettled (joined old tags)
joins-settles old tags room x =
    let start = opens old x in
    let cs = clients_of old.tables in
    shuts (joined old tags) (cs ++ old.arrived ∷ []) (record {
      lasts = λ d. subst (Lasts (old.tree d)) (sym (joined-held old.tables old.arrived d)) (start.lasts d);
      clients = map-append (λ (k : Table). k.client) old.tables (free_table old.arrived ∷ []);
      hearers = map-append (λ (e : Instance). e.client) old.instances (silent old.arrived tags ∷ []) ∙ ap (λ ys. ys ++ old.arrived ∷ []) x.heard;
      apart = last-apart cs old.arrived start.apart (none-is cs old.arrived (λ m. below old.arrived (start.before old.arrived m)));
      before = λ c m. before c (or_cases (list_any (λ x. nat_eq x c) cs) (nat_eq old.arrived c || false) (sym (list_any-append (λ x. nat_eq x c) cs (old.arrived ∷ [])) ∙ m));
      full = All-push (λ k. size k ≡ DESCRIPTORS_MAX) old.tables (free_table old.arrived) start.full (length-replicate {A = Option Handle} DESCRIPTORS_MAX None);
      few = let e = length-map old.tables (λ (k : Table). k.client) in let f = length-append cs (old.arrived ∷ []) in omega arith;
    })
  where
    below : (n : ℕ) → n < n → ⊥
    below n h = absurd (omega arith)

    before : (c : ℕ) → (list_any (λ x. nat_eq x c) (clients_of old.tables) ≡ true) ⊎ (nat_eq old.arrived c || false ≡ true) → c < suc old.arrived
    before c (inl m) = let z = (opens old x).before c m in omega arith
    before c (inr m) = elim (or_cases (nat_eq old.arrived c) false m) [
      | inl e ↦ let z = eqb-true old.arrived c e in omega arith
      | inr f ↦ absurd (false≢true f)
    ]

-- whatever a client does, by any rule
pub does-settles : (shows : Rule) (old : State) (c : ℕ) (deed : Deed) (new : State) → Does shows old c deed new → Keeps old → IsSettled old → IsSettled new
does-settles shows old c (Attached tags) new h k x = subst IsSettled (sym h.3) (joins-settles old tags h.2 x)
does-settles shows old c (Called call reply) new h k x = shuts new (clients_of old.tables) (step-settles shows old c call reply new (clients_of old.tables) (clients_of old.tables) h.1 k (opens old x))
does-settles shows old c Detached new h k x = subst IsSettled (sym h.1.2) (leaves-settles shows old c h.1.0 h.1.1 k x)

-- every state of a run, by any rule
pub run-settles : (shows : Rule) (es : List Entry) (old new : State) → Run shows old es new → Keeps old → IsSettled old → IsSettled new
run-settles shows [] old new h k x = subst IsSettled (sym h) x
run-settles shows (e ∷ es) old new h k x = run-settles shows es h.0 new h.2 (does-keeps shows old e.client e.deed h.0 h.1 k) (does-settles shows old e.client e.deed h.0 h.1 k x)

-- no numbers are apart
none-apart : IsDistinct nat_eq []
unfolding IsDistinct
none-apart = tt

-- a mount begins settled: each node of a merge is at a path
pub law_of_settled_opening : LawOfSettledOpening
law_of_settled_opening U lowers t options m = record {
  named = λ d s. (named-lasts (t d) false (named d s)).named s;
  there = λ d h. absurd (false≢true h);
  apart = none-apart;
  before = λ c h. absurd (false≢true h);
  full = All-nil (λ k. size k ≡ DESCRIPTORS_MAX);
  heard = refl;
  few = omega arith;
}
  where
    named : (d : NodeId) → is_some (t d) ≡ true → is_named (t d) ≡ true
    named d s =
        let p = m.no_more d s in
        some-named (t d) (at-path t 0 m.kept p.0 d p.1)

-- the last state of a history of a mount is settled
pub history-settles : (shows : Rule) (U : Layer) (lowers : List Layer) (t : Tree) (options : MountOptions) (es : List Entry) (last : State) → IsMerge U lowers t → IsLegal shows (opening t options) es last → IsSettled last
history-settles shows U lowers t options es last m l = run-settles shows es (opening t options) last l.run m.kept (law_of_settled_opening U lowers t options m)

-- the laws, by the widest rule
pub law_of_settling : LawOfSettling
law_of_settling old new c deed k x h = does-settles Anything old c deed new h k x

pub law_of_settled_runs : LawOfSettledRuns
law_of_settled_runs es old new k x h = run-settles Anything es old new h k x
