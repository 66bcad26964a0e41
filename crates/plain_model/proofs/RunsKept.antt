-- Every state of a run that begins with a merge keeps what trees keep: each node has as many names as it says.
use Rattle.std.proofs.Common.{◌≡◌, ℕ, List, [], ◌∷◌, Option, None, Some, refl, sym, subst}
use Rattle.ov_base.specs.Calls.{Call}
use Rattle.ov_base.specs.declared.call.CallOf.TheVariants.{Close}
use Rattle.ov_base.specs.declared.errno.Errno.{Errno}
use Rattle.ov_base.specs.declared.reply.Reply.{Reply}
use Rattle.plain_model.specs.Layers.{Layer}
use Rattle.plain_model.specs.Tree.{Tree, IsKept}
use Rattle.plain_model.specs.Merging.{IsMerge}
use Rattle.plain_model.specs.Watching.{Rule}
use Rattle.plain_model.specs.Machine.{MountOptions, Handle, State, opening, handles_of}
use Rattle.plain_model.specs.Refusals.{refusal}
use Rattle.plain_model.specs.Runs.{Answered, Step, Closes, without_instance, Deed, Attached, Called, Detached, Entry, Does, Run, IsLegal}
use Rattle.plain_model.proofs.Kept.{law_of_names}

-- a state keeps what trees keep
abbrev pub Keeps : State → Type 0
Keeps s = IsKept s.tree s.serial

pub step-keeps : (shows : Rule) (old : State) (c : ℕ) (call : Call) (reply : Reply) (new : State) → Step shows old c call reply new → Keeps old → Keeps new
step-keeps shows old c call reply new step k = by (refusal old c call) refl step
  where
    by : (o : Option Errno) → refusal old c call ≡ o → Answered o shows old c call reply new → Keeps new
    by (Some e) h a = subst Keeps (sym a.1) k
    by None h a = subst Keeps (sym a.state) (law_of_names old c call k h)

closes-keeps : (shows : Rule) (c i : ℕ) (hs : List (Option Handle)) (old new : State) → Closes shows old c i hs new → Keeps old → Keeps new
closes-keeps shows c i [] old new h k = subst Keeps (sym h) k
closes-keeps shows c i (None ∷ hs) old new h k = closes-keeps shows c _ hs old new h k
closes-keeps shows c i (Some x ∷ hs) old new h k = closes-keeps shows c _ hs h.1 new h.3 (step-keeps shows old c (Close i) h.0 h.1 h.2 k)

pub does-keeps : (shows : Rule) (old : State) (c : ℕ) (deed : Deed) (new : State) → Does shows old c deed new → Keeps old → Keeps new
does-keeps shows old c (Attached tags) new h k = subst Keeps (sym h.3) k
does-keeps shows old c (Called call reply) new h k = step-keeps shows old c call reply new h.1 k
does-keeps shows old c Detached new h k = subst Keeps (sym h.1.2) (closes-keeps shows c 0 (handles_of old.tables c) (without_instance old c) h.1.0 h.1.1 k)

pub run-keeps : (shows : Rule) (es : List Entry) (old new : State) → Run shows old es new → Keeps old → Keeps new
run-keeps shows [] old new h k = subst Keeps (sym h) k
run-keeps shows (e ∷ es) old new h k = run-keeps shows es h.0 new h.2 (does-keeps shows old e.client e.deed h.0 h.1 k)

-- the last state of a history of a mount keeps it
pub history-keeps : (shows : Rule) (U : Layer) (lowers : List Layer) (t : Tree) (options : MountOptions) (es : List Entry) (last : State) → IsMerge U lowers t → IsLegal shows (opening t options) es last → Keeps last
history-keeps shows U lowers t options es last m l = run-keeps shows es (opening t options) last l.run m.kept
