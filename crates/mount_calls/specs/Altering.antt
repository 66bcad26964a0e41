-- What the calls on attributes read at a path, and what those that change them leave of the layers of a mount.
use Rattle.std.specs.Prelude.{◌≡◌, ℕ, Bool, false, List, Option, None, Some, Result, Ok, Err, MatchResult, IfOk, IfErr, OnOk, OnErr}
use Rattle.std.specs.Borrow.{Bor}
use Rattle.std.specs.declared.alloc.AllocError.{AllocError}
use Rattle.ov_base.specs.declared.attributes.Attributes.{Attributes}
use Rattle.ov_base.specs.Calls.{Call}
use Rattle.ov_base.specs.declared.errno.Errno.{Errno}
use Rattle.ov_base.specs.declared.errno.Errno.TheVariants.{ENOENT}
use Rattle.plain_model.specs.Layers.{Path, Layer, Shown, held, shows}
use Rattle.plain_model.specs.Machine.{State}
use Rattle.layer_tree.specs.Tree.{layer_of}
use Rattle.merged_lookup.specs.declared.found.Topmost.{Topmost}
use Rattle.merged_lookup.specs.declared.layers.Layers.{Layers}
use Rattle.merged_lookup.specs.declared.stack.Stack.{Stack}
use Rattle.merged_lookup.specs.Merged.{upper_of, layers_of, lowers_of, parent, parents_fault, IsStackOf, IsTopmost}
use Rattle.mount_laws.specs.Looks.{shows_link, IsMountOf}
use Rattle.mount_laws.specs.Attributes.{shown_attributes, chown_fault}
use Rattle.mount_laws.specs.Altered.{AltersState}
use Rattle.copy_up.specs.Showing.{number_of, ChangesNoSight, StaysSound}
use Rattle.copy_up.specs.Texts.{KeepsTexts}
use Rattle.mount_calls.specs.declared.attribute_changes.AttributeCall.{AttributeCall}
use Rattle.mount_calls.specs.AttributeCalls.{call_at, asked_fault}
use Rattle.mount_calls.specs.Keeping.{KeepsAround}
use Rattle.mount_calls.specs.Living.{KeepsLive, StaysLive}

-- what is shown is no symbolic link, and has these attributes
pub record IsOpenTo (s : Option Shown) (a : Attributes) : Type 0 where
  pub no_link : shows_link s ≡ false
  pub attributes : shown_attributes s ≡ Some a

-- a call on the attributes at a path is not refused for the path, and these are the attributes
pub record ShowsAttributes (Ls : List Layer) (p : Path) (a : Attributes) : Type 0 where
  pub allowed : chown_fault Ls p ≡ None
  pub shown : shown_attributes (shows 0 Ls p) ≡ Some a

-- each state with this option that the mount stood for is altered as the call alters it, and the mount stands for the altered one
abbrev pub AltersStates : Layers → Layers → Bool → Path → Call → Type 0
AltersStates old new metacopy p k =
    (s : State) → IsMountOf (upper_of old) (lowers_of old) s → s.options.metacopy ≡ metacopy → (c : ℕ) → AltersState (upper_of new) (lowers_of new) s c p k

-- A call that changes attributes at a path, and was judged, alters each state with this option as the
-- call alters it, and the key is that under which the upper has what the path shows. Files that are
-- open stay live. An allocation failure leaves all that is shown, and no call changes a lower
-- layer,
-- nor what the upper holds around the path, but for missing parents of it that it gains, and no
-- mark
-- but for one of the path's spelling.
pub record AltersUnless (x : AttributeCall) (old new : Layers) (metacopy : Bool) (p : Path)
    (result : Result ℕ AllocError) : Type 0 where
  pub alters : OnOk result (AltersStates old new metacopy p (call_at p x))
  pub key : IfOk result (λ k. number_of (held (layer_of new.upper) p) ≡ Some k)
  pub lowers : new.lowers ≡ old.lowers
  pub around : KeepsAround old new p
  pub texts : KeepsTexts old new (Some p)
  pub live : OnOk result (KeepsLive old new metacopy (call_at p x))
  pub no_memory : OnErr result (ChangesNoSight old new (StaysLive old new))
  pub sound : StaysSound old new

-- what a path shows in a merged directory, to be changed there; nothing is ENOENT
abbrev pub target_in : Stack → Option Topmost → Result (Stack × Topmost) Errno
target_in directory (Some top) = Ok (directory, top)
target_in directory None = Err ENOENT

-- so also where it was seen, and the way there is not refused
abbrev pub target_of : Result (Stack × Option Topmost) Errno → Result (Stack × Topmost) Errno
target_of (Ok seen) = target_in seen.0 seen.1
target_of (Err e) = Err e

-- a call isn't refused, and this is what it changes, in the merged directory where that stands, with the attributes that it has
pub record IsTarget (l : Layers) (p : Path) (x : AttributeCall) (target : Stack × Topmost) : Type 0 where
  pub allowed : asked_fault (layers_of l) p x ≡ None
  pub way : parents_fault (layers_of l) p ≡ None
  pub directory : IsStackOf l (parent p) target.0
  pub top : IsTopmost l p (Some target.1)
  pub attributes : Attributes
  pub shown : shown_attributes (shows 0 (layers_of l) p) ≡ Some attributes

-- so a call is judged, or its fault is told
abbrev pub Judges : Layers → Path → AttributeCall → Result (Bor Stack × Topmost) Errno → Type 0
Judges l p x r = MatchResult r (λ target. IsTarget l p x (target.0.now, target.1)) (λ e. asked_fault (layers_of l) p x ≡ Some e)
