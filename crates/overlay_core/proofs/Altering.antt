-- A call on attributes that a mount made of what it had seen at a path, and the key under which that is in the upper then.
use Rattle.std.proofs.Common.{◌≡◌, ℕ, Bool, Some, refl, sym, ap, ◌∙◌}
use Rattle.plain_model.specs.Layers.{Path, held}
use Rattle.merged_lookup.specs.declared.layers.Layers.{Layers}
use Rattle.ov_base.specs.declared.place.Place.{Place}
use Rattle.merged_lookup.specs.Merged.{upper_of, lowers_of}
use Rattle.copy_up.specs.Showing.{number_of}
use Rattle.copy_up.proofs.OtherAttributes.{upper-named}
use Rattle.notice_laws.specs.declared.object.Object.TheVariants as object
use Rattle.notice_laws.specs.Objects.{IsObject}
use Rattle.notice_laws.specs.Steps.{alters}
use Rattle.mount_calls.specs.declared.attribute_changes.AttributeCall.{AttributeCall}
use Rattle.mount_calls.specs.declared.attribute_changes.AttributeCall.TheVariants as asks
use Rattle.mount_calls.specs.AttributeCalls.{call_at}
use Rattle.mount_calls.specs.LeftMarks.{LeavesMarks}

-- each alters what stands at its path
pub asked-alters : (p : Path) (x : AttributeCall) → alters p (call_at p x)
asked-alters p (asks.Mode mode) = refl
asked-alters p (asks.Owner uid gid) = refl
asked-alters p (asks.Set name value) = refl
asked-alters p (asks.Delete name) = refl

-- of the marks in the upper none owes anything
pub marks-altered : (p : Path) (x : AttributeCall) (old new : Layers) →
    LeavesMarks (call_at p x) old new
marks-altered p (asks.Mode mode) old new = tt
marks-altered p (asks.Owner uid gid) old new = tt
marks-altered p (asks.Set name value) old new = tt
marks-altered p (asks.Delete name) old new = tt

-- a file of the upper that is shown at a path is under the key of what the upper holds there
pub held-key : (l : Layers) (p : Path) (key : ℕ) → number_of (held (upper_of l) p) ≡ Some key → (j : ℕ) (last : Bool) → IsObject (upper_of l) (lowers_of l) p (object.Upper j last) → key ≡ j
held-key l p key there j last is =
    let d : Place = record { layer = 0; key = j } in
    let named = upper-named l p d (Some is.inode) refl is.shown in
    let two : Some key ≡ Some j = sym there ∙ ap number_of named.named in
    cc
