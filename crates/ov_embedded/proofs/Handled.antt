-- What was asked of a mount through its handle.
use Rattle.std.proofs.Common.{◌≡◌, ℕ, List, Option, inl, inr, refl, sym, subst, ap, ◌∙◌}
use Rattle.std.specs.declared.option.Option.TheVariants.{None, Some}
use Rattle.ov_embedded.specs.Through.{Through}
use Rattle.ov_embedded.specs.Calling.{IsShown, Shows}
use Rattle.ov_embedded.specs.Mounting.{GoesNowhere, HasNoMount, IsFresh, IsMounted, IsMountedOn, IsToldAs, MountsAs, MountsInto, MountsOnInto}
use Rattle.ov_embedded.specs.declared.manifest.Unmountable.{Unmountable}
use Rattle.ov_embedded.specs.declared.manifest.Unmountable.TheVariants as unmountable
use Rattle.ov_embedded.specs.declared.mounted.Mounted.{Mounted}
use Rattle.ov_embedded.specs.declared.outcome.Outcome.{Outcome}
use Rattle.ov_embedded.specs.declared.outcome.Outcome.TheVariants as outcome

module _ {R : Type 0} (none : R) (Does : Mounted → Mounted → R → Type 0)
    (old new : Option Mounted) where
  -- the mount that a handle held, to which this was done, and which it holds again
  pub through_some : (was now after kept : Mounted) (result : R) → old ≡ Some was → now ≡ was →
      Does now after result → kept ≡ after → new ≡ Some kept → Through none Does old new result
  through_some was now after kept result held same does back holds =
      subst (λ o. Through none Does o new result) (sym held) (
        after,
        holds ∙ ap (λ m. Some m) back,
        subst (λ m. Does m after result) same does,
      )

module _ (Is : Mounted → Type 0) (Lacks : Unmountable → Type 0) where
  -- a handle that holds a mount keeps it
  pub kept_as : (old new : Option Mounted) (was now : Mounted) → old ≡ Some was → now ≡ was →
      new ≡ Some now → MountsAs Is Lacks old new outcome.Mounted
  kept_as old new was now held same holds =
      subst (λ o. MountsAs Is Lacks o new outcome.Mounted) (sym held)
      (holds ∙ ap (λ m. Some m) same, refl)

  -- one of nothing holds the mount that was made
  pub made_as : (old new : Option Mounted) (m : Mounted) → old ≡ None → new ≡ Some m → Is m →
      IsFresh m → MountsAs Is Lacks old new outcome.Done
  made_as old new m nothing holds is fresh =
      subst (λ o. MountsAs Is Lacks o new outcome.Done) (sym nothing) (m, holds, is, fresh)

  -- or nothing still, since memory ran out
  pub nothing_as : (old new : Option Mounted) → old ≡ None → new ≡ None →
      MountsAs Is Lacks old new outcome.NoMemory
  nothing_as old new was nothing =
      subst (λ o. MountsAs Is Lacks o new outcome.NoMemory) (sym was) nothing

  -- or for a reason
  lacking : (new : Option Mounted) (why : Unmountable) (result : Outcome) → new ≡ None →
      Lacks why → IsToldAs why result → MountsAs Is Lacks None new result
  lacking new (unmountable.Manifest f) result nothing lacks (inl e) =
      subst (λ r. MountsAs Is Lacks None new r) (sym e)
      (nothing, (unmountable.Manifest f, lacks, refl))
  lacking new (unmountable.Upper f) result nothing lacks (inl e) =
      subst (λ r. MountsAs Is Lacks None new r) (sym e)
      (nothing, (unmountable.Upper f, lacks, refl))
  lacking new (unmountable.Blob n) result nothing lacks (inl e) =
      subst (λ r. MountsAs Is Lacks None new r) (sym e)
      (nothing, (unmountable.Blob n, lacks, refl))
  lacking new unmountable.Memory result nothing lacks (inl e) =
      subst (λ r. MountsAs Is Lacks None new r) (sym e) nothing
  lacking new why result nothing lacks (inr e) =
      subst (λ r. MountsAs Is Lacks None new r) (sym e) nothing

  pub lacking_as : (old new : Option Mounted) (why : Unmountable) (result : Outcome) →
      old ≡ None → new ≡ None → Lacks why → IsToldAs why result →
      MountsAs Is Lacks old new result
  lacking_as old new why result was nothing lacks told =
      subst (λ o. MountsAs Is Lacks o new result) (sym was)
      (lacking new why result nothing lacks told)

module _ (manifest blobs lengths : List ℕ) (old new : Option Mounted) where
  -- so of a manifest
  pub mounts_kept : (was now : Mounted) → old ≡ Some was → now ≡ was → new ≡ Some now →
      MountsInto manifest blobs lengths old new outcome.Mounted
  mounts_kept was now held same holds =
      kept_as (λ m. IsMounted manifest blobs lengths m.core) (HasNoMount manifest blobs lengths)
      old new was now held same holds

  pub mounts_made : (m : Mounted) → old ≡ None → new ≡ Some m →
      IsMounted manifest blobs lengths m.core → IsFresh m →
      MountsInto manifest blobs lengths old new outcome.Done
  mounts_made m nothing holds mounted fresh =
      made_as (λ m. IsMounted manifest blobs lengths m.core) (HasNoMount manifest blobs lengths)
      old new m nothing holds mounted fresh

  pub mounts_nothing : (why : Unmountable) (result : Outcome) → old ≡ None → new ≡ None →
      HasNoMount manifest blobs lengths why → IsToldAs why result →
      MountsInto manifest blobs lengths old new result
  mounts_nothing why result was nothing lacks told =
      lacking_as (λ m. IsMounted manifest blobs lengths m.core)
      (HasNoMount manifest blobs lengths) old new why result was nothing lacks told

  -- and of one that goes on
  module _ (saved : List ℕ) where
    pub goes_on_kept : (was now : Mounted) → old ≡ Some was → now ≡ was → new ≡ Some now →
        MountsOnInto saved manifest blobs lengths old new outcome.Mounted
    goes_on_kept was now held same holds =
        kept_as (λ m. IsMountedOn saved manifest blobs lengths m.core)
        (GoesNowhere saved manifest blobs lengths) old new was now held same holds

    pub goes_on_made : (m : Mounted) → old ≡ None → new ≡ Some m →
        IsMountedOn saved manifest blobs lengths m.core → IsFresh m →
        MountsOnInto saved manifest blobs lengths old new outcome.Done
    goes_on_made m nothing holds mounted fresh =
        made_as (λ m. IsMountedOn saved manifest blobs lengths m.core)
        (GoesNowhere saved manifest blobs lengths) old new m nothing holds mounted fresh

    pub goes_on_nothing : (why : Unmountable) (result : Outcome) → old ≡ None → new ≡ None →
        GoesNowhere saved manifest blobs lengths why → IsToldAs why result →
        MountsOnInto saved manifest blobs lengths old new result
    goes_on_nothing why result was nothing lacks told =
        lacking_as (λ m. IsMountedOn saved manifest blobs lengths m.core)
        (GoesNowhere saved manifest blobs lengths) old new why result was nothing lacks told

-- what is shown is of the mount that the handle holds again
pub shown_some : (result : Outcome) (new : Option Mounted) (kept seen : Mounted)
    (before after : List ℕ) (count : ℕ) → new ≡ Some kept → seen ≡ kept →
    Shows result seen.reply.items before after count → IsShown result new before after count
shown_some result new kept seen before after count holds same shows =
    subst (λ o. IsShown result o before after count) (sym holds)
    (subst (λ m. Shows result m.reply.items before after count) same shows)

-- or nothing is
pub shown_none : (result : Outcome) (new : Option Mounted) (room : List ℕ) → new ≡ None →
    IsShown result new room room 0
shown_none result new room nothing =
    subst (λ o. IsShown result o room room 0) (sym nothing) (refl, refl)
