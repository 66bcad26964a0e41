-- What waits from step to step: an open whose file is copied.
use Rattle.std.proofs.Common.{◌≡◌, ◌<◌, Bool, true, false, not, ◌&&◌, List, [], Option, None, Some, length, refl, sym, ap, ap₂, ◌∙◌, subst}
use Rattle.std.specs.Prelude.{IsSomeAnd}
use Rattle.std.proofs.lemmas.Bool.{and_parts}
use mathlib.Core.Bool.{beq}
use Rattle.ov_base.specs.declared.call.OpenFlags.{OpenFlags}
use Rattle.plain_model.specs.Machine.{State}
use Rattle.plain_model.specs.Refusals.{refusal}
use Rattle.merged_lookup.specs.Merged.{upper_of, lowers_of}
use Rattle.work_dir.specs.Beginnings.{Beginning}
use Rattle.work_dir.specs.NextSteps.{next_of, IsDue, IsPartial}
use Rattle.work_dir.specs.declared.next.Lack.{Lack}
use Rattle.work_dir.specs.declared.next.Lack.TheVariants.{File}
use Rattle.work_dir.specs.declared.next.Next.TheVariants.{Copy}
use Rattle.ov_base.specs.declared.place.Place.{Place}
use Rattle.mount_calls.specs.Lacks.{lack_of, lack_size}
use Rattle.mount_calls.specs.States.{IsStateOf}
use Rattle.mount_calls.specs.declared.mount.Mount.{Mount}
use Rattle.overlay_core.specs.declared.job.Job.{Job}
use Rattle.overlay_core.specs.declared.waiting.Waiting.{Waiting}
use Rattle.overlay_core.specs.Steps.{lack_by, next_by, IsNext}
use Rattle.overlay_core.specs.Waits.{IsFor, WaitsFor, WaitsForAny}

-- nothing waits
pub none-waits : (m : Mount) (waiting : List Waiting) → waiting ≡ [] → WaitsForAny m waiting
none-waits m waiting none = subst (WaitsForAny m) (sym none) (λ w e. cc)

module _ (m : Mount) (w : Waiting) (j : Job) (t : Option Beginning) (is : IsFor j w) (waits : WaitsFor m w) where
  -- so the next step of a job with this call is known by what waits
  pub copies-next : next_of None (File w.source) j.placings j.begins t w.size ≡ Copy → (s : State) → IsStateOf m s →
      next_by m j t (refusal s j.client j.call) ≡ Copy
  copies-next told s st =
      let L = lowers_of m.layers in
      let lack : lack_by m j ≡ File w.source = ap (lack_of (upper_of m.layers) L m.metacopy) is.1 ∙ waits.1 in
      let none : refusal s j.client j.call ≡ None = ap₂ (refusal s) is.0 is.1 ∙ waits.0 s st in
      ap (λ r. next_of r (lack_by m j) j.placings j.begins t (lack_size L (lack_by m j))) none
      ∙ ap (λ (l : Lack). next_of None l j.placings j.begins t (lack_size L l)) lack
      ∙ ap (next_of None (File w.source) j.placings j.begins t) waits.2 ∙ told

-- and the file has more bytes than the temp
copies-part : (m : Mount) (w : Waiting) (t : Option Beginning) → WaitsFor m w → IsPartial (File w.source) t w.size →
    IsSomeAnd t (λ (x : Beginning). length x.bytes < lack_size (lowers_of m.layers) (File x.source))
copies-part m w None waits part = absurd part
copies-part m w (Some x) waits part =
    let L = lowers_of m.layers in
    let e : File w.source ≡ File x.source = part.0 in
    let same : w.source ≡ x.source = cc in
    subst (λ (d : Place). length x.bytes < lack_size L (File d)) same (subst (λ z. length x.bytes < z) (sym waits.2) part.1)

pub copies-due : (m : Mount) (w : Waiting) (j : Job) (t : Option Beginning) → WaitsFor m w →
    IsDue Copy None (File w.source) j.placings j.begins t w.size → IsNext m j t Copy
copies-due m w j t waits due = copies-part m w t waits due.1

-- flags that are told to be the same are
beq-same : (a b : Bool) → beq a b ≡ true → a ≡ b
beq-same true true h = refl
beq-same true false h = sym h
beq-same false true h = h
beq-same false false h = refl

told-same : (b : Bool) → false ≡ not b → b ≡ true
told-same true h = refl
told-same false h = h

-- the first of several that are told to be the same, and the others
and-same : (a b rest : Bool) → (beq a b && rest) ≡ true → (a ≡ b) × (rest ≡ true)
and-same a b rest h = let parts = and_parts (beq a b) rest h in (beq-same a b parts.0, parts.1)

module _ (f g : OpenFlags) where
  -- the flags from one on are told to be the same
  abbrev from_unknown : Bool
  from_unknown = beq f.unknown g.unknown

  abbrev from_directory : Bool
  from_directory = beq f.directory g.directory && from_unknown

  abbrev from_append : Bool
  from_append = beq f.append g.append && from_directory

  abbrev from_truncate : Bool
  from_truncate = beq f.truncate g.truncate && from_append

  abbrev from_exclusive : Bool
  from_exclusive = beq f.exclusive g.exclusive && from_truncate

  abbrev from_create : Bool
  from_create = beq f.create g.create && from_exclusive

  abbrev from_writes : Bool
  from_writes = beq f.writes g.writes && from_create

  abbrev from_reads : Bool
  from_reads = beq f.reads g.reads && from_writes

  pub same-flags : false ≡ not from_reads → f ≡ g
  same-flags h =
      let at_reads = and-same f.reads g.reads from_writes (told-same from_reads h) in
      let at_writes = and-same f.writes g.writes from_create (at_reads.1) in
      let at_create = and-same f.create g.create from_exclusive (at_writes.1) in
      let at_exclusive = and-same f.exclusive g.exclusive from_truncate (at_create.1) in
      let at_truncate = and-same f.truncate g.truncate from_append (at_exclusive.1) in
      let at_append = and-same f.append g.append from_directory (at_truncate.1) in
      let at_directory = and-same f.directory g.directory from_unknown (at_append.1) in
      let at_unknown = beq-same f.unknown g.unknown at_directory.1 in
      λ i. record {
        reads = at_reads.0 i;
        writes = at_writes.0 i;
        create = at_create.0 i;
        exclusive = at_exclusive.0 i;
        truncate = at_truncate.0 i;
        append = at_append.0 i;
        directory = at_directory.0 i;
        unknown = at_unknown i;
      }
