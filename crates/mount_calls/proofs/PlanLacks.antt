-- What a planned call lacks can be had.
use Rattle.std.proofs.Common.{◌≡◌, ◌⊎◌, inl, inr, ℕ, Bool, true, false, ◌||◌, ◌&&◌, cond, is_none}
use Rattle.std.proofs.Common.{List, [], ◌∷◌, Option, None, Some, refl, sym, ap, ◌∙◌, subst, arith}
use Rattle.std.specs.Borrow.{Bor}
use Rattle.ov_base.specs.declared.bytes.Bytes.{Bytes}
use Rattle.ov_base.specs.declared.call.CallOf.TheVariants as call
use Rattle.ov_base.specs.declared.call.OpenFlags.{OpenFlags}
use Rattle.ov_base.specs.declared.errno.Errno.{Errno}
use Rattle.ov_base.specs.declared.errno.Errno.TheVariants.{EINVAL}
use Rattle.ov_base.specs.declared.place.Place.{Place}
use Rattle.plain_model.specs.Layers.{Path, Layer, Shown, shows}
use Rattle.plain_model.specs.Refusals.{bad_flags, bad_mode, when}
use Rattle.merged_lookup.specs.declared.stack.Stack.{Stack}
use Rattle.mount_laws.specs.Looks.{absent, or_else, parents_fault, walk_fault}
use Rattle.mount_laws.specs.Opening.{opening_fault, shown_fault}
use Rattle.mount_laws.specs.Renaming.{is_one}
use Rattle.mount_laws.proofs.Links.{first-none, second-none}
use Rattle.work_dir.specs.declared.next.Lack.{Lack}
use Rattle.mount_calls.specs.declared.attribute_changes.AttributeCall.{AttributeCall}
use Rattle.mount_calls.specs.declared.attribute_changes.AttributeCall.TheVariants as asks
use Rattle.mount_calls.specs.declared.look.Look.{Look}
use Rattle.mount_calls.specs.declared.mount.Mount.{Mount}
use Rattle.mount_calls.specs.declared.plan.Plan.{Plan}
use Rattle.mount_calls.specs.declared.plan.Plan.TheVariants as plan
use Rattle.mount_calls.specs.AttributeCalls.{call_at}
use Rattle.mount_calls.specs.Lacks.{copied_file, data_at, lack_among, lack_of, CanBeHad}
use Rattle.mount_calls.specs.Plans.{call_of, IsFoundFor, IsPlanned}
use Rattle.mount_calls.proofs.Having.{can-both, can-one, copied-bytes, data-bytes, none-bytes}
use Rattle.mount_calls.proofs.Having.{IsWay}
use Rattle.mount_calls.proofs.Lacking.{attribute-lack, rename-apart, rename-one}
use Rattle.mount_calls.proofs.Stating.{the_layers, the_lowers, the_upper}

-- the way to what is changed by a call on attributes
pub attribute-way : (m : Mount) (p : Path) (x : AttributeCall) → parents_fault (the_layers m) p ≡ None → IsWay m (call_at p x) false p
attribute-way m p (asks.Mode mode) h = record { path = refl; way = h; opens = tt }
attribute-way m p (asks.Owner uid gid) h = record { path = refl; way = h; opens = tt }
attribute-way m p (asks.Set name value) h = record { path = refl; way = h; opens = tt }
attribute-way m p (asks.Delete name) h = record { path = refl; way = h; opens = tt }

-- the way to what unlink and rmdir remove is shown, and the way to what is opened
pub way-first : (a b : Option Errno) (Ls : List Layer) (p : Path) → or_else a (or_else (walk_fault Ls p) b) ≡ None → parents_fault Ls p ≡ None
way-first a b Ls p h = first-none (parents_fault Ls p) (absent (shows 0 Ls p)) (first-none (walk_fault Ls p) b (second-none a (or_else (walk_fault Ls p) b) h))

makes-absent : (f : OpenFlags) (s : Option Shown) → s ≡ None → shown_fault f s ≡ None → (f.writes || (f.create && is_none s)) ≡ true
makes-absent f s none fine = grind arith

module _ (Ls : List Layer) (p : Path) (f : OpenFlags) (mode : ℕ) (h : opening_fault Ls p f mode (Some 0) ≡ None) where
  abbrev shown_last : Option Errno
  shown_last = or_else (shown_fault f (shows 0 Ls p)) None

  way-then : or_else (parents_fault Ls p) shown_last ≡ None
  way-then = second-none (bad_mode mode) (or_else (parents_fault Ls p) shown_last) (second-none (when (bad_flags f) EINVAL) (or_else (bad_mode mode) (or_else (parents_fault Ls p) shown_last)) h)

  pub opening-way : parents_fault Ls p ≡ None
  opening-way = first-none (parents_fault Ls p) shown_last way-then

  shown-fine : shown_fault f (shows 0 Ls p) ≡ None
  shown-fine = first-none (shown_fault f (shows 0 Ls p)) None (second-none (parents_fault Ls p) shown_last way-then)

  -- an open that is allowed where nothing is shown makes the file
  pub opening-makes : shows 0 Ls p ≡ None → (f.writes || (f.create && is_none (shows 0 Ls p))) ≡ true
  opening-makes none = makes-absent f (shows 0 Ls p) none shown-fine

none-shown : (s : Option Shown) → is_none s ≡ true → s ≡ None
none-shown None h = refl
none-shown (Some x) h = cc

-- what a call lacks
abbrev pub lack_in : Mount → Plan → Lack
lack_in m p = lack_of (the_upper m) (the_lowers m) m.metacopy (call_of p)

module _ (m : Mount) (p : Path) (f : OpenFlags) (mode : ℕ)
    (allowed : opening_fault (the_layers m) p f mode (Some 0) ≡ None) where
  abbrev seen : Option Shown
  seen = shows 0 (the_layers m) p

  opens-way : (f.writes || (f.create && is_none seen)) ≡ true → IsWay m (call.Open p f mode) false p
  opens-way opens =
      record { path = refl; way = opening-way (the_layers m) p f mode allowed; opens = opens }

  -- what an open lacks that is allowed can be had, by whether it writes and what is shown
  open-by : (w a : Bool) → f.writes ≡ w → is_none seen ≡ a →
      CanBeHad m (call.Open p f mode)
      (lack_among (the_upper m) false (cond (w || a) (p ∷ []) [])
      (cond w (data_at (the_lowers m) seen) None))
  open-by true a writes none =
      can-one m (call.Open p f mode) p (data_at (the_lowers m) seen)
      (opens-way (ap (λ b. b || (f.create && is_none seen)) writes)) (data-bytes m p)
  open-by false true writes none =
      can-one m (call.Open p f mode) p None
      (opens-way (opening-makes (the_layers m) p f mode allowed (none-shown seen none)))
      (none-bytes m)
  open-by false false writes none = tt

  open-had : CanBeHad m (call.Open p f mode)
      (lack_of (the_upper m) (the_lowers m) m.metacopy (call.Open p f mode))
  open-had = open-by f.writes (is_none seen) refl refl

-- WHAT A PLANNED CALL LACKS CAN BE HAD
plan-had : (m : Mount) (c : ℕ) (p : Plan) → IsFoundFor m c p → CanBeHad m (call_of p) (lack_in m p)
plan-had m c (plan.Alter path look found ask) h =
    subst (CanBeHad m (call_at path.now ask))
    (attribute-lack (the_upper m) (the_lowers m) m.metacopy path.now ask)
    (can-one m (call_at path.now ask) path.now
    (copied_file m.metacopy (shows 0 (the_layers m) path.now))
    (attribute-way m path.now ask h.1.way) (copied-bytes m path.now))
plan-had m c (plan.Mkdir path look directory mode) h =
    can-one m (call.Mkdir path.now mode) path.now None
    (record { path = refl; way = h.1.parents; opens = tt }) (none-bytes m)
plan-had m c (plan.Symlink path look directory target) h =
    can-one m (call.Symlink target.now path.now) path.now None
    (record { path = refl; way = h.1.parents; opens = tt }) (none-bytes m)
plan-had m c (plan.Open path look flags judged) h =
    open-had m path.now flags judged.mode h.1.allowed
plan-had m c (plan.Unlink path look directory place) h =
    can-one m (call.Unlink path.now) path.now None
    (record { path = refl; way = way-first _ _ (the_layers m) path.now h.1.allowed; opens = tt })
    (none-bytes m)
plan-had m c (plan.Rmdir path look directory) h =
    can-one m (call.Rmdir path.now) path.now None
    (record { path = refl; way = way-first _ _ (the_layers m) path.now h.1.allowed; opens = tt })
    (none-bytes m)
plan-had m c (plan.Link old new from onto found) h =
    can-both m (call.Hardlink old.now new.now) old.now new.now
    (copied_file m.metacopy (shows 0 (the_layers m) old.now))
    (record { path = refl; way = h.2.way; opens = tt })
    (record { path = refl; way = h.2.parents; opens = tt }) (copied-bytes m old.now)
plan-had m c (plan.Rename old new from onto moving) h =
    subst (CanBeHad m (call.Rename old.now new.now))
    (rename-apart (the_upper m) old.now new.now (is_one (the_upper m) old.now new.now)
    (copied_file m.metacopy (shows 0 (the_layers m) old.now)) h.2.apart)
    (can-both m (call.Rename old.now new.now) old.now new.now
    (copied_file m.metacopy (shows 0 (the_layers m) old.now))
    (record { path = refl; way = h.2.way; opens = tt })
    (record { path = refl; way = h.2.parents; opens = tt }) (copied-bytes m old.now))
plan-had m c (plan.Nothing old new) h =
    subst (CanBeHad m (call.Rename old.now new.now))
    (rename-one (the_upper m) old.now new.now (is_one (the_upper m) old.now new.now)
    (copied_file m.metacopy (shows 0 (the_layers m) old.now)) h.0) tt

-- what a plan lacks, by which plan it is
pub lack-by : (m : Mount) (p q : Plan) (l : Lack) → p ≡ q → l ≡ lack_in m q → l ≡ lack_in m p
lack-by m p q l e h = h ∙ ap (lack_in m) (sym e)

-- and that it can be had
pub can-by : (m : Mount) (p q : Plan) (l : Lack) → ((c : ℕ) × IsPlanned m c p) → p ≡ q →
    l ≡ lack_in m q → CanBeHad m (call_of p) l
can-by m p q l h e is =
    subst (CanBeHad m (call_of p)) (sym (lack-by m p q l e is)) (plan-had m h.0 p h.1.found)

-- a call that makes or removes one name, at this path, which was seen so
abbrev pub IsOfName : Plan → Bor Path → Bor Look → Type 0
IsOfName p path look =
    ((directory : Bor Stack) × (mode : ℕ) × (p ≡ plan.Mkdir path look directory mode))
    ⊎ (((directory : Bor Stack) × (target : Bor Bytes)
    × (p ≡ plan.Symlink path look directory target))
    ⊎ (((directory : Bor Stack) × (place : Place) × (p ≡ plan.Unlink path look directory place))
    ⊎ ((directory : Bor Stack) × (p ≡ plan.Rmdir path look directory))))

-- what it lacks
pub name-lack : (m : Mount) (p : Plan) (path : Bor Path) (look : Bor Look) → IsOfName p path look →
    lack_among (the_upper m) false (path.now ∷ []) None ≡ lack_in m p
name-lack m p path look (inl is) = lack-by m p _ _ is.2 refl
name-lack m p path look (inr (inl is)) = lack-by m p _ _ is.2 refl
name-lack m p path look (inr (inr (inl is))) = lack-by m p _ _ is.2 refl
name-lack m p path look (inr (inr (inr is))) = lack-by m p _ _ is.1 refl
