-- Handles keep all but their ways in through a rename, and descriptors that are free stay so.
use Rattle.std.proofs.Common.{◌≡◌, ℕ, Bool, true, false, cond, List, [], ◌∷◌, Option, None, Some, option_map, refl, sym, ap, ap₂, ◌∙◌, ◌&&◌, ◌+◌, map, is_none, not}
use Rattle.std.specs.Prelude.{nat_eq, nat_lt, slice_get, position}
use Rattle.std.specs.List.{position_or_len}
use Rattle.std.proofs.lemmas.List.{length-map}
use Rattle.std.proofs.lemmas.Option.{slice_get-map}
use Rattle.ov_base.specs.declared.node_id.NodeId.{NodeId}
use Rattle.plain_model.specs.Layers.{Name}
use Rattle.plain_model.specs.Tree.{same_id}
use Rattle.plain_model.specs.Machine.{Handle, Table, handles_of, held_in, handle_of, lowest_free}
use Rattle.plain_model.specs.Changes.{same_way, re_way, re_ways}
use Rattle.mount_laws.specs.Renaming.{KeepsHandle}

module _ (d : Option NodeId) (old new : Option (NodeId × Name)) where
  ways-handles : (ks : List Table) (c : ℕ) → handles_of (re_ways ks d old new) c ≡ map (re_way d old new) (handles_of ks c)
  ways-handles [] c = refl
  ways-handles (k ∷ ks) c = by (nat_eq k.client c) (ways-handles ks c)
    where
      by :
          (b : Bool) → handles_of (re_ways ks d old new) c ≡ map (re_way d old new) (handles_of ks c) →
          cond b (map (re_way d old new) k.handles) (handles_of (re_ways ks d old new) c)
          ≡ map (re_way d old new) (cond b k.handles (handles_of ks c))
      by true rest = refl
      by false rest = rest

  -- a free descriptor gets no way in
  way-none : re_way d old new None ≡ None
  way-none = by d
    where
      by : (d : Option NodeId) → re_way d old new None ≡ None
      by None = refl
      by (Some x) = refl

  -- and a handle at most another one
  pub way-kept : (h : Handle) → KeepsHandle (re_way d old new (Some h)) h
  way-kept h = by d
    where
      on : (b : Bool) → KeepsHandle (Some (cond b (record h { way = new }) h)) h
      on true = (new, refl)
      on false = (h.way, refl)

      by : (d : Option NodeId) → KeepsHandle (re_way d old new (Some h)) h
      by None = (h.way, refl)
      by (Some x) = on (same_id x h.node && same_way h.way old)

  held-way : (o : Option (Option Handle)) → held_in (option_map (re_way d old new) o) ≡ re_way d old new (held_in o)
  held-way None = sym way-none
  held-way (Some None) = ap (λ h. held_in (Some h)) way-none ∙ sym way-none
  held-way (Some (Some h)) = let w = way-kept h in ap (λ h. held_in (Some h)) w.1 ∙ sym w.1

  pub way-handle : (ks : List Table) (c fd : ℕ) → handle_of (re_ways ks d old new) c fd ≡ re_way d old new (handle_of ks c fd)
  way-handle ks c fd =
      ap (λ hs. held_in (slice_get hs fd)) (ways-handles ks c)
      ∙ ap held_in (slice_get-map (re_way d old new) (handles_of ks c) fd)
      ∙ held-way (slice_get (handles_of ks c) fd)

  -- an open handle stays open, and a descriptor without one free
  pub ways-keep :
      (ks : List Table) (c fd : ℕ) (h : Handle) → handle_of ks c fd ≡ Some h → KeepsHandle (handle_of (re_ways ks d old new) c fd) h
  ways-keep ks c fd h on = let w = way-kept h in (w.0, way-handle ks c fd ∙ ap (re_way d old new) on ∙ w.1)

  pub ways-none : (ks : List Table) (c fd : ℕ) → handle_of ks c fd ≡ None → handle_of (re_ways ks d old new) c fd ≡ None
  ways-none ks c fd off = way-handle ks c fd ∙ ap (re_way d old new) off ∙ way-none

  way-free : (h : Option Handle) → is_none (re_way d old new h) ≡ is_none h
  way-free None = ap is_none way-none
  way-free (Some h) = ap is_none (way-kept h).1

  free-place : (hs : List (Option Handle)) → position_or_len is_none (map (re_way d old new) hs) ≡ position_or_len is_none hs
  free-place [] = refl
  free-place (h ∷ hs) = ap₂ (λ b n. cond (not b) (1 + n) 0) (way-free h) (free-place hs)

  -- the lowest free descriptor is the same
  pub ways-free : (ks : List Table) (c : ℕ) → lowest_free (re_ways ks d old new) c ≡ lowest_free ks c
  ways-free ks c =
      ap (λ hs. position is_none hs) (ways-handles ks c)
      ∙ ap₂ (λ n k. cond (nat_lt n k) (Some n) None) (free-place (handles_of ks c)) (length-map (handles_of ks c) (re_way d old new))
