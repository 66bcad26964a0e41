-- What was a box, as the machine has it: an address beside what its allocator is. Assumes `Logic`.
use Rattle.std.proofs.Common.{◌≡◌, ℕ, List, [], ◌∷◌, ◌++◌, refl, subst}
use mathlib.Core.Bool.{Bool, true, false, ◌&&◌}
use lib.Dec.{T}
use seplogic.Ra.Ura.{Ura}
use mir.Syntax.{impl, tnil, dnil}
use mir.Raw.{raw as bare}
use mir.Val.{Val, vptr, vstruct, vcons, vnil, of_list, has_ty, WT}
use base.Logic.{never, fst∗}
use types.Logic.{Logic, sem}
use types.Kit.{Item, Goal, Seq, Step, step, ‵, ◌$◌, move, drop, fsplit, fjoin, fpick, fpack, feq_i, feq_l}
use denote.RattleType.{RattleType, Valss}
use denote.Builtin.{RawPtr}
use denote.Memory.{lone}
use denote.RawPtr.{Ptr, block_ptr, null_ptr, ptr_val, in_a_block}
use denote.Steps.{nothing}
use denote.Param.{layout}
use denote.Param.Laws.{Laws}
use denote.Struct.Struct.{within}
use denote.Struct.Owning.{shape}
use Rattle.core.specs.declared.alloc.Allocator.{Ghosts}
use Rattle.core.proofs.alloc.Calls.{Al, handle_tells}
use Rattle.core.proofs.cell.Inside.{Good}
use Rattle.std_alloc.specs.Box.Ownership.{box_owns}
use Rattle.ov_embedded.specs.contracts.unboxed.Unboxed as unboxed

-- a struct of two fields
abbrev pub two : Val → Val → Val
two v w = vstruct (vcons v (vcons w vnil))

-- one test, and no other
one_test : (a : Bool) → T a → T (a && true)
one_test true s = tt
one_test false s = absurd s

-- each of two tests, and no third
pub two_tests : (a b : Bool) → T a → T b → T (a && (b && true))
two_tests true true s t = tt
two_tests true false s t = absurd t
two_tests false b s t = absurd s

module _ (R Z : RattleType) (LZ : Laws Z) (g : Ghosts Z.Denot) where
  -- the type of what was a box
  abbrev pub Parts : RattleType
  Parts = unboxed.the_row R Z g

  -- its allocator, none of whose methods is asked for
  abbrev its : Al
  its = record {
    row = Z;
    laws = LZ;
    g = g;
    d = impl [] tnil dnil;
    drops = impl [] tnil dnil;
  }

  -- an address with what an allocator is fits its type
  pub parts_fit : (b o : ℕ) (h : Val) → Good (layout Z) h →
      T (has_ty (layout Z) h && true) × WT (two (vptr b o) h)
  parts_fit b o h fits = (one_test (has_ty (layout Z) h) fits.0, (tt, (fits.1, tt)))

  module _ {M : Type 1} {𝓤 : Ura M} {𝓛 : Logic 𝓤} {K : Type 0} {Γ : List (Item 𝓤)}
      {G : Goal 𝓤 𝓛.H} where
    -- what was a box, taken apart
    pub parts_out : K → (d : Parts.Denot) (vs : List Val) →
        ((b o : ℕ) (h : Val) → d.block ≡ block_ptr b o → vs ≡ two (vptr b o) h ∷ [] →
        Good (layout Z) h →
        Seq K 𝓛 (‵ (box_owns (g.dealloc_token d.alloc) R (block_ptr b o) d.value) ∷ ‵ (Z.own_val d.alloc (h ∷ []))
        ∷ Γ) G) →
        Seq K 𝓛 (‵ (Parts.own_val d vs) ∷ Γ) G
    parts_out t d vs go =
        let struct_of : List Val → List Val → List Val =
        λ ps ws. vstruct (of_list (ps ++ (ws ++ []))) ∷ [] in
        fsplit t $ fpick t (λ fields. fsplit t $ feq_l t (λ whole. fsplit t $ feq_l t (λ first.
        fsplit t $ handle_tells its t d.alloc fields.1.0 (λ h second fits.
        move t (1 ∷ []) $ drop t $ move t (1 ∷ []) $
        in_a_block t d.block (λ p. box_owns (g.dealloc_token d.alloc) R p d.value)
        (fst∗ 𝓤 (never 𝓤) (sem 𝓛 (g.dealloc_token d.alloc (bare (lone R.mir)) null_ptr)))
        (λ b o place.
        let by_first = subst (λ (ps : List Val). vs ≡ struct_of ps fields.1.0) first whole in
        let by_second = subst (λ (ws : List Val). vs ≡ struct_of (ptr_val d.block ∷ []) ws) second by_first in
        go b o h place (subst (λ (p : Ptr). vs ≡ two (ptr_val p) h ∷ []) place by_second) fits)))))

    -- and put together
    pub parts_in : K → (b o : ℕ) (h : Val) (a : Z.Denot) (x : R.Denot) →
        Step K 𝓛
        (‵ (Parts.own_val (record { block = block_ptr b o; alloc = a; value = x })
        (two (vptr b o) h ∷ [])) ∷ Γ) G
        (‵ (box_owns (g.dealloc_token a) R (block_ptr b o) x) ∷ ‵ (Z.own_val a (h ∷ [])) ∷ Γ) G
    parts_in t b o h a x = step (λ s.
        let v : Val = two (vptr b o) h in
        nothing t $ move t (2 ∷ 0 ∷ []) $ fjoin t $
        feq_i t (List Val) (vptr b o ∷ []) (vptr b o ∷ []) refl $ fjoin t $
        feq_i t (List Val) (v ∷ []) (v ∷ []) refl $ fjoin t $
        fpack t (Valss (RawPtr ∷ Z ∷ []))
        (within (shape (unboxed.the_type R Z g)) (block_ptr b o, (a, tt)) (v ∷ []))
        (vptr b o ∷ [], (h ∷ [], tt)) $ fjoin t $ s)
