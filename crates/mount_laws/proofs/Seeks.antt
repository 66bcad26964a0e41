-- A handle on a directory is sought at its start alone.
use Rattle.std.proofs.Common.{arith, ◌≡◌, ℕ, suc, ◌<◌, Bool, true, false, not, ◌&&◌, Option, None, Some, refl, sym, ap, ◌∙◌, is_none, nat_eq, nat_lt}
use Rattle.std.specs.Prelude.{ℤ, pos, negsuc, ◌+ℤ◌, nat_abs, int_lt}
use Rattle.std.proofs.lemmas.Bool.{false≢true, ltb-true, eqb-true, ne_eqb}
use Rattle.ov_base.specs.declared.call.CallOf.TheVariants.{Seek}
use Rattle.ov_base.specs.declared.errno.Errno.{Errno}
use Rattle.ov_base.specs.declared.errno.Errno.TheVariants.{EBADF, EINVAL, EOVERFLOW}
use Rattle.plain_model.specs.Tree.{Tree, is_folder}
use Rattle.plain_model.specs.Machine.{Handle, handle_of, handle_node, seek_base}
use Rattle.plain_model.specs.Refusals.{◌or_else◌, when, PLACE_MAX}
use Rattle.plain_model.proofs.Looking.{refusal-reading}
use Rattle.plain_model.specs.Changes.{with_handle, moved_to, rewound}
use Rattle.mount_laws.specs.Seeks.{LawOfSeek}

-- whether a seek is to the start
abbrev pub is_start : ℤ → ℕ → Bool
is_start offset whence = nat_eq (nat_abs offset) 0 && nat_eq whence 0

-- a seek's refusals after that of its place
abbrev beyond : Tree → Option Handle → ℤ → ℕ → Option Errno
beyond t o offset whence =
    when (int_lt PLACE_MAX (pos (seek_base t o whence) +ℤ offset)) EOVERFLOW
    or_else when (int_lt (pos (seek_base t o whence) +ℤ offset) (pos 0)) EINVAL

-- a seek's refusals by an open handle, where b tells whether it is on a directory
abbrev on_open : Tree → Option Handle → ℤ → ℕ → Bool → Option Errno
on_open t o offset whence b = when (nat_lt 2 whence) EINVAL or_else when (b && not (is_start offset whence)) EINVAL or_else beyond t o offset whence

-- a seek's refusals
abbrev pub seek_chain : Tree → Option Handle → ℤ → ℕ → Option Errno
seek_chain t o offset whence = when (is_none o) EBADF or_else on_open t o offset whence (is_folder (handle_node t o))

both-true : (a b : Bool) → (a && b) ≡ true → (a ≡ true) × (b ≡ true)
both-true true b h = (refl, h)
both-true false b h = absurd (false≢true h)

no-second : (a b : Bool) → b ≡ false → (a && b) ≡ false
no-second true b h = h
no-second false b h = refl

no-offset : (z : ℤ) → nat_eq (nat_abs z) 0 ≡ true → z ≡ pos 0
no-offset (pos n) h = ap pos (eqb-true n 0 h)
no-offset (negsuc n) h = let no : suc n ≡ 0 = eqb-true (suc n) 0 h in absurd (omega arith)

-- the start is offset 0 from the start
pub at-start : (offset : ℤ) (whence : ℕ) → is_start offset whence ≡ true → (offset ≡ pos 0) × (whence ≡ 0)
at-start offset whence h =
    let parts = both-true (nat_eq (nat_abs offset) 0) (nat_eq whence 0) h in
    (no-offset offset parts.0, eqb-true whence 0 parts.1)

-- a seek from no known base is not to the start
late : (offset : ℤ) (whence : ℕ) → nat_lt 2 whence ≡ true → is_start offset whence ≡ false
late offset whence h =
    let above : 2 < whence = ltb-true 2 whence h in
    no-second (nat_eq (nat_abs offset) 0) (nat_eq whence 0) (ne_eqb whence 0 (λ e. omega arith))

-- the start is no place beyond another
start-within : (t : Tree) (o : Option Handle) (offset : ℤ) (whence : ℕ) → is_start offset whence ≡ true → beyond t o offset whence ≡ None
start-within t o offset whence h =
    let at = at-start offset whence h in
    ap (λ z. beyond t o z whence) at.0 ∙ ap (λ w. beyond t o (pos 0) w) at.1

-- on a directory the start is all that is not refused
chosen : (far start : Bool) (r : Option Errno) → (far ≡ true → start ≡ false) → (start ≡ true → r ≡ None) → (when far EINVAL or_else when (true && not start) EINVAL or_else r) ≡ when (not start) EINVAL
chosen false false r f g = refl
chosen false true r f g = g refl
chosen true false r f g = refl
chosen true true r f g = absurd (false≢true (sym (f refl)))

pub law_of_seek : LawOfSeek
law_of_seek s c fd h on folder = record {
  refused = λ offset whence.
      refusal-reading s c (Seek fd offset whence) refl
      ∙ ap (λ o. seek_chain s.tree o offset whence) on
      ∙ ap (on_open s.tree (Some h) offset whence) folder
      ∙ chosen (nat_lt 2 whence) (is_start offset whence) (beyond s.tree (Some h) offset whence) (late offset whence) (start-within s.tree (Some h) offset whence);
  answer = refl;
  state = λ i. record s { tables = with_handle s.tables c fd (fresh i) };
}
  where
    fresh : rewound (is_folder (handle_node s.tree (handle_of s.tables c fd))) (moved_to 0 (handle_of s.tables c fd)) ≡ Some (record h { place = 0; listed = None })
    fresh = ap (λ o. rewound (is_folder (handle_node s.tree o)) (moved_to 0 o)) on ∙ ap (λ b. rewound b (Some (record h { place = 0 }))) folder
