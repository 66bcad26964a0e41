-- Worked values of the machine, by computation, and that a queue keeps within its 65 places.
use Rattle.std.proofs.Common.{◌≡◌, ℕ, zero, suc, ◌+◌, ◌<◌, ◌≤◌, Bool, true, false, cond, ◌||◌, List, [], ◌∷◌, ◌++◌, None, Some, refl, sym, ap, subst, ◌∙◌, pos, length, length-append, nat_lt, arith, ◌⊎◌, inl, inr}
use Rattle.std.proofs.lemmas.Bool.{cases_Bool, both_ways}
use Rattle.std.proofs.lemmas.Bool.Decides.{nat_tests}
use Rattle.std.specs.List.{list_any}
use Rattle.std.specs.Prelude.{codes}
use Rattle.ov_base.specs.declared.call.OpenFlags.{OpenFlags}
use Rattle.ov_base.specs.declared.errno.Errno.TheVariants.{EINVAL, EOPNOTSUPP}
use Rattle.ov_base.specs.declared.bytes.Content.TheVariants.{File}
use Rattle.ov_base.specs.declared.node_id.NodeId.TheVariants.{At, New}
use Rattle.ov_base.specs.declared.notice.Notice.{Notice}
use Rattle.plain_model.specs.Watching.{put_notice, last_is, same_notice, overflow, Watch, events, IGNORED, On, IsQueue, LawOfQueues}
use Rattle.plain_model.specs.Tree.{Leaf, Own}
use Rattle.plain_model.specs.Machine.{State}
use Rattle.plain_model.specs.Refusals.{bad_mask, bad_attribute, bad_flags}
use Rattle.plain_model.specs.Changes.{written, re_mask, fresh}
use Rattle.plain_model.specs.Subjects.{cookie_of, rename_subjects}

cookie-last : cookie_of 4294967295 ≡ 4294967295
cookie-last = refl

cookie-first : cookie_of 4294967296 ≡ 1
cookie-first = refl

-- a write at 2 into nothing leaves zero bytes before it
sparse : written [] 2 (120 ∷ []) ≡ 0 ∷ 0 ∷ 120 ∷ []
sparse = refl

inner : written (1 ∷ 2 ∷ 3 ∷ 4 ∷ []) 1 (9 ∷ 9 ∷ []) ≡ 1 ∷ 9 ∷ 9 ∷ 4 ∷ []
inner = refl

mask-good : bad_mask 0x80000001 ≡ false
mask-good = refl

mask-none : bad_mask 0x20000000 ≡ true
mask-none = refl

mask-other : bad_mask 0x04000001 ≡ true
mask-other = refl

-- names of attributes: `user.` alone and another namespace are not supported, none is no name
attribute-good : bad_attribute (codes "user.a") ≡ None
attribute-good = refl

attribute-bare : bad_attribute (codes "user.") ≡ Some EOPNOTSUPP
attribute-bare = refl

attribute-other : bad_attribute (codes "trusted.x") ≡ Some EOPNOTSUPP
attribute-other = refl

attribute-empty : bad_attribute [] ≡ Some EINVAL
attribute-empty = refl

-- flags: reading and making goes together, EXCL without CREAT and no access do not
abbrev flags : OpenFlags
flags = record { reads = true; writes = false; create = false; exclusive = false; truncate = false; append = false; directory = false; unknown = false }

flags-good : bad_flags (record flags { create = true; append = true }) ≡ false
flags-good = refl

flags-exclusive : bad_flags (record flags { exclusive = true }) ≡ true
flags-exclusive = refl

flags-truncate : bad_flags (record flags { truncate = true }) ≡ true
flags-truncate = refl

flags-none : bad_flags (record flags { reads = false }) ≡ true
flags-none = refl

abbrev watch : Watch
watch = record { number = 1; slot = 0; node = At []; mask = 0x100; once = true }

-- adding 0x200 to 0x100, and 0x100 again
added : (re_mask 0x20000300 watch).mask ≡ 0x300
added = refl

-- a ONESHOT watch: the event, then IGNORED
once : events 0 (record { aim = On (At []); bits = 0x40000100; cookie = 0; name = None }) watch ≡ record { watch = 1; bits = 0x40000100; cookie = 0; name = None } ∷ record { watch = 1; bits = IGNORED; cookie = 0; name = None } ∷ []
once = refl

abbrev one : Notice
one = record { watch = pos 1; mask = 1; cookie = 0; name = None }

same-once : put_notice (one ∷ []) one ≡ one ∷ []
same-once = refl

-- a rename over a file, with its six subjects
abbrev some_state : State
some_state = record { tree = λ x. Some (Leaf (File []) (fresh 0o644) (Own false) 1); serial = 0; renames = 0; arrived = 0; options = record { redirects = true; metacopy = false; read_only = false; file_limit = 1048576 }; tables = []; instances = [] }

replaced : rename_subjects some_state (Some (New 1)) (Some (New 2)) (Some (New 3, 102 ∷ [])) (Some (New 4, 103 ∷ [])) (λ x. None) ≡
    record { aim = On (New 3); bits = 0x40; cookie = 1; name = Some (102 ∷ []) } ∷ record { aim = On (New 4); bits = 0x80; cookie = 1; name = Some (103 ∷ []) }
    ∷ record { aim = On (New 2); bits = 4; cookie = 0; name = None } ∷ record { aim = On (New 1); bits = 0x800; cookie = 0; name = None }
    ∷ record { aim = On (New 2); bits = 0x400; cookie = 0; name = None } ∷ record { aim = On (New 2); bits = IGNORED; cookie = 0; name = None } ∷ []
replaced = refl

-- 70 different notices: 64, then the overflow
abbrev numbered : ℕ → Notice
numbered k = record { watch = pos 1; mask = 1; cookie = k; name = None }

abbrev all_put : ℕ → List Notice
all_put zero = []
all_put (suc k) = put_notice (all_put k) (numbered k)

flooded : length (all_put 70) ≡ 65
flooded = refl

any-last : (q : List Notice) → list_any (same_notice overflow) (q ++ overflow ∷ []) ≡ true
any-last [] = refl
any-last (n ∷ q) = ap (λ b. same_notice overflow n || b) (any-last q) ∙ or-true (same_notice overflow n)
  where
    or-true : (b : Bool) → b || true ≡ true
    or-true true = refl
    or-true false = refl

-- a queue stays one
pub put-IsQueue : LawOfQueues
put-IsQueue q n i = by (last_is q n) (cases_Bool (nat_lt (length q) 64)) (cases_Bool (list_any (same_notice overflow) q))
  where
    longer : (x : Notice) → length (q ++ x ∷ []) ≡ length q + 1
    longer x = simp length-append

    by : (b : Bool) → (nat_lt (length q) 64 ≡ true) ⊎ (nat_lt (length q) 64 ≡ false) → (list_any (same_notice overflow) q ≡ true) ⊎ (list_any (same_notice overflow) q ≡ false) → IsQueue (cond b q (cond (nat_lt (length q) 64) (q ++ n ∷ []) (cond (list_any (same_notice overflow) q) q (q ++ overflow ∷ []))))
    by true l o = i
    by false (inl l) o = subst (λ b. IsQueue (cond b (q ++ n ∷ []) (cond (list_any (same_notice overflow) q) q (q ++ overflow ∷ [])))) (sym l) (
        let e = longer n in
        let below : length q < 64 = grind (arith, nat_tests) in
        record { short = omega arith; full = λ h. absurd (omega arith) })
    by false (inr l) (inl o) = subst (λ b. IsQueue (cond b (q ++ n ∷ []) (cond (list_any (same_notice overflow) q) q (q ++ overflow ∷ [])))) (sym l) (subst (λ b. IsQueue (cond b q (q ++ overflow ∷ []))) (sym o) i)
    by false (inr l) (inr o) = subst (λ b. IsQueue (cond b (q ++ n ∷ []) (cond (list_any (same_notice overflow) q) q (q ++ overflow ∷ [])))) (sym l) (subst (λ b. IsQueue (cond b q (q ++ overflow ∷ []))) (sym o) (
        let e = longer overflow in
        let room : 64 < length q → ⊥ = λ h. both_ways (list_any (same_notice overflow) q) o (i.full h) in
        let few : length q ≤ 64 = omega arith in
        record { short = omega arith; full = λ h. any-last q }))
