-- A call that doesn't write does the same where nothing may be written.
use Rattle.std.proofs.Common.{◌≡◌, ℕ, Bool, true, false, cond, not, ◌&&◌, List, [], Option, None, Some, refl, sym, ap, subst, ◌∙◌}
use Rattle.std.proofs.lemmas.Bool.{false≢true}
use Rattle.ov_base.specs.Calls.{Call}
use Rattle.ov_base.specs.declared.call.CallOf.TheVariants.{Stat, Readlink, Chmod, Chown, SetAttribute, GetAttribute, DeleteAttribute, ListAttributes, Mkdir, Symlink, Open, Unlink, Rmdir, Hardlink, Rename, Read, Write, Seek, Truncate, Fstat, ListNames, Close, Arm, Disarm, TakeNotices}
use Rattle.ov_base.specs.declared.errno.Errno.{Errno}
use Rattle.ov_base.specs.declared.reply.Reply.{Reply}
use Rattle.plain_model.specs.Tree.{Tree, node_at}
use Rattle.plain_model.specs.Watching.{Rule, Subject, AllHear}
use Rattle.plain_model.specs.Machine.{State, look, same_found, writable}
use Rattle.plain_model.specs.Refusals.{writes, writable_refusal, refusal}
use Rattle.plain_model.specs.Changes.{way_of, settled, renamed, re_ways, tree_after, tables_after, makes, moves, next_if, after}
use Rattle.plain_model.specs.Replies.{reply_of}
use Rattle.plain_model.specs.Subjects.{subjects, rename_subjects}
use Rattle.plain_model.specs.Runs.{Taken, Answered, Step}
use Rattle.plain_model.proofs.Looking.{refusal-writable, refusal-reading}

same-refusal : (s : State) (c : ℕ) (call : Call) → writable_refusal (writable s) c call ≡ writable_refusal s c call
same-refusal s c (Stat p) = refl
same-refusal s c (Readlink p) = refl
same-refusal s c (Chmod p mode) = refl
same-refusal s c (Chown p uid gid) = refl
same-refusal s c (SetAttribute p n v) = refl
same-refusal s c (GetAttribute p n) = refl
same-refusal s c (DeleteAttribute p n) = refl
same-refusal s c (ListAttributes p) = refl
same-refusal s c (Mkdir p mode) = refl
same-refusal s c (Symlink target p) = refl
same-refusal s c (Open p f mode) = refl
same-refusal s c (Unlink p) = refl
same-refusal s c (Rmdir p) = refl
same-refusal s c (Hardlink old new) = refl
same-refusal s c (Rename old new) = refl
same-refusal s c (Read fd n) = refl
same-refusal s c (Write fd bytes) = refl
same-refusal s c (Seek fd offset whence) = refl
same-refusal s c (Truncate fd size) = refl
same-refusal s c (Fstat fd) = refl
same-refusal s c (ListNames fd n) = refl
same-refusal s c (Close fd) = refl
same-refusal s c (Arm slot p mask) = refl
same-refusal s c (Disarm number) = refl
same-refusal s c (TakeNotices n) = refl

same-reply : (s : State) (c : ℕ) (call : Call) → reply_of (writable s) c call ≡ reply_of s c call
same-reply s c (Stat p) = refl
same-reply s c (Readlink p) = refl
same-reply s c (Chmod p mode) = refl
same-reply s c (Chown p uid gid) = refl
same-reply s c (SetAttribute p n v) = refl
same-reply s c (GetAttribute p n) = refl
same-reply s c (DeleteAttribute p n) = refl
same-reply s c (ListAttributes p) = refl
same-reply s c (Mkdir p mode) = refl
same-reply s c (Symlink target p) = refl
same-reply s c (Open p f mode) = refl
same-reply s c (Unlink p) = refl
same-reply s c (Rmdir p) = refl
same-reply s c (Hardlink old new) = refl
same-reply s c (Rename old new) = refl
same-reply s c (Read fd n) = refl
same-reply s c (Write fd bytes) = refl
same-reply s c (Seek fd offset whence) = refl
same-reply s c (Truncate fd size) = refl
same-reply s c (Fstat fd) = refl
same-reply s c (ListNames fd n) = refl
same-reply s c (Close fd) = refl
same-reply s c (Arm slot p mask) = refl
same-reply s c (Disarm number) = refl
same-reply s c (TakeNotices n) = refl

not-true : (b : Bool) → not b ≡ false → b ≡ true
not-true true h = refl
not-true false h = absurd (false≢true (sym h))

same-after : (s : State) (c : ℕ) (call : Call) → writes s call ≡ false → after (writable s) c call ≡ writable (after s c call)
same-after s c (Stat p) h = refl
same-after s c (Readlink p) h = refl
same-after s c (Chmod p mode) h = absurd (false≢true (sym h))
same-after s c (Chown p uid gid) h = absurd (false≢true (sym h))
same-after s c (SetAttribute p n v) h = absurd (false≢true (sym h))
same-after s c (GetAttribute p n) h = refl
same-after s c (DeleteAttribute p n) h = absurd (false≢true (sym h))
same-after s c (ListAttributes p) h = refl
same-after s c (Mkdir p mode) h = absurd (false≢true (sym h))
same-after s c (Symlink target p) h = absurd (false≢true (sym h))
same-after s c (Open p f mode) h = refl
same-after s c (Unlink p) h = absurd (false≢true (sym h))
same-after s c (Rmdir p) h = absurd (false≢true (sym h))
same-after s c (Hardlink old new) h = absurd (false≢true (sym h))
same-after s c (Rename old new) h = ap (λ b. record (writable (after s c (Rename old new))) { tree = cond b s.tree (settled s.tables (renamed (writable s).options s.tree old new) (node_at s.tree new)) }) one ∙ sym (ap (λ b. record (writable (after s c (Rename old new))) { tree = cond b s.tree (settled s.tables (renamed s.options s.tree old new) (node_at s.tree new)) }) one)
  where
    one : same_found (look s.tree old) (look s.tree new) ≡ true
    one = not-true _ h
same-after s c (Read fd n) h = refl
same-after s c (Write fd bytes) h = refl
same-after s c (Seek fd offset whence) h = refl
same-after s c (Truncate fd size) h = refl
same-after s c (Fstat fd) h = refl
same-after s c (ListNames fd n) h = refl
same-after s c (Close fd) h = refl
same-after s c (Arm slot p mask) h = refl
same-after s c (Disarm number) h = refl
same-after s c (TakeNotices n) h = refl

same-subjects : (s : State) (c : ℕ) (call : Call) → writes s call ≡ false → subjects (writable s) c call ≡ subjects s c call
same-subjects s c (Stat p) h = refl
same-subjects s c (Readlink p) h = refl
same-subjects s c (Chmod p mode) h = absurd (false≢true (sym h))
same-subjects s c (Chown p uid gid) h = absurd (false≢true (sym h))
same-subjects s c (SetAttribute p n v) h = absurd (false≢true (sym h))
same-subjects s c (GetAttribute p n) h = refl
same-subjects s c (DeleteAttribute p n) h = absurd (false≢true (sym h))
same-subjects s c (ListAttributes p) h = refl
same-subjects s c (Mkdir p mode) h = absurd (false≢true (sym h))
same-subjects s c (Symlink target p) h = absurd (false≢true (sym h))
same-subjects s c (Open p f mode) h = refl
same-subjects s c (Unlink p) h = absurd (false≢true (sym h))
same-subjects s c (Rmdir p) h = absurd (false≢true (sym h))
same-subjects s c (Hardlink old new) h = absurd (false≢true (sym h))
same-subjects s c (Rename old new) h = ap (λ b. cond b [] (rename_subjects (writable s) (node_at s.tree old) (node_at s.tree new) (way_of s.tree old) (way_of s.tree new) (tree_after (writable s) c (Rename old new)))) one ∙ sym (ap (λ b. cond b [] (rename_subjects s (node_at s.tree old) (node_at s.tree new) (way_of s.tree old) (way_of s.tree new) (tree_after s c (Rename old new)))) one)
  where
    one : same_found (look s.tree old) (look s.tree new) ≡ true
    one = not-true _ h
same-subjects s c (Read fd n) h = refl
same-subjects s c (Write fd bytes) h = refl
same-subjects s c (Seek fd offset whence) h = refl
same-subjects s c (Truncate fd size) h = refl
same-subjects s c (Fstat fd) h = refl
same-subjects s c (ListNames fd n) h = refl
same-subjects s c (Close fd) h = refl
same-subjects s c (Arm slot p mask) h = refl
same-subjects s c (Disarm number) h = refl
same-subjects s c (TakeNotices n) h = refl

-- from the writable state a step of a call that doesn't write is one from the state
pub step-reads : (shows : Rule) (s : State) (c : ℕ) (call : Call) (r : Reply) (t : State) → writes s call ≡ false → Step shows (writable s) c call r t → Step shows s c call r (record t { options = s.options })
step-reads shows s c call r t h step = subst (λ e. Answered e shows s c call r (record t { options = s.options })) (sym is) (by (writable_refusal s c call) (subst (λ e. Answered e shows (writable s) c call r t) was step))
  where
    is : refusal s c call ≡ writable_refusal s c call
    is = refusal-reading s c call h

    was : refusal (writable s) c call ≡ writable_refusal s c call
    was = refusal-writable (writable s) c call refl ∙ same-refusal s c call

    by : (e : Option Errno) → Answered e shows (writable s) c call r t → Answered e shows s c call r (record t { options = s.options })
    by (Some e) a = (a.0, ap {A = State} (λ x. record x { options = s.options }) a.1)
    by None a = record {
      answer = a.answer ∙ same-reply s c call;
      state = ap {A = State} (λ x. record x { options = s.options }) (a.state ∙ ap {A = State} (λ x. record x { instances = t.instances }) (same-after s c call h));
      heard = subst (λ ss. AllHear shows ss (after s c call).instances t.instances) (same-subjects s c call h) (subst (λ (x : State). AllHear shows (subjects (writable s) c call) x.instances t.instances) (same-after s c call h) a.heard);
    }
