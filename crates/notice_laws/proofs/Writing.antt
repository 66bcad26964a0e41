-- Writes and truncations are told by numbers as the machine tells them.
use Rattle.std.proofs.Common.{◌≡◌, ℕ, false, cond, [], Some, refl, sym, subst, ◌∙◌}
use Rattle.ov_base.specs.declared.call.CallOf.TheVariants.{Write, Truncate}
use Rattle.plain_model.specs.Layers.{Layer}
use Rattle.plain_model.specs.Tree.{is_folder}
use Rattle.plain_model.specs.Watching.{MODIFY, Rule}
use Rattle.plain_model.specs.Machine.{State, handle_of, handle_node}
use Rattle.plain_model.specs.Subjects.{by_handle}
use Rattle.plain_model.specs.Alike.{AreToldAlike}
use Rattle.notice_laws.specs.Notified.{Notified, stands_for, IsSlotOn, Tracks}
use Rattle.notice_laws.specs.Steps.{Used, LawOfWritten, LawOfTruncated}
use Rattle.notice_laws.specs.Telling.{of_both}
use Rattle.notice_laws.proofs.Making.{tells-of, handle-alike, some-read, resumes-stays}
use Rattle.notice_laws.proofs.Resuming.{paths-after}

-- a use of an open handle on a file is told alike
used-alike : (shows : Rule) (U : Layer) (s : State) (c fd bits : ℕ) (old new : Notified) → (k : Tracks U s old) →
    (used : Used shows old new c fd bits) → is_folder (handle_node s.tree (handle_of s.tables c fd)) ≡ false →
    AreToldAlike (stands_for old.objects k.bearers) old.instances s.instances (of_both used.handle.way (Some used.handle.object) bits)
    (by_handle s.tree (handle_of s.tables c fd) bits)
used-alike shows U s c fd bits old new k used file =
    handle-alike old.objects k.bearers s old (tells-of U s old k) used.handle (handle_of s.tables c fd) bits file
    (subst (λ o. IsSlotOn old.objects k.bearers o (handle_of s.tables c fd)) used.is_open (k.slots c fd))

-- a write of some bytes by a handle on a file
pub law_of_written : (shows : Rule) → LawOfWritten shows
law_of_written shows U V lowers s c fd bytes passes some file old new k known used =
    resumes-stays shows U V lowers s c (Write fd bytes) passes refl refl
    (λ d q at. paths-after U V lowers s c (Write fd bytes) passes q ∙ at) old new k known
    (of_both used.handle.way (Some used.handle.object) MODIFY) used.tells used.handles used.renames
    (subst (λ b. AreToldAlike (stands_for old.objects k.bearers) old.instances s.instances
    (of_both used.handle.way (Some used.handle.object) MODIFY) (cond b [] (by_handle s.tree (handle_of s.tables c fd) MODIFY)))
    (sym (some-read bytes some)) (used-alike shows U s c fd MODIFY old new k used file))

-- a truncation by a handle on a file
pub law_of_truncated : (shows : Rule) → LawOfTruncated shows
law_of_truncated shows U V lowers s c fd size passes file old new k known used =
    resumes-stays shows U V lowers s c (Truncate fd size) passes refl refl
    (λ d q at. paths-after U V lowers s c (Truncate fd size) passes q ∙ at) old new k known
    (of_both used.handle.way (Some used.handle.object) MODIFY) used.tells used.handles used.renames
    (used-alike shows U s c fd MODIFY old new k used file)
