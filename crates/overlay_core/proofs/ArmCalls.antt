-- The refusals of arm, in their order: by the slot and the mask, by the path, and by the node.
use Rattle.std.proofs.Common.{◌≡◌, ℕ, not, ◌&&◌, Option, None, Some, List, ◌∷◌, is_none, nat_lt, refl, sym, ap, ◌∙◌}
use Rattle.ov_base.specs.declared.call.CallOf.TheVariants.{Arm, ListAttributes}
use Rattle.ov_base.specs.declared.errno.Errno.{Errno}
use Rattle.ov_base.specs.declared.errno.Errno.TheVariants.{EBUSY, EINVAL, ELOOP, ENOSPC, ENOTDIR}
use Rattle.plain_model.specs.Layers.{Layer, Path}
use Rattle.plain_model.specs.Tree.{is_folder, node_at, node_of}
use Rattle.plain_model.specs.Machine.{is_link}
use Rattle.plain_model.specs.Watching.{ONLYDIR, has_bit}
use Rattle.plain_model.specs.Machine.{State, armed_of, found, hooks_of, instance_of, look, watch_on, watches_of}
use Rattle.plain_model.specs.Refusals.{◌or_else◌, WATCHES_MAX, bad_mask, is_busy, refusal, there, when}
use Rattle.plain_model.proofs.Looking.{refusal-reading}
use Rattle.mount_laws.specs.Attributes.{chown_fault}
use Rattle.mount_laws.specs.Looks.{IsMountOf, or_else as first}
use Rattle.mount_laws.proofs.Attributes.{law_of_list_attributes}
use Rattle.mount_laws.proofs.Looks.{chain-two}
use Rattle.mount_laws.proofs.Opens.{folder-at}
use Rattle.watch_table.specs.Listening.{slot_refusal}
use Rattle.overlay_core.specs.PathFaults.{arm_fault}

-- the refusals in three groups
chain-arm : (a b t l o y n : Option Errno) → ((a or_else b or_else t or_else l or_else o or_else y or_else n) or_else None)
    ≡ first (a or_else b) (first (first (first t l) o) (y or_else n))
chain-arm (Some a) b t l o y n = refl
chain-arm None (Some b) t l o y n = refl
chain-arm None None (Some t) l o y n = refl
chain-arm None None None (Some l) o y n = refl
chain-arm None None None None (Some o) y n = refl
chain-arm None None None None None (Some y) n = refl
chain-arm None None None None None None (Some n) = refl
chain-arm None None None None None None None = refl

-- the refusals of the node that stands at the path
abbrev pub node_refusal : State → ℕ → ℕ → Path → Option Errno
node_refusal s c slot p =
    when (is_busy (watches_of (instance_of s.instances c)) slot (found (look s.tree p))) EBUSY
    or_else when (is_none (watch_on (watches_of (instance_of s.instances c)) (found (look s.tree p))) && not (nat_lt (armed_of (instance_of s.instances c)) WATCHES_MAX)) ENOSPC

pub arm-refusal : (U : Layer) (lowers : List Layer) (s : State) → IsMountOf U lowers s → (c slot : ℕ) (p : Path) (mask : ℕ) →
    refusal s c (Arm slot p mask)
    ≡ first (slot_refusal (hooks_of (instance_of s.instances c)) slot mask) (first (arm_fault (U ∷ lowers) p mask) (node_refusal s c slot p))
arm-refusal U lowers s m c slot p mask =
    let walk = there (look s.tree p) in
    let link = when (is_link (node_of s.tree (node_at s.tree p))) ELOOP in
    let slots = slot_refusal (hooks_of (instance_of s.instances c)) slot mask in
    let rest = node_refusal s c slot p in
    let walked : first walk link ≡ chown_fault (U ∷ lowers) p =
    sym (refusal-reading s c (ListAttributes p) refl ∙ chain-two walk link) ∙ (law_of_list_attributes U lowers s m c p).refused in
    refusal-reading s c (Arm slot p mask) refl
    ∙ chain-arm (when (not (nat_lt slot (hooks_of (instance_of s.instances c)))) EINVAL) (when (bad_mask mask) EINVAL) walk link
    (when (has_bit mask ONLYDIR && not (is_folder (node_of s.tree (node_at s.tree p)))) ENOTDIR)
    (when (is_busy (watches_of (instance_of s.instances c)) slot (found (look s.tree p))) EBUSY)
    (when (is_none (watch_on (watches_of (instance_of s.instances c)) (found (look s.tree p))) && not (nat_lt (armed_of (instance_of s.instances c)) WATCHES_MAX)) ENOSPC)
    ∙ ap (λ x. first slots (first (first x (when (has_bit mask ONLYDIR && not (is_folder (node_of s.tree (node_at s.tree p)))) ENOTDIR)) rest)) walked
    ∙ ap (λ b. first slots (first (first (chown_fault (U ∷ lowers) p) (when (has_bit mask ONLYDIR && not b) ENOTDIR)) rest)) (folder-at U lowers s m p)
