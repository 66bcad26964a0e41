use Rattle.std.proofs.Common.{rules, ◌≡◌, true, false, sym, ap, ◌∙◌}
use Rattle.std.specs.Option.{option_and_then, option_copied}
use Rattle.ov_base.specs.declared.errno.Errno.TheVariants.{ENOTDIR}
use Rattle.plain_model.specs.Refusals.{when}
use Rattle.layer_tree.specs.Tree.{inode_of}
use Rattle.mount_laws.specs.Looks.{is_link_inode}
use Rattle.mount_calls.proofs.Openings.{inode-refused}
use Rattle.mount_calls.proofs.open_calls.inode_refusal.Goals as goal
use Rattle.mount_calls.proofs.open_calls.inode_refusal.Goals.{In_default, in_default-via-in-Some+in-Inode+in_default, in_default-via-in-Some+in_default, in_default-via-in_default}

-- what is no symbolic link
no-link : (c : In_default) → is_link_inode (option_and_then inode_of (option_copied c.node.result)) ≡ false
no-link c = elim c.in_default.branch [
  | in_default-via-in-Some+in-Inode+in_default w ↦ search rules
  | in_default-via-in-Some+in_default w ↦ search rules
  | in_default-via-in_default w ↦ search rules
]

pub returns-in-Some-Inode-SymbolicLink : goal.returns-in-Some-Inode-SymbolicLink
returns-in-Some-Inode-SymbolicLink c = λ p shown.
    let link : is_link_inode (option_and_then inode_of (option_copied c.node.result)) ≡ true = search rules in
    sym (inode-refused c.args.layers.now p c.args.place c.args.flags true shown (sym (ap (λ o. is_link_inode (option_and_then inode_of o)) c.node.ensures) ∙ link))

pub returns-in_default : goal.returns-in_default
returns-in_default c = λ p shown.
    sym (ap (λ b. when b ENOTDIR) c.if-flags.true) ∙
    sym (inode-refused c.args.layers.now p c.args.place c.args.flags false shown (sym (ap (λ o. is_link_inode (option_and_then inode_of o)) c.node.ensures) ∙ no-link (goal.at.returns-in_default c).In_default))

pub returns-in_default-2 : goal.returns-in_default-2
returns-in_default-2 c = λ p shown.
    sym (ap (λ b. when b ENOTDIR) c.if-flags.false) ∙
    sym (inode-refused c.args.layers.now p c.args.place c.args.flags false shown (sym (ap (λ o. is_link_inode (option_and_then inode_of o)) c.node.ensures) ∙ no-link (goal.at.returns-in_default-2 c).In_default))
