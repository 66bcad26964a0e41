use Rattle.std.proofs.Common.{◌≡◌, refl, sym, ap, is_some, ◌∙◌, rules}
use Rattle.std.proofs.lemmas.Result.{on_err_weaker}
use Rattle.std.specs.Option.{option_and_then}
use Rattle.ov_base.specs.declared.errno.Errno.TheVariants.{EINVAL}
use Rattle.ov_base.specs.declared.reply.Reply.TheVariants as reply
use Rattle.merged_lookup.specs.Merged.{layers_of}
use Rattle.mount_calls.specs.Status.{content_target, target_reply}
use Rattle.mount_calls.proofs.Linking.{link-inode, link-target, answers-as, serves-as, readlink-allowed, readlink-serves, readlink_reply}
use Rattle.mount_calls.proofs.mount.Mount.readlink.Goals as goal

pub returns-in-Ok-Inode-clause-tells : goal.returns-in-Ok-Inode-clause-tells
returns-in-Ok-Inode-clause-tells c =
    serves-as c.read_link.result (readlink_reply (layers_of c.args.self.now.layers) c.args.path.now) _ (λ r e client s st. readlink-serves c.args.self.now s st client c.args.path.now r e)
    (answers-as c.read_link.result _ (readlink_reply (layers_of c.args.self.now.layers) c.args.path.now)
    (ap (λ o. target_reply (option_and_then content_target o)) c.content_at.ensures
    ∙ link-inode c.args.self.now.layers c.args.path.now c.in-Ok-Inode.place (c.in-Ok-Inode.ensures.answers.0 refl) (rw c.in-Ok-Inode.field-0-is at c.in-Ok-Inode.ensures.found))
    c.read_link.ensures.reply)

pub returns-in-Ok-Inode-clause-allowed : goal.returns-in-Ok-Inode-clause-allowed
returns-in-Ok-Inode-clause-allowed c =
    let l = c.args.self.now.layers in
    let p = c.args.path.now in
    let found = rw c.in-Ok-Inode.field-0-is at c.in-Ok-Inode.ensures.found in
    on_err_weaker c.read_link.result (λ link s st client.
    readlink-allowed c.args.self.now s st client p (c.in-Ok-Inode.ensures.answers.0 refl)
    (sym (ap is_some (ap (option_and_then content_target) c.content_at.ensures
    ∙ link-target l p c.in-Ok-Inode.place found)) ∙ link))
    c.read_link.ensures.link

pub returns-in-Ok-Directory-clause-tells : goal.returns-in-Ok-Directory-clause-tells
returns-in-Ok-Directory-clause-tells c = λ client s st.
    let is : reply.Refused EINVAL ≡ readlink_reply (layers_of c.args.self.now.layers) c.args.path.now = search rules in
    readlink-serves c.args.self.now s st client c.args.path.now (reply.Refused EINVAL) is

pub returns-in-Err-clause-tells : goal.returns-in-Err-clause-tells
returns-in-Err-clause-tells c = λ client s st.
    let is : reply.Refused c.in-Err.errno ≡ readlink_reply (layers_of c.args.self.now.layers) c.args.path.now = search rules in
    readlink-serves c.args.self.now s st client c.args.path.now (reply.Refused c.in-Err.errno) is
