use Rattle.std.proofs.Common.{sym, ◌∙◌}
use Rattle.merged_lookup.specs.Merged.{layers_of}
use Rattle.mount_calls.proofs.Openings.{flags-first, parents-next, shown-next, open-fault, open-full, lowest-there, unrefused}
use Rattle.mount_calls.proofs.mount.Mount.judge_open.Goals as goal

pub shown_refusal-requires : goal.shown_refusal-requires
shown_refusal-requires c = (c.requires.look.0, rw c.in-Ok-shown.is at c.requires.look.1.top)

pub returns-in-Err-clause-refused : goal.returns-in-Err-clause-refused
returns-in-Err-clause-refused c = λ p look s st.
    open-fault c.args.self.now s st c.args.client p c.args.flags c.args.mode c.in-Err.errno
    (flags-first (layers_of c.args.self.now.layers) p c.args.flags c.args.mode c.in-Err.errno c.in-Err.ensures.told)

pub returns-in-Err-shown-clause-refused : goal.returns-in-Err-shown-clause-refused
returns-in-Err-shown-clause-refused c = λ p look s st.
    let fine = c.in-Ok.ensures.same in
    open-fault c.args.self.now s st c.args.client p c.args.flags c.args.mode c.in-Err-shown.errno
    (parents-next (layers_of c.args.self.now.layers) p c.args.flags c.args.mode c.in-Err-shown.errno fine.1 fine.2 (rw c.in-Err-shown.is at look.refused))

pub returns-in-Some-clause-refused : goal.returns-in-Some-clause-refused
returns-in-Some-clause-refused c = λ p look s st.
    let fine = c.in-Ok.ensures.same in
    open-fault c.args.self.now s st c.args.client p c.args.flags c.args.mode c.in-Some.errno
    (shown-next (layers_of c.args.self.now.layers) p c.args.flags c.args.mode fine.1 fine.2 (rw c.in-Ok-shown.is at look.way)
    ∙ sym (c.in-Some.ensures p (rw c.in-Ok-shown.is at look.top)))

pub returns-in_default-free_descriptor-clause-refused : goal.returns-in_default-free_descriptor-clause-refused
returns-in_default-free_descriptor-clause-refused c = λ p look s st.
    let fine = c.in-Ok.ensures.same in
    let shown =
    shown-next (layers_of c.args.self.now.layers) p c.args.flags c.args.mode fine.1 fine.2 (rw c.in-Ok-shown.is at look.way)
    ∙ sym (c.in_default.ensures p (rw c.in-Ok-shown.is at look.top)) in
    open-full c.args.self.now s st c.args.client p c.args.flags c.args.mode shown c.requires.attached c.in_default-free_descriptor.ensures.full

pub returns-clause-allowed : goal.returns-clause-allowed
returns-clause-allowed c = λ p look s st.
    let fine = c.in-Ok.ensures.same in
    let shown =
    shown-next (layers_of c.args.self.now.layers) p c.args.flags c.args.mode fine.1 fine.2 (rw c.in-Ok-shown.is at look.way)
    ∙ sym (c.in_default.ensures p (rw c.in-Ok-shown.is at look.top)) in
    let found = c.in-Some-free_descriptor in
    unrefused c.args.self.now s st c.args.client p c.args.flags c.args.mode shown found.descriptor
    (lowest-there c.args.self.now s st c.args.client found.descriptor c.requires.attached found.ensures.free)
