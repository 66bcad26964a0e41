use Rattle.open_handles.proofs.Slots.{gives-names, opened-within, directory-some}
use Rattle.open_handles.proofs.descriptors.Descriptors.next_names.Goals as goal

pub returns-in-Some-Directory : goal.returns-in-Some-Directory
returns-in-Some-Directory c =
    gives-names c.args.self.now.slots.items c.args.descriptor c.args.count c.in-Some-Directory.directory c.next_names.new.self c.next_names.result (opened-within c.args.self.now.slots.items c.args.descriptor (directory-some _ c.requires)) (rw (c.in-Some-Directory.is, c.in-Some-Directory.field-0-is) at c.index_mut.ensures.value) c.next_names.ensures.names c.next_names.ensures.left c.next_names.ensures.err
