use Rattle.disk.proofs.OutboxCalls.{readable_opened}
use Rattle.disk.proofs.outbox_disk.OutboxDisk.new.Goals as goal

pub invariant_of-result : goal.invariant_of-result
invariant_of-result c = readable_opened c.args.image.items _ _ _ c.note.ensures
    c.as_slice.ensures.value
