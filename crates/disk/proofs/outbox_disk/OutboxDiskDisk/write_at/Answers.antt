use Rattle.std.proofs.Common.{◌∙◌, ap}
use Rattle.disk.specs.OutboxDisk.{ends, write_succeeds}
use Rattle.disk.proofs.OutboxCalls.{few_of, makes_write, readable_wrote}
use Rattle.disk.proofs.outbox_disk.OutboxDiskDisk.write_at.Goals as goal

pub invariant_of-self-2 : goal.invariant_of-self-2
invariant_of-self-2 c = readable_wrote _ _ _ _ _ _ c.new.ensures.items c.note.ensures
    c.self.invariant

pub returns-clause-call : goal.returns-clause-call
unfolding write_succeeds
returns-clause-call c =
    let ended = c.in_ok-ended.ensures in
    makes_write c.args.self.now _ c.args.at c.args.bytes.now _ _ _ _ _ c.self.view_is
    c.new.ensures.items c.note.ensures c.put.ensures ended.told ended.count
    (few_of _ _ _ ended.ok)
    (ended.ok
    ∙ ap (λ m. ends m c.self.inside.failed c.self.inside.failures) c.has_room-fits.ensures)
