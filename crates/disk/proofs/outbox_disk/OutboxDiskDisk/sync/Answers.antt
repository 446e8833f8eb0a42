use Rattle.std.proofs.Common.{rules}
use Rattle.disk.specs.OutboxDisk.{sync_succeeds}
use Rattle.disk.proofs.OutboxCalls.{few_of, makes_sync, readable_synced}
use Rattle.disk.proofs.outbox_disk.OutboxDiskDisk.sync.Goals as goal

pub invariant_of-self-2 : goal.invariant_of-self-2
invariant_of-self-2 c = readable_synced _ _ _ c.note.ensures c.self.invariant

pub returns-clause-call : goal.returns-clause-call
unfolding sync_succeeds
returns-clause-call c =
    let ended = c.in_ok-ended.ensures in
    makes_sync c.args.self.now _ _ _ _ c.self.view_is c.note.ensures ended.told ended.count
    (few_of _ _ _ ended.ok) (search rules)
