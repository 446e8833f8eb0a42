-- What a board is once its disk was told something between two steps: what came of its writes and
-- syncs, or which of its calls is to fail.
use Rattle.std.specs.Prelude.{ℕ}
use Rattle.disk.specs.CutDisk.{CutState}
use Rattle.disk.specs.OutboxDisk.{OutboxState, after_told}
use Rattle.disk.specs.declared.outbox_disk.Told.{Told}
use Rattle.board.specs.State.{BoardState}

abbrev pub telling : Told → BoardState OutboxState → BoardState OutboxState
telling told b = record b { store = record b.store { disk = after_told told b.store.disk } }

abbrev pub choosing_call : ℕ → BoardState CutState → BoardState CutState
choosing_call k b =
    record b { store = record b.store { disk = record b.store.disk { chosen = k } } }
