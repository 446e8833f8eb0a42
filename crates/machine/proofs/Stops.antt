-- What a stop leaves of the monitor's file.
use Rattle.std.proofs.Common.{◌≡◌, true}
use Rattle.flusher.proofs.Kept.{stops}
use Rattle.board.specs.Board.{IsSound}
use Rattle.board.specs.State.{BoardState}
use Rattle.disk.specs.OutboxDisk.{OutboxState, outbox_state}
use Rattle.machine.specs.Machine.{LeavesEach}

pub leaves_each : (b : BoardState OutboxState) → IsSound outbox_state b
    → (outbox_state b.store.disk).faithful ≡ true → LeavesEach b
leaves_each b s known c may g x at =
    let shown = outbox_state b.store.disk in
    let k = stops s.parts b.store.guests shown shown b.store.broken (s.linked.kept known) g x at c
    may in
    (k.part, k.stands, k.marked)
