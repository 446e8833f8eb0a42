use Rattle.std.proofs.Common.{◌∙◌, ap, subst, sym}
use Rattle.disk.specs.OutboxDisk.{outbox_state}
use Rattle.board.specs.Asking.{board_of}
use Rattle.machine.specs.Machine.{LeavesEach}
use Rattle.machine.proofs.Stops.{leaves_each}
use Rattle.machine.proofs.machine.Machine.what_stops_leave.Goals as goal

pub returns : goal.returns
returns c =
    let known = sym (ap (λ d. (outbox_state d).faithful) (c.disk.ensures
    ∙ ap (λ r. r.store.disk) c.rest.ensures))
    ∙ c.what_always_holds-2.ensures in
    subst (λ m. LeavesEach m.board.rest) c.self.view_is
    (leaves_each (board_of c.self.inside.board) c.what_always_holds.ensures known)
