use Rattle.std.proofs.Common.{subst}
use Rattle.mmio_transport.specs.Asking.{AskingState, HasRoomIn}
use Rattle.mmio_transport.proofs.Rooms.{room_in_queue}
use Rattle.mmio_transport.proofs.asking.AskingDevice.lacks.Goals as goal

pub returns-in-None-clause-none : goal.returns-in-None-clause-none
returns-in-None-clause-none c = λ none due.
    subst (λ (d : AskingState). HasRoomIn d.device.queue d c.args.done.now) c.self.view_is
    (room_in_queue _ c.self.inside.queue c.in-Some.queue c.args.done.now c.in-Some.is
    (c.lacks.ensures.none c.in-None.is) (c.lacks-in-None.ensures.none none))
