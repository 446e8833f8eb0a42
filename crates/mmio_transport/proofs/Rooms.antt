-- What a publication writes is there.
use Rattle.std.proofs.Common.{◌≡◌, length, Option, Some, subst, sym}
use Rattle.chains.specs.Range.{AreHeld}
use Rattle.mmio_transport.specs.Queue.{QueueState, used_held}
use Rattle.mmio_transport.specs.Asking.{AskingState, known}
use Rattle.mmio_transport.specs.Job.{Done}
use Rattle.mmio_transport.specs.Asking.{HasRoom, HasRoomIn}

pub room_of_queue : (d : AskingState) (queue : Option QueueState) (q : QueueState) (done : Done) →
    queue ≡ Some q → HasRoomIn queue d done → HasRoom d q done
room_of_queue d queue q done is room = subst (λ (o : Option QueueState). HasRoomIn o d done) is room

pub room_in_queue : (d : AskingState) (queue : Option QueueState) (q : QueueState) (done : Done) →
    queue ≡ Some q → AreHeld (known d) done.writable (length done.reply)
    → used_held q.kind (known d) q.ring → HasRoomIn queue d done
room_in_queue d queue q done is reply used =
    let room : HasRoom d q done = record { reply = reply; used = used } in
    subst (λ (o : Option QueueState). HasRoomIn o d done) (sym is) room
