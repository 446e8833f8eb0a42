use Rattle.std.proofs.Common.{rules, length, subst, sym, ap, ◌∙◌}
use Rattle.chains.specs.Range.{AreHeld}
use Rattle.mmio_transport.specs.Asking.{AskingState, known}
use Rattle.mmio_transport.specs.Queue.{used_held}
use Rattle.mmio_transport.specs.Publishing.{IsDueIn}
use Rattle.mmio_transport.proofs.Areas.{used_held_still}
use Rattle.mmio_transport.proofs.Rooms.{room_of_queue}
use Rattle.mmio_transport.proofs.Once.{not_due}
use Rattle.mmio_transport.proofs.asking.AskingDevice.publish.Goals.{then-notify, else-notify}
use Rattle.mmio_transport.proofs.asking.AskingDevice.publish.Goals as goal

pub returns-clause-once : goal.returns-clause-once
returns-clause-once c = elim c.if-notify.branch [
  | then-notify w ↦ not_due c.if-notify.self.device c.publish-notify.new.self c.args.done
      c.ticket-ticket.result (search rules) c.ticket-ticket.ensures c.publish-notify.ensures.once
  | else-notify w ↦ not_due c.if-notify.self.device c.publish-notify.new.self c.args.done
      c.ticket-ticket.result (search rules) c.ticket-ticket.ensures c.publish-notify.ensures.once
]

pub scatter-requires-clause-held : goal.scatter-requires-clause-held
scatter-requires-clause-held c =
    let d = c.args.self.now in
    let due : IsDueIn d.device.queue d.device c.args.done = search rules in
    let queue = sym (ap (λ (v : AskingState). v.device.queue) c.self.view_is) ∙ c.in-Some.is in
    let room = room_of_queue d d.device.queue c.in-Some.queue c.args.done queue (c.requires due) in
    subst (λ (v : AskingState). AreHeld (known v) c.args.done.writable (length c.args.done.reply))
    (sym c.self.view_is) room.reply

pub publish-notify-requires-clause-held : goal.publish-notify-requires-clause-held
publish-notify-requires-clause-held c =
    let d = c.args.self.now in
    let due : IsDueIn d.device.queue d.device c.args.done = search rules in
    let queue = sym (ap (λ (v : AskingState). v.device.queue) c.self.view_is) ∙ c.in-Some.is in
    let room = room_of_queue d d.device.queue c.in-Some.queue c.args.done queue (c.requires due) in
    let used = subst (λ (v : AskingState). used_held c.in-Some.queue.kind (known v)
    c.in-Some.queue.ring) (sym c.self.view_is) room.used in
    used_held_still c.in-Some.queue.kind c.self.inside.memory c.scatter.new.memory
    c.in-Some.queue.ring c.scatter.ensures.held used
