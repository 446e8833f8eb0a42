use Rattle.std.proofs.Common.{◌≡◌, ◌++◌, Some, rules, ap, ◌∙◌}
use Rattle.machine.proofs.Common.{in_place, slice_get}
use Rattle.mmio_transport.specs.Written.{range_in}
use Rattle.machine.proofs.Replies.{noted_by, noted_in_turn}
use Rattle.machine.proofs.leaving.note_reply.Goals as goal

pub returns-clause-noted : goal.returns-clause-noted
returns-clause-noted c told =
    let b = c.args.board.now in
    let g = c.args.guest in
    let done = c.in-Some.done.now in
    let device = c.in-Some-device_of.device.now in
    let lay : in_place (slice_get b.rest.dones g) ≡ Some done = search rules in
    let its : slice_get b.devices g ≡ Some device = search rules in
    noted_by g _ b device done lay its
    (noted_in_turn _ c.note_filled.new.turn.parts c.note_part.new.turn.parts
    c.note_part-2.new.turn.parts _ _ _ c.requires
    (c.note_filled.ensures.noted c.if-not-note_filled.false ∙ (search rules))
    (c.note_part.ensures.noted c.if-not-note_part.false
    ∙ ap (λ o. c.note_filled.new.turn.parts ++ range_in o) c.written.ensures.names)
    (c.note_part-2.ensures.noted told
    ∙ ap (λ o. c.note_part.new.turn.parts ++ range_in o) c.indexed.ensures))
