use Rattle.std.proofs.Common.{◌∙◌, ap}
use Rattle.flusher.proofs.Common.{guest_after_write}
use Rattle.flusher.proofs.Writer.{can_write, still_fits, wrote_slot, its_fit, default_is}
use Rattle.flusher.proofs.writing.write_round.Goals as goal

pub write_next-wrote-requires-clause-fits : goal.write_next-wrote-requires-clause-fits
write_next-wrote-requires-clause-fits g c =
    (its_fit c.args.guests.now c.args.guest c.index-guests-guest.result c.requires.next
    (g.D.Disk.state c.args.disk.now).len c.requires.fits).slot_fits

pub write_next-wrote-requires-clause-behind : goal.write_next-wrote-requires-clause-behind
write_next-wrote-requires-clause-behind g c =
    (its_fit c.args.guests.now c.args.guest c.index-guests-guest.result c.requires.next
    (g.D.Disk.state c.args.disk.now).len c.requires.fits).behind_fits

pub write_next-wrote-requires-clause-room : goal.write_next-wrote-requires-clause-room
write_next-wrote-requires-clause-room g c =
    (its_fit c.args.guests.now c.args.guest c.index-guests-guest.result c.requires.next
    (g.D.Disk.state c.args.disk.now).len c.requires.fits).room

pub write_next-wrote-requires-clause-has : goal.write_next-wrote-requires-clause-has
write_next-wrote-requires-clause-has g c =
    can_write c.args.guests.now c.args.guest c.index-guests-guest.result c.requires.next

pub returns-clause-fits : goal.returns-clause-fits
returns-clause-fits g c = still_fits c.args.guests.now c.args.guest c.index-guests-guest-2.result
    c.requires.next (g.D.Disk.state c.args.disk.now).len c.move_written.new.self c.requires.fits
    c.move_written.ensures

pub returns-clause-wrote : goal.returns-clause-wrote
returns-clause-wrote g c =
    let xs = c.args.guests.now in
    let one = c.index-guests-guest.result in
    let two = c.index-guests-guest-2.result in
    wrote_slot xs c.args.guest one c.requires.next g.D.Disk.makes _ _ _ c.move_written.new.self
    (c.move_written.ensures ∙ ap guest_after_write
    (default_is xs c.args.guest two one c.requires.next))
    (g.D.Disk.state c.args.disk.now).len c.requires.fits c.write_next-wrote.ensures.wrote
