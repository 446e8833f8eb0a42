use Rattle.std.proofs.Common.{◌≤◌, ◌+◌, ◌*◌, length, subst, sym}
use Rattle.mmio_transport.proofs.Common.{RingState}
use Rattle.mmio_transport.proofs.Areas.{split_areas}
use Rattle.mmio_transport.proofs.queue.Queue.indexed.Goals as goal

pub used_index-requires : goal.used_index-requires
used_index-requires c =
    let areas = split_areas (length c.args.memory.now.bytes) c.args.self.now c.self.inside.ring
    c.in-Split.ring c.self.view_is c.in-Split.is c.requires.areas in
    record {
      inside = subst (λ (r : RingState). r.places.device + (6 + 8 * r.size) ≤ length
          c.args.memory.now.bytes)
          (sym c.counts.ensures.counts) areas.device;
    }
