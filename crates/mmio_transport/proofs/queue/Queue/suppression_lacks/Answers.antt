use Rattle.std.proofs.Common.{length}
use Rattle.mmio_transport.proofs.Areas.{split_areas, packed_areas}
use Rattle.mmio_transport.proofs.queue.Queue.suppression_lacks.Goals as goal

pub suppression_lacks-requires : goal.suppression_lacks-requires
suppression_lacks-requires c = record {
  areas = split_areas (length c.args.memory.now.bytes)
      c.args.self.now c.self.inside.ring c.in-Split.ring c.self.view_is c.in-Split.is
      c.requires.areas;
}

pub suppression_lacks-requires-in-Packed : goal.suppression_lacks-requires-in-Packed
suppression_lacks-requires-in-Packed c = record {
  areas = packed_areas
      (length c.args.memory.now.bytes) c.args.self.now c.self.inside.ring c.in-Packed.ring
      c.self.view_is c.in-Packed.is c.requires.areas;
}
