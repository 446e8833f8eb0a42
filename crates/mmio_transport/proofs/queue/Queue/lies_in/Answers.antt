use Rattle.std.proofs.Common.{◌↔◌, IsTrue, length, subst}
use Rattle.mmio_transport.proofs.Common.{QueueState, AreasInside}
use Rattle.mmio_transport.specs.declared.queue.AnyRing.TheVariants as any
use Rattle.mmio_transport.proofs.Areas.{seen}
use Rattle.mmio_transport.proofs.queue.Queue.lies_in.Goals as goal

pub returns-in-Split : goal.returns-in-Split
returns-in-Split c =
    let P : QueueState → Type 0 = λ q. IsTrue c.lies_in.result ↔ AreasInside q.kind
    (length c.args.memory.now.bytes) q.ring in
    subst P (seen c.args.self.now c.self.inside.ring (any.Split c.in-Split.ring) c.self.view_is
    c.in-Split.is) c.lies_in.ensures

pub returns-in-Packed : goal.returns-in-Packed
returns-in-Packed c =
    let P : QueueState → Type 0 = λ q. IsTrue c.lies_in-in-Packed.result ↔ AreasInside q.kind
    (length c.args.memory.now.bytes) q.ring in
    subst P (seen c.args.self.now c.self.inside.ring (any.Packed c.in-Packed.ring) c.self.view_is
    c.in-Packed.is) c.lies_in-in-Packed.ensures
