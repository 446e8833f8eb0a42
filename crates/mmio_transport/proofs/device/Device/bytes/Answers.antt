use Rattle.std.proofs.Common.{subst, sym}
use Rattle.chains.proofs.Helds.{whole_held}
use Rattle.guest_memory.specs.Memory.{IsInside}
use Rattle.mmio_transport.specs.Device.{DeviceState}
use Rattle.mmio_transport.specs.Asking.{known}
use Rattle.mmio_transport.proofs.device.Device.bytes.Goals as goal

pub bytes-requires : goal.bytes-requires
bytes-requires c =
    let inside = subst (λ (v : DeviceState). IsInside v.memory c.args.at c.args.len)
    (sym c.self.view_is) c.requires in
    whole_held (known c.self.inside.inner) c.args.at c.args.len
    (c.memory_size-size.ensures.whole c.self.invariant) inside
