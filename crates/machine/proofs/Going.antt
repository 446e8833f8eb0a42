-- Whether a device waits for a reset, or is live, by what its Status reads.
use Rattle.std.proofs.Common.{◌≡◌, ◌+◌, Bool, true, false, refl, arith}
use Rattle.std.specs.Prelude.{nat_eq, ◌/◌, ◌%◌}
use Rattle.mmio_transport.specs.Device.{DeviceState, read_value}
use Rattle.mmio_transport.specs.Registers.{bit, register_value, status_number}

-- the bit of 64 is that of its number
status_bit : (a b c d n f v : Bool)
    → nat_eq ((bit a 1 + bit b 2 + bit c 4 + bit d 8 + bit n 64 + bit f 128) / 64 % 2) 1 ≡ v
    → n ≡ v
status_bit a b c d false f false is = refl
status_bit a b c d true f true is = refl
status_bit a b c d true f false is = grind arith
status_bit a b c d false f true is = grind arith

pub going_by : (d : DeviceState) (v : Bool) → nat_eq (read_value d 0x70 4 / 64 % 2) 1 ≡ v
    → d.registers.status.needs_reset ≡ v
unfolding read_value register_value status_number
going_by d v is =
    let s = d.registers.status in
    status_bit s.acknowledge s.driver s.driver_ok s.features_ok s.needs_reset s.failed v is

-- the bit of 4 is that of its number
live_bit : (a b c d n f v : Bool)
    → nat_eq ((bit a 1 + bit b 2 + bit c 4 + bit d 8 + bit n 64 + bit f 128) / 4 % 2) 1 ≡ v
    → c ≡ v
live_bit a b true d n f true is = refl
live_bit a b false d n f false is = refl
live_bit a b false d n f true is = grind arith
live_bit a b true d n f false is = grind arith

-- whether its driver has set DRIVER_OK
pub live_by : (d : DeviceState) (v : Bool) → nat_eq (read_value d 0x70 4 / 4 % 2) 1 ≡ v
    → d.registers.status.driver_ok ≡ v
unfolding read_value register_value status_number
live_by d v is =
    let s = d.registers.status in
    live_bit s.acknowledge s.driver s.driver_ok s.features_ok s.needs_reset s.failed v is
