-- What a driver's register writes do, one after another, for a monitor that has a transport of its
-- own (VIRTIO 1.2, 3.1.1 and 4.2.2).
use Rattle.std.specs.Prelude.{ℕ, Bool, ◌==◌, ◌&&◌, ◌+◌, ◌/◌, ◌%◌, if◌then◌else◌}
use Rattle.machine.specs.Machine.{MachineState, shown_in, written_in}
use Rattle.machine.specs.declared.starting.Areas.{Areas}

-- the machine after the guest wrote this value to the register of 32 bits at this offset
unfoldable pub set_in : MachineState → (guest offset value : ℕ) → MachineState
set_in m guest offset value = written_in m guest offset 4 value

-- after both halves of a number: the lower 32 bits at one offset, the upper ones 4 bytes behind it
unfoldable pub halves_in : MachineState → (guest offset number : ℕ) → MachineState
halves_in m guest offset number =
    set_in (set_in m guest offset (number % 4294967296)) guest (offset + 4) (number / 4294967296)

-- after both halves of a driver's features (DriverFeaturesSel 0x024, DriverFeatures 0x020)
unfoldable pub features_in : MachineState → (guest features : ℕ) → MachineState
features_in m guest features =
    let low = set_in (set_in m guest 36 0) guest 32 (features % 4294967296) in
    set_in (set_in low guest 36 1) guest 32 (features / 4294967296)

-- A reset (Status 0x070), ACKNOWLEDGE and DRIVER, the features, and FEATURES_OK.
unfoldable pub negotiated_in : MachineState → (guest features : ℕ) → MachineState
negotiated_in m guest features =
    set_in (features_in (set_in (set_in m guest 112 0) guest 112 3) guest features) guest 112 11

-- The areas of queue 0 (QueueSel 0x030, QueueNum 0x038, the addresses from 0x080, 0x090 and 0x0a0
-- on), and QueueReady 0x044.
unfoldable pub queue_in : MachineState → ℕ → Areas → MachineState
queue_in m guest a =
    let sized = set_in (set_in m guest 48 0) guest 56 a.size in
    let areas = halves_in (halves_in (halves_in sized guest 128 a.descriptors)
    guest 144 a.driver) guest 160 a.device in
    set_in areas guest 68 1

-- all that, and DRIVER_OK
unfoldable pub begun_in : MachineState → (guest features : ℕ) → Areas → MachineState
begun_in m guest features a =
    set_in (queue_in (negotiated_in m guest features) guest a) guest 112 15

-- whether the device is in service: Status reads all that was written, and QueueReady 1
unfoldable pub is_up : MachineState → ℕ → Bool
is_up m guest = shown_in m guest 112 4 == 15 && shown_in m guest 68 4 == 1

-- in service; or reset, where the device refused the features or the queue
unfoldable pub started_in : MachineState → (guest features : ℕ) → Areas → MachineState
started_in m guest features a =
    let begun = begun_in m guest features a in
    if is_up begun guest then begun else set_in begun guest 112 0

-- after one half of the features that the device offers was selected (DeviceFeaturesSel 0x014)
unfoldable pub offered_of : MachineState → (guest half : ℕ) → ℕ
offered_of m guest half = shown_in (set_in m guest 20 half) guest 16 4
