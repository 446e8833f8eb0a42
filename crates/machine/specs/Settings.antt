-- What a monitor asks of a guest's device beside the plain one. Section numbers are those of
-- VIRTIO 1.2.
use Rattle.std.specs.Prelude.{ℕ, ◌-◌, ◌/◌, ◌%◌, ◌≤◌, Bool, not, ◌&&◌, ◌||◌, ◌==◌, if◌then◌else◌}
use Rattle.std.specs.Prelude.{bit_and, bit_or, nat_le, [], ◌∷◌, Option, None, Some, is_none}
use Rattle.rpmb_frame.specs.Table.{first_row}
use Rattle.mmio_transport.specs.Asking.{AskingState, after_asked_write}
use Rattle.mmio_transport.specs.Device.{DeviceState, read_value}
use Rattle.mmio_transport.specs.Register as register
use Rattle.machine.specs.declared.settings.Setup.{Setup}

-- VIRTIO_F_ACCESS_PLATFORM, 33, in its half (6)
abbrev pub access_platform : ℕ
access_platform = 2

-- the features withheld of the half that is selected
unfoldable pub withheld_of : Setup → ℕ → ℕ
withheld_of w half = first_row (
    (half == 0, w.withheld % 4294967296)
    ∷ (half == 1, w.withheld / 4294967296)
    ∷ []) 0

-- no feature is withheld or added, and QueueNumMax is the device's
unfoldable pub is_plain : Setup → Bool
is_plain w = w.withheld == 0 && is_none w.queue && not w.platform

-- what QueueNumMax reads, where the device tells so many places
abbrev pub places_shown : Option ℕ → ℕ → ℕ
places_shown None value = value
places_shown (Some queue) value = if value == 0 then value else queue

abbrev pub IsQueueInRange : Option ℕ → Type 0
IsQueueInRange None = Unit {0}
IsQueueInRange (Some queue) = (2 ≤ queue) × (queue ≤ 256)

-- what QueueNumMax is to read is a number of places that it may read
abbrev pub HasQueueInRange : Setup → Type 0
HasQueueInRange w = IsQueueInRange w.queue

-- the features that are shown of a half, of those that the device offers
unfoldable pub features_shown : Setup → ℕ → ℕ → ℕ
features_shown w half offered =
    let all = if w.platform && half == 1 then bit_or offered access_platform else offered in
    bit_and all (4294967295 - withheld_of w half)

-- The driver's features of a half, as the device gets them: without ACCESS_PLATFORM, which changes
-- nothing for it, and where the driver takes one that is withheld, bits that no device offers, so
-- that FEATURES_OK is refused (2.2).
unfoldable pub features_taken : Setup → ℕ → ℕ → ℕ
features_taken w half value =
    if not (bit_and value (withheld_of w half) == 0) then 4294967295
    else if w.platform && half == 1 then bit_and value (4294967295 - access_platform)
    else value

-- what a read of the register table's value becomes
unfoldable pub value_shown : Setup → DeviceState → ℕ → ℕ → ℕ
value_shown w d offset width = first_row (
    (is_plain w || not (width == 4), read_value d offset width)
    ∷ (
      offset == register.device_features,
      features_shown w d.registers.device_features_sel (read_value d offset width),
    )
    ∷ (offset == register.queue_num_max, places_shown w.queue (read_value d offset width))
    ∷ []) (read_value d offset width)

-- what the device gets of a value that is written
unfoldable pub value_taken : Setup → DeviceState → ℕ → ℕ → ℕ → ℕ
value_taken w d offset width value =
    if is_plain w || not (width == 4) || not (offset == register.driver_features) then value
    else features_taken w d.registers.driver_features_sel value

-- the device after its driver wrote that
abbrev pub device_after : Setup → AskingState → ℕ → ℕ → ℕ → AskingState
device_after w a offset width value =
    after_asked_write a offset width (value_taken w a.device offset width value)

-- how many of a guest's chains may be popped and not yet answered: at most the 64 that the book
-- holds
unfoldable pub most_of : Setup → ℕ
most_of w = if w.most == 0 then 64 else (if nat_le w.most 64 then w.most else 64)
