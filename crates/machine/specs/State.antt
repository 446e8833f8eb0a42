-- The state of a guest's device as words of 32 bits (own): three that say what it is, ten of the
-- guest that it is of, its registers, and where its queue rests.
use Rattle.std.specs.Prelude.{ℕ, ◌+◌, ◌*◌, ◌/◌, ◌%◌, ◌==◌, ◌&&◌, not, Bool, if◌then◌else◌, List}
use Rattle.std.specs.Prelude.{length, Option, Some, None, slice_get, [], ◌∷◌, ◌++◌, false}
use Rattle.std.specs.Prelude.{unwrap_or}
use Rattle.mmio_transport.specs.declared.ring_kind.RingKind.{RingKind}
use Rattle.mmio_transport.specs.declared.ring_kind.RingKind.TheVariants.{Split, Packed}
use Rattle.chains.specs.declared.places.Places.{Places}
use Rattle.mmio_transport.specs.declared.registers.Registers.{Registers}
use Rattle.mmio_transport.specs.declared.saving.RestingDevice.{RestingDevice}
use Rattle.mmio_transport.specs.declared.saving.RestingQueue.{RestingQueue}
use Rattle.machine.specs.declared.settings.Setup.{Setup}

abbrev pub or_zero : Option ℕ → ℕ
or_zero None = 0
or_zero (Some word) = word

-- the word at a place; 0 behind the last one
abbrev pub word_at : List ℕ → ℕ → ℕ
word_at words i = or_zero (slice_get words i)

-- a number of 64 bits in two words, the lower half first
abbrev pub number_at : List ℕ → ℕ → ℕ
number_at words i = word_at words i + 4294967296 * word_at words (i + 1)

-- a flag: 0 where it isn't set
abbrev pub flag_at : List ℕ → ℕ → Bool
flag_at words i = not (word_at words i == 0)

abbrev pub flag_number : Bool → ℕ
flag_number is_set = if is_set then 1 else 0

-- it is a state, whole, and of this version: `RPMB` in little endian, 1, and how many words it has
unfoldable pub is_state : List ℕ → Bool
is_state words =
    length words == 50 && word_at words 0 == 0x424d5052 && word_at words 1 == 1
    && word_at words 2 == 50

-- it is of this guest, of a board of so many, which is set up so
unfoldable pub is_of : (guests guest : ℕ) → Setup → List ℕ → Bool
is_of guests guest s words =
    word_at words 3 == guests && word_at words 4 == guest
    && word_at words 5 == s.config.capacity && word_at words 6 == s.config.max_wr_cnt
    && word_at words 7 == s.config.max_rd_cnt
    && word_at words 8 == s.config.memory % 4294967296
    && word_at words 9 == s.config.memory / 4294967296
    && word_at words 10 == s.withheld % 4294967296
    && word_at words 11 == s.withheld / 4294967296
    && word_at words 12 == flag_number s.platform

-- the registers
unfoldable pub registers_in : List ℕ → Registers
registers_in words = record {
  device_features_sel = word_at words 13;
  driver_features_low = word_at words 14;
  driver_features_high = word_at words 15;
  driver_features_sel = word_at words 16;
  queue_sel = word_at words 17;
  queue_num = word_at words 18;
  desc_low = word_at words 19;
  desc_high = word_at words 20;
  driver_low = word_at words 21;
  driver_high = word_at words 22;
  device_low = word_at words 23;
  device_high = word_at words 24;
  interrupts = record { used_buffer = flag_at words 25; configuration = flag_at words 26 };
  status = record {
    acknowledge = flag_at words 27;
    driver = flag_at words 28;
    driver_ok = flag_at words 29;
    features_ok = flag_at words 30;
    needs_reset = flag_at words 31;
    failed = flag_at words 32;
  };
}

-- the queue that is ready: 1 is a split one, and more a packed one
abbrev pub kind_in : List ℕ → RingKind
kind_in words = if word_at words 33 == 1 then Split else Packed

abbrev pub places_in : List ℕ → Places
places_in words = record {
  descriptors = number_at words 38;
  driver = number_at words 40;
  device = number_at words 42;
  indirect = flag_at words 34;
  event_idx = flag_at words 35;
  in_order = flag_at words 36;
}

unfoldable pub resting_in : List ℕ → RestingQueue
resting_in words = record {
  kind = kind_in words;
  places = places_in words;
  size = word_at words 37 % 65536;
  last = number_at words 44;
  used = number_at words 46 + 18446744073709551616 * number_at words 48;
}

-- where the queue rests; none where word 33 is 0
abbrev pub queue_in : List ℕ → Option RestingQueue
queue_in words = if word_at words 33 == 0 then None else Some (resting_in words)

-- the device that was saved
abbrev pub device_in : List ℕ → RestingDevice
device_in words = record { registers = registers_in words; queue = queue_in words }

-- no queue
abbrev pub no_queue : RestingQueue
no_queue = record {
  kind = Split;
  places = record {
    descriptors = 0;
    driver = 0;
    device = 0;
    indirect = false;
    event_idx = false;
    in_order = false;
  };
  size = 0;
  last = 0;
  used = 0;
}

abbrev pub low : ℕ → ℕ
low number = number % 4294967296

abbrev pub high : ℕ → ℕ
high number = number / 4294967296

abbrev pub kind_number : RingKind → ℕ
kind_number Split = 1
kind_number Packed = 2

abbrev pub ready_number : Option RestingQueue → ℕ
ready_number None = 0
ready_number (Some q) = kind_number q.kind

-- what the words are, and of which guest, of a board of so many, which is set up so
abbrev pub header_words : (guests guest : ℕ) → Setup → List ℕ
header_words guests guest s =
    0x424d5052 ∷ 1 ∷ 50 ∷ guests ∷ guest
    ∷ s.config.capacity ∷ s.config.max_wr_cnt ∷ s.config.max_rd_cnt
    ∷ low s.config.memory ∷ high s.config.memory ∷ low s.withheld ∷ high s.withheld
    ∷ flag_number s.platform
    ∷ []

abbrev pub register_words : Registers → List ℕ
register_words r =
    r.device_features_sel ∷ r.driver_features_low ∷ r.driver_features_high
    ∷ r.driver_features_sel ∷ r.queue_sel ∷ r.queue_num
    ∷ r.desc_low ∷ r.desc_high ∷ r.driver_low ∷ r.driver_high ∷ r.device_low ∷ r.device_high
    ∷ flag_number r.interrupts.used_buffer ∷ flag_number r.interrupts.configuration
    ∷ flag_number r.status.acknowledge ∷ flag_number r.status.driver
    ∷ flag_number r.status.driver_ok ∷ flag_number r.status.features_ok
    ∷ flag_number r.status.needs_reset ∷ flag_number r.status.failed
    ∷ []

-- of a queue that is there, or of none, which has zeros
abbrev pub place_words : RestingQueue → List ℕ
place_words q =
    flag_number q.places.indirect ∷ flag_number q.places.event_idx
    ∷ flag_number q.places.in_order ∷ q.size
    ∷ low q.places.descriptors ∷ high q.places.descriptors
    ∷ low q.places.driver ∷ high q.places.driver
    ∷ low q.places.device ∷ high q.places.device
    ∷ low q.last ∷ high q.last
    ∷ low (q.used % 18446744073709551616) ∷ high (q.used % 18446744073709551616)
    ∷ low (q.used / 18446744073709551616) ∷ high (q.used / 18446744073709551616)
    ∷ []

abbrev pub queue_words : Option RestingQueue → List ℕ
queue_words o = ready_number o ∷ place_words (unwrap_or o no_queue)

-- the words of a device of this guest
abbrev pub words_of : (guests guest : ℕ) → Setup → RestingDevice → List ℕ
words_of guests guest s it =
    header_words guests guest s ++ (register_words it.registers ++ queue_words it.queue)
