-- What is saved of a device is what is read of its words.
use Rattle.std.proofs.Common.{◌≡◌, refl, ap, ◌∙◌, ℕ, ◌+◌, ◌*◌, ◌/◌, ◌%◌, ◌<◌, Bool, true, false}
use Rattle.std.proofs.Common.{not, ◌==◌, ◌&&◌, Option, Some, None, arith}
use Rattle.mmio_transport.specs.declared.ring_kind.RingKind.{RingKind}
use Rattle.mmio_transport.specs.declared.ring_kind.RingKind.TheVariants.{Split, Packed}
use Rattle.std.specs.Prelude.{if◌then◌else◌}
use Rattle.std.proofs.lemmas.Bool.{eq-eqb}
use Rattle.mmio_transport.specs.declared.registers.Registers.{Registers}
use Rattle.mmio_transport.specs.Resting.{MayGoOn}
use Rattle.mmio_transport.specs.declared.saving.RestingDevice.{RestingDevice}
use Rattle.mmio_transport.specs.declared.saving.RestingQueue.{RestingQueue}
use Rattle.machine.specs.State.{flag_number, is_of, is_state, low, high, words_of, device_in}
use Rattle.machine.specs.State.{registers_in, resting_in, queue_in, kind_number}
use Rattle.machine.specs.declared.settings.Setup.{Setup}

flag_back : (b : Bool) → not (flag_number b == 0) ≡ b
flag_back true = refl
flag_back false = refl

kind_back : (k : RingKind) → (if kind_number k == 1 then Split else Packed) ≡ k
kind_back Split = refl
kind_back Packed = refl

halves : (n : ℕ) → low n + 4294967296 * high n ≡ n
halves n = omega (arith)

pub whole : (guests guest : ℕ) (s : Setup) (it : RestingDevice)
    → is_state (words_of guests guest s it) ≡ true
unfolding is_state
whole guests guest s it = refl

same : (n : ℕ) → (n == n) ≡ true
same n = eq-eqb n n refl

both : (a b : Bool) → a ≡ true → b ≡ true → (a && b) ≡ true
both true true x y = refl
both true false x y = y
both false b x y = x

pub its : (guests guest : ℕ) (s : Setup) (it : RestingDevice)
    → is_of guests guest s (words_of guests guest s it) ≡ true
unfolding is_of
its guests guest s it =
    both _ _ (both _ _ (both _ _ (both _ _ (both _ _ (both _ _ (both _ _ (both _ _ (both _ _
    (same guests) (same guest)) (same s.config.capacity)) (same s.config.max_wr_cnt))
    (same s.config.max_rd_cnt)) (same (low s.config.memory))) (same (high s.config.memory)))
    (same (low s.withheld))) (same (high s.withheld))) (same (flag_number s.platform))

-- the registers, where each flag is read back
registers_back : (guests guest : ℕ) (s : Setup) (it : RestingDevice)
    → registers_in (words_of guests guest s it) ≡ it.registers
unfolding registers_in
registers_back guests guest s it =
    let r = it.registers in
    rw (
      flag_back r.interrupts.used_buffer,
      flag_back r.interrupts.configuration,
      flag_back r.status.acknowledge,
      flag_back r.status.driver,
      flag_back r.status.driver_ok,
      flag_back r.status.features_ok,
      flag_back r.status.needs_reset,
      flag_back r.status.failed,
    ) refl

used_back : (n : ℕ) → low (n % 18446744073709551616) + 4294967296 * high (n % 18446744073709551616)
    + 18446744073709551616 * (low (n / 18446744073709551616)
    + 4294967296 * high (n / 18446744073709551616)) ≡ n
used_back n = omega (arith)

below : (n : ℕ) → n < 65536 → n % 65536 ≡ n
below n small = omega (arith, small)

abbrev pub IsSmall : Option RestingQueue → Type 0
IsSmall None = Unit {0}
IsSmall (Some q) = q.size < 65536

-- where the queue rests, as it is read back
resting_back : (guests guest : ℕ) (s : Setup) (r : Registers) (q : RestingQueue) → q.size < 65536
    → resting_in (words_of guests guest s (record { registers = r; queue = Some q })) ≡ q
unfolding resting_in
resting_back guests guest s r q small =
    rw (
      kind_back q.kind,
      flag_back q.places.indirect,
      flag_back q.places.event_idx,
      flag_back q.places.in_order,
      halves q.places.descriptors,
      halves q.places.driver,
      halves q.places.device,
      halves q.last,
      used_back q.used,
      below q.size small,
    ) refl

some_kind : (k : RingKind) → (kind_number k == 0) ≡ false
some_kind Split = refl
some_kind Packed = refl

queue_back : (guests guest : ℕ) (s : Setup) (r : Registers) (o : Option RestingQueue)
    → IsSmall o
    → queue_in (words_of guests guest s (record { registers = r; queue = o })) ≡ o
queue_back guests guest s r None small = refl
queue_back guests guest s r (Some q) small =
    let back = resting_back guests guest s r q small in
    ap (λ b. if b then None else Some (resting_in (words_of guests guest s
    (record { registers = r; queue = Some q })))) (some_kind q.kind) ∙ ap Some back

pub device_back : (guests guest : ℕ) (s : Setup) (it : RestingDevice) → IsSmall it.queue
    → device_in (words_of guests guest s it) ≡ it
device_back guests guest s it small =
    ap (λ r. (let x : RestingDevice = record {
      registers = r;
      queue = queue_in
          (words_of guests guest s it);
    } in x))
    (registers_back guests guest s it)
    ∙ ap (λ o. (let x : RestingDevice = record { registers = it.registers; queue = o } in x))
    (queue_back guests guest s it.registers it.queue small)

-- a queue that may go on has few places
pub small_of : (bytes : ℕ) (o : Option RestingQueue) → MayGoOn bytes o → IsSmall o
small_of bytes None may = tt
small_of bytes (Some q) may = (let small = may.small in omega (arith, small))
