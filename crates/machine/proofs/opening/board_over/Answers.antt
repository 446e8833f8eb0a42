use Rattle.std.proofs.Common.{◌≡◌, true, List, ℕ, Ok, Err, Result, refl, subst, ap}
use Rattle.rpmb_frame.specs.declared.config.GuestConfig.{GuestConfig}
use Rattle.disk.specs.Disk.{DiskState}
use Rattle.disk.specs.Kept.{file_after}
use Rattle.disk.specs.OutboxDisk.{OutboxMakes, OutboxState, first_disk, outbox_state}
use Rattle.intent_slots.specs.Layout.{capacities_of}
use Rattle.recovery.specs.Opening.{Answers}
use Rattle.recovery.specs.declared.fault.OpenFault.{OpenFault}
use Rattle.board.specs.Opening.{CallsRefused, Finds}
use Rattle.board.specs.State.{BoardState}
use Rattle.machine.specs.Opening.{Answered, FindsIn, IsOpeningFault, opening_reason, read_state}
use Rattle.machine.specs.declared.fault.MachineFault.{MachineFault}
use Rattle.machine.proofs.opening.board_over.Goals as goal

-- what a disk over the bytes shows
shows_read : (image : List ℕ) (disk : OutboxState) → disk ≡ first_disk image
    → outbox_state disk ≡ read_state image
unfolding file_after
shows_read image disk is = ap outbox_state is

answers_read : {X : Type 0} (config : List GuestConfig) (image : List ℕ) (s : DiskState)
    (r : Result X OpenFault) → s ≡ read_state image
    → (s.faithful ≡ true → Answers (capacities_of config) s.len s.seen r)
    → Answers (capacities_of config) (read_state image).len (read_state image).seen r
answers_read config image s r is known =
    subst (λ (d : DiskState). d.faithful ≡ true → Answers (capacities_of config) d.len d.seen r) is
    known refl

answered : (config : List GuestConfig) (image : List ℕ) (disk left : OutboxState) (e : OpenFault)
    (f : MachineFault) → disk ≡ first_disk image → f ≡ opening_reason e
    → CallsRefused OutboxMakes disk left e
    → ((outbox_state disk).faithful ≡ true
    → Answers {X = BoardState OutboxState} (capacities_of config) (outbox_state disk).len
    (outbox_state disk).seen (Err e)) → IsOpeningFault config image f
answered config image disk left e f is told calls known =
    Answered e left told (subst (λ d. CallsRefused OutboxMakes d left e) is calls)
    (answers_read {X = BoardState OutboxState} config image (outbox_state disk) (Err e)
    (shows_read image disk is) known)

found : (config : List GuestConfig) (image : List ℕ) (disk : OutboxState)
    (b : BoardState OutboxState) → disk ≡ first_disk image
    → ((outbox_state disk).faithful ≡ true → Answers (capacities_of config) (outbox_state disk).len
    (outbox_state disk).seen (Ok b))
    → ((outbox_state disk).faithful ≡ true → Finds outbox_state config (outbox_state disk) b)
    → FindsIn config image b
found config image disk b is known finds =
    let same = shows_read image disk is in
    record {
      is_image = answers_read config image (outbox_state disk) (Ok b) same known;
      finds = subst (λ (d : DiskState). d.faithful ≡ true → Finds outbox_state config d b) same
          finds refl;
    }

pub returns-in-Ok-clause-found : goal.returns-in-Ok-clause-found
returns-in-Ok-clause-found c =
    found c.args.config.now c.args.image.now _ _ c.in_ok-disk.ensures.value c.in-Ok.ensures.answers
    c.in-Ok.ensures.found

pub returns-clause-cause : goal.returns-clause-cause
returns-clause-cause c = answered c.args.config.now c.args.image.now _ _ c.in-Err.fault _
    c.in_ok-disk.ensures.value c.of_opening.ensures.value c.in-Err.ensures.calls
    c.in-Err.ensures.answers
