-- What looks at a guest's queue do, whatever its rings hold: a look is a pop, or takes the job that
-- lay in the guest's place; where that gives a job, it is answered, what it needs is settled, and
-- its reply is published.
use Rattle.std.specs.Prelude.{◌≡◌, ◌≢◌, ◌≤◌, ◌<◌, ◌⊎◌, ℕ, zero, suc, ◌==◌, if◌then◌else◌, Bool}
use Rattle.std.specs.Prelude.{false}
use Rattle.std.specs.Prelude.{Option, Some, None, Result, Ok, Err, length, slice_get, slice_set}
use Rattle.disk.specs.Disk.{DiskCall, DiskState}
use Rattle.chains.specs.declared.fault.ChainFault.{ChainFault}
use Rattle.mmio_transport.specs.Device.{DeviceState}
use Rattle.mmio_transport.specs.Job.{Done, Job, done_of, room_in}
use Rattle.mmio_transport.specs.Popping.{GivesJob}
use Rattle.mmio_transport.specs.Publishing.{Publishes}
use Rattle.mmio_transport.specs.declared.done.Published.{Published}
use Rattle.mmio_transport.specs.declared.fault.DeviceFault.TheVariants as device
use Rattle.board.specs.State.{BoardState}
use Rattle.queue_looks.specs.Calm.{IsCalm, is_broken}
use Rattle.queue_looks.specs.Fault.{told_of}
use Rattle.board.specs.Moving.{Moves}
use Rattle.queue_looks.specs.Runner.{RunnerView, after_when, refusal_of, reply_when, runner_of}
use Rattle.queue_looks.specs.declared.fault.HostFault.{HostFault}
use Rattle.queue_looks.specs.declared.fault.HostFault.TheVariants.{NoMemory}
use Rattle.queue_looks.specs.declared.looking.Look.{Look}
use Rattle.queue_looks.specs.declared.looking.Look.TheVariants.{Answered, Nothing, Stopped}

-- a board with another device of a guest
abbrev pub with_device : {D : Type 0} → BoardState D → ℕ → DeviceState → BoardState D
with_device b guest d = record b { devices = slice_set b.devices guest d }

-- 1. One guest's share in a board

pub record Share : Type 0 where
  pub device : DeviceState
  -- the job in its place, which the book hasn't answered
  pub job : Option Job
  -- what all answers depend on
  pub runner : RunnerView
  -- whether a call of the disk has failed
  pub broken : Bool

abbrev pub share_of : {D : Type 0} → BoardState D → DeviceState → Option Job → Share
share_of b device job =
    record { device = device; job = job; runner = runner_of b; broken = is_broken b }

pub record ShowsShare {D : Type 0} (guest : ℕ) (b : BoardState D) (s : Share) : Type 0 where
  pub at : slice_get b.devices guest ≡ Some s.device
  pub place : slice_get b.jobs guest ≡ Some s.job
  pub runner : s.runner ≡ runner_of b
  pub broken : s.broken ≡ is_broken b

-- What one guest's share in a board leaves: the board is calm, the other guests' devices and jobs
-- stay, and a board that broke stays so.
pub record Touches {D : Type 0} (shows : D → DiskState) (guest : ℕ)
    (b b' : BoardState D) : Type 0 where
  pub calm : IsCalm shows b'
  pub devices : (k : ℕ) → k ≢ guest → slice_get b'.devices k ≡ slice_get b.devices k
  pub jobs : (k : ℕ) → k ≢ guest → slice_get b'.jobs k ≡ slice_get b.jobs k
  pub many : length b'.devices ≡ length b.devices
  pub wide : length b'.jobs ≡ length b.jobs
  pub whole : is_broken b' ≡ false → is_broken b ≡ false

-- P says what became of one guest's share; all else of the board stays, but what its steps did to
-- the disk.
pub record OnShare {D : Type 0} (shows : D → DiskState) (makes : D → DiskCall → D → Type 0)
    (guest : ℕ)
    (P : Share → Share → Type 0) (b b' : BoardState D) : Type 0 where
  pub old : Share
  pub new : Share
  pub before : ShowsShare guest b old
  pub after : ShowsShare guest b' new
  pub does : P old new
  pub touches : Touches shows guest b b'
  pub moves : Moves shows makes b b'

-- 2. One look

-- the job that a look takes: the one that lay there, else what the device gives
abbrev pub FindsJob : Option Job → DeviceState → Option Job → DeviceState → Type 0
FindsJob (Some job) d taken d' = (taken ≡ Some job) × (d' ≡ d)
FindsJob None d taken d' = GivesJob d (Ok taken) d'

-- a job of this guest was answered, what it needed was settled, and its reply was published
pub record IsAnswered (guest : ℕ) (s s' : Share) : Type 0 where
  pub job : Job
  pub taken : DeviceState
  pub takes : FindsJob s.job s.device (Some job) taken
  pub own : job.guest ≡ guest
  pub done : Done
  pub reply : done ≡ done_of job (reply_when s.broken s'.broken s.runner.cores job) done.need
  pub fits : length done.reply ≤ room_in done.writable
  pub published : Published
  pub publishes : Publishes taken done published s'.device
  pub empty : s'.job ≡ None
  pub runner : s'.runner ≡ after_when s.broken s'.broken s.runner job
  pub whole : s'.broken ≡ false → s.broken ≡ false

-- the book, which has this guest, refused a job, and the job lies in its place
pub record IsRefused (guest : ℕ) (fault : HostFault) (s s' : Share) : Type 0 where
  pub job : Job
  pub takes : FindsJob s.job s.device (Some job) s'.device
  pub known : guest < length s.runner.cores
  pub cause : job.guest ≡ guest → fault ≡ told_of (refusal_of s.runner job)
  pub rest : s' ≡ record s { device = s'.device; job = Some job }

-- nothing lay there, and the device alone is another: it gave nothing, it stopped, or memory was
-- refused to it
pub record IsOnlyPopped (gives : DeviceState → DeviceState → Type 0) (s s' : Share) : Type 0 where
  pub empty : s.job ≡ None
  pub gave : gives s.device s'.device
  pub rest : s' ≡ record s { device = s'.device }

abbrev pub Stops : DeviceState → DeviceState → Type 0
Stops d d' = GivesJob d (Err device.NeedsReset) d'
    ⊎ ((why : ChainFault) × GivesJob d (Err (device.Refused why)) d')

abbrev pub Looks : ℕ → Share → Result Look HostFault → Share → Type 0
Looks guest s (Ok Nothing) s' = IsOnlyPopped (λ d d'. GivesJob d (Ok None) d') s s'
Looks guest s (Ok Stopped) s' = IsOnlyPopped Stops s s'
Looks guest s (Ok Answered) s' = IsAnswered guest s s'
Looks guest s (Err fault) s' = IsRefused guest fault s s'
    ⊎ ((fault ≡ NoMemory) × IsOnlyPopped (λ d d'. GivesJob d (Err device.NoMemory) d') s s')

-- 3. Looks one after another

-- so many looks, each of which answered a job
abbrev pub AnswerAll : ℕ → ℕ → Share → Share → Type 0
AnswerAll guest zero s s' = s' ≡ s
AnswerAll guest (suc n) s s' = (last : Share) × AnswerAll guest n s last × IsAnswered guest last s'

-- what looks come to of which so many answered a job, and the next gave none
abbrev pub found_by : ℕ → Look
found_by count = if count == 0 then Nothing else Answered

-- after so many looks that answered a job: one that gave none, or as many were made as may be
abbrev pub EndLooks : ℕ → ℕ → ℕ → Share → Result Look HostFault → Share → Type 0
EndLooks guest times count s (Ok Nothing) s' = (count ≡ 0) × Looks guest s (Ok Nothing) s'
EndLooks guest times count s (Ok Answered) s' =
    (0 < count) × (Looks guest s (Ok Nothing) s' ⊎ ((count ≡ times) × (s' ≡ s)))
EndLooks guest times count s (Ok Stopped) s' = Looks guest s (Ok Stopped) s'
EndLooks guest times count s (Err fault) s' = Looks guest s (Err fault) s'

-- looks until one gives no job, so many at most
pub record LooksOn (guest times : ℕ) (s : Share) (answer : Result Look HostFault)
    (s' : Share) : Type 0 where
  pub count : ℕ
  pub few : count ≤ times
  pub last : Share
  pub answered : AnswerAll guest count s last
  pub ends : EndLooks guest times count last answer s'
