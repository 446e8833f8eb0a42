-- What a run leaves at each moment: what its lines had accepted, what of it no stop loses any more,
-- and what they printed.
use Rattle.std.specs.Prelude.{◌≡◌, ◌≢◌, ◌⊎◌, ◌≤◌, ◌<◌, ◌+◌, ℕ, Bool, true, false, not, is_ok, List}
use Rattle.std.specs.Prelude.{[]}
use Rattle.std.specs.Prelude.{◌∷◌, ◌++◌, Option, Some, Result, Ok, Err, length, map, slice_get}
use Rattle.std.specs.Io.KnownBytes.{Appends, Keeps}
use Rattle.rpmb_frame.specs.Partition.{Partition, sequence}
use Rattle.rpmb_frame.specs.Request.{Request}
use Rattle.rpmb_frame.specs.declared.config.GuestConfig.{GuestConfig}
use Rattle.guest_driver.specs.Config.{SetupState}
use Rattle.rpmb_core.specs.Requests.{partition_after_all}
use Rattle.disk.specs.Disk.{DiskCall, DiskState, HasRisen, Within}
use Rattle.intent_slots.specs.Layout.{capacities_of}
use Rattle.mmio_transport.specs.Device.{last_count}
use Rattle.recovery.specs.Opening.{Untouched}
use Rattle.script.specs.Line.{Said, nothing, chain, said, store, reset}
use Rattle.script.specs.declared.line.Line.{Line}
use Rattle.board.specs.Board.{LeavesPrefixes, StaysLinked, marks_in}
use Rattle.board.specs.Opening.{bases_of}
use Rattle.board.specs.State.{BoardState}
use Rattle.queue_looks.specs.Calm.{IsCalm, is_broken}
use Rattle.host.specs.Host.{HostState, seen}
use Rattle.board.specs.Moving.{GoOn, KeepsHeader, Moves}
use Rattle.queue_looks.specs.Runner.{runner_of, runner_since}
use Rattle.commands.specs.Calling.{LineDone, NextFails}
use Rattle.commands.specs.Ending.{KeepsUnless, NextEnds, OpeningEnds}
use Rattle.commands.specs.Failing.{IsFailedIn, text_when, told_when}
use Rattle.commands.specs.Image.{AreOf}
use Rattle.commands.specs.Reasons.{IsHostOf, StoresInside}
use Rattle.commands.specs.Running.{AreWithin, IsAt, answered_in}
use Rattle.commands.specs.Transcript.{StoresNothing, first_told}
use Rattle.commands.specs.declared.fault.Fault.{Fault}
use Rattle.commands.specs.declared.fault.Fault.TheVariants as fault

-- Where a run stands once some of its lines are done.
pub record Moment (D : Type 0) : Type 0 where
  -- each guest's requests that were accepted since the image was opened
  pub accepted : ℕ → List Request
  -- the guests, and the board behind them
  pub host : HostState D
  -- what standard output has taken
  pub printed : Option (List ℕ)

-- each guest's sequence that no stop loses any more
abbrev pub kept_at : {D : Type 0} → Moment D → ℕ → ℕ
kept_at m = marks_in m.host.board

-- whether a call of the disk has failed
abbrev pub broken_at : {D : Type 0} → Moment D → Bool
broken_at m = m.host.board.store.broken

abbrev pub disk_at : {D : Type 0} → Moment D → D
disk_at m = m.host.board.store.disk

-- nothing more was accepted of any guest
abbrev pub AcceptNoMore : List GuestConfig → (ℕ → List Request) → (ℕ → List Request) → Type 0
AcceptNoMore board before now = (g : ℕ) → g < length board → now g ≡ before g

-- a line has requests of its own guest accepted alone, and only where it is a chain
abbrev pub AcceptsOwn : List GuestConfig → Said → (ℕ → List Request) → (ℕ → List Request) → Type 0
AcceptsOwn board nothing before now = AcceptNoMore board before now
AcceptsOwn board (chain guest readable writable) before now =
    (g : ℕ) → g < length board → g ≢ guest → now g ≡ before g
AcceptsOwn board (store guest at bytes) before now = AcceptNoMore board before now
AcceptsOwn board (reset guest) before now = AcceptNoMore board before now

-- From one moment to a later one: what was accepted goes on, and at each moment between the two
-- every stop leaves, for each guest, the partition after a prefix of it, with all that no stop
-- loses since the first.
pub record Leads {D : Type 0} (shows : D → DiskState) (makes : D → DiskCall → D → Type 0)
    (board : List GuestConfig) (partitions : List Partition) (m n : Moment D) : Type 0 where
  pub more : GoOn m.accepted n.accepted
  pub moments : (shows (disk_at m)).faithful ≡ true
      → Within shows makes (LeavesPrefixes board (bases_of partitions) n.accepted (kept_at m))
      (disk_at m) (disk_at n)
  pub faithful : (shows (disk_at n)).faithful ≡ (shows (disk_at m)).faithful
  pub kept : (g : ℕ) → kept_at m g ≤ kept_at n g
  pub whole : broken_at n ≡ false → broken_at m ≡ false
  pub cause : broken_at n ≡ true
      → (broken_at m ≡ true) ⊎ HasRisen (shows (disk_at m)).failures (shows (disk_at n)).failures

-- What the lines done have printed, and what the accepted requests make of each partition, are what
-- the script says, by the line in which a call of the disk failed first. Each guest is ready then.
pub record IsTold {D : Type 0} (board : List GuestConfig) (partitions : List Partition)
    (start : Option (List ℕ)) (done : List Said) (m : Moment D) : Type 0 where
  pub failed : Option ℕ
  pub known : IsFailedIn (broken_at m) failed done
  pub printed : Appends start m.printed (text_when failed (first_told board partitions) done)
  pub at : IsAt (length done) (told_when failed (first_told board partitions) done) (seen m.host)
  pub few : length done + 2 < last_count
  pub answered : (seen m.host).runner.answered ≡ answered_in done
  pub after : (g : ℕ) (p : Partition)
      → slice_get (map (λ c. c.partition)
      (told_when failed (first_told board partitions) done).cores) g ≡ Some p
      → p ≡ partition_after_all (bases_of partitions g) (m.accepted g)

-- Between two lines: what was accepted is what the board's book has accepted of each guest, one
-- request after another, and no guest waits for a reply; while no call of the disk has failed, no
-- stop loses anything of it; and where no line so far stored into guest memory, all is as the
-- script says.
pub record IsDone {D : Type 0} (shows : D → DiskState) (setup : SetupState)
    (partitions : List Partition) (start : Option (List ℕ)) (done : List Said) (m : Moment D)
    : Type 0 where
  pub tied : StaysLinked shows setup.board (bases_of partitions) m.accepted m.host.board
  pub calm : IsCalm shows m.host.board
  pub guests : IsHostOf setup (seen m.host)
  pub kept : broken_at m ≡ false → (g : ℕ) → g < length setup.board
      → sequence (bases_of partitions g) + length (m.accepted g) ≤ kept_at m g
  pub told : StoresNothing done → IsTold setup.board partitions start done m

-- The lines of a script that are done, one after another: each made its call of the host, with that
-- call's calls of the disk, and then it printed. No store of theirs lay outside its guest's memory.
pub data Trail {D : Type 0} (shows : D → DiskState) (makes : D → DiskCall → D → Type 0)
    (setup : SetupState) (partitions : List Partition) (start : Option (List ℕ))
    (first : Moment D) : List Said → Moment D → Type 0 where
  Begun : IsDone shows setup partitions start [] first
      → Trail shows makes setup partitions start first [] first
  Went : (done : List Said) (line : Said) (m n : Moment D)
      → Trail shows makes setup partitions start first done m
      → LineDone line m.host m.printed n.printed n.host → StoresInside setup.board line
      → AcceptsOwn setup.board line m.accepted n.accepted
      → Leads shows makes setup.board partitions m n
      → IsDone shows setup partitions start (done ++ line ∷ []) n
      → Trail shows makes setup partitions start first (done ++ line ∷ []) n

-- of which guest the next of the lines left had requests accepted
abbrev pub NextAccepts : List GuestConfig → List Said → (ℕ → List Request) → (ℕ → List Request)
    → Type 0
NextAccepts board [] before now = ⊥
NextAccepts board (line ∷ rest) before now = AcceptsOwn board line before now

-- The next of the lines left came to this fault, for a reason, by what the host's call did.
pub record StopsAt {D : Type 0} (board : List GuestConfig) (f : Fault) (rest : List Said)
    (last after : Moment D) : Type 0 where
  pub reason : NextEnds board (seen after.host).runner.answered f rest
  pub call : NextFails rest last.host f after.host
  pub accepts : NextAccepts board rest last.accepted after.accepted

-- How the lines of a run ended: with the last one, and then nothing more is accepted, and whether a
-- call of the disk has failed by the end says which status the run has; or with one that came to a
-- fault, for a reason, and printed nothing; or in one of these ways, and standard output took no
-- more.
abbrev pub MayEnd : {D : Type 0} → List GuestConfig → Result (Unit {0}) Fault → List Said → Moment D
    → Moment D → Option (List ℕ) → Type 0
MayEnd board (Ok done) rest last after now =
    (rest ≡ []) × Keeps last.printed now × (broken_at after ≡ false)
    × AcceptNoMore board last.accepted after.accepted
MayEnd board (Err fault.DiskFault) rest last after now =
    (rest ≡ []) × Keeps last.printed now × (broken_at after ≡ true)
    × AcceptNoMore board last.accepted after.accepted
MayEnd board (Err fault.FileFault) rest last after now =
    ((rest ≡ []) × AcceptNoMore board last.accepted after.accepted)
    ⊎ ((f : Fault) × StopsAt board f rest last after)
MayEnd board (Err f) rest last after now = StopsAt board f rest last after × Keeps last.printed now

-- The moments of a run over an image: those of its opening, which leaves all as it was; those of
-- its lines; and those after the last line that was done. At each of them the header is as it was.
pub record WholeRun {D : Type 0} (shows : D → DiskState) (makes : D → DiskCall → D → Type 0)
    (setup : SetupState) (all : List Said) (old : D) (start : Option (List ℕ))
    (ended : Result (Unit {0}) Fault) (new : D) (now : Option (List ℕ)) : Type 0 where
  pub partitions : List Partition
  pub of_image : AreOf setup.board (shows old) partitions
  pub first : Moment D
  pub opening : Within shows makes (Untouched (shows old)) old (disk_at first)
  pub none : (g : ℕ) → first.accepted g ≡ []
  pub whole : broken_at first ≡ false
  pub silent : first.printed ≡ start
  -- each guest is ready, on its partition of the image
  pub ready : IsAt 0 (first_told setup.board partitions) (seen first.host)
  pub answered : (seen first.host).runner.answered ≡ 0
  pub done : List Said
  pub rest : List Said
  pub parts : all ≡ done ++ rest
  pub last : Moment D
  pub trail : Trail shows makes setup partitions start first done last
  pub after : Moment D
  pub leads : Leads shows makes setup.board partitions last after
  -- what is accepted by then is what the book has, too
  pub tied : StaysLinked shows setup.board (bases_of partitions) after.accepted after.host.board
  pub disk : new ≡ disk_at after
  pub header : KeepsHeader shows makes old new
  pub cause : broken_at after ≡ true → HasRisen (shows old).failures (shows new).failures
  pub ends : MayEnd setup.board ended rest last after now

-- what an image that isn't opened leaves
pub record IsRefused {D : Type 0} (shows : D → DiskState) (makes : D → DiskCall → D → Type 0)
    (board : List GuestConfig) (old : D) (start : Option (List ℕ)) (ended : Result (Unit {0}) Fault)
    (new : D)
    (now : Option (List ℕ)) : Type 0 where
  pub fault : Fault
  pub is : ended ≡ Err fault
  pub reason : OpeningEnds (capacities_of board) (shows old) (shows new) fault
  pub moments : Within shows makes (Untouched (shows old)) old new
  pub silent : Keeps start now

-- Each moment of a run, of lines that were read.
abbrev pub AnyMoment : {D : Type 0} → (D → DiskState) → (D → DiskCall → D → Type 0)
    → SetupState → List Said → D → Option (List ℕ) → Result (Unit {0}) Fault → D
    → Option (List ℕ) → Type 0
AnyMoment shows makes setup all old start ended new now =
    IsRefused shows makes setup.board old start ended new now
    ⊎ WholeRun shows makes setup all old start ended new now

-- 1. Within a run

-- where a run stands whose host is this one
abbrev pub moment_of : {D : Type 0} → (ℕ → List Request) → HostState D → Option (List ℕ) → Moment D
moment_of accepted h printed = record { accepted = accepted; host = h; printed = printed }

-- a host of an image that was just opened, before the first line
pub record Starts {D : Type 0} (shows : D → DiskState) (setup : SetupState)
    (partitions : List Partition) (h : HostState D) : Type 0 where
  pub calm : IsCalm shows h.board
  pub whole : h.board.store.broken ≡ false
  pub linked : StaysLinked shows setup.board (bases_of partitions) (λ g. []) h.board
  pub ready : IsAt 0 (first_told setup.board partitions) (seen h)
  pub answered : (seen h).runner.answered ≡ 0
  pub host : IsHostOf setup (seen h)

-- the lines before the rest are done
pub record Walked {D : Type 0} (shows : D → DiskState) (makes : D → DiskCall → D → Type 0)
    (setup : SetupState) (partitions : List Partition) (all : List Said)
    (start : Option (List ℕ)) (first : Moment D)
    (rest : List Said) (h : HostState D) (now : Option (List ℕ)) : Type 0 where
  pub accepted : ℕ → List Request
  pub done : List Said
  pub parts : all ≡ done ++ rest
  pub trail : Trail shows makes setup partitions start first done (moment_of accepted h now)

-- the lines before the rest are done, and the calls after them came to this host
pub record Stopped {D : Type 0} (shows : D → DiskState) (makes : D → DiskCall → D → Type 0)
    (setup : SetupState) (partitions : List Partition) (all : List Said)
    (start : Option (List ℕ)) (first : Moment D)
    (f : Fault) (h : HostState D) (now : Option (List ℕ)) : Type 0 where
  pub rest : List Said
  pub before : HostState D
  pub printed : Option (List ℕ)
  pub walked : Walked shows makes setup partitions all start first rest before printed
  pub moves : Moves shows makes before.board h.board
  pub silent : KeepsUnless f printed now
  pub reason : NextEnds setup.board (seen h).runner.answered f rest
  pub fails : NextFails rest before f h

-- what lines come to
abbrev pub Comes : {D : Type 0} → (D → DiskState) → (D → DiskCall → D → Type 0) → SetupState
    → List Partition → List Said → Option (List ℕ) → Moment D → Result (Unit {0}) Fault
    → HostState D → Option (List ℕ) → Type 0
Comes shows makes setup partitions all start first (Ok done) h now =
    Walked shows makes setup partitions all start first [] h now
Comes shows makes setup partitions all start first (Err f) h now =
    Stopped shows makes setup partitions all start first f h now

abbrev pub LinesCome : {D : Type 0} → (D → DiskState) → (D → DiskCall → D → Type 0) → List Line
    → HostState D → Option (List ℕ) → Result (Unit {0}) Fault → HostState D → Option (List ℕ)
    → Type 0
LinesCome shows makes read old start ended new now =
    (setup : SetupState) (partitions : List Partition) → Starts shows setup partitions old
    → AreWithin (length setup.board) read
    → Comes shows makes setup partitions (map said read) start
    (moment_of (λ g. []) old start) ended new now

-- A host's last board, and its disk. The calls went well exactly where none has failed, and are
-- told so; and what its answers depend on stayed, but for what a break makes of it.
pub record MovesTo {D : Type 0} (shows : D → DiskState) (makes : D → DiskCall → D → Type 0)
    (old : BoardState D) (ended : Result (Unit {0}) Fault) (back : D) : Type 0 where
  pub last : BoardState D
  pub moves : Moves shows makes old last
  pub disk : back ≡ last.store.disk
  pub told : is_ok ended ≡ not last.store.broken
  pub only : (f : Fault) → ended ≡ Err f → f ≡ fault.DiskFault
  pub runner : runner_of last ≡ runner_since (is_broken old) (is_broken last) (runner_of old)
