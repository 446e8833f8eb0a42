-- The calls that a store still has before it, made to their end.
use Rattle.std.specs.Prelude.{ℕ, ◌≡◌, true, false, List, Some, slice_get}
use Rattle.rpmb_frame.specs.Request.{Request}
use Rattle.rpmb_frame.specs.Partition.{Partition}
use Rattle.rpmb_frame.specs.declared.config.GuestConfig.{GuestConfig}
use Rattle.disk.specs.Content.{Content}
use Rattle.disk.specs.Disk.{DiskState, MayLeave}
use Rattle.intent_slots.specs.Layout.{capacities_of, region_at}
use Rattle.intent_slots.specs.Recovered.{Stands, part_of}
use Rattle.flusher.specs.Round.{AllEmpty}
use Rattle.rpmb_book.specs.Guest.{GuestState}
use Rattle.board.specs.Board.{StaysLinked}
use Rattle.board.specs.State.{BoardState, guests}
use Rattle.queue_looks.specs.Advancing.{IsListened}
use Rattle.queue_looks.specs.Calm.{is_broken}
use Rattle.queue_looks.specs.Runner.{runner_of, runner_since}

-- What the answers to all guests depend on stays, but that a break makes all forget what was asked
-- last: so no job is answered and no request accepted, also where a call fails. But for the store,
-- its report and the book, which hears of it, nothing moves.
pub record Rests {D : Type 0} (b b' : BoardState D) : Type 0 where
  pub listened : IsListened b'
  pub others : b' ≡ record b { store = b'.store; report = b'.report; book = b'.book }
  pub whole : is_broken b' ≡ false → is_broken b ≡ false
  pub runner : runner_of b' ≡ runner_since (is_broken b) (is_broken b') (runner_of b)

-- no call is left, unless the store broke
pub record Finished {D : Type 0} (b b' : BoardState D) : Type 0 where
  pub rests : Rests b b'
  pub idle : is_broken b' ≡ false → AllEmpty b'.store.guests

-- Whatever a stop leaves of the board's disk stands, for each guest, for its partition as the book
-- has it.
abbrev pub LeavesAll : {D : Type 0} → (D → DiskState) → BoardState D → Type 0
LeavesAll shows b = (config : List GuestConfig) (bases : ℕ → Partition)
    (accepted : ℕ → List Request) → StaysLinked shows config bases accepted b
    → (shows b.store.disk).faithful ≡ true
    → (g : ℕ) (x : GuestState) → slice_get (guests b) g ≡ Some x → (c : Content)
    → MayLeave (shows b.store.disk) c
    → Stands (region_at (capacities_of config) g) c (part_of x.core.partition)
