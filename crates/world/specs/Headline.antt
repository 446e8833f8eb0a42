-- The headline: whatever happens to a world, each opening that succeeds gives every guest its
-- partition after a prefix of the requests that were accepted, which holds all that any published
-- reply has shown. So no counter that a guest saw goes back, and no write of several blocks is half
-- there.
use Rattle.std.specs.Prelude.{◌≡◌, ℕ, ◌+◌, ◌<◌, ◌≤◌, List, [], ◌∷◌, ◌++◌, length, slice_get, Option}
use Rattle.std.specs.Prelude.{Some}
use Rattle.rpmb_frame.specs.Request.{Request}
use Rattle.rpmb_frame.specs.Partition.{sequence}
use Rattle.rpmb_core.specs.Requests.{partition_after_all}
use Rattle.disk.specs.CutDisk.{CutState}
use Rattle.rpmb_book.specs.Guest.{GuestState}
use Rattle.board.specs.State.{BoardState, guests}
use Rattle.world.specs.declared.event.Event.{Event}
use Rattle.world.specs.declared.event.Event.TheVariants as event
use Rattle.world.specs.declared.event.Refusal.{Refusal}
use Rattle.world.specs.declared.home.Home.{Home}
use Rattle.world.specs.declared.home.Home.TheVariants.{Up, Down}
use Rattle.world.specs.declared.log.Publication.{Publication}
use Rattle.world.specs.World.{Runs, WorldState}
use Rattle.world.specs.Kept.{IsConsistent}

-- each guest has the partition after its accepted requests, one after another
pub record Gives (w : WorldState) (b : BoardState CutState) : Type 0 where
  pub each : (g : ℕ) (x : GuestState) → slice_get (guests b) g ≡ Some x
      → x.core.partition ≡ partition_after_all (w.bases g) (w.accepted g)

-- At every moment of an open world.
abbrev pub GivesAt : WorldState → Home → Type 0
GivesAt w (Up b) = Gives w b
GivesAt w (Down d) = Unit {0}

-- Of an opening: what is accepted from then on is a prefix of what was, and it holds every need of
-- every reply that was published in any life: the sequence up to which requests had to be settled
-- before the reply left.
pub record Holds (old new : WorldState) (b : BoardState CutState) : Type 0 where
  pub gives : Gives new b
  pub prefix : (g : ℕ) → (rest : List Request) × (old.accepted g ≡ new.accepted g ++ rest)
  pub holds : (g k : ℕ) (p : Publication) → g < length old.config
      → slice_get (old.published g) k ≡ Some p
      → p.need ≤ sequence (new.bases g) + length (new.accepted g)
  pub published : new.published ≡ old.published

-- an event that opened the world anew
abbrev pub HoldsAt : WorldState → WorldState → Home → Type 0
HoldsAt old new (Up b) = Holds old new b
HoldsAt old new (Down d) = Unit {0}

abbrev pub Headline : WorldState → Event → WorldState → Type 0
Headline old (event.Do s) new = GivesAt new new.home
Headline old (event.Fail k) new = GivesAt new new.home
Headline old (event.Stop filler) new = HoldsAt old new new.home
Headline old (event.StopIn filler) new = HoldsAt old new new.home
Headline old event.Open new = HoldsAt old new new.home
Headline old (event.Upgrade stop) new = HoldsAt old new new.home

-- at each event of a run
abbrev pub AllHeadlines : (old : WorldState) (es : List Event) (told : Option Refusal)
    (new : WorldState) → Runs old es told new → Type 0
AllHeadlines old [] told new run = Unit {0}
AllHeadlines old (e ∷ es) told new run =
    Headline old e run.mid × AllHeadlines run.mid es run.later new run.rest

-- For every list of events, from every world that began as a disk alone.
abbrev pub HeadlineOfRuns : Type 0
HeadlineOfRuns = (old new : WorldState) (events : List Event) (told : Option Refusal)
    → IsConsistent old → (run : Runs old events told new)
    → AllHeadlines old events told new run × IsConsistent new
