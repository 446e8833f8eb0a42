-- What a world's records say, and the room that they have.
use Rattle.std.specs.Prelude.{◌≡◌, ℕ, ◌+◌, ◌≤◌, ◌<◌, List, [], length, map, slice_get, Option, Some}
use Rattle.std.specs.Prelude.{None, is_some, true}
use Rattle.rpmb_frame.specs.Limits.{limits_of}
use Rattle.rpmb_frame.specs.Partition.{Partition}
use Rattle.rpmb_frame.specs.Request.{Request, request}
use Rattle.rpmb_frame.specs.declared.config.GuestConfig.{GuestConfig}
use Rattle.disk.specs.CutDisk.{fresh}
use Rattle.mmio_transport.specs.Job.{Done}
use Rattle.rpmb_book.specs.Guest.{GuestState}
use Rattle.board.specs.State.{guests, in_place}
use Rattle.board.specs.Opening.{bases_of}
use Rattle.world.specs.Logs.{Asked, GuestLog}
use Rattle.world.specs.World.{WorldState}
use Rattle.world.specs.declared.home.Home.{Home}
use Rattle.world.specs.declared.home.Home.TheVariants.{Up, Down}
use Rattle.world.specs.declared.log.Pop.{Pop}
use Rattle.world.specs.declared.log.Publication.{Publication}
use Rattle.world.specs.declared.stage.Stage.{Stage}

-- what a guest of this configuration asked
abbrev pub asked_by : GuestConfig → Asked → Request
asked_by c a = request a.request a.writable (limits_of c)

abbrev pub accepted_of : Option GuestConfig → Option GuestLog → List Request
accepted_of None log = []
accepted_of (Some c) None = []
accepted_of (Some c) (Some log) = map (asked_by c) log.accepted

abbrev pub accepted_in : List GuestConfig → List GuestLog → ℕ → List Request
accepted_in config logs g = accepted_of (slice_get config g) (slice_get logs g)

abbrev pub published_of : Option GuestLog → List Publication
published_of None = []
published_of (Some log) = log.published

abbrev pub published_in : List GuestLog → ℕ → List Publication
published_in logs g = published_of (slice_get logs g)

abbrev pub popped_of : Option GuestLog → List Pop
popped_of None = []
popped_of (Some log) = log.popped

abbrev pub popped_in : List GuestLog → ℕ → List Pop
popped_in logs g = popped_of (slice_get logs g)

-- What contracts see of a world.
pub record WorldView : Type 0 where
  pub config : List GuestConfig
  pub home : Home
  -- of each guest, from the first opening on
  pub bases : List Partition
  pub logs : List GuestLog
  pub openings : ℕ

-- the world that is seen
abbrev pub world_of : WorldView → WorldState
world_of v = record {
  config = v.config;
  home = v.home;
  bases = bases_of v.bases;
  accepted = accepted_in v.config v.logs;
  published = published_in v.logs;
  popped = popped_in v.logs;
  openings = v.openings;
}

-- within an event there may be no board and no disk
abbrev pub home_of : Option Home → Home
home_of None = Down (fresh [])
home_of (Some home) = home

abbrev pub seen_of : Stage → WorldView
seen_of s = record {
  config = s.config;
  home = home_of s.home;
  bases = s.bases.items;
  logs = s.logs.items;
  openings = s.openings;
}

-- how many replies lie in a place
abbrev pub count_of : Option Done → ℕ
count_of None = 0
count_of (Some done) = 1

-- there is room for the publication of each reply that the guest waits for
pub record HasRoom (log : GuestLog) (x : GuestState) (done : Option (Option Done)) : Type 0 where
  pub few : length x.held ≤ 64
  pub room : length log.published + length x.held + count_of (in_place done) ≤ log.room

abbrev pub HaveRoom : Home → List GuestLog → Type 0
HaveRoom (Up b) logs = (g : ℕ) (log : GuestLog) (x : GuestState) → slice_get logs g ≡ Some log
    → slice_get (guests b) g ≡ Some x → HasRoom log x (slice_get b.dones g)
HaveRoom (Down d) logs =
    (g : ℕ) (log : GuestLog) → slice_get logs g ≡ Some log → length log.published ≤ log.room

-- What holds of the parts besides what the world shows: of a world that was opened, a base and a
-- log for each guest; and room in the logs.
pub record IsFitWith (home : Home) (s : Stage) : Type 0 where
  pub based : 0 < s.openings → length s.bases.items ≡ length s.config
  pub unbased : s.openings ≡ 0 → s.bases.items ≡ []
  pub many : 0 < s.openings → length s.logs.items ≡ length s.config
  pub room : HaveRoom home s.logs.items

pub record IsFit (s : Stage) : Type 0 where
  pub there : is_some s.home ≡ true
  pub fits : IsFitWith (home_of s.home) s
