-- What holds of a world between two events.
use Rattle.std.specs.Prelude.{◌≡◌, ◌⊎◌, ℕ, ◌<◌, ◌≤◌, [], length, slice_get, Some}
use Rattle.intent_slots.specs.Recovered.{Part}
use Rattle.disk.specs.CutDisk.{CutState, cut_state}
use Rattle.rpmb_book.specs.Guest.{GuestState}
use Rattle.board.specs.State.{BoardState, guests}
use Rattle.board.specs.Board.{IsLinkedBoard, LeavesPrefixes}
use Rattle.board.specs.Opening.{AreRequests}
use Rattle.world.specs.declared.home.Home.{Home}
use Rattle.world.specs.declared.home.Home.TheVariants.{Up, Down}
use Rattle.world.specs.declared.log.Publication.{Publication}
use Rattle.world.specs.World.{WorldState}

-- requests that the guests' bases accept
abbrev pub AllRequests : WorldState → Type 0
AllRequests w = (g : ℕ) → g < length w.config → AreRequests w.config g (w.bases g) (w.accepted g)

-- An open world: its board is linked to what was accepted, and no reply that was published needs
-- more than is settled.
pub record IsOpen (w : WorldState) (b : BoardState CutState) : Type 0 where
  pub parts : ℕ → Part
  pub linked : IsLinkedBoard cut_state w.config w.bases w.accepted parts b
  pub requests : AllRequests w
  pub needs : (g k : ℕ) (p : Publication) (x : GuestState) → slice_get (w.published g) k ≡ Some p
      → slice_get (guests b) g ≡ Some x → p.need ≤ x.settled

-- A closed world that was open: every stop leaves prefixes that hold what every published reply
-- needs.
pub record IsClosed (w : WorldState) (d : CutState) : Type 0 where
  pub least : ℕ → ℕ
  pub leaves : LeavesPrefixes w.config w.bases w.accepted least (cut_state d)
  pub requests : AllRequests w
  pub needs : (g k : ℕ) (p : Publication) → g < length w.config
      → slice_get (w.published g) k ≡ Some p → p.need ≤ least g

-- A world that wasn't opened yet: nothing was accepted, popped or published.
pub record IsNew (w : WorldState) : Type 0 where
  pub accepted : (g : ℕ) → w.accepted g ≡ []
  pub published : (g : ℕ) → w.published g ≡ []
  pub popped : (g : ℕ) → w.popped g ≡ []
  pub openings : w.openings ≡ 0

pub record WasOpened (w : WorldState) (d : CutState) : Type 0 where
  pub closed : IsClosed w d
  pub openings : 0 < w.openings

abbrev pub IsConsistentAt : WorldState → Home → Type 0
IsConsistentAt w (Up b) = IsOpen w b × (0 < w.openings)
IsConsistentAt w (Down d) = IsNew w ⊎ WasOpened w d

abbrev pub IsConsistent : WorldState → Type 0
IsConsistent w = IsConsistentAt w w.home
