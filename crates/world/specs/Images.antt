-- An image of a board stays one through every event, so none of its openings and upgrades is
-- refused for what it holds.
use Rattle.std.specs.Prelude.{◌≡◌, ◌≤◌, List, [], ◌∷◌, length, Option, Some}
use Rattle.disk.specs.Content.{Content}
use Rattle.disk.specs.CutDisk.{cut_state}
use Rattle.disk.specs.Disk.{MayLeave}
use Rattle.intent_slots.specs.Layout.{capacities_of}
use Rattle.recovery.specs.Opening.{IsImage}
use Rattle.recovery.specs.declared.fault.OpenFault.TheVariants as open_fault
use Rattle.world.specs.declared.event.Event.{Event}
use Rattle.world.specs.declared.event.Event.TheVariants as event
use Rattle.world.specs.declared.event.Refusal.{Refusal}
use Rattle.world.specs.declared.event.Refusal.TheVariants as refusal
use Rattle.world.specs.World.{Happens, Runs, WorldState, disk_of}

-- whatever a stop leaves of the world's disk is an image of its board, which has at most 64 guests
pub record HasImage (w : WorldState) : Type 0 where
  pub few : length w.config ≤ 64
  pub leaves : (c : Content) → MayLeave (cut_state (disk_of w.home)) c
      → IsImage (capacities_of w.config) (length (disk_of w.home).seen) c

-- no opening and no upgrade was refused as one of no image, or of another board's
pub record IsKnown (told : Option Refusal) : Type 0 where
  pub formatted : ¬ (told ≡ Some (refusal.Open open_fault.NotFormatted))
  pub same : ¬ (told ≡ Some (refusal.Open open_fault.OtherConfig))
  pub upgrade_formatted : ¬ (told ≡ Some (refusal.Upgrade open_fault.NotFormatted))
  pub upgrade_same : ¬ (told ≡ Some (refusal.Upgrade open_fault.OtherConfig))

-- of an upgrade's event the opening wasn't either, also where the upgrade's own refusal is told
abbrev pub IsKnownAt : (old : WorldState) (e : Event) (told : Option Refusal) (new : WorldState)
    → Happens old e told new → Type 0
IsKnownAt old (event.Do s) told new h = IsKnown told
IsKnownAt old (event.Fail k) told new h = IsKnown told
IsKnownAt old (event.Stop filler) told new h = IsKnown told
IsKnownAt old (event.StopIn filler) told new h = IsKnown told
IsKnownAt old event.Open told new h = IsKnown told
IsKnownAt old (event.Upgrade stop) told new h = IsKnown told × IsKnown h.opened

-- at each event of a run
abbrev pub AllKnown : (old : WorldState) (es : List Event) (told : Option Refusal)
    (new : WorldState) → Runs old es told new → Type 0
AllKnown old [] told new run = Unit {0}
AllKnown old (e ∷ es) told new run =
    IsKnownAt old e run.first.one run.mid run.first.happens
    × AllKnown run.mid es run.later new run.rest
