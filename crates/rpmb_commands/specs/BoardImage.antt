-- What is found of the image of a board.
use Rattle.std.specs.Prelude.{◌≡◌, ◌==◌, if◌then◌else◌, ℕ, List, slice_index}
use Rattle.intent_slots.specs.Header.{HasCapacities, HasMagic}
use Rattle.intent_slots.specs.Layout.{image_length}

-- a file of this length begins with these bytes as an image of these capacities does; its version
-- is 2 where the byte behind the header's first sector says so, else 1
pub record IsImageOf (capacities front : List ℕ) (len version : ℕ) : Type 0 where
  pub magic : HasMagic (λ k. slice_index front k)
  pub board : HasCapacities capacities (λ k. slice_index front k)
  pub whole : len ≡ image_length capacities
  pub version_is : version ≡ (if slice_index front 512 == 2 then 2 else 1)
