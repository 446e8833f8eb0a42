-- Bytes that aren't whole blocks.
use Rattle.std.specs.Prelude.{ℕ, ◌-◌, ◌%◌, ◌++◌, nat_le, if◌then◌else◌, List, length, replicate}
use Rattle.std.specs.Prelude.{slice_range, Option, Some, None}

-- the bytes that a last block of 256 lacks
abbrev pub lacking : ℕ → ℕ
lacking n = (256 - n % 256) % 256

-- with zeros in their place
abbrev pub padded : List ℕ → List ℕ
padded bytes = bytes ++ replicate (lacking (length bytes)) 0

-- the first bytes, where there are so many
abbrev pub cut : ℕ → List ℕ → Option (List ℕ)
cut count bytes = if nat_le count (length bytes) then Some (slice_range bytes 0 count) else None
