-- Copies of parts of a guest's memory.
use Rattle.std.specs.Prelude.{◌≡◌, ◌≤◌, ◌<◌, ◌+◌, ◌&&◌, ℕ, Bool, false, nat_le, List, [], ◌∷◌}
use Rattle.std.specs.Prelude.{length, map, get_or}
use Rattle.guest_memory.specs.Memory.{bytes_at, Span}
use Rattle.guest_memory.specs.declared.piece.Piece.{Piece}

-- so many bytes from this address on lie in the piece
abbrev pub lies_in : ℕ → ℕ → Piece → Bool
lies_in at len piece = nat_le piece.at at && nat_le (at + len) (piece.at + length piece.bytes.items)

-- the piece is a copy of its part of the memory
pub record IsCopy (memory : List ℕ) (piece : Piece) : Type 0 where
  pub inside : piece.at + length piece.bytes.items ≤ length memory
  pub same : piece.bytes.items ≡ bytes_at memory piece.at (length piece.bytes.items)

-- the part that a piece copies
abbrev pub span_of : Piece → Span
span_of piece = record { at = piece.at; len = length piece.bytes.items }

-- the pieces from one place on, and below another, are copies
abbrev pub AreCopies : List ℕ → ℕ → ℕ → List Piece → Type 0
AreCopies memory from to pieces =
    (k : ℕ) (d : Piece) → from ≤ k → k < to → IsCopy memory (get_or pieces k d)

-- the pieces from a place on stay
abbrev pub StayFrom : ℕ → List Piece → List Piece → Type 0
StayFrom from old new = (k : ℕ) (d : Piece) → from ≤ k → get_or new k d ≡ get_or old k d

-- What a memory keeps: each piece is a copy, and one of them is all of the memory where it doesn't
-- ask.
pub record IsMemory (size : ℕ) (asks : Bool) (pieces : List Piece) (bytes : List ℕ) : Type 0 where
  pub length_is : length bytes ≡ size
  pub fits : size < 18446744073709551616
  pub copies : AreCopies bytes 0 (length pieces) pieces
  pub whole : asks ≡ false → map span_of pieces ≡ record { at = 0; len = size } ∷ []
