-- The bytes of a memory, as a list: the byte at an address is the one at that index.
use Rattle.std.specs.Prelude.{◌≡◌, ℕ, ◌+◌, ◌≤◌, ◌<◌, ◌⊎◌, ◌&&◌, Bool, true, false, nat_le}
use Rattle.std.specs.Prelude.{if◌then◌else◌, List, [], ◌∷◌, ◌++◌, length, take, drop}
use Rattle.std.specs.List.{list_any}
use Rattle.guest_memory.specs.declared.ask.Ask.{Ask}

-- the `count` bytes from `at` on
abbrev pub bytes_at : List ℕ → ℕ → ℕ → List ℕ
bytes_at memory at count = take count (drop at memory)

-- the memory with these bytes in place of those from `at` on
abbrev pub with_bytes : List ℕ → ℕ → List ℕ → List ℕ
with_bytes memory at bytes = take at memory ++ bytes ++ drop (at + length bytes) memory

-- the `count` bytes from `at` on lie in the memory
abbrev pub IsInside : List ℕ → ℕ → ℕ → Type 0
IsInside memory at count = at + count ≤ length memory

-- what a write does: the range then reads as the bytes that were written, and each range apart from
-- it reads as before
pub record Wrote (old : List ℕ) (at : ℕ) (bytes : List ℕ) (new : List ℕ) : Type 0 where
  pub size : length new ≡ length old
  pub same : bytes_at new at (length bytes) ≡ bytes
  pub apart : (start count : ℕ) → (start + count ≤ at) ⊎ (at + length bytes ≤ start)
      → bytes_at new start count ≡ bytes_at old start count

-- a part of a memory
pub record Span : Type 0 where
  pub at : ℕ
  pub len : ℕ

-- A guest's memory as its device knows it.
pub record Known : Type 0 where
  -- what it holds: each byte as the device was told it last, or wrote it
  pub bytes : List ℕ
  -- whether the device has to ask for what it has no copy of
  pub asks : Bool
  -- the parts of which it has a copy
  pub held : List Span

-- so many bytes from this address on lie in the part
abbrev pub has_part : ℕ → ℕ → Span → Bool
has_part at len span = nat_le span.at at && nat_le (at + len) (span.at + span.len)

-- the device has a copy of these bytes, in one piece
unfoldable pub holds : Known → ℕ → ℕ → Bool
holds memory at len = list_any (has_part at len) memory.held

abbrev pub IsHeld : Known → ℕ → ℕ → Type 0
IsHeld memory at len = holds memory at len ≡ true

-- the copies that are left where all are forgotten: that of a whole memory, which isn't asked for
abbrev pub kept : Known → List Span
kept memory = if memory.asks then [] else memory.held

-- a memory of which its device has a copy, whole
abbrev pub IsWhole : Known → Type 0
IsWhole memory = memory.held ≡ record { at = 0; len = length memory.bytes } ∷ []

-- all of it is there
abbrev pub whole : List ℕ → Known
whole bytes = record {
  bytes = bytes;
  asks = false;
  held = record
      { at = 0; len = length bytes } ∷ [];
}

-- the memory after these bytes were told: a memory that asks has a copy of them, behind the others
abbrev pub told : Known → ℕ → List ℕ → Known
told memory at bytes = record {
  bytes = with_bytes memory.bytes at bytes;
  asks = memory.asks;
  held = if memory.asks then memory.held ++ record { at = at; len = length bytes } ∷ [] else
      memory.held;
}

-- What is asked for: some bytes of the guest's memory, of which there is no copy.
pub record IsAsk (memory : Known) (ask : Ask) : Type 0 where
  pub some : 0 < ask.len
  pub inside : IsInside memory.bytes ask.at ask.len
  pub absent : holds memory ask.at ask.len ≡ false
