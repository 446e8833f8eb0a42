-- The lines that `write` prints, by its words.
use Rattle.std.specs.Prelude.{ℕ, ◌≡◌, ◌≢◌, ◌⊎◌, ◌<◌, ◌≤◌, ◌+◌, ◌-◌, ◌/◌, ◌%◌, not, Bool, true}
use Rattle.std.specs.Prelude.{false}
use Rattle.std.specs.Prelude.{List, Option, None, Some, Result, Ok, Err, IfErr, IsOk, OnOk}
use Rattle.std.specs.Prelude.{length}
use Rattle.std.specs.Borrow.{Bor}
use Rattle.std.specs.Simd.{first_chunks}
use Rattle.std.specs.Io.KnownBytes.{Appends, Keeps}
use Rattle.rpmb_client.specs.Blocks.{padded}
use Rattle.rpmb_client.specs.Lines.{write_lines, writes_of}
use Rattle.rpmb_client.specs.Options.{IsWhyNoBytes}
use Rattle.rpmb_client.specs.Values.{bytes_said}
use Rattle.rpmb_client.specs.declared.lines.Writer.{Writer}
use Rattle.rpmb_commands.specs.KeySaid.{IsRefusedFor, IsWhyNoContent, IsWhyNoKeySaid, SaysKey}
use Rattle.rpmb_commands.specs.Refusing.{IsOfWriting}
use Rattle.rpmb_commands.specs.Said.{address_said, counter_said, guest_said, key_word, most_said}
use Rattle.rpmb_commands.specs.declared.refusal.Refusal.{Refusal}
use Rattle.rpmb_commands.specs.declared.refusal.Refusal.TheVariants as refusal
use Rattle.rpmb_commands.specs.declared.words.Words.{Words}

-- 1. What is to be written

-- the bytes of just one of --data and --file
abbrev pub SaysContent : (List ℕ → List ℕ → Type 0) → Option (Bor (List ℕ))
    → Option (Bor (List ℕ)) → List ℕ → Type 0
SaysContent gives (Some digits) None content = bytes_said digits.now ≡ Some content
SaysContent gives None (Some name) content = gives name.now content
SaysContent gives (Some digits) (Some name) content = ⊥
SaysContent gives None None content = ⊥

-- and why there are none
abbrev pub IsWhyNoData : Option (Bor (List ℕ)) → Option (Bor (List ℕ)) → Refusal → Type 0
IsWhyNoData (Some digits) None r = IsRefusedFor (IsWhyNoBytes digits.now) r
IsWhyNoData None (Some name) r = IsWhyNoContent name 16777216 r
IsWhyNoData (Some digits) (Some name) r = r ≡ refusal.TwoData
IsWhyNoData None None r = r ≡ refusal.NoData

-- with --pad zeros fill the last block
abbrev pub Fills : Bool → List ℕ → List ℕ → Type 0
Fills true content all = all ≡ padded content
Fills false content all = all ≡ content

abbrev pub SaysBytes : (List ℕ → List ℕ → Type 0) → Words → List ℕ → Type 0
SaysBytes gives words all =
    (content : List ℕ) × SaysContent gives words.bytes words.file content
    × Fills words.pad content all

abbrev pub IsWhyNoBytesSaid : Words → Refusal → Type 0
IsWhyNoBytesSaid words r = IsWhyNoData words.bytes words.file r ⊎ (r ≡ refusal.NoMemory)

-- bytes as blocks of 256
abbrev pub blocks_in : List ℕ → List (List ℕ)
blocks_in bytes = first_chunks 256 (length bytes / 256) bytes

-- 2. Who writes

-- whose lines they are, from where on, and whether each asks for its result
pub record IsWriter (gives : List ℕ → List ℕ → Type 0) (words : Words) (writer : Writer)
    : Type 0 where
  pub guest : guest_said words ≡ Ok writer.guest
  pub key : SaysKey gives (key_word words) writer.key
  pub counter : counter_said words ≡ Ok writer.counter
  pub address : address_said words ≡ Ok writer.address
  pub asks : writer.asks ≡ not words.no_result

-- why there is none: the first of these that is so
pub data IsWhyNoWriter (gives : List ℕ → List ℕ → Type 0) (words : Words) (r : Refusal)
    : Type 0 where
  writer_guest : guest_said words ≡ Err r → IsWhyNoWriter gives words r
  writer_key : IsOk (guest_said words) → IsWhyNoKeySaid gives (key_word words) r
      → IsWhyNoWriter gives words r
  writer_counter : IsOk (guest_said words) → (key : List ℕ) → SaysKey gives (key_word words) key
      → counter_said words ≡ Err r → IsWhyNoWriter gives words r
  writer_address : IsOk (guest_said words) → (key : List ℕ) → SaysKey gives (key_word words) key
      → IsOk (counter_said words) → address_said words ≡ Err r → IsWhyNoWriter gives words r

-- 3. The lines

-- whole blocks, at least one
abbrev pub AreWhole : List ℕ → Type 0
AreWhole bytes = (256 ≤ length bytes) × (length bytes % 256 ≡ 0)

abbrev pub AreNotWhole : List ℕ → Type 0
AreNotWhole bytes = (length bytes < 256) ⊎ (length bytes % 256 ≢ 0)

-- the number behind the last address, and behind the last write counter
abbrev pub address_end : Writer → List ℕ → ℕ
address_end writer bytes = writer.address + length bytes / 256

abbrev pub counter_end : Writer → ℕ → List ℕ → ℕ
counter_end writer most bytes = writer.counter + writes_of most (length bytes / 256)

pub record Fits (writer : Writer) (most : ℕ) (bytes : List ℕ) : Type 0 where
  pub whole : AreWhole bytes
  pub inside : address_end writer bytes ≤ 65536
  pub counted : counter_end writer most bytes ≤ 4294967296

-- how bytes are refused that don't: the first that is so
pub data FitsNot (writer : Writer) (most : ℕ) (bytes : List ℕ) (r : Refusal) : Type 0 where
  not_whole : AreNotWhole bytes → r ≡ refusal.BadData (length bytes)
      → FitsNot writer most bytes r
  past_end : AreWhole bytes → 65536 < address_end writer bytes
      → r ≡ refusal.PastEnd (address_end writer bytes - 1) → FitsNot writer most bytes r
  past_counter : AreWhole bytes → address_end writer bytes ≤ 65536
      → 4294967296 < counter_end writer most bytes
      → r ≡ refusal.CounterEnd (counter_end writer most bytes - 1)
      → FitsNot writer most bytes r

-- the lines of the first so many writes
abbrev pub lines_of : ℕ → Writer → ℕ → List ℕ → List ℕ
lines_of count writer most bytes =
    write_lines count writer.guest writer.key writer.counter writer.address most
    (blocks_in bytes) writer.asks

-- all of them, of bytes that fit
pub record WritesAll (writer : Writer) (most : ℕ) (bytes : List ℕ) (start now : Option (List ℕ))
    : Type 0 where
  pub fits : Fits writer most bytes
  pub printed :
      Appends start now (lines_of (writes_of most (length bytes / 256)) writer most bytes)

-- or only the first ones
pub record WritesFirst (writer : Writer) (most : ℕ) (bytes : List ℕ) (start now : Option (List ℕ))
    : Type 0 where
  pub fits : Fits writer most bytes
  pub first : ℕ
  pub fewer : first < writes_of most (length bytes / 256)
  pub printed : Appends start now (lines_of first writer most bytes)

-- the bytes don't fit, and nothing was printed; or memory was refused, and the lines before were
-- printed; or standard output took no more
pub data IsStopped (writer : Writer) (most : ℕ) (bytes : List ℕ) (r : Refusal)
    (start now : Option (List ℕ)) : Type 0 where
  no_place : FitsNot writer most bytes r → Keeps start now
      → IsStopped writer most bytes r start now
  unwritten : IsOfWriting r → (r ≢ refusal.NoRoom → WritesFirst writer most bytes start now)
      → IsStopped writer most bytes r start now

-- what the words say is written
pub record WriteLines (gives : List ℕ → List ℕ → Type 0) (words : Words)
    (start now : Option (List ℕ)) : Type 0 where
  pub writer : Writer
  pub most : ℕ
  pub bytes : List ℕ
  pub writer_is : IsWriter gives words writer
  pub most_is : most_said words ≡ Ok most
  pub bytes_are : SaysBytes gives words bytes
  pub printed : WritesAll writer most bytes start now

-- why not all: the first of these that is so
pub data WhyNoWriteLines (gives : List ℕ → List ℕ → Type 0) (words : Words) (r : Refusal)
    (start now : Option (List ℕ)) : Type 0 where
  write_writer : IsWhyNoWriter gives words r → Keeps start now
      → WhyNoWriteLines gives words r start now
  write_most : (writer : Writer) → IsWriter gives words writer → most_said words ≡ Err r
      → Keeps start now → WhyNoWriteLines gives words r start now
  write_bytes : (writer : Writer) → IsWriter gives words writer → IsOk (most_said words)
      → IsWhyNoBytesSaid words r → Keeps start now → WhyNoWriteLines gives words r start now
  write_stopped : (writer : Writer) (most : ℕ) (bytes : List ℕ) → IsWriter gives words writer
      → most_said words ≡ Ok most → SaysBytes gives words bytes
      → IsStopped writer most bytes r start now → WhyNoWriteLines gives words r start now

pub record WriteDoes (gives : List ℕ → List ℕ → Type 0) (words : Words)
    (start : Option (List ℕ)) (ended : Result (Unit {0}) Refusal) (now : Option (List ℕ))
    : Type 0 where
  pub printed : OnOk ended (WriteLines gives words start now)
  pub refused : IfErr ended (λ r. WhyNoWriteLines gives words r start now)
