-- What the lines and requests that a client makes are to `rpmbd` and to a partition (VIRTIO 1.2,
-- 5.12.6).
use Rattle.std.specs.Prelude.{◌≡◌, ◌≢◌, ◌<◌, ◌≤◌, ◌+◌, ◌*◌, ◌^◌, ℕ, Bool, true, if◌then◌else◌, List}
use Rattle.std.specs.Prelude.{[], ◌∷◌, length, Some, None}
use Rattle.std.specs.List.{AllByRecursion}
use Rattle.hex.specs.Hex.{IsBytes}
use Rattle.script.specs.Line.{line_of, chain}
use Rattle.rpmb_frame.specs.Codes.{res_ok}
use Rattle.rpmb_frame.specs.Limits.{Limits}
use Rattle.rpmb_frame.specs.Partition.{Partition, block_count}
use Rattle.rpmb_frame.specs.Request.{ProgramKey, GetWriteCounter, DataWrite, DataRead, ResultRead}
use Rattle.rpmb_frame.specs.Request.{command_of, request}
use Rattle.rpmb_core.specs.Accept.{is_accepted, partition_after}
use Rattle.rpmb_core.specs.Laws.{last_count}
use Rattle.rpmb_core.specs.Reply.{joined}
use Rattle.rpmb_core.specs.Verdict.{verdict}
use Rattle.rpmb_client.specs.Chain.{chain_text}
use Rattle.rpmb_client.specs.Made.{asking, counter_frame, key_frame, key_frames, read_frame}
use Rattle.rpmb_client.specs.Made.{result_frame, write_frames}

-- a line that was made reads as that chain
abbrev pub LinesAreRead : Type 0
LinesAreRead = (guests guest writable : ℕ) (readable : List ℕ) → guests ≤ 64 → guest < guests
    → IsBytes readable
    → length readable ≤ 8704 → writable ≤ 8192 → 0 < length readable + writable
    → line_of guests (chain_text guest readable writable) ≡ Some (chain guest readable writable)

-- a made PROGRAM_KEY is that request, and is accepted exactly where there is no key, which this one
-- then is
pub record ProgramsKey (key : List ℕ) (limits : Limits) : Type 0 where
  pub classified : command_of (joined (key_frames key)) 512 limits ≡ ProgramKey (key_frame key) true
  pub accepted : (p : Partition) → p.key ≡ None
      → is_accepted p (request (joined (key_frames key)) 512 limits) ≡ true
  pub programmed : (p : Partition) → p.key ≡ None
      → (partition_after p (request (joined (key_frames key)) 512 limits)).key ≡ Some key

-- the writable length that a write's reply needs
abbrev pub room_of : Bool → ℕ
room_of asks = if asks then 512 else 0

-- a made DATA_WRITE is that request, and a partition with that key, that counter and that room
-- accepts it
pub record WritesBlocks (key : List ℕ) (counter address : ℕ) (blocks : List (List ℕ)) (asks : Bool)
    (limits : Limits) : Type 0 where
  pub classified : command_of (joined (asking asks (write_frames key counter address blocks)))
      (room_of asks) limits
      ≡ DataWrite (write_frames key counter address blocks) asks
  pub accepted : (p : Partition) → p.key ≡ Some key → p.counter ≡ counter → counter ≢ last_count
      → address + length blocks ≤ block_count p
      → is_accepted p (request (joined (asking asks (write_frames key counter address blocks)))
      (room_of asks) limits) ≡ true

-- blocks of 256 bytes
abbrev pub AreBlocks : List (List ℕ) → Type 0
AreBlocks blocks = AllByRecursion (λ block. length block ≡ 256) blocks

abbrev pub MadeWrites : Type 0
MadeWrites =
    (key : List ℕ) (counter address : ℕ) (blocks : List (List ℕ)) (asks : Bool) (limits : Limits)
    → AreBlocks blocks → 1 ≤ length blocks → length blocks ≤ limits.max_wr_cnt
    → limits.max_wr_cnt ≤ 16
    → counter < 2 ^ 32 → address < 2 ^ 16 → WritesBlocks key counter address blocks asks limits

-- a made GET_WRITE_COUNTER and a made RESULT_READ are those requests
abbrev pub MadeCounter : Type 0
MadeCounter = (nonce : List ℕ) (limits : Limits) → length nonce ≡ 16
    → command_of (joined (counter_frame nonce ∷ [])) 512 limits
    ≡ GetWriteCounter (counter_frame nonce)

abbrev pub MadeResult : Type 0
MadeResult = (limits : Limits) → command_of (joined (result_frame ∷ [])) 512 limits ≡ ResultRead

-- a made DATA_READ is that request, and succeeds on a partition with a key and that room
pub record ReadsBlocks (address count : ℕ) (nonce : List ℕ) (limits : Limits) : Type 0 where
  pub classified : command_of (joined (read_frame address count nonce ∷ [])) (512 * count) limits
      ≡ DataRead (read_frame address count nonce)
  pub succeeds : (p : Partition) (key : List ℕ) → p.key ≡ Some key → address + count ≤ block_count p
      → verdict p (request (joined (read_frame address count nonce ∷ [])) (512 * count) limits)
      ≡ res_ok

abbrev pub MadeReads : Type 0
MadeReads = (address count : ℕ) (nonce : List ℕ) (limits : Limits) → length nonce ≡ 16
    → address < 2 ^ 16
    → 1 ≤ count → count ≤ limits.max_rd_cnt → limits.max_rd_cnt ≤ 16
    → ReadsBlocks address count nonce limits
