-- The frames of the requests that a client makes (VIRTIO 1.2, 5.12.6). Fields that aren't named are
-- zeros.
use Rattle.std.specs.Prelude.{ℕ, Bool, if◌then◌else◌, Some, List, [], ◌∷◌, ◌++◌, length, map}
use Rattle.rpmb_frame.specs.Codes.{req_program_key, req_get_write_counter, req_data_write}
use Rattle.rpmb_frame.specs.Codes.{req_data_read, req_result_read}
use Rattle.rpmb_frame.specs.Frame.{zero_frame, with_key_mac, with_block_data, with_nonce}
use Rattle.rpmb_frame.specs.Frame.{with_write_counter, with_address, with_block_count}
use Rattle.rpmb_frame.specs.Frame.{with_req_resp}
use Rattle.rpmb_core.specs.Reply.{sealed}

-- the frame that asks for the result of a PROGRAM_KEY or a DATA_WRITE
unfoldable pub result_frame : List ℕ
result_frame = with_req_resp req_result_read zero_frame

-- a key stands where a MAC stands else
unfoldable pub key_frame : List ℕ → List ℕ
key_frame key = with_req_resp req_program_key (with_block_count 1 (with_key_mac key zero_frame))

-- a PROGRAM_KEY, combined with its RESULT_READ
abbrev pub key_frames : List ℕ → List (List ℕ)
key_frames key = key_frame key ∷ result_frame ∷ []

unfoldable pub counter_frame : List ℕ → List ℕ
counter_frame nonce =
    with_req_resp req_get_write_counter (with_block_count 1 (with_nonce nonce zero_frame))

unfoldable pub read_frame : ℕ → ℕ → List ℕ → List ℕ
read_frame address count nonce =
    with_req_resp req_data_read
    (with_block_count count (with_address address (with_nonce nonce zero_frame)))

-- what the frames of a write have in common: type, block count, address and write counter
unfoldable pub write_header : ℕ → ℕ → ℕ → List ℕ
write_header counter address count =
    with_req_resp req_data_write
    (with_block_count count (with_address address (with_write_counter counter zero_frame)))

-- a frame like `header` for each block
unfoldable pub frames_like : List ℕ → List (List ℕ) → List (List ℕ)
frames_like header blocks = map (λ block. with_block_data block header) blocks

-- a DATA_WRITE of these blocks: the last frame has the MAC of all of them under the key
unfoldable pub write_frames : List ℕ → ℕ → ℕ → List (List ℕ) → List (List ℕ)
write_frames key counter address blocks =
    sealed (Some key) (frames_like (write_header counter address (length blocks)) blocks)

-- with the frame that asks for the result, where that is asked
abbrev pub asking : Bool → List (List ℕ) → List (List ℕ)
asking asks frames = if asks then frames ++ result_frame ∷ [] else frames
