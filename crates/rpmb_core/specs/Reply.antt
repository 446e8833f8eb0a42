-- The reply to a request. The standard leaves the fields of refusals open; they are our own.
use Rattle.std.specs.Prelude.{◌≡◌, ℕ, zero, suc, ◌*◌, ◌-◌, ◌==◌, nat_le, Bool, if◌then◌else◌}
use Rattle.std.specs.Prelude.{Option, Some, None, List, [], ◌∷◌, length, map, replicate, slice_set}
use Rattle.std.specs.List.{flat_map}
use Rattle.rpmb_frame.specs.Frame.{address_of, block_count_of, nonce_of, first_of, last_of}
use Rattle.rpmb_frame.specs.Frame.{zero_frame, with_key_mac, with_block_data, with_nonce}
use Rattle.rpmb_frame.specs.Frame.{with_write_counter, with_address, with_block_count, with_result}
use Rattle.rpmb_frame.specs.Frame.{with_req_resp}
use Rattle.rpmb_frame.specs.Request.{Request, ProgramKey, GetWriteCounter, DataWrite, DataRead}
use Rattle.rpmb_frame.specs.Request.{ResultRead, Malformed, Command, frames_of}
use Rattle.rpmb_frame.specs.Partition.{Partition, block_of}
use Rattle.hmac256.specs.Hmac.{mac}
use Rattle.rpmb_core.specs.declared.outcome.Outcome.{Outcome}
use Rattle.rpmb_core.specs.declared.response.Response.{Response}
use Rattle.rpmb_frame.specs.Codes.{res_ok, res_general_failure, resp_program_key, resp_get_counter}
use Rattle.rpmb_frame.specs.Codes.{resp_data_write, resp_data_read}

abbrev pub zero_nonce : List ℕ
zero_nonce = replicate 16 0

-- what a lone RESULT_READ answers
abbrev pub stored_response : Option Outcome → Response
stored_response None =
    record {
      nonce = zero_nonce;
      write_counter = 0;
      address = 0;
      block_count = 0;
      code = res_general_failure;
      kind = 0;
    }
stored_response (Some o) =
    record {
      nonce = zero_nonce;
      write_counter = o.counter;
      address = o.address;
      block_count = o.block_count;
      code = o.code;
      kind = o.kind;
    }

abbrev pub read_response : List ℕ → ℕ → Response
read_response frame code =
    record {
      nonce = nonce_of frame;
      write_counter = 0;
      address = address_of frame;
      block_count = block_count_of frame;
      code = code;
      kind = resp_data_read;
    }

-- the fields of a reply; the partition is the one after the request
abbrev pub response_to : Partition → Command → ℕ → Option Outcome → Response
response_to p (ProgramKey frame combined) code last =
    record {
      nonce = zero_nonce;
      write_counter = p.counter;
      address = 0;
      block_count = block_count_of frame;
      code = code;
      kind = resp_program_key;
    }
response_to p (GetWriteCounter frame) code last =
    record {
      nonce = nonce_of frame;
      write_counter = p.counter;
      address = 0;
      block_count = block_count_of frame;
      code = code;
      kind = resp_get_counter;
    }
response_to p (DataWrite frames combined) code last =
    record {
      nonce = zero_nonce;
      write_counter = p.counter;
      address = address_of (first_of frames);
      block_count = block_count_of (first_of frames);
      code = code;
      kind = resp_data_write;
    }
response_to p (DataRead frame) code last = read_response frame code
response_to p ResultRead code last = stored_response last
response_to p Malformed code last = stored_response None

-- a frame with these fields, all else zeros
unfoldable pub frame_of : Response → List ℕ
frame_of r =
    with_req_resp r.kind (with_result r.code (with_block_count r.block_count (with_address r.address
    (with_write_counter r.write_counter (with_nonce r.nonce zero_frame)))))

-- a PROGRAM_KEY or DATA_WRITE takes a frame when it is combined, any other request where there is
-- room for one
abbrev pub is_answered : Command → ℕ → Bool
is_answered (ProgramKey frame combined) writable = combined
is_answered (DataWrite frames combined) writable = combined
is_answered _ writable = nat_le 512 writable

-- the blocks from an address on
unfoldable pub blocks_from : Partition → ℕ → ℕ → List (List ℕ)
blocks_from p address zero = []
blocks_from p address (suc n) = block_of p address ∷ blocks_from p (suc address) n

-- a frame like `base` for each block
unfoldable pub read_frames : List ℕ → List (List ℕ) → List (List ℕ)
read_frames base blocks = map (λ block. with_block_data block base) blocks

-- the request is a DATA_READ, and the result says that its blocks are given
abbrev pub GivesBlocks : Command → ℕ → Type 0
GivesBlocks (DataRead frame) code = code ≡ res_ok
GivesBlocks _ code = ⊥

-- the frames that give the blocks of a DATA_READ
abbrev pub block_frames : Partition → List ℕ → List (List ℕ)
block_frames p frame =
    read_frames (frame_of (read_response frame res_ok))
    (blocks_from p (address_of frame) (block_count_of frame))

-- the only frame of a reply that gives no blocks, and none where no frame is due
abbrev pub one_frame : Partition → Command → ℕ → ℕ → Option Outcome → List (List ℕ)
one_frame p command writable code last =
    if is_answered command writable then frame_of (response_to p command code last) ∷ [] else []

-- the frames of a reply, before the MAC
abbrev pub frames_on : Partition → Command → ℕ → ℕ → Option Outcome → List (List ℕ)
frames_on p (DataRead frame) writable code last =
    if code == res_ok then block_frames p frame else one_frame p (DataRead frame) writable code last
frames_on p command writable code last = one_frame p command writable code last

-- the frames with the MAC of all of them in the last one, where there is a key
unfoldable pub sealed : Option (List ℕ) → List (List ℕ) → List (List ℕ)
sealed None frames = frames
sealed (Some key) frames =
    slice_set frames (length frames - 1) (with_key_mac (mac key frames) (last_of frames))

abbrev pub joined : List (List ℕ) → List ℕ
joined frames = flat_map (λ frame. frame) frames

-- the bytes of the reply
unfoldable pub reply : Partition → Request → ℕ → Option Outcome → List ℕ
reply p r code last = joined (sealed p.key (frames_on p r.command r.writable code last))

-- The bytes of the reply before the MAC, and what closes them: under a key the MAC of their frames
-- goes into the last of them, and where there is no key they are the reply already.
unfoldable pub open_reply : Partition → Request → ℕ → Option Outcome → List ℕ
open_reply p r code last = joined (frames_on p r.command r.writable code last)

unfoldable pub closed : Option (List ℕ) → List ℕ → List ℕ
closed None bytes = bytes
closed (Some key) bytes = joined (sealed (Some key) (frames_of bytes))

-- how many bytes the reply has
abbrev pub reply_length : Command → ℕ → ℕ → ℕ
reply_length (DataRead frame) writable code =
    if code == res_ok then 512 * block_count_of frame else if is_answered (DataRead frame) writable
    then 512 else 0
reply_length command writable code = if is_answered command writable then 512 else 0

-- the type of a failure reply: that of the response, and 0 where a RESULT_READ stands alone or
-- nothing is asked
abbrev pub failure_kind : Command → ℕ
failure_kind (ProgramKey frame combined) = resp_program_key
failure_kind (GetWriteCounter frame) = resp_get_counter
failure_kind (DataWrite frames combined) = resp_data_write
failure_kind (DataRead frame) = resp_data_read
failure_kind _ = 0

-- a frame of zeros but for its type and its result
unfoldable pub failure_frame : ℕ → ℕ → List ℕ
failure_frame kind code = with_req_resp kind (with_result code zero_frame)

-- the reply of a store that broke: that frame, and nothing where no frame was due
unfoldable pub failure : Request → ℕ → List ℕ
failure r code =
    if is_answered r.command r.writable then failure_frame (failure_kind r.command) code else []

-- what becomes of a reply that was made when the store breaks: nothing of nothing, else the frame
-- of a failure
abbrev pub failed : ℕ → ℕ → List ℕ → List ℕ
failed kind code [] = []
failed kind code (byte ∷ bytes) = failure_frame kind code
