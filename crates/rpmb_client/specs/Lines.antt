-- The lines that a client writes, each for one request.
use Rattle.std.specs.Prelude.{ℕ, zero, suc, ◌+◌, ◌-◌, ◌*◌, ◌/◌, Bool, if◌then◌else◌, List, [], ◌∷◌}
use Rattle.std.specs.Prelude.{◌++◌, length, min, slice_range}
use Rattle.rpmb_core.specs.Reply.{joined}
use Rattle.rpmb_client.specs.Chain.{chain_text}
use Rattle.rpmb_client.specs.Made.{asking, counter_frame, key_frames, read_frame, result_frame}
use Rattle.rpmb_client.specs.Made.{write_frames}
use Rattle.rpmb_client.specs.declared.lines.Request.{Request}
use Rattle.rpmb_client.specs.declared.lines.Request.TheVariants as request

-- frames, and the room for the frames of the reply
unfoldable pub request_line : ℕ → List (List ℕ) → ℕ → List ℕ
request_line guest frames replied = chain_text guest (joined frames) (512 * replied) ++ 10 ∷ []

abbrev pub key_line : ℕ → List ℕ → List ℕ
key_line guest key = request_line guest (key_frames key) 1

abbrev pub counter_line : ℕ → List ℕ → List ℕ
counter_line guest nonce = request_line guest (counter_frame nonce ∷ []) 1

-- a read's reply has a frame for each block
abbrev pub read_line : ℕ → ℕ → ℕ → List ℕ → List ℕ
read_line guest address count nonce = request_line guest (read_frame address count nonce ∷ []) count

abbrev pub result_line : ℕ → List ℕ
result_line guest = request_line guest (result_frame ∷ []) 1

abbrev pub line_of_request : ℕ → Request → List ℕ
line_of_request guest (request.ProgramKey key) = key_line guest key
line_of_request guest (request.ReadCounter nonce) = counter_line guest nonce
line_of_request guest (request.Read address count nonce) = read_line guest address count nonce
line_of_request guest request.Outcome = result_line guest

unfoldable pub write_line : ℕ → List ℕ → ℕ → ℕ → List (List ℕ) → Bool → List ℕ
write_line guest key counter address blocks asks =
    request_line guest (asking asks (write_frames key counter address blocks))
    (if asks then 1 else 0)

-- the blocks of write k, where one writes at most `most`
abbrev pub part_of : ℕ → ℕ → List (List ℕ) → List (List ℕ)
part_of most k blocks = slice_range blocks (most * k) (min (most * k + most) (length blocks))

-- how many writes it takes
abbrev pub writes_of : ℕ → ℕ → ℕ
writes_of most n = (n + most - 1) / most

-- the first k of them: counters and addresses ascend
unfoldable pub write_lines : ℕ → ℕ → List ℕ → ℕ → ℕ → ℕ → List (List ℕ) → Bool → List ℕ
write_lines zero guest key counter address most blocks asks = []
write_lines (suc k) guest key counter address most blocks asks =
    write_lines k guest key counter address most blocks asks
    ++ write_line guest key (counter + k) (address + most * k) (part_of most k blocks) asks
