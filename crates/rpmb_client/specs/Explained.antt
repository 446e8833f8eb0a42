-- What is said of an answer.
use Rattle.std.specs.Prelude.{ℕ, zero, suc, ◌+◌, ◌==◌, ◌&&◌, ◌||◌, not, nat_le, nat_lt, Bool, true}
use Rattle.std.specs.Prelude.{false, if◌then◌else◌, Option, Some, None, List, [], ◌∷◌, ◌++◌, codes}
use Rattle.std.specs.Prelude.{get_or, length, replicate, slice_range}
use Rattle.std.specs.Fmt.{decimal}
use Rattle.std.specs.List.{list_all, list_any, position_or_len}
use Rattle.std.specs.Str.{bytes_eq}
use Rattle.hex.specs.Hex.{encode_lower}
use Rattle.rpmb_frame.specs.Codes.{resp_program_key, resp_get_counter, resp_data_write}
use Rattle.rpmb_frame.specs.Codes.{resp_data_read, res_ok, res_general_failure, res_auth_failure}
use Rattle.rpmb_frame.specs.Codes.{res_count_failure, res_addr_failure, res_write_failure}
use Rattle.rpmb_frame.specs.Codes.{res_no_auth_key, res_write_counter_expired}
use Rattle.rpmb_frame.specs.Table.{first_row}
use Rattle.rpmb_frame.specs.Frame.{block_data_of, key_mac_of, nonce_of, write_counter_of}
use Rattle.rpmb_frame.specs.Frame.{address_of, block_count_of, last_of, result_of, req_resp_of}
use Rattle.rpmb_client.specs.Answer.{is_mac_right, is_nonce_right, is_whole}
use Rattle.rpmb_frame.specs.Request.{frames_of}

-- types by the standard's names (VIRTIO 1.2, 5.12.6)
abbrev pub kind_text : ℕ → List ℕ
kind_text kind = first_row (
    (kind == resp_program_key, codes "response PROGRAM_KEY")
    ∷ (kind == resp_get_counter, codes "response GET_WRITE_COUNTER")
    ∷ (kind == resp_data_write, codes "response DATA_WRITE")
    ∷ (kind == resp_data_read, codes "response DATA_READ")
    ∷ (kind == 0, codes "response without a type")
    ∷ []) (codes "unknown type")

-- and results
abbrev pub result_text : ℕ → List ℕ
result_text code = first_row (
    (code == res_ok, codes "OK")
    ∷ (code == res_general_failure, codes "GENERAL_FAILURE")
    ∷ (code == res_auth_failure, codes "AUTH_FAILURE")
    ∷ (code == res_count_failure, codes "COUNT_FAILURE")
    ∷ (code == res_addr_failure, codes "ADDR_FAILURE")
    ∷ (code == res_write_failure, codes "WRITE_FAILURE")
    ∷ (code == res_no_auth_key, codes "NO_AUTH_KEY")
    ∷ (code == res_write_counter_expired, codes "WRITE_COUNTER_EXPIRED")
    ∷ []) (codes "unknown result")

-- the two bytes from an offset on, in four digits
abbrev pub two_bytes : ℕ → List ℕ → List ℕ
two_bytes at frame = encode_lower (slice_range frame at (at + 2))

abbrev pub is_zeros : List ℕ → ℕ → Bool
is_zeros bytes n = bytes_eq bytes (replicate n 0)

-- only two responses repeat a nonce, and zeros stand in the others
abbrev pub repeats_nonce : ℕ → Bool
repeats_nonce kind = kind == resp_get_counter || kind == resp_data_read

unfoldable pub lacks_nonce : List ℕ → Bool
lacks_nonce frame = is_zeros (nonce_of frame) 16 && not (repeats_nonce (req_resp_of frame))

abbrev pub nonce_text : Option (List ℕ) → List ℕ → List ℕ
nonce_text None frame = encode_lower (nonce_of frame)
nonce_text (Some asked) frame = first_row (
    (is_nonce_right asked frame, codes "right")
    ∷ (lacks_nonce frame, codes "zeros")
    ∷ []) (codes "wrong")

-- whether a frame is told to have a wrong nonce, and a reply a wrong MAC or nonce
abbrev pub is_nonce_wrong : List ℕ → List ℕ → Bool
is_nonce_wrong asked frame = not (is_nonce_right asked frame) && not (lacks_nonce frame)

abbrev pub has_wrong_nonce : Option (List ℕ) → List (List ℕ) → Bool
has_wrong_nonce None frames = false
has_wrong_nonce (Some asked) frames = list_any (is_nonce_wrong asked) frames

-- what a partition without a key answers: that it has none, or to a RESULT_READ, and to what is no
-- request, a failure without a type
abbrev pub is_keyless : List ℕ → Bool
is_keyless frame =
    result_of frame == res_no_auth_key
    || (result_of frame == res_general_failure && req_resp_of frame == 0)

-- zeros stand where the MAC would
unfoldable pub has_zero_mac : List (List ℕ) → Bool
has_zero_mac frames = is_zeros (key_mac_of (last_of frames)) 32

-- it has none to make a MAC with
unfoldable pub lacks_mac : List (List ℕ) → Bool
lacks_mac frames = is_keyless (last_of frames) && is_zeros (key_mac_of (last_of frames)) 32

abbrev pub has_wrong_mac : Option (List ℕ) → List (List ℕ) → Bool
has_wrong_mac None frames = false
has_wrong_mac (Some key) frames = not (is_mac_right key frames) && not (lacks_mac frames)

unfoldable pub is_wrong : List ℕ → Option (List ℕ) → Option (List ℕ) → Bool
is_wrong reply key asked =
    let frames = frames_of reply in
    is_whole reply && (has_wrong_mac key frames || has_wrong_nonce asked frames)

-- whether a frame has another result than OK, and a reply one of them
abbrev pub has_refusal : List ℕ → Bool
has_refusal frame = not (result_of frame == res_ok)

unfoldable pub is_refused : List ℕ → Bool
is_refused reply = is_whole reply && list_any has_refusal (frames_of reply)

-- of zeros it is said that they are: no device makes such a MAC, and one whose disk failed makes
-- none
abbrev pub judged_mac : List ℕ → List (List ℕ) → List ℕ
judged_mac key frames = first_row (
    (is_mac_right key frames, codes "right")
    ∷ (lacks_mac frames, codes "none")
    ∷ (has_zero_mac frames, codes "wrong (zeros)")
    ∷ []) (codes "wrong")

-- the last frame has the MAC of all of them; the others have zeros there
abbrev pub mac_text : Bool → Option (List ℕ) → List (List ℕ) → List ℕ → List ℕ
mac_text false key frames frame =
    if is_zeros (key_mac_of frame) 32 then codes "in the last frame" else codes "out of place"
mac_text true None frames frame = codes "not looked at"
mac_text true (Some key) frames frame = judged_mac key frames

-- a block, which only reads give: nothing is said of one of zeros
abbrev pub data_name : List ℕ → List ℕ
data_name frame = if is_zeros (block_data_of frame) 256 then [] else codes ", data "

abbrev pub data_digits : List ℕ → List ℕ
data_digits frame =
    if is_zeros (block_data_of frame) 256 then [] else encode_lower (block_data_of frame)

-- what no MAC covers
abbrev pub has_stuff : List ℕ → Bool
has_stuff frame = not (is_zeros (slice_range frame 0 196) 196)

abbrev pub stuff_text : Bool → List ℕ
stuff_text stuff = if stuff then codes ", stuff not zeros" else []

-- a frame at a place of n, counted from 1, of a reply to a guest; in a line, or in an object (RFC
-- 8259): all that stands there between two quotes is printable ASCII without a quote or a
-- backslash, and so stands there as it is (7)
unfoldable pub place_told : Bool → ℕ → ℕ → ℕ → List ℕ
place_told as_json guest place n =
    if as_json
    then codes "{\"guest\":" ++ (decimal guest ++ (codes ",\"frame\":" ++ (decimal place
    ++ (codes ",\"frames\":" ++ decimal n))))
    else codes "guest " ++ decimal guest ++ codes ", frame " ++ decimal place ++ codes " of "
    ++ decimal n ++ codes ": "

-- its type and result by name, and in four digits; in an object by number and name
unfoldable pub kinds_told : Bool → List ℕ → List ℕ
kinds_told as_json frame =
    let kind = kind_text (req_resp_of frame) in
    let name = result_text (result_of frame) in
    if as_json
    then codes ",\"kind\":\"" ++ (kind ++ (codes "\",\"type\":" ++ (decimal (req_resp_of frame)
    ++ (codes ",\"result\":\"" ++ (name ++ (codes "\",\"code\":" ++ decimal (result_of frame)))))))
    else kind ++ codes " 0x" ++ two_bytes 510 frame
    ++ codes ", result " ++ name ++ codes " 0x" ++ two_bytes 508 frame

-- the reply to a read carries no write counter, and neither does one without a type
abbrev pub has_counter : ℕ → Bool
has_counter kind = not (kind == resp_data_read) && not (kind == 0)

abbrev pub counter_name : Bool → List ℕ
counter_name as_json = if as_json then codes ",\"counter\":" else codes ", counter "

unfoldable pub counter_told : Bool → List ℕ → List ℕ
counter_told as_json frame =
    if has_counter (req_resp_of frame)
    then counter_name as_json ++ decimal (write_counter_of frame) else []

-- the other numbers that each frame has
unfoldable pub fields_told : Bool → ℕ → ℕ → List ℕ
fields_told as_json address blocks =
    if as_json
    then codes ",\"address\":" ++ (decimal address ++ (codes ",\"blocks\":" ++ decimal blocks))
    else codes ", address " ++ decimal address ++ codes ", blocks " ++ decimal blocks

-- printable ASCII, from a space to a tilde
abbrev pub is_printable : ℕ → Bool
is_printable byte = nat_le 32 byte && nat_le byte 126

-- how many bytes stand before the first that isn't printable
abbrev pub printable_length : List ℕ → ℕ
printable_length bytes = position_or_len (λ b. not (is_printable b)) bytes

-- a text: printable bytes, at least one, and behind them zeros alone
unfoldable pub is_text : List ℕ → Bool
is_text bytes =
    let count = printable_length bytes in
    nat_lt 0 count && list_all (λ b. b == 0) (slice_range bytes count (length bytes))

-- the text of a block that is one stands at the end of the line, so that it is no word of ours
unfoldable pub end_told : Bool → List ℕ → List ℕ
end_told as_json block =
    if as_json then 125 ∷ 10 ∷ []
    else (if is_text block
    then codes ", text \"" ++ (slice_range block 0 (printable_length block) ++ (34 ∷ 10 ∷ []))
    else 10 ∷ [])

-- what is judged of a frame, its block, and whether its stuff bytes aren't zeros
unfoldable pub checks_told : Bool → List ℕ → List ℕ → List ℕ → List ℕ → Bool → List ℕ
checks_told as_json nonce mac front digits stuff =
    if as_json
    then codes ",\"nonce\":\"" ++ (nonce ++ (codes "\",\"mac\":\"" ++ (mac
    ++ (codes "\",\"data\":\"" ++ (digits ++ (codes "\",\"has_stuff\":"
    ++ (if stuff then codes "true" else codes "false")))))))
    else codes ", nonce " ++ nonce ++ codes ", MAC " ++ mac
    ++ front ++ digits ++ stuff_text stuff

-- of frame i, counted from 0, under a key and a nonce where they are given
abbrev pub checks_of : Bool → ℕ → List (List ℕ) → Option (List ℕ) → Option (List ℕ) → List ℕ
checks_of as_json i frames key asked =
    let frame = get_or frames i [] in
    checks_told as_json (nonce_text asked frame)
    (mac_text (i + 1 == length frames) key frames frame) (data_name frame) (data_digits frame)
    (has_stuff frame)

-- the line or the object of frame i
unfoldable pub frame_told : Bool → ℕ → ℕ → List (List ℕ) → Option (List ℕ) → Option (List ℕ)
    → List ℕ
frame_told as_json guest i frames key asked =
    let frame = get_or frames i [] in
    place_told as_json guest (i + 1) (length frames)
    ++ (kinds_told as_json frame ++ (counter_told as_json frame
    ++ (fields_told as_json (address_of frame) (block_count_of frame)
    ++ (checks_of as_json i frames key asked ++ end_told as_json (block_data_of frame)))))

-- those of the first i frames
unfoldable pub frames_told : Bool → ℕ → ℕ → List (List ℕ) → Option (List ℕ) → Option (List ℕ)
    → List ℕ
frames_told as_json guest zero frames key asked = []
frames_told as_json guest (suc i) frames key asked =
    frames_told as_json guest i frames key asked ++ frame_told as_json guest i frames key asked

-- of a reply of n bytes that is no whole frames; of no bytes at all, what its request was: one that
-- wants none, or that has no room for a frame
unfoldable pub no_frames_told : Bool → ℕ → ℕ → List ℕ
no_frames_told as_json guest n =
    if as_json
    then codes "{\"guest\":" ++ (decimal guest ++ (codes ",\"frames\":0,\"bytes\":" ++ (decimal n
    ++ (codes "}" ++ 10 ∷ []))))
    else (if n == 0
    then codes "guest " ++ decimal guest
    ++ codes ", no frames: its request asked for none (--no-result), or needs WRITABLE 512 or more"
    ++ 10 ∷ []
    else codes "guest " ++ decimal guest ++ codes ", " ++ decimal n
    ++ codes " bytes are no frames" ++ 10 ∷ [])

-- what is said of a reply to a guest
unfoldable pub reply_told : Bool → ℕ → List ℕ → Option (List ℕ) → Option (List ℕ) → List ℕ
reply_told as_json guest reply key asked =
    let frames = frames_of reply in
    if is_whole reply then frames_told as_json guest (length frames) frames key asked
    else no_frames_told as_json guest (length reply)
