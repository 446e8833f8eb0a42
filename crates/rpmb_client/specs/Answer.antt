-- A line of `rpmbd run` that gives a reply, and what can be judged of the reply.
use Rattle.std.specs.Prelude.{ℕ, ◌==◌, ◌/◌, ◌*◌, ◌&&◌, not, Bool, if◌then◌else◌, List, [], ◌∷◌}
use Rattle.std.specs.Prelude.{length, codes, Option, Some, None, option_and_then}
use Rattle.std.specs.List.{flat_map}
use Rattle.std.specs.Str.{bytes_eq}
use Rattle.script.specs.Script.{lines_of}
use Rattle.script.specs.Words.{bytes_of, number_of, words_of}
use Rattle.rpmb_frame.specs.Codes.{res_ok, resp_data_read}
use Rattle.rpmb_frame.specs.Table.{first_row}
use Rattle.rpmb_frame.specs.Frame.{block_data_of, key_mac_of, nonce_of, req_resp_of, result_of}
use Rattle.rpmb_frame.specs.Frame.{last_of}
use Rattle.rpmb_frame.specs.Request.{frames_of}
use Rattle.hmac256.specs.Hmac.{mac}

-- a guest's number and the bytes of its reply
pub record Used : Type 0 where
  pub guest : ℕ
  pub reply : List ℕ

-- the bytes, where they are as many as the line says
abbrev pub as_long : ℕ → ℕ → List ℕ → Option Used
as_long guest len bytes =
    if length bytes == len then Some (record { guest = guest; reply = bytes }) else None

-- the words G, LEN and HEX after the word `used`
abbrev pub used_words : List ℕ → List ℕ → List ℕ → Option Used
used_words g len hex =
    option_and_then (λ guest. option_and_then (λ count. option_and_then (λ bytes.
    as_long guest count bytes) (bytes_of hex)) (number_of len)) (number_of g)

abbrev pub used_of_words : List (List ℕ) → Option Used
used_of_words (command ∷ g ∷ len ∷ hex ∷ []) =
    if bytes_eq command (codes "used") then used_words g len hex else None
used_of_words _ = None

-- what a line gives; none where it is another line
unfoldable pub used_of : List ℕ → Option Used
used_of text = used_of_words (words_of text)

-- whole frames, at least one
abbrev pub is_whole : List ℕ → Bool
is_whole reply = not (length reply == 0) && 512 * (length reply / 512) == length reply

-- the last frame has the MAC of all frames under the key
unfoldable pub is_mac_right : List ℕ → List (List ℕ) → Bool
is_mac_right key frames = bytes_eq (key_mac_of (last_of frames)) (mac key frames)

unfoldable pub is_nonce_right : List ℕ → List ℕ → Bool
is_nonce_right nonce frame = bytes_eq (nonce_of frame) nonce

-- what a read comes to: its blocks one after another, or why there are none
pub data Read : Type 0 where
  blocks : List ℕ → Read
  no_frames : Read
  wrong_mac : Read
  wrong_nonce : Read
  other_response : ℕ → Read
  refused : ℕ → Read

-- the MAC is looked at before all else, so that no forged field is told as a reason
unfoldable pub read_of : List ℕ → List ℕ → List ℕ → Read
read_of key nonce reply =
    let frames = frames_of reply in
    let last = last_of frames in
    first_row (
    (not (is_whole reply), no_frames)
    ∷ (not (is_mac_right key frames), wrong_mac)
    ∷ (not (is_nonce_right nonce last), wrong_nonce)
    ∷ (not (req_resp_of last == resp_data_read), other_response (req_resp_of last))
    ∷ (not (result_of last == res_ok), refused (result_of last))
    ∷ []) (blocks (flat_map block_data_of frames))

-- the reply of a line that gives one, and where a nonce is named, only one whose last frame has it
abbrev pub if_asked : Bool → Used → Option Used
if_asked asked used = if asked then Some used else None

abbrev pub is_asked : List ℕ → List ℕ → Bool
is_asked nonce reply = is_whole reply && is_nonce_right nonce (last_of (frames_of reply))

abbrev pub reply_of : Option (List ℕ) → List ℕ → Option Used
reply_of None line = used_of line
reply_of (Some nonce) line =
    option_and_then (λ used. if_asked (is_asked nonce used.reply) used) (used_of line)

abbrev pub and_then : Option Used → List Used → List Used
and_then None rest = rest
and_then (Some used) rest = used ∷ rest

-- the replies of lines, in their order
unfoldable pub replies_of : Option (List ℕ) → List (List ℕ) → List Used
replies_of asked [] = []
replies_of asked (line ∷ lines) = and_then (reply_of asked line) (replies_of asked lines)

-- the only one
abbrev pub only : List Used → Option Used
only (used ∷ []) = Some used
only _ = None

-- the answer among lines: the only reply, or else the only one with the nonce
unfoldable pub answer_of : List ℕ → List (List ℕ) → Option Used
answer_of nonce lines =
    if length (replies_of None lines) == 1 then only (replies_of None lines)
    else only (replies_of (Some nonce) lines)

-- and among those of a text
abbrev pub answer_in : List ℕ → List ℕ → Option Used
answer_in nonce text = answer_of nonce (lines_of text)
