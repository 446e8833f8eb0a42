-- The write counter that a client takes from a reply.
use Rattle.std.specs.Prelude.{ℕ, ◌≡◌, ◌==◌, ◌&&◌, if◌then◌else◌, Bool, List, Option, Some, None}
use Rattle.std.specs.Prelude.{option_and_then}
use Rattle.std.specs.Option.{option_copied}
use Rattle.script.specs.Script.{lines_of}
use Rattle.rpmb_frame.specs.Codes.{res_ok, resp_get_counter}
use Rattle.rpmb_frame.specs.Frame.{last_of, req_resp_of, result_of, write_counter_of}
use Rattle.rpmb_frame.specs.Request.{frames_of}
use Rattle.rpmb_client.specs.Answer.{answer_of, is_mac_right, is_nonce_right, is_whole}
use Rattle.rpmb_client.specs.Options.{nonce_said}
use Rattle.rpmb_commands.specs.KeySaid.{SaysKey}
use Rattle.rpmb_commands.specs.Said.{key_word}
use Rattle.rpmb_commands.specs.declared.words.Words.{Words}

-- the device answered this request: the MAC of all frames under the key, and the nonce
abbrev pub is_authentic : List ℕ → List ℕ → List ℕ → Bool
is_authentic key nonce reply =
    is_whole reply && (is_mac_right key (frames_of reply)
    && is_nonce_right nonce (last_of (frames_of reply)))

-- a frame is the response to a reading of the counter that succeeded
abbrev pub is_counter : List ℕ → Bool
is_counter frame =
    req_resp_of frame == resp_get_counter && result_of frame == res_ok

-- the counter of a reply, where a client may write under it
unfoldable pub counter_said : List ℕ → List ℕ → List ℕ → Option ℕ
counter_said key nonce reply =
    if is_authentic key nonce reply && is_counter (last_of (frames_of reply))
    then Some (write_counter_of (last_of (frames_of reply))) else None

-- the counter that the answer among lines says, by the key and the nonce of the words
pub record IsCounterSaid (gives : List ℕ → List ℕ → Type 0) (words : Words) (lines : List ℕ)
    (counter : Option ℕ) : Type 0 where
  pub key : List ℕ
  pub nonce : List ℕ
  pub key_is : SaysKey gives (key_word words) key
  pub nonce_is : nonce_said (option_copied words.nonce) ≡ Some nonce
  pub said : counter ≡ option_and_then (λ used. counter_said key nonce used.reply)
      (answer_of nonce (lines_of lines))
