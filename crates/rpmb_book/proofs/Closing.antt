-- Replies whose MAC is made later.
use Rattle.std.proofs.Common.{◌≡◌, ◌≤◌, ◌<◌, ◌+◌, ◌-◌, ◌*◌, ◌/◌, ◌∙◌, ℕ, List, Option, None, Some}
use Rattle.std.proofs.Common.{length, refl, ap, sym, arith}
use Rattle.rpmb_book.proofs.Common.{Job, done_of, closed, failed}
use Rattle.rpmb_frame.specs.Request.{frames_of}
use Rattle.hmac256.specs.Hmac.{mac}
use Rattle.rpmb_core.proofs.Closing.{close_is, closed_nothing, length-closed}
use Rattle.rpmb_core.proofs.Sealing.{put}
use Rattle.rpmb_book.specs.Receipt.{with_mac}
use Rattle.rpmb_core.proofs.Failing.{length-failure_frame}

-- a failure takes the place of a reply whether its MAC was made or not
pub failed_closed : (kind code : ℕ) (key : Option (List ℕ)) (bytes : List ℕ)
    → length bytes ≡ 512 * (length bytes / 512)
    → failed kind code (closed key bytes) ≡ failed kind code bytes
failed_closed kind code key bytes whole = grind (arith, length-closed)

-- and fits there
pub record IsWholeWithin (room : ℕ) (bytes : List ℕ) : Type 0 where
  pub fits : length bytes ≤ room
  pub whole : length bytes ≡ 512 * (length bytes / 512)

pub failed_within : (kind code room : ℕ) (bytes : List ℕ) → length bytes ≤ room
    → length bytes ≡ 512 * (length bytes / 512) → IsWholeWithin room (failed kind code bytes)
failed_within kind code room bytes fits whole = grind (arith, length-failure_frame)

pub open_done : (job : Job) (bytes : List ℕ) (need : ℕ) → done_of job (closed None bytes) need
    ≡ done_of job bytes need
unfolding closed
open_done job bytes need = refl

-- a reply without frames gets no MAC
pub nothing_closes : (key : Option (List ℕ)) (bytes : List ℕ) → length bytes ≡ 0
    → closed key bytes ≡ bytes
unfolding closed
nothing_closes None bytes none = refl
nothing_closes (Some key) bytes none = sym (closed_nothing key bytes none)

-- and one without a key none
pub open_closes : (bytes : List ℕ) → closed None bytes ≡ bytes
unfolding closed
open_closes bytes = refl

-- any other is closed by the MAC of its frames
pub mac_closes : (key tag bytes : List ℕ) (frames : List (List ℕ))
    → length bytes ≡ 512 * (length bytes / 512) → 0 < length bytes / 512
    → frames ≡ frames_of bytes → tag ≡ mac key frames → closed (Some key) bytes
    ≡ with_mac (Some tag) bytes
mac_closes key tag bytes frames whole some are is =
    let at : 512 * (length bytes / 512 - 1) + 196 ≡ length bytes - 316 =
    omega (arith, whole, some) in
    sym (close_is key 32 (length bytes / 512) frames tag bytes (omega (arith, some)) refl whole refl
    are is) ∙ ap (λ k. put k 32 tag bytes) at
