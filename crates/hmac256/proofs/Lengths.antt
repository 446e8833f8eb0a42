-- How long a MAC is.
use Rattle.std.proofs.Common.{◌≡◌, ◌++◌, ℕ, List, length}
use Rattle.std.specs.List.{flat_map}
use Rattle.sha2.specs.Sha256.{sha256}
use Rattle.sha2.proofs.Facts256.{length-sha256}
use Rattle.rpmb_frame.specs.Frame.{body_of}
use Rattle.hmac256.specs.Hmac.{ipad, opad, padded_key, xored, hmac_of, mac}

-- a MAC has 32 bytes, whatever the key and the frames
pub length-mac : (key : List ℕ) (frames : List (List ℕ)) → length (mac key frames) ≡ 32
unfolding hmac_of mac
length-mac key frames = length-sha256 (xored (padded_key key) opad
    ++ sha256 (xored (padded_key key) ipad ++ flat_map body_of frames))
