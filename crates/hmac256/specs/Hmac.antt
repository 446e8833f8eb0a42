-- HMAC (RFC 2104, section 2) with SHA-256 (FIPS 180-4), for keys of at most one block of 64 bytes,
-- and the MAC of frames (VIRTIO 1.2, 5.12.6). K0, ipad and opad are the standard's.
use Rattle.std.specs.Prelude.{ℕ, ◌-◌, List, ◌++◌, length, map, replicate, bit_xor}
use Rattle.std.specs.List.{flat_map}
use Rattle.sha2.specs.Sha256.{sha256}
use Rattle.rpmb_frame.specs.Frame.{body_of}

-- the bytes that ipad and opad repeat
abbrev pub ipad : ℕ
ipad = 0x36

abbrev pub opad : ℕ
opad = 0x5C

-- K0: the key, followed by zeros to the length of a block
abbrev pub padded_key : List ℕ → List ℕ
padded_key key = key ++ replicate (64 - length key) 0

-- the bytes, each xored with the byte that a pad repeats
abbrev pub xored : List ℕ → ℕ → List ℕ
xored bytes pad = map (λ byte. bit_xor byte pad) bytes

-- H((K0 xor opad) ++ H((K0 xor ipad) ++ text))
unfoldable pub hmac_of : List ℕ → List ℕ → List ℕ
hmac_of key text =
    sha256 (xored (padded_key key) opad ++ sha256 (xored (padded_key key) ipad ++ text))

-- the MAC of frames: the HMAC of their bodies, one after another
unfoldable pub mac : List ℕ → List (List ℕ) → List ℕ
mac key frames = hmac_of key (flat_map body_of frames)
