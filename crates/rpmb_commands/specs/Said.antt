-- The values that the words of a command say, or why they are refused.
use Rattle.std.specs.Prelude.{ℕ, ◌≡◌, ◌+◌, ◌-◌, nat_lt, if◌then◌else◌, List, [], ◌∷◌, Option}
use Rattle.std.specs.Prelude.{Some, None, Result, Ok, Err}
use Rattle.std.specs.Option.{option_copied}
use Rattle.std.specs.Borrow.{Bor}
use Rattle.rpmb_client.specs.Options.{IsWhyNoNonce, nonce_said, number_said}
use Rattle.rpmb_client.specs.declared.refusal.OptionRefusal.{OptionRefusal}
use Rattle.rpmb_client.specs.declared.refusal.Number.TheVariants as number
use Rattle.rpmb_commands.specs.Refusing.{refusal_of}
use Rattle.rpmb_commands.specs.declared.refusal.Refusal.{Refusal}
use Rattle.rpmb_commands.specs.declared.refusal.Refusal.TheVariants as refusal
use Rattle.rpmb_commands.specs.declared.words.Words.{Words}

-- a number, or its refusal
abbrev pub or_refusal : Result ℕ OptionRefusal → Result ℕ Refusal
or_refusal (Ok n) = Ok n
or_refusal (Err told) = Err (refusal_of told)

unfoldable pub guest_said : Words → Result ℕ Refusal
guest_said words = or_refusal (number_said words.guest 0 63 number.Guest)

unfoldable pub counter_said : Words → Result ℕ Refusal
counter_said words = or_refusal (number_said words.counter 0 4294967295 number.Counter)

unfoldable pub address_said : Words → Result ℕ Refusal
address_said words = or_refusal (number_said words.address 0 65535 number.Address)

-- how many blocks are to be read
unfoldable pub count_said : Words → Result ℕ Refusal
count_said words = or_refusal (number_said words.count 1 16 number.Count)

-- the most blocks of one write: 16, where none is said
abbrev pub most_of : Option (Bor (List ℕ)) → Result ℕ Refusal
most_of None = Ok 16
most_of (Some word) = or_refusal (number_said (Some word) 1 16 number.MaxBlocks)

unfoldable pub most_said : Words → Result ℕ Refusal
most_said words = most_of words.most

-- the blocks from an address on, of which the last is 65535 at most
abbrev pub range_of : Result ℕ Refusal → Result ℕ Refusal → Result (ℕ × ℕ) Refusal
range_of (Err told) count = Err told
range_of (Ok address) (Err told) = Err told
range_of (Ok address) (Ok count) =
    if nat_lt 65536 (address + count) then Err (refusal.PastEnd (address + count - 1))
    else Ok (address, count)

unfoldable pub range_said : Words → Result (ℕ × ℕ) Refusal
range_said words = range_of (address_said words) (count_said words)

-- the nonce, which has just 16 bytes
unfoldable pub nonce_of : Words → Option (List ℕ)
nonce_of words = nonce_said (option_copied words.nonce)

-- and why it is refused
abbrev pub IsWhyNonce : Words → Refusal → Type 0
IsWhyNonce words r =
    (told : OptionRefusal) × (r ≡ refusal_of told) × IsWhyNoNonce (option_copied words.nonce) told

-- the word of a command's one key
abbrev pub first_word : List (Bor (List ℕ)) → Option (Bor (List ℕ))
first_word [] = None
first_word (word ∷ words) = Some word

unfoldable pub key_word : Words → Option (Bor (List ℕ))
key_word words = first_word words.keys.items
