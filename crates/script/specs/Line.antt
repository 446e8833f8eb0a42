-- What a script's line says.
use Rattle.std.specs.Prelude.{ℕ, min, ◌+◌, ◌<◌, ◌≤◌, ◌^◌, ◌==◌, ◌||◌, nat_lt, nat_le, ⊤, Bool}
use Rattle.std.specs.Prelude.{if◌then◌else◌, List, [], ◌∷◌, length, slice_index, codes, Option}
use Rattle.std.specs.Prelude.{Some, None, option_and_then, option_map}
use Rattle.std.specs.Str.{bytes_eq}
use Rattle.script.specs.Words.{bytes_of, number_of, words_of}
use Rattle.script.specs.declared.line.Line.{Line}
use Rattle.script.specs.declared.line.Line.TheVariants as line

-- what a line may say: nothing, that a guest offers these readable bytes and so many writable,
-- that these bytes go into a guest's memory at an address, or that a guest's device is reset
pub data Said : Type 0 where
  nothing : Said
  chain : ℕ → List ℕ → ℕ → Said
  store : ℕ → ℕ → List ℕ → Said
  reset : ℕ → Said

-- what the code's line says
abbrev pub said : Line → Said
said line.Nothing = nothing
said (line.Chain guest readable writable) = chain guest readable.items writable
said (line.Store guest address bytes) = store guest address bytes.items
said (line.Reset guest) = reset guest

-- the number of a guest of the board
abbrev pub guest_of : ℕ → List ℕ → Option ℕ
guest_of guests word =
    option_and_then (λ g. if nat_lt g guests then Some g else None) (number_of word)

-- the bytes of a readable part, and the length of a writable one
abbrev pub readable_of : List ℕ → Option (List ℕ)
readable_of word =
    option_and_then (λ bytes. if nat_le (length bytes) 8704 then Some bytes else None)
    (bytes_of word)

abbrev pub writable_of : List ℕ → Option ℕ
writable_of word = option_and_then (λ w. if nat_le w 8192 then Some w else None) (number_of word)

-- a chain has some byte
abbrev pub chain_of : ℕ → List ℕ → ℕ → Option Said
chain_of g bytes w = if nat_lt 0 (length bytes + w) then Some (chain g bytes w) else None

-- the words G, HEX and W after the word `chain`
abbrev pub chain_line : ℕ → List ℕ → List ℕ → List ℕ → Option Said
chain_line guests g hex w =
    option_and_then (λ guest. option_and_then (λ readable. option_and_then (λ writable.
    chain_of guest readable writable) (writable_of w)) (readable_of hex)) (guest_of guests g)

-- the bytes of a store, at least one
abbrev pub stored_of : List ℕ → Option (List ℕ)
stored_of word =
    option_and_then (λ bytes. if nat_lt 0 (length bytes) then Some bytes else None) (bytes_of word)

-- the words G, ADDR and HEX after the word `store`
abbrev pub store_line : ℕ → List ℕ → List ℕ → List ℕ → Option Said
store_line guests g addr hex =
    option_and_then (λ guest. option_and_then (λ address. option_map (λ bytes.
    store guest address bytes) (stored_of hex)) (number_of addr)) (guest_of guests g)

-- the word G after the word `reset`
abbrev pub reset_line : ℕ → List ℕ → Option Said
reset_line guests g = option_map (λ guest. reset guest) (guest_of guests g)

-- a line in its words
abbrev pub line_of_words : ℕ → List (List ℕ) → Option Said
line_of_words guests (command ∷ g ∷ []) =
    if bytes_eq command (codes "reset") then reset_line guests g else None
line_of_words guests (command ∷ g ∷ second ∷ third ∷ []) =
    if bytes_eq command (codes "chain") then chain_line guests g second third
    else if bytes_eq command (codes "store") then store_line guests g second third
    else None
line_of_words guests _ = None

-- an empty line, or one that begins with `#`
abbrev pub is_skipped : List ℕ → Bool
is_skipped text = length text == 0 || slice_index text 0 == 35

-- what the line says to a board of so many guests; none where a script may not say it
unfoldable pub line_of : ℕ → List ℕ → Option Said
line_of guests text = if is_skipped text then Some nothing else line_of_words guests (words_of text)

-- what is said keeps to the board, to the sizes of a chain and to those of a store
abbrev pub IsWithin : ℕ → Said → Type 0
IsWithin guests nothing = ⊤
IsWithin guests (chain g bytes w) =
    (g < guests) × (length bytes ≤ 8704) × (w ≤ 8192) × (0 < length bytes + w)
IsWithin guests (store g address bytes) = (g < guests) × (address < 2 ^ 64) × (0 < length bytes)
IsWithin guests (reset g) = g < guests

-- the guest that a line stores for, and the address behind its last byte, at most 2^64 - 1
abbrev pub stored_up_to : Said → Option (ℕ × ℕ)
stored_up_to nothing = None
stored_up_to (chain g bytes w) = None
stored_up_to (store g address bytes) = Some (g, min (address + length bytes) 18446744073709551615)
stored_up_to (reset g) = None

-- what a script may say whose guests are served at once: all but a store, since a guest's memory is
-- its driver's then
abbrev pub IsServed : Said → Type 0
IsServed nothing = ⊤
IsServed (chain g bytes w) = ⊤
IsServed (store g address bytes) = ⊥
IsServed (reset g) = ⊤

abbrev pub unless_store : Said → Option Said
unless_store nothing = Some nothing
unless_store (chain g bytes w) = Some (chain g bytes w)
unless_store (store g address bytes) = None
unless_store (reset g) = Some (reset g)

abbrev pub served_line_of : ℕ → List ℕ → Option Said
served_line_of guests text = option_and_then unless_store (line_of guests text)

-- what a line says in a script that is served, or in one that is run
abbrev pub line_when : Bool → ℕ → List ℕ → Option Said
line_when served guests = if served then served_line_of guests else line_of guests
