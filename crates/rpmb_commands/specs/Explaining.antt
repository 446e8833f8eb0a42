-- What `explain` prints of the lines of a run.
use Rattle.std.specs.Prelude.{ℕ, ◌≡◌, ◌≢◌, ◌++◌, ◌∷◌, [], Bool, false, true, if◌then◌else◌, nat_eq}
use Rattle.std.specs.Prelude.{List, Option, Some, None, codes, Result, Ok, Err, IfErr, IfOk}
use Rattle.std.specs.Prelude.{IfSome, nat_lt, ◌==◌, ◌||◌}
use Rattle.std.specs.Io.BufRead.{drop_through, take_through}
use Rattle.std.specs.Io.KnownBytes.{Appends}
use Rattle.std.specs.List.{ends_with, flat_map, list_any, starts_with}
use Rattle.std.specs.Str.{bytes_eq}
use Rattle.script.specs.Words.{words_of}
use Rattle.rpmb_client.specs.Answer.{Used, used_of}
use Rattle.rpmb_client.specs.Explained.{is_refused, is_wrong, reply_told}
use Rattle.rpmb_client.specs.Keys.{key_for}
use Rattle.rpmb_commands.specs.LineObject.{line_object}
use Rattle.rpmb_commands.specs.KeysSaid.{AddsKeys, KeysSaid, keys_seen, no_keys}
use Rattle.rpmb_commands.specs.Said.{nonce_of}
use Rattle.rpmb_commands.specs.declared.counts.Counts.{Counts}
use Rattle.rpmb_commands.specs.declared.explaining.Judge.{Judge}
use Rattle.rpmb_commands.specs.declared.refusal.AnswerRefusal.TheVariants as answer
use Rattle.rpmb_commands.specs.declared.refusal.Refusal.{Refusal}
use Rattle.rpmb_commands.specs.declared.refusal.Refusal.TheVariants as refusal
use Rattle.rpmb_commands.specs.declared.words.Words.{Words}

-- 1. A line

-- what replies are judged by: the keys of guests, and the nonce that was asked with; and whether
-- all is told in JSON
pub record Judging : Type 0 where
  pub keys : KeysSaid
  pub nonce : Option (List ℕ)
  pub as_json : Bool

abbrev pub judging_of : Judge → Judging
judging_of judge =
    record { keys = keys_seen judge.keys.now; nonce = judge.nonce; as_json = judge.as_json }

abbrev pub key_of : Judging → ℕ → Option (List ℕ)
key_of by guest = key_for by.keys.own by.keys.others guest

-- the word that a line begins with that gives a reply, by itself, or behind a byte order mark or a
-- tab
abbrev pub is_used : List ℕ → Bool
is_used word =
    bytes_eq word (codes "used")
    || (bytes_eq word (239 ∷ 187 ∷ 191 ∷ codes "used") || bytes_eq word (9 ∷ codes "used"))

abbrev pub has_used : List ℕ → Bool
has_used line = list_any is_used (words_of line)

abbrev pub begins_so : List ℕ → Bool
begins_so line = starts_with nat_eq line (codes "used")

-- a line that gives no reply was torn where it begins as those that do, or has that word further on
abbrev pub is_torn : List ℕ → Bool
is_torn line = begins_so line || has_used line

-- and is of a script where it begins as those of one
abbrev pub has_script_bytes : List ℕ → Bool
has_script_bytes line =
    starts_with nat_eq line (codes "chain ") || starts_with nat_eq line (codes "store ")

abbrev pub is_of_script : List ℕ → Bool
is_of_script line = has_script_bytes line || starts_with nat_eq line (codes "reset ")

-- so it is no answer; any other line may be
abbrev pub is_no_answer : List ℕ → Bool
is_no_answer line = is_torn line || is_of_script line

-- what stands behind it

abbrev pub ends_in_return : List ℕ → Bool
ends_in_return line = ends_with nat_eq line (13 ∷ [])

abbrev pub torn_mark : List ℕ → List ℕ
torn_mark line =
    if ends_in_return line
    then codes " (torn: it ends with a carriage return; tr -d '\\r' takes those away)"
    else (if begins_so line then codes " (torn: expected `used G LEN HEX`)"
    else codes " (torn: something stands before `used`, with which a line begins)")

abbrev pub mark_of : List ℕ → List ℕ
mark_of line =
    if is_torn line then torn_mark line
    else (if is_of_script line then codes " (of a script: expected what `rpmbd run` prints)" else
    [])

-- a line that gives no reply, as it is or in an object; a reply, in lines or in objects
abbrev pub other_told : Bool → List ℕ → List ℕ
other_told as_json line =
    if as_json then line_object line (is_torn line) (is_of_script line)
    else line ++ (mark_of line ++ 10 ∷ [])

abbrev pub told_of : Judging → Option Used → List ℕ → List ℕ
told_of by None line = other_told by.as_json line
told_of by (Some used) line =
    reply_told by.as_json used.guest used.reply (key_of by used.guest) by.nonce

unfoldable pub line_told : Judging → List ℕ → List ℕ
line_told by line = told_of by (used_of line) line

-- whether it is no answer, or a MAC or a nonce of its reply is wrong, and whether it says that a
-- request was refused
abbrev pub is_wrong_of : Judging → Option Used → List ℕ → Bool
is_wrong_of by None line = is_no_answer line
is_wrong_of by (Some used) line = is_wrong used.reply (key_of by used.guest) by.nonce

abbrev pub is_refused_of : Option Used → Bool
is_refused_of None = false
is_refused_of (Some used) = is_refused used.reply

abbrev pub has_wrong : Judging → List ℕ → Bool
has_wrong by line = is_wrong_of by (used_of line) line

abbrev pub has_refused : List ℕ → Bool
has_refused line = is_refused_of (used_of line)

-- whether it gives a reply
abbrev pub is_answer_of : Option Used → Bool
is_answer_of None = false
is_answer_of (Some used) = true

abbrev pub is_answer : List ℕ → Bool
is_answer line = is_answer_of (used_of line)

-- 2. All lines

-- a line without its line feed
abbrev pub without_feed : List ℕ → List ℕ
without_feed [] = []
without_feed (x ∷ []) = if x == 10 then [] else x ∷ []
without_feed (x ∷ y ∷ rest) = x ∷ without_feed (y ∷ rest)

-- what is read next of a text: its first line with its line feed, or nothing where it ends
abbrev pub IsNext : List ℕ → Bool → List ℕ → Option (List ℕ) → Type 0
IsNext text true line after =
    (text ≢ []) × (line ≡ take_through 10 text) × (after ≡ Some (drop_through 10 text))
IsNext text false line after = text ≡ []

-- these are the first lines of a text, and this the rest
abbrev pub IsCut : List ℕ → List (List ℕ) → List ℕ → Type 0
IsCut text [] rest = text ≡ rest
IsCut text (line ∷ lines) rest =
    (text ≢ []) × (line ≡ without_feed (take_through 10 text))
    × IsCut (drop_through 10 text) lines rest

-- they were told, and so many of them are wrong, or say that a request was refused: none, or some;
-- and whether one of them gives a reply
pub record Said (by : Judging) (text rest : List ℕ) (start now : Option (List ℕ))
    (wrong refused : ℕ) (has_answer : Bool) : Type 0 where
  pub lines : List (List ℕ)
  pub cut : IsCut text lines rest
  pub printed : Appends start now (flat_map (line_told by) lines)
  pub wrong_is : nat_lt 0 wrong ≡ list_any (has_wrong by) lines
  pub refused_is : nat_lt 0 refused ≡ list_any has_refused lines
  pub answer_is : has_answer ≡ list_any is_answer lines

-- all lines of what is read, where that is known
abbrev pub SaysAll : Judging → Option (List ℕ) → (start now : Option (List ℕ)) → (wrong refused : ℕ)
    → Bool → Type 0
SaysAll by given start now wrong refused has_answer =
    IfSome given (λ text. Said by text [] start now wrong refused has_answer)

-- 3. How it ends

-- any refusal but those that tell of answers
abbrev pub IsOther : Refusal → Type 0
IsOther (refusal.Answer (answer.NoReply lines)) = ⊥
IsOther (refusal.Answer (answer.WrongAnswer replies wrong doubt)) = ⊥
IsOther (refusal.Answer (answer.RefusedAnswer replies refused results)) = ⊥
IsOther r = Unit {0}

-- a wrong line is told first, then that no reply came, and then a refused request
abbrev pub told_right : Counts → Result (Unit {0}) Refusal
told_right counts =
    if nat_lt 0 counts.refused
    then Err (refusal.Answer (answer.RefusedAnswer counts.replies counts.refused counts.results))
    else Ok tt

abbrev pub told_replies : Counts → Result (Unit {0}) Refusal
told_replies counts =
    if counts.has_answer then told_right counts
    else Err (refusal.Answer (answer.NoReply counts.lines))

abbrev pub told_counts : Result Counts Refusal → Result (Unit {0}) Refusal
told_counts (Ok counts) =
    if nat_lt 0 counts.wrong
    then Err (refusal.Answer (answer.WrongAnswer counts.replies counts.wrong counts.doubt))
    else told_replies counts
told_counts (Err r) = Err r

-- the nonce of the words, where there is one
abbrev pub AsksNonce : Words → Option (List ℕ) → Type 0
AsksNonce words None = words.nonce ≡ None
AsksNonce words (Some nonce) = nonce_of words ≡ Some nonce

-- all lines were told by these keys, and by what the words say
pub record ExplainsBy (keys : KeysSaid) (words : Words) (given start now : Option (List ℕ))
    (counts : Counts) : Type 0 where
  pub by : Judging
  pub keys_are : by.keys ≡ keys
  pub nonce : AsksNonce words by.nonce
  pub form : by.as_json ≡ words.json
  pub told : SaysAll by given start now counts.wrong counts.refused counts.has_answer

-- and the keys are those that the words say
pub record Explains (gives : List ℕ → List ℕ → Type 0) (words : Words) (given : Option (List ℕ))
    (start now : Option (List ℕ)) (counts : Counts) : Type 0 where
  pub keys : KeysSaid
  pub keys_are : AddsKeys gives words.keys.items no_keys keys
  pub told : ExplainsBy keys words given start now counts

-- It ends by what was found in them; with any other refusal nothing is said of what it printed.
pub record ExplainDoes (gives : List ℕ → List ℕ → Type 0) (words : Words)
    (given : Option (List ℕ)) (start : Option (List ℕ)) (ended : Result (Unit {0}) Refusal)
    (now : Option (List ℕ)) : Type 0 where
  pub counted : Result Counts Refusal
  pub told : ended ≡ told_counts counted
  pub explained : IfOk counted (Explains gives words given start now)
  pub other : IfErr counted IsOther
