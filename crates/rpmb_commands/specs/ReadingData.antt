-- The bytes that `read-data` writes, by its words and the lines that it is given.
use Rattle.std.specs.Prelude.{ℕ, ◌≡◌, ◌<◌, Bool, if◌then◌else◌, List, [], Option}
use Rattle.std.specs.Prelude.{None, Some}
use Rattle.std.specs.Prelude.{Result, Ok, Err, IfErr, IfSome, OnOk, length}
use Rattle.std.specs.Borrow.{Bor}
use Rattle.std.specs.Io.KnownBytes.{Appends}
use Rattle.script.specs.Script.{lines_of}
use Rattle.rpmb_client.specs.Answer.{Read, Used, answer_in, blocks, no_frames, other_response}
use Rattle.rpmb_client.specs.Answer.{read_of, refused, replies_of, wrong_mac, wrong_nonce}
use Rattle.rpmb_client.specs.Blocks.{cut}
use Rattle.rpmb_client.specs.Explained.{is_wrong}
use Rattle.rpmb_client.specs.Finding.{IsFinder, counted}
use Rattle.rpmb_client.specs.Options.{number_said}
use Rattle.rpmb_client.specs.declared.choosing.Finder.{Finder}
use Rattle.rpmb_client.specs.declared.refusal.Number.TheVariants as number
use Rattle.rpmb_commands.specs.Explaining.{IsCut}
use Rattle.rpmb_commands.specs.KeySaid.{IsWhyNoKeySaid, SaysKey}
use Rattle.rpmb_commands.specs.Refusing.{IsOfReading, KeepsUnless}
use Rattle.rpmb_commands.specs.Said.{IsWhyNonce, key_word, nonce_of, or_refusal}
use Rattle.rpmb_commands.specs.declared.refusal.AnswerRefusal.TheVariants as answer
use Rattle.rpmb_commands.specs.declared.refusal.Refusal.{Refusal}
use Rattle.rpmb_commands.specs.declared.refusal.Refusal.TheVariants as refusal
use Rattle.rpmb_commands.specs.declared.words.Words.{Words}

-- 0. What is read

-- what comes of all lines of a text
abbrev pub IsSought : List ℕ → List ℕ → Finder → Type 0
IsSought nonce text finder =
    (lines : List (List ℕ)) × IsCut text lines [] × IsFinder nonce lines finder

-- 1. What is written

-- the number of --length, or its refusal
unfoldable pub length_said : Bor (List ℕ) → Result ℕ Refusal
length_said word = or_refusal (number_said (Some word) 0 4096 number.Length)

-- all bytes, or as many as --length says
abbrev pub AreFirst : Option (Bor (List ℕ)) → List ℕ → List ℕ → Type 0
AreFirst None all bytes = bytes ≡ all
AreFirst (Some word) all bytes =
    (n : ℕ) × (length_said word ≡ Ok n) × (cut n all ≡ Some bytes)

-- these are written
pub record GivesFirst (length : Option (Bor (List ℕ))) (all : List ℕ)
    (start now : Option (List ℕ)) : Type 0 where
  pub bytes : List ℕ
  pub first : AreFirst length all bytes
  pub printed : Appends start now bytes

-- the answer among lines, which a read's it is, with its MAC and its nonce
pub record IsAnswered (key nonce text all : List ℕ) : Type 0 where
  pub used : Used
  pub answer : answer_in nonce text ≡ Some used
  pub right : read_of key nonce used.reply ≡ blocks all

pub record GivesData (gives : List ℕ → List ℕ → Type 0) (words : Words) (given : Option (List ℕ))
    (start now : Option (List ℕ)) : Type 0 where
  pub key : List ℕ
  pub nonce : List ℕ
  pub all : List ℕ
  pub key_is : SaysKey gives (key_word words) key
  pub nonce_is : nonce_of words ≡ Some nonce
  pub answered : IfSome given (λ text. IsAnswered key nonce text all)
  pub printed : GivesFirst words.length all start now

-- 2. Why nothing is written

abbrev pub replies_in : Option (List ℕ) → List ℕ → List Used
replies_in asked text = replies_of asked (lines_of text)

-- the lines aren't read, or have no answer: then it is told how many replies there are, and how
-- many of these with the nonce
pub data WhyNoAnswer (nonce text : List ℕ) (r : Refusal) : Type 0 where
  answer_unread : IsOfReading r → WhyNoAnswer nonce text r
  answer_none : answer_in nonce text ≡ None
      → r ≡ refusal.Answer (answer.NoAnswer (counted (replies_in None text))
      (counted (replies_in (Some nonce) text)))
      → WhyNoAnswer nonce text r

-- why a MAC isn't right: it is wrong, or there is none for want of a key
abbrev pub no_right_mac : Bool → Refusal
no_right_mac is_wrong = refusal.Answer (if is_wrong then answer.WrongMac else answer.NoKey)

-- how a read that gives no blocks is told, of a key and a reply
abbrev pub IsTold : List ℕ → List ℕ → Read → Refusal → Type 0
IsTold key reply (blocks all) r = ⊥
IsTold key reply no_frames r = r ≡ refusal.Answer (answer.NoFrames (length reply))
IsTold key reply wrong_mac r = r ≡ no_right_mac (is_wrong reply (Some key) None)
IsTold key reply wrong_nonce r = r ≡ refusal.Answer answer.WrongNonce
IsTold key reply (other_response kind) r = r ≡ refusal.Answer (answer.OtherResponse kind)
IsTold key reply (refused code) r = r ≡ refusal.Answer (answer.Refused code)

pub data WhyNotRead (key nonce reply : List ℕ) (r : Refusal) : Type 0 where
  read_memory : r ≡ refusal.NoMemory → WhyNotRead key nonce reply r
  read_refused : IsTold key reply (read_of key nonce reply) r → WhyNotRead key nonce reply r

-- the answer that there is gives no blocks
pub data WhyNoBlocks (key nonce text : List ℕ) (r : Refusal) : Type 0 where
  blocks_answer : WhyNoAnswer nonce text r → WhyNoBlocks key nonce text r
  blocks_read : (used : Used) → answer_in nonce text ≡ Some used
      → WhyNotRead key nonce used.reply r → WhyNoBlocks key nonce text r

-- as many bytes as --length says aren't there, or it says no number
pub data WhyNotSoMany (word : Bor (List ℕ)) (all : List ℕ) (r : Refusal) : Type 0 where
  many_number : length_said word ≡ Err r → WhyNotSoMany word all r
  many_short : (n : ℕ) → length_said word ≡ Ok n → length all < n
      → r ≡ refusal.Answer (answer.TooShort n (length all)) → WhyNotSoMany word all r

abbrev pub WhyNotFirst : Option (Bor (List ℕ)) → List ℕ → Refusal → Type 0
WhyNotFirst None all r = ⊥
WhyNotFirst (Some word) all r = WhyNotSoMany word all r

pub data WhyNotGiven (length : Option (Bor (List ℕ))) (all : List ℕ) (r : Refusal) : Type 0 where
  given_first : WhyNotFirst length all r → WhyNotGiven length all r
  given_room : r ≡ refusal.NoRoom → WhyNotGiven length all r

-- the first of these that is so
pub data WhyNoData (gives : List ℕ → List ℕ → Type 0) (words : Words) (given : Option (List ℕ))
    (r : Refusal) : Type 0 where
  data_key : IsWhyNoKeySaid gives (key_word words) r → WhyNoData gives words given r
  data_nonce : (key : List ℕ) → SaysKey gives (key_word words) key → IsWhyNonce words r
      → WhyNoData gives words given r
  data_blocks : (key nonce : List ℕ) → SaysKey gives (key_word words) key
      → nonce_of words ≡ Some nonce → IfSome given (λ text. WhyNoBlocks key nonce text r)
      → WhyNoData gives words given r
  data_first : (key nonce all : List ℕ) → SaysKey gives (key_word words) key
      → nonce_of words ≡ Some nonce → IfSome given (λ text. IsAnswered key nonce text all)
      → WhyNotGiven words.length all r → WhyNoData gives words given r

-- nothing is written where it is refused, unless standard output took no more
pub record ReadDataDoes (gives : List ℕ → List ℕ → Type 0) (words : Words)
    (given : Option (List ℕ)) (start : Option (List ℕ)) (ended : Result (Unit {0}) Refusal)
    (now : Option (List ℕ)) : Type 0 where
  pub printed : OnOk ended (GivesData gives words given start now)
  pub refused : IfErr ended (WhyNoData gives words given)
  pub silent : IfErr ended (λ r. KeepsUnless r start now)
