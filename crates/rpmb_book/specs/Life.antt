-- The whole life of a book: the turns that folds let go, and its history after them.
use Rattle.std.specs.Prelude.{ℕ, ◌≡◌, ◌++◌, ◌&&◌, not, Bool, if◌then◌else◌, is_some}
use Rattle.std.specs.Prelude.{List, [], ◌∷◌, length}
use Rattle.rpmb_book.specs.Turn.{Turn, Take, Settle, Collect, Break, State, move_some}
use Rattle.rpmb_book.specs.Replay.{replay, IsLegal}
use Rattle.rpmb_book.specs.Marks.{marks_for}
use Rattle.rpmb_book.specs.Book.{BookView, state, next_intent, may_settle, due_of}

-- These turns are all of a book's life, from the first opening on. Those that were folded are gone:
-- each was right where it stood, and they leave the book's opening. The others are its history.
pub record Lives (first : State) (turns : List Turn) (b : BookView) : Type 0 where
  pub gone : List Turn
  pub all : turns ≡ gone ++ b.history
  pub legal : IsLegal first gone
  pub opening : b.opening ≡ replay first gone
  pub folded : b.folded ≡ length gone

-- each life of a book goes on in the next book by these turns, which come last
abbrev pub GoesOn : BookView → List Turn → BookView → Type 0
GoesOn b new c = (first : State) (turns : List Turn) → Lives first turns b
    → Lives first (turns ++ new) c

-- a book of which nothing was folded has lived its history
abbrev pub Begins : Type 0
Begins = (b : BookView) → b.folded ≡ 0 → Lives b.opening b.history b

abbrev pub turn_if : Bool → Turn → List Turn
turn_if happens t = if happens then t ∷ [] else []

-- the turns of a call: none where it changes nothing
abbrev pub take_turns : BookView → List ℕ → ℕ → List Turn
take_turns b shares n = turn_if (is_some (next_intent b shares n)) (Take n)

abbrev pub settle_turns : BookView → List ℕ → List ℕ → List Turn
settle_turns b shares marks =
    turn_if (may_settle b shares marks && move_some (state b).guests marks)
    (Settle (marks_for (length (state b).guests) marks))

abbrev pub break_turns : BookView → List Turn
break_turns b = turn_if (not (state b).broken) Break

abbrev pub collect_turns : BookView → ℕ → List Turn
collect_turns b n = turn_if (is_some (due_of b n)) (Collect n)
