-- The steps that hand on what was accepted leave the chains that were popped, and how many of them
-- wait for their answers.
use Rattle.std.proofs.Common.{◌≡◌, refl, ap, ◌∙◌, ℕ, ◌+◌, Bool, true, false, Option, Some, None}
use Rattle.std.proofs.Common.{length, arith}
use Rattle.std.specs.Prelude.{option_map, if◌then◌else◌, ◌==◌}
use Rattle.machine.proofs.Common.{◌&&◌, slice_get, is_some, Answer, AdvancesUnder, BoardState}
use Rattle.machine.proofs.Common.{Boards, Fault, GivesWhere, Intent, Makes, Marks}
use Rattle.machine.proofs.Common.{OutboxMakes, OutboxState, Report, SettlesBy, TakesInto, board_of}
use Rattle.machine.proofs.Common.{in_place, outbox_state}
use Rattle.board.proofs.Common.{length-map}
use Rattle.rpmb_book.proofs.ByGuest.{by_guest}
use Rattle.rpmb_book.proofs.Replay.{replay-push}
use Rattle.rpmb_book.specs.Book.{BookView, guest_of, may_settle, next_intent, state, with_turn}
use Rattle.rpmb_book.specs.ByGuest.{broken_when, guest_after}
use Rattle.rpmb_book.specs.Guest.{GuestState, kept_or_failed, took}
use Rattle.rpmb_book.specs.Marks.{marks_for, settled_to}
use Rattle.rpmb_book.specs.Turn.{Turn, Take, Settle, Break, move_some}
use Rattle.board.specs.State.{count_held, count_in, waiting}
use Rattle.board.specs.declared.step.Step.TheVariants as step
use Rattle.machine.specs.Serving.{KeepsWaiting}

mapped : (f : GuestState → GuestState) → ((x : GuestState) → length (f x).held ≡ length x.held)
    → (o : Option GuestState) → count_held (option_map f o) ≡ count_held o
mapped f keeps None = refl
mapped f keeps (Some x) = keeps x

-- a turn by which no reply of the guest leaves or joins the book
turned : (b : BookView) (t : Turn) (k : ℕ) → ((x : GuestState)
    → length (guest_after k (state b).broken t x).held ≡ length x.held)
    → count_held (guest_of (with_turn b t) k) ≡ count_held (guest_of b k)
turned b t k keeps =
    ap (λ s. count_held (slice_get s.guests k)) (replay-push b.opening b.history t)
    ∙ ap count_held (by_guest (state b) t k)
    ∙ mapped (guest_after k (state b).broken t) keeps (guest_of b k)

took_held : (n k : ℕ) (x : GuestState) → length (if n == k then took x else x).held
    ≡ length x.held
took_held n k x = grind arith

settled_held : (mark : Option ℕ) (x : GuestState) → length (settled_to mark x).held
    ≡ length x.held
settled_held None x = refl
settled_held (Some m) x = refl

broken_held : (broken : Bool) (x : GuestState) → length (broken_when broken x).held
    ≡ length x.held
broken_held true x = refl
broken_held false x = length-map x.held (kept_or_failed x.settled)

-- the turn is made, or none is
turned_where : (v : Bool) (b : BookView) (t : Turn) (k : ℕ) → ((x : GuestState)
    → length (guest_after k (state b).broken t x).held ≡ length x.held)
    → count_held (guest_of (if v then with_turn b t else b) k) ≡ count_held (guest_of b k)
turned_where true b t k keeps = turned b t k keeps
turned_where false b t k keeps = refl

broken_off : (v : Bool) (b : BookView) (k : ℕ)
    → count_held (guest_of (if v then b else with_turn b Break) k) ≡ count_held (guest_of b k)
broken_off true b k = refl
broken_off false b k = turned b Break k (broken_held (state b).broken)

module _ (k : ℕ) (old new : BoardState OutboxState) where
  waits_by : count_held (guest_of new.book k) ≡ count_held (guest_of old.book k)
      → new.jobs ≡ old.jobs → new.dones ≡ old.dones → KeepsWaiting k old new
  waits_by held jobs dones = (
    jobs,
    ap (λ n. n + count_in (in_place (slice_get new.jobs k))
        + count_in (in_place (slice_get new.dones k))) held
        ∙ ap (λ js. count_held (guest_of old.book k) + count_in (in_place (slice_get js k))
        + count_in (in_place (slice_get new.dones k))) jobs
        ∙ ap (λ ds. count_held (guest_of old.book k) + count_in (in_place (slice_get old.jobs k))
        + count_in (in_place (slice_get ds k))) dones,
  )

  same_book : new.book ≡ old.book → new.jobs ≡ old.jobs → new.dones ≡ old.dones
      → KeepsWaiting k old new
  same_book book jobs dones = waits_by (ap (λ b. count_held (guest_of b k)) book) jobs dones

  idles : new ≡ old → KeepsWaiting k old new
  idles is = same_book (ap (λ b. b.book) is) (ap (λ b. b.jobs) is) (ap (λ b. b.dones) is)

  take_waits : (g : ℕ) (answer : Answer) (place : Option (Option Intent))
      → TakesInto g place answer old new → KeepsWaiting k old new
  take_waits g answer None does = idles does.1
  take_waits g answer (Some (Some i)) does = idles does.1
  take_waits g answer (Some None) does = waits_by
      (ap (λ b. count_held (guest_of b.book k)) does.1
      ∙ turned_where (is_some (next_intent old.book old.shares g)) old.book (Take g) k
      (took_held g k))
      (ap (λ b. b.jobs) does.1) (ap (λ b. b.dones) does.1)

  give_waits : (g : ℕ) (answer : Answer) (free : Bool) (i : Option Intent)
      → GivesWhere g free i answer old new → KeepsWaiting k old new
  give_waits g answer false i does = idles does.1
  give_waits g answer true None does = idles does.1
  give_waits g answer true (Some i) does =
      same_book (ap (λ b. b.book) does.1) (ap (λ b. b.jobs) does.1) (ap (λ b. b.dones) does.1)

  advance_waits : (answer : Answer) (r : Option Report)
      → AdvancesUnder outbox_state OutboxMakes r answer old new → KeepsWaiting k old new
  advance_waits answer (Some r) does = idles does.1
  advance_waits answer None does = same_book (ap (λ b. b.book) does.after)
      (ap (λ b. b.jobs) does.after) (ap (λ b. b.dones) does.after)

  settle_waits : (answer : Answer) (r : Option Report) → SettlesBy r answer old new
      → KeepsWaiting k old new
  settle_waits answer None does = idles does.1
  settle_waits answer (Some (Marks marks)) does =
      let all = marks_for (length (state old.book).guests) marks in
      waits_by
      (ap (λ b. count_held (guest_of b.book k)) does.1
      ∙ turned_where
      (may_settle old.book old.shares marks && move_some (state old.book).guests marks) old.book
      (Settle all) k (settled_held (slice_get all k)))
      (ap (λ b. b.jobs) does.1) (ap (λ b. b.dones) does.1)
  settle_waits answer (Some Fault) does = waits_by
      (ap (λ b. count_held (guest_of b.book k)) does.1
      ∙ broken_off (state old.book).broken old.book k)
      (ap (λ b. b.jobs) does.1) (ap (λ b. b.dones) does.1)

module _ (k : ℕ) (answer : Answer) (a b : Boards) where
  pub took_waits : (g : ℕ) → Makes (step.Take g) answer a b → KeepsWaiting k a.rest b.rest
  took_waits g makes =
      let w = take_waits k (board_of a) (board_of b) g answer _ makes.steps.does in (w.0, w.1)

  pub gave_waits : (g : ℕ) → Makes (step.Give g) answer a b → KeepsWaiting k a.rest b.rest
  gave_waits g makes =
      let w = give_waits k (board_of a) (board_of b) g answer _ _ makes.steps.does in (w.0, w.1)

  pub advanced_waits : Makes step.Advance answer a b → KeepsWaiting k a.rest b.rest
  advanced_waits makes =
      let w = advance_waits k (board_of a) (board_of b) answer _ makes.steps.does in (w.0, w.1)

  pub settled_waits : Makes step.Settle answer a b → KeepsWaiting k a.rest b.rest
  settled_waits makes =
      let w = settle_waits k (board_of a) (board_of b) answer _ makes.steps.does in (w.0, w.1)

-- where the board is as it was
pub same_waits : (k : ℕ) (a b : Boards) → board_of b ≡ board_of a → KeepsWaiting k a.rest b.rest
same_waits k a b same = (ap (λ v. v.jobs) same, ap (λ v. waiting k v) same)

pub waits_twice : (k : ℕ) (a b c : BoardState OutboxState) → KeepsWaiting k a b
    → KeepsWaiting k b c → KeepsWaiting k a c
waits_twice k a b c first more = (more.0 ∙ first.0, more.1 ∙ first.1)
