use Rattle.std.proofs.Common.{◌≡◌, ◌⊎◌, ◌∷◌, ◌∙◌, List, [], Some, ap, inl, inr, refl, subst, sym}
use Rattle.std.proofs.Common.{ℕ, ◌<◌, ◌≤◌, IfSome, arith}
use Rattle.machine.proofs.Common.{AskingState, Boards, Range, Runs, Still, Voids, slice_get}
use Rattle.machine.proofs.Common.{stand_of}
use Rattle.machine.proofs.Common.{standing}
use Rattle.machine.specs.Ending.{left_by}
use Rattle.machine.specs.Serving.{CantGoOn, HasParts, HasStopped, IsGoing, RefusesIn, TooLong}
use Rattle.machine.specs.Serving.{TooMuch}
use Rattle.guest_memory.specs.Memory.{IsHeld}
use Rattle.mmio_transport.specs.Asking.{known}
use Rattle.machine.specs.Turn.{TurnState}
use Rattle.machine.specs.declared.fault.MachineFault.TheVariants as fault
use Rattle.machine.specs.declared.serving.Next.{Next}
use Rattle.machine.specs.declared.serving.Next.TheVariants as next
use Rattle.machine.proofs.Copied.{copied_of}
use Rattle.machine.proofs.Popping.{some_at}
use Rattle.machine.proofs.Runs.{still_same}
use Rattle.machine.proofs.answering.need.Goals as goal

-- what a device needed that was given up
module _ (guest : ℕ) (n r : Next) (t t' : TurnState) (ps : List Range) (a b : Boards)
    (from : left_by (Some n) t ≡ standing ps t.going t.looked) (turn : t' ≡ record t { parts = [] })
    (either : ((r ≡ next.Again) × IsGoing guest a) ⊎ (r ≡ next.Rest (Some fault.NoMemory)))
    (why : CantGoOn guest ps a) (refuses : RefusesIn guest a b) where
  left_given : left_by (Some r) t' ≡ standing [] t.going t.looked
  left_given = elim either [
    | inl again ↦ ap (λ x. left_by (Some x) t') again.0 ∙ ap stand_of turn
    | inr memory ↦ ap (λ x. left_by (Some x) t') memory ∙ ap stand_of turn
  ]

  given_runs : (most : ℕ) → Runs guest most (left_by (Some n) t) a (left_by (Some r) t') b
  given_runs most =
      subst (λ s. Runs guest most s a (left_by (Some r) t') b) (sym from)
      (subst (λ s. Runs guest most (standing ps t.going t.looked) a s b) (sym left_given)
      (Voids (standing ps t.going t.looked) ps t.going t.looked a a b
      (Still (standing ps t.going t.looked) a) why refuses))

  given_up : (r ≡ n) ⊎ ((r ≡ next.Rest (Some fault.NoMemory))
      ⊎ ((r ≡ next.Again)
      × ((most : ℕ) → HasStopped guest most (left_by (Some n) t) a (stand_of t') b)))
  given_up = elim either [
    | inl again ↦ inr (inr (
      again.0,
      λ most. record {
        before = a;
        parts = ps;
        going = t.going;
        looked = t.looked;
        runs = subst (λ s. Runs guest most s a (standing ps t.going t.looked) a) (sym from)
            (Still (standing ps t.going t.looked) a);
        went_on = again.1;
        why = why;
        refuses = refuses;
        left = ap stand_of turn;
      },
    ))
    | inr memory ↦ inr (inl memory)
  ]

pub returns-else-wanted-clause-runs : goal.returns-else-wanted-clause-runs
returns-else-wanted-clause-runs c most =
    let t = c.args.turn.now in
    still_same c.args.guest most (left_by (Some c.args.next) t) _ c.args.board.now
    (ap stand_of c.turn.view_is ∙ ap (λ n. left_by (Some n) t) (sym c.in-Read.is))

pub returns-else-not-copy_part-clause-runs : goal.returns-else-not-copy_part-clause-runs
returns-else-not-copy_part-clause-runs c most =
    let t = c.args.turn.now in
    still_same c.args.guest most (left_by (Some c.args.next) t) _ c.args.board.now
    (ap (λ v. standing (c.in-Write.part ∷ v.parts) v.going v.looked) c.turn-in-Write.view_is
    ∙ ap (λ n. left_by (Some n) t) (sym c.in-Write.is))

pub returns-in-Again-clause-runs : goal.returns-in-Again-clause-runs
returns-in-Again-clause-runs c most = Still (left_by
    (Some c.args.next) c.args.turn.now) c.args.board.now

pub returns-in-Call-clause-runs : goal.returns-in-Call-clause-runs
returns-in-Call-clause-runs c most = Still (left_by
    (Some c.args.next) c.args.turn.now) c.args.board.now

pub returns-in-Rest-clause-runs : goal.returns-in-Rest-clause-runs
returns-in-Rest-clause-runs c most = Still (left_by
    (Some c.args.next) c.args.turn.now) c.args.board.now

pub returns-then-wanted-clause-runs : goal.returns-then-wanted-clause-runs
returns-then-wanted-clause-runs c most =
    let t = c.args.turn.now in
    let gave = c.give_up in
    given_runs c.args.guest c.args.next gave.result t gave.new.turn t.parts c.args.board.now
    gave.new.board (ap (λ n. left_by (Some n) t) c.in-Read.is) gave.ensures.turn
    gave.ensures.either (TooMuch c.in-Read.wanted (c.requires.asks c.in-Read.wanted c.in-Read.is)
    c.if-wanted.true) gave.ensures.refuses most

pub returns-then-wanted-clause-same : goal.returns-then-wanted-clause-same
returns-then-wanted-clause-same c =
    let t = c.args.turn.now in
    let gave = c.give_up in
    given_up c.args.guest c.args.next gave.result t gave.new.turn t.parts c.args.board.now
    gave.new.board (ap (λ n. left_by (Some n) t) c.in-Read.is) gave.ensures.turn
    gave.ensures.either (TooMuch c.in-Read.wanted (c.requires.asks c.in-Read.wanted c.in-Read.is)
    c.if-wanted.true) gave.ensures.refuses

-- there is a copy of the part, so it is longer than what was lent
too_long : (guest len : ℕ) (part : Range) (ps : List Range) (b : Boards) (d : AskingState)
    → slice_get b.devices guest ≡ Some d → 16384 ≤ len → HasParts guest (part ∷ []) b
    → (len < part.len)
    ⊎ IfSome (slice_get b.devices guest) (λ d. ¬ IsHeld (known d) part.at part.len)
    → CantGoOn guest (part ∷ ps) b
too_long guest len part ps b d its room has (inl short) =
    TooLong part ps refl (omega (arith, room, short))
too_long guest len part ps b d its room has (inr none) =
    absurd (subst (λ o. IfSome o (λ d. ¬ IsHeld (known d) part.at part.len)) its none
    (copied_of guest (part ∷ []) b d its has).0)

pub returns-then-not-copy_part-clause-runs : goal.returns-then-not-copy_part-clause-runs
returns-then-not-copy_part-clause-runs c most =
    let t = c.args.turn.now in
    let gave = c.give_up-then-not-copy_part in
    let part = c.in-Write.part in
    let device = some_at c.args.board.now.devices c.args.guest c.requires.guest in
    given_runs c.args.guest c.args.next gave.result t gave.new.turn (part ∷ t.parts)
    c.args.board.now gave.new.board (ap (λ n. left_by (Some n) t) c.in-Write.is)
    gave.ensures.turn gave.ensures.either
    (too_long c.args.guest _ part t.parts c.args.board.now device.0 device.1 c.requires.room
    (c.requires.copied part c.in-Write.is) (c.copy_part.ensures.none c.if-not-copy_part.true))
    gave.ensures.refuses most

pub returns-then-not-copy_part-clause-same : goal.returns-then-not-copy_part-clause-same
returns-then-not-copy_part-clause-same c =
    let t = c.args.turn.now in
    let gave = c.give_up-then-not-copy_part in
    let part = c.in-Write.part in
    let device = some_at c.args.board.now.devices c.args.guest c.requires.guest in
    given_up c.args.guest c.args.next gave.result t gave.new.turn (part ∷ t.parts)
    c.args.board.now gave.new.board (ap (λ n. left_by (Some n) t) c.in-Write.is)
    gave.ensures.turn gave.ensures.either
    (too_long c.args.guest _ part t.parts c.args.board.now device.0 device.1 c.requires.room
    (c.requires.copied part c.in-Write.is) (c.copy_part.ensures.none c.if-not-copy_part.true))
    gave.ensures.refuses
