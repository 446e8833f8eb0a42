-- What a monitor is asked for.
use Rattle.std.proofs.Common.{◌≡◌, ◌≤◌, ◌<◌, refl, ap, sym, subst, ◌∙◌, ℕ, Bool, true, false, List}
use Rattle.std.proofs.Common.{Some, None, IfSome, length, arith}
use Rattle.std.proofs.lemmas.Option.{slice_get_past}
use Rattle.std.specs.Prelude.{take}
use Rattle.guest_memory.specs.Memory.{bytes_at}
use Rattle.guest_memory.specs.declared.ask.Ask.{Ask}
use Rattle.machine.proofs.Common.{◌&&◌, slice_get, slice_set, is_some, get_set_same, AskingState}
use Rattle.machine.proofs.Common.{Boards, MachineState, Range, Runs}
use Rattle.board.specs.State.{owes}
use Rattle.machine.specs.Ending.{Begins, EndsFor, GoesOn, HearsAnswer, IsBusy, NeedsNext}
use Rattle.machine.specs.Ending.{NeedsTold, TakesAnswer, left_by}
use Rattle.machine.specs.Machine.{IsTold, NeedsOf, NoRoom, NoSuchGuest, OfSteps, ReadsOf}
use Rattle.machine.specs.Machine.{RestsIn, most_in}
use Rattle.machine.specs.Machine.{TellsOf, has_guest, is_over, left_of, turn_in, turn_of}
use Rattle.machine.specs.Machine.{waits_for_sync}
use Rattle.machine.specs.declared.fault.MachineFault.TheVariants as fault
use Rattle.machine.specs.Serving.{KeepsLimit}
use Rattle.machine.specs.Settings.{most_of}
use Rattle.machine.specs.Turn.{Stand, TurnState, stand_of}
use Rattle.machine.proofs.Limits.{answered_rest, limit_same, limit_twice, runs_limit}
use Rattle.machine.proofs.Runs.{still_same}
use Rattle.machine.specs.declared.machine.Served.{Served}
use Rattle.machine.specs.declared.machine.What.{What}
use Rattle.machine.specs.declared.machine.What.TheVariants as what
use Rattle.machine.specs.declared.serving.Next.{Next}
use Rattle.machine.specs.declared.serving.Next.TheVariants as next
use Rattle.machine.specs.declared.settings.Setup.{Setup}
use Rattle.machine.specs.declared.turn.Asked.TheVariants as asked

module _ (guest most : ℕ) (from : Stand) (old : Boards) (turn : TurnState) (bytes : List ℕ)
    (new : Boards) where
  -- what is needed was asked for
  pub told_of : (n : Next) → NeedsNext guest most from old turn new (Some n)
      → ((ask : Ask) → n ≡ next.Read ask → (ask.len ≤ 16384) × (turn.asked ≡ asked.Read ask))
      → ((part : Range) → n ≡ next.Write part → (turn.asked ≡ asked.Write)
      × IfSome (slice_get new.devices guest) (λ d.
      take part.len bytes ≡ bytes_at d.device.memory part.at part.len))
      → NeedsTold guest most from old turn bytes new n
  told_of next.Again needs read write = tt
  told_of (next.Read ask) needs read write =
      let r = read ask refl in (needs, r.0, r.1)
  told_of (next.Write part) needs read write =
      let w = write part refl in (w.0, w.1)
  told_of next.Call needs read write = tt
  told_of (next.Rest None) needs read write = needs
  told_of (next.Rest (Some f)) needs read write = needs

-- as the machine tells it
module _ (guest room : ℕ) (old new : MachineState) (w : Setup) (bytes : List ℕ) (left : Stand)
    (heard : Boards) (setup : slice_get old.setups guest ≡ Some w) where
  abbrev Busy : Type 0
  Busy = IsBusy guest (most_of w) left heard (stand_of (turn_of new guest)) new.board

  abbrev Needs : Served → What → Type 0
  Needs s x = NeedsOf guest (most_of w) room x s bytes left heard old new

  pub needs_of : (n : Next) (s : Served) → IsTold n s
      → NeedsTold guest (most_of w) left heard (turn_of new guest) bytes new.board n
      → (n ≡ next.Again → Busy)
      → NeedsOf guest (most_of w) room s.what s bytes left heard old new
  needs_of next.Again s told needs busy =
      subst (Needs s) (sym told.0) (busy refl)
  needs_of (next.Read ask) s told needs busy =
      subst (Needs s) (sym told.0)
      (subst (λ at. ReadsOf guest at s.len new) (sym told.2)
      (subst (λ len. ReadsOf guest ask.at len new) (sym told.3)
      (record { asks = needs.0; few = needs.1; noted = needs.2 })))
  needs_of (next.Write part) s told needs busy =
      subst (Needs s) (sym told.0)
      (record {
        bytes_are = subst (λ at. IfSome (slice_get new.board.devices guest) (λ d.
            take s.len bytes ≡ bytes_at d.device.memory at s.len)) (sym told.2)
            (subst (λ len. IfSome (slice_get new.board.devices guest) (λ d.
            take len bytes ≡ bytes_at d.device.memory part.at len)) (sym told.3) needs.1);
        noted = needs.0;
      })
  needs_of next.Call s told needs busy =
      subst (Needs s) (sym told.0) tt
  needs_of (next.Rest None) s told needs busy =
      subst (Needs s) (sym told.0) (
        (λ none. subst (λ o. RestsIn guest o left heard new) (sym setup) needs),
        (λ f some. absurd (let no = told.1 in let yes_ = some in cc)),
      )
  needs_of (next.Rest (Some f)) s told needs busy =
      subst (Needs s) (sym told.0) (
        (λ none. absurd (let no = told.1 in let yes_ = none in cc)),
        (λ g some. OfSteps (subst (λ x. EndsFor guest (most_of w) x left heard
            (turn_of new guest) new.board)
            (let a = told.1 in let b = some in cc) needs)),
      )

-- and where the steps stand
pub left_told : (n : Next) (s : Served) (turn : TurnState) → IsTold n s
    → left_by (Some n) turn ≡ left_of s.what s.at s.len turn
left_told next.Again s turn told = ap (λ x. left_of x s.at s.len turn) (sym told.0)
left_told (next.Read ask) s turn told = ap (λ x. left_of x s.at s.len turn) (sym told.0)
left_told (next.Write part) s turn told =
    ap (λ at. left_of what.Write at part.len turn) (sym told.2)
    ∙ ap (λ len. left_of what.Write s.at len turn) (sym told.3)
    ∙ ap (λ x. left_of x s.at s.len turn) (sym told.0)
left_told next.Call s turn told = ap (λ x. left_of x s.at s.len turn) (sym told.0)
left_told (next.Rest f) s turn told = ap (λ x. left_of x s.at s.len turn) (sym told.0)

-- a fault is told only where the serve is over
quiet_told : (n : Next) (s : Served) → IsTold n s → is_over s.what ≡ false → s.fault ≡ None
quiet_told next.Again s told going = told.1
quiet_told (next.Read ask) s told going = told.1
quiet_told (next.Write part) s told going = told.1
quiet_told next.Call s told going = told.1
quiet_told (next.Rest f) s told going =
    absurd (let over = sym (ap is_over told.0) ∙ going in cc)

and_first : (a b c : Bool) → a ≡ false → (a && b && c) ≡ false
and_first true b c is = absurd (let no = is in cc)
and_first false b c is = refl

and_second : (a b c : Bool) → b ≡ false → (a && b && c) ≡ false
and_second false b c is = refl
and_second true true c is = absurd (let no = is in cc)
and_second true false c is = refl

and_third : (a b c : Bool) → c ≡ false → (a && b && c) ≡ false
and_third false b c is = refl
and_third true false c is = refl
and_third true true c is = is

none_past : {X : Type 0} (xs : List X) (k : ℕ) → length xs ≤ k → is_some (slice_get xs k) ≡ false
none_past xs k past = ap is_some (slice_get_past xs k past)

module _ (m : MachineState) (guest : ℕ) where
  pub no_setup : length m.setups ≤ guest → has_guest m guest ≡ false
  no_setup past = and_first _ _ _ (none_past m.setups guest past)

  pub no_turn : length m.turns ≤ guest → has_guest m guest ≡ false
  no_turn past = and_second _ _ _ (none_past m.turns guest past)

  pub no_device : length m.board.devices ≤ guest → has_guest m guest ≡ false
  no_device past = and_third (is_some (slice_get m.setups guest))
      (is_some (slice_get m.turns guest)) _ (none_past m.board.devices guest past)

  abbrev most : ℕ
  most = most_in (slice_get m.setups guest)

  -- a guest that there isn't is refused
  pub tells_absent : (there : Bool) (given : List ℕ) (s : Served) → has_guest m guest ≡ false
      → IsTold (next.Rest (Some fault.NoGuest)) s
      → s.sync ≡ (is_over s.what && waits_for_sync m.board.rest)
      → s.waiting ≡ owes guest m.board.rest → TellsOf guest there given s given m m
  tells_absent there given s absent told sync waiting = record {
    heard = m.board;
    left = stand_of (turn_of m guest);
    takes = λ has room. absurd (let no = sym absent ∙ has in cc);
    begins = GoesOn refl refl;
    runs = still_same guest most (stand_of (turn_of m guest)) _ m.board
        (sym (left_told (next.Rest (Some fault.NoGuest)) s (turn_of m guest) told));
    needs = subst (λ x. NeedsOf guest most (length given) x s given (stand_of (turn_of m guest))
        m.board m m) (sym told.0) (
          (λ none. absurd (let no = told.1 in let other = none in cc)),
          (λ f some. NoSuchGuest (let a = told.1 in let b = some in cc) absent refl),
        );
    sync = sync;
    waiting = waiting;
    limit = limit_same guest most m.board.rest m.board.rest refl;
    quiet = quiet_told (next.Rest (Some fault.NoGuest)) s told;
    absent = λ gone. record { what = told.0; fault = told.1; bytes_are = refl; same = refl };
    short = λ has less. absurd (let no = sym absent ∙ has in cc);
  }

  -- there is less room than the largest part has
  pub tells_room : (there : Bool) (given : List ℕ) (s : Served)
      → has_guest m guest ≡ true → length given < 16384
      → IsTold (next.Rest (Some fault.OutOfRange)) s
      → s.sync ≡ (is_over s.what && waits_for_sync m.board.rest)
      → s.waiting ≡ owes guest m.board.rest → TellsOf guest there given s given m m
  tells_room there given s has short told sync waiting = record {
    heard = m.board;
    left = stand_of (turn_of m guest);
    takes = λ is room. absurd (omega (arith, short, room));
    begins = GoesOn refl refl;
    runs = still_same guest most (stand_of (turn_of m guest)) _ m.board
        (sym (left_told (next.Rest (Some fault.OutOfRange)) s (turn_of m guest) told));
    needs = subst (λ x. NeedsOf guest most (length given) x s given (stand_of (turn_of m guest))
        m.board m m) (sym told.0) (
          (λ none. absurd (let no = told.1 in let other = none in cc)),
          (λ f some. NoRoom (let a = told.1 in let b = some in cc) short refl),
        );
    limit = limit_same guest most m.board.rest m.board.rest refl;
    sync = sync;
    waiting = waiting;
    quiet = quiet_told (next.Rest (Some fault.OutOfRange)) s told;
    absent = λ gone. absurd (let no = sym has ∙ gone in cc);
    short = λ is less. record { what = told.0; fault = told.1; bytes_are = refl; same = refl };
  }

  pub has_all : (w : Setup) (turn : TurnState) (d : AskingState) → slice_get m.setups guest ≡ Some w
      → slice_get m.turns guest ≡ Some turn → slice_get m.board.devices guest ≡ Some d
      → has_guest m guest ≡ true
  has_all w turn d a b c =
      ap (λ o. is_some o && is_some (slice_get m.turns guest)
      && is_some (slice_get m.board.devices guest)) a
      ∙ ap (λ o. true && is_some o && is_some (slice_get m.board.devices guest)) b
      ∙ ap (λ o. true && true && is_some o) c

  pub tells_of : (may : ℕ) (w : Setup) (turn turn' : TurnState) (there : Bool) (given : List ℕ)
      (new : Boards) (bytes : List ℕ) (n : Next) (s : Served) → may ≡ most_of w
      → slice_get m.setups guest ≡ Some w → slice_get m.turns guest ≡ Some turn
      → has_guest m guest ≡ true → 16384 ≤ length given → IsTold n s
      → HearsAnswer guest may turn.asked there given (stand_of turn) m.board turn' bytes new n
      → s.sync ≡ (is_over s.what && waits_for_sync new.rest) → s.waiting ≡ owes guest new.rest
      → TellsOf guest there given s bytes m
      (record m { board = new; turns = slice_set m.turns guest turn' })
  tells_of may w turn turn' there given new bytes n s is setup its has room told hears
      sync waiting =
      let m' : MachineState = record m {
        board = new;
        turns = slice_set m.turns guest turn';
      } in
      let set = sym (ap turn_in (get_set_same m.turns guest turn turn' its)) in
      let was = ap turn_in (sym its) in
      let as_set = ap most_in (sym setup) in
      let h = subst (λ k. HearsAnswer guest k turn.asked there given (stand_of turn) m.board turn'
      bytes new n) is hears in
      let runs = subst (λ u. Runs guest (most_of w) h.left h.heard u new) (left_told n s turn' told)
      h.runs in
      record {
        heard = h.heard;
        left = h.left;
        takes = λ there_is wide. record {
          ok = h.takes.ok;
          takes = subst (λ (t : TurnState). TakesAnswer guest t.asked there given m.board
              h.takes.ok h.heard) was h.takes.takes;
          full = λ no. (subst (λ k. IsTold k s) (h.takes.full no) told).1;
        };
        begins = subst (λ (t : TurnState). Begins guest (stand_of t) m.board h.left h.heard) was
            h.begins;
        runs = subst (λ k. Runs guest k h.left h.heard
            (left_of s.what s.at s.len (turn_of m' guest)) new) as_set
            (subst (λ t. Runs guest (most_of w) h.left h.heard
            (left_of s.what s.at s.len t) new) set
            runs);
        needs = subst (λ k. NeedsOf guest k (length given) s.what s bytes h.left h.heard m m')
            as_set
            (needs_of guest (length given) m m' w bytes h.left h.heard setup n s told
            (subst (λ t. NeedsTold guest (most_of w) h.left h.heard t bytes new n) set h.needs)
            (λ again. subst (λ t. IsBusy guest (most_of w) h.left h.heard (stand_of t) new) set
            (h.busy again)));
        limit = subst (λ k. KeepsLimit guest k m.board.rest new.rest) as_set
            (limit_twice guest (most_of w) m.board.rest h.heard.rest new.rest
            (limit_same guest (most_of w) m.board.rest h.heard.rest
            (answered_rest guest turn.asked there given h.takes.ok m.board h.heard h.takes.takes))
            (runs_limit guest (most_of w) h.left _ h.heard new runs));
        sync = sync;
        waiting = waiting;
        quiet = quiet_told n s told;
        absent = λ gone. absurd (let no = sym has ∙ gone in cc);
        short = λ there_is less. absurd (omega (arith, room, less));
      }
