use Rattle.std.proofs.Common.{◌≡◌, ◌⊎◌, Bool, false, inl, inr, refl, true, ◌∙◌, ℕ}
use Rattle.machine.proofs.Common.{Boards, Runs, Stand, Still, board_of}
use Rattle.machine.specs.Serving.{DoesSome}
use Rattle.machine.proofs.Runs.{does_then, runs_twice, then_does}
use Rattle.machine.proofs.Waiting.{waits_twice}
use Rattle.machine.proofs.handing.hand_all.Goals as goal

-- something was done, or the board is as it was
abbrev Worked : ℕ → Boards → Boards → Type 0
Worked guest a b =
    ((most : ℕ) (s : Stand) → DoesSome guest most s a s b) ⊎ (board_of b ≡ board_of a)

still_worked : (guest : ℕ) (a b d : Boards) → Worked guest a b
    → ((most : ℕ) (s : Stand) → Runs guest most s b s d) → board_of d ≡ board_of b
    → Worked guest a d
still_worked guest a b d (inl some) runs same =
    inl (λ most s. does_then guest most s s s a b d (some most s) (runs most s))
still_worked guest a b d (inr unmoved) runs same = inr (same ∙ unmoved)

last_worked : (guest : ℕ) (a b d : Boards) (did r : Bool) → did ≡ r
    → ((most : ℕ) (s : Stand) → Runs guest most s a s b) → Worked guest a b
    → ((most : ℕ) (s : Stand) → Runs guest most s b s d)
    → (did ≡ true → (most : ℕ) (s : Stand) → DoesSome guest most s b s d)
    → (did ≡ false → board_of d ≡ board_of b) → Worked guest a d
last_worked guest a b d did true is first worked runs does same =
    inl (λ most s. then_does guest most s s s a b d (first most s) (does is most s))
last_worked guest a b d did false is first worked runs does same =
    still_worked guest a b d worked runs (same is)

pub loop-step-init : goal.loop-step-init
loop-step-init c = ((λ most s. Still s c.args.board.now), (refl, refl), refl, inr refl)

pub loop-step-preserved : goal.loop-step-preserved
loop-step-preserved c =
    let l = c.loop-step in
    let h = c.hand_on in (
      (λ most s. runs_twice c.args.guest most s s s c.args.board.now l.board h.new.board
          (l.invariant.0 most s)
          (h.ensures.runs most s)),
      waits_twice c.args.guest c.args.board.now.rest l.board.rest h.new.board.rest l.invariant.1
          h.ensures.keeps,
      h.ensures.devices ∙ l.invariant.2,
      inl (λ most s. then_does c.args.guest most s s s c.args.board.now l.board h.new.board
          (l.invariant.0 most s)
          (h.ensures.did c.if-not-hand_on.false most s)),
    )

pub returns-then-not-hand_on : goal.returns-then-not-hand_on
returns-then-not-hand_on c =
    let l = c.loop-step in
    let h = c.hand_on in
    record {
      runs = λ most s. runs_twice c.args.guest most s s s c.args.board.now l.board h.new.board
          (l.invariant.0 most s) (h.ensures.runs most s);
      keeps = waits_twice c.args.guest c.args.board.now.rest l.board.rest h.new.board.rest
          l.invariant.1 h.ensures.keeps;
      devices = h.ensures.devices ∙ l.invariant.2;
      did = λ no most s. absurd (let yes = no in cc);
      done = λ no. h.ensures.done c.if-not-hand_on.true;
      either = still_worked c.args.guest c.args.board.now l.board h.new.board l.invariant.3
          h.ensures.runs (h.ensures.same c.if-not-hand_on.true);
    }

pub returns : goal.returns
returns c =
    let l = c.loop-step in
    let h = c.hand_on-2 in
    record {
      runs = λ most s. runs_twice c.args.guest most s s s c.args.board.now l.board h.new.board
          (l.invariant.0 most s) (h.ensures.runs most s);
      keeps = waits_twice c.args.guest c.args.board.now.rest l.board.rest h.new.board.rest
          l.invariant.1 h.ensures.keeps;
      devices = h.ensures.devices ∙ l.invariant.2;
      did = λ some most s. then_does c.args.guest most s s s c.args.board.now l.board h.new.board
          (l.invariant.0 most s) (h.ensures.did some most s);
      done = h.ensures.done;
      either = last_worked c.args.guest c.args.board.now l.board h.new.board h.result h.result refl
          l.invariant.0 l.invariant.3 h.ensures.runs h.ensures.did h.ensures.same;
    }
