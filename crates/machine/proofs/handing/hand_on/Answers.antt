use Rattle.std.proofs.Common.{inl, subst, ◌≡◌, refl, Bool, false, true, ℕ}
use Rattle.std.specs.Prelude.{◌||◌}
use Rattle.machine.proofs.Common.{Boards, IsShare, Makes, Runs, Stand, Step}
use Rattle.board.specs.Steps.{did_answer}
use Rattle.board.specs.declared.step.Step.TheVariants as step
use Rattle.machine.specs.Serving.{DoesSome}
use Rattle.machine.proofs.Handed.{handed_on}
use Rattle.machine.proofs.Runs.{does_step, does_then, runs_step, runs_twice, then_does}
use Rattle.machine.proofs.Waiting.{gave_waits, settled_waits, took_waits, waits_twice}
use Rattle.machine.proofs.handing.hand_on.Goals as goal

-- one of four steps did something
module _ (g most : ℕ) (s : Stand) (a b d e f : Boards) (first : Runs g most s a s b)
    (second : Runs g most s b s d) (third : Runs g most s d s e)
    (fourth : Runs g most s e s f) where
  pub in_all : Runs g most s a s f
  in_all = runs_twice g most s s s a b f first
      (runs_twice g most s s s b d f second (runs_twice g most s s s d e f third fourth))

  by_first : DoesSome g most s a s b → DoesSome g most s a s f
  by_first does = does_then g most s s s a b f does
      (runs_twice g most s s s b d f second (runs_twice g most s s s d e f third fourth))

  by_second : DoesSome g most s b s d → DoesSome g most s a s f
  by_second does = then_does g most s s s a b f first
      (does_then g most s s s b d f does (runs_twice g most s s s d e f third fourth))

  by_third : DoesSome g most s d s e → DoesSome g most s a s f
  by_third does = then_does g most s s s a b f first
      (then_does g most s s s b d f second (does_then g most s s s d e f does fourth))

  by_fourth : DoesSome g most s e s f → DoesSome g most s a s f
  by_fourth does = then_does g most s s s a b f first
      (then_does g most s s s b d f second (then_does g most s s s d e f third does))

  pub by_one : (told taken given written : Bool)
      → (told ≡ true → DoesSome g most s a s b) → (taken ≡ true → DoesSome g most s b s d)
      → (given ≡ true → DoesSome g most s d s e) → (written ≡ true → DoesSome g most s e s f)
      → (told || taken || given || written) ≡ true → DoesSome g most s a s f
  by_one true taken given written one two three four is = by_first (one refl)
  by_one false true given written one two three four is = by_second (two refl)
  by_one false false true written one two three four is = by_third (three refl)
  by_one false false false true one two three four is = by_fourth (four refl)
  by_one false false false false one two three four is = absurd (let no = is in cc)

did_some : (g most : ℕ) (s : Stand) (a b : Boards) (x : Step) (did : Bool) → IsShare g x a
    → Makes x (did_answer did) a b → did ≡ true → DoesSome g most s a s b
did_some g most s a b x true share makes is =
    does_step g most s a b x (did_answer true) share makes (inl refl)
did_some g most s a b x false share makes is = absurd (let no = is in cc)

pub returns-clause-runs : goal.returns-clause-runs
returns-clause-runs c most s =
    let g = c.args.guest in
    let a = c.args.board.now in
    let b = c.settle-told.new.self in
    let d = c.take-taken.new.self in
    let e = c.give-given.new.self in
    in_all g most s a b d e c.write_next-written.new.board
    (runs_step g most s a b step.Settle _ tt c.settle-told.ensures.steps)
    (runs_step g most s b d (step.Take g) _ refl c.take-taken.ensures.steps)
    (runs_step g most s d e (step.Give g) _ refl c.give-given.ensures.steps)
    (c.write_next-written.ensures.runs g most s)

pub returns-clause-did : goal.returns-clause-did
returns-clause-did c some most s =
    let g = c.args.guest in
    let a = c.args.board.now in
    let b = c.settle-told.new.self in
    let d = c.take-taken.new.self in
    let e = c.give-given.new.self in
    let share : IsShare g (step.Take g) b = refl in
    let share' : IsShare g (step.Give g) d = refl in
    by_one g most s a b d e c.write_next-written.new.board
    (runs_step g most s a b step.Settle _ tt c.settle-told.ensures.steps)
    (runs_step g most s b d (step.Take g) _ share c.take-taken.ensures.steps)
    (runs_step g most s d e (step.Give g) _ share' c.give-given.ensures.steps)
    (c.write_next-written.ensures.runs g most s)
    c.settle-told.result c.take-taken.result c.give-given.result c.write_next-written.result
    (did_some g most s a b step.Settle c.settle-told.result tt c.settle-told.ensures.steps)
    (did_some g most s b d (step.Take g) c.take-taken.result share c.take-taken.ensures.steps)
    (did_some g most s d e (step.Give g) c.give-given.result share' c.give-given.ensures.steps)
    (λ is. c.write_next-written.ensures.made is g most s)
    (let is = some in cc)

pub returns-clause-keeps : goal.returns-clause-keeps
returns-clause-keeps c =
    let g = c.args.guest in
    let a = c.args.board.now in
    let b = c.settle-told.new.self in
    let d = c.take-taken.new.self in
    let e = c.give-given.new.self in
    waits_twice g a.rest e.rest c.write_next-written.new.board.rest
    (waits_twice g a.rest d.rest e.rest
    (waits_twice g a.rest b.rest d.rest (settled_waits g _ a b c.settle-told.ensures.steps)
    (took_waits g _ b d g c.take-taken.ensures.steps))
    (gave_waits g _ d e g c.give-given.ensures.steps))
    (c.write_next-written.ensures.keeps g)

none_did : (told taken given written : Bool)
    → (told || taken || given || written) ≡ false
    → (told ≡ false) × (taken ≡ false) × (given ≡ false) × (written ≡ false)
none_did true taken given written is = absurd (let no = is in cc)
none_did false true given written is = absurd (let no = is in cc)
none_did false false true written is = absurd (let no = is in cc)
none_did false false false true is = absurd (let no = is in cc)
none_did false false false false is = (refl, refl, refl, refl)

pub returns-clause-done : goal.returns-clause-done
returns-clause-done c nothing =
    let g = c.args.guest in
    let a = c.args.board.now in
    let b = c.settle-told.new.self in
    let d = c.take-taken.new.self in
    let e = c.give-given.new.self in
    let none = none_did c.settle-told.result c.take-taken.result c.give-given.result
    c.write_next-written.result (let is = nothing in cc) in
    (handed_on g a b d e c.write_next-written.new.board
    (subst (λ did. Makes step.Settle (did_answer did) a b) none.0 c.settle-told.ensures.steps)
    (subst (λ did. Makes (step.Take g) (did_answer did) b d) none.1 c.take-taken.ensures.steps)
    (subst (λ did. Makes (step.Give g) (did_answer did) d e) none.2 c.give-given.ensures.steps)
    (c.write_next-written.ensures.none none.3)).0

pub returns-clause-same : goal.returns-clause-same
returns-clause-same c nothing =
    let g = c.args.guest in
    let a = c.args.board.now in
    let b = c.settle-told.new.self in
    let d = c.take-taken.new.self in
    let e = c.give-given.new.self in
    let none = none_did c.settle-told.result c.take-taken.result c.give-given.result
    c.write_next-written.result (let is = nothing in cc) in
    (handed_on g a b d e c.write_next-written.new.board
    (subst (λ did. Makes step.Settle (did_answer did) a b) none.0 c.settle-told.ensures.steps)
    (subst (λ did. Makes (step.Take g) (did_answer did) b d) none.1 c.take-taken.ensures.steps)
    (subst (λ did. Makes (step.Give g) (did_answer did) d e) none.2 c.give-given.ensures.steps)
    (c.write_next-written.ensures.none none.3)).1
