use Rattle.std.proofs.Common.{ℕ, [], inl, inr, refl, ap, sym, subst, ◌∙◌, true, false}
use Rattle.flusher.specs.Store.{next_call}
use Rattle.machine.proofs.Common.{Runs, Still, stand_of, standing}
use Rattle.board.specs.State.{waiting}
use Rattle.machine.specs.Ending.{IsHandedOn}
use Rattle.machine.specs.Serving.{HasNoReply, is_write}
use Rattle.machine.proofs.Popping.{gives_up}
use Rattle.machine.proofs.Runs.{runs_twice}
use Rattle.machine.proofs.Goings.{ended_on, rest_needs, went_by}
use Rattle.machine.proofs.serving.rest.Goals as goal

pub returns-then-has_write : goal.returns-then-has_write
returns-then-has_write c =
    let t = c.args.turn.now in
    let b = c.args.board.now in
    let write = sym c.has_write.ensures ∙ c.if-has_write.true in
    record {
      went = λ most s z ended. went_by c.args.guest most s z t t b b _ (Still (stand_of t) b) tt
          (inr (inl (record { write = write; full = c.requires.left.0.room write }))) refl refl;
    }

pub returns : goal.returns
returns c =
    let g = c.args.guest in
    let t = c.args.turn.now in
    let t' = c.take_next.new.self in
    let b = c.args.board.now in
    let b' = c.begin.new.board in
    let rest = c.begin.ensures.rest in
    let none = ap (λ v. v.parts) c.take_next.ensures ∙ ap (λ v. v.parts) c.begin.ensures.turn
    ∙ c.requires.parts in
    let writes = sym c.has_write.ensures ∙ c.if-has_write.false in
    let w = t.looked in
    let runs : (most : ℕ) → Runs g most (stand_of t) b (stand_of t') b' =
    λ most. runs_twice g most (stand_of t) (standing [] true w) (stand_of t') b b' b'
    (subst (λ qs. Runs g most (standing qs t.going w) b (standing [] true w) b')
    (sym c.requires.parts) (c.begin.ensures.runs most w))
    (gives_up g most [] true w (stand_of t') b'
    (ap stand_of c.take_next.ensures
    ∙ ap (λ v. standing v.parts false v.looked) c.begin.ensures.turn
    ∙ ap (λ ps. standing ps false w) c.requires.parts)) in
    record {
      went = λ most s z ended. went_by g most s z t t' b b' _ (runs most)
          (rest_needs g most s z t' b' c.args.fault
          (ended_on g most s (stand_of t) (stand_of t') z b b' c.args.fault (runs most)
          c.begin.ensures.devices (ap (λ r. r.jobs) rest, ap (λ r. waiting g r) rest) ended)
          (record {
            handed = subst (λ r. IsHandedOn g r) (sym rest) c.requires.left.0;
            replies = subst (λ r. HasNoReply g r) (sym rest) c.requires.left.1;
            seen = c.begin.ensures.seen c.requires.left.2;
            writes = ap (λ r. is_write (next_call r.store.broken r.store.guests)) rest ∙ writes;
          }) none)
          tt c.begin.ensures.count
          (ap (λ v. v.asked) c.take_next.ensures ∙ ap (λ v. v.asked) c.begin.ensures.turn);
    }
