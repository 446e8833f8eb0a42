use Rattle.std.proofs.Common.{ap, inl, inr, subst, ◌∙◌, [], true}
use Rattle.std.specs.Prelude.{nat_lt}
use Rattle.board.specs.State.{waiting}
use Rattle.machine.proofs.Common.{stand_of, standing}
use Rattle.machine.proofs.Goings.{taken_after}
use Rattle.machine.proofs.Runs.{runs_twice, then_does}
use Rattle.machine.specs.Ending.{TakesOne}
use Rattle.machine.specs.Serving.{MayTake}
use Rattle.machine.proofs.taking.look.Goals as goal

pub returns-clause-looks : goal.returns-clause-looks
returns-clause-looks c most fewer =
    let g = c.args.guest in
    let w = c.begin_pop.new.turn.looked in
    let s = standing [] c.args.turn.now.going w in
    let begun = standing [] true w in
    let a = c.args.board.now in
    let b = c.begin_pop.new.board in
    let d = c.pop.new.board in
    let first = c.begin_pop.ensures.runs most w in
    let may : MayTake g most b = ap (λ r. nat_lt (waiting g r) most) c.begin_pop.ensures.rest
    ∙ fewer in
    subst (λ l. TakesOne g most (standing [] c.args.turn.now.going l) a c.pop.new.turn d
    c.pop.result) (ap (λ t. t.looked) c.begin_pop.ensures.turn) (record {
      runs = runs_twice g most s begun (stand_of c.pop.new.turn) a b d first
          (c.pop.ensures.runs most may);
      became = taken_after g most s begun a b c.pop.new.turn d c.pop.result first
          (c.pop.ensures.taken most may);
      did = λ is. elim (c.pop.ensures.did is most may) [
        | inl some ↦ inl (then_does g most s begun (stand_of c.pop.new.turn) a b d first some)
        | inr parts ↦ inr parts
      ];
    })
