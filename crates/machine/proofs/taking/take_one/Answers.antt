use Rattle.std.proofs.Common.{[], ap, inl, inr, refl, rules, subst, sym}
use Rattle.machine.proofs.Common.{Runs, stand_of, standing}
use Rattle.machine.specs.Ending.{HasReason, IsTaken}
use Rattle.machine.specs.declared.taking.Taken.{Taken}
use Rattle.machine.specs.Serving.{DoesSome, MayTake}
use Rattle.machine.proofs.Popping.{still_by}
use Rattle.machine.proofs.taking.take_one.Goals as goal

pub returns-then-is_some-clause-takes : goal.returns-then-is_some-clause-takes
returns-then-is_some-clause-takes c =
    let g = c.args.guest in
    let most = c.args.most in
    let t = c.args.turn.now in
    let s = standing [] t.going t.looked in
    let a = c.args.board.now in
    let b = c.submit.new.board in
    let taken_ : Taken → Type 0 = λ k. IsTaken g most s a t b k in
    record {
      runs = subst (λ ps. Runs g most s a (standing ps t.going t.looked) b) (sym c.requires.parts)
          (c.submit.ensures.runs most s);
      became = elim c.submit.ensures.either [
        | inl did ↦ subst taken_ (sym did) tt
        | inr refused ↦ subst taken_ (sym refused.is) (
          subst (λ ps. HasReason g most refused.why s a (standing ps t.going t.looked) b)
              (sym c.requires.parts) (refused.reason most s),
          c.requires.parts,
        )
      ];
      did = λ is. inl (subst (λ ps. DoesSome g most s a (standing ps t.going t.looked) b)
          (sym c.requires.parts) (c.submit.ensures.did is most s));
    }

pub returns-then-not-awaits_fewer-clause-takes : goal.returns-then-not-awaits_fewer-clause-takes
returns-then-not-awaits_fewer-clause-takes c =
    let t = c.args.turn.now in
    let b = c.args.board.now in
    record {
      runs = still_by c.args.guest c.args.most t.going t.looked (stand_of t) b b
          (ap (λ ps. standing ps t.going t.looked) c.requires.parts) refl;
      became = ((search rules, inr (search rules)), c.requires.parts);
      did = λ no. absurd (let yes = no in cc);
    }

pub returns-clause-takes : goal.returns-clause-takes
returns-clause-takes c =
    let fewer : MayTake c.args.guest c.args.most c.args.board.now = search rules in
    c.look.ensures.looks c.args.most fewer
