use Rattle.std.proofs.Common.{Some, ◌∙◌, sym, subst}
use Rattle.machine.proofs.Common.{Runs, stand_of, standing}
use Rattle.machine.specs.Ending.{NotifiesNext, left_by}
use Rattle.machine.proofs.Goings.{notified_busy, notified_needs, went_after, went_by}
use Rattle.machine.proofs.serving.call.Goals as goal

pub take-requires-clause-parts : goal.take-requires-clause-parts
take-requires-clause-parts c = c.notify.ensures.parts ∙ c.requires.parts

pub returns-in-Some : goal.returns-in-Some
returns-in-Some c =
    let g = c.args.guest in
    let t = c.args.turn.now in
    let n = c.notify.ensures in
    let t' = c.notify.new.turn in
    let b' = c.notify.new.board in
    let needs = subst (λ o. NotifiesNext g b' o) c.in-Some.is n.needs in
    record {
      went = went_by g c.args.most (stand_of t) c.args.board.now t t' c.args.board.now b' _
          (subst (λ o. Runs g c.args.most (stand_of t) c.args.board.now
          (left_by o t') b') c.in-Some.is
          (subst (λ ps. Runs g c.args.most (standing ps t.going t.looked) c.args.board.now
          (left_by c.notify.result t') b') (sym c.requires.parts) (n.runs c.args.most)))
          (notified_needs g c.args.most (stand_of t) c.args.board.now t' b' (Some c.in-Some.next)
          needs)
          (notified_busy g c.args.most (stand_of t) c.args.board.now b' t' c.in-Some.next needs)
          n.count n.asked;
    }

pub returns-in-None : goal.returns-in-None
returns-in-None c =
    let g = c.args.guest in
    let t = c.args.turn.now in
    let n = c.notify.ensures in
    let t' = c.notify.new.turn in
    let b' = c.notify.new.board in
    record {
      went = went_after g c.args.most t t' c.take.new.turn c.args.board.now b' c.take.new.board _
          (subst (λ o. Runs g c.args.most (stand_of t) c.args.board.now
          (left_by o t') b') c.in-None.is
          (subst (λ ps. Runs g c.args.most (standing ps t.going t.looked) c.args.board.now
          (left_by c.notify.result t') b') (sym c.requires.parts) (n.runs c.args.most)))
          n.count n.asked c.take.ensures.went;
    }
