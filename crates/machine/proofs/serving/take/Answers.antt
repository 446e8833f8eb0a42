use Rattle.std.proofs.Common.{◌≡◌, ℕ, [], ◌∷◌, inl, inr, ap, sym, subst, ◌∙◌}
use Rattle.machine.proofs.Common.{Boards, Runs, Stand, stand_of, standing}
use Rattle.machine.specs.Ending.{IsTaken, Went}
use Rattle.machine.specs.Serving.{DoesSome}
use Rattle.machine.specs.Turn.{TurnState}
use Rattle.machine.proofs.Goings.{went_by, went_on}
use Rattle.machine.proofs.Runs.{still_on}
use Rattle.machine.proofs.serving.take.Goals as goal

-- nothing is left to be copied out before
from : (guest most : ℕ) (t : TurnState) (a b : Boards) (u : Stand) → t.parts ≡ []
    → Runs guest most (standing [] t.going t.looked) a u b → Runs guest most (stand_of t) a u b
from guest most t a b u none runs =
    subst (λ ps. Runs guest most (standing ps t.going t.looked) a u b) (sym none) runs

pub returns-in-Asks : goal.returns-in-Asks
returns-in-Asks c =
    let g = c.args.guest in
    let o = c.take_one.new in
    let e = c.take_one.ensures in
    record {
      went = went_by g c.args.most (stand_of c.args.turn.now) c.args.board.now c.args.turn.now
          o.turn c.args.board.now o.board _
          (from g c.args.most c.args.turn.now c.args.board.now o.board _ c.requires.parts
          e.takes.runs)
          (subst (λ k. IsTaken g c.args.most (standing [] c.args.turn.now.going
          c.args.turn.now.looked) c.args.board.now
          o.turn o.board k) c.in-Asks.is e.takes.became).0
          tt e.count e.keeps.1;
    }

pub returns-in-Some : goal.returns-in-Some
returns-in-Some c =
    let g = c.args.guest in
    let a = c.args.board.now in
    let t = c.args.turn.now in
    let o = c.take_one.new in
    let e = c.take_one.ensures in
    let t' = c.next_part.new.self in
    let part = c.in-Some.part in
    record {
      went = went_by g c.args.most (stand_of t) a t t' a o.board _
          (still_on g c.args.most (stand_of t) (stand_of o.turn) (standing
          (part ∷ t'.parts) t'.going t'.looked) a o.board
          (ap (λ v. standing (part ∷ t'.parts) v.going v.looked) c.next_part.ensures.rest
          ∙ ap (λ ps. standing ps o.turn.going o.turn.looked) (sym c.in-Some.ensures.some))
          (from g c.args.most t a o.board _ c.requires.parts e.takes.runs))
          tt tt e.count (ap (λ v. v.asked) c.next_part.ensures.rest ∙ e.keeps.1);
    }

pub returns-in-None : goal.returns-in-None
returns-in-None c =
    let g = c.args.guest in
    let a = c.args.board.now in
    let t = c.args.turn.now in
    let o = c.take_one.new in
    let e = c.take_one.ensures in
    let t' = c.next_part.new.self in
    let none = c.next_part.ensures.none c.in-None.is in
    let does : DoesSome g c.args.most (standing [] t.going t.looked) a (stand_of o.turn) o.board =
    elim (e.takes.did c.in-Did.is) [
      | inl some ↦ some
      | inr parts ↦ absurd (parts none.0)
    ] in
    record {
      went = went_by g c.args.most (stand_of t) a t t' a o.board _
          (subst (λ v. Runs g c.args.most (stand_of t) a (stand_of v) o.board) (sym none.1)
          (from g c.args.most t a o.board _ c.requires.parts e.takes.runs))
          tt
          (subst (λ v. DoesSome g c.args.most (stand_of t) a (stand_of v) o.board) (sym none.1)
          (subst (λ ps. DoesSome g c.args.most (standing ps t.going t.looked) a (stand_of o.turn)
          o.board)
          (sym c.requires.parts) does))
          e.count (ap (λ v. v.asked) none.1 ∙ e.keeps.1);
    }

pub settle_down-requires-clause-parts : goal.settle_down-requires-clause-parts
settle_down-requires-clause-parts c =
    (subst (λ k. IsTaken c.args.guest c.args.most (standing [] c.args.turn.now.going
    c.args.turn.now.looked)
    c.args.board.now c.take_one.new.turn c.take_one.new.board k)
    c.in-Nothing.is c.take_one.ensures.takes.became).1

pub returns-in-Nothing : goal.returns-in-Nothing
returns-in-Nothing c =
    let g = c.args.guest in
    let most = c.args.most in
    let t = c.args.turn.now in
    let a = c.args.board.now in
    let o = c.take_one.new in
    let e = c.take_one.ensures in
    let d = c.settle_down in
    record {
      went = went_on g most (stand_of t) a t o.turn d.new.turn a o.board d.new.board d.result
          (from g c.args.most t a o.board _ c.requires.parts e.takes.runs) e.count e.keeps.1
          (subst (λ ps. Went g most (standing ps t.going t.looked) a o.turn d.new.turn o.board
          d.new.board
          d.result) (sym c.requires.parts)
          (d.ensures.went most (standing [] t.going t.looked) a
          (subst (λ k. IsTaken g most (standing [] t.going t.looked) a o.turn o.board k)
          c.in-Nothing.is
          e.takes.became).0));
    }

pub settle_down-requires-in-Refused-clause-parts : goal.settle_down-requires-in-Refused-clause-parts
settle_down-requires-in-Refused-clause-parts c =
    (subst (λ k. IsTaken c.args.guest c.args.most (standing [] c.args.turn.now.going
    c.args.turn.now.looked)
    c.args.board.now c.take_one.new.turn c.take_one.new.board k)
    c.in-Refused.is c.take_one.ensures.takes.became).1

pub returns-in-Refused : goal.returns-in-Refused
returns-in-Refused c =
    let g = c.args.guest in
    let most = c.args.most in
    let t = c.args.turn.now in
    let a = c.args.board.now in
    let o = c.take_one.new in
    let e = c.take_one.ensures in
    let d = c.settle_down-in-Refused in
    record {
      went = went_on g most (stand_of t) a t o.turn d.new.turn a o.board d.new.board d.result
          (from g c.args.most t a o.board _ c.requires.parts e.takes.runs) e.count e.keeps.1
          (subst (λ ps. Went g most (standing ps t.going t.looked) a o.turn d.new.turn o.board
          d.new.board
          d.result) (sym c.requires.parts)
          (d.ensures.went most (standing [] t.going t.looked) a
          (subst (λ k. IsTaken g most (standing [] t.going t.looked) a o.turn o.board k)
          c.in-Refused.is
          e.takes.became).0));
    }
