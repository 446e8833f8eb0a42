use Rattle.std.proofs.Common.{refl, ap, sym, subst, ◌∙◌, ◌∷◌, Some}
use Rattle.machine.proofs.Common.{stand_of, standing}
use Rattle.machine.specs.Ending.{Went}
use Rattle.machine.specs.declared.serving.Next.TheVariants as next
use Rattle.machine.proofs.Goings.{went_by}
use Rattle.machine.proofs.Runs.{still_same}
use Rattle.machine.proofs.serving.move_on.Goals as goal

pub returns-in-Some : goal.returns-in-Some
returns-in-Some c =
    let g = c.args.guest in
    let b = c.args.board.now in
    let s = stand_of c.args.turn.now in
    let t = stand_of c.next_part.new.self in
    let part = c.in-Some.part in
    let first = still_same g c.args.most s (standing (part ∷ t.parts) t.going t.looked) b
    (ap (λ v. standing (part ∷ t.parts) v.going v.looked) c.next_part.ensures.rest
    ∙ ap (λ qs. standing qs s.going s.looked) (sym c.in-Some.ensures.some)) in
    record {
      went = went_by g c.args.most s b c.args.turn.now c.next_part.new.self b b
          (Some (next.Write part))
          first tt tt refl
          (ap (λ t. t.asked) c.next_part.ensures.rest);
    }

pub take-requires-clause-parts : goal.take-requires-clause-parts
take-requires-clause-parts c =
    let none = c.next_part.ensures.none c.in_default.is in ap (λ t. t.parts) none.1 ∙ none.0

pub leave-requires-clause-parts : goal.leave-requires-clause-parts
leave-requires-clause-parts c =
    let none = c.next_part.ensures.none c.in_default.is in ap (λ t. t.parts) none.1 ∙ none.0

pub returns-in-Taking : goal.returns-in-Taking
returns-in-Taking c = record {
  went = subst (λ t. Went c.args.guest c.args.most (stand_of t) c.args.board.now t
      c.take.new.turn c.args.board.now
      c.take.new.board c.take.result) (c.next_part.ensures.none c.in_default.is).1
      c.take.ensures.went;
}

pub returns-in-Leaving : goal.returns-in-Leaving
returns-in-Leaving c = record {
  went = subst (λ t. Went c.args.guest c.args.most (stand_of t) c.args.board.now t
      c.leave.new.turn c.args.board.now
      c.leave.new.board c.leave.result) (c.next_part.ensures.none c.in_default.is).1
      c.leave.ensures.went;
}

pub call-requires-clause-parts : goal.call-requires-clause-parts
call-requires-clause-parts c =
    let none = c.next_part.ensures.none c.in_default.is in ap (λ t. t.parts) none.1 ∙ none.0

pub returns-in-Notifying : goal.returns-in-Notifying
returns-in-Notifying c = record {
  went = subst (λ t. Went c.args.guest c.args.most (stand_of t) c.args.board.now t
      c.call.new.turn c.args.board.now
      c.call.new.board c.call.result) (c.next_part.ensures.none c.in_default.is).1
      c.call.ensures.went;
}
