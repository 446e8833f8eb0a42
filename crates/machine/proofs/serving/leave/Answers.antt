use Rattle.std.proofs.Common.{refl, ap, sym, subst, ◌∙◌}
use Rattle.machine.proofs.Common.{Runs, stand_of, standing}
use Rattle.machine.specs.declared.fault.MachineFault.TheVariants as fault
use Rattle.machine.proofs.Goings.{lacks, went_after, went_by}
use Rattle.machine.proofs.Popping.{gives_up}
use Rattle.machine.proofs.Runs.{runs_twice}
use Rattle.machine.proofs.serving.leave.Goals as goal

pub call-requires-clause-parts : goal.call-requires-clause-parts
call-requires-clause-parts c =
    c.leave_one.ensures.idle (λ did. absurd (let a = c.in-Nothing.is in let b = did in cc))

pub returns-in-NoMemory : goal.returns-in-NoMemory
returns-in-NoMemory c =
    let g = c.args.guest in
    let a = c.args.board.now in
    let b = c.leave_one.new.board in
    let s = stand_of c.args.turn.now in
    let t = stand_of c.leave_one.new.turn in
    let u = stand_of c.take_next.new.self in
    record {
      went = went_by g c.args.most s a c.args.turn.now c.take_next.new.self a b _
          (runs_twice g c.args.most s t u a b b
          (subst (λ ps. Runs g c.args.most (standing ps s.going s.looked) a t b)
          (sym c.requires.parts)
          (c.leave_one.ensures.runs c.args.most))
          (gives_up g c.args.most t.parts t.going t.looked u b (ap stand_of c.take_next.ensures)))
          (lacks g c.args.most fault.NoMemory s a c.take_next.new.self b refl) tt
          c.leave_one.ensures.count
          (ap (λ v. v.asked) c.take_next.ensures ∙ c.leave_one.ensures.keeps.1);
    }

pub returns-in-Nothing : goal.returns-in-Nothing
returns-in-Nothing c =
    let g = c.args.guest in
    let t = c.args.turn.now in
    let l = c.leave_one.new in
    record {
      went = went_after g c.args.most t l.turn c.call.new.turn c.args.board.now l.board
          c.call.new.board _
          (subst (λ ps. Runs g c.args.most (standing ps t.going t.looked) c.args.board.now
          (stand_of l.turn) l.board)
          (sym c.requires.parts) (c.leave_one.ensures.runs c.args.most))
          c.leave_one.ensures.count c.leave_one.ensures.keeps.1 c.call.ensures.went;
    }
