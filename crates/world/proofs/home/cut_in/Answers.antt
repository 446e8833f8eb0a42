use Rattle.std.proofs.Common.{ap, refl, subst}
use Rattle.world.proofs.Common.{DiskFault, with_marks, next_call, advance_answer, report_of, CutBy}
use Rattle.board.proofs.Doing.{fault_made}
use Rattle.world.proofs.home.cut_in.Goals as goal

pub returns-in-Write : goal.returns-in-Write
returns-in-Write c =
    let b = c.args.board in
    let v = c.into_store-store.result in
    let a = c.advance.ensures in
    let guests = c.advance.new.self.guests in
    let progress = with_marks guests c.advance.result in
    subst (λ s. CutBy (next_call s.broken s.guests) (record b { store = s }) c.args.filler.now
    c.cut_between.result) c.into_store-store.ensures
    (subst (λ k. CutBy k (record b { store = v }) c.args.filler.now c.cut_between.result)
    c.in-Write.ensures
    (record {
      answer = advance_answer progress;
      after = record b { store = c.advance.new.self; report = report_of progress };
      advances = record {
        progress = progress;
        store = c.advance.new.self;
        round = a.round;
        refused = λ broken. (
          ap (with_marks guests) (a.answers.refused broken).0,
          (a.answers.refused broken).1,
        );
        cause = λ failed. a.answers.cause (fault_made guests c.advance.result DiskFault failed);
        moves = a.moves;
        moments = a.any_moment;
        held = a.held;
        front = a.front;
        answers = refl;
        after = refl;
      };
      cuts = c.cut_between.ensures;
    }))
