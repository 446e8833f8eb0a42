use Rattle.std.proofs.Common.{◌∙◌, ap, arith, inl, sym}
use Rattle.world.proofs.Common.{option_copied}
use Rattle.world.proofs.Noted.{says_more, says_same}
use Rattle.world.proofs.noting.submit.Goals as goal

pub returns-then-sequence-before : goal.returns-then-sequence-before
returns-then-sequence-before c =
    let log = c.args.log.now in
    let noted = c.in-Ok.ensures.noted in
    let forgot = c.forget.ensures log.accepted _ noted in
    let lies = sym c.job.ensures ∙ ap option_copied c.in-Some.is in
    let same = sym c.sequence.ensures ∙ c.if-sequence-before.true ∙ c.sequence-before.ensures in
    record {
      submits = record {
        made = inl (record {
          does = c.step-answer.ensures.does;
          accepted = says_same c.args.guest c.args.board.now c.step-answer.new.self _
              c.step-answer.result log c.forget.new.self lies c.step-answer.ensures.does same
              (ap (λ l. l.accepted) forgot);
          room = λ did. (let room = c.in-Ok.ensures.room in let is = ap (λ l. l.room) forgot in
              omega (arith, room, is));
        });
        published = ap (λ l. l.published) forgot ∙ c.note.ensures.published;
        popped = ap (λ l. l.popped) forgot ∙ c.note.ensures.popped;
        capacity = (let kept = c.note.ensures.kept in let is = ap (λ l. l.room) forgot in
            omega (arith, kept, is));
      };
    }

pub returns-else-sequence-before : goal.returns-else-sequence-before
returns-else-sequence-before c =
    let log = c.args.log.now in
    let lies = sym c.job.ensures ∙ ap option_copied c.in-Some.is in
    let differs = c.if-sequence-before.false in
    record {
      submits = record {
        made = inl (record {
          does = c.step-answer.ensures.does;
          accepted = says_more c.args.guest c.args.board.now c.step-answer.new.self _
              c.step-answer.result log c.note.new.self lies c.step-answer.ensures.does (λ e.
              differs (c.sequence.ensures ∙ e ∙ sym c.sequence-before.ensures))
              c.in-Ok.ensures.noted;
          room = λ did. c.in-Ok.ensures.room;
        });
        published = c.note.ensures.published;
        popped = c.note.ensures.popped;
        capacity = c.note.ensures.kept;
      };
    }
