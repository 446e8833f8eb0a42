use Rattle.std.proofs.Common.{◌∙◌, None, Some, ap, sym}
use Rattle.rpmb_client.specs.Finding.{counted}
use Rattle.rpmb_client.specs.Seen.{chosen}
use Rattle.rpmb_commands.specs.ReadingData.{WhyNoAnswer, answer_none, answer_unread}
use Rattle.rpmb_commands.specs.ReadingData.{replies_in}
use Rattle.rpmb_commands.specs.declared.refusal.AnswerRefusal.TheVariants as answer
use Rattle.rpmb_commands.specs.declared.refusal.Refusal.TheVariants as refusal
use Rattle.rpmb_commands.proofs.DataLemmas.{each_text, map_some}
use Rattle.rpmb_commands.proofs.WholeText.{answer_cut, counted_cut}
use Rattle.rpmb_commands.proofs.read_data.answer_of.Goals as goal

pub returns-in-Err-clause-err : goal.returns-in-Err-clause-err
returns-in-Err-clause-err g c =
    each_text (g.B.Read.remaining c.args.input.now) (λ text.
    WhyNoAnswer c.args.nonce.now text c.in-Err.refusal) (λ text.
    answer_unread c.in-Err.ensures.reading)

pub returns-in-Answer-clause-ok : goal.returns-in-Answer-clause-ok
returns-in-Answer-clause-ok g c =
    let nonce = c.args.nonce.now in
    map_some (g.B.Read.remaining c.args.input.now) _ _ c.in-Ok.ensures.found (λ text found.
    sym (answer_cut nonce text found.0 found.1) ∙ sym (c.answer.ensures.answer nonce found.0
    found.2)
    ∙ ap chosen c.in-Answer.is)

pub returns-clause-err : goal.returns-clause-err
returns-clause-err g c =
    let nonce = c.args.nonce.now in
    map_some (g.B.Read.remaining c.args.input.now) _ _ c.in-Ok.ensures.found (λ text found.
    answer_none (sym (answer_cut nonce text found.0 found.1)
    ∙ sym (c.answer.ensures.answer nonce found.0 found.2) ∙ ap chosen c.in-Replies.is)
    (ap (λ n. refusal.Answer (answer.NoAnswer n.0 n.1))
    (sym (c.answer.ensures.counts _ _ c.in-Replies.is))
    ∙ ap (λ n. refusal.Answer (answer.NoAnswer n c.in-Ok.finder.counts.1)) (found.2.count_is
    ∙ counted_cut None text found.0 found.1)
    ∙ ap (λ n. refusal.Answer (answer.NoAnswer (counted (replies_in None text)) n))
    (found.2.asked_count_is
    ∙ counted_cut (Some nonce) text found.0 found.1)))
