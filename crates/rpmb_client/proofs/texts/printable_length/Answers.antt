use Rattle.std.proofs.Common.{arith, length, rules, not, sym}
use Rattle.std.proofs.lemmas.List.Sums.{position_or_len_is}
use Rattle.rpmb_client.specs.Explained.{is_printable}
use Rattle.rpmb_client.proofs.texts.printable_length.Goals as goal

pub returns-then-not-is_printable-clause-said : goal.returns-then-not-is_printable-clause-said
returns-then-not-is_printable-clause-said c =
    sym (position_or_len_is (λ b. not (is_printable b)) c.args.bytes.now c.loop-i.i 0
    (search (rules, arith)) c.loop-i.invariant (λ _. search rules))

pub returns-clause-said : goal.returns-clause-said
returns-clause-said c =
    sym (position_or_len_is (λ b. not (is_printable b)) c.args.bytes.now (length c.args.bytes.now) 0
    (omega arith)
    (λ k below. c.loop-i.invariant k (omega (arith, below, c.loop-i-test.false))) (λ below.
    absurd (omega (arith, below))))
