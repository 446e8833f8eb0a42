use Rattle.std.proofs.Common.{◌≡◌, true, false, sym, ◌∙◌, rules}
use Rattle.chains.proofs.Helds.{whole_asks_nothing}
use Rattle.chains.proofs.ring.Ring.told.Goals as goal

pub returns-then-asks-clause-exact : goal.returns-then-asks-clause-exact
returns-then-asks-clause-exact g c = λ whole.
    absurd (let is : true ≡ false = sym c.if-asks.true ∙ c.asks.ensures ∙ whole in cc)

pub returns-in-Some-clause-exact : goal.returns-in-Some-clause-exact
returns-in-Some-clause-exact g c = λ whole.
    absurd (whole_asks_nothing c.args.memory.now c.in-Some._ask
    (c.what_always_holds.ensures.whole whole) (search rules))
