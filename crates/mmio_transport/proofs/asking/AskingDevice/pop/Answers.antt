use Rattle.std.proofs.Common.{◌≡◌, false, subst, sym, rules}
use Rattle.chains.proofs.Helds.{whole_asks_nothing}
use Rattle.mmio_transport.specs.Asking.{AskingState}
use Rattle.mmio_transport.proofs.asking.AskingDevice.pop.Goals as goal

pub returns-in-Err-Missing-clause-whole : goal.returns-in-Err-Missing-clause-whole
returns-in-Err-Missing-clause-whole c = λ ask whole is.
    let all = subst (λ (v : AskingState). v.asks ≡ false) (sym c.self.view_is) whole in
    whole_asks_nothing c.self.inside.memory c.in-Err-Missing.ask
    (c.what_always_holds.ensures.whole all) (search rules)
