use Rattle.std.proofs.Common.{ap, subst, sym, ◌∙◌}
use Rattle.workers.specs.Keeping.{Keeps, KeyedStore}
use Rattle.workers.proofs.Keeping.{if_ok_weaker, keeps_begins}
use Rattle.workers.proofs.serving.serve_as.Goals as goal

pub returns-clause-keeps : goal.returns-clause-keeps
returns-clause-keeps g c =
    let shows = g.D.Disk.state in
    let makes = g.D.Disk.makes in
    let keys = c.in_ok-keys.keys.items in
    let end = c.in_ok-crew.crew.flusher.flusher in
    let run = c.in_ok-crew.ensures.flusher in
    let first : KeyedStore _ = record { store = c.args.parts.store; keys = keys } in
    let begun = subst (λ k. Keeps shows makes first (record { store = k.store; keys = keys }))
    (sym c.in-Ok.ensures) (keeps_begins shows makes first) in
    if_ok_weaker c.finish.result
    (λ e is. (
      keys,
      c.in_ok-keys.ensures,
      (
        end.keys.items,
        subst (λ s. Keeps shows makes first (record { store = s; keys = end.keys.items }))
            (sym is.0) (run.0 first begun),
      ),
    ))
    c.finish.ensures.store

pub returns-clause-heard : goal.returns-clause-heard
returns-clause-heard g c =
    let whole = ap (λ k. k.store.broken) c.in-Ok.ensures in
    if_ok_weaker c.finish.result
    (λ e is same. ap (λ s. s.broken) is.0
    ∙ c.in_ok-crew.ensures.flusher.1 (whole ∙ sym same ∙ sym c.is_broken-broken.ensures)
    ∙ sym is.1)
    c.finish.ensures.store
