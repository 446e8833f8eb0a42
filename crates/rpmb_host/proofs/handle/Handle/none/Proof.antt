-- A handle that holds nothing owns nothing: its pointer is the word 0.
use Rattle.std.proofs.Common.{◌≡◌, [], ◌∷◌, refl, lit<}
use Rattle.rpmb_host.proofs.Common.{Val, SProp, emp, raw, ◌$◌, ◌∵◌, !, qed, by, keep, drop, use0}
use Rattle.rpmb_host.proofs.Common.{no_more, and_then, returns, enter, alloc_all, free_all}
use Rattle.rpmb_host.proofs.Common.{pass_all, look_at, sets, agg, fact, fact_i, tables, null_ptr}
use Rattle.rpmb_host.proofs.Common.{nothing, Stays, walk_of, proved_at, leaves, Option, None}
use types.Run.{lit}
use denote.Triple.Entry.{on_entry}
use Rattle.rpmb_host.proofs.HandleSteps.{X, word, handle_in}
use Rattle.rpmb_host.specs.contracts.handle.Handle.none.{ended, clauses}
use Rattle.rpmb_host.specs.contracts.handle.Handle.none.Key.{name as #self}
use Rattle.rpmb_host.proofs.handle.Handle.none.Statement.{statement}
use Rattle.rpmb_host.proofs.handle.Handle.none.Code as code

pub none_spec : {M : Type 1} → statement M
none_spec 𝓤 𝓛 𝓜 𝓡 wired =
    let H = 𝓛.H in let 𝓣 = tables 𝓤 H 𝓜 𝓡 𝓡.env in let c = clauses 𝓛 𝓜.mem 𝓡.returns in let fn =
    code.function in
    let empty : Option X = None in let hs : Stays ended.signature.params ended.kept = tt in
    proved_at 𝓛 ended hs c 𝓜 𝓡 tt #self fn (code.unfolded 𝓤 H 𝓜 𝓡 wired) (λ z are.
    let Post : Val → SProp 𝓤 = (walk_of 𝓛 ended hs c).post z in
    qed 𝓛 (raw (on_entry 𝓛 ended.signature z.0.0 z.0.1 z.0.3 z.0.4)
    ∷ raw ((c z.0.0 z.0.3).requires z.1) ∷ []) ∵ drop ! $ drop ! $
    enter ! 𝓣.C 𝓣.Λ fn [] Post $ alloc_all ! (λ l. pass_all ! refl tt $
    sets ! (agg ! (and_then ! (lit ! tt) (no_more !))) refl (tt, (record { fits = lit< tt }, tt)) $
    nothing ! $ handle_in ! null_ptr empty $
    use0 𝓛 (raw (fact 𝓤 (empty ≡ empty))) (fact_i 𝓤 (empty ≡ empty) (emp 𝓤) refl) $ nothing ! $
    nothing ! $
    returns ! (look_at ! 0 refl) $ free_all ! refl $ keep ! (0 ∷ 1 ∷ 3 ∷ 2 ∷ []) $
    by ! (leaves 𝓛 ended hs c z (word null_ptr) (record { at = null_ptr; value = empty }) tt tt)))
