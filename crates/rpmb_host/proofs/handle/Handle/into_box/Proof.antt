-- `into_box` makes the box again, of the pointer and what the handle owns.
use Rattle.std.proofs.Common.{◌≡◌, ◌∙◌, List, [], ◌∷◌, ◌++◌, true, refl, sym, ap, subst}
use Rattle.rpmb_host.proofs.Common.{tnil, tcons, Val, full_share, SProp, ent, emp, id⊢, ftrue, flft}
use Rattle.rpmb_host.proofs.Common.{WpFn, ‵, raw, ◌⊛◌, later, ◌$◌, ◌∵◌, !, qed, by, move, keep}
use Rattle.rpmb_host.proofs.Common.{drop, split, join, fsplit, fjoin, pick, suffices, use0, use1}
use Rattle.rpmb_host.proofs.Common.{await, rewrite, feq_i, of_opd, no_more, and_then, returns}
use Rattle.rpmb_host.proofs.Common.{enter, alloc_all, pass_all, free_all, look_at, get, sets, ◌⊑◌}
use Rattle.rpmb_host.proofs.Common.{⊑_static, fact, fact_i, tables, yes, owns, types_at, plain}
use Rattle.rpmb_host.proofs.Common.{block_ptr, glues, nothing, only, Lasts, triple_of, Stays}
use Rattle.rpmb_host.proofs.Common.{stay_dropped, Goes-dropped, walk_of, fm, proved_at, leaves}
use Rattle.rpmb_host.proofs.Common.{Some, is_some, ghosts, dict, passed, box_out, box_in}
use lib.Dec.{T}
use mir.Syntax.{ty_ptr}
use mir.Val.{WT, has_ty, vptr}
use types.Kit.{some, at_ret, split3}
use types.Run.{stop, fld, first, blocks, exec}
use types.ByLocal.{get_in, lands_last, env}
use types.Part.{sub, whole}
use denote.Steps.{heard}
use denote.Triple.Call.{calls_at_last}
use denote.Triple.Clauses.{lasts}
use Rattle.core.proofs.alloc.Calls.{handle_tells}
use Rattle.std.specs.contracts.alloc.Global as heap
use Rattle.std_alloc.proofs.BoxSteps.Form as box
use Rattle.std_alloc.specs.contracts.boxed.Box.from_raw as callee
use Rattle.std_alloc.proofs.boxed.Box.from_raw.Met.{met}
use Rattle.rpmb_host.specs.contracts.handle.Handle as handle
use Rattle.rpmb_host.proofs.HandleSteps.{R, R-laws, Z, Z-laws, E, heap_drop, word, there}
use Rattle.rpmb_host.proofs.HandleSteps.{handle_out}
use Rattle.rpmb_host.proofs.Destruct++none.drop.Code as none_drop
use Rattle.rpmb_host.specs.contracts.handle.Handle.into_box.{ended, clauses}
use Rattle.rpmb_host.specs.contracts.handle.Handle.into_box.Key.{name as #self}
use Rattle.rpmb_host.proofs.handle.Handle.into_box.Statement.{statement}
use Rattle.rpmb_host.proofs.handle.Handle.into_box.Code as code

pub into_box_spec : {M : Type 1} → statement M
unfolding none_drop.code
into_box_spec {M} 𝓤 𝓛 𝓜 𝓡 wired =
    let H = 𝓛.H in let 𝓣 = tables 𝓤 H 𝓜 𝓡 𝓡.env in let c = clauses 𝓛 𝓜.mem 𝓡.returns in let fn =
    code.function in
    let hs : Stays ended.signature.params ended.kept = (
      stay_dropped (plain (λ _. handle.the_row)) yes,
      (stay_dropped (plain (λ _. heap.the_row)) yes, tt),
    ) in
    let k = triple_of 𝓛 (callee.signature R Z ghosts dict heap_drop)
    (callee.spec R Z ghosts dict heap_drop 𝓛 𝓜.mem 𝓡.returns) in
    let heap_met = passed 𝓡.env (code.calls-std_heap::GlobalAllocator::allocate 𝓡.env wired)
    (code.calls-std_heap::GlobalAllocator::deallocate 𝓡.env wired)
    (code.calls-std_heap::GlobalAllocator::grow 𝓡.env wired)
    (code.calls-std_heap::GlobalAllocator::shrink 𝓡.env wired) M 𝓤 𝓛 𝓜 𝓡 in
    let heap_goes = glues "rpmb_host::Destruct++none::drop" 𝓡.env
    (code.calls-rpmb_host::Destruct++none::drop 𝓡.env wired) Z Z-laws M 𝓤 𝓛 𝓜 𝓡 in
    proved_at 𝓛 ended hs c 𝓜 𝓡 (
      Goes-dropped 𝓛 0 (plain (λ _. handle.the_row)) yes (λ κs x f. refl),
      (Goes-dropped 𝓛 0 (plain (λ _. heap.the_row)) yes (λ κs x f. refl), tt),
    ) #self fn
    (code.unfolded 𝓤 H 𝓜 𝓡 wired) (λ z are.
    let v = z.0.3.0 in let a = z.0.3.1.0 in let Post : Val → SProp 𝓤 =
    (walk_of 𝓛 ended hs c).post z in
    let Run : List Val → SProp 𝓤 = λ ws. WpFn 𝓤 H 𝓣.C 𝓣.Λ fn ws Post in
    qed 𝓛 ((‵ ftrue ⊛ ‵ (owns (types_at ended.signature.params z.0.0) z.0.3 z.0.4))
    ∷ raw (fact 𝓤 (is_some v.value ≡ true)) ∷ []) ∵ move ! (1 ∷ []) $ heard !
    (is_some v.value ≡ true) (λ some_there. let x = there v.value some_there in
    split ! $ drop ! $ fsplit ! $ handle_out ! v z.0.4.0 x.0 x.1 (λ b o e ws.
    move ! (1 ∷ []) $ fsplit ! $
    handle_tells E.al ! a z.0.4.1.0 (λ h us fits.
    let w = word (block_ptr b o) in let typed = box.box_typed E h b o fits in
    let y : k.Ghost = (
      (
        ([], ([], tt)),
        (full_share, (full_share, tt)),
        tt,
        (a, (block_ptr b o, tt)),
        (h ∷ [], (vptr b o ∷ [], tt)),
      ),
      x.0,
    ) in
    let toks = ‵ (flft [] full_share) ⊛ ‵ (flft [] full_share) ⊛ ‵ ftrue in
    move ! (1 ∷ []) $ feq_i ! (List Val) (vptr b o ∷ []) (vptr b o ∷ []) refl $ fjoin ! $ move ! (1
    ∷ 0 ∷ []) $
    fjoin ! $
    nothing ! $ use0 𝓛 (‵ (flft [] full_share)) (𝓛.lfts.lft-nil full_share) $ join ! $
    use0 𝓛 (‵ (flft [] full_share)) (𝓛.lfts.lft-nil full_share) $ join ! $ join ! $ move ! (1 ∷ 0
    ∷ []) $
    use0 𝓛 (raw (fact 𝓤 ([] ⊑ []))) (fact_i 𝓤 ([] ⊑ []) (emp 𝓤) (⊑_static [])) $ join ! $
    use0 𝓛 (raw (fact 𝓤 ([] ⊑ []))) (fact_i 𝓤 ([] ⊑ []) (emp 𝓤) (⊑_static [])) $ join ! $
    move ! (1 ∷ 0 ∷ []) $ join ! $ use1 𝓛 (raw (k.pre y)) (id⊢ 𝓤 _) $
    suffices ! (Run (w ∷ h ∷ [])) (subst (λ (xs : List Val). ent 𝓤 (Run (w ∷ h ∷ []))
    (Run (xs ++ (z.0.4.1.0 ++ [])))) (sym ws) (subst (λ (xs : List Val). ent 𝓤 (Run (w ∷ h ∷ []))
    (Run (w ∷ (xs ++ [])))) (sym us) (id⊢ 𝓤 (Run (w ∷ h ∷ []))))) $
    enter ! 𝓣.C 𝓣.Λ fn (w ∷ h ∷ []) Post $ alloc_all ! (λ l.
    pass_all ! refl ((tt, (tt, tt)), (fits, tt)) $
    sets ! (of_opd ! (get_in ! (fld ! refl (stop !))
    (sub ! {τs = tcons ty_ptr tnil} 0 refl (whole !)))) refl (tt, tt) $ first ! $ blocks ! $
    sets ! (of_opd ! (get ! refl)) refl (tt, tt) $
    calls_at_last ! (fm 𝓛 𝓜 𝓡) k (met 𝓤 𝓛 𝓜 𝓡
    (code.calls-std_alloc::boxed::Box::from_raw 𝓡.env wired) R Z R-laws Z-laws ghosts dict heap_drop
    heap_met heap_goes) y (and_then ! (get ! refl) (and_then ! (get ! refl) (no_more !))) (λ u.
    use1 𝓛 (later (some (λ (r : (box.B E).Denot). (toks ⊛ ‵ ((box.B E).own_val r (u ∷ []))) ⊛ some
    (λ (ls : Lasts (callee.ended R Z ghosts dict heap_drop) y.0.0 y.0.3).
    ‵ (lasts (callee.ended R Z ghosts dict heap_drop) y.0.0 y.0.3 ls) ⊛
    (raw (fact 𝓤 (r.value ≡ x.0)) ⊛ raw (fact 𝓤 (r.alloc ≡ a))))))) (id⊢ 𝓤 (k.post y u)) $
    await ! tt $ pick ! (λ r. split ! $ move ! (1 ∷ []) $ pick ! (λ _. split3 ! $ drop ! $
    heard ! (r.value ≡ x.0) (λ same. drop ! $ split ! $ drop ! $
    box_out E ! r (u ∷ []) (λ b' o' h' e' is fits'. box_in E ! r b' o' r.value e' refl $
    rewrite ! 0 (λ (xs : List Val). ‵ ((box.B E).own_val r xs)) (sym is) refl $
    let good : T (has_ty (box.box_ty E) u) × WT u = subst (λ (q : Val). T (has_ty (box.box_ty E) q)
    × WT q)
    (sym (ap only is)) (box.box_typed E h' b' o' fits') in
    lands_last ! refl good $ exec ! 𝓣.C 𝓣.Λ (env fn.locals l) code.Mir.t-3
    (at_ret (env fn.locals l) Post) $
    sets ! (of_opd ! (get ! refl)) refl good $
    use0 𝓛 (raw (fact 𝓤 (Some r.value ≡ v.value))) (fact_i 𝓤 (Some r.value ≡ v.value) (emp 𝓤)
    (ap Some same ∙ sym x.1)) $ nothing ! $ nothing ! $ fjoin ! $ nothing ! $ fjoin ! $ nothing ! $
    returns ! (look_at ! 0 refl) $ free_all ! refl $ keep ! (0 ∷ 1 ∷ 3 ∷ 2 ∷ []) $
    by ! (leaves 𝓛 ended hs c z u r (tt, (tt, tt)) (tt, (tt, tt)))))))))))))
