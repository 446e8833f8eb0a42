-- `of` gives the box up for its pointer, and the handle owns what the box did.
use Rattle.std.proofs.Common.{◌≡◌, ◌∙◌, List, [], ◌∷◌, ◌++◌, refl, sym, ap, subst}
use Rattle.rpmb_host.proofs.Common.{tnil, dnil, impl, Val, full_share, SProp, ent, emp, never, id⊢}
use Rattle.rpmb_host.proofs.Common.{fst∗, ftrue, flft, WpFn, sem, ‵, raw, ◌⊛◌, later, ◌$◌, ◌∵◌, ! }
use Rattle.rpmb_host.proofs.Common.{qed, by, move, keep, drop, split, join, fsplit, fjoin, pick}
use Rattle.rpmb_host.proofs.Common.{suffices, use0, use1, await, feq_l, of_opd, no_more, and_then}
use Rattle.rpmb_host.proofs.Common.{returns, enter, alloc_all, pass_all, free_all, look_at, get}
use Rattle.rpmb_host.proofs.Common.{sets, agg, ◌⊑◌, ⊑_static, fact, fact_i, tables, Logic, Ura}
use Rattle.rpmb_host.proofs.Common.{RawPtr, yes, owns, types_at, plain, Ptr, block_ptr, null_ptr}
use Rattle.rpmb_host.proofs.Common.{ptr_val, in_a_block, lone, glues, nothing, only, Lasts}
use Rattle.rpmb_host.proofs.Common.{triple_of, Stays, stay_dropped, Goes-dropped, walk_of, fm}
use Rattle.rpmb_host.proofs.Common.{proved_at, leaves, Some, ghosts, dict, passed, box_out, box_in}
use Rattle.rpmb_host.proofs.Common.{held, may_free}
use mir.Syntax.{Dict}
use mir.Raw.{raw as bare}
use types.Kit.{some}
use types.ByLocal.{lands_as}
use contract.Running.{Running}
use prog.Model.{Model}
use prog.Wired.{Wired}
use mir.Syntax.{method, no_args}
use base.Logic.{sep, via, emp∗, comm∗}
use base.Fml.{fsep}
use types.Kit.{show, done}
use denote.Param.Glue as glue
use denote.Triple.Carry.{beside, spared}
use denote.Triple.Spec.{Spec}
use denote.Triple.Table.{run_framed, widened}
use Rattle.rpmb_host.specs.contracts.machine++machine++Machine+Destruct.drop as letting_go
use Rattle.rpmb_host.proofs.machine++machine++Machine+Destruct.drop.Symbol as go
use denote.Triple.Call.{calls_at}
use denote.Triple.Clauses.{lasts}
use Rattle.std_alloc.proofs.BoxSteps.Form as box
use Rattle.std_alloc.specs.contracts.boxed.Box.into_raw as callee
use Rattle.std_alloc.proofs.boxed.Box.into_raw.Met.{met}
use Rattle.machine.specs.contracts.machine.Machine as thing
use Rattle.rpmb_host.proofs.HandleSteps.{Boxed, R, R-laws, Z, Z-laws, E, heap_drop, word, handle_in}
use Rattle.rpmb_host.proofs.Destruct++none.drop.Code as none_drop
use Rattle.rpmb_host.proofs.machine++machine++Machine+Destruct.drop.Met as let_go
use Rattle.rpmb_host.specs.contracts.handle.Handle.of.{ended, clauses}
use Rattle.rpmb_host.specs.contracts.handle.Handle.of.Key.{name as #self}
use Rattle.rpmb_host.proofs.handle.Handle.of.Statement.{statement}
use Rattle.rpmb_host.proofs.handle.Handle.of.Code as code

abbrev thing_drop : Dict
thing_drop = impl ("rpmb_host::machine++machine++Machine+Destruct::drop" ∷ []) tnil dnil

-- the machine's own drop lets a value go
thing_goes : {M : Type 1} (𝓤 : Ura M) (𝓛 : Logic 𝓤) (𝓜 : Model 𝓤 𝓛.H) (𝓡 : Running 𝓤 𝓛.H 𝓜)
    → Wired 𝓡.env go.code → glue.Met 𝓛 𝓜 𝓡 𝓡.env R thing_drop
thing_goes 𝓤 𝓛 𝓜 𝓡 wired =
    let S = glue.signature R in let plain_spec = letting_go.spec 𝓛 𝓜.mem 𝓡.returns in
    let k = method thing_drop 0 no_args in
    let said : Spec 𝓤 S = λ κs a. record {
      ghost = Unit {0};
      requires = λ _. sep 𝓤 (fact 𝓤 (κs.0 ⊑ R.lives))
          (emp 𝓤);
      ensures = λ _ r. (plain_spec tt a).ensures tt r;
    } in
    beside 𝓛 S (𝓡.run (𝓡.env k)) (run_framed 𝓤 𝓛.H 𝓜 𝓡 (𝓡.env k)) said (glue.spent 𝓛 R) (λ κs a x.
    x)
    (λ κs a x. emp 𝓤)
    (λ κs a x. via 𝓤 (sep 𝓤 (emp 𝓤) ((said κs a).requires x)) (emp∗ 𝓤 ((said κs a).requires x))
    (comm∗ 𝓤 (emp 𝓤)
    ((said κs a).requires x)))
    (λ κs a x r. qed 𝓛 (raw ((said κs a).ensures x r) ∷ raw (emp 𝓤) ∷ []) ∵ keep ! [] $
    show ! (λ (ws : Unit {0} × Unit {0}). sep 𝓤 (sem 𝓛 (fsep ftrue ftrue)) (emp 𝓤)) (tt, tt) $
    nothing ! $ nothing ! $ nothing ! $ join ! $ done !)
    (widened 𝓤 𝓛.H (triple_of 𝓛 S said) 𝓜 𝓡 𝓡.env (𝓡.env go.name) (𝓡.env k)
    (go.as_method 𝓡.env wired k refl)
    (λ y. spared 𝓛 letting_go.signature (𝓡.run (𝓡.env go.name)) (run_framed 𝓤 𝓛.H 𝓜 𝓡
    (𝓡.env go.name)) 1 (R.lives, tt) plain_spec (let_go.met 𝓤 𝓛 𝓜 𝓡 wired)
    ((y.0.0, y.0.1, tt, y.0.3, y.0.4), y.1)))

pub of_spec : {M : Type 1} → statement M
unfolding none_drop.code
of_spec {M} 𝓤 𝓛 𝓜 𝓡 wired =
    let H = 𝓛.H in let 𝓣 = tables 𝓤 H 𝓜 𝓡 𝓡.env in let c = clauses 𝓛 𝓜.mem 𝓡.returns in let fn =
    code.function in
    let hs : Stays ended.signature.params ended.kept =
    (stay_dropped (plain (λ _. Boxed)) yes, tt) in
    let k = triple_of 𝓛 (callee.signature R Z ghosts dict heap_drop thing_drop)
    (callee.spec R Z ghosts dict heap_drop thing_drop 𝓛 𝓜.mem 𝓡.returns) in
    let heap_met = passed 𝓡.env (code.calls-std_heap::GlobalAllocator::allocate 𝓡.env wired)
    (code.calls-std_heap::GlobalAllocator::deallocate 𝓡.env wired)
    (code.calls-std_heap::GlobalAllocator::grow 𝓡.env wired)
    (code.calls-std_heap::GlobalAllocator::shrink 𝓡.env wired) M 𝓤 𝓛 𝓜 𝓡 in
    let heap_goes = glues "rpmb_host::Destruct++none::drop" 𝓡.env
    (code.calls-rpmb_host::Destruct++none::drop 𝓡.env wired) Z Z-laws M 𝓤 𝓛 𝓜 𝓡 in
    proved_at 𝓛 ended hs c 𝓜 𝓡
    (Goes-dropped 𝓛 0 (plain (λ _. Boxed)) yes (λ κs x f. refl), tt) #self fn
    (code.unfolded 𝓤 H 𝓜 𝓡 wired) (λ z are.
    let v = z.0.3.0 in let Post : Val → SProp 𝓤 = (walk_of 𝓛 ended hs c).post z in
    let Run : List Val → SProp 𝓤 = λ ws. WpFn 𝓤 H 𝓣.C 𝓣.Λ fn ws Post in
    qed 𝓛 ((‵ ftrue ⊛ ‵ (owns (types_at ended.signature.params z.0.0) z.0.3 z.0.4))
    ∷ raw ((c z.0.0 z.0.3).requires z.1) ∷ []) ∵ split ! $ drop ! $ fsplit ! $
    box_out E ! v z.0.4.0 (λ b o h e ws fits. box_in E ! v b o v.value e refl $
    let w : Val = box.word E h b o in let typed = box.box_typed E h b o fits in
    let y : k.Ghost = (
      (([], ([], tt)), (full_share, (full_share, tt)), tt, (v, tt), (w ∷ [], tt)),
      tt,
    ) in
    let toks = ‵ (flft [] full_share) ⊛ ‵ (flft [] full_share) ⊛ ‵ ftrue in
    fjoin ! $ nothing ! $ use0 𝓛 (‵ (flft [] full_share)) (𝓛.lfts.lft-nil full_share) $ join ! $
    use0 𝓛 (‵ (flft [] full_share)) (𝓛.lfts.lft-nil full_share) $ join ! $ join ! $
    nothing ! $ use0 𝓛 (raw (fact 𝓤 ([] ⊑ []))) (fact_i 𝓤 ([] ⊑ []) (emp 𝓤) (⊑_static [])) $ join !
    $
    use0 𝓛 (raw (fact 𝓤 ([] ⊑ []))) (fact_i 𝓤 ([] ⊑ []) (emp 𝓤) (⊑_static [])) $ join ! $
    move ! (1 ∷ 0 ∷ []) $ join ! $ use1 𝓛 (raw (k.pre y)) (id⊢ 𝓤 _) $
    suffices ! (Run (w ∷ [])) (subst (λ (us : List Val). ent 𝓤 (Run (w ∷ [])) (Run us))
    (sym (λ i. ws i ++ []))
    (id⊢ 𝓤 (Run (w ∷ [])))) $
    enter ! 𝓣.C 𝓣.Λ fn (w ∷ []) Post $ alloc_all ! (λ l. pass_all ! refl (typed, tt) $
    sets ! (of_opd ! (get ! refl)) refl typed $
    calls_at ! (fm 𝓛 𝓜 𝓡) k (met 𝓤 𝓛 𝓜 𝓡
    (code.calls-std_alloc::boxed::Box::into_raw 𝓡.env wired) R Z R-laws Z-laws ghosts dict heap_drop
    thing_drop heap_met heap_goes
    (thing_goes 𝓤 𝓛 𝓜 𝓡 (code.calls-rpmb_host::machine++machine++Machine+Destruct::drop 𝓡.env
    wired))) y (and_then ! (get ! refl) (no_more !)) (λ u.
    use1 𝓛 (later (some (λ (r : Ptr).
    (toks ⊛ ‵ (RawPtr.own_val r (u ∷ []))) ⊛ some
    (λ (ls : Lasts (callee.ended R Z ghosts dict heap_drop thing_drop) y.0.0 y.0.3).
    ‵ (lasts (callee.ended R Z ghosts dict heap_drop thing_drop) y.0.0 y.0.3 ls) ⊛ ‵
    (held thing.the_row r (Some v.value)))))) (id⊢ 𝓤 (k.post y u)) $
    await ! tt $ pick ! (λ r.
    split ! $ move ! (1 ∷ []) $ pick ! (λ _. split ! $ drop ! $ move ! (1 ∷ []) $ split ! $
    drop ! $ feq_l ! (λ is. move ! (0 ∷ []) $
    in_a_block ! r (λ p. held thing.the_row p (Some v.value)) (fst∗ 𝓤 (never 𝓤)
    (sem 𝓛 (may_free (bare (lone (thing.the_row).mir)) null_ptr))) (λ b' o' e'.
    lands_as ! (ap only is ∙ ap ptr_val e') refl (tt, tt) $ sets ! (of_opd ! (get ! refl)) refl (
      tt,
      tt,
    ) $
    sets ! (agg ! (and_then ! (get ! refl) (no_more !))) refl (tt, (tt, tt)) $
    handle_in ! (block_ptr b' o') (Some v.value) $
    use0 𝓛 (raw (fact 𝓤 (Some v.value ≡ Some v.value)))
    (fact_i 𝓤 (Some v.value ≡ Some v.value) (emp 𝓤) refl) $
    nothing ! $ nothing ! $ fjoin ! $ nothing ! $
    returns ! (look_at ! 0 refl) $ free_all ! refl $ keep ! (0 ∷ 1 ∷ 3 ∷ 2 ∷ []) $
    by ! (leaves 𝓛 ended hs c z (word (block_ptr b' o'))
    (record { at = block_ptr b' o'; value = Some v.value })
    (tt, tt) (tt, tt))))))))))
