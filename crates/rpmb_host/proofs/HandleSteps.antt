-- A handle as the machine has it, and the types of its calls. Assumes `Logic`.
--     word                     the machine value of a handle: one pointer
--     handle_in, handle_out    what a handle owns is put together, and taken apart
--     Boxed                    a box of the machine on the heap
--     R, Z, heap_drop, E       the machine and the heap as the calls of `Box` pass them
use Rattle.std.proofs.Common.{◌≡◌, ℕ, true, List, [], ◌∷◌, ◌++◌, refl, sym, subst}
use Rattle.rpmb_host.proofs.Common.{Ura, tnil, tcons, dnil, impl, Val, never, fst∗, Logic, sem, ‵}
use Rattle.rpmb_host.proofs.Common.{◌$◌, drop, rewrite, fsplit, fjoin, feq_i, feq_l, RawPtr, lone}
use Rattle.rpmb_host.proofs.Common.{Ptr, block_ptr, null_ptr, ptr_val, in_a_block, nothing, Option}
use Rattle.rpmb_host.proofs.Common.{None, Some, is_some, ghosts, dict, held, may_free}
use mathlib.Core.Bool.{true≢false}
use mir.Raw.{raw as bare}
use mir.Syntax.{Dict}
use mir.Val.{vstruct, of_list}
use types.Kit.{Item, Goal, Seq, Step, step, fpick, fpack}
use denote.Exit.{no}
use denote.RattleType.{RattleType, Valss}
use denote.Param.{arg, layout}
use denote.Param.Laws.{Laws, arg_laws}
use denote.Struct.Struct.{within}
use denote.Struct.Owning.{shape}
use Rattle.std.specs.Box.Ownership.{box_owns}
use Rattle.std.specs.contracts.alloc.Global as heap
use Rattle.std.proofs.alloc.Global.TheLaws as heap_laws
use Rattle.std_alloc.specs.contracts.boxed.Box as boxed
use Rattle.std_alloc.proofs.BoxSteps.Form.{Bx}
use Rattle.machine.specs.contracts.machine.Machine as thing
use Rattle.machine.proofs.machine.Machine.TheLaws as thing_laws
use Rattle.rpmb_host.specs.contracts.handle.Handle as handle

abbrev pub X : Type 0
X = (thing.the_row).Denot

abbrev pub word : Ptr → Val
word p = vstruct (of_list (ptr_val p ∷ []))

-- a call passes a type as its layout
abbrev pub R : RattleType
R = arg (bare (layout thing.the_row)) no thing.the_row

pub R-laws : Laws R
R-laws = arg_laws (bare (layout thing.the_row)) no thing.the_row thing_laws.the_row_laws refl

abbrev pub Z : RattleType
Z = arg (bare (layout heap.the_row)) no heap.the_row

pub Z-laws : Laws Z
Z-laws = arg_laws (bare (layout heap.the_row)) no heap.the_row heap_laws.the_row_laws refl

abbrev pub heap_drop : Dict
heap_drop = impl ("rpmb_host::Destruct++none::drop" ∷ []) (tcons (layout Z) tnil) dnil

abbrev pub E : Bx
E = record {
  row = R;
  laws = R-laws;
  al = record {
    row = Z;
    laws = Z-laws;
    g = ghosts;
    d = dict;
    drops = heap_drop;
  };
}

-- the type of a box of the machine on the heap
abbrev pub Boxed : RattleType
Boxed = boxed.the_row thing.the_row heap.the_row ghosts

pub there : (x : Option X) → is_some x ≡ true → (y : X) × (x ≡ Some y)
there None e = absurd (true≢false (sym e))
there (Some y) e = (y, refl)

module _ {M : Type 1} {𝓤 : Ura M} {𝓛 : Logic 𝓤} {K : Type 0} {Γ : List (Item 𝓤)} {G : Goal 𝓤 𝓛.H}
  where
    pub handle_in : K → (p : Ptr) (x : Option X)
        → Step K 𝓛 (‵ ((handle.the_row).own_val (record { at = p; value = x })
        (word p ∷ [])) ∷ Γ) G (‵ (held thing.the_row p x) ∷ Γ) G
    handle_in t p x = step (λ s.
        nothing t $ feq_i t (List Val) (ptr_val p ∷ []) (ptr_val p ∷ []) refl $ fjoin t $
        feq_i t (List Val) (word p ∷ []) (word p ∷ []) refl $ fjoin t $
        fpack t (Valss (RawPtr ∷ [])) (within (shape handle.the_type) (p, tt) (word p ∷ []))
        (ptr_val p ∷ [], tt) $
        fjoin t $ s)

    pub handle_out : K → (d : (handle.the_row).Denot) (vs : List Val) (x : X) → d.value ≡ Some x
        → ((b o : ℕ) → d.at ≡ block_ptr b o → vs ≡ word (block_ptr b o) ∷ [] →
        Seq K 𝓛 (‵ (box_owns may_free thing.the_row (block_ptr b o) x) ∷ Γ) G)
        → Seq K 𝓛 (‵ ((handle.the_row).own_val d vs) ∷ Γ) G
    handle_out t d vs x is k =
        fsplit t $ fpick t (λ vss. fsplit t $ feq_l t (λ ev. fsplit t $ feq_l t (λ ep. drop t $
        rewrite t 0 (λ (o : Option X). ‵ (held thing.the_row d.at o)) is refl $
        in_a_block t d.at (λ p. box_owns may_free thing.the_row p x) (fst∗ 𝓤 (never 𝓤)
        (sem 𝓛 (may_free (bare (lone (thing.the_row).mir)) null_ptr))) (λ b o e. k b o e
        (subst (λ (p : Ptr). vs ≡ word p ∷ []) e
        (subst (λ (ps : List Val). vs ≡ vstruct (of_list (ps ++ [])) ∷ []) ep ev))))))
