-- The names that most proofs cite, passed on from one place. Declares nothing.
pub use Rattle.core.proofs.atomic.Steps.{fm}
pub use Rattle.std.proofs.impls.GlobalAllocator.TheImpl.Met.{passed}
pub use Rattle.std.proofs.raw_atomic.Walks.{proved_at, leaves}
pub use Rattle.std.specs.Prelude.{Option, None, Some, is_some}
pub use Rattle.std.specs.contracts.impls.GlobalAllocator.TheImpl.{ghosts, dict}
pub use Rattle.std_alloc.proofs.BoxSteps.Steps.{box_out, box_in}
pub use base.Fml.{ftrue, flft}
pub use base.Fraction.{full_share}
pub use base.Logic.{never, fst∗, SProp, ent, emp, id⊢}
pub use contract.BorrowLft.{◌⊑◌, ⊑_static}
pub use contract.Monad.{fact, fact_i}
pub use contract.Running.{tables}
pub use denote.Builtin.{RawPtr}
pub use denote.Exit.{yes}
pub use denote.Memory.{lone}
pub use denote.Param.NoDrop.{glues}
pub use denote.RattleType.{owns}
pub use denote.RawPtr.{Ptr, block_ptr, null_ptr, ptr_val, in_a_block}
pub use denote.Signature.{types_at, plain}
pub use denote.Steps.{nothing, only}
pub use denote.Triple.Clauses.{Lasts}
pub use denote.Triple.Spec.{triple_of}
pub use denote.Triple.Walked.{Stays, stay_dropped, Goes-dropped, walk_of}
pub use mir.Syntax.{tnil, tcons, dnil, impl}
pub use mir.Val.{Val}
pub use prog.Wp.{WpFn}
pub use seplogic.Ra.Ura.{Ura}
pub use types.ByLocal.{alloc_all, pass_all, free_all, look_at, get, sets}
pub use types.Kit.{‵, ◌$◌, drop, rewrite, fsplit, fjoin, feq_i, feq_l, raw, ◌⊛◌, later, ◌∵◌, !, qed}
pub use types.Kit.{by, move, keep, split, join, pick, suffices, use0, use1, await}
pub use types.Logic.{Logic, sem}
pub use types.Part.{agg}
pub use types.Run.{of_opd, no_more, and_then, returns, enter}
pub use Rattle.rpmb_host.specs.Held.{held, may_free}
