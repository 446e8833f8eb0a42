-- What a handle owns (own).
use Rattle.std.specs.Prelude.{Option, None, Some}
use mir.Syntax.{Ty}
use base.Fml.{Fml, ftrue}
use denote.RattleType.{RattleType}
use denote.RawPtr.{Ptr}
use Rattle.std.specs.Global.{Global}
use Rattle.std.specs.contracts.impls.GlobalAllocator.TheImpl.{ghosts}
use Rattle.std.specs.Box.Ownership.{box_owns}

-- the C library's heap, of which each allocator's value is the same
abbrev pub heap : Global
heap = record { memory = record { seal = tt } }

-- the right to free a block of it
abbrev pub may_free : Ty → Ptr → Fml
may_free = ghosts.dealloc_token heap

-- the value, in a block of the heap at p that it may free; or nothing
abbrev pub held : (R : RattleType) → Ptr → Option R.Denot → Fml
held R p None = ftrue
held R p (Some x) = box_owns may_free R p x
