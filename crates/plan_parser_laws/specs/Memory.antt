-- Faults of chunks that are no running out of memory, and hold none.
use Rattle.std.specs.Prelude.{◌≢◌}
use Rattle.plan_types_spec.specs.declared.type_fault.TypeFault.TheVariants as typing
use Rattle.plan_types_chunks.specs.declared.fault.Ill.{Ill}
use Rattle.plan_types_chunks.specs.declared.fault.Ill.TheVariants.{Code}
use Rattle.plan_types_chunks.specs.declared.fault.ChunkFault.{ChunkFault}
use Rattle.plan_types_chunks.specs.declared.fault.ChunkFault.TheVariants as faults

-- what is wrong with a chunk isn't running out of memory
abbrev pub IllHoldsNoMemory : Ill → Type 0
IllHoldsNoMemory (Code f) = f ≢ typing.NoMemory
IllHoldsNoMemory _ = Unit {0}

-- why there is no typed chunk isn't, and holds none
abbrev pub HoldsNoMemory : ChunkFault → Type 0
HoldsNoMemory (faults.Ill i) = IllHoldsNoMemory i
HoldsNoMemory faults.TooLarge = Unit {0}
HoldsNoMemory faults.NoMemory = ⊥
