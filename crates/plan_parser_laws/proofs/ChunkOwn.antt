-- What comes first that is wrong with a chunk is never running out of memory.
use Rattle.std.proofs.Common.{◌≡◌, ℕ, ◌+◌, ◌==◌, min, Bool, true, false, List, [], ◌∷◌, length, Option, Some, None, Result, Ok, Err, refl, subst}
use Rattle.std.specs.Prelude.{if◌then◌else◌}
use Rattle.plan_base.specs.declared.tree.Ty.{Ty}
use Rattle.plan_base.specs.declared.tree.Fun.{Fun}
use Rattle.plan_base.specs.declared.tree.Program.{Program}
use Rattle.plan_base.specs.declared.tree.Value.{Value}
use Rattle.plan_base.specs.declared.tree.Chunk.{Chunk}
use Rattle.plan_types_spec.specs.declared.type_fault.TypeFault.{TypeFault}
use Rattle.plan_types_spec.specs.TypingNames.{param_types}
use Rattle.plan_types_spec.specs.TypingOrder.{fun_of, annotated_program}
use Rattle.plan_parser_laws.proofs.TypingOwn.{program_own}
use Rattle.plan_types_chunks.specs.declared.fault.Ill.{Ill}
use Rattle.plan_types_chunks.specs.declared.fault.Ill.TheVariants.{Count, Argument}
use Rattle.plan_types_chunks.specs.declared.fault.ChunkFault.{ChunkFault}
use Rattle.plan_types_chunks.specs.declared.fault.ChunkFault.TheVariants as faults
use Rattle.checked_chunks.specs.Kept.{is_small_chunk}
use Rattle.plan_types_chunks.specs.Chunks.{right, ill_from, ill_with, ill_call, ill_code, illness, as_fault, or_large, refusal_of}
use Rattle.plan_parser_laws.specs.Memory.{IllHoldsNoMemory, HoldsNoMemory}

abbrev Own : Option Ill → Type 0
Own None = Unit {0}
Own (Some i) = IllHoldsNoMemory i

from_own : (n : ℕ) (vs : List Value) (ts : List Ty) → Own (ill_from right n vs ts)
from_own n [] ts = tt
from_own n (v ∷ vs) [] = tt
from_own n (v ∷ vs) (t ∷ ts) = go (right v t) (from_own (min (n + 1) 255) vs ts)
  where
    go : (b : Bool) → Own (ill_from right (min (n + 1) 255) vs ts) → Own (if b then ill_from right (min (n + 1) 255) vs ts else Some (Argument n))
    go true h = h
    go false h = tt

with_own : (vs : List Value) (o : Option Fun) → Own (ill_with right vs o)
with_own vs None = tt
with_own vs (Some d) = go (length vs == length d.params)
  where
    go : (b : Bool) → Own (if b then ill_from right 0 vs (param_types d.params) else Some Count)
    go true = from_own 0 vs (param_types d.params)
    go false = tt

code_own : (code : Program) (r : Result Program TypeFault) → annotated_program code ≡ r → (o : Option Ill) → Own o → Own (ill_code r o)
code_own code (Ok p) e o h = h
code_own code (Err f) e o h = program_own code f e

pub illness_own : (c : Chunk) (i : Ill) → illness c ≡ Some i → IllHoldsNoMemory i
unfolding illness
illness_own c i h = subst Own h (code_own c.code (annotated_program c.code) refl (ill_call right c.code c.entry c.args) (with_own c.args (fun_of c.code c.entry)))

abbrev OwnFault : Option ChunkFault → Type 0
OwnFault None = Unit {0}
OwnFault (Some f) = HoldsNoMemory f

large_own : (b : Bool) (o : Option Ill) → Own o → OwnFault (or_large b (as_fault o))
large_own b (Some i) h = h
large_own true None h = tt
large_own false None h = tt

pub refusal_own : (c : Chunk) (f : ChunkFault) → refusal_of c ≡ Some f → HoldsNoMemory f
refusal_own c f h = subst OwnFault h (large_own (is_small_chunk c) (ill_call right c.code c.entry c.args) (with_own c.args (fun_of c.code c.entry)))
