-- What a chunk must keep, as one list in order, apart from any checker; and the first that it doesn't.
use Rattle.std.specs.Prelude.{◌≡◌, ℕ, zero, suc, ◌+◌, min, List, [], ◌∷◌, length, slice_get, ◌≤◌, Some}
use Rattle.plan_base.specs.declared.tree.Ty.{Ty}
use Rattle.plan_base.specs.declared.tree.Fun.{Fun}
use Rattle.plan_base.specs.declared.tree.Value.{Value}
use Rattle.plan_base.specs.declared.tree.Chunk.{Chunk}
use Rattle.plan_types_spec.specs.Typing.{Typed, HasType}
use Rattle.plan_types_spec.specs.TypingNames.{param_types}
use Rattle.plan_types_spec.specs.TypingOrder.{fun_of}
use Rattle.plan_types_spec.specs.declared.type_fault.TypeFault.{TypeFault}
use Rattle.plan_base.specs.Sizes.{chunk_weight, chunk_nesting}
use Rattle.plan_parser_laws.specs.Conditions.{FirstRefusal}
use Rattle.plan_types_chunks.specs.declared.fault.ChunkFault.{ChunkFault}
use Rattle.plan_types_chunks.specs.declared.fault.ChunkFault.TheVariants.{Ill, TooLarge}
use Rattle.plan_types_chunks.specs.declared.fault.Ill.TheVariants.{Code, Entry, Count, Argument}

-- its code, its entry, the number of its arguments, the argument at each place, and its size
pub data Condition : Type 0 where
  of_code : Condition
  of_entry : Condition
  of_count : Condition
  of_argument : ℕ → Condition
  of_size : Condition

-- The code is typed, the entry is a function of it, there are as many arguments as it has parameters, and each has the type
-- of its parameter. The chunk nests at most 4 and weighs at most 16,384 bytes.
abbrev pub Keeps : Chunk → Condition → Type 0
Keeps c of_code = Typed c.code
Keeps c of_entry = (d : Fun) × (fun_of c.code c.entry ≡ Some d)
Keeps c of_count = (d : Fun) → fun_of c.code c.entry ≡ Some d → length c.args ≡ length d.params
Keeps c (of_argument n) =
    (d : Fun) (v : Value) (t : Ty) → fun_of c.code c.entry ≡ Some d → slice_get c.args n ≡ Some v → slice_get (param_types d.params) n
    ≡ Some t → HasType v t
Keeps c of_size = (1 + chunk_weight c ≤ 16384) × (chunk_nesting c ≤ 4)

-- What is reported where a condition isn't kept: for code what is reported for the first condition that it doesn't keep itself, for
-- an argument its place, which stops at 255.
pub data Blames (c : Chunk) : Condition → ChunkFault → Type 0 where
  for_code : (f : TypeFault) → FirstRefusal c.code f → Blames c of_code (Ill (Code f))
  for_entry : Blames c of_entry (Ill Entry)
  for_count : Blames c of_count (Ill Count)
  for_argument : (n : ℕ) → Blames c (of_argument n) (Ill (Argument (min n 255)))
  for_size : Blames c of_size TooLarge

-- so many arguments from a place on, before further conditions
abbrev pub arguments_from : ℕ → ℕ → List Condition → List Condition
arguments_from n zero more = more
arguments_from n (suc k) more = of_argument n ∷ arguments_from (n + 1) k more

-- the entry, the number of arguments and each of them, before further conditions
abbrev pub of_call : Chunk → List Condition → List Condition
of_call c more = of_entry ∷ of_count ∷ arguments_from 0 (length c.args) more

-- all conditions of a chunk within the limits of size, in their order
abbrev pub conditions : Chunk → List Condition
conditions c = of_code ∷ of_call c []

-- all conditions of a call of code that is typed, in their order
abbrev pub call_conditions : Chunk → List Condition
call_conditions c = of_call c (of_size ∷ [])

-- f is reported for the first condition of the list that isn't kept
pub data FirstFailing (c : Chunk) (f : ChunkFault) : List Condition → Type 0 where
  here : (k : Condition) (more : List Condition) → (Keeps c k → ⊥) → Blames c k f → FirstFailing c f (k ∷ more)
  later : (k : Condition) (more : List Condition) → Keeps c k → FirstFailing c f more → FirstFailing c f (k ∷ more)
