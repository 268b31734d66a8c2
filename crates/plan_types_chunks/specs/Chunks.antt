-- Which values have the shape of a type, and what comes first that is wrong with a chunk.
use Rattle.std.specs.Prelude.{ℕ, ◌+◌, ◌==◌, min, Bool, true, false, not, ◌&&◌, if◌then◌else◌, List, [], ◌∷◌, length, Option, Some, None}
use Rattle.std.specs.Prelude.{is_some, Result, Ok, Err}
use Rattle.std.specs.List.{list_all}
use Rattle.plan_base.specs.declared.name.Name.{Name}
use Rattle.plan_base.specs.declared.tree.Ty.{Ty, Ty-F, out-Ty}
use Rattle.plan_base.specs.declared.tree.Fun.{Fun}
use Rattle.plan_base.specs.declared.tree.Program.{Program}
use Rattle.plan_base.specs.declared.tree.Value.{Value, Value-F, fold-Value, para-Value}
use Rattle.plan_base.specs.declared.tree.Chunk.{Chunk, Chunk-F}
use Rattle.plan_types_spec.specs.declared.type_fault.TypeFault.{TypeFault}
use Rattle.plan_base.specs.Trees.{TyLayer}
use Rattle.plan_types_spec.specs.TypingNames.{param_types}
use Rattle.plan_base.specs.SameTypes.{same_type}
use Rattle.plan_types_spec.specs.TypingOrder.{fun_of, annotated_program}
use Rattle.checked_chunks.specs.Kept.{is_small_chunk}
use Rattle.plan_types_chunks.specs.declared.fault.Ill.{Ill}
use Rattle.plan_types_chunks.specs.declared.fault.Ill.TheVariants.{Code, Entry, Count, Argument}
use Rattle.plan_types_chunks.specs.declared.fault.ChunkFault.{ChunkFault}
use Rattle.plan_types_chunks.specs.declared.fault.ChunkFault.TheVariants as fault

-- things in order that fit types in order
abbrev pub fit_all : {A : Type 0} → (A → Ty → Bool) → List A → List Ty → Bool
fit_all fit [] [] = true
fit_all fit [] (t ∷ ts) = false
fit_all fit (a ∷ xs) [] = false
fit_all fit (a ∷ xs) (t ∷ ts) = fit a t && fit_all fit xs ts

-- one level of a value beside one level of a type; a chunk isn't looked into
abbrev pub fits_layer : {X Y : Type 0} → (X → Ty → Bool) → Value-F X Y → TyLayer → Bool
fits_layer fit Value-F.Unit Ty-F.Unit = true
fits_layer fit (Value-F.Bool _) Ty-F.Bool = true
fits_layer fit (Value-F.Int _) Ty-F.Int = true
fits_layer fit (Value-F.Char _) Ty-F.Char = true
fits_layer fit (Value-F.Str _) Ty-F.Str = true
fits_layer fit (Value-F.Blob _) Ty-F.Blob = true
fits_layer fit (Value-F.Host _) Ty-F.Host = true
fits_layer fit (Value-F.Dev _) Ty-F.Dev = true
fits_layer fit (Value-F.Chunk _) Ty-F.Chunk = true
fits_layer fit (Value-F.List u vs) (Ty-F.List t) = same_type u t && list_all (λ v. fit v u) vs
fits_layer fit (Value-F.Tuple vs) (Ty-F.Tuple ts) = fit_all fit vs ts
fits_layer fit _ _ = false

-- whether the value's shape has the type
unfoldable pub fits : Value → Ty → Bool
fits = fold-Value (Ty → Bool) Bool (λ l t. fits_layer (λ f. f) l (out-Ty t)) (λ _. true)

-- the first argument that isn't right for its type, by its number, which stops at 255
abbrev pub ill_from : {A : Type 0} → (A → Ty → Bool) → ℕ → List A → List Ty → Option Ill
ill_from right n [] ts = None
ill_from right n (a ∷ xs) [] = None
ill_from right n (a ∷ xs) (t ∷ ts) = if right a t then ill_from right (min (n + 1) 255) xs ts else Some (Argument n)

-- the entry, then the number of arguments, then each of them
abbrev pub ill_with : {A : Type 0} → (A → Ty → Bool) → List A → Option Fun → Option Ill
ill_with right xs None = Some Entry
ill_with right xs (Some d) = if length xs == length d.params then ill_from right 0 xs (param_types d.params) else Some Count

abbrev pub ill_call : {A : Type 0} → (A → Ty → Bool) → Program → Name → List A → Option Ill
ill_call right code entry xs = ill_with right xs (fun_of code entry)

-- before them the code
abbrev pub ill_code : Result Program TypeFault → Option Ill → Option Ill
ill_code (Err f) next = Some (Code f)
ill_code (Ok p) next = next

abbrev pub ill_level : {X Y : Type 0} → (X → Ty → Bool) → Chunk-F X Y → Option Ill
ill_level right c = ill_code (annotated_program c.code) (ill_call right c.code c.entry c.args)

-- one level of a value, of which each chunk inside is typed
abbrev pub sound_level : {X Y : Type 0} → (X → Bool) → (Y → Bool) → Value-F X Y → Bool
sound_level sound chunk (Value-F.Chunk c) = chunk c
sound_level sound chunk (Value-F.List _ vs) = list_all sound vs
sound_level sound chunk (Value-F.Tuple vs) = list_all sound vs
sound_level sound chunk _ = true

-- an argument is right where its shape has the type and no chunk inside it is too large or ill
abbrev pub paired_right : Value × Bool → Ty → Bool
paired_right v t = fits v.0 t && v.1

-- whether no chunk inside the value is too large or ill
unfoldable pub sound : Value → Bool
sound = para-Value Bool Bool (sound_level (λ v. v.1) (λ c. is_small_chunk c.0 && c.1)) (λ c. not (is_some (ill_level paired_right c)))

abbrev pub right : Value → Ty → Bool
right v t = fits v t && sound v

-- what comes first that is wrong with a chunk, its own size aside
unfoldable pub illness : Chunk → Option Ill
illness c = ill_code (annotated_program c.code) (ill_call right c.code c.entry c.args)

-- whether a chunk is within the limits of size and nothing is wrong with it
abbrev pub is_right_chunk : Chunk → Bool
is_right_chunk c = is_small_chunk c && not (is_some (illness c))

-- what is wrong, as a fault
abbrev pub as_fault : Option Ill → Option ChunkFault
as_fault (Some i) = Some (fault.Ill i)
as_fault None = None

-- what comes first that forbids a chunk of a typed program: the call, and then its size
abbrev pub or_large : Bool → Option ChunkFault → Option ChunkFault
or_large small (Some f) = Some f
or_large true None = None
or_large false None = Some fault.TooLarge

abbrev pub refusal_of : Chunk → Option ChunkFault
refusal_of c = or_large (is_small_chunk c) (as_fault (ill_call right c.code c.entry c.args))
