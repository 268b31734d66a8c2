-- The program of a part is typed and within the limits, and so are its chunks.
use Rattle.std.proofs.Common.{◌≡◌, ℕ, ◌≤◌, true, List, [], ◌∷◌, length, None, refl, sym, subst, arith}
use Rattle.std.specs.Prelude.{pos, codes}
use Rattle.plan_base.specs.Words.{is_name, is_word, is_reserved, IsName}
use Rattle.plan_base.specs.declared.name.Name.{Name}
use Rattle.plan_base.specs.declared.tree.Ty.{Ty}
use Rattle.plan_base.specs.declared.tree.Ty.TheVariants as ty
use Rattle.plan_base.specs.declared.tree.Expr.{Expr}
use Rattle.plan_base.specs.declared.tree.Program.{Program}
use Rattle.plan_base.specs.declared.tree.Value.{Value}
use Rattle.plan_types_spec.specs.Typing.{called_names, IsTypedChunk}
use Rattle.plan_types_spec.specs.TypingNames.{prim_of, are_callable}
use Rattle.program_text_laws.proofs.Built.{BuiltType, no_types, and_type, tuple_type, unit_type, bool_type, int_type, blob_type, host_type, Built, AreBuilt, none_built, and_built, var_built}
use Rattle.program_text_laws.proofs.Built.{tuple_built, serving_built, packing_built, choice_built, remote_built}
use Rattle.program_text_laws.proofs.BuiltPrograms.{BuiltSvcs, no_svcs, and_svc, BuiltParams, no_params, and_param, BuiltFuns, no_funs, and_fun, BuiltProgram, built_program}
use Rattle.program_text_laws.proofs.BuiltChunks.{no_args, and_host, and_int, and_blob, chunk_typed}
use Rattle.frag_chunks.specs.declared.cutting.PartId.{PartId}
use Rattle.frag_chunks.specs.Parts.{part_args}
use Rattle.frag_chunks.specs.Programs as part
use Rattle.frag_chunks.specs.Programs.{this_host_is, get_rb, deliver, delivered_type, param, part_services, part_program, part_fun, part_params, part_body}

names : IsName (codes "thisHostIs") × IsName (codes "getRB") × IsName (codes "deliver") × IsName (codes "part") × IsName (codes "defaultRoute")
unfolding is_name is_word is_reserved
names = (refl, refl, refl, refl, refl)

bound_names : IsName (codes "dest") × IsName (codes "port") × IsName (codes "key") × IsName (codes "index") × IsName (codes "count") × IsName (codes "data")
unfolding is_name is_word is_reserved
bound_names = (refl, refl, refl, refl, refl, refl)

-- no service has the name of a primitive
not_prim : (prim_of (codes "thisHostIs") ≡ None) × (prim_of (codes "getRB") ≡ None) × (prim_of (codes "deliver") ≡ None)
unfolding prim_of
not_prim = (refl, refl, refl)

own_calls : are_callable [] (called_names part_program) ≡ true
unfolding prim_of
own_calls = refl

delivered : BuiltType delivered_type 6 2
delivered = tuple_type (ty.Int ∷ ty.Int ∷ ty.Int ∷ ty.Blob ∷ []) refl (and_type int_type (and_type int_type (and_type int_type (and_type blob_type no_types)))) (omega arith)

-- ---- the body

-- an expression of a type in the function
abbrev Has : Expr → Ty → ℕ → ℕ → Type 0
Has e t m d = Built part_program 0 part_params e t m d

none : AreBuilt part_program 0 part_params [] [] 0 0
none = none_built part_program 0 part_params

the_dest : Has part.dest ty.Host 6 1
the_dest = var_built part_program 0 part_params (codes "dest") bound_names.0 refl

the_port : Has part.port ty.Int 6 1
the_port = var_built part_program 0 part_params (codes "port") bound_names.1 refl

the_rest : AreBuilt part_program 0 part_params (part.key ∷ part.index ∷ part.count ∷ part.piece ∷ []) (ty.Int ∷ ty.Int ∷ ty.Int ∷ ty.Blob ∷ []) 25 1
the_rest =
    and_built part_program 0 part_params (var_built part_program 0 part_params (codes "key") bound_names.2 refl)
    (and_built part_program 0 part_params (var_built part_program 0 part_params (codes "index") bound_names.3 refl)
    (and_built part_program 0 part_params (var_built part_program 0 part_params (codes "count") bound_names.4 refl)
    (and_built part_program 0 part_params (var_built part_program 0 part_params (codes "data") bound_names.5 refl) none)))

arrived_built : Has part.arrived_test ty.Bool 19 2
arrived_built = serving_built part_program 0 part_params (codes "thisHostIs") (part.dest ∷ []) this_host_is names.0 refl not_prim.0 refl (and_built part_program 0 part_params the_dest none)

said_built : Has part.said delivered_type 27 2
said_built = tuple_built part_program 0 part_params (part.key ∷ part.index ∷ part.count ∷ part.piece ∷ []) (ty.Int ∷ ty.Int ∷ ty.Int ∷ ty.Blob ∷ []) refl delivered the_rest

delivers_built : Has part.delivers ty.Unit 43 3
delivers_built =
    serving_built part_program 0 part_params (codes "deliver") (part.port ∷ part.said ∷ []) deliver names.2 refl not_prim.2 refl
    (and_built part_program 0 part_params the_port (and_built part_program 0 part_params said_built none))

again_built : Has part.again ty.Chunk 44 2
again_built =
    packing_built part_program 0 part_params (codes "part") (part.dest ∷ part.port ∷ part.key ∷ part.index ∷ part.count ∷ part.piece ∷ []) 0 part_fun names.3 refl refl refl
    (and_built part_program 0 part_params the_dest (and_built part_program 0 part_params the_port the_rest))

purse_built : Has part.purse ty.Int 8 1
purse_built = serving_built part_program 0 part_params (codes "getRB") [] get_rb names.1 refl not_prim.1 refl none

goes_on_built : Has part.goes_on ty.Unit 72 3
goes_on_built = remote_built part_program 0 part_params (codes "defaultRoute") names.4 again_built the_dest purse_built

body_built : Has part_body ty.Unit 135 4
body_built = choice_built part_program 0 part_params arrived_built delivers_built goes_on_built

-- ---- the program

services_built : BuiltSvcs part_services 39
services_built =
    and_svc this_host_is names.0 refl (and_type host_type no_types) bool_type
    (and_svc get_rb names.1 refl no_types int_type
    (and_svc deliver names.2 refl (and_type int_type (and_type delivered no_types)) unit_type no_svcs))

params_built : BuiltParams part_params 37
params_built =
    and_param (param (codes "dest") ty.Host) bound_names.0 host_type
    (and_param (param (codes "port") ty.Int) bound_names.1 int_type
    (and_param (param (codes "key") ty.Int) bound_names.2 int_type
    (and_param (param (codes "index") ty.Int) bound_names.3 int_type
    (and_param (param (codes "count") ty.Int) bound_names.4 int_type
    (and_param (param (codes "data") ty.Blob) bound_names.5 blob_type no_params)))))

functions_built : BuiltFuns part_program 0 (part_fun ∷ []) 179
functions_built = and_fun part_program part_fun names.3 refl refl params_built unit_type body_built (omega arith) (no_funs part_program 1)

pub part_built : BuiltProgram part_program 221
part_built = built_program part_services (part_fun ∷ []) own_calls refl refl services_built functions_built (omega arith)

-- ---- its chunks

own_typed : (a : PartId) (i m : ℕ) (p : List ℕ) → length p ≤ 8192 → IsTypedChunk (record { code = part_program; entry = codes "part"; args = part_args a i m p })
own_typed a i m p h =
    chunk_typed part_program (codes "part") (part_args a i m p) 0 part_fun part_built refl refl
    (and_host a.dest (and_int (pos a.port) (and_int a.key (and_int (pos i) (and_int (pos m) (and_blob p no_args))))))
    (omega (arith, h))

pub part_typed : (code : Program) (entry : Name) (args : List Value) (a : PartId) (i m : ℕ) (p : List ℕ) → code ≡ part_program → entry ≡ codes "part" → args ≡ part_args a i m p → length p ≤ 8192
    → IsTypedChunk (record { code = code; entry = entry; args = args })
part_typed code entry args a i m p k e v h =
    let same : record { code = part_program; entry = codes "part"; args = part_args a i m p } ≡ record { code = code; entry = entry; args = args } = λ j. record { code = sym k j; entry = sym e j; args = sym v j } in
    subst IsTypedChunk same (own_typed a i m p h)
