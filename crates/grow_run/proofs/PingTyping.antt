-- The program of a ping is typed and within the limits, and so are its chunks.
use Rattle.std.proofs.Common.{◌≡◌, ℕ, true, ◌&&◌, List, [], ◌∷◌, None, refl, sym, subst, arith}
use Rattle.std.specs.Prelude.{codes}
use Rattle.std.specs.Str.{IsUtf8}
use Rattle.std.proofs.lemmas.Str.{is_utf8-from_IsUtf8}
use lib.Utf8.{encode}
use Rattle.plan_base.specs.Words.{is_name, is_word, is_reserved, IsName}
use Rattle.plan_base.specs.WellFormed.{well_formed_text}
use Rattle.plan_base.specs.declared.ids.Host.{Host}
use Rattle.plan_base.specs.declared.name.Name.{Name}
use Rattle.plan_base.specs.declared.tree.Ty.{Ty}
use Rattle.plan_base.specs.declared.tree.Ty.TheVariants as ty
use Rattle.plan_base.specs.declared.tree.Expr.{Expr}
use Rattle.plan_base.specs.declared.tree.Program.{Program}
use Rattle.plan_base.specs.declared.tree.Value.{Value}
use Rattle.plan_base.specs.declared.tree.Value.TheVariants as value
use Rattle.plan_types_spec.specs.Typing.{called_names, IsTypedChunk}
use Rattle.plan_types_spec.specs.TypingNames.{prim_of, are_callable}
use Rattle.program_text_laws.proofs.Built.{no_types, and_type, unit_type, bool_type, int_type, str_type, host_type, Built, AreBuilt, none_built, and_built, var_built, text_built}
use Rattle.program_text_laws.proofs.Built.{serving_built, packing_built, not_built, choice_built, remote_built}
use Rattle.program_text_laws.proofs.BuiltPrograms.{BuiltSvcs, no_svcs, and_svc, no_params, and_param, BuiltFuns, no_funs, and_fun, BuiltProgram, built_program}
use Rattle.program_text_laws.proofs.BuiltChunks.{no_args, and_host, chunk_typed}
use Rattle.grow_run.specs.Programs as ping
use Rattle.grow_run.specs.Programs.{this_host_is, get_rb, print, ack_body, ack_fun, param, ping_params, ping_body, ping_fun, ping_services, ping_program}

names : IsName (codes "thisHostIs") × IsName (codes "getRB") × IsName (codes "print") × IsName (codes "src") × IsName (codes "dest") × IsName (codes "ack") × IsName (codes "ping") × IsName (codes "defaultRoute")
unfolding is_name is_word is_reserved
names = (refl, refl, refl, refl, refl, refl, refl, refl)

-- no service has the name of a primitive
not_prim : (prim_of (codes "thisHostIs") ≡ None) × (prim_of (codes "getRB") ≡ None) × (prim_of (codes "print") ≡ None)
unfolding prim_of
not_prim = (refl, refl, refl)

own_calls : are_callable [] (called_names ping_program) ≡ true
unfolding prim_of
own_calls = refl

success_utf8 : IsUtf8 (codes "Success")
unfolding encode
success_utf8 = (codes "Success", (refl, refl))

success_formed : well_formed_text (codes "Success") ≡ true
unfolding well_formed_text
success_formed = λ i. is_utf8-from_IsUtf8 (codes "Success") success_utf8 i && true

-- ---- the bodies

answer_built : Built ping_program 0 [] ack_body ty.Unit 18 2
answer_built =
    serving_built ping_program 0 [] (codes "print") _ print names.2 refl not_prim.2 refl
    (and_built ping_program 0 [] (text_built ping_program 0 [] (codes "Success") success_formed) (none_built ping_program 0 []))

-- an expression of a type in the ping
abbrev Has : Expr → Ty → ℕ → ℕ → Type 0
Has e t m d = Built ping_program 1 ping_params e t m d

none : AreBuilt ping_program 1 ping_params [] [] 0 0
none = none_built ping_program 1 ping_params

the_src : Has ping.src ty.Host 5 1
the_src = var_built ping_program 1 ping_params (codes "src") names.3 refl

the_dest : Has ping.dest ty.Host 6 1
the_dest = var_built ping_program 1 ping_params (codes "dest") names.4 refl

purse_built : Has ping.purse ty.Int 8 1
purse_built = serving_built ping_program 1 ping_params (codes "getRB") [] get_rb names.1 refl not_prim.1 refl none

away_built : Has ping.away_test ty.Bool 20 3
away_built = not_built ping_program 1 ping_params (serving_built ping_program 1 ping_params (codes "thisHostIs") (ping.dest ∷ []) this_host_is names.0 refl not_prim.0 refl (and_built ping_program 1 ping_params the_dest none))

on_built : Has (ping.sent ping.ping_again ping.dest) ty.Unit 46 3
on_built =
    remote_built ping_program 1 ping_params (codes "defaultRoute") names.7
    (packing_built ping_program 1 ping_params (codes "ping") (ping.src ∷ ping.dest ∷ []) 1 ping_fun names.6 refl refl refl (and_built ping_program 1 ping_params the_src (and_built ping_program 1 ping_params the_dest none)))
    the_dest purse_built

back_built : Has (ping.sent ping.answer ping.src) ty.Unit 33 2
back_built = remote_built ping_program 1 ping_params (codes "defaultRoute") names.7 (packing_built ping_program 1 ping_params (codes "ack") [] 0 ack_fun names.5 refl refl refl none) the_src purse_built

body_built : Has ping_body ty.Unit 100 4
body_built = choice_built ping_program 1 ping_params away_built on_built back_built

-- ---- the program

services_built : BuiltSvcs ping_services 31
services_built =
    and_svc this_host_is names.0 refl (and_type host_type no_types) bool_type (and_svc get_rb names.1 refl no_types int_type (and_svc print names.2 refl (and_type str_type no_types) unit_type no_svcs))

functions_built : BuiltFuns ping_program 0 (ack_fun ∷ ping_fun ∷ []) 142
functions_built =
    and_fun ping_program ack_fun names.5 refl refl no_params unit_type answer_built (omega arith)
    (and_fun ping_program ping_fun names.6 refl refl (and_param (param (codes "src") ty.Host) names.3 host_type (and_param (param (codes "dest") ty.Host) names.4 host_type no_params)) unit_type body_built (omega arith)
    (no_funs ping_program 2))

pub ping_built : BuiltProgram ping_program 176
ping_built = built_program ping_services (ack_fun ∷ ping_fun ∷ []) own_calls refl refl services_built functions_built (omega arith)

-- ---- its chunks

abbrev ping_args : Host → Host → List Value
ping_args from to = value.Host from ∷ value.Host to ∷ []

pub ping_typed : (code : Program) (entry : Name) (args : List Value) (from to : Host) → code ≡ ping_program → entry ≡ codes "ping" → args ≡ ping_args from to
    → IsTypedChunk (record { code = code; entry = entry; args = args })
ping_typed code entry args from to k e a =
    let same : record { code = ping_program; entry = codes "ping"; args = ping_args from to } ≡ record { code = code; entry = entry; args = args } = λ i. record { code = sym k i; entry = sym e i; args = sym a i } in
    subst IsTypedChunk same (chunk_typed ping_program (codes "ping") (ping_args from to) 1 ping_fun ping_built refl refl (and_host from (and_host to no_args)) (omega arith))
