-- How a program is spelled: services, exceptions and functions, each list with its count.
use Rattle.std.specs.Prelude.{ℕ, ◌-◌, ◌≤◌, List, ◌∷◌, ◌++◌, length, Result, nat_le, sum_by}
use Rattle.std.specs.List.{flat_map}
use Rattle.containers.specs.Reading.{◌>>=◌}
use Rattle.plan_base.specs.Sizes.{expr_nodes}
use Rattle.plan_base.specs.declared.limit.Limit.{Limit}
use Rattle.plan_base.specs.declared.tree.Svc.{Svc}
use Rattle.plan_base.specs.declared.tree.Param.{Param}
use Rattle.plan_base.specs.declared.tree.Fun.{Fun}
use Rattle.plan_base.specs.declared.tree.Program.{Program}
use Rattle.chunk_codec_spec.specs.declared.fault.SpellFault.{SpellFault}
use Rattle.chunk_codec_spec.specs.declared.fault.SpellFault.TheVariants.{OverLimit}
use Rattle.chunk_codec_spec.specs.Items.{a_parameter, a_service, a_function, a_program}
use Rattle.chunk_codec_spec.specs.Scan.{Scan, Reader, allowed_or_fault}
use Rattle.chunk_codec_spec.specs.Parts.{Part, Parts, done, ◌&◌, PartValues, AllFit, reads, several, untagged_part}
use Rattle.chunk_codec_spec.specs.Fields.{name_bytes, name_part}
use Rattle.chunk_codec_spec.specs.Types.{type_bytes, type_part}
use Rattle.chunk_codec_spec.specs.Exprs.{expr_bytes, expr_part}

abbrev pub param_forms : Parts
param_forms = name_part & type_part 8 & done

abbrev pub param_bytes : Param → List ℕ
param_bytes p = name_bytes p.name ++ type_bytes p.ty

-- a parameter: its name and its type
abbrev pub param_part : Part Param
param_part = untagged_part a_parameter param_forms (λ xs. record { name = xs.0; ty = xs.1.0 }) (λ p. (p.name, (p.ty, tt))) param_bytes (λ _. 0)

abbrev pub service_forms : Parts
service_forms = name_part & several Limit.Parameters 0 8 (type_part 8) & type_part 8 & done

abbrev pub service_bytes : Svc → List ℕ
service_bytes s = name_bytes s.name ++ ((length s.params ∷ flat_map type_bytes s.params) ++ type_bytes s.result)

-- a service: its name, the types of its arguments and of its answer
abbrev pub service_part : Part Svc
service_part = untagged_part a_service service_forms (λ xs.
    record { name = xs.0; params = xs.1.0; result = xs.1.1.0 }) (λ s. (s.name, (s.params, (s.result, tt)))) service_bytes (λ _. 0)

abbrev pub function_forms : Parts
function_forms = name_part & several Limit.Parameters 0 8 param_part & type_part 8 & expr_part 64 & done

abbrev pub function_bytes : Fun → List ℕ
function_bytes f = name_bytes f.name ++ ((length f.params ∷ flat_map param_bytes f.params) ++ (type_bytes f.result ++ expr_bytes f.body))

-- a function: its name, its parameters, the type of its body, and the body
abbrev pub function_part : Part Fun
function_part = untagged_part a_function function_forms (λ xs. record { name = xs.0; params = xs.1.0; result = xs.1.1.0; body = xs.1.1.1.0 })
    (λ f. (f.name, (f.params, (f.result, (f.body, tt))))) function_bytes (λ f. expr_nodes f.body)

abbrev pub program_forms : Parts
program_forms = several Limit.Services 0 64 service_part & several Limit.Exceptions 0 64 name_part & several Limit.Functions 1 64 function_part & done

abbrev pub program_of_parts : PartValues program_forms → Program
program_of_parts xs = record { svcs = xs.0; exns = xs.1.0; funs = xs.1.1.0 }

abbrev pub program_parts : Program → PartValues program_forms
program_parts p = (p.svcs, (p.exns, (p.funs, tt)))

-- the spelling of a program
unfoldable pub program_bytes : Program → List ℕ
program_bytes p =
    (length p.svcs ∷ flat_map service_bytes p.svcs) ++ ((length p.exns ∷ flat_map name_bytes p.exns) ++ (length p.funs ∷ flat_map function_bytes p.funs))

-- the expressions of a program are counted from none
abbrev pub counting : ℕ → Scan → Scan
counting nodes s = record s { nodes = nodes }

abbrev pub counting_on : {A : Type 0} → ℕ → A × Scan → A × Scan
counting_on nodes x = (x.0, counting nodes x.1)

-- a program that began at start takes at most 16,000 bytes
abbrev pub judged_code : {A : Type 0} → ℕ → A × Scan → Result (A × Scan) SpellFault
judged_code start x = allowed_or_fault (nat_le (x.1.front.at - start) 16000) (OverLimit Limit.Code start) x

unfoldable pub program_at : Reader Program
program_at s = do
  p ← reads program_forms program_of_parts (counting 0 s)
  judged_code s.front.at (counting_on s.nodes p)

-- a program may be spelled: each part, at most 4,096 expressions, and at most 16,000 bytes
pub record ProgramFits (p : Program) : Type 0 where
  pub parts : AllFit program_forms (program_parts p)
  pub few : sum_by (λ f. expr_nodes f.body) p.funs ≤ 4096
  pub small : length (program_bytes p) ≤ 16000

abbrev pub program_part : Part Program
program_part = record { item = a_program; read = program_at; bytes = program_bytes; Fits = ProgramFits; nodes = λ _. 0 }
