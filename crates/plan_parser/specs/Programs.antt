-- How a program is read, with its first refusal.
use Rattle.std.specs.Prelude.{◌≡◌, ◌+◌, ℕ, zero, suc, List, [], ◌∷◌, ◌++◌, length, nat_lt, ◌⊎◌, Result, Ok, Err, if◌then◌else◌}
use Rattle.plan_base.specs.declared.limit.Limit.{Limit}
use Rattle.plan_base.specs.declared.limit.Limit.TheVariants as limits
use Rattle.plan_base.specs.declared.tree.Draft.{Draft}
use Rattle.plan_base.specs.declared.tree.Fun.{Fun}
use Rattle.plan_base.specs.Sizes.{program_nodes}
use Rattle.plan_lexer.specs.declared.token.Token.{Token}
use Rattle.plan_lexer.specs.declared.token.Key.TheVariants as keys
use Rattle.plan_parser_exprs.specs.declared.fault.ParseFault.{ParseFault}
use Rattle.plan_parser_exprs.specs.declared.fault.ParseFault.TheVariants.{Expected, TooDeep, TooMany}
use Rattle.plan_parser_exprs.specs.declared.fault.Wanted.TheVariants as wanted
use Rattle.plan_parser_exprs.specs.declared.level.Level.TheVariants as levels
use Rattle.plan_parser_exprs.specs.declared.node.Node.{Node}
use Rattle.plan_parser_exprs.specs.Ahead.{Front, Reader, ◌>>=◌, place, behind, is_key, name_at}
use Rattle.plan_parser_exprs.specs.Nodes.{all_at}
use Rattle.plan_parser_exprs.specs.Exprs.{expr_to}
use Rattle.plan_parser.specs.declared.signature.Head.{Head}
use Rattle.plan_parser.specs.declared.program.Gathered.{Gathered}
use Rattle.plan_parser.specs.Signatures.{service_at, head_at}

-- nothing gathered yet
abbrev pub nothing : Gathered
nothing = record { svcs = []; exns = []; funs = []; svc_at = []; exn_at = []; fun_at = []; node_at = [] }

-- the 65th declaration of a kind is refused at its first token
unfoldable pub one_more : ℕ → Limit → Reader (Unit {0})
one_more count limit f = if nat_lt count 64 then Ok (tt, f) else Err (TooMany limit (place f))

unfoldable pub with_service : Gathered → Reader Gathered
with_service g f = do
  room ← one_more (length g.svcs) limits.Services f
  s ← service_at (behind f)
  Ok (record g { svcs = g.svcs ++ s.0 ∷ []; svc_at = g.svc_at ++ place f ∷ [] }, s.1)

unfoldable pub with_exception : Gathered → Reader Gathered
with_exception g f = do
  room ← one_more (length g.exns) limits.Exceptions f
  name ← name_at (behind f)
  Ok (record g { exns = g.exns ++ name.0 ∷ []; exn_at = g.exn_at ++ place f ∷ [] }, name.1)

-- a function that was read: its depth is judged, and then the number of all expressions
unfoldable pub judged_function : ℕ → ℕ → ℕ → Reader (Unit {0})
judged_function at depth nodes f =
    if nat_lt 64 depth then Err (TooDeep at) else if nat_lt 4096 nodes then Err (TooMany limits.Nodes at) else Ok (tt, f)

-- a head with its body
abbrev pub function_of : Head → Node → Fun
function_of h body = record { name = h.name; params = h.params; result = h.result; body = body.tree }

-- a function that was read, with the place of its word
unfoldable pub with_body : ℕ → Gathered → Head → Node → Reader Gathered
with_body at g head body f = do
  fits ← judged_function at body.depth (length (g.node_at ++ all_at body)) f
  Ok (record g { funs = g.funs ++ function_of head body ∷ []; fun_at = g.fun_at ++ at ∷ []; node_at = g.node_at ++ all_at body }, fits.1)

unfoldable pub with_function : Gathered → Reader Gathered
with_function g f = do
  room ← one_more (length g.funs) limits.Functions f
  head ← head_at (behind f)
  body ← expr_to 161 levels.Whole head.1
  with_body (place f) g head.0 body.0 body.1

-- one more declaration
unfoldable pub with_declaration : Gathered → Reader Gathered
with_declaration g f =
    if is_key keys.Svc f then with_service g f
    else if is_key keys.Exception f then with_exception g f
    else if is_key keys.Fun f then with_function g f
    else Err (Expected wanted.ADecl (place f))

-- declarations up to the end
unfoldable pub declarations : ℕ → Gathered → Front → Result Gathered ParseFault
declarations zero g f = Ok g
declarations (suc fuel) g f = if nat_lt 0 (length f.tokens) then (with_declaration g f >>= λ d. declarations fuel d.0 d.1) else Ok g

abbrev pub draft_of : Gathered → Draft
draft_of g = record {
  program = record { svcs = g.svcs; exns = g.exns; funs = g.funs };
  decl_at = g.svc_at ++ g.exn_at ++ g.fun_at;
  node_at = g.node_at;
}

-- at the end there must be a function
unfoldable pub finished_draft : ℕ → Gathered → Result Draft ParseFault
finished_draft end g = if nat_lt 0 (length g.funs) then Ok (draft_of g) else Err (Expected (wanted.Key keys.Fun) end)

-- the tokens of a text of that length as a program, or the first refusal
unfoldable pub program_of : List Token → ℕ → Result Draft ParseFault
program_of tokens end = do
  all ← declarations (length tokens) nothing (record { tokens = tokens; end = end })
  finished_draft end all

-- one place for each declaration and one for each expression
pub record Placed (d : Draft) : Type 0 where
  pub decls : length d.decl_at ≡ length d.program.svcs + length d.program.exns + length d.program.funs
  pub nodes : length d.node_at ≡ program_nodes d.program

-- tokens are a program or are refused
abbrev pub IsAnswered : List Token → ℕ → Type 0
IsAnswered tokens end = ((d : Draft) × (program_of tokens end ≡ Ok d)) ⊎ ((e : ParseFault) × (program_of tokens end ≡ Err e))
