-- How the head of a declaration is read, with its first refusal.
use Rattle.std.specs.Prelude.{List, [], ◌∷◌, Ok, Err, if◌then◌else◌}
use Rattle.plan_base.specs.declared.limit.Limit.TheVariants as limits
use Rattle.plan_base.specs.declared.tree.Ty.{Ty}
use Rattle.plan_base.specs.declared.tree.Svc.{Svc}
use Rattle.plan_base.specs.declared.tree.Param.{Param}
use Rattle.plan_lexer.specs.declared.token.Symbol.TheVariants as symbols
use Rattle.plan_parser_exprs.specs.declared.fault.ParseFault.TheVariants.{Expected}
use Rattle.plan_parser_exprs.specs.declared.fault.Wanted.TheVariants as wanted
use Rattle.plan_parser_exprs.specs.Ahead.{Reader, ◌>>=◌, place, behind, is_symbol, need_symbol, name_at}
use Rattle.plan_parser_exprs.specs.Begins.{begins_type, begins_name}
use Rattle.plan_parser_exprs.specs.Types.{more, type_to}
use Rattle.plan_parser.specs.declared.signature.Head.{Head}

-- a type where nothing is open; of 160 constructs each may open
unfoldable pub outer_type : Reader Ty
outer_type f = type_to 161 f

-- a type inside the brackets of a head
unfoldable pub inner_type : Reader Ty
inner_type f = type_to 160 f

-- the types of a service's arguments, up to the bracket
unfoldable pub arguments_from : Reader (List Ty)
arguments_from f = do
  first ← inner_type f
  all ← more inner_type begins_type symbols.Comma limits.Parameters wanted.AType 7 (first.0 ∷ []) first.1
  shut ← need_symbol symbols.ParenClose all.1
  Ok (all.0, shut.1)

-- the types behind the opening bracket, maybe none
unfoldable pub arguments_behind : Reader (List Ty)
arguments_behind f =
    if is_symbol symbols.ParenClose f then Ok ([], behind f)
    else if begins_type f then arguments_from f
    else Err (Expected (wanted.Symbol symbols.ParenClose) (place f))

-- a service, behind its word
unfoldable pub service_at : Reader Svc
service_at f = do
  name ← name_at f
  colon ← need_symbol symbols.Colon name.1
  open_bracket ← need_symbol symbols.ParenOpen colon.1
  params ← arguments_behind open_bracket.1
  arrow ← need_symbol symbols.Arrow params.1
  result ← outer_type arrow.1
  Ok (record { name = name.0; params = params.0; result = result.0 }, result.1)

-- a parameter with its type
unfoldable pub param_at : Reader Param
param_at f = do
  name ← name_at f
  colon ← need_symbol symbols.Colon name.1
  t ← inner_type colon.1
  Ok (record { name = name.0; ty = t.0 }, t.1)

-- parameters, up to the bracket
unfoldable pub params_from : Reader (List Param)
params_from f = do
  first ← param_at f
  all ← more param_at begins_name symbols.Comma limits.Parameters wanted.AName 7 (first.0 ∷ []) first.1
  shut ← need_symbol symbols.ParenClose all.1
  Ok (all.0, shut.1)

-- parameters behind the opening bracket, maybe none
unfoldable pub params_behind : Reader (List Param)
params_behind f =
    if is_symbol symbols.ParenClose f then Ok ([], behind f)
    else if begins_name f then params_from f
    else Err (Expected (wanted.Symbol symbols.ParenClose) (place f))

-- what stands of a function before its body, behind its word
unfoldable pub head_at : Reader Head
head_at f = do
  name ← name_at f
  open_bracket ← need_symbol symbols.ParenOpen name.1
  params ← params_behind open_bracket.1
  colon ← need_symbol symbols.Colon params.1
  result ← outer_type colon.1
  equal ← need_symbol symbols.Equal result.1
  Ok (record { name = name.0; params = params.0; result = result.0 }, equal.1)
