-- A declaration takes at least one token.
use Rattle.std.proofs.Common.{List}
use Rattle.plan_base.specs.declared.tree.Ty.{Ty}
use Rattle.plan_base.specs.declared.tree.Svc.{Svc}
use Rattle.plan_base.specs.declared.tree.Param.{Param}
use Rattle.plan_base.specs.declared.tree.Fun.{Fun}
use Rattle.plan_base.specs.declared.name.Name.{Name}
use Rattle.plan_parser_exprs.specs.declared.node.Node.{Node}
use Rattle.plan_parser_exprs.specs.Ahead.{Front}
use Rattle.plan_parser.specs.declared.signature.Head.{Head}
use Rattle.plan_parser_laws.proofs.Follows.{Shorter, NotLonger, skip, onward, onward_most, onward_more, at_most, not_longer}
use Rattle.plan_parser_laws.proofs.TypesAre.{type_shorter}
use Rattle.plan_parser_laws.proofs.Shorters.{expr_shorter}
use Rattle.plan_parser_laws.specs.ProgramGrammar as gram
use Rattle.plan_parser_laws.specs.ProgramGrammar.{TypesAt, ArgumentsAt, ServiceAt, ExceptionAt, ParamAt, MoreParamsAt, ParamsAt, HeadAt, FunctionAt}

types_shorter : {f g : Front} {ts : List Ty} → TypesAt f ts g → NotLonger f g
types_shorter gram.no_type = not_longer
types_shorter (gram.one_type comma one rest) = at_most (onward (skip comma) (onward_most (type_shorter one) (types_shorter rest)))

arguments_shorter : {f g : Front} {ts : List Ty} → ArgumentsAt f ts g → Shorter f g
arguments_shorter (gram.no_arguments a b) = onward (skip a) (skip b)
arguments_shorter (gram.arguments a one many few b) = onward (skip a) (onward (type_shorter one) (onward_more (types_shorter many) (skip b)))

pub service_shorter : {f g : Front} {s : Svc} → ServiceAt f s g → Shorter f g
service_shorter (gram.service w called colon args arrow one) =
    onward (skip w) (onward (skip called) (onward (skip colon) (onward (arguments_shorter args) (onward (skip arrow) (type_shorter one)))))

param_shorter : {f g : Front} {p : Param} → ParamAt f p g → Shorter f g
param_shorter (gram.param called colon one) = onward (skip called) (onward (skip colon) (type_shorter one))

more_params_shorter : {f g : Front} {ps : List Param} → MoreParamsAt f ps g → NotLonger f g
more_params_shorter gram.no_param = not_longer
more_params_shorter (gram.one_param comma one rest) = at_most (onward (skip comma) (onward_most (param_shorter one) (more_params_shorter rest)))

params_shorter : {f g : Front} {ps : List Param} → ParamsAt f ps g → Shorter f g
params_shorter (gram.no_params a b) = onward (skip a) (skip b)
params_shorter (gram.params a one many few b) = onward (skip a) (onward (param_shorter one) (onward_more (more_params_shorter many) (skip b)))

head_shorter : {f g : Front} {x : Head} → HeadAt f x g → Shorter f g
head_shorter (gram.head called ps colon one equal) = onward (skip called) (onward (params_shorter ps) (onward (skip colon) (onward (type_shorter one) (skip equal))))

pub exception_shorter : {f g : Front} {name : Name} → ExceptionAt f name g → Shorter f g
exception_shorter (gram.exception w called) = onward (skip w) (skip called)

pub function_shorter : {f g : Front} {x : Fun} {n : Node} → FunctionAt f x n g → Shorter f g
function_shorter (gram.function w d e deep) = onward (skip w) (onward (head_shorter d) (expr_shorter e))
