-- The head of a declaration that is read is one by the grammar.
use Rattle.std.proofs.Common.{[], ◌∷◌, sym, subst}
use Rattle.plan_base.specs.declared.limit.Limit.TheVariants as limits
use Rattle.plan_lexer.specs.declared.token.Key.TheVariants as keys
use Rattle.plan_lexer.specs.declared.token.Symbol.TheVariants as symbols
use Rattle.plan_parser_exprs.specs.declared.fault.Wanted.TheVariants as wanted
use Rattle.plan_parser_exprs.specs.Ahead.{Front, behind}
use Rattle.plan_parser_exprs.specs.Begins.{begins_type, begins_name}
use Rattle.plan_parser_exprs.specs.Types.{more}
use Rattle.plan_parser_laws.specs.Grammar.{Sym, Word, TypeAt, behind2, behind3}
use Rattle.plan_parser_laws.proofs.ReadSteps.{Reads, found_reads, refusal_reads, after, either, if_symbol, symbol_then, name_then}
use Rattle.plan_parser_laws.proofs.ReadLists.{Added, more_reads}
use Rattle.plan_parser_laws.proofs.TypesRead.{types_read}
use Rattle.plan_parser.specs.Signatures.{outer_type, inner_type, arguments_from, arguments_behind, service_at, param_at, params_from, params_behind, head_at}
use Rattle.plan_parser_laws.specs.ProgramGrammar as gram
use Rattle.plan_parser_laws.specs.ProgramGrammar.{TypesAt, ArgumentsAt, ServiceAt, ParamAt, MoreParamsAt, ParamsAt, HeadAt}

outer_reads : (f : Front) → Reads (TypeAt 160 f) (outer_type f)
unfolding outer_type
outer_reads f = types_read 160 f

inner_reads : (f : Front) → Reads (TypeAt 159 f) (inner_type f)
unfolding inner_type
inner_reads f = types_read 159 f

-- the types of a service, behind the bracket at f
arguments_from_reads : (f : Front) → Sym symbols.ParenOpen f → Reads (ArgumentsAt f) (arguments_from (behind f))
unfolding arguments_from
arguments_from_reads f here =
    after (TypeAt 159 (behind f)) (ArgumentsAt f) (inner_type (behind f)) _ (inner_reads (behind f))
    (λ t g one. after (Added TypesAt 7 (t ∷ []) g) (ArgumentsAt f) (more inner_type begins_type symbols.Comma limits.Parameters wanted.AType 7 (t ∷ []) g) _
    (more_reads inner_type begins_type symbols.Comma limits.Parameters wanted.AType (λ h u i. TypeAt 159 h u i) TypesAt (λ h. gram.no_type) (λ h i j u us a b c. gram.one_type a b c) inner_reads 7 (t ∷ []) g)
    (λ all h a. symbol_then (ArgumentsAt f) symbols.ParenClose h _
    (λ shut. found_reads (ArgumentsAt f) all (behind h) (subst (λ us. ArgumentsAt f us (behind h)) (sym a.is) (gram.arguments here one a.many a.few shut)))))

arguments_reads : (f : Front) → Sym symbols.ParenOpen f → Reads (ArgumentsAt f) (arguments_behind (behind f))
unfolding arguments_behind
arguments_reads f here =
    if_symbol (ArgumentsAt f) symbols.ParenClose (behind f) _ _ (λ shut. found_reads (ArgumentsAt f) [] (behind2 f) (gram.no_arguments here shut))
    (either (ArgumentsAt f) (begins_type (behind f)) _ _ (λ _. arguments_from_reads f here) (λ _. refusal_reads (ArgumentsAt f) _))

-- a service whose word stands at f
pub service_reads : (f : Front) → Word keys.Svc f → Reads (ServiceAt f) (service_at (behind f))
unfolding service_at
service_reads f w =
    name_then (ServiceAt f) (behind f) _
    (λ name called. symbol_then (ServiceAt f) symbols.Colon (behind2 f) _
    (λ colon. symbol_then (ServiceAt f) symbols.ParenOpen (behind3 f) _
    (λ bracket. after (ArgumentsAt (behind3 f)) (ServiceAt f) (arguments_behind (behind (behind3 f))) _ (arguments_reads (behind3 f) bracket)
    (λ ts g args. symbol_then (ServiceAt f) symbols.Arrow g _
    (λ arrow. after (TypeAt 160 (behind g)) (ServiceAt f) (outer_type (behind g)) _ (outer_reads (behind g))
    (λ t h one. found_reads (ServiceAt f) (record { name = name; params = ts; result = t }) h (gram.service w called colon args arrow one)))))))

param_reads : (f : Front) → Reads (ParamAt f) (param_at f)
unfolding param_at
param_reads f =
    name_then (ParamAt f) f _
    (λ name called. symbol_then (ParamAt f) symbols.Colon (behind f) _
    (λ colon. after (TypeAt 159 (behind2 f)) (ParamAt f) (inner_type (behind2 f)) _ (inner_reads (behind2 f))
    (λ t g one. found_reads (ParamAt f) (record { name = name; ty = t }) g (gram.param called colon one))))

params_from_reads : (f : Front) → Sym symbols.ParenOpen f → Reads (ParamsAt f) (params_from (behind f))
unfolding params_from
params_from_reads f here =
    after (ParamAt (behind f)) (ParamsAt f) (param_at (behind f)) _ (param_reads (behind f))
    (λ p g one. after (Added MoreParamsAt 7 (p ∷ []) g) (ParamsAt f) (more param_at begins_name symbols.Comma limits.Parameters wanted.AName 7 (p ∷ []) g) _
    (more_reads param_at begins_name symbols.Comma limits.Parameters wanted.AName (λ h u i. ParamAt h u i) MoreParamsAt (λ h. gram.no_param) (λ h i j u us a b c. gram.one_param a b c) param_reads 7 (p ∷ []) g)
    (λ all h a. symbol_then (ParamsAt f) symbols.ParenClose h _
    (λ shut. found_reads (ParamsAt f) all (behind h) (subst (λ us. ParamsAt f us (behind h)) (sym a.is) (gram.params here one a.many a.few shut)))))

params_reads : (f : Front) → Sym symbols.ParenOpen f → Reads (ParamsAt f) (params_behind (behind f))
unfolding params_behind
params_reads f here =
    if_symbol (ParamsAt f) symbols.ParenClose (behind f) _ _ (λ shut. found_reads (ParamsAt f) [] (behind2 f) (gram.no_params here shut))
    (either (ParamsAt f) (begins_name (behind f)) _ _ (λ _. params_from_reads f here) (λ _. refusal_reads (ParamsAt f) _))

pub head_reads : (f : Front) → Reads (HeadAt f) (head_at f)
unfolding head_at
head_reads f =
    name_then (HeadAt f) f _
    (λ name called. symbol_then (HeadAt f) symbols.ParenOpen (behind f) _
    (λ bracket. after (ParamsAt (behind f)) (HeadAt f) (params_behind (behind2 f)) _ (params_reads (behind f) bracket)
    (λ ps g args. symbol_then (HeadAt f) symbols.Colon g _
    (λ colon. after (TypeAt 160 (behind g)) (HeadAt f) (outer_type (behind g)) _ (outer_reads (behind g))
    (λ t h one. symbol_then (HeadAt f) symbols.Equal h _
    (λ equal. found_reads (HeadAt f) (record { name = name; params = ps; result = t }) (behind h) (gram.head called args colon one equal)))))))
