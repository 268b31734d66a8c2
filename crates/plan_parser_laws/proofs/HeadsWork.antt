-- The reading of the head of a declaration works off its agenda.
use Rattle.std.proofs.Common.{ℕ, zero, suc, List, [], ◌∷◌, ◌++◌}
use Rattle.plan_base.specs.declared.limit.Limit.TheVariants as limits
use Rattle.plan_base.specs.declared.tree.Ty.{Ty}
use Rattle.plan_base.specs.declared.tree.Svc.{Svc}
use Rattle.plan_base.specs.declared.tree.Param.{Param}
use Rattle.plan_base.specs.Sizes.{type_depth}
use Rattle.plan_lexer.specs.declared.token.Symbol.TheVariants as symbols
use Rattle.plan_parser_exprs.specs.declared.fault.Wanted.TheVariants as wanted
use Rattle.plan_parser_exprs.specs.Ahead.{Front, behind, is_symbol}
use Rattle.plan_parser_exprs.specs.Begins.{begins_type, begins_name}
use Rattle.plan_parser_exprs.specs.Types.{more}
use Rattle.plan_parser_laws.specs.Grammar.{behind2, behind3}
use Rattle.plan_parser_laws.specs.Agenda.{GrammarItem, Counted, sym, a_name, a_type, types, more_types, params, more_params, declarations, hand, a_param, step}
use Rattle.plan_parser_laws.proofs.Works.{Works, goes_on, stops, begin, after, given_works, both, symbol_works, name_works}
use Rattle.plan_parser_laws.proofs.TypesWork.{types_work}
use Rattle.plan_parser.specs.declared.signature.Head.{Head}
use Rattle.plan_parser.specs.Signatures.{outer_type, inner_type, arguments_from, arguments_behind, service_at, param_at, params_from, params_behind, head_at}

outer_works : (rest : List GrammarItem) (f : Front) → Works (a_type 160 ∷ rest) f (λ t. hand (type_depth t) rest) (outer_type f)
unfolding outer_type
outer_works rest f = types_work 160 rest f

inner_works : (rest : List GrammarItem) (f : Front) → Works (a_type 159 ∷ rest) f (λ t. hand (type_depth t) rest) (inner_type f)
unfolding inner_type
inner_works rest f = types_work 159 rest f

more_types_work : (left : ℕ) (done : List Ty) (rest : List GrammarItem) (f : Front)
    → Works (more_types left ∷ rest) f (λ _. rest) (more inner_type begins_type symbols.Comma limits.Parameters wanted.AType left done f)
unfolding more step
more_types_work zero done rest f =
    let next : List Ty → List GrammarItem = λ _. rest in
    begin (more_types 0) rest f next _ (both (is_symbol symbols.Comma f) _ _ next _ _ (stops _ next) (goes_on (given_works next done f)))
more_types_work (suc left) done rest f =
    let next : List Ty → List GrammarItem = λ _. rest in
    begin (more_types (suc left)) rest f next _ (both (is_symbol symbols.Comma f) _ _ next _ _
    (goes_on (after (a_type 159 ∷ more_types left ∷ rest) (behind f) (λ _. more_types left ∷ rest) next (inner_type (behind f)) _ (inner_works (more_types left ∷ rest) (behind f))
    (λ t g. more_types_work left (done ++ t ∷ []) rest g)))
    (goes_on (given_works next done f)))

some_types_work : (rest : List GrammarItem) (f : Front) → Works (a_type 159 ∷ more_types 7 ∷ sym symbols.ParenClose ∷ rest) f (λ _. rest) (arguments_from f)
unfolding arguments_from
some_types_work rest f =
    let next : List Ty → List GrammarItem = λ _. rest in
    after (a_type 159 ∷ more_types 7 ∷ sym symbols.ParenClose ∷ rest) f (λ _. more_types 7 ∷ sym symbols.ParenClose ∷ rest) next (inner_type f) _
    (inner_works (more_types 7 ∷ sym symbols.ParenClose ∷ rest) f)
    (λ t g. after (more_types 7 ∷ sym symbols.ParenClose ∷ rest) g (λ _. sym symbols.ParenClose ∷ rest) next
    (more inner_type begins_type symbols.Comma limits.Parameters wanted.AType 7 (t ∷ []) g) _ (more_types_work 7 (t ∷ []) (sym symbols.ParenClose ∷ rest) g)
    (λ ts h. symbol_works symbols.ParenClose rest h next _ (given_works next ts (behind h))))

arguments_work : (rest : List GrammarItem) (f : Front) → Works (types ∷ rest) f (λ _. rest) (arguments_behind f)
unfolding arguments_behind step
arguments_work rest f =
    let next : List Ty → List GrammarItem = λ _. rest in
    begin types rest f next _ (both (is_symbol symbols.ParenClose f) _ _ next _ _ (goes_on (given_works next [] (behind f)))
    (both (begins_type f) _ _ next _ _ (goes_on (some_types_work rest f)) (stops _ next)))

pub service_works : (c : Counted) (rest : List GrammarItem) (f : Front)
    → Works (a_name ∷ sym symbols.Colon ∷ sym symbols.ParenOpen ∷ types ∷ sym symbols.Arrow ∷ a_type 160 ∷ declarations c ∷ rest) f (λ _. declarations c ∷ rest) (service_at f)
unfolding service_at
service_works c rest f =
    let next : Svc → List GrammarItem = λ _. declarations c ∷ rest in
    name_works (sym symbols.Colon ∷ sym symbols.ParenOpen ∷ types ∷ sym symbols.Arrow ∷ a_type 160 ∷ declarations c ∷ rest) f next _
    (λ name. symbol_works symbols.Colon (sym symbols.ParenOpen ∷ types ∷ sym symbols.Arrow ∷ a_type 160 ∷ declarations c ∷ rest) (behind f) next _
    (symbol_works symbols.ParenOpen (types ∷ sym symbols.Arrow ∷ a_type 160 ∷ declarations c ∷ rest) (behind2 f) next _
    (after (types ∷ sym symbols.Arrow ∷ a_type 160 ∷ declarations c ∷ rest) (behind3 f) (λ _. sym symbols.Arrow ∷ a_type 160 ∷ declarations c ∷ rest) next (arguments_behind (behind3 f)) _
    (arguments_work (sym symbols.Arrow ∷ a_type 160 ∷ declarations c ∷ rest) (behind3 f))
    (λ ts g. symbol_works symbols.Arrow (a_type 160 ∷ declarations c ∷ rest) g next _
    (after (a_type 160 ∷ declarations c ∷ rest) (behind g) (λ _. declarations c ∷ rest) next (outer_type (behind g)) _ (outer_works (declarations c ∷ rest) (behind g))
    (λ t h. given_works next (record { name = name; params = ts; result = t }) h))))))

param_works : (left : ℕ) (rest : List GrammarItem) (f : Front) → Works (a_param (more_params left ∷ rest)) f (λ _. more_params left ∷ rest) (param_at f)
unfolding param_at
param_works left rest f =
    let next : Param → List GrammarItem = λ _. more_params left ∷ rest in
    name_works (sym symbols.Colon ∷ a_type 159 ∷ more_params left ∷ rest) f next _
    (λ name. symbol_works symbols.Colon (a_type 159 ∷ more_params left ∷ rest) (behind f) next _
    (after (a_type 159 ∷ more_params left ∷ rest) (behind2 f) (λ _. more_params left ∷ rest) next (inner_type (behind2 f)) _ (inner_works (more_params left ∷ rest) (behind2 f))
    (λ t g. given_works next (record { name = name; ty = t }) g)))

more_params_work : (left : ℕ) (done : List Param) (rest : List GrammarItem) (f : Front)
    → Works (more_params left ∷ rest) f (λ _. rest) (more param_at begins_name symbols.Comma limits.Parameters wanted.AName left done f)
unfolding more step begins_name
more_params_work zero done rest f =
    let next : List Param → List GrammarItem = λ _. rest in
    begin (more_params 0) rest f next _ (both (is_symbol symbols.Comma f) _ _ next _ _ (stops _ next) (goes_on (given_works next done f)))
more_params_work (suc left) done rest f =
    let next : List Param → List GrammarItem = λ _. rest in
    begin (more_params (suc left)) rest f next _ (both (is_symbol symbols.Comma f) _ _ next _ _
    (goes_on (after (a_param (more_params left ∷ rest)) (behind f) (λ _. more_params left ∷ rest) next (param_at (behind f)) _ (param_works left rest (behind f))
    (λ p g. more_params_work left (done ++ p ∷ []) rest g)))
    (goes_on (given_works next done f)))

some_params_work : (rest : List GrammarItem) (f : Front) → Works (a_param (more_params 7 ∷ sym symbols.ParenClose ∷ rest)) f (λ _. rest) (params_from f)
unfolding params_from
some_params_work rest f =
    let next : List Param → List GrammarItem = λ _. rest in
    after (a_param (more_params 7 ∷ sym symbols.ParenClose ∷ rest)) f (λ _. more_params 7 ∷ sym symbols.ParenClose ∷ rest) next (param_at f) _
    (param_works 7 (sym symbols.ParenClose ∷ rest) f)
    (λ p g. after (more_params 7 ∷ sym symbols.ParenClose ∷ rest) g (λ _. sym symbols.ParenClose ∷ rest) next
    (more param_at begins_name symbols.Comma limits.Parameters wanted.AName 7 (p ∷ []) g) _ (more_params_work 7 (p ∷ []) (sym symbols.ParenClose ∷ rest) g)
    (λ ps h. symbol_works symbols.ParenClose rest h next _ (given_works next ps (behind h))))

params_work : (rest : List GrammarItem) (f : Front) → Works (params ∷ rest) f (λ _. rest) (params_behind f)
unfolding params_behind step begins_name
params_work rest f =
    let next : List Param → List GrammarItem = λ _. rest in
    begin params rest f next _ (both (is_symbol symbols.ParenClose f) _ _ next _ _ (goes_on (given_works next [] (behind f)))
    (both (begins_name f) _ _ next _ _ (goes_on (some_params_work rest f)) (stops _ next)))

pub head_works : (rest : List GrammarItem) (f : Front)
    → Works (a_name ∷ sym symbols.ParenOpen ∷ params ∷ sym symbols.Colon ∷ a_type 160 ∷ sym symbols.Equal ∷ rest) f (λ _. rest) (head_at f)
unfolding head_at
head_works rest f =
    let next : Head → List GrammarItem = λ _. rest in
    name_works (sym symbols.ParenOpen ∷ params ∷ sym symbols.Colon ∷ a_type 160 ∷ sym symbols.Equal ∷ rest) f next _
    (λ name. symbol_works symbols.ParenOpen (params ∷ sym symbols.Colon ∷ a_type 160 ∷ sym symbols.Equal ∷ rest) (behind f) next _
    (after (params ∷ sym symbols.Colon ∷ a_type 160 ∷ sym symbols.Equal ∷ rest) (behind2 f) (λ _. sym symbols.Colon ∷ a_type 160 ∷ sym symbols.Equal ∷ rest) next (params_behind (behind2 f)) _
    (params_work (sym symbols.Colon ∷ a_type 160 ∷ sym symbols.Equal ∷ rest) (behind2 f))
    (λ ps g. symbol_works symbols.Colon (a_type 160 ∷ sym symbols.Equal ∷ rest) g next _
    (after (a_type 160 ∷ sym symbols.Equal ∷ rest) (behind g) (λ _. sym symbols.Equal ∷ rest) next (outer_type (behind g)) _ (outer_works (sym symbols.Equal ∷ rest) (behind g))
    (λ t h. symbol_works symbols.Equal rest h next _ (given_works next (record { name = name; params = ps; result = t }) (behind h)))))))
