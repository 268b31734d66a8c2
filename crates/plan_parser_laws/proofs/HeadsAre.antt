-- The head of a declaration of the grammar is read.
use Rattle.std.proofs.Common.{◌≡◌, ◌≤◌, ℕ, true, false, List, [], ◌∷◌, ◌++◌, length, Ok, refl}
use Rattle.plan_parser_laws.proofs.ExprsAre.{comma_shut}
use Rattle.plan_base.specs.declared.limit.Limit.TheVariants as limits
use Rattle.plan_base.specs.declared.name.Name.{Name}
use Rattle.plan_base.specs.declared.tree.Ty.{Ty}
use Rattle.plan_base.specs.declared.tree.Svc.{Svc}
use Rattle.plan_base.specs.declared.tree.Param.{Param}
use Rattle.plan_lexer.specs.declared.token.Symbol.TheVariants as symbols
use Rattle.plan_parser_exprs.specs.declared.fault.Wanted.TheVariants as wanted
use Rattle.plan_parser_exprs.specs.Ahead.{Front, behind, is_symbol, need_symbol, name_at}
use Rattle.plan_parser_exprs.specs.Begins.{begins_type, begins_name}
use Rattle.plan_parser_exprs.specs.Types.{more}
use Rattle.plan_parser_laws.specs.Grammar.{Sym, Called, TypeAt, behind2, behind3}
use Rattle.plan_parser_laws.specs.Follow.{EndsType}
use Rattle.plan_parser_laws.proofs.Follows.{symbol_here}
use Rattle.plan_parser_laws.proofs.TypesAre.{symbol_ends_type, more_ends, more_adds, type_is}
use Rattle.plan_parser.specs.declared.signature.Head.{Head}
use Rattle.plan_parser.specs.Signatures.{outer_type, inner_type, arguments_from, arguments_behind, service_at, param_at, params_from, params_behind, head_at}
use Rattle.plan_parser_laws.specs.ProgramGrammar as gram
use Rattle.plan_parser_laws.specs.ProgramGrammar.{TypesAt, ArgumentsAt, ServiceAt, ParamAt, MoreParamsAt, ParamsAt, HeadAt}
use Rattle.plan_parser_laws.proofs.Starts.{type_starts, type_no_close, param_starts, word_no_close}

outer_is : {f g : Front} {t : Ty} → TypeAt 160 f t g → EndsType g → outer_type f ≡ Ok (t, g)
unfolding outer_type
outer_is d ends = type_is d ends

inner_is : {f g : Front} {t : Ty} → TypeAt 159 f t g → EndsType g → inner_type f ≡ Ok (t, g)
unfolding inner_type
inner_is d ends = type_is d ends

types_follow : {f g : Front} {ts : List Ty} → TypesAt f ts g → EndsType g → EndsType f
types_follow gram.no_type h = h
types_follow (gram.one_type e d rest) h = symbol_ends_type _ e

types_are : {f g : Front} {ts : List Ty} → TypesAt f ts g → Sym symbols.ParenClose g → (left : ℕ) (done : List Ty) → length ts ≤ left
    → more inner_type begins_type symbols.Comma limits.Parameters wanted.AType left done f ≡ Ok (done ++ ts, g)
types_are {f} gram.no_type shut left done few = more_ends inner_type begins_type symbols.Comma limits.Parameters wanted.AType left done f (comma_shut _ shut)
types_are {f} {g} (gram.one_type {t = t} {ts = ts} comma one rest) shut left done few =
    more_adds inner_type begins_type symbols.Comma limits.Parameters wanted.AType left done f _ g t ts (symbol_here _ comma) (inner_is one (types_follow rest (symbol_ends_type _ shut))) few
    (λ k enough. types_are rest shut k (done ++ t ∷ []) enough)

some_arguments : (f g h : Front) (t : Ty) (ts : List Ty) → inner_type f ≡ Ok (t, g) → more inner_type begins_type symbols.Comma limits.Parameters wanted.AType 7 (t ∷ []) g ≡ Ok (t ∷ ts, h)
    → is_symbol symbols.ParenClose h ≡ true → arguments_from f ≡ Ok (t ∷ ts, behind h)
unfolding arguments_from need_symbol
some_arguments f g h t ts one many shut = rw (one, many, shut) refl

behind_bracket : (f g : Front) (ts : List Ty) → is_symbol symbols.ParenClose f ≡ false → begins_type f ≡ true → arguments_from f ≡ Ok (ts, g) → arguments_behind f ≡ Ok (ts, g)
unfolding arguments_behind
behind_bracket f g ts a b c = rw (a, b, c) refl

no_arguments_are : (f : Front) → is_symbol symbols.ParenClose f ≡ true → arguments_behind f ≡ Ok ([], behind f)
unfolding arguments_behind
no_arguments_are f a = rw a refl

arguments_are : {f g : Front} {ts : List Ty} → ArgumentsAt f ts g → arguments_behind (behind f) ≡ Ok (ts, g)
arguments_are {f} (gram.no_arguments a b) = no_arguments_are (behind f) (symbol_here _ b)
arguments_are {f} (gram.arguments {g = g} {h = h} {t = t} {ts = ts} a one many few b) =
    behind_bracket (behind f) (behind h) (t ∷ ts) (type_no_close one) (type_starts one)
    (some_arguments (behind f) g h t ts (inner_is one (types_follow many (symbol_ends_type _ b))) (types_are many b 7 (t ∷ []) few) (symbol_here _ b))

arguments_open : {f g : Front} {ts : List Ty} → ArgumentsAt f ts g → Sym symbols.ParenOpen f
arguments_open (gram.no_arguments a b) = a
arguments_open (gram.arguments a one many few b) = a

service_by : (f g h : Front) (name : Name) (ts : List Ty) (t : Ty) → Called name f → is_symbol symbols.Colon (behind f) ≡ true → is_symbol symbols.ParenOpen (behind2 f) ≡ true
    → arguments_behind (behind3 f) ≡ Ok (ts, g) → is_symbol symbols.Arrow g ≡ true → outer_type (behind g) ≡ Ok (t, h)
    → service_at f ≡ Ok (record { name = name; params = ts; result = t }, h)
unfolding service_at name_at need_symbol
service_by f g h name ts t a b c d e i = rw (a, b, c, d, e, i) refl

pub service_is : {f g : Front} {s : Svc} → ServiceAt f s g → EndsType g → service_at (behind f) ≡ Ok (s, g)
service_is {f} {g} (gram.service {g = i} {name = name} {ts = ts} {t = t} w called colon args arrow one) ends =
    service_by (behind f) i g name ts t called (symbol_here _ colon) (symbol_here _ (arguments_open args)) (arguments_are args) (symbol_here _ arrow) (outer_is one ends)

param_by : (f g : Front) (name : Name) (t : Ty) → Called name f → is_symbol symbols.Colon (behind f) ≡ true → inner_type (behind2 f) ≡ Ok (t, g)
    → param_at f ≡ Ok (record { name = name; ty = t }, g)
unfolding param_at name_at need_symbol
param_by f g name t a b c = rw (a, b, c) refl

param_is : {f g : Front} {p : Param} → ParamAt f p g → EndsType g → param_at f ≡ Ok (p, g)
param_is {f} {g} (gram.param {name = name} {t = t} called colon one) ends = param_by f g name t called (symbol_here _ colon) (inner_is one ends)

params_follow : {f g : Front} {ps : List Param} → MoreParamsAt f ps g → EndsType g → EndsType f
params_follow gram.no_param h = h
params_follow (gram.one_param e d rest) h = symbol_ends_type _ e

more_params_are : {f g : Front} {ps : List Param} → MoreParamsAt f ps g → Sym symbols.ParenClose g → (left : ℕ) (done : List Param) → length ps ≤ left
    → more param_at begins_name symbols.Comma limits.Parameters wanted.AName left done f ≡ Ok (done ++ ps, g)
more_params_are {f} gram.no_param shut left done few = more_ends param_at begins_name symbols.Comma limits.Parameters wanted.AName left done f (comma_shut _ shut)
more_params_are {f} {g} (gram.one_param {p = p} {ps = ps} comma one rest) shut left done few =
    more_adds param_at begins_name symbols.Comma limits.Parameters wanted.AName left done f _ g p ps (symbol_here _ comma) (param_is one (params_follow rest (symbol_ends_type _ shut))) few
    (λ k enough. more_params_are rest shut k (done ++ p ∷ []) enough)

some_params : (f g h : Front) (p : Param) (ps : List Param) → param_at f ≡ Ok (p, g) → more param_at begins_name symbols.Comma limits.Parameters wanted.AName 7 (p ∷ []) g ≡ Ok (p ∷ ps, h)
    → is_symbol symbols.ParenClose h ≡ true → params_from f ≡ Ok (p ∷ ps, behind h)
unfolding params_from need_symbol
some_params f g h p ps one many shut = rw (one, many, shut) refl

params_by : (f g : Front) (ps : List Param) → is_symbol symbols.ParenClose f ≡ false → begins_name f ≡ true → params_from f ≡ Ok (ps, g) → params_behind f ≡ Ok (ps, g)
unfolding params_behind
params_by f g ps a b c = rw (a, b, c) refl

no_params_are : (f : Front) → is_symbol symbols.ParenClose f ≡ true → params_behind f ≡ Ok ([], behind f)
unfolding params_behind
no_params_are f a = rw a refl

params_are : {f g : Front} {ps : List Param} → ParamsAt f ps g → params_behind (behind f) ≡ Ok (ps, g)
params_are {f} (gram.no_params a b) = no_params_are (behind f) (symbol_here _ b)
params_are {f} (gram.params {g = g} {h = h} {p = p} {ps = ps} a one many few b) =
    params_by (behind f) (behind h) (p ∷ ps) (word_no_close one) (param_starts one)
    (some_params (behind f) g h p ps (param_is one (params_follow many (symbol_ends_type _ b))) (more_params_are many b 7 (p ∷ []) few) (symbol_here _ b))

params_open : {f g : Front} {ps : List Param} → ParamsAt f ps g → Sym symbols.ParenOpen f
params_open (gram.no_params a b) = a
params_open (gram.params a one many few b) = a

head_by : (f g h : Front) (name : Name) (ps : List Param) (t : Ty) → Called name f → is_symbol symbols.ParenOpen (behind f) ≡ true → params_behind (behind2 f) ≡ Ok (ps, g)
    → is_symbol symbols.Colon g ≡ true → outer_type (behind g) ≡ Ok (t, h) → is_symbol symbols.Equal h ≡ true
    → head_at f ≡ Ok (record { name = name; params = ps; result = t }, behind h)
unfolding head_at name_at need_symbol
head_by f g h name ps t a b c d e i = rw (a, b, c, d, e, i) refl

pub head_is : {f g : Front} {x : Head} → HeadAt f x g → head_at f ≡ Ok (x, g)
head_is {f} (gram.head {g = g} {h = h} {name = name} {ps = ps} {t = t} called args colon one equal) =
    head_by f g h name ps t called (symbol_here _ (params_open args)) (params_are args) (symbol_here _ colon) (outer_is one (symbol_ends_type _ equal)) (symbol_here _ equal)
