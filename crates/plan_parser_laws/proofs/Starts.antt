-- With what a type, a parameter and a declaration begin, and what ends before a declaration.
use Rattle.std.proofs.Common.{◌≡◌, ℕ, true, false, List, [], Option, Some, None, refl, ap, arith}
use Rattle.plan_base.specs.declared.tree.Ty.{Ty}
use Rattle.plan_base.specs.declared.tree.Param.{Param}
use Rattle.plan_lexer.specs.declared.token.TokenKind.{TokenKind}
use Rattle.plan_lexer.specs.declared.token.TokenKind.TheVariants as kinds
use Rattle.plan_lexer.specs.declared.token.Key.TheVariants as keys
use Rattle.plan_lexer.specs.declared.token.Symbol.TheVariants as symbols
use Rattle.plan_parser_exprs.specs.Ahead.{Front, kind_in, next_kind, is_symbol_kind, is_symbol, is_key}
use Rattle.plan_parser_exprs.specs.Begins.{kind_type, begins_type, begins_name}
use Rattle.plan_parser_laws.specs.Grammar as types
use Rattle.plan_parser_laws.specs.Grammar.{Sym, Word, Called, TypeAt, ListsAt, BaseAt}
use Rattle.plan_parser_laws.specs.Follow.{level, EndsType, EndsExpr}
use Rattle.plan_parser_laws.specs.ProgramGrammar as gram
use Rattle.plan_parser_laws.specs.ProgramGrammar.{ParamAt}

-- a token that names a type, or an opening bracket
record StartsType (f : Front) : Type 0 where
  begins : begins_type f ≡ true
  no_close : is_symbol symbols.ParenClose f ≡ false

named_no_close : (o : Option TokenKind) (t : Ty) → kind_type o ≡ Some t → is_symbol_kind symbols.ParenClose o ≡ false
named_no_close (Some (kinds.Key k)) t e = refl
named_no_close _ t e = cc

by_name : (f : Front) (t : Ty) → kind_type (next_kind f) ≡ Some t → StartsType f
unfolding begins_type is_symbol
by_name f t e = record { begins = rw e refl; no_close = named_no_close (next_kind f) t e }

by_bracket : (f : Front) → Sym symbols.ParenOpen f → StartsType f
unfolding begins_type is_symbol
by_bracket f e = record { begins = rw e refl; no_close = rw e refl }

base_begins : {r : ℕ} {f g : Front} {t : Ty} → BaseAt r f t g → StartsType f
base_begins {f = f} (types.named_type {t = t} e) = by_name f t e
base_begins {f = f} (types.type_in_brackets a d b) = by_bracket f a
base_begins {f = f} (types.tuple_type a d many few b) = by_bracket f a

lists_begin : {r : ℕ} {f g : Front} {t : Ty} → ListsAt r f t g → StartsType f
lists_begin (types.base_type d) = base_begins d
lists_begin (types.list_type d e) = lists_begin d

begin : {r : ℕ} {f g : Front} {t : Ty} → TypeAt r f t g → StartsType f
begin (types.a_type d deep) = lists_begin d

pub type_starts : {r : ℕ} {f g : Front} {t : Ty} → TypeAt r f t g → begins_type f ≡ true
type_starts d = (begin d).begins

pub type_no_close : {r : ℕ} {f g : Front} {t : Ty} → TypeAt r f t g → is_symbol symbols.ParenClose f ≡ false
type_no_close d = (begin d).no_close

word_begins : (f : Front) (name : List ℕ) → Called name f → begins_name f ≡ true
unfolding begins_name
word_begins f name e = rw e refl

word_shuts_not : (f : Front) (name : List ℕ) → Called name f → is_symbol symbols.ParenClose f ≡ false
unfolding is_symbol
word_shuts_not f name e = rw e refl

pub param_starts : {f g : Front} {p : Param} → ParamAt f p g → begins_name f ≡ true
param_starts {f} (gram.param {name = name} called colon one) = word_begins f name called

pub word_no_close : {f g : Front} {p : Param} → ParamAt f p g → is_symbol symbols.ParenClose f ≡ false
word_no_close {f} (gram.param {name = name} called colon one) = word_shuts_not f name called

-- neither an expression nor a type goes on there
pub record Ends (f : Front) : Type 0 where
  pub no_type : EndsType f
  pub no_expr : EndsExpr f

pub service_ends : {f : Front} → Word keys.Svc f → Ends f
unfolding is_key
service_ends w = record { no_type = rw w refl; no_expr = (let l = ap level w in omega (arith, l)) }

pub exception_ends : {f : Front} → Word keys.Exception f → Ends f
unfolding is_key
exception_ends w = record { no_type = rw w refl; no_expr = (let l = ap level w in omega (arith, l)) }

pub function_ends : {f : Front} → Word keys.Fun f → Ends f
unfolding is_key
function_ends w = record { no_type = rw w refl; no_expr = (let l = ap level w in omega (arith, l)) }

at_end : (f : Front) → f.tokens ≡ [] → next_kind f ≡ None
unfolding next_kind
at_end f e = ap kind_in e

pub end_ends : {f : Front} → f.tokens ≡ [] → Ends f
unfolding is_key
end_ends {f} e = let n = at_end f e in record { no_type = rw n refl; no_expr = (let l = ap level n in omega (arith, l)) }
