-- No first refusal of a value, of arguments or of their text is `NoMemory`.
use Rattle.std.proofs.Common.{◌≡◌, ◌≢◌, ℕ, zero, suc, List, length, nat_lt, Option, Some, None, Result, Err}
use Rattle.plan_base.specs.declared.limit.Limit.TheVariants as limits
use Rattle.plan_base.specs.declared.tree.Ty.{Ty}
use Rattle.plan_base.specs.Sizes.{type_depth}
use Rattle.plan_base.specs.SameTypes.{same_type}
use Rattle.plan_lexer.specs.declared.token.Token.{Token}
use Rattle.plan_lexer.specs.declared.token.Key.TheVariants as keys
use Rattle.plan_lexer.specs.declared.token.Symbol.TheVariants as symbols
use Rattle.plan_lexer.specs.declared.fault.LexFault.TheVariants as lexing
use Rattle.plan_parser_exprs.specs.declared.fault.ParseFault.{ParseFault}
use Rattle.plan_parser_exprs.specs.declared.fault.ParseFault.TheVariants as parsing
use Rattle.plan_parser_exprs.specs.declared.fault.Wanted.TheVariants as wanted
use Rattle.plan_parser_exprs.specs.Ahead.{Front, place, behind, next_kind, is_symbol, is_key}
use Rattle.plan_parser_exprs.specs.Begins.{kind_type, begins_type}
use Rattle.plan_parser_laws.proofs.Own.{Own, goes_on, expects, expects_at, too_deep, past_own, either, first_own}
use Rattle.plan_parser.specs.Values.{begins_value, value_of, args_of}
use Rattle.plan_parser.specs.ReadTexts.{Fails, no_tokens, no_value}
use Rattle.plan_parser.specs.declared.value_fault.ValueFault.{ValueFault}
use Rattle.plan_parser.specs.declared.value_fault.ValueFault.TheVariants as faults
use Rattle.plan_parser_laws.proofs.TokenOwn.{refused_own}
use Rattle.plan_parser_laws.specs.ValueAgenda.{ValueItem, sym as a_symbol, a_type, lists, first_type, behind_first, next_type, behind_next, a_value, made, behind_paren, first_part, behind_part}
use Rattle.plan_parser_laws.specs.ValueAgenda.{next_part, behind_parts, behind_bracket, element, behind_element, first_item, next_item, behind_item, behind_items, args, more_args, the_end, enter}
use Rattle.plan_parser_laws.specs.ValueAgenda.{type_step, literal_type, literal_step, step}
use Rattle.plan_parser_laws.specs.ValueRefusals.{HoldsNoMemory}
use Rattle.plan_parser_laws.proofs.ValueTexts.{value_refused, args_refused}

enter_own : (r at : ℕ) (items : ℕ → List ValueItem) (f : Front) → Own (enter r at items f)
enter_own zero at items f = too_deep _ at
enter_own (suc r) at items f = goes_on _ _

type_own : (more : List ValueItem) (f : Front) (t : Option Ty) → Own (type_step more f t)
type_own more f (Some t) = goes_on _ _
type_own more f None = expects _ wanted.AType f

literal_own : (more : List ValueItem) (f : Front) (t : Option Ty) → Own (literal_step more f t)
literal_own more f (Some t) = goes_on _ _
literal_own more f None = expects _ wanted.AValue f

step_own : (o : ℕ) (i : ValueItem) (more : List ValueItem) (f : Front) → Own (step o i more f)
unfolding step
step_own o (a_symbol w) more f = either (is_symbol w f) _ _ (goes_on _ _) (expects _ (wanted.Symbol w) f)
step_own o (a_type r) more f = either (is_symbol symbols.ParenOpen f) _ _ (enter_own r (place f) _ (behind f)) (type_own more f (kind_type (next_kind f)))
step_own o (lists start t) more f = either (is_key keys.List f) _ _ (goes_on _ _) (either (nat_lt 8 (type_depth t)) _ _ (too_deep _ start) (goes_on _ _))
step_own o (first_type r start) more f = goes_on _ _
step_own o (behind_first r start t) more f = either (is_symbol symbols.Star f) _ _ (goes_on _ _) (goes_on _ _)
step_own o (next_type r start left ts) more f = goes_on _ _
step_own o (behind_next r start zero ts) more f = either (is_symbol symbols.Star f) _ _ (past_own _ begins_type limits.Parts wanted.AType (behind f)) (goes_on _ _)
step_own o (behind_next r start (suc left) ts) more f = either (is_symbol symbols.Star f) _ _ (goes_on _ _) (goes_on _ _)
step_own o (a_value r) more f =
    either (is_symbol symbols.ParenOpen f) _ _ (goes_on _ _)
    (either (is_symbol symbols.BracketOpen f) _ _ (enter_own r (place f) _ (behind f)) (literal_own more f (literal_type (next_kind f))))
step_own o (made t) more f = goes_on _ _
step_own o (behind_paren r at) more f =
    either (is_symbol symbols.ParenClose f) _ _ (goes_on _ _) (either (begins_value f) _ _ (enter_own r at _ f) (expects _ (wanted.Symbol symbols.ParenClose) f))
step_own o (first_part q) more f = goes_on _ _
step_own o (behind_part q t) more f = either (is_symbol symbols.Comma f) _ _ (goes_on _ _) (expects _ (wanted.Symbol symbols.Comma) f)
step_own o (next_part q left ts) more f = goes_on _ _
step_own o (behind_parts q zero ts) more f = either (is_symbol symbols.Comma f) _ _ (past_own _ begins_value limits.Parts wanted.AValue (behind f)) (goes_on _ _)
step_own o (behind_parts q (suc left) ts) more f = either (is_symbol symbols.Comma f) _ _ (goes_on _ _) (goes_on _ _)
step_own o (behind_bracket q at) more f =
    either (is_symbol symbols.Colon f) _ _ (goes_on _ _) (either (begins_value f) _ _ (goes_on _ _) (expects _ wanted.AValue f))
step_own o (element q at) more f = goes_on _ _
step_own o (behind_element q at t) more f = either (nat_lt (suc q) (type_depth t)) _ _ (too_deep _ at) (goes_on _ _)
step_own o (first_item q) more f = goes_on _ _
step_own o (next_item q left u at) more f = goes_on _ _
step_own o (behind_item q left u at t) more f = either (same_type t u) _ _ (goes_on _ _) (expects_at _ wanted.AValue at)
step_own o (behind_items q zero u) more f = either (is_symbol symbols.Comma f) _ _ (past_own _ begins_value limits.Items wanted.AValue (behind f)) (goes_on _ _)
step_own o (behind_items q (suc left) u) more f = either (is_symbol symbols.Comma f) _ _ (goes_on _ _) (goes_on _ _)
step_own o args more f = either (is_symbol symbols.ParenClose f) _ _ (goes_on _ _) (either (begins_value f) _ _ (goes_on _ _) (expects _ (wanted.Symbol symbols.ParenClose) f))
step_own o (more_args zero) more f = either (is_symbol symbols.Comma f) _ _ (past_own _ begins_value limits.Arguments wanted.AValue (behind f)) (goes_on _ _)
step_own o (more_args (suc left)) more f = either (is_symbol symbols.Comma f) _ _ (goes_on _ _) (goes_on _ _)
step_own o the_end more f = either (nat_lt 0 (length f.tokens)) _ _ (expects _ wanted.AValue f) (goes_on _ _)

value_own : (tokens : List Token) (end : ℕ) (e : ParseFault) → value_of tokens end ≡ Err e → e ≢ parsing.NoMemory
value_own tokens end e h = first_own (step 0) (step_own 0) e _ _ ((value_refused tokens end e).0 h)

args_own : (tokens : List Token) (end : ℕ) (e : ParseFault) → args_of tokens end ≡ Err e → e ≢ parsing.NoMemory
args_own tokens end e h = first_own (step 1) (step_own 1) e _ _ ((args_refused tokens end e).0 h)

text_own : {A : Type 0} (reading : List Token → ℕ → Result A ParseFault) → ((tokens : List Token) (end : ℕ) (e : ParseFault) → reading tokens end ≡ Err e → e ≢ parsing.NoMemory)
    → (text : List ℕ) (e : ValueFault) → Fails reading text e → HoldsNoMemory e
text_own reading own text _ (no_tokens e r) = refused_own e 0 text r
text_own reading own text _ (no_value tokens e t h) = own tokens (length text) e h

pub values_own : (text : List ℕ) (e : ValueFault) → Fails value_of text e → HoldsNoMemory e
values_own = text_own value_of value_own

pub arguments_own : (text : List ℕ) (e : ValueFault) → Fails args_of text e → HoldsNoMemory e
arguments_own = text_own args_of args_own
