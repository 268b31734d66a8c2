-- No step of an agenda refuses by running out of memory.
use Rattle.std.proofs.Common.{◌≡◌, ◌≢◌, ℕ, zero, suc, ◌+◌, Bool, true, false, List, length, nat_lt, Option, Some, None, Ok, Err, subst}
use Rattle.std.specs.Prelude.{is_some, if◌then◌else◌}
use Rattle.containers.specs.Agenda.{FirstFault, here, later}
use Rattle.plan_base.specs.declared.limit.Limit.{Limit}
use Rattle.plan_base.specs.declared.limit.Limit.TheVariants as limits
use Rattle.plan_base.specs.declared.tree.Ty.{Ty}
use Rattle.plan_lexer.specs.declared.token.TokenKind.{TokenKind}
use Rattle.plan_lexer.specs.declared.token.TokenKind.TheVariants as kinds
use Rattle.plan_lexer.specs.declared.token.Key.{Key}
use Rattle.plan_lexer.specs.declared.token.Key.TheVariants as keys
use Rattle.plan_lexer.specs.declared.token.Symbol.{Symbol}
use Rattle.plan_lexer.specs.declared.token.Symbol.TheVariants as symbols
use Rattle.plan_parser_exprs.specs.declared.fault.ParseFault.{ParseFault}
use Rattle.plan_parser_exprs.specs.declared.fault.ParseFault.TheVariants.{Expected, TooDeep, TooMany, NoMemory}
use Rattle.plan_parser_exprs.specs.declared.fault.Wanted.{Wanted}
use Rattle.plan_parser_exprs.specs.declared.fault.Wanted.TheVariants as wanted
use Rattle.plan_parser_exprs.specs.declared.joint.Chain.TheVariants as chains
use Rattle.plan_parser_exprs.specs.Ahead.{Front, place, behind, next_kind, is_symbol, is_key}
use Rattle.plan_parser_exprs.specs.Begins.{kind_type, begins_type, begins_operand, begins_expr, begins_name}
use Rattle.plan_parser_exprs.specs.Types.{past}
use Rattle.plan_parser_exprs.specs.Joints.{joint_of}
use Rattle.plan_parser_exprs.specs.Exprs.{begins_clause}
use Rattle.plan_parser_laws.specs.Agenda.{StepOf, expected_fault, GrammarItem, sym, word, a_name, a_type, lists, first_type, behind_first, next_type, behind_next, whole, maybe_next, low, chain}
use Rattle.plan_parser_laws.specs.Agenda.{more_of, negated, compared, maybe_compared, listed, maybe_listed, operand, maybe_call, behind_paren, behind_bracket, behind_raise, open_bracket, args}
use Rattle.plan_parser_laws.specs.Agenda.{more_items, more_vals, clauses, maybe_clause, types, more_types, params, more_params, declarations, declaration, body, judgement, Counted, enter, key_step}
use Rattle.plan_parser_laws.specs.Agenda.{symbol_step, operand_step, name_step, type_step, right_side, body_size, judge, another, step}

-- a step that goes on, or refuses for a reason of the tokens' own
pub Own : {I : Type 0} → StepOf I → Type 0
Own (Ok x) = Unit {0}
Own (Err e) = e ≢ NoMemory

pub goes_on : (I : Type 0) (x : List I × Front) → Own (Ok x)
unfolding Own
goes_on I x = tt

pub expects : (I : Type 0) (w : Wanted) (f : Front) → Own {I = I} (expected_fault w f)
unfolding Own
expects I w f = λ h. cc

pub expects_at : (I : Type 0) (w : Wanted) (n : ℕ) → Own {I = I} (Err (Expected w n))
unfolding Own
expects_at I w n = λ h. cc

pub too_deep : (I : Type 0) (n : ℕ) → Own {I = I} (Err (TooDeep n))
unfolding Own
too_deep I n = λ h. cc

too_many : (I : Type 0) (l : Limit) (n : ℕ) → Own {I = I} (Err (TooMany l n))
unfolding Own
too_many I l n = λ h. cc

pub past_own : (I : Type 0) (begins : Front → Bool) (l : Limit) (w : Wanted) (f : Front) → Own {I = I} (Err (past begins l w f))
unfolding Own past
past_own I begins l w f = go (begins f)
  where
    go : (b : Bool) → (if b then TooMany l (place f) else Expected w (place f)) ≢ NoMemory
    go true = λ h. cc
    go false = λ h. cc

pub either : {I : Type 0} (b : Bool) (p q : StepOf I) → Own p → Own q → Own (if b then p else q)
either true p q h k = h
either false p q h k = k

err_own : {I : Type 0} (r : StepOf I) (e : ParseFault) → r ≡ Err e → Own r → e ≢ NoMemory
unfolding Own
err_own r e h o = subst Own h o

pub first_own : {I : Type 0} (step : I → List I → Front → StepOf I) → ((i : I) (more : List I) (f : Front) → Own (step i more f))
    → (e : ParseFault) (is : List I) (f : Front) → FirstFault step e is f → e ≢ NoMemory
first_own step own e _ _ (here i more f h) = err_own (step i more f) e h (own i more f)
first_own step own e _ _ (later i more f next g h r) = first_own step own e next g r

-- ---- the steps of types, expressions and declarations

enter_own : (r : ℕ) (at : Front) (items : ℕ → List GrammarItem) (f : Front) → Own (enter r at items f)
enter_own zero at items f = too_deep _ (place at)
enter_own (suc r) at items f = goes_on _ _

key_own : (r : ℕ) (more : List GrammarItem) (f : Front) (k : Key) → Own (key_step r more f k)
key_own r more f keys.Let = enter_own r f _ (behind f)
key_own r more f keys.Try = enter_own r f _ (behind f)
key_own r more f keys.Raise = goes_on _ _
key_own r more f keys.Foldl = goes_on _ _
key_own r more f keys.Foldr = goes_on _ _
key_own r more f keys.Eval = goes_on _ _
key_own r more f keys.OnRemote = goes_on _ _
key_own r more f keys.OnNeighbor = goes_on _ _
key_own r more f keys.True = goes_on _ _
key_own r more f keys.False = goes_on _ _
key_own r more f _ = expects _ wanted.AnExpr f

symbol_own : (r : ℕ) (more : List GrammarItem) (f : Front) (s : Symbol) → Own (symbol_step r more f s)
symbol_own r more f symbols.ParenOpen = enter_own r f _ (behind f)
symbol_own r more f symbols.BracketOpen = enter_own r f _ (behind f)
symbol_own r more f symbols.Bar = goes_on _ _
symbol_own r more f _ = expects _ wanted.AnExpr f

operand_own : (r : ℕ) (more : List GrammarItem) (f : Front) (k : Option TokenKind) → Own (operand_step r more f k)
operand_own r more f None = expects _ wanted.AnExpr f
operand_own r more f (Some (kinds.Word _)) = goes_on _ _
operand_own r more f (Some (kinds.Key k)) = key_own r more f k
operand_own r more f (Some (kinds.Symbol s)) = symbol_own r more f s
operand_own r more f (Some (kinds.Part _)) = enter_own r f _ (behind f)
operand_own r more f (Some _) = goes_on _ _

name_own : (more : List GrammarItem) (f : Front) (k : Option TokenKind) → Own (name_step more f k)
name_own more f None = expects _ wanted.AName f
name_own more f (Some (kinds.Word _)) = goes_on _ _
name_own more f (Some _) = expects _ wanted.AName f

type_own : (more : List GrammarItem) (f : Front) (t : Option Ty) → Own (type_step more f t)
type_own more f (Some t) = goes_on _ _
type_own more f None = expects _ wanted.AType f

right_own : (begins : Front → Bool) (r : ℕ) (items : ℕ → List GrammarItem) (f : Front) → Own (right_side begins r items f)
right_own begins r items f = either (begins f) _ _ (enter_own r f items f) (expects _ wanted.AnExpr f)

judge_own : (at : ℕ) (size : ℕ × ℕ) (c : Counted) (more : List GrammarItem) (f : Front) → Own (judge at size c more f)
judge_own at size c more f = either (nat_lt 64 size.0) _ _ (too_deep _ at) (either (nat_lt 4096 (c.exprs + size.1)) _ _ (too_many _ limits.Nodes at) (goes_on _ _))

another_own : (count : ℕ) (l : Limit) (items : List GrammarItem) (f : Front) → Own (another count l items f)
another_own count l items f = either (nat_lt count 64) _ _ (goes_on _ _) (too_many _ l (place f))

step_own : (i : GrammarItem) (more : List GrammarItem) (f : Front) → Own (step i more f)
unfolding step
step_own (sym w) more f = either (is_symbol w f) _ _ (goes_on _ _) (expects _ (wanted.Symbol w) f)
step_own (word k) more f = either (is_key k f) _ _ (goes_on _ _) (expects _ (wanted.Key k) f)
step_own a_name more f = name_own more f (next_kind f)
step_own (a_type r) more f = either (is_symbol symbols.ParenOpen f) _ _ (enter_own r f _ (behind f)) (type_own more f (kind_type (next_kind f)))
step_own (lists start deep) more f = either (is_key keys.List f) _ _ (goes_on _ _) (either (nat_lt 8 deep) _ _ (too_deep _ start) (goes_on _ _))
step_own (first_type r start) more f = goes_on _ _
step_own (behind_first r start deep) more f = either (is_symbol symbols.Star f) _ _ (goes_on _ _) (goes_on _ _)
step_own (next_type r start left deepest) more f = goes_on _ _
step_own (behind_next r start zero deepest) more f = either (is_symbol symbols.Star f) _ _ (past_own _ begins_type limits.Parts wanted.AType (behind f)) (goes_on _ _)
step_own (behind_next r start (suc left) deepest) more f = either (is_symbol symbols.Star f) _ _ (goes_on _ _) (goes_on _ _)
step_own (whole r) more f = goes_on _ _
step_own (maybe_next r) more f = either (is_symbol symbols.Semicolon f) _ _ (right_own begins_expr r _ (behind f)) (goes_on _ _)
step_own (low r) more f = either (is_key keys.If f) _ _ (enter_own r f _ (behind f)) (goes_on _ _)
step_own (chain c r) more f = goes_on _ _
step_own (more_of c r) more f = either (is_some (joint_of c (next_kind f))) _ _ (goes_on _ _) (goes_on _ _)
step_own (negated r) more f = either (is_key keys.Not f) _ _ (enter_own r f _ (behind f)) (goes_on _ _)
step_own (compared r) more f = goes_on _ _
step_own (maybe_compared r) more f = either (is_some (joint_of chains.Comparison (next_kind f))) _ _ (goes_on _ _) (goes_on _ _)
step_own (listed r) more f = goes_on _ _
step_own (maybe_listed r) more f = either (is_symbol symbols.DoubleColon f) _ _ (right_own begins_operand r _ (behind f)) (goes_on _ _)
step_own (operand r) more f = operand_own r more f (next_kind f)
step_own (maybe_call r) more f = either (is_symbol symbols.ParenOpen f) _ _ (goes_on _ _) (goes_on _ _)
step_own (open_bracket r form) more f = either (is_symbol symbols.ParenOpen f) _ _ (enter_own r f _ (behind f)) (expects _ (wanted.Symbol symbols.ParenOpen) f)
step_own (args r) more f = either (is_symbol symbols.ParenClose f) _ _ (goes_on _ _) (either (begins_expr f) _ _ (goes_on _ _) (expects _ (wanted.Symbol symbols.ParenClose) f))
step_own (behind_paren r) more f = either (is_symbol symbols.ParenClose f) _ _ (goes_on _ _) (either (begins_expr f) _ _ (goes_on _ _) (expects _ (wanted.Symbol symbols.ParenClose) f))
step_own (behind_bracket r) more f =
    either (is_symbol symbols.BracketClose f) _ _ (goes_on _ _) (either (is_symbol symbols.Colon f) _ _ (goes_on _ _) (either (begins_expr f) _ _ (goes_on _ _) (expects _ (wanted.Symbol symbols.BracketClose) f)))
step_own (behind_raise r) more f = either (is_symbol symbols.BracketOpen f) _ _ (enter_own r f _ (behind f)) (goes_on _ _)
step_own (more_items l r zero) more f = either (is_symbol symbols.Comma f) _ _ (past_own _ begins_expr l wanted.AnExpr (behind f)) (goes_on _ _)
step_own (more_items l r (suc left)) more f = either (is_symbol symbols.Comma f) _ _ (goes_on _ _) (goes_on _ _)
step_own (more_vals r) more f = either (is_key keys.Val f) _ _ (goes_on _ _) (goes_on _ _)
step_own (clauses r zero) more f = past_own _ begins_clause limits.Clauses wanted.AName f
step_own (clauses r (suc left)) more f = either (is_symbol symbols.Underscore f) _ _ (goes_on _ _) (goes_on _ _)
step_own (maybe_clause r left) more f = either (is_symbol symbols.Bar f) _ _ (goes_on _ _) (goes_on _ _)
step_own types more f = either (is_symbol symbols.ParenClose f) _ _ (goes_on _ _) (either (begins_type f) _ _ (goes_on _ _) (expects _ (wanted.Symbol symbols.ParenClose) f))
step_own (more_types zero) more f = either (is_symbol symbols.Comma f) _ _ (past_own _ begins_type limits.Parameters wanted.AType (behind f)) (goes_on _ _)
step_own (more_types (suc left)) more f = either (is_symbol symbols.Comma f) _ _ (goes_on _ _) (goes_on _ _)
step_own params more f = either (is_symbol symbols.ParenClose f) _ _ (goes_on _ _) (either (begins_name f) _ _ (goes_on _ _) (expects _ (wanted.Symbol symbols.ParenClose) f))
step_own (more_params zero) more f = either (is_symbol symbols.Comma f) _ _ (past_own _ begins_name limits.Parameters wanted.AName (behind f)) (goes_on _ _)
step_own (more_params (suc left)) more f = either (is_symbol symbols.Comma f) _ _ (goes_on _ _) (goes_on _ _)
step_own (declarations c) more f =
    either (nat_lt 0 (length f.tokens)) _ _ (goes_on _ _) (either (nat_lt 0 c.funs) _ _ (goes_on _ _) (expects_at _ (wanted.Key keys.Fun) c.end))
step_own (declaration c) more f =
    either (is_key keys.Svc f) _ _ (another_own c.svcs limits.Services _ f)
    (either (is_key keys.Exception f) _ _ (another_own c.exns limits.Exceptions _ f) (either (is_key keys.Fun f) _ _ (another_own c.funs limits.Functions _ f) (expects _ wanted.ADecl f)))
step_own (body at c) more f = goes_on _ _
step_own (judgement at start c) more f = judge_own at (body_size start) c more f

pub agenda_own : (e : ParseFault) (is : List GrammarItem) (f : Front) → FirstFault step e is f → e ≢ NoMemory
agenda_own = first_own step step_own
