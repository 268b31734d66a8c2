-- From the tokens of a text to what the text is.
use Rattle.std.proofs.Common.{◌≡◌, ◌≢◌, ℕ, true, List, [], length, Some, None, Result, Ok, Err, refl, sym, ◌∙◌, ap, subst, ◌⊎◌, inl, inr}
use Rattle.std.proofs.lemmas.Slice.Eq.{bytes_eq-Decides}
use Rattle.std.specs.Str.{bytes_eq}
use Rattle.std.specs.Prelude.{IfOk, IfErr, IsErrAnd, MatchResult, codes}
use Rattle.plan_base.specs.declared.tree.Program.{Program}
use Rattle.plan_base.specs.declared.tree.Value.{Value}
use Rattle.plan_lexer.specs.Scanning.{Toks, Refuses, move_at, token_at, signed_at}
use Rattle.plan_lexer.specs.Gaps.{gap_at}
use Rattle.plan_lexer.specs.Tables.{symbol_at, symbol_text}
use Rattle.plan_lexer.specs.declared.fault.LexFault.{LexFault}
use Rattle.plan_lexer.specs.declared.token.Token.{Token}
use Rattle.plan_lexer.proofs.ScanLemmas.{Toks-unique}
use Rattle.plan_lexer.specs.declared.fault.LexFault.TheVariants as lexing
use Rattle.plan_parser_exprs.specs.declared.fault.ParseFault.{ParseFault}
use Rattle.plan_parser_exprs.specs.declared.fault.ParseFault.TheVariants as parsing
use Rattle.plan_parser.specs.Programs as parsed
use Rattle.plan_parser.specs.Values.{args_of, arguments_behind, nothing_follows}
use Rattle.plan_parser_exprs.specs.Ahead.{need_symbol, is_symbol, next_kind, behind}
use Rattle.plan_parser.specs.ReadTexts.{Reads, Fails, no_tokens, no_value}
use Rattle.plan_parser.specs.declared.value_fault.ValueFault.{ValueFault}
use Rattle.plan_parser.specs.declared.value_fault.ValueFault.TheVariants as faults
use Rattle.program_text.specs.declared.fault.TextFault.{TextFault}
use Rattle.program_text.specs.declared.fault.TextFault.TheVariants as fault
use Rattle.program_text.specs.Texts.{parsed_of, typed_of, program_of, IsProgram, Says, args_in, args_by, args_of_text}
use Rattle.program_text.specs.Scanned.{tokens_of}
use Rattle.program_text.proofs.Scanning.{has_tokens, is_refused}

-- a text is what its tokens are
pub read_by : (text : List ℕ) (ts : List Token) → Toks 0 text ts → (r : Result Program TextFault) → typed_of (parsed.program_of ts (length text)) ≡ r → program_of text ≡ r
unfolding program_of
read_by text ts t r e = ap (parsed_of (length text)) (has_tokens text ts t) ∙ e

-- a text without tokens is refused
pub refused_by : (text : List ℕ) (e : LexFault) → Refuses e 0 text → program_of text ≡ Err (fault.Lex e)
unfolding program_of
refused_by text e r = ap (parsed_of (length text)) (is_refused text e r)

-- the tokens are the program that the text says
pub tokens_say : (text : List ℕ) (ts : List Token) (p : Program) → Toks 0 text ts → Says text p → IsProgram ts (length text) p
tokens_say text ts p t s = subst (λ us. IsProgram us (length text) p) (Toks-unique 0 text s.tokens ts s.toks t) s.program

-- arguments are what the tokens are
pub args_read : (text : List ℕ) (vs : List Value) → Reads args_of text vs → args_of_text text ≡ Some vs
unfolding args_of_text
args_read text vs r = ap (args_in (length text)) (has_tokens text r.tokens r.toks) ∙ ap args_by r.read

pub no_tokens_args : (text : List ℕ) (e : LexFault) → Refuses e 0 text → args_of_text text ≡ None
unfolding args_of_text
no_tokens_args text e r = ap (args_in (length text)) (is_refused text e r)

pub no_value_args : (text : List ℕ) (ts : List Token) (e : ParseFault) → Toks 0 text ts → args_of ts (length text) ≡ Err e → args_of_text text ≡ None
unfolding args_of_text
no_value_args text ts e t r = ap (args_in (length text)) (has_tokens text ts t) ∙ ap args_by r

-- `()` is no arguments
pub no_args : (text : List ℕ) → bytes_eq text (codes "()") ≡ true → args_of_text text ≡ Some []
unfolding args_of_text tokens_of move_at gap_at token_at signed_at symbol_at symbol_text args_of need_symbol arguments_behind nothing_follows is_symbol next_kind behind
no_args text e = subst (λ (bs : List ℕ). args_of_text bs ≡ Some []) (sym ((bytes_eq-Decides text (codes "()")).0 e)) refl

-- a text that is refused for another reason than memory is no arguments
pub none_by : (text : List ℕ) (e : ValueFault) → e ≢ faults.NoMemory → (e ≡ faults.NoMemory) ⊎ Fails args_of text e → args_of_text text ≡ None
none_by text _ n (inl m) = absurd (n m)
none_by text _ n (inr (no_tokens e r)) = no_tokens_args text e r
none_by text _ n (inr (no_value ts e t r)) = no_value_args text ts e t r

-- ---- the answers of the calls

by_memory : (e : TextFault) (r : Result Program TextFault) → (e ≡ fault.NoMemory) ⊎ (r ≡ Err e) → (p : Program) → r ≡ Ok p → e ≡ fault.NoMemory
by_memory e r (inl m) p h = m
by_memory e r (inr n) p h = absurd (not_both r e p n h)
  where
    not_both : (r : Result Program TextFault) (e : TextFault) (p : Program) → r ≡ Err e → r ≡ Ok p → ⊥
    not_both r e p n h = cc

pub answer_found : (text : List ℕ) (ts : List Token) → Toks 0 text ts → (r : Result Program TextFault) → IfOk r (λ k. typed_of (parsed.program_of ts (length text)) ≡ Ok k) → IfOk r (λ k. program_of text ≡ Ok k)
answer_found text ts t (Ok k) h = read_by text ts t (Ok k) h
answer_found text ts t (Err e) h = tt

pub answer_fault : (text : List ℕ) (ts : List Token) → Toks 0 text ts → (r : Result Program TextFault)
    → IfErr r (λ e. (e ≡ fault.NoMemory) ⊎ (typed_of (parsed.program_of ts (length text)) ≡ Err e)) → IfErr r (λ e. (e ≡ fault.NoMemory) ⊎ (program_of text ≡ Err e))
answer_fault text ts t (Ok k) h = tt
answer_fault text ts t (Err e) (inl m) = inl m
answer_fault text ts t (Err e) (inr n) = inr (read_by text ts t (Err e) n)

pub answer_only : (text : List ℕ) (r : Result Program TextFault) → IfOk r (λ k. program_of text ≡ Ok k) → IfErr r (λ e. (e ≡ fault.NoMemory) ⊎ (program_of text ≡ Err e))
    → (p : Program) → program_of text ≡ Ok p → MatchResult r (λ k. k ≡ p) (λ e. e ≡ fault.NoMemory)
answer_only text (Ok k) h n p s = cc
answer_only text (Err e) h n p s = by_memory e (program_of text) n p s

pub refused_all : (p : Program) (r : Result Program TextFault) (e : TextFault) → IsErrAnd r (λ f. f ≡ e) → e ≡ fault.NoMemory → MatchResult r (λ k. k ≡ p) (λ f. f ≡ fault.NoMemory)
refused_all p (Ok k) e h m = absurd h
refused_all p (Err x) e h m = h ∙ m
