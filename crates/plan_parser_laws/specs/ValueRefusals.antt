-- The first refusal of a value and of arguments, of their tokens and of a whole text.
use Rattle.std.specs.Prelude.{◌≢◌, ℕ, List, [], ◌∷◌, length, ◌⊎◌}
use Rattle.containers.specs.Agenda.{FirstFault}
use Rattle.plan_base.specs.declared.tree.Value.{Value}
use Rattle.plan_lexer.specs.Scanning.{Toks, Refuses}
use Rattle.plan_lexer.specs.declared.token.Token.{Token}
use Rattle.plan_lexer.specs.declared.token.Symbol.TheVariants as symbols
use Rattle.plan_lexer.specs.declared.fault.LexFault.TheVariants as lexing
use Rattle.plan_parser_exprs.specs.declared.fault.ParseFault.{ParseFault}
use Rattle.plan_parser_exprs.specs.declared.fault.ParseFault.TheVariants as parsing
use Rattle.plan_parser.specs.declared.value_fault.ValueFault.{ValueFault}
use Rattle.plan_parser.specs.declared.value_fault.ValueFault.TheVariants as faults
use Rattle.plan_parser_laws.specs.ValueGrammar.{IsValue, AreArgs}
use Rattle.plan_parser_laws.specs.ValueAgenda.{sym, a_value, args, the_end, step}

-- a value up to the end, with at most 7 lists and tuples inside each other
abbrev pub FirstValueRefusal : ParseFault → List Token → ℕ → Type 0
FirstValueRefusal e tokens end = FirstFault (step 0) e (a_value 7 ∷ the_end ∷ []) (record { tokens = tokens; end = end })

-- arguments in their bracket up to the end
abbrev pub FirstArgsRefusal : ParseFault → List Token → ℕ → Type 0
FirstArgsRefusal e tokens end = FirstFault (step 1) e (sym symbols.ParenOpen ∷ args ∷ the_end ∷ []) (record { tokens = tokens; end = end })

-- tokens are a value by the written grammar, or refused; and so for arguments
abbrev pub IsValueOrRefused : List Token → ℕ → Type 0
IsValueOrRefused tokens end = ((v : Value) × IsValue tokens end v) ⊎ ((e : ParseFault) × FirstValueRefusal e tokens end)

abbrev pub AreArgsOrRefused : List Token → ℕ → Type 0
AreArgsOrRefused tokens end = ((vs : List Value) × AreArgs tokens end vs) ⊎ ((e : ParseFault) × FirstArgsRefusal e tokens end)

-- The first refusal of a text: of its tokens, wherever it stands, and else of what they are.
pub data FirstTextRefusal (first : ParseFault → List Token → ℕ → Type 0) (text : List ℕ) : ValueFault → Type 0 where
  of_tokens : (e : _) → Refuses e 0 text → FirstTextRefusal first text (faults.Lex e)
  of_reading : (tokens : List Token) (e : ParseFault) → Toks 0 text tokens → first e tokens (length text) → FirstTextRefusal first text (faults.Parse e)

-- a fault that is not `NoMemory`, and holds none
abbrev pub HoldsNoMemory : ValueFault → Type 0
HoldsNoMemory (faults.Lex e) = e ≢ lexing.NoMemory
HoldsNoMemory (faults.Parse e) = e ≢ parsing.NoMemory
HoldsNoMemory faults.NoMemory = ⊥
