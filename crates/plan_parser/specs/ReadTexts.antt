-- Values and arguments read from texts: the tokens of the text, and then the value that they are.
use Rattle.std.specs.Prelude.{◌≡◌, ℕ, List, length, Result, Ok, Err}
use Rattle.plan_lexer.specs.Scanning.{Toks, Refuses}
use Rattle.plan_lexer.specs.declared.token.Token.{Token}
use Rattle.plan_lexer.specs.declared.fault.LexFault.{LexFault}
use Rattle.plan_lexer.specs.declared.fault.LexFault.TheVariants as lexing
use Rattle.plan_parser_exprs.specs.declared.fault.ParseFault.{ParseFault}
use Rattle.plan_parser_exprs.specs.declared.fault.ParseFault.TheVariants as parsing
use Rattle.plan_parser.specs.declared.value_fault.ValueFault.{ValueFault}
use Rattle.plan_parser.specs.declared.value_fault.ValueFault.TheVariants as faults

-- the text is tokens that read so
pub record Reads {A : Type 0} (reading : List Token → ℕ → Result A ParseFault) (text : List ℕ) (a : A) : Type 0 where
  pub tokens : List Token
  pub toks : Toks 0 text tokens
  pub read : reading tokens (length text) ≡ Ok a

-- a fault of the tokens or of their reading as one of the text; running out of memory is the same everywhere
abbrev pub by_tokens : LexFault → ValueFault
by_tokens lexing.NoMemory = faults.NoMemory
by_tokens e = faults.Lex e

abbrev pub by_reading : ParseFault → ValueFault
by_reading parsing.NoMemory = faults.NoMemory
by_reading e = faults.Parse e

-- the text has no tokens, or tokens that don't read; each for its first refusal
pub data Fails {A : Type 0} (reading : List Token → ℕ → Result A ParseFault) (text : List ℕ) : ValueFault → Type 0 where
  no_tokens : (e : _) → Refuses e 0 text → Fails reading text (faults.Lex e)
  no_value : (tokens : List Token) (e : ParseFault) → Toks 0 text tokens → reading tokens (length text) ≡ Err e → Fails reading text (faults.Parse e)
