-- The first thing that is wrong with the text of a program, apart from its reader.
use Rattle.std.specs.Prelude.{◌≢◌, ℕ, List, length, ◌⊎◌}
use Rattle.plan_base.specs.declared.tree.Draft.{Draft}
use Rattle.plan_base.specs.declared.tree.Program.{Program}
use Rattle.plan_types_spec.specs.declared.type_fault.TypeFault.{TypeFault}
use Rattle.plan_types_spec.specs.declared.type_fault.TypeFault.TheVariants as typing
use Rattle.plan_types_spec.specs.Typing.{Typed}
use Rattle.plan_types_spec.specs.TypingFills.{Fills}
use Rattle.plan_lexer.specs.Scanning.{Toks, Refuses}
use Rattle.plan_lexer.specs.declared.token.Token.{Token}
use Rattle.plan_lexer.specs.declared.fault.LexFault.{LexFault}
use Rattle.plan_lexer.specs.declared.fault.LexFault.TheVariants as lexing
use Rattle.plan_parser_exprs.specs.declared.fault.ParseFault.{ParseFault}
use Rattle.plan_parser_exprs.specs.declared.fault.ParseFault.TheVariants as parsing
use Rattle.plan_parser_laws.specs.ProgramGrammar.{ProgramAt}
use Rattle.plan_parser_laws.specs.ProgramAgenda.{FirstProgramRefusal}
use Rattle.plan_parser_laws.specs.Conditions.{FirstRefusal as FirstTypeRefusal}
use Rattle.program_text.specs.Texts.{byte_of}
use Rattle.program_text.specs.declared.fault.TextFault.{TextFault}
use Rattle.program_text.specs.declared.fault.TextFault.TheVariants as faults

-- the text is tokens that are a draft by the written grammar, which the program fills in, and the program is typed
pub record IsTypedProgram (text : List ℕ) (p : Program) : Type 0 where
  pub tokens : List Token
  pub draft : Draft
  pub toks : Toks 0 text tokens
  pub is : ProgramAt tokens (length text) draft
  pub fills : Fills draft.program p
  pub typed : Typed p

-- the tokens are refused; or they are, and the grammar refuses them; or they are a draft, and its types are refused, at the
-- byte of the declaration or the expression
pub data FirstRefusal (text : List ℕ) : TextFault → Type 0 where
  of_tokens : (e : LexFault) → Refuses e 0 text → FirstRefusal text (faults.Lex e)
  of_grammar : (tokens : List Token) (e : ParseFault) → Toks 0 text tokens → FirstProgramRefusal e tokens (length text) → FirstRefusal text (faults.Parse e)
  of_types : (tokens : List Token) (d : Draft) (f : TypeFault) → Toks 0 text tokens → ProgramAt tokens (length text) d → FirstTypeRefusal d.program f
      → FirstRefusal text (faults.Ty f (byte_of d.decl_at d.node_at f))

abbrev pub IsProgramOrRefused : List ℕ → Type 0
IsProgramOrRefused text = ((p : Program) × IsTypedProgram text p) ⊎ ((e : TextFault) × FirstRefusal text e)

-- a fault that is not `NoMemory`, and holds none
abbrev pub HoldsNoMemory : TextFault → Type 0
HoldsNoMemory (faults.Lex e) = e ≢ lexing.NoMemory
HoldsNoMemory (faults.Parse e) = e ≢ parsing.NoMemory
HoldsNoMemory (faults.Ty f at) = f ≢ typing.NoMemory
HoldsNoMemory faults.NoMemory = ⊥
