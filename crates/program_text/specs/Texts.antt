-- What a text says: a typed program, or arguments, or the first refusal.
use Rattle.std.specs.Prelude.{◌≡◌, ℕ, List, length, get_or, Option, Some, None, Result, Ok, Err}
use Rattle.plan_types_spec.specs.declared.type_fault.TypeFault.{TypeFault}
use Rattle.plan_types_spec.specs.declared.type_fault.TypeFault.TheVariants as ill
use Rattle.plan_base.specs.declared.tree.Draft.{Draft}
use Rattle.plan_base.specs.declared.tree.Place.{Place}
use Rattle.plan_base.specs.declared.tree.Place.TheVariants.{Decl, Node}
use Rattle.plan_base.specs.declared.tree.Program.{Program}
use Rattle.plan_base.specs.declared.tree.Value.{Value}
use Rattle.plan_types_spec.specs.Typing.{Typed}
use Rattle.plan_types_spec.specs.TypingFills.{Fills}
use Rattle.plan_types_spec.specs.TypingOrder.{annotated_program}
use Rattle.plan_lexer.specs.Scanning.{Toks}
use Rattle.plan_lexer.specs.declared.fault.LexFault.{LexFault}
use Rattle.plan_lexer.specs.declared.token.Token.{Token}
use Rattle.plan_parser_exprs.specs.declared.fault.ParseFault.{ParseFault}
use Rattle.plan_parser.specs.Programs as parsed
use Rattle.plan_parser.specs.Values.{args_of}
use Rattle.program_text.specs.declared.fault.TextFault.{TextFault}
use Rattle.program_text.specs.declared.fault.TextFault.TheVariants as fault
use Rattle.program_text.specs.Scanned.{tokens_of}

-- the byte at which a declaration or an expression of a draft begins
abbrev pub byte_at : List ℕ → List ℕ → Place → ℕ
byte_at decls nodes (Decl n) = get_or decls n 0
byte_at decls nodes (Node n) = get_or nodes n 0

-- the byte of a refusal; code that is too large has byte 0
abbrev pub byte_of : List ℕ → List ℕ → TypeFault → ℕ
byte_of decls nodes (ill.UnknownName p) = byte_at decls nodes p
byte_of decls nodes (ill.NotEarlier p) = byte_at decls nodes p
byte_of decls nodes (ill.Mismatch p t u) = byte_at decls nodes p
byte_of decls nodes (ill.Arity p) = byte_at decls nodes p
byte_of decls nodes (ill.NeedsType p) = byte_at decls nodes p
byte_of decls nodes (ill.WrongShape p) = byte_at decls nodes p
byte_of decls nodes (ill.TwiceNamed p) = byte_at decls nodes p
byte_of decls nodes (ill.TypeTooDeep p) = byte_at decls nodes p
byte_of decls nodes _ = 0

-- a draft that is typed, or the first refusal with its byte
abbrev pub placed_result : List ℕ → List ℕ → Result Program TypeFault → Result Program TextFault
placed_result decls nodes (Ok code) = Ok code
placed_result decls nodes (Err f) = Err (fault.Ty f (byte_of decls nodes f))

abbrev pub typed_of : Result Draft ParseFault → Result Program TextFault
typed_of (Ok d) = placed_result d.decl_at d.node_at (annotated_program d.program)
typed_of (Err f) = Err (fault.Parse f)

abbrev pub parsed_of : ℕ → Result (List Token) LexFault → Result Program TextFault
parsed_of len (Ok ts) = typed_of (parsed.program_of ts len)
parsed_of len (Err f) = Err (fault.Lex f)

-- the typed program of a text: its tokens, what they are, and the types that are missing in it
unfoldable pub program_of : List ℕ → Result Program TextFault
program_of text = parsed_of (length text) (tokens_of text)

-- the tokens of a text of that length are a draft that the program fills in, and the program is typed
pub record IsProgram (tokens : List Token) (len : ℕ) (code : Program) : Type 0 where
  pub draft : Draft
  pub read : parsed.program_of tokens len ≡ Ok draft
  pub fills : Fills draft.program code
  pub typed : Typed code

-- the text is tokens that are the program
pub record Says (text : List ℕ) (code : Program) : Type 0 where
  pub tokens : List Token
  pub toks : Toks 0 text tokens
  pub program : IsProgram tokens (length text) code

abbrev pub args_by : Result (List Value) ParseFault → Option (List Value)
args_by (Ok vs) = Some vs
args_by (Err f) = None

abbrev pub args_in : ℕ → Result (List Token) LexFault → Option (List Value)
args_in len (Ok ts) = args_by (args_of ts len)
args_in len (Err f) = None

-- the arguments that a text is, where it is some
unfoldable pub args_of_text : List ℕ → Option (List Value)
args_of_text text = args_in (length text) (tokens_of text)
