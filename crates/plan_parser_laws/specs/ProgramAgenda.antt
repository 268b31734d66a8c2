-- What is to be read of a program, and its first refusal.
use Rattle.std.specs.Prelude.{◌≡◌, ℕ, List, length, ◌⊎◌}
use Rattle.plan_base.specs.declared.tree.Draft.{Draft}
use Rattle.plan_lexer.specs.declared.token.Token.{Token}
use Rattle.plan_parser_exprs.specs.declared.fault.ParseFault.{ParseFault}
use Rattle.plan_parser_exprs.specs.declared.node.Node.{Node}
use Rattle.plan_parser_exprs.specs.Ahead.{Front}
use Rattle.plan_parser_exprs.specs.Nodes.{all_at}
use Rattle.plan_parser_laws.specs.Grammar.{ExprAt}
use Rattle.plan_parser_laws.specs.Agenda.{GrammarItem, declarations, whole, body_size, FirstRefusal}
use Rattle.plan_parser_laws.specs.ProgramGrammar.{ProgramAt}

-- declarations up to the end, where nothing is declared so far
abbrev pub a_program : ℕ → GrammarItem
a_program end = declarations (record { svcs = 0; exns = 0; funs = 0; exprs = 0; end = end })

-- the first refusal of the tokens of a text of that length
abbrev pub FirstProgramRefusal : ParseFault → List Token → ℕ → Type 0
FirstProgramRefusal e tokens end = FirstRefusal e (a_program end) (record { tokens = tokens; end = end })

-- tokens are a program, or their reading is refused
abbrev pub IsProgramOrRefused : List Token → ℕ → Type 0
IsProgramOrRefused tokens end = ((d : Draft) × ProgramAt tokens end d) ⊎ ((e : ParseFault) × FirstProgramRefusal e tokens end)

-- what is judged of a body: the depth and the number of its expressions
abbrev pub IsJudgedBy : Front → Node → Type 0
IsJudgedBy f n = body_size f ≡ (n.depth, length (all_at n))

-- a body that is judged is an expression by the grammar, or its reading is refused
abbrev pub IsSized : Front → Type 0
IsSized f = ((n : Node) × (g : Front) × ExprAt 160 f n g × IsJudgedBy f n) ⊎ ((e : ParseFault) × FirstRefusal e (whole 160) f)
