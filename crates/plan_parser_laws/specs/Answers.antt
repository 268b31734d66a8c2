-- What tokens are: an expression, or refused.
use Rattle.std.specs.Prelude.{ℕ, ◌⊎◌}
use Rattle.plan_parser_exprs.specs.declared.fault.ParseFault.{ParseFault}
use Rattle.plan_parser_exprs.specs.declared.node.Node.{Node}
use Rattle.plan_parser_exprs.specs.Ahead.{Front}
use Rattle.plan_parser_laws.specs.Grammar.{ExprAt}
use Rattle.plan_parser_laws.specs.Agenda.{whole, FirstRefusal}

-- the tokens begin with an expression, or the reading of one is refused
abbrev pub IsAnswered : ℕ → Front → Type 0
IsAnswered r f = ((n : Node) × (g : Front) × ExprAt r f n g) ⊎ ((e : ParseFault) × FirstRefusal e (whole r) f)
