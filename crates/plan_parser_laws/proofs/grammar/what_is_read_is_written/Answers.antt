use Rattle.std.proofs.Common.{suc}
use Rattle.plan_parser_exprs.specs.declared.level.Level.TheVariants as levels
use Rattle.plan_parser_exprs.specs.Types.{type_to}
use Rattle.plan_parser_exprs.specs.Exprs.{expr_to}
use Rattle.plan_parser_laws.specs.Grammar.{TypeAt, ExprAt}
use Rattle.plan_parser_laws.proofs.ReadSteps.{what_was_read}
use Rattle.plan_parser_laws.proofs.TypesRead.{types_read}
use Rattle.plan_parser_laws.proofs.ExprsRead.{exprs_read}
use Rattle.plan_parser_laws.proofs.grammar.what_is_read_is_written.Goals as goal

pub returns-clause-type_at : goal.returns-clause-type_at
returns-clause-type_at c = λ r f g t e. what_was_read (TypeAt r f) (type_to (suc r) f) t g (types_read r f) e

pub returns-clause-expr_at : goal.returns-clause-expr_at
returns-clause-expr_at c = λ r f g n e. what_was_read (ExprAt r f) (expr_to (suc r) levels.Whole f) n g (exprs_read r levels.Whole f) e
