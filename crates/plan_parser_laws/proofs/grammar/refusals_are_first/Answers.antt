use Rattle.std.proofs.Common.{suc, [], ◌∷◌}
use Rattle.containers.proofs.Agendas.{one_first_fault}
use Rattle.plan_parser_exprs.specs.declared.level.Level.TheVariants as levels
use Rattle.plan_parser_exprs.specs.Types.{type_to}
use Rattle.plan_parser_exprs.specs.Exprs.{expr_to}
use Rattle.plan_parser_laws.specs.Agenda.{a_type, whole, step}
use Rattle.plan_parser_laws.proofs.Works.{refuses_first}
use Rattle.plan_parser_laws.proofs.TypesWork.{types_work}
use Rattle.plan_parser_laws.proofs.ExprsWork.{exprs_work}
use Rattle.plan_parser_laws.proofs.grammar.refusals_are_first.Goals as goal

pub returns-clause-types : goal.returns-clause-types
returns-clause-types c = λ r f e. refuses_first (a_type r ∷ []) f (type_to (suc r) f) (types_work r [] f) e

pub returns-clause-exprs : goal.returns-clause-exprs
returns-clause-exprs c = λ r f e. refuses_first (whole r ∷ []) f (expr_to (suc r) levels.Whole f) (exprs_work r levels.Whole [] f) e

pub returns-clause-one : goal.returns-clause-one
returns-clause-one c = λ i f d e h k. one_first_fault step h k
