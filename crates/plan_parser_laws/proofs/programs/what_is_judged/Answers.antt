use Rattle.std.proofs.Common.{◌≡◌, [], ◌∷◌, Result, Ok, Err, inl, inr, refl}
use Rattle.plan_parser_exprs.specs.declared.fault.ParseFault.{ParseFault}
use Rattle.plan_parser_exprs.specs.declared.level.Level.TheVariants as levels
use Rattle.plan_parser_exprs.specs.declared.node.Node.{Node}
use Rattle.plan_parser_exprs.specs.Ahead.{Front}
use Rattle.plan_parser_exprs.specs.Exprs.{expr_to}
use Rattle.plan_parser_laws.specs.Grammar.{ExprAt}
use Rattle.plan_parser_laws.specs.Agenda.{whole}
use Rattle.plan_parser_laws.proofs.ReadSteps.{what_was_read}
use Rattle.plan_parser_laws.proofs.ExprsRead.{exprs_read}
use Rattle.plan_parser_laws.proofs.ExprsAre.{expr_is}
use Rattle.plan_parser_laws.proofs.Works.{refuses_first}
use Rattle.plan_parser_laws.proofs.ExprsWork.{exprs_work}
use Rattle.plan_parser_laws.specs.ProgramAgenda.{IsSized}
use Rattle.plan_parser_laws.proofs.ProgramsWork.{size_is}
use Rattle.plan_parser_laws.proofs.programs.what_is_judged.Goals as goal

result_is_sized : (f : Front) (r : Result (Node × Front) ParseFault) → expr_to 161 levels.Whole f ≡ r → IsSized f
result_is_sized f (Ok x) e = inl (x.0, x.1, what_was_read (ExprAt 160 f) (expr_to 161 levels.Whole f) x.0 x.1 (exprs_read 160 levels.Whole f) e, size_is f x.1 x.0 e)
result_is_sized f (Err d) e = inr (d, (refuses_first (whole 160 ∷ []) f (expr_to 161 levels.Whole f) (exprs_work 160 levels.Whole [] f) d).0 e)

pub returns-clause-body : goal.returns-clause-body
returns-clause-body c = λ f g n d ends. size_is f g n (expr_is d ends)

pub returns-clause-some : goal.returns-clause-some
returns-clause-some c = λ f. result_is_sized f (expr_to 161 levels.Whole f) refl
