use Rattle.std.proofs.Common.{◌≡◌, ◌∙◌, ℕ, suc, [], ◌∷◌, Result, Ok, Err, inl, inr, refl, sym}
use Rattle.plan_parser_exprs.specs.declared.fault.ParseFault.{ParseFault}
use Rattle.plan_parser_exprs.specs.declared.level.Level.TheVariants as levels
use Rattle.plan_parser_exprs.specs.declared.node.Node.{Node}
use Rattle.plan_parser_exprs.specs.Ahead.{Front}
use Rattle.plan_parser_exprs.specs.Exprs.{expr_to}
use Rattle.plan_parser_laws.specs.Grammar.{ExprAt}
use Rattle.plan_parser_laws.specs.Agenda.{whole}
use Rattle.plan_parser_laws.specs.Answers.{IsAnswered}
use Rattle.plan_parser_laws.proofs.ReadSteps.{what_was_read}
use Rattle.plan_parser_laws.proofs.ExprsRead.{exprs_read}
use Rattle.plan_parser_laws.proofs.ExprsAre.{expr_is}
use Rattle.plan_parser_laws.proofs.Works.{refuses_first}
use Rattle.plan_parser_laws.proofs.ExprsWork.{exprs_work}
use Rattle.plan_parser_laws.proofs.grammar.one_answer.Goals as goal

result_is_answer : (r : ℕ) (f : Front) (q : Result (Node × Front) ParseFault) → expr_to (suc r) levels.Whole f ≡ q → IsAnswered r f
result_is_answer r f (Ok x) e = inl (x.0, x.1, what_was_read (ExprAt r f) (expr_to (suc r) levels.Whole f) x.0 x.1 (exprs_read r levels.Whole f) e)
result_is_answer r f (Err d) e = inr (d, (refuses_first (whole r ∷ []) f (expr_to (suc r) levels.Whole f) (exprs_work r levels.Whole [] f) d).0 e)

no_both : {A E : Type 0} (x : A) (e : E) → ◌≡◌ {A = Result A E} (Ok x) (Err e) → ⊥
no_both x e h = cc

pub returns-clause-some : goal.returns-clause-some
returns-clause-some c = λ r f. result_is_answer r f (expr_to (suc r) levels.Whole f) refl

pub returns-clause-apart : goal.returns-clause-apart
returns-clause-apart c =
    λ r f g n e d ends h.
    no_both (n, g) e (sym (expr_is d ends) ∙ (refuses_first (whole r ∷ []) f (expr_to (suc r) levels.Whole f) (exprs_work r levels.Whole [] f) e).1 h)
