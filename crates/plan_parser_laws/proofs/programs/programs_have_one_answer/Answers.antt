use Rattle.std.proofs.Common.{◌≡◌, ◌∙◌, ℕ, List, Result, Ok, Err, inl, inr, refl, sym}
use Rattle.plan_base.specs.declared.tree.Draft.{Draft}
use Rattle.plan_lexer.specs.declared.token.Token.{Token}
use Rattle.plan_parser_exprs.specs.declared.fault.ParseFault.{ParseFault}
use Rattle.plan_parser.specs.Programs.{program_of}
use Rattle.plan_parser_laws.specs.ProgramAgenda.{IsProgramOrRefused}
use Rattle.plan_parser_laws.proofs.ProgramsRead.{program_written}
use Rattle.plan_parser_laws.proofs.ProgramsAre.{program_is}
use Rattle.plan_parser_laws.proofs.ProgramsWork.{program_refused}
use Rattle.plan_parser_laws.proofs.programs.programs_have_one_answer.Goals as goal

result_is_answer : (tokens : List Token) (end : ℕ) (r : Result Draft ParseFault) → program_of tokens end ≡ r → IsProgramOrRefused tokens end
result_is_answer tokens end (Ok d) e = inl (d, program_written tokens end d e)
result_is_answer tokens end (Err d) e = inr (d, (program_refused tokens end d).0 e)

no_both : {A E : Type 0} (x : A) (e : E) → ◌≡◌ {A = Result A E} (Ok x) (Err e) → ⊥
no_both x e h = cc

pub returns-clause-some : goal.returns-clause-some
returns-clause-some c = λ tokens end. result_is_answer tokens end (program_of tokens end) refl

pub returns-clause-apart : goal.returns-clause-apart
returns-clause-apart c = λ tokens end d e p h. no_both d e (sym (program_is p) ∙ (program_refused tokens end e).1 h)
