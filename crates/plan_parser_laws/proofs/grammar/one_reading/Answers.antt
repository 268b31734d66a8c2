use Rattle.std.proofs.Common.{◌∙◌, sym, ap}
use Rattle.containers.proofs.Binds.{ok_inj}
use Rattle.plan_parser_laws.proofs.TypesAre.{type_is}
use Rattle.plan_parser_laws.proofs.ExprsAre.{expr_is}
use Rattle.plan_parser_laws.proofs.grammar.one_reading.Goals as goal

pub returns-clause-types : goal.returns-clause-types
returns-clause-types c = λ r f g h t u d p e q. let same = ok_inj (sym (type_is d p) ∙ type_is e q) in (ap (λ x. x.0) same, ap (λ x. x.1) same)

pub returns-clause-exprs : goal.returns-clause-exprs
returns-clause-exprs c = λ r f g h n m d p e q. let same = ok_inj (sym (expr_is d p) ∙ expr_is e q) in (ap (λ x. x.0) same, ap (λ x. x.1) same)
