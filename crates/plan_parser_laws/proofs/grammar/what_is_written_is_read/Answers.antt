use Rattle.plan_parser_laws.proofs.TypesAre.{type_is}
use Rattle.plan_parser_laws.proofs.ExprsAre.{expr_is}
use Rattle.plan_parser_laws.proofs.grammar.what_is_written_is_read.Goals as goal

pub returns-clause-type_at : goal.returns-clause-type_at
returns-clause-type_at c = λ r f g t d ends. type_is d ends

pub returns-clause-expr_at : goal.returns-clause-expr_at
returns-clause-expr_at c = λ r f g n d ends. expr_is d ends
