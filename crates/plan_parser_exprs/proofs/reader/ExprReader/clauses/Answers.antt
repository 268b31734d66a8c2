use Rattle.std.proofs.Common.{arith}
use Rattle.plan_parser_exprs.proofs.Chains.{clauses_done, clauses_step, clauses_stop}
use Rattle.plan_parser_exprs.proofs.reader.ExprReader.clauses.Goals as goal

pub loop-preserved : goal.loop-preserved
loop-preserved g c = grind (arith, clauses_step)

pub returns : goal.returns
returns g c = grind (arith, clauses_done)

pub returns-in_err-clause : goal.returns-in_err-clause
returns-in_err-clause g c = grind (arith, clauses_stop)
