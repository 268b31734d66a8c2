use Rattle.std.proofs.Common.{arith}
use Rattle.plan_parser_exprs.proofs.Chains.{chain_done, chain_end, chain_step, chain_stop}
use Rattle.plan_parser_exprs.proofs.reader.ExprReader.disjunction_from.Goals as goal

pub loop-preserved : goal.loop-preserved
loop-preserved g c = grind (arith, chain_step)

pub returns-in_default : goal.returns-in_default
returns-in_default g c = grind (arith, chain_end)

pub returns : goal.returns
returns g c = grind (arith, chain_done)

pub returns-in_err-right : goal.returns-in_err-right
returns-in_err-right g c = grind (arith, chain_stop)
