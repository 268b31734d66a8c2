use Rattle.std.proofs.Common.{arith}
use Rattle.plan_parser_exprs.proofs.Chains.{bindings_done, bindings_step, bindings_stop}
use Rattle.plan_parser_exprs.proofs.reader.ExprReader.bindings_from.Goals as goal

pub loop-preserved : goal.loop-preserved
loop-preserved g c = grind (arith, bindings_step)

pub returns : goal.returns
returns g c = grind (arith, bindings_done)

pub returns-in_err-binding : goal.returns-in_err-binding
returns-in_err-binding g c = grind (arith, bindings_stop)
