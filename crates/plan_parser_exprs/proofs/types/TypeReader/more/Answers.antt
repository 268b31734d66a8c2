use Rattle.std.proofs.Common.{arith, length-append}
use Rattle.plan_parser_exprs.proofs.Mores.{more_ends, more_past, more_steps, more_stops}
use Rattle.plan_parser_exprs.proofs.types.TypeReader.more.Goals as goal

pub loop-separator-preserved : goal.loop-separator-preserved
loop-separator-preserved g c = grind (arith, more_steps, length-append)

pub returns : goal.returns
returns g c = grind (arith, more_ends)

pub returns-then-len-most : goal.returns-then-len-most
returns-then-len-most g c = grind (arith, more_past)

pub returns-in_err-inner : goal.returns-in_err-inner
returns-in_err-inner g c = grind (arith, more_stops)
