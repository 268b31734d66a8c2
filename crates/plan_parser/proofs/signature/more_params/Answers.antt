use Rattle.std.proofs.Common.{arith, length-append}
use Rattle.plan_parser_exprs.proofs.Mores.{more_ends, more_past, more_steps, more_stops}
use Rattle.plan_parser.proofs.signature.more_params.Goals as goal

pub loop-alloc-preserved : goal.loop-alloc-preserved
loop-alloc-preserved c = grind (arith, more_steps, length-append)

pub returns : goal.returns
returns c = grind (arith, more_ends)

pub returns-then-len-ge-MOST_PARAMETERS : goal.returns-then-len-ge-MOST_PARAMETERS
returns-then-len-ge-MOST_PARAMETERS c = grind (arith, more_past)

pub returns-in_err-param_at : goal.returns-in_err-param_at
returns-in_err-param_at c = grind (arith, more_stops)
