use Rattle.std.proofs.Common.{arith, length-append}
use Rattle.plan_parser_exprs.proofs.Mores.{more_ends, more_past, more_steps, more_stops}
use Rattle.plan_parser.proofs.value_texts.more_arguments.Goals as goal

pub loop-alloc-preserved : goal.loop-alloc-preserved
loop-alloc-preserved c = grind (arith, more_steps, length-append)

pub returns : goal.returns
returns c = grind (arith, more_ends)

pub returns-then-len-ge-MOST_ARGUMENTS : goal.returns-then-len-ge-MOST_ARGUMENTS
returns-then-len-ge-MOST_ARGUMENTS c = grind (arith, more_past)

pub returns-in_err-argument_at : goal.returns-in_err-argument_at
returns-in_err-argument_at c = grind (arith, more_stops)
