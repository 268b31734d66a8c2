use Rattle.std.proofs.Common.{arith, length-append}
use Rattle.plan_parser_exprs.proofs.Mores.{more_ends, more_past, more_steps, more_stops}
use Rattle.plan_parser.proofs.values.ValueReader.more_parts.Goals as goal

pub loop-ahead-preserved : goal.loop-ahead-preserved
loop-ahead-preserved g c = grind (arith, more_steps, length-append)

pub returns : goal.returns
returns g c = grind (arith, more_ends)

pub returns-then-len-ge-MOST_PARTS : goal.returns-then-len-ge-MOST_PARTS
returns-then-len-ge-MOST_PARTS g c = grind (arith, more_past)

pub returns-in_err-inner : goal.returns-in_err-inner
returns-in_err-inner g c = grind (arith, more_stops)
