use Rattle.std.proofs.Common.{arith, length-append}
use Rattle.plan_parser_exprs.proofs.Mores.{more_ends, more_past, more_steps, more_stops}
use Rattle.plan_parser.proofs.values.ValueReader.more_items.Goals as goal

pub loop-ahead-preserved : goal.loop-ahead-preserved
loop-ahead-preserved g c = grind (arith, more_steps, length-append)

pub returns : goal.returns
returns g c = grind (arith, more_ends)

pub returns-then-len-ge-MOST_ITEMS : goal.returns-then-len-ge-MOST_ITEMS
returns-then-len-ge-MOST_ITEMS g c = grind (arith, more_past)

pub returns-in_err-like : goal.returns-in_err-like
returns-in_err-like g c = grind (arith, more_stops)
