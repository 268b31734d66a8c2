use Rattle.trace_chart_picture.proofs.Again.{only_entry, no_entry}
use Rattle.trace_chart_picture.proofs.entry.if_entry.Goals as goal

pub returns-in-Ok-true-clause-is : goal.returns-in-Ok-true-clause-is
returns-in-Ok-true-clause-is c = only_entry c.args.line.now c.args.entry c.in-Ok-true.field-0 c.requires c.in-Ok-true.ensures c.in-Ok-true.field-0-test

pub returns-in-Ok-false-clause-other : goal.returns-in-Ok-false-clause-other
returns-in-Ok-false-clause-other c eq =
    no_entry c.args.line.now c.args.entry c.in-Ok-false.field-0 c.requires c.in-Ok-false.ensures c.in-Ok-false.field-0-test
