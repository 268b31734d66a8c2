use Rattle.trace_chart_picture.proofs.NoTrace.{first_bad}
use Rattle.trace_chart_picture.proofs.OneTrace.{read_trace}
use Rattle.trace_chart_picture.proofs.trace.read_trace.Goals as goal

pub returns-in_default-clause-wrong : goal.returns-in_default-clause-wrong
returns-in_default-clause-wrong c = first_bad c.args.bytes.now (c.behind.ensures.other c.in_default.is)

pub returns-in-Ok-clause-read : goal.returns-in-Ok-clause-read
returns-in-Ok-clause-read c =
    read_trace c.args.bytes.now c.in-Some.rest.now c.read_body.new.entries c.in-Ok.ledger c.in-Some.ensures.is c.in-Ok.ensures.read c.in-Ok.ensures.lines
