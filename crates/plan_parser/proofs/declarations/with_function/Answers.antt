use Rattle.plan_parser.proofs.DeclarationSteps.{with_function_gives}
use Rattle.plan_parser.proofs.declarations.with_function.Goals as goal

pub returns-in-Ok : goal.returns-in-Ok
returns-in-Ok c =
    with_function_gives c.args.gathered c.args.ahead.now c.skip.new.self c.head_at.new.ahead c.expr_to.new.ahead c.len.result c.place-start.result c.in_ok-one_more.field-0 c.in_ok-head.head c.in-Ok.body
    c.with_body.result c.len.ensures c.place-start.ensures c.skip.ensures c.in_ok-one_more.ensures c.in_ok-head.ensures c.in-Ok.ensures c.with_body.ensures
