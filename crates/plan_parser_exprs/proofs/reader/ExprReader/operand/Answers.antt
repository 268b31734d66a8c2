use Rattle.std.proofs.Common.{subst}
use Rattle.plan_parser_exprs.specs.Ahead.{Gives}
use Rattle.plan_parser_exprs.specs.Exprs.{expr_to}
use Rattle.plan_parser_exprs.specs.Starts.{start_at}
use Rattle.plan_parser_exprs.proofs.StartLaws.{operand_is}
use Rattle.plan_parser_exprs.proofs.reader.ExprReader.operand.Goals as goal

pub returns : goal.returns
returns g c =
    let inner = expr_to c.args.self.now.room in
    rw (operand_is inner c.args.self.now.room c.args.ahead.now)
    (subst (λ s. Gives (start_at inner c.args.self.now.room s c.args.ahead.now) c.start_operand.result c.start_operand.new.ahead) c.next_start-start.ensures c.start_operand.ensures)
