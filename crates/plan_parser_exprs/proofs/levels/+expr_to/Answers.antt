use Rattle.std.proofs.Common.{◌≡◌, ap, arith}
use Rattle.plan_parser_exprs.specs.Exprs.{expr_to}
use Rattle.plan_parser_exprs.proofs.Mores.{roomier}
use Rattle.plan_parser_exprs.proofs.levels.+expr_to.Goals as goal

pub returns-then-room-eq0 : goal.returns-then-room-eq0
unfolding expr_to
returns-then-room-eq0 t c _ = let none : c.args.room ≡ 0 = omega arith in rw c.place.ensures (ap (λ n. expr_to n c.args.level c.args.ahead.now) none)

pub returns : goal.returns
unfolding expr_to
returns t c = rw (roomier (λ n. expr_to n c.args.level c.args.ahead.now) c.args.room (omega arith)) c.at_level.ensures
