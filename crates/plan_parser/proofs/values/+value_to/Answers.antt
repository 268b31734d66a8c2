use Rattle.std.proofs.Common.{◌≡◌, ap, arith}
use Rattle.plan_parser_exprs.proofs.Mores.{roomier}
use Rattle.plan_parser.specs.Values.{value_to}
use Rattle.plan_parser.proofs.values.+value_to.Goals as goal

pub returns-then-room-eq0 : goal.returns-then-room-eq0
unfolding value_to
returns-then-room-eq0 t c _ = let none : c.args.room ≡ 0 = omega arith in rw c.place.ensures (ap (λ n. value_to c.args.outside n c.args.ahead.now) none)

pub returns : goal.returns
unfolding value_to
returns t c = rw (roomier (λ n. value_to c.args.outside n c.args.ahead.now) c.args.room (omega arith)) c.value_at.ensures
