use Rattle.std.proofs.Common.{◌≡◌, ap, arith}
use Rattle.plan_parser_exprs.specs.Types.{type_to}
use Rattle.plan_parser_exprs.proofs.Mores.{roomier}
use Rattle.plan_parser_exprs.proofs.types.+type_to.Goals as goal

pub returns-then-room-eq0 : goal.returns-then-room-eq0
unfolding type_to
returns-then-room-eq0 t c _ = let none : c.args.room ≡ 0 = omega arith in rw c.place.ensures (ap (λ n. type_to n c.args.ahead.now) none)

pub returns : goal.returns
unfolding type_to
returns t c = rw (roomier (λ n. type_to n c.args.ahead.now) c.args.room (omega arith)) c.whole_type.ensures
