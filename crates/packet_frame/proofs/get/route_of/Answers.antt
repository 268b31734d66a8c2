use Rattle.std.proofs.Common.{arith}
use Rattle.std.proofs.lemmas.Result.{err_from_is_err_and}
use Rattle.packet_frame.proofs.Carries.{route_refused, route_read}
use Rattle.packet_frame.proofs.get.route_of.Goals as goal

pub returns-in_err-get_name : goal.returns-in_err-get_name
returns-in_err-get_name c =
    let p = err_from_is_err_and c.from_residual.result c.from_residual.ensures.1 in
    rw (p.1, p.2) (route_refused c.args.c.now c.in_err-get_name.field-0.0 c.in_err-get_name.ensures.fault)

pub returns : goal.returns
returns c = grind (arith, route_read, route_refused)
