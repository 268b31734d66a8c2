use Rattle.std.proofs.Common.{refl, sym, append-nil, arith}
use Rattle.reliable_ports_world.proofs.Runs.{body_put, bodies_put}
use Rattle.reliable_ports_world.proofs.ends.put_bodies.Goals as goal

pub loop-body-init : goal.loop-body-init
loop-body-init c = record { number = refl; out = sym (append-nil c.args.out.now) }

pub loop-body-preserved : goal.loop-body-preserved
loop-body-preserved c = record {
  number = omega (arith, c.loop-body.invariant.number);
  out = body_put c.args.bodies.now c.loop-body.body-index c.loop-body.number c.body-item.result c.args.out.now c.loop-body.out c.put_body.new.out c.loop-body-test.true c.body-item.is
      c.loop-body.invariant.number c.loop-body.invariant.out c.in_ok-put_body.ensures;
}

pub returns : goal.returns
returns c = bodies_put c.args.bodies.now c.loop-body.body-index c.args.out.now c.loop-body.out c.loop-body-test.false c.loop-body.invariant.out
