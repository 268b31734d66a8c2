use Rattle.std.proofs.Common.{refl}
use Rattle.network_config.specs.declared.event.Event.TheVariants.{Take}
use Rattle.node_serve.proofs.server.Server.take_frame.Goals as goal

pub returns : goal.returns
returns g c = λ l. c.make.ensures l (Take c.args.dev) refl

pub make-requires-clause-event : goal.make-requires-clause-event
make-requires-clause-event g c = record { keeps = c.requires.device; within = tt }
