use Rattle.std.proofs.Common.{refl}
use Rattle.network_config.specs.declared.event.Event.TheVariants.{Tick}
use Rattle.node_serve.proofs.server.Server.step_tick.Goals as goal

pub returns : goal.returns
returns g c = λ l. c.step.ensures l Tick refl (λ node. refl)

pub step-requires-clause-event : goal.step-requires-clause-event
step-requires-clause-event g c = record { keeps = tt; within = tt }
