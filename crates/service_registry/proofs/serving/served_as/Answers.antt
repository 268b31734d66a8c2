use Rattle.service_registry.specs.RegistryState.{rows_over}
use Rattle.service_registry.proofs.serving.served_as.Goals as goal

pub returns-in-GenerateKey-clause-meets : goal.returns-in-GenerateKey-clause-meets
returns-in-GenerateKey-clause-meets c = rw c.in-GenerateKey.is (c.generate_key.ensures.meets c.args.base.now c.args.a.now c.args.ctx.now)

pub returns-in-GenerateKey-clause-over : goal.returns-in-GenerateKey-clause-over
returns-in-GenerateKey-clause-over c = c.generate_key.ensures.over c.args.base.now.rows c.requires

pub returns-in-Print-clause-meets : goal.returns-in-Print-clause-meets
returns-in-Print-clause-meets c = rw c.in-Print.is (c.print.ensures c.args.a.now c.args.ctx.now (rows_over c.args.base.now c.args.changes.now))

pub returns-in-Deliver-clause-meets : goal.returns-in-Deliver-clause-meets
returns-in-Deliver-clause-meets c = rw c.in-Deliver.is (c.deliver.ensures c.args.a.now c.args.ctx.now (rows_over c.args.base.now c.args.changes.now))

pub returns-in-GetNeighbors-clause-meets : goal.returns-in-GetNeighbors-clause-meets
returns-in-GetNeighbors-clause-meets c = rw c.in-GetNeighbors.is (c.get_neighbors.ensures c.args.a.now (rows_over c.args.base.now c.args.changes.now))
