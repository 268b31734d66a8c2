use Rattle.service_registry.specs.RegistryState.{rows_over}
use Rattle.service_registry.proofs.serving.served_by.Goals as goal

pub returns-in-None-clause-meets : goal.returns-in-None-clause-meets
returns-in-None-clause-meets c = rw c.in-None.is (c.no_such_service.ensures (rows_over c.args.base.now c.args.changes.now))
