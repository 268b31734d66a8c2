use Rattle.std.proofs.Common.{sym, ◌∙◌}
use Rattle.service_api.proofs.InstanceLaws.{instance_exact, some_found}
use Rattle.service_api.proofs.matching.instance.Goals as goal

pub returns-then-tests_instance-clause-exact : goal.returns-then-tests_instance-clause-exact
returns-then-tests_instance-clause-exact c =
    instance_exact c.args.scheme.now c.args.svc.now _ (some_found c.args.scheme.now c.args.svc.now c.in_ok-a.a c.in_ok-a.ensures (sym c.tests_instance.ensures ∙ c.if-tests_instance.true))
