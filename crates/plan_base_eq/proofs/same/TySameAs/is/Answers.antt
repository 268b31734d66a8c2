use Rattle.plan_base.proofs.SameTypes.{same_decided}
use Rattle.plan_base_eq.proofs.same.TySameAs.is.Goals as goal

pub returns-clause-tested : goal.returns-clause-tested
returns-clause-tested c = same_decided c.same_type.result c.args.self.now c.args.other.now c.same_type.ensures
