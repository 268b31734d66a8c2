use Rattle.std.proofs.Common.{sym, subst}
use Rattle.plan_base.specs.declared.stamp.Version.TheVariants.{One, Two}
use Rattle.node_core_parts.specs.Reading.{ComesTo}
use Rattle.node_core_parts.proofs.ReadingLaws.{comes_so}
use Rattle.node_core_parts.proofs.reading.read_as.Goals as goal

pub returns-in-One : goal.returns-in-One
returns-in-One c = subst (λ v. ComesTo v c.args.bytes.now c.read_first.result) (sym c.in-One.is) (comes_so One c.args.bytes.now c.read_first.result c.read_first.ensures.found c.read_first.ensures.fault)

pub returns-in-Two : goal.returns-in-Two
returns-in-Two c = subst (λ v. ComesTo v c.args.bytes.now c.read_second.result) (sym c.in-Two.is) (comes_so Two c.args.bytes.now c.read_second.result c.read_second.ensures.found c.read_second.ensures.fault)
