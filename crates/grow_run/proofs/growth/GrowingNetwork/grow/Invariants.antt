use Rattle.grow_run.specs.Pings.{ping}
use Rattle.grow_run.proofs.Growing.{Grows}
use Rattle.grow_run.proofs.growth.GrowingNetwork.grow.Given as goal

abbrev pub invariant-loop-made : goal.invariant-loop-made
invariant-loop-made g l = Grows g.S.Services.stands (ping l.code) l.events l.initial.self.words l._made l.self
