use Rattle.std.proofs.Common.{ap, ◌∙◌}
use Rattle.service_registry.specs.RegistryState.{RegistryState, opened}
use Rattle.service_registry.proofs.Kept.{expired_good, expired_kept}
use Rattle.service_registry.proofs.registry.RegistryServices.expire.Goals as goal

pub invariant_of-self : goal.invariant_of-self
invariant_of-self c = (
  expired_good c.self.inside.tables c.expire.new.self c.args.now c.expire.ensures.rows c.expire.ensures.next_key c.self.invariant.0,
  expired_kept c.self.inside.tables c.expire.new.self (opened c.self.inside.is_open c.self.inside.changes) c.self.inside.is_ready (ap (λ (h : RegistryState). h.begun) c.self.view_is ∙ c.requires) c.self.invariant.1,
)
