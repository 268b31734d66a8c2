use Rattle.std.proofs.Common.{refl, sym, ◌∙◌, subst}
use Rattle.net_world_spec.specs.Sound.{event_fits}
use Rattle.net_world.proofs.StandLaws.{if_ok, fits_within}
use Rattle.reliable_ports_world.proofs.Standing.{makes_stand}
use Rattle.reliable_ports_world.proofs.ports.Ports.make.Goals as goal

pub step-requires-clause-fits : goal.step-requires-clause-fits
step-requires-clause-fits g c =
    let v = c.requires.ready.is.world.is.version ∙ c.requires.ready.is.version in
    fits_within c.args.self.now.world.version c.args.event (subst (λ v. event_fits v c.args.event) (sym v) c.requires.fits)

pub returns-clause-made : goal.returns-clause-made
returns-clause-made g c = λ s h.
    if_ok _ _ c.step.result (λ lines k. record { list = k.list; is = makes_stand g.S.Services.stands c.args.self.now _ s c.args.event c.requires.fits h k.world refl refl refl refl }) (c.step.ensures.ok s.world h.world)
