use Rattle.std.proofs.Common.{◌+◌, rules, sym, subst, ap, ◌∙◌}
use Rattle.net_world_spec.specs.World.{acted_event}
use Rattle.net_world_spec.proofs.Balance.{event_balances}
use Rattle.net_world_spec.proofs.Fitting.{event_sound}
use Rattle.net_world_spec.proofs.Visits.{event_ends}
use Rattle.net_world_spec.proofs.Reaching.{event_keeps_routes}
use Rattle.net_world.specs.Stands.{WorldStands}
use Rattle.net_world.proofs.StandLaws.{fits_there, typed_fits, typed_there}
use Rattle.net_world.proofs.HappenLaws.{happened_so}
use Rattle.net_world.proofs.world.World.step.Goals as goal

pub act-requires-clause-fits : goal.act-requires-clause-fits
act-requires-clause-fits g c = typed_there c.args.self.now _ c.args.event (sym c.self.view_is) c.keep_types.ensures c.requires.fits

pub returns-in_err-lines : goal.returns-in_err-lines
returns-in_err-lines g c =
    let old = c.args.self.now in
    let e = c.args.event in
    let fits = typed_fits old.version e c.keep_types.ensures c.requires.fits in
    record {
      ok = λ w h. search rules;
      made = search rules;
      balance = λ f w s. event_balances f w e s;
      sound = λ w v s. event_sound w e (fits_there w e old v fits) s;
      visits = λ w v s. event_ends w e (fits_there w e old v fits) s;
      routes = λ w. event_keeps_routes w e;
    }

pub returns : goal.returns
returns g c =
    let old = c.args.self.now in
    let fits = typed_fits old.version c.args.event c.keep_types.ensures c.requires.fits in
    happened_so _ c.args.event old _ c.in_ok-lines.lines fits (λ w h.
    let done = c.in_ok-lines.ensures.ok w (subst (λ n. WorldStands g.S.Services.stands n w) (sym c.self.view_is) h) in
    record {
      list = done.list;
      world = record {
        is = c.count.ensures.stands (acted_event w c.args.event).world done.network;
        sound = event_sound w c.args.event (fits_there w c.args.event old (sym h.is.version) fits) h.sound;
      };
    }) (c.count.ensures.made ∙ ap (λ n. n + 1) (c.in_ok-lines.ensures.made ∙ ap (λ n. n.made) c.self.view_is))
