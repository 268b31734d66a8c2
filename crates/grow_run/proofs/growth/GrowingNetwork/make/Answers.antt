use Rattle.std.proofs.Common.{◌∙◌, ◌+◌, ◌^◌, ◌++◌, length, refl, ap, subst, arith}
use Rattle.net_world_spec.specs.Counts.{late_in}
use Rattle.bound_ledger.specs.Stands.{Stands}
use Rattle.grow_run.specs.Summaries.{summary_of}
use Rattle.grow_run.proofs.Summing.{room_less}
use Rattle.net_world.proofs.StandLaws.{fits_within}
use Rattle.net_world.proofs.RunLaws.{fits_as, leaves_as, entries_are}
use Rattle.grow_run.proofs.growth.GrowingNetwork.make.Goals as goal

pub step-requires-clause-fits : goal.step-requires-clause-fits
step-requires-clause-fits g c = fits_within c.args.self.now.world.version c.args.event c.requires.fits

pub count_lines-requires : goal.count_lines-requires
count_lines-requires g c =
    let counts = c.requires.counts in
    let lines = (c.in_ok-lines.ensures.ok counts.state counts.is).list in
    let late = c.is_late-late.ensures ∙ ap (λ wire. late_in wire c.args.event) counts.is.is.wire in
    let rows = c.args.self.now.ledger in
    record { fits = fits_as rows _ _ _ _ late (c.as_slice.ensures ∙ lines) counts.fits }

pub count-requires : goal.count-requires
count-requires g c = room_less c.args.self.now.summary (2 ^ 64) (length c.as_slice-2.result.now) (omega arith) c.requires.room

pub returns : goal.returns
returns g c = record {
  world = λ w h. (c.in_ok-lines.ensures.ok w h).world;
  counts = λ w old h l s t.
      let lines = (c.in_ok-lines.ensures.ok w h).list in
      let late = c.is_late-late.ensures ∙ ap (λ wire. late_in wire c.args.event) h.is.wire in
      let counted = entries_are w c.args.event _ (c.args.self.now.world.made + 1) c.args.self.now.world.made refl h.is.made (c.as_slice.ensures ∙ lines) in
      let summed = entries_are w c.args.event _ (c.args.self.now.world.made + 1) c.args.self.now.world.made refl h.is.made (c.as_slice-2.ensures ∙ lines) in (
        subst (λ x. Stands (old ++ x) c.count_lines.new.ledger) counted (c.in_ok-count_lines.ensures old (c.args.self.now.world.made + 1) (leaves_as old w c.args.event _ _ _ late counted (c.as_slice.ensures ∙ lines) l) s),
        c.count.ensures.counted old (c.args.self.now.world.made + 1) t ∙ ap (λ x. summary_of (old ++ x)) summed,
      );
  room = λ n r. c.count.ensures.room n (room_less c.args.self.now.summary (n + 2 ^ 64) (n + length c.as_slice-2.result.now) (omega arith) r);
  made = (refl, c.in_ok-lines.ensures.made);
}
