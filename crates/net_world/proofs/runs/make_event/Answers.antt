use Rattle.std.proofs.Common.{◌∙◌, ◌+◌, ◌++◌, ap, subst}
use Rattle.net_world_spec.specs.Texts.{entries_text}
use Rattle.net_world_spec.specs.Counts.{late_in}
use Rattle.bound_ledger.specs.Stands.{Stands}
use Rattle.net_world.proofs.StandLaws.{fits_within}
use Rattle.net_world.proofs.RunLaws.{fits_as, leaves_as, entries_are}
use Rattle.net_world.proofs.runs.make_event.Goals as goal

pub step-requires-clause-fits : goal.step-requires-clause-fits
step-requires-clause-fits g c = fits_within c.args.world.now.version c.args.event c.requires.fits

pub count_lines-requires : goal.count_lines-requires
count_lines-requires g c =
    let counts = c.requires.room in
    let lines = (c.in_ok-lines.ensures.ok counts.state counts.is).list in
    let late = c.is_late-late.ensures ∙ ap (λ wire. late_in wire c.args.event) counts.is.is.wire in
    record { fits = fits_as c.args.ledger.now _ _ _ _ late (c.as_slice.ensures ∙ lines) counts.fits }

pub returns-clause-text : goal.returns-clause-text
returns-clause-text g c = λ w h.
    let lines = (c.in_ok-lines.ensures.ok w h).list in
    let own = entries_are w c.args.event _ _ c.args.world.now.made (ap (λ n. n + 1) c.event_count-number.ensures) h.is.made (c.as_slice-2.ensures ∙ lines) in
    c.in_ok-put_all_lines.ensures ∙ ap (λ x. c.args.text.now ++ entries_text c.args.frames x) own

pub returns-clause-counts : goal.returns-clause-counts
returns-clause-counts g c =
    let done = c.in_ok-lines.ensures in
    record {
      world = λ w h. (done.ok w h).world;
      ledger = λ w old h l s.
          let late = c.is_late-late.ensures ∙ ap (λ wire. late_in wire c.args.event) h.is.wire in
          let lines = (done.ok w h).list in
          let own = entries_are w c.args.event _ _ c.args.world.now.made (ap (λ n. n + 1) c.event_count-number.ensures) h.is.made (c.as_slice.ensures ∙ lines) in
          subst (λ x. Stands (old ++ x) c.count_lines.new.ledger) own (c.in_ok-count_lines.ensures old _ (leaves_as old w c.args.event _ _ _ late own (c.as_slice.ensures ∙ lines) l) s);
      made = done.made;
    }
