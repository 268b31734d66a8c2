use Rattle.std.proofs.Common.{◌∙◌}
use Rattle.node_core.specs.Stands.{version_of}
use Rattle.ledger_audit.proofs.PastLaws.{event_held, event_reads}
use Rattle.ledger_audit.proofs.reckoning.reckon_event.Goals as goal

pub returns : goal.returns
returns g c =
    let done = c.in_ok-acts.ensures.steps in
    record {
      same = done.same;
      holds = λ s h p k.
          let step = done.ok s h in
          event_held c.reckon_step.new.reckoning p c.args.links.now c.args.mark.log c.args.mark.event s c.args.event.now c.here-here.result c.in_ok-acts.acts.list c.in_ok-acts.acts.frame
          (c.here-here.ensures ∙ h.here) step.list step.frame (c.in_ok-reckon_step.ensures.holds p k);
      reads = λ s h. event_reads (version_of c.args.node.now) s c.args.event.now c.in_ok-acts.acts.frame c.requires (done.ok s h).frame c.in_ok-reckon_step.ensures.reads;
      after = λ s h. (done.ok s h).node;
    }
