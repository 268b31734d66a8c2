use Rattle.std.proofs.Common.{ap, ◌∙◌}
use Rattle.node_log.specs.Runs.{entries_at}
use Rattle.node_log.specs.Texts.{lines_text}
use Rattle.node_serve.specs.declared.steps.StepOutcome.TheVariants.{Took}
use Rattle.node_serve.proofs.steps.took_texts.Goals as goal

pub returns : goal.returns
returns c = record {
  line = c.in_ok-line.ensures.line;
  readable = c.in_ok-line.ensures.readable c.args.config.now.version c.requires;
  lines = c.in_ok-line.ensures.lines ∙ ap (λ acts. lines_text c.args.config.now.here (entries_at c.args.number acts)) c.as_slice.ensures;
  made = ap Took c.in_ok-frame.ensures;
}
