use Rattle.std.proofs.Common.{◌≡◌, ◌++◌, take}
use Rattle.node_log.specs.Runs.{entries_at}
use Rattle.node_log.specs.Texts.{lines_text}
use Rattle.node_log.proofs.lines.put_acts.Given as goal

abbrev pub invariant-loop-act : goal.invariant-loop-act
invariant-loop-act l = l.out ≡ l.initial.out ++ lines_text l.here (entries_at l.number (take l.act-index l.acts))
