use Rattle.std.proofs.Common.{◌≡◌, ◌++◌, take, map}
use Rattle.net_world_spec.specs.World.{entry_at}
use Rattle.net_world_spec.specs.Texts.{entries_text}
use Rattle.trace_text.proofs.run_lines.put_all_lines.Given as goal

abbrev pub invariant-loop-line : goal.invariant-loop-line
invariant-loop-line l = l.out ≡ l.initial.out ++ entries_text l.frames (map (entry_at l.event) (take l.line-index l.lines))
