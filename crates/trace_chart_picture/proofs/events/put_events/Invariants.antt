use Rattle.std.proofs.Common.{◌≡◌, ◌++◌, drop}
use Rattle.std.specs.List.{flat_map}
use Rattle.trace_chart_picture.specs.Pictures.{event_text}
use Rattle.trace_chart_picture.proofs.events.put_events.Given as goal

abbrev pub invariant-loop-m : goal.invariant-loop-m
invariant-loop-m l = l.out ++ flat_map event_text (drop l.m-index l.marks) ≡ l.initial.out ++ flat_map event_text l.marks
