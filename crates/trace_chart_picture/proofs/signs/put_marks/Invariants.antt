use Rattle.std.proofs.Common.{◌≡◌, ◌++◌, drop}
use Rattle.std.specs.List.{flat_map}
use Rattle.trace_chart_picture.specs.Pictures.{mark_text}
use Rattle.trace_chart_picture.proofs.signs.put_marks.Given as goal

abbrev pub invariant-loop-m : goal.invariant-loop-m
invariant-loop-m l = l.out ++ flat_map mark_text (drop l.m-index l.marks) ≡ l.initial.out ++ flat_map mark_text l.marks
