use Rattle.std.proofs.Common.{◌≡◌, ◌++◌, drop}
use Rattle.std.specs.List.{flat_map}
use Rattle.command_files.specs.Texts.{part_line}
use Rattle.command_files.proofs.text.put_parts.Given as goal

abbrev pub invariant-loop-part : goal.invariant-loop-part
invariant-loop-part l = l.out ++ flat_map part_line (drop l.part-index l.parts) ≡ l.initial.out ++ flat_map part_line l.parts
