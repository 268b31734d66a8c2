use Rattle.std.proofs.Common.{◌≡◌, ◌++◌, drop}
use Rattle.std.specs.List.{flat_map}
use Rattle.packet_frame_text.specs.Frames.{row_line}
use Rattle.packet_frame_text.proofs.frames.put_rows.Given as goal

abbrev pub invariant-loop-r : goal.invariant-loop-r
invariant-loop-r l = l.out ++ flat_map row_line (drop l.r-index l.rows) ≡ l.initial.out ++ flat_map row_line l.rows
