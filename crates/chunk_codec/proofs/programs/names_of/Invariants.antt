use Rattle.std.proofs.Common.{◌≡◌, ◌-◌}
use Rattle.containers.specs.Reading.{many}
use Rattle.containers.proofs.ReadingLists.{with_front}
use Rattle.chunk_codec_spec.specs.Scan.{name_field}
use Rattle.chunk_codec.proofs.programs.names_of.Given as goal

abbrev pub invariant-loop-i : goal.invariant-loop-i
invariant-loop-i l = with_front l.names (many name_field (l.count - l._i) l.s) ≡ many name_field l.count l.fn.s
