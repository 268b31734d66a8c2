use Rattle.std.proofs.Common.{◌≡◌, ◌+◌, ◌≤◌, length}
use Rattle.line_reader.specs.Lines.{lines}
use Rattle.line_reader.specs.Files.{read_on, file_of}
use Rattle.line_reader.proofs.files.read_file.Given as goal

abbrev pub invariant-loop-line : goal.invariant-loop-line
invariant-loop-line g l = (read_on g.F.LineFile.format l.number (lines l.rest) l.file ≡ file_of g.F.LineFile.format l.fn.begin l.fn.bytes) × (l.number + length l.rest ≤ 4194305)

abbrev pub decreases-loop-line : goal.decreases-loop-line
decreases-loop-line g l = length l.rest
