use Rattle.std.proofs.Common.{◌≡◌, true, take}
use Rattle.std.specs.List.{list_all}
use Rattle.top_laws.specs.Exact.{is_byte}
use Rattle.top_laws.proofs.expressions.read_blob.Given as goal

abbrev pub invariant-loop-byte : goal.invariant-loop-byte
invariant-loop-byte l = list_all is_byte (take l.byte-index l.blob) ≡ true
