use Rattle.std.proofs.Common.{◌≡◌, ◌++◌, drop}
use Rattle.std.specs.List.{flat_map}
use Rattle.plan_printer_spec.specs.Literals.{hex_pair}
use Rattle.plan_printer.proofs.pieces.put_hex.Given as goal

abbrev pub invariant-loop-byte : goal.invariant-loop-byte
invariant-loop-byte l = l.out ++ flat_map hex_pair (drop l.byte-index l.bytes) ≡ l.initial.out ++ flat_map hex_pair l.bytes
