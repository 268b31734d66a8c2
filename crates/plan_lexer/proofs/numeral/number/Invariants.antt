use Rattle.std.proofs.Common.{◌≡◌, drop}
use Rattle.plan_lexer.specs.Numerals.{number_from, number_of}
use Rattle.plan_lexer.proofs.numeral.number.Given as goal

abbrev pub invariant-loop-byte : goal.invariant-loop-byte
invariant-loop-byte l = number_from l.value (drop l.byte-index l.digits) ≡ number_of l.digits
