use Rattle.std.proofs.Common.{◌≡◌, ◌<◌, ◌^◌, drop}
use Rattle.line_reader.specs.Numbers.{digits_from}
use Rattle.line_reader.proofs.numbers.digits.Given as goal

abbrev pub invariant-loop-d : goal.invariant-loop-d
invariant-loop-d l = (l.n < 2 ^ 64) × (digits_from l.n (drop l.d-index l.word) ≡ digits_from 0 l.word)
