use Rattle.std.proofs.Common.{arith}
use Rattle.plan_lexer.proofs.NumeralLemmas.{number_from_passes}
use Rattle.plan_lexer.proofs.numeral.number.Goals as goal

pub returns-then-value-most : goal.returns-then-value-most
returns-then-value-most c =
    rw (← c.loop-byte.invariant) (number_from_passes c.args.digits.now c.loop-byte.byte-index c.loop-byte.value c.args.most (omega arith) (omega arith))
