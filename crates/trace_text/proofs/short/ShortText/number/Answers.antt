use Rattle.std.proofs.Common.{◌++◌, length, ap, length-append, ◌∙◌, arith}
use Rattle.std.specs.Fmt.{decimal}
use Rattle.std.proofs.lemmas.Fmt.{length-decimal-le}
use Rattle.trace_text.proofs.short.ShortText.number.Goals as goal

pub returns-clause-room : goal.returns-clause-room
returns-clause-room c =
    let whole = ap length (c.word.ensures ∙ ap (λ z. c.args.self.now ++ z) (c.as_bytes.ensures.value ∙ c.format.ensures.text))
    ∙ length-append c.args.self.now (decimal c.args.n) in
    let few = length-decimal-le 20 c.args.n (omega arith) (omega (arith, c.ranges.n.fits)) (omega (arith, c.ranges.n.fits)) in
    omega (arith, whole, few)
