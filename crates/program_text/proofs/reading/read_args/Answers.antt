use Rattle.std.proofs.Common.{◌∙◌, sym, ap, ℕ, List, Some}
use Rattle.std.specs.Str.{bytes_eq}
use Rattle.program_text.proofs.Readings.{no_args}
use Rattle.program_text.proofs.reading.read_args.Goals as goal

pub returns-then-eq : goal.returns-then-eq
returns-then-eq c =
    let same = ap (λ (bs : List ℕ). bytes_eq c.args.text.now bs) (sym c.as_slice.ensures) ∙ (sym c.eq.ensures ∙ c.if-eq.true) in
    ap Some c.new.ensures ∙ sym (no_args c.args.text.now same)
