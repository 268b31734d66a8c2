use Rattle.std.proofs.Common.{ap, ◌∙◌, arith}
use Rattle.std.specs.Prelude.{Err}
use mir.Syntax.{w64}
use mir.Val.{to_z, of_z}
use Rattle.std.proofs.lemmas.Int.{to_z_pos}
use Rattle.command_files.proofs.CutLaws.{pays_all}
use Rattle.command_files.proofs.text.cut_text.Goals as goal

pub unreachable-requires : goal.unreachable-requires
unreachable-requires c =
    let bound = c.args.file.now.bound in
    let wide = ap (λ z. to_z w64 (of_z w64 z)) c.from.ensures ∙ to_z_pos w64 bound (omega (arith, c.requires.bound.1)) in
    pays_all bound c.of-purse.result _ wide c.of-purse.ensures c.requires.bound.0 (c.in-Err-NoBound.ensures.no_bound.0 (ap Err c.in-Err-NoBound.field-0-is))
