use Rattle.std.proofs.Common.{sym, subst}
use Rattle.std.specs.Prelude.{All, IfSome}
use Rattle.host_io.specs.Words.{IsShort}
use Rattle.host_io.proofs.Shorts.{more_short}
use Rattle.host_io.proofs.arguments.arguments_of.Goals as goal

pub loop-i-preserved : goal.loop-i-preserved
loop-i-preserved g c =
    let short : IsShort c.in-Some.argument = subst (λ o. IfSome o IsShort) c.in-Some.is c.in_ok-argument.ensures.found in
    subst (λ arguments. All IsShort arguments) (sym c.in_ok-add.ensures.ok) (more_short _ _ c.loop-i.invariant short)
