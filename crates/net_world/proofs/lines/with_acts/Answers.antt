use Rattle.std.proofs.Common.{List, [], ◌∷◌, ◌++◌, ap, ◌∙◌, refl, arith}
use Rattle.std.proofs.lemmas.List.{length_push}
use Rattle.net_world_spec.specs.declared.lines.Line.{Line}
use Rattle.net_world_spec.specs.declared.lines.Line.TheVariants.{At}
use Rattle.net_world.proofs.StandLaws.{lines_none, lines_more}
use Rattle.net_world.proofs.lines.with_acts.Goals as goal

pub loop-act-init : goal.loop-act-init
loop-act-init c = (lines_none _ c.args.host, omega arith, refl)

pub loop-act-preserved : goal.loop-act-preserved
loop-act-preserved c =
    let i = c.loop-act.invariant in
    let more = lines_more _ c.args.host c.loop-act.yielded c.in-Some.act in
    let count = length_push c.loop-act.yielded c.in-Some.act in
    (◌∙◌ {A = List Line} c.push_reserved.ensures.items (ap (λ x. x ++ At c.args.host c.in-Some.act ∷ []) i.0 ∙ more), omega arith, cc)
