use Rattle.std.proofs.Common.{◌≡◌, Some, sym, ap, ◌∙◌, arith, w64, to_z, of_z}
use Rattle.std.proofs.lemmas.Int.{to_z-of_z}
use Rattle.plan_base.specs.declared.tree.Value as value
use Rattle.plan_meaning.specs.Run.{weighed_value}
use Rattle.plan_eval_state.specs.Spots.{begins}
use Rattle.plan_eval_state.specs.Flow.{now}
use Rattle.plan_eval_state.proofs.Ending.{flows_same}
use Rattle.plan_eval_made.specs.Where.{spot}
use Rattle.plan_eval_made.proofs.Ended.{value_stands, no_value_stands, name_gives, name_missing, int_is}
use Rattle.plan_eval_made.proofs.leaves.variable.Goals as goal

pub returns-in-None-clause-flows : goal.returns-in-None-clause-flows
returns-in-None-clause-flows c = λ e m form.
    name_missing (spot c.args.here.now e c.args.run.now.stack) c.args.name.now (now c.args.run.now m) form
    (no_value_stands c.args.here.now e c.args.run.now.stack c.args.name.now c.requires.ready.places c.in-None.ensures.place)

pub returns-in-Some-as_number-clause-flows : goal.returns-in-Some-as_number-clause-flows
returns-in-Some-as_number-clause-flows c = λ e m form.
    let same : to_z w64 (of_z w64 c.in-Some-as_number.n) ≡ c.in-Some-as_number.n = grind (arith, to_z-of_z) in
    flows_same (spot c.args.here.now e c.args.run.now.stack) c.args.run.now.stack (begins (spot c.args.here.now e c.args.run.now.stack) (now c.args.run.now m))
    (weighed_value (value.Int c.in-Some-as_number.n) (now c.args.run.now m)) c.number.result c.number.new.run m c.number.ensures.settled
    (name_gives (spot c.args.here.now e c.args.run.now.stack) c.args.name.now (value.Int c.in-Some-as_number.n) (now c.args.run.now m) form
    (value_stands c.args.here.now e c.args.run.now.stack c.args.name.now c.requires.ready.places c.in-Some.i c.in-Some.ensures.place ∙ c.at.ensures
    ∙ ap Some (int_is c.at.result.now c.in-Some-as_number.n (sym c.in-Some-as_number.ensures))))
    (rw same at (c.number.ensures.flows (spot c.args.here.now e c.args.run.now.stack) m))

pub returns-in-None-as_number-clause-flows : goal.returns-in-None-as_number-clause-flows
returns-in-None-as_number-clause-flows c = λ e m form.
    flows_same (spot c.args.here.now e c.args.run.now.stack) c.args.run.now.stack (begins (spot c.args.here.now e c.args.run.now.stack) (now c.args.run.now m))
    (weighed_value c.at.result.now (now c.args.run.now m)) c.copied.result c.copied.new.run m c.copied.ensures.settled
    (name_gives (spot c.args.here.now e c.args.run.now.stack) c.args.name.now c.at.result.now (now c.args.run.now m) form
    (value_stands c.args.here.now e c.args.run.now.stack c.args.name.now c.requires.ready.places c.in-Some.i c.in-Some.ensures.place ∙ c.at.ensures))
    (c.copied.ensures.flows (spot c.args.here.now e c.args.run.now.stack) c.at.result.now m c.at.ensures)
