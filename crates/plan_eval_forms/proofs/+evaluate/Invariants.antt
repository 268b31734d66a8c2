use Rattle.std.proofs.Common.{◌≡◌, ◌+◌, ◌*◌, ◌-◌, ◌≤◌, drop, length}
use Rattle.plan_base.specs.declared.tree.Expr.{out-Expr}
use Rattle.plan_eval_state.specs.Leads.{Leads}
use Rattle.plan_eval_made.specs.Comes.{Keeps, pending_here, turning_here}
use Rattle.plan_eval_forms.specs.Parts.{items_left}
use Rattle.plan_eval_forms.proofs.+evaluate.Given as goal

abbrev pub decreases-forms::evaluate : goal.decreases-forms::evaluate
decreases-forms::evaluate g l = 9 * l.depth

abbrev pub decreases-forms::last : goal.decreases-forms::last
decreases-forms::last g l = 9 * l.depth + 1

abbrev pub decreases-bodies::enter : goal.decreases-bodies::enter
decreases-bodies::enter g l = 9 * l.depth + 1

abbrev pub decreases-bodies::bound : goal.decreases-bodies::bound
decreases-bodies::bound g l = 9 * l.depth + 1

abbrev pub decreases-forms::gather : goal.decreases-forms::gather
decreases-forms::gather g l = 9 * l.depth + 1

abbrev pub decreases-bodies::call : goal.decreases-bodies::call
decreases-bodies::call g l = 9 * l.depth + 2

abbrev pub decreases-folds::step : goal.decreases-folds::step
decreases-folds::step g l = 9 * l.depth + 2

abbrev pub decreases-bodies::opened : goal.decreases-bodies::opened
decreases-bodies::opened g l = 9 * l.depth + 2

abbrev pub decreases-forms::branched : goal.decreases-forms::branched
decreases-forms::branched g l = 9 * l.depth + 2

abbrev pub decreases-tries::caught : goal.decreases-tries::caught
decreases-tries::caught g l = 9 * l.depth + 2

abbrev pub decreases-tries::attempt : goal.decreases-tries::attempt
decreases-tries::attempt g l = 9 * l.depth + 3

abbrev pub decreases-folds::fold : goal.decreases-folds::fold
decreases-folds::fold g l = 9 * l.depth + 3

abbrev pub decreases-bodies::called : goal.decreases-bodies::called
decreases-bodies::called g l = 9 * l.depth + 3

abbrev pub decreases-folds::folded : goal.decreases-folds::folded
decreases-folds::folded g l = 9 * l.depth + 4

abbrev pub decreases-forms::made : goal.decreases-forms::made
decreases-forms::made g l = 9 * l.depth + 5

abbrev pub decreases-forms::operation : goal.decreases-forms::operation
decreases-forms::operation g l = 9 * l.depth + 6

abbrev pub decreases-forms::begin : goal.decreases-forms::begin
decreases-forms::begin g l = 9 * l.depth + 8

abbrev pub invariant-forms::gather-loop-n : goal.invariant-forms::gather-loop-n
invariant-forms::gather-loop-n g l = record {
  high : l.n ≤ length l.run.stack;
  low : l.fn.from ≤ l.n;
  within : l.n ≤ l.many;
  below : drop l.n l.run.stack ≡ drop l.fn.from l.fn.run.stack;
  bare : l.run.paused ≡ l.fn.run.paused;
  leads : Leads (pending_here l.here l.e l.fn.from l.fn.run (g.S.Services.stands l.fn.svc)) (pending_here l.here l.e l.n l.run (g.S.Services.stands l.svc));
  keeps : Keeps l.fn.run (g.S.Services.stands l.fn.svc) l.run (g.S.Services.stands l.svc);
}

abbrev pub decreases-forms::gather-loop-n : goal.decreases-forms::gather-loop-n
decreases-forms::gather-loop-n g l = l.many - l.n

abbrev pub invariant-folds::fold-loop-run : goal.invariant-folds::fold-loop-run
invariant-folds::fold-loop-run g l = record {
  high : 3 ≤ length l.run.stack;
  below : drop 3 l.run.stack ≡ drop 3 l.fn.run.stack;
  bare : l.run.paused ≡ l.fn.run.paused;
  leads : Leads (turning_here l.here l.e l.fn.run (g.S.Services.stands l.fn.svc)) (turning_here l.here l.e l.run (g.S.Services.stands l.svc));
  keeps : Keeps l.fn.run (g.S.Services.stands l.fn.svc) l.run (g.S.Services.stands l.svc);
}

abbrev pub decreases-folds::fold-loop-run : goal.decreases-folds::fold-loop-run
decreases-folds::fold-loop-run g l = length (items_left (out-Expr l.e) l.run.stack)

abbrev pub decreases-forms::binary : goal.decreases-forms::binary
decreases-forms::binary g l = 9 * l.depth + 7
