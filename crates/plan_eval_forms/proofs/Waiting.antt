-- What an expression does with the end of one that it evaluated.
use Rattle.std.proofs.Common.{◌≡◌, ◌≢◌, ◌≤◌, ℕ, List, ◌++◌, length, Some}
use Rattle.plan_base.specs.declared.tree.Value.{Value}
use Rattle.service_api.specs.Services.{ServiceState}
use Rattle.plan_meaning.specs.Run.{RunStep}
use Rattle.plan_meaning.specs.Safe.{IsSafe}
use Rattle.plan_eval_state.specs.declared.continuation.Continuation.{Continuation}
use Rattle.plan_eval_state.specs.declared.progress.Progress.{Progress}
use Rattle.plan_eval_state.specs.declared.progress.Progress.TheVariants as came
use Rattle.plan_eval_state.specs.declared.run.Run.{Run}
use Rattle.plan_eval_state.specs.Leads.{Leads}
use Rattle.plan_eval_state.specs.Spots.{Spot, HasEnv, HasHeight, step, resume}
use Rattle.plan_eval_state.specs.Flow.{Flows, Spends, Lasts}
use Rattle.plan_eval_made.specs.Comes.{Comes, Continues}
use Rattle.plan_eval_forms.proofs.Running.{keeps_quiet, continues_led, continues_from, continues_settled, continues_back, keeps_done}

-- what `back` says of how far what waits came
abbrev pub BackFlows : Continuation → Progress → Run → Progress → Run → Type 0
BackFlows k p mid q new =
    (s next : Spot) (held pre : List Value) (inner : RunStep Value) (n : ServiceState) → step mid.codes s k held ≡ Some next → HasEnv s pre → HasHeight k (length pre)
    → Flows next (held ++ pre) inner p mid n → Flows s pre (resume s k held inner) q new n

-- what was evaluated gave no value: the whole waits for it, or stops with it
pub waits_for : (depth : ℕ) (s next : Spot) (k : Continuation) (held pre : List Value) (want inner : RunStep Value) (old : Run) (from : ServiceState) (p : Progress) (mid : Run)
    (via : ServiceState) (q : Progress) (new : Run) → IsSafe want.asks → Leads want (resume s k held inner) → step mid.codes s k held ≡ Some next → HasEnv s pre
    → HasHeight k (length pre) → Comes depth next (held ++ pre) inner old from p mid via → BackFlows k p mid q new → ((d o : ℕ) → Spends d o p mid → Lasts d o q new)
    → new.codes ≡ mid.codes → Continues depth s pre want old from q new via
waits_for depth s next k held pre want inner old from p mid via q new safe leads steps env height comes back lasts codes =
    continues_led depth s pre want old from q new via (resume s k held inner) safe leads
    (continues_back depth s next pre (held ++ pre) (resume s k held inner) inner old from p mid via q new comes
    (λ flows. back s next held pre inner via steps env height flows) lasts codes)

-- it gave a value, and the whole ends at once with what that leads to
pub gives_then : (depth : ℕ) (s next : Spot) (low pre : List Value) (want inner other : RunStep Value) (old : Run) (from : ServiceState) (mid : Run) (via : ServiceState)
    (q : Progress) (new : Run) → IsSafe want.asks → Comes depth next low inner old from came.Done mid via → Leads want other → Flows s pre other q new via → q ≢ came.Wait
    → new.state.work ≤ mid.state.work → new.codes ≡ mid.codes → Continues depth s pre want old from q new via
gives_then depth s next low pre want inner other old from mid via q new safe comes leads flows settled falls codes =
    continues_from depth s pre want old from q new via mid via (keeps_done depth next low inner old from mid via comes)
    (continues_led depth s pre want mid via q new via other safe leads
    (continues_settled depth s pre other mid via q new via flows settled (keeps_quiet mid new via falls codes)))
