-- Operators of numbers that are at hand.
use Rattle.std.proofs.Common.{◌≡◌, ◌≢◌, ◌≤◌, ℕ, ℤ, arith, List, [], ◌∷◌, slice_get, Some, refl, sym, subst}
use Rattle.plan_base.specs.declared.tree.Expr.{Expr, Expr-F, out-Expr}
use Rattle.plan_base.specs.declared.tree.Op.{Op}
use Rattle.plan_base.specs.declared.tree.Value.{Value}
use Rattle.service_api.specs.Services.{ServiceState}
use Rattle.plan_meaning.specs.Safe.{IsSafe}
use Rattle.plan_eval_state.specs.declared.continuation.Continuation.TheVariants.{Part}
use Rattle.plan_eval_state.specs.declared.progress.Progress.{Progress}
use Rattle.plan_eval_state.specs.declared.progress.Progress.TheVariants as came
use Rattle.plan_eval_state.specs.declared.run.Run.{Run}
use Rattle.plan_eval_state.specs.Leads.{Leads}
use Rattle.plan_eval_state.specs.Forms.{IsOperation, operands}
use Rattle.plan_eval_state.specs.Spots.{Spot, layer, begins}
use Rattle.plan_eval_state.specs.Laws.{at_part}
use Rattle.plan_eval_state.specs.Flow.{now, Flows, Spends, Lasts}
use Rattle.plan_eval_state.proofs.Leading.{onward}
use Rattle.plan_eval_made.specs.declared.here.Here.{Here}
use Rattle.plan_eval_made.specs.Where.{spot, Ready}
use Rattle.plan_eval_made.specs.Comes.{Evaluates, meant_here, pending}
use Rattle.plan_eval_made.specs.Makes.{IsNumber}
use Rattle.plan_eval_forms.specs.Parts.{begun_here, Begins}
use Rattle.plan_eval_forms.proofs.Beginning.{leaf_begins}
use Rattle.plan_eval_forms.proofs.Making.{operand_leads, operand_safe, operand_waits}
use Rattle.plan_eval_forms.proofs.Pending.{gave_leads}
use Rattle.plan_eval_forms.proofs.Waiting.{BackFlows, gives_then}

module _ (here : Here) (e a b : Expr) (o : Op) (depth : ℕ) (run : Run) (m : ServiceState) (form : out-Expr e ≡ Expr-F.Binary o a b) (ready : Ready here run.stack run.codes)
    (safe : IsSafe (begun_here here e run m).asks) where
  -- both numbers are at hand
  pub numbers_begin : (x y i j : ℤ) → IsNumber (spot here a run.stack) x → IsNumber (spot here b run.stack) y → i ≡ x → j ≡ y → (p : Progress) (new : Run)
      → ((s : Spot) (a b : Expr) (k : ServiceState) → layer s ≡ Expr-F.Binary o a b → IsSafe (begins s (now run k)).asks → IsNumber (at_part s a) i → IsNumber (at_part s b) j
      → Flows s run.stack (begins s (now run k)) p new k) → p ≢ came.Wait → new.state.work ≤ run.state.work → new.codes ≡ run.codes → Begins here e depth run m p new m
  numbers_begin x y i j first second one two p new flows settled falls codes =
      leaf_begins here e depth run m p new
      (flows (spot here e run.stack) a b m form safe (subst (IsNumber (spot here a run.stack)) (sym one) first) (subst (IsNumber (spot here b run.stack)) (sym two) second)) settled falls codes

  is_operation : ◌≡◌ {A = ℕ} 0 0 → IsOperation (out-Expr e)
  is_operation z = rw form tt

  is_first : slice_get (operands (out-Expr e)) 0 ≡ Some a
  is_first = rw form refl

  pub first_safe : IsSafe (meant_here here a run m).asks
  first_safe = operand_safe here e 0 run m (omega arith) is_operation a ready is_first safe

  -- the second one is, behind the first operand
  pub first_gives : (y j : ℤ) → IsNumber (spot here b run.stack) y → j ≡ y → (mid : Run) (via : ServiceState) (p : Progress) (new : Run) → Evaluates here a depth run m came.Done mid via
      → ((s : Spot) (a b : Expr) (v : Value) (pre : List Value) (k : ServiceState) → layer s ≡ Expr-F.Binary o a b → mid.stack ≡ v ∷ pre → IsNumber (at_part s b) j
      → IsSafe (pending s (v ∷ []) (now mid k)).asks → Flows s pre (pending s (v ∷ []) (now mid k)) p new k) → p ≢ came.Wait → new.state.work ≤ mid.state.work → new.codes ≡ mid.codes
      → Begins here e depth run m p new via
  first_gives y j second two mid via p new h flows settled falls codes =
      let s = spot here e run.stack in
      let g = h.flows in
      let leads : Leads (begun_here here e run m) (pending s (g.v ∷ []) (now mid via)) =
      onward _ _ _ (operand_leads here e 0 run m (omega arith) is_operation a ready is_first) (gave_leads s (now mid via) [] g.v (meant_here here a run m) g.is) in
      gives_then depth s (spot here a run.stack) run.stack run.stack (begun_here here e run m) (meant_here here a run m) (pending s (g.v ∷ []) (now mid via)) run m mid via p new safe h leads
      (flows s a b g.v run.stack via form g.stacked (subst (IsNumber (spot here b run.stack)) (sym two) second) (leads.safe safe)) settled falls codes

  -- the first operand gave no value
  pub first_waits : (p : Progress) (mid : Run) (via : ServiceState) (q : Progress) (new : Run) → Evaluates here a depth run m p mid via → BackFlows (Part 0) p mid q new
      → ((d o : ℕ) → Spends d o p mid → Lasts d o q new) → new.codes ≡ mid.codes → Begins here e depth run m q new via
  first_waits p mid via q new h back lasts codes =
      operand_waits here e 0 run m (omega arith) is_operation a ready is_first depth p mid via q new safe h back lasts codes
