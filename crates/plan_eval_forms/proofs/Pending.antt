-- How an operation goes on over the values of its operands.
use Rattle.std.proofs.Common.{◌≡◌, ◌+◌, arith, List, [], ◌∷◌, length, reverse, slice_get, Some, None, refl, sym, subst}
use Rattle.plan_base.specs.declared.tree.Expr.{Expr}
use Rattle.plan_base.specs.declared.tree.Value.{Value}
use Rattle.plan_meaning.specs.State.{VisitState}
use Rattle.plan_meaning.specs.Run.{RunStep, gave, quiet}
use Rattle.plan_eval_state.specs.declared.continuation.Continuation.TheVariants.{Part}
use Rattle.plan_eval_state.specs.Leads.{Leads}
use Rattle.plan_eval_state.specs.Forms.{IsOperation, operands}
use Rattle.plan_eval_state.specs.Spots.{Spot, layer, means, resume}
use Rattle.plan_eval_state.specs.Laws.{at_part, makes}
use Rattle.plan_eval_state.proofs.Leading.{settled}
use Rattle.plan_eval_state.proofs.Going.{resumed_along}
use Rattle.plan_eval_state.proofs.Lawful as law
use Rattle.plan_eval_made.specs.Comes.{pending}

-- the next operand is to be evaluated
pub next_leads : (s : Spot) (st : VisitState) (held : List Value) (e : Expr) → (held ≡ [] → IsOperation (layer s)) → slice_get (operands (layer s)) (length held) ≡ Some e
    → Leads (pending s held st) (resume s (Part (length held)) held (means (at_part s e) st))
next_leads s st [] e form there = law.begins_first s st e (form refl) there
next_leads s st (v ∷ held) e form there =
    let more : length held + 1 ≡ length (v ∷ held) = omega arith in
    subst (λ n. Leads (resume s (Part (length held)) held (quiet (gave v st))) (resume s (Part n) (v ∷ held) (means (at_part s e) st))) more
    (law.goes_on s st (length held) held v e (subst (λ n. slice_get (operands (layer s)) n ≡ Some e) (sym more) there))

-- no operand is left
pub made_leads : (s : Spot) (st : VisitState) (held : List Value) → (held ≡ [] → IsOperation (layer s)) → slice_get (operands (layer s)) (length held) ≡ None
    → Leads (pending s held st) (makes s (reverse held) st)
made_leads s st [] form none = law.begins_bare s st (form refl) none
made_leads s st (v ∷ held) form none =
    let more : length held + 1 ≡ length (v ∷ held) = omega arith in
    law.makes_last s st (length held) held v (subst (λ n. slice_get (operands (layer s)) n ≡ None) (sym more) none)

-- an operand gave a value
pub gave_leads : (s : Spot) (st : VisitState) (held : List Value) (v : Value) (inner : RunStep Value) → inner.after ≡ gave v st
    → Leads (resume s (Part (length held)) held inner) (pending s (v ∷ held) st)
gave_leads s st held v inner is = resumed_along s (Part (length held)) held inner (quiet (gave v st)) (settled inner (gave v st) is)
