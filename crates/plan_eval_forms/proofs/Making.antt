-- What an operation makes of the values on the stack.
use Rattle.std.proofs.Common.{◌≡◌, ◌≢◌, ◌≤◌, ◌<◌, ℕ, zero, suc, ◌+◌, arith, List, [], ◌∷◌, ◌++◌, length, take, drop, slice_get, Some, None, refl, sym, ap, ◌∙◌, subst}
use Rattle.std.proofs.lemmas.List.{take-append-drop, length-take-le}
use Rattle.containers.proofs.Options.{none-some}
use Rattle.plan_base.specs.declared.tree.Expr.{Expr, out-Expr}
use Rattle.service_api.specs.Services.{ServiceState}
use Rattle.plan_meaning.specs.Safe.{IsSafe}
use Rattle.plan_eval_state.specs.declared.continuation.Continuation.TheVariants.{Part}
use Rattle.plan_eval_state.specs.declared.progress.Progress.{Progress}
use Rattle.plan_eval_state.specs.declared.progress.Progress.TheVariants as came
use Rattle.plan_eval_state.specs.declared.run.Run.{Run}
use Rattle.plan_eval_state.specs.Leads.{Leads}
use Rattle.plan_eval_state.specs.Forms.{IsOperation, operands}
use Rattle.plan_eval_state.specs.Spots.{Spot, means, resume}
use Rattle.plan_eval_state.specs.Laws.{makes}
use Rattle.plan_eval_state.specs.Flow.{now, Given, Spends, Lasts}
use Rattle.plan_eval_state.proofs.Flowing.{safe_inside}
use Rattle.plan_eval_state.proofs.Leading.{onward}
use Rattle.plan_eval_state.proofs.Stepping.{to_operand}
use Rattle.plan_eval_made.specs.declared.here.Here.{Here}
use Rattle.plan_eval_made.specs.Where.{spot, Ready}
use Rattle.plan_eval_made.specs.Comes.{Keeps, Comes, Continues, Evaluates, GoesOnBehind, meant_here, pending, pending_here}
use Rattle.plan_eval_made.specs.Makes.{Makes}
use Rattle.plan_eval_forms.specs.Parts.{arity, made_here, MakesOn, AllGathered}
use Rattle.plan_eval_forms.proofs.Running.{keeps_quiet, continues_led, continues_from, continues_settled}
use Rattle.plan_eval_forms.proofs.Pending.{next_leads, made_leads, gave_leads}
use Rattle.plan_eval_forms.proofs.Waiting.{BackFlows, waits_for}
use Rattle.plan_eval_forms.proofs.Wheres.{spot_drop, has_env, ready_grown, there}

-- ---- lists

pub front_more : {A : Type 0} (x : A) (xs : List A) (n : ℕ) → take (n + 1) (x ∷ xs) ≡ x ∷ take n xs
front_more x xs n = let e : n + 1 ≡ suc n = omega arith in ap (λ m. take m (x ∷ xs)) e

pub rest_more : {A : Type 0} (x : A) (xs : List A) (n : ℕ) → drop (n + 1) (x ∷ xs) ≡ drop n xs
rest_more x xs n = let e : n + 1 ≡ suc n = omega arith in ap (λ m. drop m (x ∷ xs)) e

none_behind : {A : Type 0} (xs : List A) (n : ℕ) → length xs ≤ n → slice_get xs n ≡ None
none_behind [] zero h = refl
none_behind [] (suc n) h = refl
none_behind (x ∷ xs) zero h = absurd (omega (arith, h))
none_behind (x ∷ xs) (suc n) h = none_behind xs n (omega (arith, h))

pub some_within : {A : Type 0} (xs : List A) (n : ℕ) → n < length xs → slice_get xs n ≢ None
some_within xs n h none = let t = there xs n h in none-some (sym none ∙ t.1)

-- ---- what is made at once

pub made_at_once : (here : Here) (e : Expr) (many depth : ℕ) (old : Run) (n : ServiceState) (p : Progress) (new : Run) → many ≡ arity e → many ≤ length old.stack
    → Makes (spot here e (drop many old.stack)) old p new → p ≢ came.Wait → new.state.work ≤ old.state.work → new.codes ≡ old.codes
    → MakesOn here e many depth old n p new n
made_at_once here e many depth old n p new is high makes settled falls codes =
    let s = spot here e (drop many old.stack) in
    continues_settled depth s (drop many old.stack) (made_here here e many old n) old n p new n
    (makes (take many old.stack) (drop many old.stack) n (sym (take-append-drop many old.stack)) (length-take-le many old.stack high ∙ is)) settled
    (keeps_quiet old new n falls codes)

-- ---- operands

module _ (here : Here) (e : Expr) (n : ℕ) (run : Run) (m : ServiceState) (high : n ≤ length run.stack) (form : n ≡ 0 → IsOperation (out-Expr e)) where
  held_many : length (take n run.stack) ≡ n
  held_many = length-take-le n run.stack high

  form_held : take n run.stack ≡ [] → IsOperation (out-Expr e)
  form_held none = let many : length (take n run.stack) ≡ 0 = ap length none in form (omega (arith, many, held_many))

  module _ (part : Expr) (ready : Ready here (drop n run.stack) run.codes) (is : slice_get (operands (out-Expr e)) n ≡ Some part) where
    pub operand_leads : Leads (pending_here here e n run m) (resume (spot here e (drop n run.stack)) (Part n) (take n run.stack) (meant_here here part run m))
    operand_leads =
        let s = spot here e (drop n run.stack) in
        let at : slice_get (operands (out-Expr e)) (length (take n run.stack)) ≡ Some part = subst (λ k. slice_get (operands (out-Expr e)) k ≡ Some part) (sym held_many) is in
        subst (λ (t : Spot). Leads (pending_here here e n run m) (resume s (Part n) (take n run.stack) (means t (now run m)))) (sym (spot_drop here part n run.stack run.codes ready))
        (subst (λ k. Leads (pending_here here e n run m) (resume s (Part k) (take n run.stack) (means (spot here part (drop n run.stack)) (now run m)))) held_many
        (next_leads s (now run m) (take n run.stack) part form_held at))

    pub operand_safe : IsSafe (pending_here here e n run m).asks → IsSafe (meant_here here part run m).asks
    operand_safe safe = safe_inside (spot here e (drop n run.stack)) (Part n) (take n run.stack) (meant_here here part run m) (operand_leads.safe safe)

    -- the same over the stack in two parts
    operand_comes : (depth : ℕ) (p : Progress) (mid : Run) (via : ServiceState) → Evaluates here part depth run m p mid via
        → Comes depth (spot here part (drop n run.stack)) (take n run.stack ++ drop n run.stack) (meant_here here part run m) run m p mid via
    operand_comes depth p mid via h =
        subst (λ l. Comes depth (spot here part (drop n run.stack)) l (meant_here here part run m) run m p mid via) (sym (take-append-drop n run.stack))
        (subst (λ (t : Spot). Comes depth t run.stack (meant_here here part run m) run m p mid via) (spot_drop here part n run.stack run.codes ready) h)

    pub operand_waits : (depth : ℕ) (p : Progress) (mid : Run) (via : ServiceState) (q : Progress) (new : Run) → IsSafe (pending_here here e n run m).asks
        → Evaluates here part depth run m p mid via → BackFlows (Part n) p mid q new → ((d o : ℕ) → Spends d o p mid → Lasts d o q new) → new.codes ≡ mid.codes
        → GoesOnBehind here e n depth run m q new via
    operand_waits depth p mid via q new safe h back lasts codes =
        let s = spot here e (drop n run.stack) in
        waits_for depth s (spot here part (drop n run.stack)) (Part n) (take n run.stack) (drop n run.stack) (pending_here here e n run m) (meant_here here part run m) run m p mid via
        q new safe operand_leads (to_operand mid.codes s n (take n run.stack) part held_many is) (has_env here e (drop n run.stack) run.codes ready) tt
        (operand_comes depth p mid via h) back lasts codes

    -- it gave a value
    pub operand_gives : (depth : ℕ) (mid : Run) (via : ServiceState) (g : Given run.stack (meant_here here part run m) mid (now mid via))
        → Leads (pending_here here e n run m) (pending_here here e (n + 1) mid via)
    operand_gives depth mid via g =
        let s = spot here e (drop n run.stack) in
        let held : take (n + 1) mid.stack ≡ g.v ∷ take n run.stack = ap (take (n + 1)) g.stacked ∙ front_more g.v run.stack n in
        let low : drop (n + 1) mid.stack ≡ drop n run.stack = ap (drop (n + 1)) g.stacked ∙ rest_more g.v run.stack n in
        let more : Leads (resume s (Part n) (take n run.stack) (meant_here here part run m)) (pending s (g.v ∷ take n run.stack) (now mid via)) =
        subst (λ k. Leads (resume s (Part k) (take n run.stack) (meant_here here part run m)) (pending s (g.v ∷ take n run.stack) (now mid via))) held_many
        (gave_leads s (now mid via) (take n run.stack) g.v (meant_here here part run m) g.is) in
        onward _ _ _ operand_leads
        (rw (held, low) more)

  -- no operand is left
  pub operands_end : length (operands (out-Expr e)) ≤ n → Leads (pending_here here e n run m) (made_here here e n run m)
  operands_end end =
      made_leads (spot here e (drop n run.stack)) (now run m) (take n run.stack) form_held
      (none_behind (operands (out-Expr e)) (length (take n run.stack)) (omega (arith, end, held_many)))

-- ---- the loop over operands

module _ (here : Here) (e : Expr) (many n : ℕ) (old run : Run) (from m : ServiceState) (below : drop n run.stack ≡ drop many old.stack) (keeps : Keeps old from run m)
    (ready : Ready here (drop many old.stack) old.codes) where
  pub gather_ready : Ready here (drop n run.stack) run.codes
  gather_ready = subst (λ l. Ready here l run.codes) (sym below) (ready_grown here (drop many old.stack) old.codes run.codes keeps.grown ready)

  -- an operand gave no value
  pub gather_waits : (depth : ℕ) (q : Progress) (new : Run) (to : ServiceState) → IsSafe (pending_here here e many old from).asks
      → Leads (pending_here here e many old from) (pending_here here e n run m) → GoesOnBehind here e n depth run m q new to → GoesOnBehind here e many depth old from q new to
  gather_waits depth q new to safe leads h =
      let pre = drop many old.stack in
      let at : Continues depth (spot here e pre) pre (pending_here here e n run m) run m q new to =
      subst (λ l. Continues depth (spot here e l) l (pending_here here e n run m) run m q new to) below h in
      continues_from depth (spot here e pre) pre (pending_here here e many old from) old from q new to run m keeps
      (continues_led depth (spot here e pre) pre (pending_here here e many old from) run m q new to (pending_here here e n run m) safe leads at)

-- something is made of all that was gathered
pub gathered_made : (here : Here) (e : Expr) (many depth : ℕ) (old : Run) (from : ServiceState) (mid : Run) (via : ServiceState) (p : Progress) (new : Run) (to : ServiceState)
    → IsSafe (pending_here here e many old from).asks → AllGathered here e many old from mid via → MakesOn here e (arity e) depth mid via p new to
    → GoesOnBehind here e many depth old from p new to
gathered_made here e many depth old from mid via p new to safe g h =
    let pre = drop many old.stack in
    let at : Continues depth (spot here e pre) pre (made_here here e (arity e) mid via) mid via p new to =
    subst (λ l. Continues depth (spot here e l) l (made_here here e (arity e) mid via) mid via p new to) g.below h in
    continues_from depth (spot here e pre) pre (pending_here here e many old from) old from p new to mid via g.keeps
    (continues_led depth (spot here e pre) pre (pending_here here e many old from) mid via p new to (made_here here e (arity e) mid via) safe g.leads at)
