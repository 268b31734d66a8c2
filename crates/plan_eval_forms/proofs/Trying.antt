-- How a `try` goes on.
use Rattle.std.proofs.Common.{◌≡◌, ◌≢◌, ◌≤◌, ℕ, ◌-◌, arith, List, [], ◌∷◌, ◌++◌, length, map, take, drop, slice_get, Some, None, refl, sym, ap, ◌∙◌, subst}
use Rattle.std.proofs.lemmas.List.{take-append-drop, length-append, length-drop, drop_at}
use Rattle.containers.proofs.Options.{none-some}
use Rattle.plan_base.specs.declared.tree.Exn.{Exn}
use Rattle.plan_base.specs.declared.tree.Expr.{Expr, Expr-F, out-Expr}
use Rattle.plan_base.specs.declared.tree.Value.{Value}
use Rattle.plan_base.specs.Trees.{ExprLayer}
use Rattle.service_api.specs.Services.{ServiceState}
use Rattle.plan_meaning.specs.declared.stop.EvalStop.TheVariants.{Raised}
use Rattle.plan_meaning.specs.State.{VisitState}
use Rattle.plan_meaning.specs.Run.{RunStep, Run as Runs, gave, stopped, quiet, and_then, otherwise, rescued_step, weighed_value}
use Rattle.plan_meaning.specs.Safe.{IsSafe}
use Rattle.plan_eval_state.specs.declared.continuation.Continuation.TheVariants.{Last, Try}
use Rattle.plan_eval_state.specs.declared.progress.Progress.{Progress}
use Rattle.plan_eval_state.specs.declared.progress.Progress.TheVariants as came
use Rattle.plan_eval_state.specs.declared.run.Run.{Run}
use Rattle.plan_eval_state.specs.Leads.{Leads}
use Rattle.plan_eval_state.specs.Forms.{branches, tried, clauses, clause_for, handled}
use Rattle.plan_eval_state.specs.Spots.{Spot, layer, means, resume}
use Rattle.plan_eval_state.specs.Laws.{at_part}
use Rattle.plan_eval_state.specs.Flow.{now, Thrown, Flows, Spends, Lasts}
use Rattle.plan_eval_state.proofs.Flowing.{safe_inside}
use Rattle.plan_eval_state.proofs.Going.{resumed_along}
use Rattle.plan_eval_state.proofs.Leading.{onward, settled, gave_on}
use Rattle.plan_eval_state.proofs.Stepping.{to_tried}
use Rattle.plan_eval_state.proofs.Lawful as law
use Rattle.plan_eval_made.specs.declared.here.Here.{Here}
use Rattle.plan_eval_made.specs.Where.{spot, lowest, Ready}
use Rattle.plan_eval_made.specs.Comes.{Keeps, Continues, Evaluates, TakesUp, meant_here, rescues, rescued_here}
use Rattle.plan_eval_forms.specs.Parts.{begun_here, Begins, branch_here, TakesBranch}
use Rattle.plan_eval_forms.proofs.Running.{continues_led, continues_from, continues_settled, keeps_quiet, keeps_itself}
use Rattle.plan_eval_forms.proofs.Waiting.{BackFlows, waits_for, gives_then}
use Rattle.plan_eval_forms.proofs.Wheres.{has_env, ready_grown}
use Rattle.plan_eval_forms.proofs.Branching.{le_same}

-- ---- an exception was raised

-- the branches of a `try` are the bodies of its clauses
bodies_are : (l : ExprLayer) (x : Exn) (n : ℕ) (part : Expr) → clause_for (clauses l) x ≡ Some n → slice_get (branches l) n ≡ Some part
    → slice_get (map (λ k. k.body) (clauses l)) n ≡ Some part
bodies_are (Expr-F.Try a ks) x n part is there = there
bodies_are _ x n part is there = absurd (none-some is)

module _ (here : Here) (e : Expr) (height depth : ℕ) (run : Run) (m : ServiceState) (x : Exn) (raised : run.raised ≡ Some x) (safe : IsSafe (rescued_here here e height run m).asks) where
  rescued_is : rescues (spot here e (lowest height run.stack)) height (Some x) (now run m) ≡ rescued_here here e height run m
  rescued_is = ap (λ o. rescues (spot here e (lowest height run.stack)) height o (now run m)) (sym raised)

  module _ (n : ℕ) (part : Expr) (is : clause_for (clauses (out-Expr e)) x ≡ Some n) (there : slice_get (branches (out-Expr e)) n ≡ Some part) (mid : Run)
      (low : mid.stack ≡ lowest height run.stack) (state : mid.state ≡ run.state) (codes : mid.codes ≡ run.codes) where
    caught_leads : Leads (rescued_here here e height run m) (branch_here here e n part mid m)
    caught_leads =
        let s = spot here e (lowest height run.stack) in
        let one : Leads (rescues s height (Some x) (now run m)) (resume s (Last n) [] (means (at_part s part) (now run m))) =
        law.catches s (now run m) height (quiet (stopped (Raised x) (now run m))) x n part refl is (bodies_are (out-Expr e) x n part is there) in
        subst (λ r. Leads r (branch_here here e n part mid m)) rescued_is (rw (low, state) one)

    pub caught_safe : IsSafe (branch_here here e n part mid m).asks
    caught_safe = caught_leads.safe safe

    pub caught_last : (p : Progress) (new : Run) (to : ServiceState) → TakesBranch here e n part depth mid m p new to → TakesUp here e height depth run m p new to
    caught_last p new to h =
        let pre = lowest height run.stack in
        let s = spot here e pre in
        let at : Continues depth s pre (branch_here here e n part mid m) mid m p new to =
        subst (λ l. Continues depth (spot here e l) l (branch_here here e n part mid m) mid m p new to) low h in
        continues_from depth s pre (rescued_here here e height run m) run m p new to mid m (keeps_quiet run mid m (le_same _ _ (ap (λ o. o.work) state)) codes)
        (continues_led depth s pre (rescued_here here e height run m) mid m p new to (branch_here here e n part mid m) safe caught_leads at)

  -- no clause catches it
  pub caught_none : clause_for (clauses (out-Expr e)) x ≡ None → run.paused ≡ [] → TakesUp here e height depth run m came.Raised run m
  caught_none none bare =
      let pre = lowest height run.stack in
      let s = spot here e pre in
      let thrown : Thrown pre (rescued_here here e height run m) run (now run m) =
      record {
        exn = x;
        junk = take (length run.stack - height) run.stack;
        is = subst (λ r. r.after ≡ stopped (Raised x) (now run m)) rescued_is (law.catches_none s (now run m) height (quiet (stopped (Raised x) (now run m))) x refl none);
        kept = raised;
        stacked = sym (take-append-drop (length run.stack - height) run.stack);
        none = bare;
      } in
      continues_settled depth s pre (rescued_here here e height run m) run m came.Raised run m thrown (λ w. cc) (keeps_itself run m)

-- the stack is cut to what stood there
pub cut_low : (height : ℕ) (stack new : List Value) → height ≤ length stack → ((junk pre : List Value) → stack ≡ junk ++ pre → height ≡ length pre → new ≡ pre)
    → new ≡ lowest height stack
cut_low height stack new high cut =
    cut (take (length stack - height) stack) (lowest height stack) (sym (take-append-drop (length stack - height) stack)) (omega (arith, high, length-drop (length stack - height) stack))

-- ---- the expression of a `try`

gave_rescued : (r : RunStep Value) (f : Exn → Runs Value) (v : Value) (st : VisitState) → r.after ≡ gave v st → Leads (and_then (rescued_step r f) weighed_value) (weighed_value v st)
gave_rescued r f v st is = gave_on (rescued_step r f) v st weighed_value (ap (λ a. (otherwise a f).after) is)

module _ (here : Here) (e a : Expr) (height depth : ℕ) (run : Run) (m : ServiceState) (form : tried (out-Expr e) ≡ Some a) (high : height ≡ length run.stack)
    (ready : Ready here run.stack run.codes) (safe : IsSafe (begun_here here e run m).asks) where
  attempt_leads : Leads (begun_here here e run m) (resume (spot here e run.stack) (Try height) [] (meant_here here a run m))
  attempt_leads = law.tries (spot here e run.stack) (now run m) height a form

  pub attempt_safe : IsSafe (meant_here here a run m).asks
  attempt_safe = safe_inside (spot here e run.stack) (Try height) [] (meant_here here a run m) (attempt_leads.safe safe)

  pub attempt_gives : (mid : Run) (via : ServiceState) (q : Progress) (new : Run) → Evaluates here a depth run m came.Done mid via
      → ((s : Spot) (v : Value) (pre : List Value) (n : ServiceState) → mid.stack ≡ v ∷ pre → Flows s pre (weighed_value v (now mid n)) q new n) → q ≢ came.Wait
      → new.state.work ≤ mid.state.work → new.codes ≡ mid.codes → Begins here e depth run m q new via
  attempt_gives mid via q new h ends settled falls codes =
      let s = spot here e run.stack in
      let g = h.flows in
      gives_then depth s (spot here a run.stack) run.stack run.stack (begun_here here e run m) (meant_here here a run m) (weighed_value g.v (now mid via)) run m mid via q new safe h
      (onward _ _ _ attempt_leads (gave_rescued (meant_here here a run m) (handled s.code s.fun s.env (layer s)) g.v (now mid via) g.is)) (ends s g.v run.stack via g.stacked) settled falls codes

  pub attempt_waits : (p : Progress) (mid : Run) (via : ServiceState) (q : Progress) (new : Run) → Evaluates here a depth run m p mid via → BackFlows (Try height) p mid q new
      → ((d o : ℕ) → Spends d o p mid → Lasts d o q new) → new.codes ≡ mid.codes → Begins here e depth run m q new via
  attempt_waits p mid via q new h back lasts codes =
      let s = spot here e run.stack in
      waits_for depth s (spot here a run.stack) (Try height) [] run.stack (begun_here here e run m) (meant_here here a run m) run m p mid via q new safe attempt_leads
      (to_tried mid.codes s height a form) (has_env here e run.stack run.codes ready) high h back lasts codes

  -- it raised an exception
  module _ (mid : Run) (via : ServiceState) (h : Evaluates here a depth run m came.Raised mid via) where
    raised_low : lowest height mid.stack ≡ run.stack
    raised_low =
        let t = h.flows in
        let many : length t.junk ≡ length mid.stack - height = omega (arith, high, ap length t.stacked, length-append t.junk run.stack) in
        ap (drop (length mid.stack - height)) t.stacked ∙ drop_at t.junk run.stack (length mid.stack - height) many

    raised_leads : Leads (begun_here here e run m) (rescued_here here e height mid via)
    raised_leads =
        let t = h.flows in
        let s = spot here e run.stack in
        let one : Leads (begun_here here e run m) (rescues s height (Some t.exn) (now mid via)) =
        onward _ _ _ attempt_leads
        (resumed_along s (Try height) [] (meant_here here a run m) (quiet (stopped (Raised t.exn) (now mid via))) (settled (meant_here here a run m) (stopped (Raised t.exn) (now mid via)) t.is)) in
        subst (λ l. Leads (begun_here here e run m) (rescues (spot here e l) height mid.raised (now mid via))) (sym raised_low)
        (subst (λ o. Leads (begun_here here e run m) (rescues s height o (now mid via))) (sym t.kept) one)

    pub raised_ready : Ready here (lowest height mid.stack) mid.codes
    raised_ready = subst (λ l. Ready here l mid.codes) (sym raised_low) (ready_grown here run.stack run.codes mid.codes h.grown ready)

    pub raised_high : height ≤ length mid.stack
    raised_high = let t = h.flows in omega (arith, high, ap length t.stacked, length-append t.junk run.stack)

    pub raised_safe : IsSafe (rescued_here here e height mid via).asks
    raised_safe = raised_leads.safe safe

    raised_keeps : Keeps run m mid via
    raised_keeps = record { falls = h.spends; grown = h.grown; offer = h.offer; begun = h.begun }

    pub raised_on : (q : Progress) (new : Run) (to : ServiceState) → TakesUp here e height depth mid via q new to → Begins here e depth run m q new to
    raised_on q new to k =
        let s = spot here e run.stack in
        let at : Continues depth s run.stack (rescued_here here e height mid via) mid via q new to =
        subst (λ l. Continues depth (spot here e l) l (rescued_here here e height mid via) mid via q new to) raised_low k in
        continues_from depth s run.stack (begun_here here e run m) run m q new to mid via raised_keeps
        (continues_led depth s run.stack (begun_here here e run m) mid via q new to (rescued_here here e height mid via) safe raised_leads at)
