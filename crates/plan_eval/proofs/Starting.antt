-- How a visit starts and ends, over plain variables.
use Rattle.std.proofs.Common.{◌≡◌, ◌≢◌, ℕ, List, [], ◌∷◌, ◌++◌, length, map, min, reverse, slice_get, Some, None, Result, Ok, refl, sym, ap, ◌∙◌, subst, arith, append-nil}
use Rattle.containers.proofs.Options.{some-same}
use Rattle.plan_base.specs.declared.tree.Chunk.{Chunk}
use Rattle.plan_base.specs.declared.tree.Fun.{Fun}
use Rattle.plan_base.specs.declared.tree.Param.{Param}
use Rattle.plan_base.specs.declared.tree.Program.{Program}
use Rattle.plan_base.specs.declared.tree.Value.{Value}
use Rattle.plan_base.specs.Sizes.{code_size}
use Rattle.plan_types_spec.specs.TypingNames.{place_of}
use Rattle.service_api.specs.Services.{ServiceState}
use Rattle.plan_meaning.specs.declared.stop.EvalStop.{EvalStop}
use Rattle.plan_meaning.specs.declared.stop.EvalStop.TheVariants.{Wrong}
use Rattle.plan_meaning.specs.State.{VisitState}
use Rattle.plan_meaning.specs.Run.{RunStep, stopped}
use Rattle.plan_meaning.specs.Meaning.{Env, binds, bound, bound_behind, meaning, visited_chunk, entered_function}
use Rattle.plan_meaning.specs.Safe.{IsSafe}
use Rattle.visit_state.specs.Meets.{Meets}
use Rattle.plan_eval_state.specs.declared.continuation.Activation.{Activation}
use Rattle.plan_eval_state.specs.declared.continuation.Continuation.TheVariants as waits
use Rattle.plan_eval_state.specs.declared.progress.Progress.{Progress}
use Rattle.plan_eval_state.specs.declared.progress.Progress.TheVariants as came
use Rattle.plan_eval_state.specs.declared.run.Run.{Run}
use Rattle.plan_eval_state.specs.Leads.{Leads}
use Rattle.plan_eval_state.specs.Spots.{Spot, means, IsOpen, HasEnv, counted, body_under, body_with, body_in}
use Rattle.plan_eval_state.specs.Flow.{now, Given, Flows}
use Rattle.plan_eval_state.specs.Loop.{Runs, bare, body_site, fun_site}
use Rattle.plan_eval_state.proofs.Forming.{enters}
use Rattle.plan_eval_state.proofs.Leading.{itself}
use Rattle.plan_eval_state.proofs.Looping.{as_runs}
use Rattle.plan_eval_state.proofs.Stepping.{step_sees, step_walked, to_chunk}
use Rattle.plan_eval_made.specs.declared.here.Here.{Here}
use Rattle.plan_eval_made.specs.Where.{spot, site, IsHere, Ready}
use Rattle.plan_eval_made.specs.Comes.{Grows}
use Rattle.plan_eval.specs.Start.{IsStart, IsEntry}
use Rattle.plan_eval.specs.Turns.{Begins, Ends, Going}
use Rattle.plan_eval_made.proofs.Standing.{spot_is, sees_is}
use Rattle.plan_eval.proofs.Turning.{begins_on, open_grown}

-- ---- parameters and arguments

pub record Bound (ps : List Param) (vs : List Value) : Type 0 where
  pub env : Env
  pub is : bound ps vs ≡ Some env

bound_many : (done : Env) (ps : List Param) (vs : List Value) → length ps ≡ length vs → (env : Env) × (bound_behind done ps vs ≡ Some env)
bound_many done [] [] same = (done, refl)
bound_many done (p ∷ ps) (v ∷ vs) same = bound_many (done ++ binds p.name v ∷ []) ps vs (omega (arith, same))
bound_many done [] (v ∷ vs) same = absurd (omega (arith, same))
bound_many done (p ∷ ps) [] same = absurd (omega (arith, same))

pub bound_is : (ps : List Param) (vs : List Value) → length ps ≡ length vs → Bound ps vs
unfolding bound
bound_is ps vs same = let b = bound_many [] ps vs same in record { env = b.0; is = b.1 }

bound_other : (done : Env) (ps : List Param) (vs : List Value) → length ps ≢ length vs → bound_behind done ps vs ≡ None
bound_other done [] [] other = absurd (other refl)
bound_other done (p ∷ ps) (v ∷ vs) other = bound_other (done ++ binds p.name v ∷ []) ps vs (λ same. other (omega (arith, same)))
bound_other done [] (v ∷ vs) other = refl
bound_other done (p ∷ ps) [] other = refl

pub bound_none : (ps : List Param) (vs : List Value) → length ps ≢ length vs → bound ps vs ≡ None
unfolding bound
bound_none ps vs other = bound_other [] ps vs other

-- ---- a chunk that can't be entered

module _ (k : Chunk) (st : VisitState) where
  pub nowhere : place_of k.entry k.code.funs ≡ None → (visited_chunk meaning k st).after ≡ stopped Wrong st
  unfolding visited_chunk
  nowhere none = rw none refl

  pub no_function : (fun : ℕ) → place_of k.entry k.code.funs ≡ Some fun → slice_get k.code.funs fun ≡ None → (visited_chunk meaning k st).after ≡ stopped Wrong st
  unfolding visited_chunk entered_function
  no_function fun place none = rw (place, none) refl

  pub not_so_many : (fun : ℕ) (f : Fun) → place_of k.entry k.code.funs ≡ Some fun → slice_get k.code.funs fun ≡ Some f → length f.params ≢ length k.args
      → (visited_chunk meaning k st).after ≡ stopped Wrong st
  unfolding visited_chunk entered_function
  not_so_many fun f place there other = rw (place, there, bound_none f.params k.args other) refl

-- ---- one that is entered

abbrev pub first_of : ℕ → Activation
first_of fun = record { number = 0; fun = fun; base = 0 }

-- its body
pub record First (k : Chunk) (fun : ℕ) (f : Fun) : Type 0 where
  pub at : Spot
  pub body : body_in (Some k.code) (first_of fun) k.args ≡ Some at
  pub opened : IsOpen (k.code ∷ []) at
  pub env : HasEnv at (reverse k.args)
  pub begins : body_site (first_of fun) (Some k.code) ≡ Some (bare at)
  pub site : bare at ≡ record { number = 0; fun = fun; names = map (λ p. p.name) f.params; places = counted 0 f.params; expr = f.body }

module _ (k : Chunk) (fun : ℕ) (f : Fun) (there : slice_get k.code.funs fun ≡ Some f) (many : length f.params ≡ length k.args) where
  abbrev b : Bound f.params k.args
  b = bound_is f.params k.args many

  abbrev at : Spot
  at = record { code = k.code; number = 0; fun = fun; env = b.env; places = counted 0 k.args; expr = f.body }

  -- a spot of the same program that sees nothing
  abbrev outside : Spot
  outside = record { code = k.code; number = 0; fun = 0; env = []; places = []; expr = f.body }

  body_of : body_in (Some k.code) (first_of fun) k.args ≡ Some at
  body_of = ap (body_with k.code (first_of fun) k.args) there ∙ ap (body_under k.code (first_of fun) f k.args) b.is

  pub first_is : First k fun f
  first_is =
      let steps = to_chunk (k.code ∷ []) outside (first_of fun) k.code k.args at refl body_of in
      let walks = step_walked (k.code ∷ []) outside (waits.Chunk (first_of fun)) (reverse k.args) at steps refl in
      let sees = step_sees (k.code ∷ []) outside (waits.Chunk (first_of fun)) (reverse k.args) [] at steps tt refl in
      record {
        at = at;
        body = body_of;
        opened = refl;
        env = subst (HasEnv at) (append-nil (reverse k.args)) sees;
        begins = walks;
        site = some-same (sym walks ∙ ap (fun_site (first_of fun)) there);
      }

-- what the chunk means is what its body does
pub visited_on : (k : Chunk) (fun : ℕ) (f : Fun) (b : First k fun f) (st : VisitState) → place_of k.entry k.code.funs ≡ Some fun → Leads (visited_chunk meaning k st) (means b.at st)
unfolding visited_chunk
visited_on k fun f b st place = rw place (enters k.code (first_of fun) k.args b.at st b.body)

-- the loop begins
pub started : (s : Spot) (p : Progress) (pre : List Value) (want : RunStep Value) (run : Run) (n : ServiceState) → IsOpen run.codes s → HasEnv s pre → Flows s pre want p run n
    → Runs s pre want [] p run n
started s p pre want run n opened env h =
    as_runs s pre want [] p run n (record { at = s; low = pre; want = want; stands = (refl, refl, itself want); opened = opened; env = env; flows = h })

-- what leads to what ended so ended so
pub ends_led : (pre : List Value) (want other : RunStep Value) (p : Progress) (run : Run) (n : ServiceState) → IsSafe want.asks → Leads want other → Ends pre other p run n
    → Ends pre want p run n
ends_led pre want other came.Done run n safe l h = record { v = h.v; is = l.same safe ∙ h.is; stacked = h.stacked; none = h.none }
ends_led pre want other came.Wait run n safe l h = absurd h
ends_led pre want other came.Raised run n safe l h = record { exn = h.exn; junk = h.junk; is = l.same safe ∙ h.is; kept = h.kept; stacked = h.stacked; none = h.none }
ends_led pre want other came.Spent run n safe l h = l.same safe ∙ h
ends_led pre want other came.Wrong run n safe l h = l.same safe ∙ h
ends_led pre want other came.NoMemory run n safe l h = tt

-- what the code sees of it
pub record Entering (k : Chunk) (run : Run) (here : Here) (n : ServiceState) : Type 0 where
  pub at : First k here.fun here.function.now
  pub leads : Leads (visited_chunk meaning k (now run n)) (means at.at (now run n))
  pub is : spot here here.function.now.body run.stack ≡ at.at
  pub ready : Ready here run.stack run.codes
  pub opened : IsOpen run.codes at.at

pub entering : (k : Chunk) (run : Run) (here : Here) (n : ServiceState) → IsStart k run.state run → IsEntry k here → Entering k run here n
entering k run here n start e =
    let f = here.function.now in
    let first = first_is k here.fun f e.function e.many in
    let codes : slice_get run.codes 0 ≡ Some k.code = ap (λ (l : List Program). slice_get l 0) start.codes in
    let opened : IsOpen run.codes first.at = subst (λ (l : List Program). IsOpen l first.at) (sym start.codes) first.opened in
    let env : HasEnv first.at run.stack = subst (HasEnv first.at) (sym start.stack) first.env in
    let place : IsHere run.codes here = record {
      program = ap (slice_get run.codes) e.number ∙ codes ∙ ap Some (sym e.code);
      size = e.size ∙ ap (λ (p : Program). min (code_size p) 18446744073709551615) (sym e.code);
      function = ap (λ (p : Program). slice_get p.funs here.fun) e.code ∙ e.function;
    } in
    let same : bare first.at ≡ site here f.body = rw (e.number, e.base, e.bindings, append-nil (map (λ p. p.name) f.params), append-nil (counted 0 f.params)) first.site in
    record {
      at = first;
      leads = visited_on k here.fun f first (now run n) e.place;
      is = spot_is here f.body first.at run.codes run.stack same opened place env;
      ready = sees_is here f.body first.at run.codes run.stack same place env;
      opened = opened;
    }

module _ (k : Chunk) (run : Run) (here : Here) (n : ServiceState) (start : IsStart k run.state run) (entry : IsEntry k here) where
  abbrev entered : Entering k run here n
  entered = entering k run here n start entry

  pub enters_ready : Ready here run.stack run.codes
  enters_ready = entered.ready

  -- it asks nothing amiss
  pub enters_safe : IsSafe (visited_chunk meaning k (now run n)).asks → IsSafe (means (spot here here.function.now.body run.stack) (now run n)).asks
  enters_safe safe = subst (λ (t : Spot). IsSafe (means t (now run n)).asks) (sym entered.is) (entered.leads.safe safe)

  -- the loop begins where it came
  module _ (p : Progress) (new : Run) (m : ServiceState) (grown : Grows run.codes new.codes)
      (flows : Flows (spot here here.function.now.body run.stack) run.stack (means (spot here here.function.now.body run.stack) (now run n)) p new m) where
    enters_begins : Begins (first_of here.fun) entered.at.at run.codes
    enters_begins = ap (body_site (first_of here.fun)) (ap (λ (l : List Program). slice_get l 0) start.codes) ∙ entered.at.begins

    enters_runs : Runs entered.at.at run.stack (means entered.at.at (now run n)) [] p new m
    enters_runs =
        started entered.at.at p run.stack (means entered.at.at (now run n)) new m (open_grown run.codes new.codes entered.at.at grown entered.opened)
        (subst (HasEnv entered.at.at) (sym start.stack) entered.at.env) (subst (λ (t : Spot). Flows t run.stack (means t (now run n)) p new m) entered.is flows)

    pub enters_going : IsSafe (visited_chunk meaning k (now run n)).asks → Going (first_of here.fun) [] p new m
    enters_going safe = record {
      first = entered.at.at;
      pre = run.stack;
      top = means entered.at.at (now run n);
      begins = begins_on run.codes new.codes (first_of here.fun) entered.at.at grown enters_begins;
      safe = entered.leads.safe safe;
      runs = enters_runs;
    }

    -- and as it ends, the chunk does
    pub enters_ends : (q : Progress) (last : Run) (z : ServiceState) → IsSafe (visited_chunk meaning k (now run n)).asks
        → ((s : Spot) (pre : List Value) (top : RunStep Value) → Begins (first_of here.fun) s new.codes → IsSafe top.asks → Runs s pre top [] p new m → Ends pre top q last z)
        → Ends run.stack (visited_chunk meaning k (now run n)) q last z
    enters_ends q last z safe ends =
        ends_led run.stack (visited_chunk meaning k (now run n)) (means entered.at.at (now run n)) q last z safe entered.leads
        (ends entered.at.at run.stack (means entered.at.at (now run n)) (begins_on run.codes new.codes (first_of here.fun) entered.at.at grown enters_begins) (entered.leads.safe safe) enters_runs)

-- ---- the end

-- the last value is the one that was given
pub took : (p : Progress) (run : Run) (pre : List Value) (want : RunStep Value) (n : ServiceState) (given : Result Value EvalStop) → p ≡ came.Done → Ends pre want p run n
    → ((v : Value) (low : List Value) → run.stack ≡ v ∷ low → given ≡ Ok v) → Meets want given (now run n)
took p run pre want n given is h last =
    let g : Given pre want run (now run n) = subst (λ q. Ends pre want q run n) is h in
    rw (last g.v pre g.stacked) g.is
