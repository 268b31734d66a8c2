-- What a turn of a visit leads to, over plain variables.
use Rattle.std.proofs.Common.{◌≡◌, ◌≢◌, ℕ, zero, suc, ◌+◌, ◌-◌, ◌<◌, ◌≤◌, List, [], ◌∷◌, ◌++◌, length, take, drop, slice_get, Option, Some, None, refl, sym, ap, ◌∙◌, subst, arith, append-nil, length-append}
use Rattle.containers.proofs.Options.{none-some}
use Rattle.plan_base.specs.declared.tree.Exn.{Exn}
use Rattle.plan_base.specs.declared.tree.Expr.{Expr}
use Rattle.plan_base.specs.declared.tree.Program.{Program}
use Rattle.plan_base.specs.declared.tree.Value.{Value}
use Rattle.plan_base.specs.declared.tree.Value as value
use Rattle.service_api.specs.Services.{ServiceState}
use Rattle.plan_meaning.specs.declared.stop.EvalStop.TheVariants.{Raised, WorkSpent, Wrong}
use Rattle.plan_meaning.specs.State.{VisitState, Own}
use Rattle.plan_meaning.specs.Run.{RunStep, gave, stopped, quiet, and_then, otherwise, rescued_step, pure, ◌>>=◌, weighed_value}
use Rattle.plan_meaning.specs.Safe.{IsSafe}
use Rattle.plan_eval_state.specs.declared.continuation.Activation.{Activation}
use Rattle.plan_eval_state.specs.declared.continuation.Continuation.{Continuation}
use Rattle.plan_eval_state.specs.declared.continuation.Continuation.TheVariants.{Part, Last, Try, Bound, Call, Step, Chunk}
use Rattle.plan_eval_state.specs.declared.progress.Progress.{Progress}
use Rattle.plan_eval_state.specs.declared.progress.Progress.TheVariants as came
use Rattle.plan_eval_state.specs.declared.run.Run.{Run}
use Rattle.plan_eval_state.specs.Leads.{Leads}
use Rattle.plan_eval_state.specs.Forms.{operands, handled}
use Rattle.plan_eval_state.specs.Spots.{Spot, layer, means, IsOpen, HasEnv, after_step, beside, step, resume}
use Rattle.plan_eval_state.specs.Flow.{now, Flows, PassesBy, Spends, Lasts}
use Rattle.plan_eval_state.specs.Loop.{onto, Stands, Holds, Runs, Begun, bare, body_site, load}
use Rattle.plan_eval_state.proofs.Bottoms.{kept_in}
use Rattle.plan_eval_state.proofs.Counting.{wake_less, go_less, settled_lasts}
use Rattle.plan_eval_state.proofs.Flowing.{flows_led, spent_passes, wrong_passes}
use Rattle.plan_eval_state.proofs.Going.{resumed_along}
use Rattle.plan_eval_state.proofs.Leading.{onward, settled, given_on, gave_on}
use Rattle.plan_eval_state.proofs.Looping.{stands_safe, stands_grown, all_stop, raised_out, as_runs, wakes, woken, whole_ends, length_onto}
use Rattle.plan_eval_state.proofs.Stepping.{guarded}
use Rattle.plan_eval_made.specs.Where.{lowest}
use Rattle.plan_eval_made.specs.Comes.{Grows, pending, turning, rescues}
use Rattle.plan_eval.specs.declared.task.Task.{Task}
use Rattle.plan_eval.specs.declared.task.Task.TheVariants as task
use Rattle.plan_eval.specs.Tasks.{below, wanted, Fits, Performs, Innermost, HasInnermost, Does}
use Rattle.plan_eval.specs.Turns.{Begins, Ends, Going, Loops, Turned}
use Rattle.plan_eval.specs.Walk.{innermost}
use Rattle.plan_eval.proofs.Walks.{found_at}

-- ---- more programs

pub open_grown : (codes new : List Program) (s : Spot) → Grows codes new → IsOpen codes s → IsOpen new s
open_grown codes new s g is_open = subst (λ (l : List Program). IsOpen l s) (sym g.grown) (kept_in codes g.more s.number s.code is_open)

pub stands_on : (codes new : List Program) (first : Spot) (pre : List Value) (top : RunStep Value) (ks : List Continuation) (stack : List Value) (s : Spot) (want : RunStep Value)
    → Grows codes new → Stands codes first pre top ks stack s want → Stands new first pre top ks stack s want
stands_on codes new first pre top ks stack s want g h =
    subst (λ (l : List Program). Stands l first pre top ks stack s want) (sym g.grown)
    (stands_grown codes g.more first pre top ks stack s want (λ t is_open. kept_in codes g.more t.number t.code is_open) h)

site_kept : (codes more : List Program) (a : Activation) (first : Spot) (o : Option Program) → slice_get codes a.number ≡ o → Begins a first codes → Begins a first (codes ++ more)
site_kept codes more a first (Some code) is begins =
    ap (body_site a) (kept_in codes more a.number code is ∙ sym is) ∙ begins
site_kept codes more a first None is begins = absurd (none-some (sym (ap (body_site a) is) ∙ begins))

pub begins_on : (codes new : List Program) (a : Activation) (first : Spot) → Grows codes new → Begins a first codes → Begins a first new
begins_on codes new a first g begins =
    subst (Begins a first) (sym g.grown) (site_kept codes g.more a first (slice_get codes a.number) refl begins)

-- ---- a turn

-- after a turn of an evaluation that asks nothing amiss, it does so still
pub going_on : (a : Activation) (from to : List Continuation) (p q : Progress) (old new : Run) (n m : ServiceState) → Going a from p old n → Turned a from to p q old new n m
    → Going a to q new m
going_on a from to p q old new n m g t =
    record {
      first = g.first;
      pre = g.pre;
      top = g.top;
      begins = begins_on old.codes new.codes a g.first t.grown g.begins;
      safe = g.safe;
      runs = t.runs g.first g.pre g.top g.begins g.safe g.runs;
    }

module _ (a : Activation) (first : Spot) (pre : List Value) (top : RunStep Value) where
  -- ---- what waits begins

  module _ (ks : List Continuation) (old mid : Run) (n : ServiceState) (conts : List Continuation) (moved : conts ≡ onto old.paused ks) (stack : mid.stack ≡ old.stack)
      (state : mid.state ≡ old.state) (codes : mid.codes ≡ old.codes) (begins : Begins a first old.codes) (safe : IsSafe top.asks) (r : Holds first pre top ks came.Wait old n) where
    begun_mid : Begun mid.codes first pre top conts mid.stack (now mid n)
    begun_mid = rw (moved, stack, state, codes) (wakes first pre top ks old n r)

    -- it is the innermost
    pub wake_innermost : (b : Begun mid.codes first pre top conts mid.stack (now mid n)) → Innermost a conts task.Begin b.at mid n
    wake_innermost b =
        record {
          found = found_at mid.codes a first pre top conts mid.stack b.at (means b.at (now mid n)) (rw codes begins) b.stands;
          opened = b.opened;
          env = b.env;
          fits = tt;
          safe = stands_safe mid.codes first pre top conts mid.stack b.at (means b.at (now mid n)) b.stands safe;
        }

    pub wake_has : HasInnermost a conts task.Begin mid n
    wake_has = record { at = begun_mid.at; is = wake_innermost begun_mid }

    pub wake_runs : (p : Progress) (new : Run) (m : ServiceState) → ((s : Spot) → Innermost a conts task.Begin s mid n → Does task.Begin s mid n p new m) → Runs first pre top conts p new m
    wake_runs p new m does =
        let b = begun_mid in
        let d = does b.at (wake_innermost b) in
        woken mid.codes first pre top conts mid.stack (now mid n) b p new m
        (stands_on mid.codes new.codes first pre top conts mid.stack b.at (means b.at (now mid n)) d.grown b.stands) (open_grown mid.codes new.codes b.at d.grown b.opened) d.flows

  -- ---- what waits innermost goes on

  module _ (k : Continuation) (ks : List Continuation) (p : Progress) (old : Run) (n : ServiceState) (begins : Begins a first old.codes) (safe : IsSafe top.asks)
      (r : Holds first pre top (k ∷ ks) p old n) where
    wide_safe : IsSafe r.stands.wider.asks
    wide_safe = stands_safe old.codes first pre top ks r.stands.low r.stands.outer r.stands.wider r.stands.under safe

    -- a spot whose part ended so goes on as this leads on
    pub gone : (q : Progress) (new : Run) (m : ServiceState) (other : RunStep Value) → Grows old.codes new.codes → Leads (resume r.stands.outer k r.stands.held r.want) other
        → Flows r.stands.outer r.stands.low other q new m → Runs first pre top ks q new m
    gone q new m other g leads h =
        as_runs first pre top ks q new m (record {
          at = r.stands.outer;
          low = r.stands.low;
          want = r.stands.wider;
          stands = stands_on old.codes new.codes first pre top ks r.stands.low r.stands.outer r.stands.wider g r.stands.under;
          opened = open_grown old.codes new.codes r.stands.outer g r.stands.opened;
          env = r.stands.env;
          flows = flows_led r.stands.outer r.stands.low r.stands.wider other q new m wide_safe (onward _ _ _ r.stands.leads leads) h;
        })

    -- what it leads to asks nothing amiss
    pub gone_safe : (other : RunStep Value) → Leads (resume r.stands.outer k r.stands.held r.want) other → IsSafe other.asks
    gone_safe other leads = leads.safe (r.stands.leads.safe wide_safe)

    pub gone_found : innermost old.codes a ks ≡ Some (bare r.stands.outer)
    gone_found = found_at old.codes a first pre top ks r.stands.low r.stands.outer r.stands.wider begins r.stands.under

    -- it goes on by a task
    pub gone_innermost : (t : Task) (mid : Run) → mid.codes ≡ old.codes → below t mid.stack ≡ r.stands.low → Fits t r.stands.outer mid.stack
        → Leads (resume r.stands.outer k r.stands.held r.want) (wanted t r.stands.outer mid n) → Innermost a ks t r.stands.outer mid n
    gone_innermost t mid codes low fits leads =
        record {
          found = ap (λ l. innermost l a ks) codes ∙ gone_found;
          opened = subst (λ (l : List Program). IsOpen l r.stands.outer) (sym codes) r.stands.opened;
          env = subst (HasEnv r.stands.outer) (sym low) r.stands.env;
          fits = fits;
          safe = gone_safe (wanted t r.stands.outer mid n) leads;
        }

    pub gone_runs : (t : Task) (mid : Run) (q : Progress) (new : Run) (m : ServiceState) → mid.codes ≡ old.codes → below t mid.stack ≡ r.stands.low
        → Leads (resume r.stands.outer k r.stands.held r.want) (wanted t r.stands.outer mid n) → Does t r.stands.outer mid n q new m → Runs first pre top ks q new m
    gone_runs t mid q new m codes low leads d =
        gone q new m (wanted t r.stands.outer mid n) (subst (λ (l : List Program). Grows l new.codes) codes d.grown) leads
        (subst (λ l. Flows r.stands.outer l (wanted t r.stands.outer mid n) q new m) low d.flows)

-- ---- what the value of a part leads to

take_front : {A : Type 0} (xs ys : List A) → take (length xs) (xs ++ ys) ≡ xs
take_front [] ys = refl
take_front (x ∷ xs) ys = ap (λ l. x ∷ l) (take_front xs ys)

pub drop_front : {A : Type 0} (xs ys : List A) → drop (length xs) (xs ++ ys) ≡ ys
drop_front [] ys = refl
drop_front (x ∷ xs) ys = drop_front xs ys

pub lowest_front : {A : Type 0} (junk low : List A) (n : ℕ) → n ≡ length low → drop (length (junk ++ low) - n) (junk ++ low) ≡ low
lowest_front junk low n e =
    let many : length (junk ++ low) - n ≡ length junk = omega (arith, e, length-append junk low) in
    ap (λ i. drop i (junk ++ low)) many ∙ drop_front junk low

module _ (s : Spot) (v : Value) (st : VisitState) (want : RunStep Value) (is : want.after ≡ gave v st) where
  -- its value is that of the whole
  pub weighs_on : Leads (and_then want weighed_value) (weighed_value v st)
  weighs_on = gave_on want v st weighed_value is

  -- so it is of a `try` that has nothing to catch
  pub tried_on : (h : ℕ) (held : List Value) → Leads (resume s (Try h) held want) (weighed_value v st)
  tried_on h held =
      gave_on (rescued_step want (handled s.code s.fun s.env (layer s))) v st weighed_value (ap (λ a. (otherwise a (handled s.code s.fun s.env (layer s))).after) is)

  -- that of a chunk is dropped
  pub chunk_on : (a : Activation) (held : List Value) → Leads (resume s (Chunk a) held want) (weighed_value value.Unit st)
  chunk_on a held = onward _ _ _ (gave_on want v st (λ v. pure value.Unit >>= weighed_value) is) (given_on value.Unit st weighed_value)

  -- an operation goes on behind its part
  pub part_on : (n : ℕ) (held : List Value) → length held ≡ n → Leads (resume s (Part n) held want) (pending s (v ∷ held) st)
  part_on n held many = subst (λ i. Leads (resume s (Part i) held want) (pending s (v ∷ held) st)) many (resumed_along s (Part (length held)) held want (quiet (gave v st)) (settled want (gave v st) is))

  -- and a fold behind a step
  pub step_on : (a : Activation) (w u n l : Value) → Leads (resume s (Step a) (w ∷ u ∷ n ∷ l ∷ []) want) (turning s (v ∷ n ∷ l ∷ []) st)
  step_on a w u n l = gave_on want v st (after_step s (w ∷ u ∷ n ∷ l ∷ [])) is

-- a `try` takes up what was raised
pub rescued_on : (s : Spot) (h : ℕ) (x : Exn) (kept : Option Exn) (st : VisitState) (want : RunStep Value) → kept ≡ Some x → want.after ≡ stopped (Raised x) st
    → Leads (resume s (Try h) [] want) (rescues s h kept st)
rescued_on s h x kept st want is raised = rw is (resumed_along s (Try h) [] want (quiet (stopped (Raised x) st)) (settled want (stopped (Raised x) st) raised))

-- ---- what is held

-- a spot that waits for a branch or in a `try` holds nothing
pub last_bare : (codes : List Program) (s next : Spot) (n : ℕ) (held : List Value) → step codes s (Last n) held ≡ Some next → held ≡ []
last_bare codes s next n [] h = refl
last_bare codes s next n (v ∷ held) h = absurd (none-some h)

pub try_bare : (codes : List Program) (s next : Spot) (i : ℕ) (held : List Value) → step codes s (Try i) held ≡ Some next → held ≡ []
try_bare codes s next i [] h = refl
try_bare codes s next i (v ∷ held) h = absurd (none-some h)

-- one that waits for an operand those before
some_operand : (s next : Spot) (n : ℕ) (o : Option Expr) → beside s o ≡ Some next → o ≡ slice_get (operands (layer s)) n → n < length (operands (layer s))
some_operand s next n None h is = absurd (none-some h)
some_operand s next n (Some e) h is = within (operands (layer s)) n e (sym is)
  where
    within : (es : List Expr) (n : ℕ) (e : Expr) → slice_get es n ≡ Some e → n < length es
    within [] n e is = absurd (none-some is)
    within (d ∷ es) zero e is = omega arith
    within (d ∷ es) (suc n) e is = omega (arith, within es n e is)

pub record Operand (s : Spot) (n : ℕ) (held : List Value) : Type 0 where
  pub many : length held ≡ n
  pub there : n < length (operands (layer s))

pub part_held : (codes : List Program) (s next : Spot) (n : ℕ) (held : List Value) → step codes s (Part n) held ≡ Some next → Operand s n held
part_held codes s next n held h =
    let g = guarded (length held) n (beside s (slice_get (operands (layer s)) n)) next h in
    record { many = g.0; there = some_operand s next n (slice_get (operands (layer s)) n) g.1 refl }

-- and a fold a step's two arguments, the number of items taken and the list
pub record Held4 (held : List Value) : Type 0 where
  pub w : Value
  pub u : Value
  pub n : Value
  pub l : Value
  pub are : held ≡ w ∷ u ∷ n ∷ l ∷ []

pub step_held : (codes : List Program) (s next : Spot) (a : Activation) (held : List Value) → step codes s (Step a) held ≡ Some next → Held4 held
step_held codes s next a [] h = absurd (none-some h)
step_held codes s next a (w ∷ []) h = absurd (none-some h)
step_held codes s next a (w ∷ u ∷ []) h = absurd (none-some h)
step_held codes s next a (w ∷ u ∷ n ∷ []) h = absurd (none-some h)
step_held codes s next a (w ∷ u ∷ n ∷ l ∷ []) h = record { w = w; u = u; n = n; l = l; are = refl }
step_held codes s next a (w ∷ u ∷ n ∷ l ∷ m ∷ held) h = absurd (none-some h)

-- ---- turns

length_on : {A : Type 0} (x : A) (xs : List A) → length (x ∷ xs) ≡ length xs + 1
length_on x xs = omega arith

goes_less : (k : Continuation) (ks : List Continuation) (p q : Progress) (old new : Run) → load p (length ks + 1) old ≡ load came.Done (length ks + 1) old → Lasts 256 old.state.work q new
    → load q (length ks) new < load p (length (k ∷ ks)) old
goes_less k ks p q old new same lasts =
    subst (λ n. load q (length ks) new < load p n old) (sym (length_on k ks))
    (subst (λ n. load q (length ks) new < n) (sym same) (go_less 256 (length ks) q old new (omega arith) lasts))

-- what goes on by a task does so over these values
pub record TakenUp (first : Spot) (pre : List Value) (top : RunStep Value) (k : Continuation) (ks : List Continuation) (p : Progress) (old : Run) (n : ServiceState)
    (r : Holds first pre top (k ∷ ks) p old n) (t : Task) (mid : Run) : Type 0 where
  pub low : below t mid.stack ≡ r.stands.low
  pub fits : Fits t r.stands.outer mid.stack
  pub leads : Leads (resume r.stands.outer k r.stands.held r.want) (wanted t r.stands.outer mid n)

module _ (a : Activation) (k : Continuation) (ks : List Continuation) (p : Progress) (old mid : Run) (n : ServiceState) (t : Task) (codes : mid.codes ≡ old.codes) (state : mid.state ≡ old.state) where
  innermost_of : (first : Spot) (pre : List Value) (top : RunStep Value) → Begins a first old.codes → IsSafe top.asks → (r : Holds first pre top (k ∷ ks) p old n)
      → TakenUp first pre top k ks p old n r t mid → Innermost a ks t r.stands.outer mid n
  innermost_of first pre top begins safe r taken = gone_innermost a first pre top k ks p old n begins safe r t mid codes taken.low taken.fits taken.leads

  -- there is an innermost spot
  pub turn_has : (first : Spot) (pre : List Value) (top : RunStep Value) → Begins a first old.codes → IsSafe top.asks → (r : Holds first pre top (k ∷ ks) p old n)
      → TakenUp first pre top k ks p old n r t mid → HasInnermost a ks t mid n
  turn_has first pre top begins safe r taken = record { at = r.stands.outer; is = innermost_of first pre top begins safe r taken }

  -- and what its task does is a turn
  pub turned_by : (q : Progress) (new : Run) (m : ServiceState) (first : Spot) (pre : List Value) (top : RunStep Value) → Begins a first old.codes → IsSafe top.asks
      → Holds first pre top (k ∷ ks) p old n → ((run : Run) (m : ServiceState) (first : Spot) (pre : List Value) (top : RunStep Value) → Runs first pre top (k ∷ ks) p run m → Holds first pre top (k ∷ ks) p run m)
      → load p (length ks + 1) old ≡ load came.Done (length ks + 1) old
      → ((first : Spot) (pre : List Value) (top : RunStep Value) (r : Holds first pre top (k ∷ ks) p old n) → TakenUp first pre top k ks p old n r t mid)
      → (Performs t mid.state.work q new → Lasts 256 mid.state.work q new) → ((s : Spot) → Innermost a ks t s mid n → Does t s mid n q new m) → Turned a (k ∷ ks) ks p q old new n m
  turned_by q new m first pre top begins safe r holds same taken lasts does =
      let one = does r.stands.outer (innermost_of first pre top begins safe r (taken first pre top r)) in
      record {
        runs = λ first pre top begins safe h.
            let r = holds old n first pre top h in
            let d = does r.stands.outer (innermost_of first pre top begins safe r (taken first pre top r)) in
            gone_runs a first pre top k ks p old n begins safe r t mid q new m codes (taken first pre top r).low (taken first pre top r).leads d;
        less = goes_less k ks p q old new same (subst (λ (s : Own). Lasts 256 s.work q new) state (lasts one.performs));
        grown = subst (λ (l : List Program). Grows l new.codes) codes one.grown;
        offer = one.offer;
        begun = one.begun;
      }

-- what has ended is a turn without a task
pub settled_turn : (a : Activation) (k : Continuation) (ks : List Continuation) (q : Progress) (old new : Run) (n : ServiceState) → q ≢ came.Wait → new.state.work ≤ old.state.work → new.codes ≡ old.codes
    → ((first : Spot) (pre : List Value) (top : RunStep Value) (r : Holds first pre top (k ∷ ks) came.Done old n)
    → (other : RunStep Value) × Leads (resume r.stands.outer k r.stands.held r.want) other × Flows r.stands.outer r.stands.low other q new n)
    → Turned a (k ∷ ks) ks came.Done q old new n n
settled_turn a k ks q old new n settled falls codes ends =
    let grown : Grows old.codes new.codes = record { more = []; grown = codes ∙ sym (append-nil old.codes) } in
    record {
      runs = λ first pre top begins safe r.
          let e = ends first pre top r in
          gone a first pre top k ks came.Done old n begins safe r q new n e.0 grown e.1 e.2;
      less = goes_less k ks came.Done q old new refl (settled_lasts 256 old.state.work q new settled falls);
      grown = grown;
      offer = refl;
      begun = refl;
    }

-- an exception that isn't taken up
pub passing_turn : (a : Activation) (k : Continuation) (ks : List Continuation) (run : Run) (n : ServiceState) → PassesBy k came.Raised → Turned a (k ∷ ks) ks came.Raised came.Raised run run n n
passing_turn a k ks run n passes =
    record {
      runs = λ first pre top begins safe r. raised_out first pre top k ks run n passes safe r;
      less = omega (arith, length_on k ks);
      grown = record { more = []; grown = sym (append-nil run.codes) };
      offer = refl;
      begun = refl;
    }

pub passes_by : (k : Continuation) → ((h : ℕ) → k ≢ Try h) → PassesBy k came.Raised
passes_by (Part n) other = tt
passes_by (Last n) other = tt
passes_by (Try h) other = absurd (other h refl)
passes_by (Bound i) other = tt
passes_by (Call a) other = tt
passes_by (Step a) other = tt
passes_by (Chunk a) other = tt

-- ---- what each takes up

module _ (first : Spot) (pre : List Value) (top : RunStep Value) (ks : List Continuation) (old : Run) (n : ServiceState) where
  pub part_taken : (i : ℕ) (r : Holds first pre top (Part i ∷ ks) came.Done old n) → TakenUp first pre top (Part i) ks came.Done old n r (task.Behind (i + 1)) old
  part_taken i r =
      let a = r.stands in
      let o = part_held old.codes a.outer r.at i a.held a.steps in
      let stack : old.stack ≡ r.flows.v ∷ a.held ++ a.low = r.flows.stacked ∙ ap (λ l. r.flows.v ∷ l) a.stacked in
      let many : i + 1 ≡ length (r.flows.v ∷ a.held) = omega (arith, o.many) in
      let takes : take (i + 1) old.stack ≡ r.flows.v ∷ a.held = ap (λ l. take (i + 1) l) stack ∙ ap (λ m. take m ((r.flows.v ∷ a.held) ++ a.low)) many ∙ take_front (r.flows.v ∷ a.held) a.low in
      record {
        low = ap (λ l. drop (i + 1) l) stack ∙ ap (λ m. drop m ((r.flows.v ∷ a.held) ++ a.low)) many ∙ drop_front (r.flows.v ∷ a.held) a.low;
        fits = (omega (arith, o.many, ap length stack, length-append a.held a.low), omega (arith, o.there));
        leads = subst (λ l. Leads (resume a.outer (Part i) a.held r.want) (pending a.outer l (now old n))) (sym takes) (part_on a.outer r.flows.v (now old n) r.want r.flows.is i a.held o.many);
      }

  pub try_taken : (h : ℕ) (r : Holds first pre top (Try h ∷ ks) came.Raised old n) → TakenUp first pre top (Try h) ks came.Raised old n r (task.Catch h) old
  try_taken h r =
      let a = r.stands in
      let bare : a.held ≡ [] = try_bare old.codes a.outer r.at h a.held a.steps in
      let stack : old.stack ≡ r.flows.junk ++ a.low = r.flows.stacked ∙ ap (λ l. r.flows.junk ++ l) (a.stacked ∙ ap (λ l. l ++ a.low) bare) in
      record {
        low = ap (lowest h) stack ∙ lowest_front r.flows.junk a.low h a.height;
        fits = omega (arith, a.height, ap length stack, length-append r.flows.junk a.low);
        leads = subst (λ l. Leads (resume a.outer (Try h) l r.want) (rescues a.outer h old.raised (now old n))) (sym bare) (rescued_on a.outer h r.flows.exn old.raised (now old n) r.want r.flows.kept r.flows.is);
      }

  module _ (s : Activation) (r : Holds first pre top (Step s ∷ ks) came.Done old n) (mid : Run)
      (slid : (x : Value) (held low : List Value) → old.stack ≡ x ∷ (held ++ low) → s.base ≡ length low → mid ≡ record old { stack = x ∷ low }) where
    abbrev four : Held4 r.stands.held
    four = step_held old.codes r.stands.outer r.at s r.stands.held r.stands.steps

    -- a step's value comes to the place of its arguments
    pub step_slid : mid ≡ record old { stack = r.flows.v ∷ four.n ∷ four.l ∷ r.stands.low }
    step_slid =
        let stack : old.stack ≡ r.flows.v ∷ (four.w ∷ four.u ∷ []) ++ four.n ∷ four.l ∷ r.stands.low =
        r.flows.stacked ∙ ap (λ l. r.flows.v ∷ l) (r.stands.stacked ∙ ap (λ l. l ++ r.stands.low) four.are) in
        slid r.flows.v (four.w ∷ four.u ∷ []) (four.n ∷ four.l ∷ r.stands.low) stack (omega (arith, r.stands.height))

    pub step_codes : mid.codes ≡ old.codes
    step_codes = ap (λ (run : Run). run.codes) step_slid

    pub step_state : mid.state ≡ old.state
    step_state = ap (λ (run : Run). run.state) step_slid

    pub step_bare : mid.paused ≡ []
    step_bare = ap (λ (run : Run). run.paused) step_slid ∙ r.flows.none

    pub step_taken : TakenUp first pre top (Step s) ks came.Done old n r task.Fold mid
    step_taken =
        let a = r.stands in
        let leads : Leads (resume a.outer (Step s) a.held r.want) (turning a.outer (r.flows.v ∷ four.n ∷ four.l ∷ []) (now old n)) =
        subst (λ l. Leads (resume a.outer (Step s) l r.want) (turning a.outer (r.flows.v ∷ four.n ∷ four.l ∷ []) (now old n))) (sym four.are)
        (step_on a.outer r.flows.v (now old n) r.want r.flows.is s four.w four.u four.n four.l) in
        rw step_slid (record { low = refl; fits = omega arith; leads = leads })

-- ---- how each ends

module _ (first : Spot) (pre : List Value) (top : RunStep Value) (k : Continuation) (ks : List Continuation) (old : Run) (n : ServiceState) (r : Holds first pre top (k ∷ ks) came.Done old n) (q : Progress) (new : Run) where
  abbrev EndsSo : Type 0
  EndsSo = (other : RunStep Value) × Leads (resume r.stands.outer k r.stands.held r.want) other × Flows r.stands.outer r.stands.low other q new n

  stack_of : old.stack ≡ r.flows.v ∷ (r.stands.held ++ r.stands.low)
  stack_of = r.flows.stacked ∙ ap (λ l. r.flows.v ∷ l) r.stands.stacked

  -- the value is that of the whole, where nothing is held
  pub branch_ended : r.stands.held ≡ [] → Leads (resume r.stands.outer k r.stands.held r.want) (weighed_value r.flows.v (now old n))
      → ((s : Spot) (v : Value) (low : List Value) (m : ServiceState) → old.stack ≡ v ∷ low → Flows s low (weighed_value v (now old m)) q new m) → EndsSo
  branch_ended bare leads flows =
      (weighed_value r.flows.v (now old n), leads, flows r.stands.outer r.flows.v r.stands.low n (stack_of ∙ ap (λ l. r.flows.v ∷ (l ++ r.stands.low)) bare))

  -- and where what is held goes
  pub value_ended : (base : ℕ) → base ≡ length r.stands.low → Leads (resume r.stands.outer k r.stands.held r.want) (weighed_value r.flows.v (now old n))
      → ((s : Spot) (v : Value) (held low : List Value) (m : ServiceState) → old.stack ≡ v ∷ (held ++ low) → base ≡ length low → Flows s low (weighed_value v (now old m)) q new m) → EndsSo
  value_ended base height leads flows = (weighed_value r.flows.v (now old n), leads, flows r.stands.outer r.flows.v r.stands.held r.stands.low n stack_of height)

  -- unit is where the value is dropped too
  pub unit_ended : (base : ℕ) → base ≡ length r.stands.low → Leads (resume r.stands.outer k r.stands.held r.want) (weighed_value value.Unit (now old n))
      → ((s : Spot) (held low : List Value) (m : ServiceState) → old.stack ≡ held ++ low → base ≡ length low → Flows s low (weighed_value value.Unit (now old m)) q new m) → EndsSo
  unit_ended base height leads flows = (weighed_value value.Unit (now old n), leads, flows r.stands.outer (r.flows.v ∷ r.stands.held) r.stands.low n stack_of height)

-- what waits begins
pub wake_turn : (a : Activation) (first : Spot) (pre : List Value) (top : RunStep Value) (ks conts : List Continuation) (old mid : Run) (n : ServiceState) → conts ≡ onto old.paused ks → mid.stack ≡ old.stack
    → mid.state ≡ old.state → mid.codes ≡ old.codes → Begins a first old.codes → IsSafe top.asks → Holds first pre top ks came.Wait old n → (q : Progress) (new : Run) (m : ServiceState)
    → ((s : Spot) → Innermost a conts task.Begin s mid n → Does task.Begin s mid n q new m) → Turned a ks conts came.Wait q old new n m
wake_turn a first pre top ks conts old mid n moved stack state codes begins safe r q new m does =
    let b = wake_has a first pre top ks old mid n conts moved stack state codes begins safe r in
    let one = does b.at b.is in
    let all : length conts ≡ length old.paused + length ks = ap length moved ∙ length_onto old.paused ks in
    record {
      runs = λ first pre top begins safe r. wake_runs a first pre top ks old mid n conts moved stack state codes begins safe r q new m does;
      less = wake_less 256 (length ks) (length conts) q old new (omega arith) all (subst (λ (s : Own). Spends 256 s.work q new) state one.performs);
      grown = subst (λ (l : List Program). Grows l new.codes) codes one.grown;
      offer = one.offer;
      begun = one.begun;
    }

-- ---- the loop

module _ (a : Activation) (came : Progress) (old : Run) (n : ServiceState) where
  pub loops_begin : (conts : List Continuation) → conts ≡ [] → Going a [] came old n → Loops a came old n conts came old n
  loops_begin conts none g = rw none (record { going = g; runs = λ first pre top begins safe r. (begins, r); offer = refl; begun = refl })

  -- a turn leads on
  pub loops_on : (conts from to : List Continuation) (how p q : Progress) (run new : Run) (m k : ServiceState) → Loops a came old n conts how run m → conts ≡ from → how ≡ p
      → Turned a from to p q run new m k → Loops a came old n to q new k
  loops_on conts from to how p q run new m k loops is here t =
      let u : Turned a conts to how q run new m k = rw (is, here) t in
      record {
        going = going_on a conts to how q run new m k loops.going u;
        runs = λ first pre top begins safe r.
            let h = loops.runs first pre top begins safe r in
            (begins_on run.codes new.codes a first u.grown h.0, u.runs first pre top h.0 safe h.1);
        offer = u.offer ∙ loops.offer;
        begun = u.begun ∙ loops.begun;
      }

-- what spends all work, or is without a case, ends the whole
pub ends_other : (first : Spot) (pre : List Value) (top : RunStep Value) (ks : List Continuation) (p : Progress) (run : Run) (n : ServiceState) → p ≢ came.Done → p ≢ came.Wait → p ≢ came.Raised
    → IsSafe top.asks → Runs first pre top ks p run n → Ends pre top p run n
ends_other first pre top ks came.Done run n d w x safe r = absurd (d refl)
ends_other first pre top ks came.Wait run n d w x safe r = absurd (w refl)
ends_other first pre top ks came.Raised run n d w x safe r = absurd (x refl)
ends_other first pre top ks came.Spent run n d w x safe r = all_stop run.codes first pre top ks r.low r.at r.want WorkSpent (now run n) spent_passes r.stands safe r.flows
ends_other first pre top ks came.Wrong run n d w x safe r = all_stop run.codes first pre top ks r.low r.at r.want Wrong (now run n) wrong_passes r.stands safe r.flows
ends_other first pre top ks came.NoMemory run n d w x safe r = tt

-- a value or an exception does where nothing waits
pub ends_done : (first : Spot) (pre : List Value) (top : RunStep Value) (ks : List Continuation) (run : Run) (n : ServiceState) → ks ≡ [] → IsSafe top.asks → Runs first pre top ks came.Done run n
    → Ends pre top came.Done run n
ends_done first pre top ks run n none safe h =
    let r : Holds first pre top [] came.Done run n = subst (λ l. Holds first pre top l came.Done run n) none h in
    whole_ends run.codes first pre top r.low r.at r.want came.Done run n r.stands safe r.flows

pub ends_raised : (first : Spot) (pre : List Value) (top : RunStep Value) (ks : List Continuation) (run : Run) (n : ServiceState) → ks ≡ [] → IsSafe top.asks → Runs first pre top ks came.Raised run n
    → Ends pre top came.Raised run n
ends_raised first pre top ks run n none safe h =
    let r : Holds first pre top [] came.Raised run n = subst (λ l. Holds first pre top l came.Raised run n) none h in
    whole_ends run.codes first pre top r.low r.at r.want came.Raised run n r.stands safe r.flows
