-- Bodies of functions: of one that is called, and of the entry of a chunk.
use Rattle.std.proofs.Common.{◌≡◌, ◌≢◌, ◌≤◌, ◌<◌, ℕ, ◌-◌, arith, List, [], ◌∷◌, ◌++◌, length, take, drop, reverse, slice_get, min, Option, Some, None, refl, sym, ap, ◌∙◌, subst}
use Rattle.std.proofs.lemmas.List.{take-append-drop, length-take-le, length-drop, reverse-reverse}
use Rattle.containers.proofs.Options.{some-same}
use Rattle.plan_base.specs.declared.name.Name.{Name}
use Rattle.plan_base.specs.declared.prim.Primitive.{Primitive}
use Rattle.plan_base.specs.declared.tree.Expr.{Expr, Expr-F, out-Expr}
use Rattle.plan_base.specs.declared.tree.Fun.{Fun}
use Rattle.plan_base.specs.declared.tree.Program.{Program}
use Rattle.plan_base.specs.declared.tree.Svc.{Svc}
use Rattle.plan_base.specs.declared.tree.Value.{Value}
use Rattle.plan_base.specs.Sizes.{code_size}
use Rattle.plan_base.specs.Trees.{ExprLayer}
use Rattle.plan_types_spec.specs.TypingNames.{place_of, service_of, prim_of}
use Rattle.service_api.specs.Services.{ServiceState}
use Rattle.plan_meaning.specs.declared.stop.EvalStop.TheVariants as stop
use Rattle.plan_meaning.specs.State.{VisitState}
use Rattle.plan_meaning.specs.Run.{stopped, and_then, or_wrong, ◌>>=◌, serve, weighed_value}
use Rattle.plan_meaning.specs.Meaning.{Env, meaning, bound, entered_function, applied_function, called_name}
use Rattle.plan_meaning.specs.Safe.{IsSafe}
use Rattle.plan_eval_state.specs.declared.continuation.Activation.{Activation}
use Rattle.plan_eval_state.specs.declared.continuation.Continuation.TheVariants.{Call}
use Rattle.plan_eval_state.specs.declared.progress.Progress.{Progress}
use Rattle.plan_eval_state.specs.declared.progress.Progress.TheVariants as came
use Rattle.plan_eval_state.specs.declared.run.Run.{Run}
use Rattle.plan_eval_state.specs.Leads.{Leads}
use Rattle.plan_eval_state.specs.Forms.{made, operands}
use Rattle.plan_eval_state.specs.Spots.{Spot, layer, means, body_under, body_with, body_in, step, resume}
use Rattle.plan_eval_state.specs.Laws.{makes}
use Rattle.plan_eval_state.specs.Flow.{now, Flows, Spends, Lasts}
use Rattle.plan_eval_state.proofs.Leading.{onward, along, gave_on}
use Rattle.plan_eval_state.proofs.Stepping.{Entered, body_is, to_call}
use Rattle.plan_eval_state.proofs.Forming.{enters}
use Rattle.plan_eval_made.specs.declared.here.Here.{Here}
use Rattle.plan_eval_made.specs.Where.{spot, IsHere, Ready}
use Rattle.plan_eval_made.specs.Comes.{Comes, Continues, Evaluates, meant_here}
use Rattle.plan_eval_made.specs.Makes.{Makes}
use Rattle.plan_eval_forms.specs.Parts.{made_here, MakesOn, args_from, Enters, IsCall}
use Rattle.plan_eval_forms.proofs.Running.{continues_led, continues_settled, keeps_itself}
use Rattle.plan_eval_forms.proofs.Waiting.{BackFlows, waits_for, gives_then}
use Rattle.plan_eval_forms.proofs.Wheres.{has_env, inside, IsBody, body_spot, body_ready}
use Rattle.plan_eval_forms.proofs.Making.{made_at_once}

-- ---- a function that is entered safely is there, and takes so many arguments

module _ (code : Program) (a : Activation) (args : List Value) (st : VisitState) where
  binds_there : (f : Fun) (o : Option Env) → IsSafe ((or_wrong o >>= (λ env. meaning code a.fun env f.body)) st).asks → (next : Spot) × (body_under code a f args o ≡ Some next)
  binds_there f (Some env) safe = (_, refl)
  binds_there f None safe = absurd safe.0

  function_there : (o : Option Fun) → IsSafe ((or_wrong o >>= (λ f. or_wrong (bound f.params args) >>= (λ env. meaning code a.fun env f.body))) st).asks
      → (next : Spot) × (body_with code a args o ≡ Some next)
  function_there (Some f) safe = binds_there f (bound f.params args) safe.1
  function_there None safe = absurd safe.0

  pub entered_there : IsSafe (entered_function meaning code a.fun args st).asks → (next : Spot) × (body_in (Some code) a args ≡ Some next)
  unfolding entered_function
  entered_there safe = function_there (slice_get code.funs a.fun) safe

-- ---- entering

-- the stack in two parts: below the arguments, and they
pub args_apart : (base : ℕ) (stack : List Value) → stack ≡ reverse (args_from base stack) ++ drop (length stack - base) stack
args_apart base stack =
    sym (ap (λ l. l ++ drop (length stack - base) stack) (reverse-reverse (take (length stack - base) stack)) ∙ take-append-drop (length stack - base) stack)

pub base_height : (base : ℕ) (stack : List Value) → base ≤ length stack → base ≡ length (drop (length stack - base) stack)
base_height base stack high = omega (arith, high, length-drop (length stack - base) stack)

module _ (code : Program) (size : ℕ) (a : Activation) (run : Run) (m : ServiceState) (program : slice_get run.codes a.number ≡ Some code)
    (sized : size ≡ min (code_size code) 18446744073709551615) (high : a.base ≤ length run.stack)
    (safe : IsSafe (entered_function meaning code a.fun (args_from a.base run.stack) (now run m)).asks)
    (found : (next : Spot) × (body_in (Some code) a (args_from a.base run.stack) ≡ Some next)) where
  abbrev args_here : List Value
  args_here = args_from a.base run.stack

  abbrev low_here : List Value
  low_here = drop (length run.stack - a.base) run.stack

  next_entered : Entered (Some code) a args_here found.0
  next_entered = body_is (Some code) a args_here found.0 found.1

  pub function_within : a.fun < length code.funs
  function_within =
      let b = next_entered in
      let same : b.code ≡ code = sym (some-same b.program) in
      inside code.funs a.fun b.f (subst (λ (c : Program). slice_get c.funs a.fun ≡ Some b.f) same b.function)

  module _ (here : Here) (f : Fun) (is : here.code.now ≡ code) (number : here.number ≡ a.number) (size_is : here.size ≡ size) (fun : here.fun ≡ a.fun) (function : here.function.now ≡ f)
      (there : slice_get code.funs a.fun ≡ Some f) (base : here.base ≡ a.base) (none : here.bindings.now ≡ []) where
    is_body : IsBody here next_entered.code a next_entered.f
    is_body =
        let b = next_entered in
        let same : b.code ≡ code = sym (some-same b.program) in
        record {
          code = is ∙ sym same;
          number = number;
          fun = fun;
          function = function ∙ some-same (sym there ∙ subst (λ (c : Program). slice_get c.funs a.fun ≡ Some b.f) same b.function);
          base = base;
          bindings = none;
        }

    is_here : IsHere run.codes here
    is_here =
        record {
          program = rw (number, is) program;
          size = rw (size_is, is) sized;
          function = rw (is, fun, function) there;
        }

    spot_is : spot here next_entered.f.body run.stack ≡ found.0
    spot_is =
        ap (spot here next_entered.f.body) (args_apart a.base run.stack)
        ∙ body_spot here code a args_here low_here found.0 next_entered is_body (base_height a.base run.stack high)

    body_same : next_entered.f.body ≡ f.body
    body_same = ap (λ (g : Fun). g.body) (sym is_body.function ∙ function)

    pub enter_ready : Ready here run.stack run.codes
    enter_ready =
        subst (λ l. Ready here l run.codes) (sym (args_apart a.base run.stack))
        (body_ready here code a args_here low_here found.0 next_entered is_body (base_height a.base run.stack high) run.codes is_here)

    enter_spot : spot here f.body run.stack ≡ found.0
    enter_spot = ap (λ e. spot here e run.stack) (sym body_same) ∙ spot_is

    pub enter_safe : IsSafe (meant_here here f.body run m).asks
    enter_safe =
        subst (λ (t : Spot). IsSafe (means t (now run m)).asks) (sym enter_spot)
        ((enters code a args_here found.0 (now run m) found.1).safe safe)

    pub entered : (depth : ℕ) (p : Progress) (new : Run) (to : ServiceState) → Evaluates here f.body depth run m p new to → Enters code a depth run m p new to
    entered depth p new to h =
        record {
          next = found.0;
          body = found.1;
          comes = subst (λ (t : Spot). Comes depth t run.stack (means t (now run m)) run m p new to) enter_spot h;
        }

-- ---- calls

module _ (s : Spot) (st : VisitState) (f : Name) (es : List Expr) (args : List Value) (form : layer s ≡ Expr-F.Call f es) (none : prim_of f ≡ None) where
  -- a service that is called answers
  pub serve_leads : (d : Svc) → service_of f s.code.svcs ≡ Some d → Leads (makes s args st) ((serve d args >>= weighed_value) st)
  unfolding called_name
  serve_leads d is = rw (form, none, is) (record { same = λ _. refl; safe = λ h. h })

  module _ (other : service_of f s.code.svcs ≡ None) where
    -- a function that is called is entered
    pub call_leads : (at : ℕ) → place_of f (take s.fun s.code.funs) ≡ Some at
        → Leads (makes s args st) (and_then (entered_function meaning s.code at args st) weighed_value)
    unfolding called_name applied_function
    call_leads at is = rw (form, none, other, is) (record { same = λ _. refl; safe = λ h. h })

    -- one that isn't there isn't called
    pub calls_none : place_of f (take s.fun s.code.funs) ≡ None → (makes s args st).after ≡ stopped stop.Wrong st
    unfolding called_name applied_function
    calls_none is = rw (form, none, other, is) refl

module _ (here : Here) (e : Expr) (f : Name) (n depth : ℕ) (run : Run) (m : ServiceState) (form : IsCall (out-Expr e) f n) (high : n ≤ length run.stack)
    (ready : Ready here (drop n run.stack) run.codes) (safe : IsSafe (made_here here e n run m).asks) where
  call_form : (l : ExprLayer) → IsCall l f n → (es : List Expr) × (l ≡ Expr-F.Call f es)
  call_form (Expr-F.Call g es) h = (es, ap (λ x. Expr-F.Call x es) h.0)
  call_form _ h = absurd h

  call_many : (l : ExprLayer) → IsCall l f n → n ≡ length (operands l)
  call_many (Expr-F.Call g es) h = sym h.1
  call_many _ h = absurd h

  call_args : (l : ExprLayer) (h : IsCall l f n) → length (call_form l h).0 ≡ n
  unfolding call_form
  call_args (Expr-F.Call g es) h = h.1
  call_args _ h = absurd h

  module _ (none : prim_of f ≡ None) (other : service_of f here.code.now.svcs ≡ None) (a : Activation) (number : a.number ≡ here.number) (base : a.base ≡ length run.stack - n)
      (there : place_of f (take here.fun here.code.now.funs) ≡ Some a.fun) where
    -- as many values are the arguments
    many_args : length run.stack - a.base ≡ n
    many_args = omega (arith, base, high)

    args_are : args_from a.base run.stack ≡ reverse (take n run.stack)
    args_are = ap (λ k. reverse (take k run.stack)) many_args

    call_height : a.base ≡ length (drop n run.stack)
    call_height = omega (arith, base, length-drop n run.stack)

    called_leads : Leads (made_here here e n run m) (and_then (entered_function meaning here.code.now a.fun (args_from a.base run.stack) (now run m)) weighed_value)
    called_leads =
        let s = spot here e (drop n run.stack) in
        let c = call_form (out-Expr e) form in
        rw args_are (call_leads s (now run m) f c.0 (reverse (take n run.stack)) c.1 none other a.fun there)

    pub called_safe : IsSafe (entered_function meaning here.code.now a.fun (args_from a.base run.stack) (now run m)).asks
    called_safe = (called_leads.safe safe).0

    module _ (p : Progress) (mid : Run) (via : ServiceState) (h : Enters here.code.now a depth run m p mid via) where
      body_leads : Leads (made_here here e n run m) (resume (spot here e (drop n run.stack)) (Call a) (take n run.stack) (means h.next (now run m)))
      body_leads =
          onward _ _ _ called_leads
          (along _ _ weighed_value (enters here.code.now a (args_from a.base run.stack) h.next (now run m) h.body))

      call_steps : (codes : List Program) → step codes (spot here e (drop n run.stack)) (Call a) (take n run.stack) ≡ Some h.next
      call_steps codes =
          let s = spot here e (drop n run.stack) in
          let body : body_in (Some here.code.now) a (reverse (take n run.stack)) ≡ Some h.next = ap (body_in (Some here.code.now) a) (sym args_are) ∙ h.body in
          ap (step codes s (Call a)) (sym (reverse-reverse (take n run.stack))) ∙ to_call codes s a (reverse (take n run.stack)) h.next number body

      pub call_waits : (q : Progress) (new : Run) → BackFlows (Call a) p mid q new → ((d o : ℕ) → Spends d o p mid → Lasts d o q new) → new.codes ≡ mid.codes
          → MakesOn here e n depth run m q new via
      call_waits q new back lasts codes =
          let s = spot here e (drop n run.stack) in
          waits_for depth s h.next (Call a) (take n run.stack) (drop n run.stack) (made_here here e n run m) (means h.next (now run m)) run m p mid via q new safe body_leads (call_steps mid.codes)
          (has_env here e (drop n run.stack) run.codes ready) call_height
          (subst (λ l. Comes depth h.next l (means h.next (now run m)) run m p mid via) (sym (take-append-drop n run.stack)) h.comes) back lasts codes

    pub call_gives : (mid : Run) (via : ServiceState) (q : Progress) (new : Run) → Enters here.code.now a depth run m came.Done mid via
        → ((s : Spot) (w : Value) (held low : List Value) (n : ServiceState) → mid.stack ≡ w ∷ (held ++ low) → a.base ≡ length low → Flows s low (weighed_value w (now mid n)) q new n)
        → q ≢ came.Wait → new.state.work ≤ mid.state.work → new.codes ≡ mid.codes → MakesOn here e n depth run m q new via
    call_gives mid via q new h ends settled falls codes =
        let s = spot here e (drop n run.stack) in
        let g = h.comes.flows in
        gives_then depth s h.next run.stack (drop n run.stack) (made_here here e n run m) (means h.next (now run m)) (weighed_value g.v (now mid via)) run m mid via q new safe h.comes
        (onward _ _ _ (body_leads came.Done mid via h) (gave_on (means h.next (now run m)) g.v (now mid via) weighed_value g.is))
        (ends s g.v (take n run.stack) (drop n run.stack) via (g.stacked ∙ ap (λ l. g.v ∷ l) (sym (take-append-drop n run.stack))) call_height) settled falls codes

  -- where no function is there
  pub call_wrong : prim_of f ≡ None → service_of f here.code.now.svcs ≡ None → place_of f (take here.fun here.code.now.funs) ≡ None → run.paused ≡ []
      → MakesOn here e n depth run m came.Wrong run m
  call_wrong none other is bare =
      let s = spot here e (drop n run.stack) in
      let c = call_form (out-Expr e) form in
      continues_settled depth s (drop n run.stack) (made_here here e n run m) run m came.Wrong run m
      (calls_none s (now run m) f c.0 (reverse (take n run.stack)) c.1 none other is) (λ w. cc) (keeps_itself run m)

  -- a service
  module _ (none : prim_of f ≡ None) (d : Svc) (is : service_of f here.code.now.svcs ≡ Some d) where
    service_leads : Leads (made_here here e n run m) ((serve d (reverse (take n run.stack)) >>= weighed_value) (now run m))
    service_leads =
        let c = call_form (out-Expr e) form in
        serve_leads (spot here e (drop n run.stack)) (now run m) f c.0 (reverse (take n run.stack)) c.1 none d is

    pub service_safe : IsSafe (serve d (reverse (take n run.stack)) (now run m)).asks
    service_safe = (service_leads.safe safe).0

    pub service_answers : (p : Progress) (new : Run) (to : ServiceState)
        → ((s : Spot) (depth : ℕ) (held pre : List Value) → run.stack ≡ held ++ pre → length held ≡ n
        → Continues depth s pre (and_then (serve d (reverse held) (now run m)) weighed_value) run m p new to) → MakesOn here e n depth run m p new to
    service_answers p new to h =
        let s = spot here e (drop n run.stack) in
        continues_led depth s (drop n run.stack) (made_here here e n run m) run m p new to ((serve d (reverse (take n run.stack)) >>= weighed_value) (now run m)) safe service_leads
        (h s depth (take n run.stack) (drop n run.stack) (sym (take-append-drop n run.stack)) (length-take-le n run.stack high))

  -- a primitive
  module _ (q : Primitive) (is : prim_of f ≡ Some q) where
    pub primitive_answers : (p : Progress) (new : Run)
        → ((s : Spot) (f : Name) (es : List Expr) → layer s ≡ Expr-F.Call f es → prim_of f ≡ Some q → length es ≡ n → Makes s run p new) → p ≢ came.Wait
        → new.state.work ≤ run.state.work → new.codes ≡ run.codes → MakesOn here e n depth run m p new m
    primitive_answers p new made settled falls codes =
        let c = call_form (out-Expr e) form in
        made_at_once here e n depth run m p new (call_many (out-Expr e) form) high (made (spot here e (drop n run.stack)) f c.0 c.1 is (call_args (out-Expr e) form)) settled falls codes
