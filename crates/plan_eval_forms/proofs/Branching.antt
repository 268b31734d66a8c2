-- Branches, and the bodies of `let`s.
use Rattle.std.proofs.Common.{◌≡◌, ◌≢◌, ◌≤◌, ℕ, ◌+◌, arith, Bool, true, false, if◌then◌else◌, List, [], ◌∷◌, ◌++◌, length, take, drop, map, reverse, slice_get, Option, Some, None, refl, sym, ap, ◌∙◌, subst}
use Rattle.std.proofs.lemmas.List.{append_assoc}
use Rattle.containers.proofs.Options.{none-some, some-same}
use Rattle.plan_base.specs.declared.name.Name.{Name}
use Rattle.plan_base.specs.declared.tree.Expr.{Expr, Expr-F, out-Expr}
use Rattle.plan_base.specs.declared.tree.Program.{Program}
use Rattle.plan_base.specs.declared.tree.Ty.{Ty}
use Rattle.plan_base.specs.declared.tree.Value.{Value}
use Rattle.plan_base.specs.declared.tree.Value as value
use Rattle.plan_base.specs.Trees.{ExprLayer}
use Rattle.service_api.specs.Services.{ServiceState}
use Rattle.plan_meaning.specs.declared.stop.EvalStop.TheVariants as stop
use Rattle.plan_meaning.specs.State.{VisitState, joined_state}
use Rattle.plan_meaning.specs.Run.{stopped, pure, ◌>>=◌, weighed_value}
use Rattle.plan_meaning.specs.Meaning.{Env, meaning, as_bool}
use Rattle.plan_meaning.specs.Safe.{IsSafe}
use Rattle.plan_eval_state.specs.declared.continuation.Continuation.TheVariants.{Last, Bound}
use Rattle.plan_eval_state.specs.declared.progress.Progress.{Progress}
use Rattle.plan_eval_state.specs.declared.progress.Progress.TheVariants as came
use Rattle.plan_eval_state.specs.declared.run.Run.{Run}
use Rattle.plan_eval_state.specs.Leads.{Leads}
use Rattle.plan_eval_state.specs.Forms.{branches, chosen, made}
use Rattle.plan_eval_state.specs.Spots.{Spot, layer, counted, let_body, resume}
use Rattle.plan_eval_state.specs.Laws.{makes}
use Rattle.plan_eval_state.specs.Flow.{now, Flows, Spends, Lasts}
use Rattle.plan_eval_state.proofs.Flowing.{safe_inside}
use Rattle.plan_eval_state.proofs.Leading.{onward, along, given_on, gave_on}
use Rattle.plan_eval_state.proofs.Stepping.{to_branch}
use Rattle.plan_eval_state.proofs.Lawful as law
use Rattle.plan_eval_made.specs.declared.here.Binding.{Binding}
use Rattle.plan_eval_made.specs.declared.here.Here.{Here}
use Rattle.plan_eval_made.specs.Where.{spot, Ready}
use Rattle.plan_eval_made.specs.Comes.{Comes, Continues, Evaluates, meant_here}
use Rattle.plan_eval_made.specs.Makes.{Stays}
use Rattle.plan_eval_forms.specs.Parts.{made_here, MakesOn, branch_here, TakesBranch, IsChoice, decided, HasOneMore}
use Rattle.plan_eval_forms.proofs.Running.{continues_led, continues_from, continues_settled, keeps_quiet}
use Rattle.plan_eval_forms.proofs.Waiting.{BackFlows, waits_for, gives_then}
use Rattle.plan_eval_forms.proofs.Wheres.{has_env, IsInner, let_spot, let_ready}

-- ---- numbers

pub le_same : (m n : ℕ) → m ≡ n → m ≤ n
le_same m n e = omega (arith, e)

pub le_on : (k m n : ℕ) → k ≤ m → m ≡ n → k ≤ n
le_on k m n le e = omega (arith, le, e)

-- ---- the values on top

pub one_top : (stack : List Value) → 1 ≤ length stack → (v : Value) × (stack ≡ v ∷ drop 1 stack)
one_top [] h = absurd (omega (arith, h))
one_top (v ∷ stack) h = (v, refl)

pub two_top : (stack : List Value) → 2 ≤ length stack → (y : Value) × (x : Value) × (stack ≡ y ∷ x ∷ drop 2 stack)
two_top [] h = absurd (omega (arith, h))
two_top (y ∷ []) h = absurd (omega (arith, h))
two_top (y ∷ x ∷ stack) h = (y, x, refl)

-- what is made of the values on top, by these
pub on_one : (here : Here) (e : Expr) (depth : ℕ) (old : Run) (from : ServiceState) (p : Progress) (new : Run) (to : ServiceState) (v : Value) (pre : List Value) → old.stack ≡ v ∷ pre
    → Continues depth (spot here e pre) pre (makes (spot here e pre) (v ∷ []) (now old from)) old from p new to → MakesOn here e 1 depth old from p new to
on_one here e depth old from p new to v pre is h =
    subst (λ l. Continues depth (spot here e (drop 1 l)) (drop 1 l) (makes (spot here e (drop 1 l)) (reverse (take 1 l)) (now old from)) old from p new to) (sym is) h

pub safe_one : (here : Here) (e : Expr) (run : Run) (m : ServiceState) (v : Value) (pre : List Value) → run.stack ≡ v ∷ pre → IsSafe (made_here here e 1 run m).asks
    → IsSafe (makes (spot here e pre) (v ∷ []) (now run m)).asks
safe_one here e run m v pre is h = subst (λ l. IsSafe (makes (spot here e (drop 1 l)) (reverse (take 1 l)) (now run m)).asks) is h

pub on_two : (here : Here) (e : Expr) (depth : ℕ) (old : Run) (from : ServiceState) (p : Progress) (new : Run) (to : ServiceState) (x y : Value) (pre : List Value) → old.stack ≡ y ∷ x ∷ pre
    → Continues depth (spot here e pre) pre (makes (spot here e pre) (x ∷ y ∷ []) (now old from)) old from p new to → MakesOn here e 2 depth old from p new to
on_two here e depth old from p new to x y pre is h =
    subst (λ l. Continues depth (spot here e (drop 2 l)) (drop 2 l) (makes (spot here e (drop 2 l)) (reverse (take 2 l)) (now old from)) old from p new to) (sym is) h

pub safe_two : (here : Here) (e : Expr) (run : Run) (m : ServiceState) (x y : Value) (pre : List Value) → run.stack ≡ y ∷ x ∷ pre → IsSafe (made_here here e 2 run m).asks
    → IsSafe (makes (spot here e pre) (x ∷ y ∷ []) (now run m)).asks
safe_two here e run m x y pre is h = subst (λ l. IsSafe (makes (spot here e (drop 2 l)) (reverse (take 2 l)) (now run m)).asks) is h

-- ---- the branch whose value is that of the whole

module _ (here : Here) (e part : Expr) (n : ℕ) (run : Run) (m : ServiceState) (depth : ℕ) (is : slice_get (branches (out-Expr e)) n ≡ Some part) (ready : Ready here run.stack run.codes)
    (safe : IsSafe (branch_here here e n part run m).asks) where
  pub branch_safe : IsSafe (meant_here here part run m).asks
  branch_safe = safe_inside (spot here e run.stack) (Last n) [] (meant_here here part run m) safe

  pub branch_gives : (mid : Run) (via : ServiceState) (q : Progress) (new : Run) → Evaluates here part depth run m came.Done mid via
      → ((s : Spot) (v : Value) (pre : List Value) (n : ServiceState) → mid.stack ≡ v ∷ pre → Flows s pre (weighed_value v (now mid n)) q new n) → q ≢ came.Wait
      → new.state.work ≤ mid.state.work → new.codes ≡ mid.codes → TakesBranch here e n part depth run m q new via
  branch_gives mid via q new h ends settled falls codes =
      let s = spot here e run.stack in
      let g = h.flows in
      gives_then depth s (spot here part run.stack) run.stack run.stack (branch_here here e n part run m) (meant_here here part run m) (weighed_value g.v (now mid via)) run m mid via q new
      safe h (gave_on (meant_here here part run m) g.v (now mid via) weighed_value g.is) (ends s g.v run.stack via g.stacked) settled falls codes

  pub branch_waits : (p : Progress) (mid : Run) (via : ServiceState) (q : Progress) (new : Run) → Evaluates here part depth run m p mid via → BackFlows (Last n) p mid q new
      → ((d o : ℕ) → Spends d o p mid → Lasts d o q new) → new.codes ≡ mid.codes → TakesBranch here e n part depth run m q new via
  branch_waits p mid via q new h back lasts codes =
      let s = spot here e run.stack in
      waits_for depth s (spot here part run.stack) (Last n) [] run.stack (branch_here here e n part run m) (meant_here here part run m) run m p mid via q new safe
      (record { same = λ _. refl; safe = λ h. h }) (to_branch mid.codes s n part is) (has_env here e run.stack run.codes ready) tt h back lasts codes

-- ---- what the value on top chooses

module _ (code : Program) (seen : ℕ) (env : Env) (st : VisitState) where
  -- a truth value that decides alone
  decided_leads : (l : ExprLayer) (t : Option Bool) (v : Value) (b : Bool) → t ≡ as_bool v → decided l t ≡ Some b
      → Leads ((made code seen env l (v ∷ []) >>= weighed_value) st) (weighed_value (value.Bool b) st)
  decided_leads (Expr-F.And x y) (Some false) v b is h =
      rw (sym is, sym (some-same h))
      (onward _ _ _ (along _ _ weighed_value (given_on false st (λ t. if t then meaning code seen env y else pure (value.Bool false)))) (given_on (value.Bool false) st weighed_value))
  decided_leads (Expr-F.Or x y) (Some true) v b is h =
      rw (sym is, sym (some-same h))
      (onward _ _ _ (along _ _ weighed_value (given_on true st (λ t. if t then pure (value.Bool true) else meaning code seen env y))) (given_on (value.Bool true) st weighed_value))
  decided_leads _ t v b is h = absurd (none-some h)

  -- what is no truth value chooses nothing
  unchosen : (l : ExprLayer) (t : Option Bool) (v : Value) → t ≡ as_bool v → IsChoice l → chosen l t ≡ None → decided l t ≡ None
      → ((made code seen env l (v ∷ []) >>= weighed_value) st).after ≡ stopped stop.Wrong st
  unchosen (Expr-F.If i a b) None v is form c d = rw (sym is) refl
  unchosen (Expr-F.If i a b) (Some true) v is form c d = absurd (none-some (sym c))
  unchosen (Expr-F.If i a b) (Some false) v is form c d = absurd (none-some (sym c))
  unchosen (Expr-F.Then a b) t v is form c d = absurd (none-some (sym c))
  unchosen (Expr-F.And a b) None v is form c d = rw (sym is) refl
  unchosen (Expr-F.And a b) (Some true) v is form c d = absurd (none-some (sym c))
  unchosen (Expr-F.And a b) (Some false) v is form c d = absurd (none-some (sym d))
  unchosen (Expr-F.Or a b) None v is form c d = rw (sym is) refl
  unchosen (Expr-F.Or a b) (Some true) v is form c d = absurd (none-some (sym d))
  unchosen (Expr-F.Or a b) (Some false) v is form c d = absurd (none-some (sym c))
  unchosen _ t v is form c d = absurd form

module _ (here : Here) (e : Expr) (depth : ℕ) (run : Run) (m : ServiceState) (t : Option Bool) (mid : Run) (v : Value) (pre : List Value) (stacked : run.stack ≡ v ∷ pre)
    (test : t ≡ as_bool v) (low : mid.stack ≡ pre) (stays : mid.state ≡ run.state) (codes : mid.codes ≡ run.codes) (safe : IsSafe (made_here here e 1 run m).asks) where
  -- a branch is taken
  module _ (n : ℕ) (part : Expr) (is : chosen (out-Expr e) t ≡ Some n) (there : slice_get (branches (out-Expr e)) n ≡ Some part) where
    taken_leads : Leads (makes (spot here e pre) (v ∷ []) (now run m)) (branch_here here e n part mid m)
    taken_leads =
        let one = law.chooses (spot here e pre) (now run m) v n part (ap (chosen (out-Expr e)) (sym test) ∙ is) there in
        rw (low, stays) one

    pub taken_safe : IsSafe (branch_here here e n part mid m).asks
    taken_safe = taken_leads.safe (safe_one here e run m v pre stacked safe)

    pub taken : (p : Progress) (new : Run) (to : ServiceState) → TakesBranch here e n part depth mid m p new to → MakesOn here e 1 depth run m p new to
    taken p new to h =
        let s = spot here e pre in
        let at : Continues depth s pre (branch_here here e n part mid m) mid m p new to =
        subst (λ l. Continues depth (spot here e l) l (branch_here here e n part mid m) mid m p new to) low h in
        on_one here e depth run m p new to v pre stacked
        (continues_from depth s pre (makes s (v ∷ []) (now run m)) run m p new to mid m (keeps_quiet run mid m (le_same _ _ (ap (λ o. o.work) stays)) codes)
        (continues_led depth s pre (makes s (v ∷ []) (now run m)) mid m p new to (branch_here here e n part mid m) (safe_one here e run m v pre stacked safe) taken_leads at))

  -- the truth value decides alone
  pub decides : (b : Bool) → decided (out-Expr e) t ≡ Some b → (p : Progress) (new : Run)
      → ((s : Spot) (k : ServiceState) → Flows s mid.stack (weighed_value (value.Bool b) (now mid k)) p new k) → p ≢ came.Wait → new.state.work ≤ mid.state.work → new.codes ≡ mid.codes
      → MakesOn here e 1 depth run m p new m
  decides b is p new ends settled falls same =
      let s = spot here e pre in
      let leads = decided_leads here.code.now here.fun s.env (now run m) (out-Expr e) t v b test is in
      let flows : Flows s pre (weighed_value (value.Bool b) (now run m)) p new m =
      subst (λ o. Flows s pre (weighed_value (value.Bool b) (joined_state o m)) p new m) stays
      (subst (λ l. Flows s l (weighed_value (value.Bool b) (now mid m)) p new m) low (ends s m)) in
      on_one here e depth run m p new m v pre stacked
      (continues_led depth s pre (makes s (v ∷ []) (now run m)) run m p new m (weighed_value (value.Bool b) (now run m)) (safe_one here e run m v pre stacked safe) leads
      (continues_settled depth s pre (weighed_value (value.Bool b) (now run m)) run m p new m flows settled
      (keeps_quiet run new m (le_on _ _ _ falls (ap (λ o. o.work) stays)) (same ∙ codes))))

  -- nothing is chosen
  pub chooses_none : IsChoice (out-Expr e) → chosen (out-Expr e) t ≡ None → decided (out-Expr e) t ≡ None → MakesOn here e 1 depth run m came.Wrong mid m
  chooses_none form c d =
      let s = spot here e pre in
      on_one here e depth run m came.Wrong mid m v pre stacked
      (continues_settled depth s pre (makes s (v ∷ []) (now run m)) run m came.Wrong mid m
      (rw stays (unchosen here.code.now here.fun s.env (now run m) (out-Expr e) t v test form c d)) (λ w. cc)
      (keeps_quiet run mid m (le_same _ _ (ap (λ o. o.work) stays)) codes))

-- the same of what `pop_test` took off
module _ (here : Here) (e : Expr) (depth : ℕ) (run : Run) (m : ServiceState) (t : Option Bool) (mid : Run) (high : 1 ≤ length run.stack) (pops : (v : Value) (pre : List Value) → run.stack ≡ v ∷ pre → (t ≡ as_bool v) × (mid.stack ≡ pre))
    (stays : Stays run mid) (safe : IsSafe (made_here here e 1 run m).asks) where
  popped : (t ≡ as_bool (one_top run.stack high).0) × (mid.stack ≡ drop 1 run.stack)
  popped = pops (one_top run.stack high).0 (drop 1 run.stack) (one_top run.stack high).1

  pub popped_ready : Ready here (drop 1 run.stack) run.codes → Ready here mid.stack mid.codes
  popped_ready ready = subst (λ l. Ready here l mid.codes) (sym popped.1) (subst (λ cs. Ready here (drop 1 run.stack) cs) (sym stays.codes) ready)

  pub popped_safe : (n : ℕ) (part : Expr) → chosen (out-Expr e) t ≡ Some n → slice_get (branches (out-Expr e)) n ≡ Some part → IsSafe (branch_here here e n part mid m).asks
  popped_safe n part is there =
      taken_safe here e depth run m t mid (one_top run.stack high).0 (drop 1 run.stack) (one_top run.stack high).1 popped.0 popped.1 stays.state stays.codes safe n part is there

  pub popped_taken : (n : ℕ) (part : Expr) → chosen (out-Expr e) t ≡ Some n → slice_get (branches (out-Expr e)) n ≡ Some part → (p : Progress) (new : Run) (to : ServiceState)
      → TakesBranch here e n part depth mid m p new to → MakesOn here e 1 depth run m p new to
  popped_taken n part is there p new to h =
      taken here e depth run m t mid (one_top run.stack high).0 (drop 1 run.stack) (one_top run.stack high).1 popped.0 popped.1 stays.state stays.codes safe n part is there p new to h

  pub popped_decides : (b : Bool) → decided (out-Expr e) t ≡ Some b → (p : Progress) (new : Run)
      → ((s : Spot) (k : ServiceState) → Flows s mid.stack (weighed_value (value.Bool b) (now mid k)) p new k) → p ≢ came.Wait → new.state.work ≤ mid.state.work → new.codes ≡ mid.codes
      → MakesOn here e 1 depth run m p new m
  popped_decides b is p new ends settled falls same =
      decides here e depth run m t mid (one_top run.stack high).0 (drop 1 run.stack) (one_top run.stack high).1 popped.0 popped.1 stays.state stays.codes safe b is p new ends settled falls same

  pub popped_none : IsChoice (out-Expr e) → chosen (out-Expr e) t ≡ None → decided (out-Expr e) t ≡ None → MakesOn here e 1 depth run m came.Wrong mid m
  popped_none form c d =
      chooses_none here e depth run m t mid (one_top run.stack high).0 (drop 1 run.stack) (one_top run.stack high).1 popped.0 popped.1 stays.state stays.codes safe form c d

-- ---- the body of a `let`

module _ (here inner : Here) (e b : Expr) (x : Name) (depth : ℕ) (run : Run) (m : ServiceState) (v : Value) (pre : List Value) (i : ℕ) (stacked : run.stack ≡ v ∷ pre)
    (form : (t : Ty) × (a : Expr) × (out-Expr e ≡ Expr-F.Let x t a b)) (is : IsInner here inner x i) (height : i ≡ length pre) (ready : Ready here pre run.codes)
    (safe : IsSafe (made_here here e 1 run m).asks) where
  let_is : let_body (spot here e pre) (layer (spot here e pre)) i v ≡ Some (spot inner b run.stack)
  let_is = rw (form.2, stacked) (ap Some (sym (let_spot here inner x v i pre run.codes is ready height b)))

  let_leads : Leads (makes (spot here e pre) (v ∷ []) (now run m)) (resume (spot here e pre) (Bound i) (v ∷ []) (meant_here inner b run m))
  let_leads = law.binds (spot here e pre) (spot inner b run.stack) (now run m) i v let_is

  pub let_safe : IsSafe (meant_here inner b run m).asks
  let_safe = safe_inside (spot here e pre) (Bound i) (v ∷ []) (meant_here inner b run m) (let_leads.safe (safe_one here e run m v pre stacked safe))

  pub let_gives : (mid : Run) (via : ServiceState) (q : Progress) (new : Run) → Evaluates inner b depth run m came.Done mid via
      → ((s : Spot) (w : Value) (held low : List Value) (n : ServiceState) → mid.stack ≡ w ∷ (held ++ low) → i ≡ length low → Flows s low (weighed_value w (now mid n)) q new n)
      → q ≢ came.Wait → new.state.work ≤ mid.state.work → new.codes ≡ mid.codes → MakesOn here e 1 depth run m q new via
  let_gives mid via q new h ends settled falls codes =
      let s = spot here e pre in
      let g = h.flows in
      on_one here e depth run m q new via v pre stacked
      (gives_then depth s (spot inner b run.stack) run.stack pre (makes s (v ∷ []) (now run m)) (meant_here inner b run m) (weighed_value g.v (now mid via)) run m mid via q new
      (safe_one here e run m v pre stacked safe) h
      (onward _ _ _ let_leads (gave_on (meant_here inner b run m) g.v (now mid via) weighed_value g.is))
      (ends s g.v (v ∷ []) pre via (g.stacked ∙ ap (λ l. g.v ∷ l) stacked) height) settled falls codes)

  pub let_waits : (p : Progress) (mid : Run) (via : ServiceState) (q : Progress) (new : Run) → Evaluates inner b depth run m p mid via → BackFlows (Bound i) p mid q new
      → ((d o : ℕ) → Spends d o p mid → Lasts d o q new) → new.codes ≡ mid.codes → MakesOn here e 1 depth run m q new via
  let_waits p mid via q new h back lasts codes =
      let s = spot here e pre in
      let at : Comes depth (spot inner b run.stack) (v ∷ pre) (meant_here inner b run m) run m p mid via =
      subst (λ l. Comes depth (spot inner b run.stack) l (meant_here inner b run m) run m p mid via) stacked h in
      on_one here e depth run m q new via v pre stacked
      (waits_for depth s (spot inner b run.stack) (Bound i) (v ∷ []) pre (makes s (v ∷ []) (now run m)) (meant_here inner b run m) run m p mid via q new
      (safe_one here e run m v pre stacked safe) let_leads let_is (has_env here e pre run.codes ready) height at back lasts codes)

-- the bindings with one more
inner_of : (here inner : Here) (x : Name) (i : ℕ) (all : List Binding) → HasOneMore here.bindings.now x i all → inner.bindings.now ≡ all → inner.code.now ≡ here.code.now
    → inner.number ≡ here.number → inner.size ≡ here.size → inner.fun ≡ here.fun → inner.function.now ≡ here.function.now → inner.base ≡ here.base → IsInner here inner x i
inner_of here inner x i all more is code number size fun function base =
    record {
      code = code;
      number = number;
      size = size;
      fun = fun;
      function = function;
      names = rw (function, is)
          (ap (λ l. map (λ p. p.name) here.function.now.params ++ l) more.names ∙ sym (append_assoc (map (λ p. p.name) here.function.now.params) (map (λ b. b.name.now) here.bindings.now) (x ∷ [])));
      places = rw (function, is, base)
          (ap (λ l. counted here.base here.function.now.params ++ l) more.places
          ∙ sym (append_assoc (counted here.base here.function.now.params) (map (λ b. b.at) here.bindings.now) (i ∷ [])));
    }

module _ (here inner : Here) (e b : Expr) (x : Name) (depth : ℕ) (run : Run) (m : ServiceState) (i : ℕ) (all : List Binding) (high : 1 ≤ length run.stack)
    (form : (t : Ty) × (a : Expr) × (out-Expr e ≡ Expr-F.Let x t a b)) (more : HasOneMore here.bindings.now x i all) (is : inner.bindings.now ≡ all) (code : inner.code.now ≡ here.code.now)
    (number : inner.number ≡ here.number) (size : inner.size ≡ here.size) (fun : inner.fun ≡ here.fun) (function : inner.function.now ≡ here.function.now) (base : inner.base ≡ here.base)
    (height : i + 1 ≡ length run.stack) (ready : Ready here (drop 1 run.stack) run.codes) (safe : IsSafe (made_here here e 1 run m).asks) where
  inner_is : IsInner here inner x i
  inner_is = inner_of here inner x i all more is code number size fun function base

  inner_height : i ≡ length (drop 1 run.stack)
  inner_height = omega (arith, height, ap length (one_top run.stack high).1)

  pub bound_ready : Ready inner run.stack run.codes
  bound_ready =
      subst (λ l. Ready inner l run.codes) (sym (one_top run.stack high).1)
      (let_ready here inner x (one_top run.stack high).0 i (drop 1 run.stack) run.codes inner_is ready inner_height)

  pub bound_safe : IsSafe (meant_here inner b run m).asks
  bound_safe =
      let_safe here inner e b x depth run m (one_top run.stack high).0 (drop 1 run.stack) i (one_top run.stack high).1 form inner_is inner_height ready safe

  pub bound_gives : (mid : Run) (via : ServiceState) (q : Progress) (new : Run) → Evaluates inner b depth run m came.Done mid via
      → ((s : Spot) (w : Value) (held low : List Value) (n : ServiceState) → mid.stack ≡ w ∷ (held ++ low) → i ≡ length low → Flows s low (weighed_value w (now mid n)) q new n)
      → q ≢ came.Wait → new.state.work ≤ mid.state.work → new.codes ≡ mid.codes → MakesOn here e 1 depth run m q new via
  bound_gives mid via q new h ends settled falls codes =
      let_gives here inner e b x depth run m (one_top run.stack high).0 (drop 1 run.stack) i (one_top run.stack high).1 form inner_is inner_height ready safe mid via q new h ends settled falls codes

  pub bound_waits : (p : Progress) (mid : Run) (via : ServiceState) (q : Progress) (new : Run) → Evaluates inner b depth run m p mid via → BackFlows (Bound i) p mid q new
      → ((d o : ℕ) → Spends d o p mid → Lasts d o q new) → new.codes ≡ mid.codes → MakesOn here e 1 depth run m q new via
  bound_waits p mid via q new h back lasts codes =
      let_waits here inner e b x depth run m (one_top run.stack high).0 (drop 1 run.stack) i (one_top run.stack high).1 form inner_is inner_height ready safe p mid via q new h back lasts codes
