-- Folds: how they begin, take an item, step and end.
use Rattle.std.proofs.Common.{◌≡◌, ◌≢◌, ◌≤◌, ◌<◌, ℕ, ◌+◌, ◌-◌, pos, arith, List, [], ◌∷◌, ◌++◌, length, take, drop, reverse, Option, Some, None, refl, sym, ap, ◌∙◌, subst}
use Rattle.std.proofs.lemmas.List.{length-drop}
use Rattle.containers.proofs.Options.{none-some}
use Rattle.plan_base.specs.declared.name.Name.{Name}
use Rattle.plan_base.specs.declared.tree.Expr.{Expr, Expr-F, out-Expr}
use Rattle.plan_base.specs.declared.tree.Program.{Program}
use Rattle.plan_base.specs.declared.tree.Value.{Value}
use Rattle.plan_base.specs.declared.tree.Value as value
use Rattle.plan_base.specs.Trees.{ExprLayer, trees}
use Rattle.service_api.specs.Services.{ServiceState}
use Rattle.plan_meaning.specs.State.{VisitState, joined_state}
use Rattle.plan_meaning.specs.Run.{RunStep, and_then, or_wrong, ◌>>=◌, weighed_value}
use Rattle.plan_meaning.specs.Meaning.{Env, meaning, as_int, as_items, applied_at, applied_function, entered_function, left_along, right_along}
use Rattle.plan_meaning.specs.Safe.{IsSafe}
use Rattle.plan_eval_state.specs.declared.continuation.Activation.{Activation}
use Rattle.plan_eval_state.specs.declared.continuation.Continuation.TheVariants as cont
use Rattle.plan_eval_state.specs.declared.progress.Progress.{Progress}
use Rattle.plan_eval_state.specs.declared.progress.Progress.TheVariants as came
use Rattle.plan_eval_state.specs.declared.run.Run.{Run}
use Rattle.plan_eval_state.specs.Leads.{Leads}
use Rattle.plan_eval_state.specs.Forms.{made, folded, folder, in_turn, step_args}
use Rattle.plan_eval_state.specs.Spots.{Spot, layer, means, body_in, left_behind, after_step, step, resume}
use Rattle.plan_eval_state.specs.Laws.{makes}
use Rattle.plan_eval_state.specs.Flow.{now, Flows, Spends, Lasts}
use Rattle.plan_eval_state.proofs.Leading.{onward, along, later, regrouped, given_on, given_back, gave_on}
use Rattle.plan_eval_state.proofs.Stepping.{unguarded}
use Rattle.plan_eval_state.proofs.Forming.{enters}
use Rattle.plan_eval_state.proofs.Lawful as law
use Rattle.plan_eval_made.specs.declared.here.Here.{Here}
use Rattle.plan_eval_made.specs.Where.{spot, Ready}
use Rattle.plan_eval_made.specs.Comes.{Keeps, Comes, Continues, FoldsOn, turning, turning_here}
use Rattle.plan_eval_made.specs.Makes.{Stays}
use Rattle.plan_eval_made.specs.Takes.{left_of, Takes, TakesNone, StopsAt}
use Rattle.plan_eval_forms.specs.Parts.{made_here, MakesOn, args_from, Enters, IsFold, step_at, stepping, stepping_here, items_or_none, items_left, Stepped}
use Rattle.plan_eval_forms.proofs.Running.{continues_led, continues_from, continues_settled, keeps_quiet, keeps_on, keeps_done}
use Rattle.plan_eval_forms.proofs.Waiting.{BackFlows, waits_for}
use Rattle.plan_eval_forms.proofs.Wheres.{has_env}
use Rattle.plan_eval_forms.proofs.Branching.{le_same, two_top, on_two, safe_two}

-- ---- the values on top

pub three_top : (stack : List Value) → 3 ≤ length stack → (x : Value) × (y : Value) × (z : Value) × (stack ≡ x ∷ y ∷ z ∷ drop 3 stack)
three_top [] h = absurd (omega (arith, h))
three_top (x ∷ []) h = absurd (omega (arith, h))
three_top (x ∷ y ∷ []) h = absurd (omega (arith, h))
three_top (x ∷ y ∷ z ∷ stack) h = (x, y, z, refl)

pub four_top : (stack : List Value) → 4 ≤ length stack → (w : Value) × (x : Value) × (y : Value) × (z : Value) × (stack ≡ w ∷ x ∷ y ∷ z ∷ drop 4 stack)
four_top [] h = absurd (omega (arith, h))
four_top (w ∷ []) h = absurd (omega (arith, h))
four_top (w ∷ x ∷ []) h = absurd (omega (arith, h))
four_top (w ∷ x ∷ y ∷ []) h = absurd (omega (arith, h))
four_top (w ∷ x ∷ y ∷ z ∷ stack) h = (w, x, y, z, refl)

-- ---- a fold begins

int_is : (n : ℕ) → as_int (value.Int (pos n)) ≡ Some (pos n)
unfolding as_int
int_is n = grind (arith, trees)

module _ (s : Spot) (st : VisitState) (f : Name) (acc v : Value) (fold : folder (layer s) ≡ Some f) (safe : IsSafe (makes s (acc ∷ v ∷ []) st).asks) where
  some_items : (l : ExprLayer) (o : Option (List Value)) → folder l ≡ Some f → o ≡ as_items v → IsSafe ((made s.code s.fun s.env l (acc ∷ v ∷ []) >>= weighed_value) st).asks
      → (xs : List Value) × (o ≡ Some xs)
  some_items (Expr-F.Foldl g a l) (Some xs) is same h = (xs, refl)
  some_items (Expr-F.Foldr g a l) (Some xs) is same h = (xs, refl)
  some_items (Expr-F.Foldl g a l) None is same h = let k = rw (sym same) at h in absurd k.0.0
  some_items (Expr-F.Foldr g a l) None is same h = let k = rw (sym same) at h in absurd k.0.0
  some_items _ o is same h = absurd (none-some is)

  fold_begins : Leads (makes s (acc ∷ v ∷ []) st) (turning s (acc ∷ value.Int (pos 0) ∷ v ∷ []) st)
  fold_begins =
      let items = some_items (layer s) (as_items v) fold refl safe in
      let left : left_behind (layer s) (as_int (value.Int (pos 0))) (as_items v) ≡ Some (in_turn (layer s) items.0) =
      ap (λ o. left_behind (layer s) o (as_items v)) (int_is 0) ∙ ap (left_behind (layer s) (Some (pos 0))) items.1 in
      onward _ _ _ (law.folds s st f acc v items.0 fold items.1)
      (rw left (given_back (in_turn (layer s) items.0) st (λ xs. folded s.code s.fun s.env (layer s) acc xs >>= weighed_value)))

-- a fold by its values, and by the stack
pub on_three : (here : Here) (e : Expr) (depth : ℕ) (old : Run) (from : ServiceState) (p : Progress) (new : Run) (to : ServiceState) (acc n list : Value) (pre : List Value)
    → old.stack ≡ acc ∷ n ∷ list ∷ pre
    → Continues depth (spot here e pre) pre (turning (spot here e pre) (acc ∷ n ∷ list ∷ []) (now old from)) old from p new to → FoldsOn here e depth old from p new to
on_three here e depth old from p new to acc n list pre is h =
    subst (λ l. Continues depth (spot here e (drop 3 l)) (drop 3 l) (turning (spot here e (drop 3 l)) (take 3 l) (now old from)) old from p new to) (sym is) h

off_three : (here : Here) (e : Expr) (depth : ℕ) (old : Run) (from : ServiceState) (p : Progress) (new : Run) (to : ServiceState) (acc n list : Value) (pre : List Value)
    → old.stack ≡ acc ∷ n ∷ list ∷ pre → FoldsOn here e depth old from p new to
    → Continues depth (spot here e pre) pre (turning (spot here e pre) (acc ∷ n ∷ list ∷ []) (now old from)) old from p new to
off_three here e depth old from p new to acc n list pre is h =
    subst (λ l. Continues depth (spot here e (drop 3 l)) (drop 3 l) (turning (spot here e (drop 3 l)) (take 3 l) (now old from)) old from p new to) is h

turning_is : (here : Here) (e : Expr) (run : Run) (m : ServiceState) (acc n list : Value) (pre : List Value) → run.stack ≡ acc ∷ n ∷ list ∷ pre
    → turning_here here e run m ≡ turning (spot here e pre) (acc ∷ n ∷ list ∷ []) (now run m)
turning_is here e run m acc n list pre is = ap (λ l. turning (spot here e (drop 3 l)) (take 3 l) (now run m)) is

stepping_is : (here : Here) (e : Expr) (run : Run) (m : ServiceState) (w u n list : Value) (pre : List Value) → run.stack ≡ w ∷ u ∷ n ∷ list ∷ pre
    → stepping_here here e run m ≡ stepping (spot here e pre) (w ∷ u ∷ n ∷ list ∷ []) (now run m)
stepping_is here e run m w u n list pre is = ap (λ l. stepping (spot here e (drop 4 l)) (take 4 l) (now run m)) is

fold_folder : (l : ExprLayer) → IsFold l → (f : Name) × (folder l ≡ Some f)
fold_folder (Expr-F.Foldl g a b) h = (g, refl)
fold_folder (Expr-F.Foldr g a b) h = (g, refl)
fold_folder _ h = absurd h

-- what takes items is a fold
turning_folder : (code : Program) (fun : ℕ) (env : Env) (st : VisitState) (acc : Value) (l : ExprLayer) (o : Option (List Value))
    → IsSafe ((or_wrong o >>= (λ left. folded code fun env l acc left >>= weighed_value)) st).asks → (f : Name) × (folder l ≡ Some f)
turning_folder code fun env st acc (Expr-F.Foldl g a b) o h = (g, refl)
turning_folder code fun env st acc (Expr-F.Foldr g a b) o h = (g, refl)
turning_folder code fun env st acc _ (Some left) h = absurd h.1.0
turning_folder code fun env st acc _ None h = absurd h.0

pub here_folder : (here : Here) (e : Expr) (run : Run) (m : ServiceState) → 3 ≤ length run.stack → IsSafe (turning_here here e run m).asks → (f : Name) × (folder (out-Expr e) ≡ Some f)
here_folder here e run m high safe =
    let t = three_top run.stack high in
    let s = spot here e (drop 3 run.stack) in
    turning_folder here.code.now here.fun s.env (now run m) t.0 (out-Expr e) (left_behind (out-Expr e) (as_int t.1) (as_items t.2))
    (subst (λ r. IsSafe r.asks) (turning_is here e run m t.0 t.1 t.2 (drop 3 run.stack) t.3) safe)

module _ (here : Here) (e : Expr) (depth : ℕ) (run : Run) (m : ServiceState) (form : IsFold (out-Expr e)) (high : 2 ≤ length run.stack) (ready : Ready here (drop 2 run.stack) run.codes)
    (safe : IsSafe (made_here here e 2 run m).asks) (mid : Run)
    (begun : (acc list : Value) (pre : List Value) → run.stack ≡ list ∷ acc ∷ pre → mid.stack ≡ acc ∷ value.Int (pos 0) ∷ list ∷ pre) (stays : Stays run mid) where
  begun_stack : mid.stack ≡ (two_top run.stack high).1 ∷ value.Int (pos 0) ∷ (two_top run.stack high).0 ∷ drop 2 run.stack
  begun_stack = let t = two_top run.stack high in begun t.1 t.0 (drop 2 run.stack) t.2

  begun_leads : Leads (makes (spot here e (drop 2 run.stack)) ((two_top run.stack high).1 ∷ (two_top run.stack high).0 ∷ []) (now run m))
      (turning (spot here e (drop 2 run.stack)) ((two_top run.stack high).1 ∷ value.Int (pos 0) ∷ (two_top run.stack high).0 ∷ []) (now mid m))
  begun_leads =
      let t = two_top run.stack high in
      let f = fold_folder (out-Expr e) form in
      let s = spot here e (drop 2 run.stack) in
      subst (λ o. Leads (makes s (t.1 ∷ t.0 ∷ []) (now run m)) (turning s (t.1 ∷ value.Int (pos 0) ∷ t.0 ∷ []) (joined_state o m))) (sym stays.state)
      (fold_begins s (now run m) f.0 t.1 t.0 f.1 (safe_two here e run m t.1 t.0 (drop 2 run.stack) t.2 safe))

  pub begun_ready : Ready here (drop 3 mid.stack) mid.codes
  begun_ready = subst (λ l. Ready here (drop 3 l) mid.codes) (sym begun_stack) (subst (λ cs. Ready here (drop 2 run.stack) cs) (sym stays.codes) ready)

  pub begun_high : 3 ≤ length mid.stack
  begun_high = omega (arith, ap length begun_stack)

  pub begun_safe : IsSafe (turning_here here e mid m).asks
  begun_safe =
      let t = two_top run.stack high in
      subst (λ r. IsSafe r.asks) (sym (turning_is here e mid m t.1 (value.Int (pos 0)) t.0 (drop 2 run.stack) begun_stack))
      (begun_leads.safe (safe_two here e run m t.1 t.0 (drop 2 run.stack) t.2 safe))

  pub begun_on : (p : Progress) (new : Run) (to : ServiceState) → FoldsOn here e depth mid m p new to → MakesOn here e 2 depth run m p new to
  begun_on p new to h =
      let t = two_top run.stack high in
      let s = spot here e (drop 2 run.stack) in
      on_two here e depth run m p new to t.1 t.0 (drop 2 run.stack) t.2
      (continues_from depth s (drop 2 run.stack) (makes s (t.1 ∷ t.0 ∷ []) (now run m)) run m p new to mid m (keeps_quiet run mid m (le_same _ _ (ap (λ o. o.work) stays.state)) stays.codes)
      (continues_led depth s (drop 2 run.stack) (makes s (t.1 ∷ t.0 ∷ []) (now run m)) mid m p new to (turning s (t.1 ∷ value.Int (pos 0) ∷ t.0 ∷ []) (now mid m))
      (safe_two here e run m t.1 t.0 (drop 2 run.stack) t.2 safe) begun_leads
      (off_three here e depth mid m p new to t.1 (value.Int (pos 0)) t.0 (drop 2 run.stack) begun_stack h)))

-- ---- an item is taken

-- the two arguments of a step
step_two : (l : ExprLayer) (f : Name) (acc x : Value) → folder l ≡ Some f → (u : Value) × (w : Value) × (step_args l acc x ≡ u ∷ w ∷ [])
step_two (Expr-F.Foldl g a b) f acc x is = (acc, x, refl)
step_two (Expr-F.Foldr g a b) f acc x is = (x, acc, refl)
step_two _ f acc x is = absurd (none-some is)

module _ (code : Program) (fun : ℕ) (env : Env) (st : VisitState) (acc n list item taken : Value) (left : List Value) where
  -- what is made behind a step of one layer
  abbrev goes_on : ExprLayer → Value → Value → RunStep Value
  goes_on l u w = and_then (applied_at meaning code (step_at l code fun) (u ∷ w ∷ []) st)
      (λ v. or_wrong (left_behind l (as_int taken) (as_items list)) >>= (λ xs. folded code fun env l v xs >>= weighed_value))

  take_in_form : (l : ExprLayer) (f : Name) → folder l ≡ Some f → left_of l n list ≡ Some (item ∷ left) → left_of l taken list ≡ Some left → (u w : Value) → step_args l acc item ≡ u ∷ w ∷ []
      → Leads ((or_wrong (left_behind l (as_int n) (as_items list)) >>= (λ xs. folded code fun env l acc xs >>= weighed_value)) st) (goes_on l u w)
  unfolding applied_function
  take_in_form (Expr-F.Foldl g a b) f is before behind u w args =
      let first : acc ≡ u = cc in
      let second : item ≡ w = cc in
      rw (before, sym first, sym second)
      (onward _ _ _ (given_on (item ∷ left) st (λ xs. left_along meaning code fun g acc xs >>= weighed_value))
      (onward _ _ _ (regrouped (applied_function meaning code fun g (acc ∷ item ∷ []) st) (λ v. left_along meaning code fun g v left) weighed_value)
      (later (applied_function meaning code fun g (acc ∷ item ∷ []) st) (λ v. left_along meaning code fun g v left >>= weighed_value)
      (λ v. or_wrong (left_behind (Expr-F.Foldl g a b) (as_int taken) (as_items list)) >>= (λ xs. left_along meaning code fun g v xs >>= weighed_value))
      (λ v t. rw behind (given_back left t (λ xs. left_along meaning code fun g v xs >>= weighed_value))))))
  take_in_form (Expr-F.Foldr g a b) f is before behind u w args =
      let first : item ≡ u = cc in
      let second : acc ≡ w = cc in
      rw (before, sym first, sym second)
      (onward _ _ _ (given_on (item ∷ left) st (λ xs. right_along meaning code fun g acc xs >>= weighed_value))
      (onward _ _ _ (regrouped (applied_function meaning code fun g (item ∷ acc ∷ []) st) (λ v. right_along meaning code fun g v left) weighed_value)
      (later (applied_function meaning code fun g (item ∷ acc ∷ []) st) (λ v. right_along meaning code fun g v left >>= weighed_value)
      (λ v. or_wrong (left_behind (Expr-F.Foldr g a b) (as_int taken) (as_items list)) >>= (λ xs. right_along meaning code fun g v xs >>= weighed_value))
      (λ v t. rw behind (given_back left t (λ xs. right_along meaning code fun g v xs >>= weighed_value))))))
  take_in_form _ f is before behind u w args = absurd (none-some is)

-- the run after an item was taken, over plain variables
module _ (here : Here) (e : Expr) (f : Name) (fold : folder (out-Expr e) ≡ Some f) (run mid : Run) (m : ServiceState) (acc n list : Value) (pre : List Value) (stacked : run.stack ≡ acc ∷ n ∷ list ∷ pre)
    (t : Takes (out-Expr e) acc n list pre run mid) where
  abbrev first_arg : Value
  first_arg = (step_two (out-Expr e) f acc t.item fold).0

  abbrev second_arg : Value
  second_arg = (step_two (out-Expr e) f acc t.item fold).1

  taken_stack : mid.stack ≡ second_arg ∷ first_arg ∷ t.taken ∷ list ∷ pre
  taken_stack = t.stacked ∙ ap (λ l. reverse l ++ t.taken ∷ list ∷ pre) (step_two (out-Expr e) f acc t.item fold).2

  pub taken_leads : Leads (turning_here here e run m) (stepping_here here e mid m)
  taken_leads =
      let s = spot here e pre in
      let one : Leads (turning s (acc ∷ n ∷ list ∷ []) (now run m)) (stepping s (second_arg ∷ first_arg ∷ t.taken ∷ list ∷ []) (now run m)) =
      take_in_form here.code.now here.fun s.env (now run m) acc n list t.item t.taken t.left (out-Expr e) f fold t.before t.behind first_arg second_arg (step_two (out-Expr e) f acc t.item fold).2 in
      subst (λ r. Leads r (stepping_here here e mid m)) (sym (turning_is here e run m acc n list pre stacked))
      (subst (λ r. Leads (turning s (acc ∷ n ∷ list ∷ []) (now run m)) r) (sym (stepping_is here e mid m second_arg first_arg t.taken list pre taken_stack))
      (subst (λ o. Leads (turning s (acc ∷ n ∷ list ∷ []) (now run m)) (stepping s (second_arg ∷ first_arg ∷ t.taken ∷ list ∷ []) (joined_state o m))) (sym t.stays.state) one))

  pub taken_below : drop 4 mid.stack ≡ drop 3 run.stack
  taken_below = ap (drop 4) taken_stack ∙ ap (drop 3) (sym stacked)

  pub taken_high : 4 ≤ length mid.stack
  taken_high = omega (arith, ap length taken_stack)

  pub taken_keeps : Keeps run m mid m
  taken_keeps = keeps_quiet run mid m (le_same _ _ (ap (λ o. o.work) t.stays.state)) t.stays.codes

  -- one item less is left behind the step
  pub taken_less : (new : Run) (v : Value) → new.stack ≡ v ∷ drop 2 mid.stack → length (items_left (out-Expr e) new.stack) < length (items_left (out-Expr e) run.stack)
  taken_less new v is =
      let after : items_left (out-Expr e) new.stack ≡ t.left =
      ap (items_left (out-Expr e)) (is ∙ ap (λ l. v ∷ drop 2 l) taken_stack) ∙ ap items_or_none t.behind in
      let before : items_left (out-Expr e) run.stack ≡ t.item ∷ t.left = ap (items_left (out-Expr e)) stacked ∙ ap items_or_none t.before in
      omega (arith, ap length after, ap length before)

-- the same of the last three values of a stack that is so high
module _ (here : Here) (e : Expr) (form : (f : Name) × (folder (out-Expr e) ≡ Some f)) (run mid : Run) (m : ServiceState) (high : 3 ≤ length run.stack)
    (takes : (acc n list : Value) (pre : List Value) → run.stack ≡ acc ∷ n ∷ list ∷ pre → Takes (out-Expr e) acc n list pre run mid) where
  abbrev three : (x : Value) × (y : Value) × (z : Value) × (run.stack ≡ x ∷ y ∷ z ∷ drop 3 run.stack)
  three = three_top run.stack high

  abbrev the_folder : (f : Name) × (folder (out-Expr e) ≡ Some f)
  the_folder = form

  the_takes : Takes (out-Expr e) three.0 three.1 three.2 (drop 3 run.stack) run mid
  the_takes = takes three.0 three.1 three.2 (drop 3 run.stack) three.3

  pub item_leads : Leads (turning_here here e run m) (stepping_here here e mid m)
  item_leads = taken_leads here e the_folder.0 the_folder.1 run mid m three.0 three.1 three.2 (drop 3 run.stack) three.3 the_takes

  pub item_below : drop 4 mid.stack ≡ drop 3 run.stack
  item_below = taken_below here e the_folder.0 the_folder.1 run mid m three.0 three.1 three.2 (drop 3 run.stack) three.3 the_takes

  pub item_high : 4 ≤ length mid.stack
  item_high = taken_high here e the_folder.0 the_folder.1 run mid m three.0 three.1 three.2 (drop 3 run.stack) three.3 the_takes

  pub item_keeps : Keeps run m mid m
  item_keeps = taken_keeps here e the_folder.0 the_folder.1 run mid m three.0 three.1 three.2 (drop 3 run.stack) three.3 the_takes

  pub item_bare : mid.paused ≡ run.paused
  item_bare = let t = the_takes in t.stays.paused

  pub item_less : (new : Run) (v : Value) → new.stack ≡ v ∷ drop 2 mid.stack → length (items_left (out-Expr e) new.stack) < length (items_left (out-Expr e) run.stack)
  item_less new v is = taken_less here e the_folder.0 the_folder.1 run mid m three.0 three.1 three.2 (drop 3 run.stack) three.3 the_takes new v is

-- ---- a step

rest_of_two : (v : Value) (stack : List Value) → drop 3 (v ∷ drop 2 stack) ≡ drop 4 stack
rest_of_two v [] = refl
rest_of_two v (x ∷ []) = refl
rest_of_two v (x ∷ y ∷ stack) = refl

pub stepped_high : (stack new : List Value) (v : Value) → 4 ≤ length stack → new ≡ v ∷ drop 2 stack → 3 ≤ length new
stepped_high [] new v h is = absurd (omega (arith, h))
stepped_high (x ∷ []) new v h is = absurd (omega (arith, h))
stepped_high (x ∷ y ∷ stack) new v h is = omega (arith, h, ap length is)

pub stepped_below : (stack new : List Value) (v : Value) → new ≡ v ∷ drop 2 stack → drop 3 new ≡ drop 4 stack
stepped_below stack new v is = ap (drop 3) is ∙ rest_of_two v stack

module _ (here : Here) (e : Expr) (depth : ℕ) (run : Run) (m : ServiceState) (high : 4 ≤ length run.stack) (ready : Ready here (drop 4 run.stack) run.codes)
    (safe : IsSafe (stepping_here here e run m).asks) (a : Activation) (number : a.number ≡ here.number) (base : a.base + 2 ≡ length run.stack)
    (found : step_at (out-Expr e) here.code.now here.fun ≡ Some a.fun) where
  abbrev four : (w : Value) × (u : Value) × (n : Value) × (l : Value) × (run.stack ≡ w ∷ u ∷ n ∷ l ∷ drop 4 run.stack)
  four = four_top run.stack high

  abbrev held_here : List Value
  held_here = four.0 ∷ four.1 ∷ four.2 ∷ four.3 ∷ []

  step_args_are : args_from a.base run.stack ≡ four.1 ∷ four.0 ∷ []
  step_args_are =
      let two : length run.stack - a.base ≡ 2 = omega (arith, base) in
      ap (λ k. reverse (take k run.stack)) two ∙ ap (λ l. reverse (take 2 l)) four.4

  pub step_high : a.base ≤ length run.stack
  step_high = omega (arith, base)

  abbrev entered_step : RunStep Value
  entered_step = entered_function meaning here.code.now a.fun (args_from a.base run.stack) (now run m)

  entering_leads : Leads (stepping_here here e run m) (and_then entered_step (after_step (spot here e (drop 4 run.stack)) held_here))
  entering_leads =
      let s = spot here e (drop 4 run.stack) in
      let at : stepping s held_here (now run m) ≡ and_then entered_step (after_step s held_here) =
      ap (λ o. and_then (applied_at meaning here.code.now o (four.1 ∷ four.0 ∷ []) (now run m)) (after_step s held_here)) found
      ∙ ap (λ l. and_then (entered_function meaning here.code.now a.fun l (now run m)) (after_step s held_here)) (sym step_args_are) in
      subst (λ r. Leads (stepping_here here e run m) r) (stepping_is here e run m four.0 four.1 four.2 four.3 (drop 4 run.stack) four.4 ∙ at)
      (record { same = λ _. refl; safe = λ h. h })

  pub step_safe : IsSafe entered_step.asks
  step_safe = (entering_leads.safe safe).0

  module _ (p : Progress) (mid : Run) (via : ServiceState) (h : Enters here.code.now a depth run m p mid via) where
    inner_leads : Leads (stepping_here here e run m) (resume (spot here e (drop 4 run.stack)) (cont.Step a) held_here (means h.next (now run m)))
    inner_leads =
        let s = spot here e (drop 4 run.stack) in
        onward _ _ _ entering_leads (along _ _ (after_step s held_here) (enters here.code.now a (args_from a.base run.stack) h.next (now run m) h.body))

    step_body : step mid.codes (spot here e (drop 4 run.stack)) (cont.Step a) held_here ≡ Some h.next
    step_body =
        unguarded a.number here.number (body_in (Some here.code.now) a (four.1 ∷ four.0 ∷ [])) number ∙ ap (body_in (Some here.code.now) a) (sym step_args_are) ∙ h.body

    step_height : a.base ≡ length (drop 4 run.stack) + 2
    step_height = omega (arith, base, ap length four.4)

    pub step_waits : (q : Progress) (new : Run) → BackFlows (cont.Step a) p mid q new → ((d o : ℕ) → Spends d o p mid → Lasts d o q new) → new.codes ≡ mid.codes
        → Continues depth (spot here e (drop 4 run.stack)) (drop 4 run.stack) (stepping_here here e run m) run m q new via
    step_waits q new back lasts codes =
        let s = spot here e (drop 4 run.stack) in
        waits_for depth s h.next (cont.Step a) held_here (drop 4 run.stack) (stepping_here here e run m) (means h.next (now run m)) run m p mid via q new safe inner_leads step_body
        (has_env here e (drop 4 run.stack) run.codes ready) step_height
        (subst (λ l. Comes depth h.next l (means h.next (now run m)) run m p mid via) four.4 h.comes) back lasts codes

  -- its value comes to the place of the arguments
  pub step_gives : (mid : Run) (via : ServiceState) (new : Run) → Enters here.code.now a depth run m came.Done mid via
      → ((x : Value) (held pre : List Value) → mid.stack ≡ x ∷ (held ++ pre) → a.base ≡ length pre → new.stack ≡ x ∷ pre) → new.state ≡ mid.state → new.codes ≡ mid.codes → new.paused ≡ mid.paused
      → Stepped here e run m new via
  step_gives mid via new h slide state codes paused =
      let s = spot here e (drop 4 run.stack) in
      let g = h.comes.flows in
      let four_is = four.4 in
      let low : new.stack ≡ g.v ∷ four.2 ∷ four.3 ∷ drop 4 run.stack =
      slide g.v (four.0 ∷ four.1 ∷ []) (four.2 ∷ four.3 ∷ drop 4 run.stack) (g.stacked ∙ ap (λ l. g.v ∷ l) four_is) (omega (arith, base, ap length four_is)) in
      let one : Leads (stepping_here here e run m) (turning s (g.v ∷ four.2 ∷ four.3 ∷ []) (now mid via)) =
      onward _ _ _ (inner_leads came.Done mid via h) (gave_on (means h.next (now run m)) g.v (now mid via) (after_step s held_here) g.is) in
      record {
        acc = g.v;
        stacked = low ∙ ap (λ l. g.v ∷ drop 2 l) (sym four_is);
        leads = subst (λ r. Leads (stepping_here here e run m) r) (sym (turning_is here e new via g.v four.2 four.3 (drop 4 run.stack) low))
            (subst (λ o. Leads (stepping_here here e run m) (turning s (g.v ∷ four.2 ∷ four.3 ∷ []) (joined_state o via))) (sym state) one);
        none = paused ∙ g.none;
        keeps = keeps_on run mid new m via via (keeps_done depth h.next run.stack (means h.next (now run m)) run m mid via h.comes)
            (keeps_quiet mid new via (le_same _ _ (ap (λ o. o.work) state)) codes);
      }

-- ---- how a fold ends

-- a stack over as many values is as high
pub same_height : (old stack : List Value) (n : ℕ) → n ≡ length old → 3 ≤ length old → 3 ≤ length stack → drop 3 stack ≡ drop 3 old → n - 3 + 3 ≡ length stack
same_height old stack n is high higher below = omega (arith, is, high, higher, ap length below, length-drop 3 stack, length-drop 3 old)

module _ (here : Here) (e : Expr) (depth : ℕ) (old : Run) (from : ServiceState) (run : Run) (m : ServiceState) (below : drop 3 run.stack ≡ drop 3 old.stack) (keeps : Keeps old from run m)
    (leads : Leads (turning_here here e old from) (turning_here here e run m)) (safe : IsSafe (turning_here here e old from).asks) where
  -- one that goes on goes on for the whole
  pub fold_on : (p : Progress) (new : Run) (to : ServiceState) → FoldsOn here e depth run m p new to → FoldsOn here e depth old from p new to
  fold_on p new to h =
      let pre = drop 3 old.stack in
      let s = spot here e pre in
      let at : Continues depth s pre (turning_here here e run m) run m p new to =
      subst (λ l. Continues depth (spot here e l) l (turning_here here e run m) run m p new to) below h in
      continues_from depth s pre (turning_here here e old from) old from p new to run m keeps
      (continues_led depth s pre (turning_here here e old from) run m p new to (turning_here here e run m) safe leads at)

  module _ (form : (f : Name) × (folder (out-Expr e) ≡ Some f)) (high : 3 ≤ length run.stack) where
    -- a step of it came so far
    pub fold_waits : (mid : Run) → ((acc n list : Value) (pre : List Value) → run.stack ≡ acc ∷ n ∷ list ∷ pre → Takes (out-Expr e) acc n list pre run mid)
        → (p : Progress) (new : Run) (to : ServiceState) → Continues depth (spot here e (drop 4 mid.stack)) (drop 4 mid.stack) (stepping_here here e mid m) mid m p new to
        → FoldsOn here e depth old from p new to
    fold_waits mid takes p new to h =
        let pre = drop 3 run.stack in
        let s = spot here e pre in
        let at : Continues depth s pre (stepping_here here e mid m) mid m p new to =
        subst (λ l. Continues depth (spot here e l) l (stepping_here here e mid m) mid m p new to) (item_below here e form run mid m high takes) h in
        fold_on p new to
        (continues_from depth s pre (turning_here here e run m) run m p new to mid m (item_keeps here e form run mid m high takes)
        (continues_led depth s pre (turning_here here e run m) mid m p new to (stepping_here here e mid m) (leads.safe safe) (item_leads here e form run mid m high takes) at))

    -- no item is left
    pub fold_ends : (mid : Run) → ((acc n list : Value) (pre : List Value) → run.stack ≡ acc ∷ n ∷ list ∷ pre → TakesNone (out-Expr e) n list run mid) → (base : ℕ)
        → base + 3 ≡ length run.stack → (p : Progress) (new : Run)
        → ((s : Spot) (w : Value) (held low : List Value) (k : ServiceState) → mid.stack ≡ w ∷ (held ++ low) → base ≡ length low → Flows s low (weighed_value w (now mid k)) p new k)
        → p ≢ came.Wait → new.state.work ≤ mid.state.work → new.codes ≡ mid.codes → FoldsOn here e depth old from p new m
    fold_ends mid none base height p new ends settled falls codes =
        let t = three_top run.stack high in
        let f = form in
        let pre = drop 3 run.stack in
        let s = spot here e pre in
        let at = none t.0 t.1 t.2 pre t.3 in
        let end : Leads (turning s (t.0 ∷ t.1 ∷ t.2 ∷ []) (now run m)) (weighed_value t.0 (now run m)) =
        rw at.none (onward _ _ _ (given_on [] (now run m) (λ xs. folded s.code s.fun s.env (layer s) t.0 xs >>= weighed_value)) (law.fold_ends s (now run m) f.0 t.0 f.1)) in
        let flows : Flows s pre (weighed_value t.0 (now run m)) p new m =
        subst (λ o. Flows s pre (weighed_value t.0 (joined_state o m)) p new m) at.stays.state
        (ends s t.0 (t.1 ∷ t.2 ∷ []) pre m (at.stacked ∙ t.3) (omega (arith, height, ap length t.3))) in
        fold_on p new m
        (on_three here e depth run m p new m t.0 t.1 t.2 pre t.3
        (continues_led depth s pre (turning s (t.0 ∷ t.1 ∷ t.2 ∷ []) (now run m)) run m p new m (weighed_value t.0 (now run m))
        (subst (λ r. IsSafe r.asks) (turning_is here e run m t.0 t.1 t.2 pre t.3) (leads.safe safe)) end
        (continues_settled depth s pre (weighed_value t.0 (now run m)) run m p new m flows settled
        (keeps_on run mid new m m m (keeps_quiet run mid m (le_same _ _ (ap (λ o. o.work) at.stays.state)) at.stays.codes) (keeps_quiet mid new m falls codes)))))

    -- it stopped
    pub fold_stops : (mid : Run) (p : Progress) → StopsAt (out-Expr e) run p mid → FoldsOn here e depth old from p mid m
    fold_stops mid p h =
        let t = three_top run.stack high in
        let pre = drop 3 run.stack in
        let s = spot here e pre in
        fold_on p mid m
        (on_three here e depth run m p mid m t.0 t.1 t.2 pre t.3
        (continues_settled depth s pre (turning s (t.0 ∷ t.1 ∷ t.2 ∷ []) (now run m)) run m p mid m (h.flows s t.0 t.1 t.2 pre m refl t.3) h.settled
        (keeps_quiet run mid m (le_same _ _ (ap (λ o. o.work) h.stays.state)) h.stays.codes)))
