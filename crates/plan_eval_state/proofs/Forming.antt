-- What each form makes of the values of its operands.
use Rattle.std.proofs.Common.{◌≡◌, ℕ, suc, take, true, false, if◌then◌else◌, Bool, map, List, [], ◌∷◌, reverse, slice_get, Option, Some, None, refl, sym, ap, ◌∙◌, subst}
use Rattle.containers.proofs.Options.{none-some, some-same}
use Rattle.plan_base.specs.declared.name.Name.{Name}
use Rattle.plan_base.specs.declared.prim.Primitive.{Primitive}
use Rattle.plan_base.specs.declared.tree.Exn.{Exn}
use Rattle.plan_base.specs.declared.tree.Svc.{Svc}
use Rattle.plan_base.specs.declared.tree.Fun.{Fun}
use Rattle.plan_base.specs.declared.tree.Chunk.{Chunk}
use Rattle.plan_base.specs.declared.tree.Clause.{Clause}
use Rattle.plan_base.specs.declared.tree.Expr.{Expr, Expr-F}
use Rattle.plan_base.specs.declared.tree.Program.{Program}
use Rattle.plan_base.specs.declared.tree.Value.{Value}
use Rattle.plan_base.specs.declared.tree.Value as value
use Rattle.plan_base.specs.Trees.{ExprLayer}
use Rattle.plan_types_spec.specs.TypingNames.{place_of, service_of, prim_of}
use Rattle.plan_types_spec.specs.Rules.{primitive}
use Rattle.plan_meaning.specs.declared.stop.EvalStop.TheVariants.{Raised}
use Rattle.plan_meaning.specs.State.{VisitState}
use Rattle.plan_meaning.specs.Run.{gave, stopped, RunStep, Run, «next», and_then, ◌>>=◌, ◌>>◌, pure, raise, or_wrong, given_value, serve, otherwise, rescued_step, weighed_value}
use Rattle.plan_meaning.specs.Meaning.{Env, meaning, bound, as_bool, as_int, as_chunk, as_items, catches, called_name, applied_function, entered_function, visited_chunk, pay_eval, handled_exception, opened_at, attempt}
use Rattle.plan_meaning.specs.Meaning.{left_along, right_along}
use Rattle.plan_eval_state.specs.declared.continuation.Activation.{Activation}
use Rattle.plan_eval_state.specs.declared.continuation.Continuation.TheVariants.{Step}
use Rattle.plan_eval_state.specs.Leads.{Leads}
use Rattle.plan_eval_state.specs.Forms.{branches, tried, made, handled, folded, chosen, clause_for, one_more, step_args, folder, in_turn, clauses}
use Rattle.plan_eval_state.specs.Spots.{Spot, layer, means, let_body, body_under, body_with, body_in, left_behind, after_step, resume}
use Rattle.plan_eval_state.proofs.Leading.{itself, onward, along, later, regrouped, given_on, given_back, gave_on}

-- ---- bodies

module _ (code : Program) (a : Activation) (args : List Value) (next_spot : Spot) (st : VisitState) where
  entered_under : (f : Fun) (o : Option Env) → body_under code a f args o ≡ Some next_spot
      → Leads ((or_wrong o >>= (λ env. meaning code a.fun env f.body)) st) (means next_spot st)
  entered_under f None is = absurd (none-some is)
  entered_under f (Some env) is = rw (sym (some-same is)) (given_on env st (λ env. meaning code a.fun env f.body))

  entered_by : (o : Option Fun) → body_with code a args o ≡ Some next_spot
      → Leads ((or_wrong o >>= (λ f. or_wrong (bound f.params args) >>= (λ env. meaning code a.fun env f.body))) st) (means next_spot st)
  entered_by None is = absurd (none-some is)
  entered_by (Some f) is =
      onward _ _ _ (given_on f st (λ f. or_wrong (bound f.params args) >>= (λ env. meaning code a.fun env f.body)))
      (entered_under f (bound f.params args) is)

  -- a function that is entered is its body
  pub enters : body_in (Some code) a args ≡ Some next_spot → Leads (entered_function meaning code a.fun args st) (means next_spot st)
  unfolding entered_function
  enters is = entered_by (slice_get code.funs a.fun) is

module _ (code : Program) (seen : ℕ) (env : Env) (st : VisitState) where
  -- ---- branches

  same_branch : (xs : List Expr) (e f : Expr) (m n : ℕ) → slice_get xs m ≡ Some f → Some m ≡ Some n → slice_get xs n ≡ Some e → f ≡ e
  same_branch xs e f m n there number is = some-same (sym there ∙ ap (slice_get xs) (some-same number) ∙ is)

  -- a truth value that is there decides
  decided : (o : Option Bool) (t : Bool) (p : Bool → Run Value) (e : Expr) → Some t ≡ o → p t ≡ meaning code seen env e
      → Leads ((or_wrong o >>= p >>= weighed_value) st) (and_then (meaning code seen env e st) weighed_value)
  decided o t p e is goes = rw (sym is) (onward _ _ _ (along _ _ weighed_value (given_on t st p)) (rw goes (itself _)))

  -- the branch that is chosen gives the value of the whole
  pub branch_in_form : (l : ExprLayer) (t : Option Bool) (v : Value) (n : ℕ) (e : Expr) → t ≡ as_bool v → chosen l t ≡ Some n → slice_get (branches l) n ≡ Some e
      → Leads ((made code seen env l (v ∷ []) >>= weighed_value) st) (and_then (meaning code seen env e st) weighed_value)
  branch_in_form (Expr-F.If c a b) (Some true) v n e is h there =
      decided (as_bool v) true (λ t. if t then meaning code seen env a else meaning code seen env b) e is (ap (meaning code seen env) (same_branch (a ∷ b ∷ []) e a 0 n refl h there))
  branch_in_form (Expr-F.If c a b) (Some false) v n e is h there =
      decided (as_bool v) false (λ t. if t then meaning code seen env a else meaning code seen env b) e is (ap (meaning code seen env) (same_branch (a ∷ b ∷ []) e b 1 n refl h there))
  branch_in_form (Expr-F.And a b) (Some true) v n e is h there =
      decided (as_bool v) true (λ t. if t then meaning code seen env b else pure (value.Bool false)) e is (ap (meaning code seen env) (same_branch (b ∷ []) e b 0 n refl h there))
  branch_in_form (Expr-F.Or a b) (Some false) v n e is h there =
      decided (as_bool v) false (λ t. if t then pure (value.Bool true) else meaning code seen env b) e is (ap (meaning code seen env) (same_branch (b ∷ []) e b 0 n refl h there))
  branch_in_form (Expr-F.Then a b) t v n e is h there = rw (sym (same_branch (b ∷ []) e b 0 n refl h there)) (itself _)
  branch_in_form _ t v n e is h there = absurd (none-some h)

  -- the body of a `let` gives the value of the whole
  pub let_in_form : (s next_spot : Spot) (l : ExprLayer) (i : ℕ) (v : Value) → let_body s l i v ≡ Some next_spot
      → Leads ((made s.code s.fun s.env l (v ∷ []) >>= weighed_value) st) (and_then (means next_spot st) weighed_value)
  let_in_form s next_spot (Expr-F.Let x t a b) i v h = rw (sym (some-same h)) (itself _)
  let_in_form s next_spot _ i v h = absurd (none-some h)

  -- ---- calls

  -- a call of a function is its body
  pub call_in_form : (f : Name) (es : List Expr) (args : List Value) (a : Activation) (next_spot : Spot) → prim_of f ≡ None → service_of f code.svcs ≡ None
      → place_of f (take seen code.funs) ≡ Some a.fun → body_in (Some code) a args ≡ Some next_spot
      → Leads ((made code seen env (Expr-F.Call f es) args >>= weighed_value) st) (and_then (means next_spot st) weighed_value)
  unfolding called_name applied_function
  call_in_form f es args a next_spot none other is body = rw (none, other, is) (along _ _ weighed_value (enters code a args next_spot st body))

  -- a call of a primitive is what it gives
  pub primitive_in_form : (f : Name) (es : List Expr) (args : List Value) (p : Primitive) → prim_of f ≡ Some p
      → Leads ((made code seen env (Expr-F.Call f es) args >>= weighed_value) st) ((given_value (primitive p args) >>= weighed_value) st)
  unfolding called_name
  primitive_in_form f es args p is = rw is (itself _)

  -- a call of a service is its answer
  pub service_in_form : (f : Name) (es : List Expr) (args : List Value) (d : Svc) → prim_of f ≡ None → service_of f code.svcs ≡ Some d
      → Leads ((made code seen env (Expr-F.Call f es) args >>= weighed_value) st) ((serve d args >>= weighed_value) st)
  unfolding called_name
  service_in_form f es args d none is = rw (none, is) (itself _)

  -- ---- folds

  -- a fold takes the items of its list in turn
  pub fold_in_form : (l : ExprLayer) (f : Name) (acc v : Value) (xs : List Value) → folder l ≡ Some f → as_items v ≡ Some xs
      → Leads ((made code seen env l (acc ∷ v ∷ []) >>= weighed_value) st) ((folded code seen env l acc (in_turn l xs) >>= weighed_value) st)
  fold_in_form (Expr-F.Foldl g a l) f acc v xs fold is = rw is (along _ _ weighed_value (given_on xs st (left_along meaning code seen g acc)))
  fold_in_form (Expr-F.Foldr g a l) f acc v xs fold is = rw is (along _ _ weighed_value (given_on xs st (λ ys. right_along meaning code seen g acc (reverse ys))))
  fold_in_form _ f acc v xs fold is = absurd (none-some fold)

  -- where no item is left, a fold gives its value so far
  pub fold_ends : (l : ExprLayer) (f : Name) (acc : Value) → folder l ≡ Some f → Leads ((folded code seen env l acc [] >>= weighed_value) st) (weighed_value acc st)
  fold_ends (Expr-F.Foldl g a l) f acc fold = given_on acc st weighed_value
  fold_ends (Expr-F.Foldr g a l) f acc fold = given_on acc st weighed_value
  fold_ends _ f acc fold = absurd (none-some fold)

  module _ (a : Activation) (next_spot : Spot) (f : Name) (acc x : Value) (left : List Value) (is : place_of f (take seen code.funs) ≡ Some a.fun) where
    step_left : body_in (Some code) a (acc ∷ x ∷ []) ≡ Some next_spot
        → Leads ((left_along meaning code seen f acc (x ∷ left) >>= weighed_value) st) (and_then (means next_spot st) (λ v. left_along meaning code seen f v left >>= weighed_value))
    unfolding applied_function
    step_left body =
        rw is (onward _ _ _ (regrouped (entered_function meaning code a.fun (acc ∷ x ∷ []) st) (λ v. left_along meaning code seen f v left) weighed_value)
        (along _ _ (λ v. left_along meaning code seen f v left >>= weighed_value) (enters code a (acc ∷ x ∷ []) next_spot st body)))

    step_right : body_in (Some code) a (x ∷ acc ∷ []) ≡ Some next_spot
        → Leads ((right_along meaning code seen f acc (x ∷ left) >>= weighed_value) st) (and_then (means next_spot st) (λ v. right_along meaning code seen f v left >>= weighed_value))
    unfolding applied_function
    step_right body =
        rw is (onward _ _ _ (regrouped (entered_function meaning code a.fun (x ∷ acc ∷ []) st) (λ v. right_along meaning code seen f v left) weighed_value)
        (along _ _ (λ v. right_along meaning code seen f v left >>= weighed_value) (enters code a (x ∷ acc ∷ []) next_spot st body)))

  -- a step of a fold is the body of its function, and what is made of its value
  pub step_in_form : (l : ExprLayer) (f : Name) (a : Activation) (next_spot : Spot) (acc x : Value) (left : List Value) → folder l ≡ Some f
      → place_of f (take seen code.funs) ≡ Some a.fun → body_in (Some code) a (step_args l acc x) ≡ Some next_spot
      → Leads ((folded code seen env l acc (x ∷ left) >>= weighed_value) st) (and_then (means next_spot st) (λ v. folded code seen env l v left >>= weighed_value))
  step_in_form (Expr-F.Foldl g b l) f a next_spot acc x left fold is body =
      step_left a next_spot g acc x left (ap (λ n. place_of n (take seen code.funs)) (some-same fold) ∙ is) body
  step_in_form (Expr-F.Foldr g b l) f a next_spot acc x left fold is body =
      step_right a next_spot g acc x left (ap (λ n. place_of n (take seen code.funs)) (some-same fold) ∙ is) body
  step_in_form _ f a next_spot acc x left fold is body = absurd (none-some fold)

  -- behind that step the fold goes on with the items that are left behind those that were taken
  pub step_goes_on : (s next_spot : Spot) (a : Activation) (w u n l : Value) (left : List Value) → left_behind (layer s) (as_int n) (as_items l) ≡ Some left
      → Leads (and_then (means next_spot st) (λ v. folded s.code s.fun s.env (layer s) v left >>= weighed_value)) (resume s (Step a) (w ∷ u ∷ n ∷ l ∷ []) (means next_spot st))
  step_goes_on s next_spot a w u n l left is =
      later (means next_spot st) (λ v. folded s.code s.fun s.env (layer s) v left >>= weighed_value) (after_step s (w ∷ u ∷ n ∷ l ∷ []))
      (λ v t. rw is (given_back left t (λ xs. folded s.code s.fun s.env (layer s) v xs >>= weighed_value)))

  -- ---- chunks

  -- an eval that is paid is the body of the chunk's entry, whose value is dropped
  pub eval_in_form : (b : Expr) (v : Value) (k : Chunk) (t : VisitState) (a : Activation) (next_spot : Spot) → as_chunk v ≡ Some k → (pay_eval st).after ≡ gave tt t
      → place_of k.entry k.code.funs ≡ Some a.fun → body_in (Some k.code) a k.args ≡ Some next_spot
      → Leads ((made code seen env (Expr-F.Eval b) (v ∷ []) >>= weighed_value) st) (and_then (means next_spot t) (λ v. pure value.Unit >>= weighed_value))
  unfolding visited_chunk
  eval_in_form b v k t a next_spot is paid there body = rw is
      (onward _ _ _ (along _ _ weighed_value (given_on k st (λ c. pay_eval >> (visited_chunk meaning c >> pure value.Unit))))
      (onward _ _ _ (regrouped (pay_eval st) (λ _. visited_chunk meaning k >> pure value.Unit) weighed_value)
      (onward _ _ _ (gave_on (pay_eval st) tt t (λ _. visited_chunk meaning k >> pure value.Unit >>= weighed_value) paid)
      (onward _ _ _ (regrouped (visited_chunk meaning k t) (λ _. pure value.Unit) weighed_value)
      (along _ _ (λ _. pure value.Unit >>= weighed_value) (rw there (enters k.code a k.args next_spot t body)))))))

  -- ---- exceptions

  -- a `try` begins with its expression
  pub try_in_form : (l : ExprLayer) (e : Expr) → tried l ≡ Some e
      → Leads ((opened_at meaning code seen env l >>= weighed_value) st) (and_then (rescued_step (meaning code seen env e st) (handled code seen env l)) weighed_value)
  unfolding attempt
  try_in_form (Expr-F.Try a ks) e is = rw (sym (some-same is)) (itself _)
  try_in_form _ e is = absurd (none-some is)

module _ (code : Program) (seen : ℕ) (env : Env) where
  -- the clause that catches it gives what follows
  pub clause_catches : (ks : List Clause) (x : Exn) (n : ℕ) (e : Expr) → clause_for ks x ≡ Some n → slice_get (map (λ k. k.body) ks) n ≡ Some e
      → handled_exception meaning code seen env ks x ≡ meaning code seen env e
  clause_catches [] x n e is there = absurd (none-some is)
  clause_catches (k ∷ ks) x n e is there = by (catches k.name x) (clause_for ks x) is refl (λ m h t. clause_catches ks x m e h t)
    where
      by : (c : Bool) (o : Option ℕ) → (if c then Some 0 else one_more o) ≡ Some n → o ≡ clause_for ks x
          → ((m : ℕ) → clause_for ks x ≡ Some m → slice_get (map (λ k. k.body) ks) m ≡ Some e → handled_exception meaning code seen env ks x ≡ meaning code seen env e)
          → (if c then meaning code seen env k.body else handled_exception meaning code seen env ks x) ≡ meaning code seen env e
      by true o h same again =
          let at : slice_get (map (λ k. k.body) (k ∷ ks)) 0 ≡ Some e = subst (λ m. slice_get (map (λ k. k.body) (k ∷ ks)) m ≡ Some e) (sym (some-same h)) there in
          ap (meaning code seen env) (some-same at)
      by false None h same again = absurd (none-some h)
      by false (Some m) h same again =
          let at : slice_get (map (λ k. k.body) (k ∷ ks)) (suc m) ≡ Some e = subst (λ m. slice_get (map (λ k. k.body) (k ∷ ks)) m ≡ Some e) (sym (some-same h)) there in
          again m (sym same) at

  -- where none does, it goes on
  pub no_clause_catches : (ks : List Clause) (x : Exn) → clause_for ks x ≡ None → handled_exception meaning code seen env ks x ≡ raise x
  no_clause_catches [] x is = refl
  no_clause_catches (k ∷ ks) x is = by (catches k.name x) (clause_for ks x) is refl (no_clause_catches ks x)
    where
      by : (c : Bool) (o : Option ℕ) → (if c then Some 0 else one_more o) ≡ None → o ≡ clause_for ks x → (clause_for ks x ≡ None → handled_exception meaning code seen env ks x ≡ raise x)
          → (if c then meaning code seen env k.body else handled_exception meaning code seen env ks x) ≡ raise x
      by true o h same again = absurd (none-some (sym h))
      by false None h same again = again (sym same)
      by false (Some m) h same again = absurd (none-some (sym h))

  rescued_on : (r : RunStep Value) (f : Exn → Run Value) (x : Exn) (st : VisitState) → r.after ≡ stopped (Raised x) st → Leads (rescued_step r f) (f x st)
  rescued_on r f x st is = record { same = λ _. ap (λ a. (otherwise a f).after) is; safe = λ k. rw is at k.1 }

  -- the expression of a `try` raised an exception that a clause catches
  pub caught_in_form : (l : ExprLayer) (r : RunStep Value) (x : Exn) (n : ℕ) (e : Expr) (st : VisitState) → r.after ≡ stopped (Raised x) st → clause_for (clauses l) x ≡ Some n
      → slice_get (map (λ k. k.body) (clauses l)) n ≡ Some e
      → Leads (and_then (rescued_step r (handled code seen env l)) weighed_value) (and_then (meaning code seen env e st) weighed_value)
  caught_in_form l r x n e st is h there =
      along _ _ weighed_value (onward _ _ _ (rescued_on r (handled code seen env l) x st is) (rw (clause_catches (clauses l) x n e h there) (itself _)))

  -- the same where no clause does
  pub uncaught_in_form : (l : ExprLayer) (r : RunStep Value) (x : Exn) (st : VisitState) → r.after ≡ stopped (Raised x) st → clause_for (clauses l) x ≡ None
      → (and_then (rescued_step r (handled code seen env l)) weighed_value).after ≡ stopped (Raised x) st
  uncaught_in_form l r x st is none =
      ap (λ a. («next» (otherwise a (handled code seen env l)).after weighed_value).after) is ∙ ap (λ h. («next» (h st).after weighed_value).after) (no_clause_catches (clauses l) x none)
