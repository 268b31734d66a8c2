-- How an expression begins and goes on, over plain variables.
use Rattle.std.proofs.Common.{◌≡◌, ℕ, zero, suc, ◌+◌, arith, List, [], ◌∷◌, ◌++◌, reverse, drop, slice_get, Some, None, refl, sym, ap, ◌∙◌, subst}
use Rattle.std.proofs.lemmas.List.{reverse-append}
use Rattle.containers.proofs.Options.{none-some, some-same}
use Rattle.plan_base.specs.declared.tree.Exn.{Exn}
use Rattle.plan_base.specs.declared.tree.Expr.{Expr}
use Rattle.plan_base.specs.declared.tree.Value.{Value}
use Rattle.plan_meaning.specs.declared.stop.EvalStop.{EvalStop}
use Rattle.plan_meaning.specs.declared.stop.EvalStop.TheVariants.{Raised, WorkSpent, Wrong, NoMemory}
use Rattle.plan_meaning.specs.State.{VisitState}
use Rattle.plan_meaning.specs.Run.{gave, stopped, RunStep, Run, «next», and_then, ◌>>=◌, quiet, otherwise, rescued_step, whole, spend, weighed_value}
use Rattle.plan_meaning.specs.Meaning.{meaning, node, opened_expression}
use Rattle.plan_meaning.proofs.Within.{meaning_is_fixed}
use Rattle.plan_eval_state.specs.declared.continuation.Continuation.{Continuation}
use Rattle.plan_eval_state.specs.declared.continuation.Continuation.TheVariants.{Part, Last, Try, Bound, Call, Step, Chunk}
use Rattle.plan_eval_state.specs.Leads.{Leads}
use Rattle.plan_eval_state.specs.Forms.{IsOperation, operands, made, made_behind, handled}
use Rattle.plan_eval_state.specs.Spots.{Spot, layer, means, begins, after_operand, resume}
use Rattle.plan_eval_state.specs.Flow.{PassesOn}
use Rattle.plan_eval_state.proofs.Leading.{itself, onward, along, rescued_along, regrouped, given_on, gave_on}
use Rattle.plan_eval_state.proofs.Opening.{opens}

-- ---- lists of parts

pub drop_front : {A : Type 0} (xs : List A) (n : ℕ) (x : A) → slice_get xs n ≡ Some x → drop n xs ≡ x ∷ drop (n + 1) xs
drop_front [] n x is = absurd (none-some is)
drop_front (y ∷ xs) zero x is = let e : y ≡ x = some-same is in ap (λ z. z ∷ xs) e
drop_front (y ∷ xs) (suc n) x is =
    let e : suc (n + 1) ≡ suc n + 1 = omega arith in
    drop_front xs n x is ∙ ap (λ m. x ∷ drop m (y ∷ xs)) e

pub drop_end : {A : Type 0} (xs : List A) (n : ℕ) → slice_get xs n ≡ None → drop n xs ≡ []
drop_end [] zero is = refl
drop_end [] (suc n) is = refl
drop_end (y ∷ xs) zero is = absurd (none-some (sym is))
drop_end (y ∷ xs) (suc n) is = drop_end xs n is

-- ---- an expression spends 1

module _ (s : Spot) (st : VisitState) where
  paid_on : (t : VisitState) → (spend 1 st).after ≡ gave tt t → Leads (node meaning s.code s.fun s.env s.expr st) ((opened_expression meaning s.code s.fun s.env s.expr >>= weighed_value) t)
  unfolding node whole
  paid_on t is =
      onward _ _ _ (regrouped (spend 1 st) (λ _. opened_expression meaning s.code s.fun s.env s.expr) weighed_value)
      (gave_on (spend 1 st) tt t (λ _. opened_expression meaning s.code s.fun s.env s.expr >>= weighed_value) is)

  unpaid : (x : EvalStop) (t : VisitState) → (spend 1 st).after ≡ stopped x t → (node meaning s.code s.fun s.env s.expr st).after ≡ stopped x t
  unfolding node whole
  unpaid x t is = ap (λ r. («next» («next» r (λ _. opened_expression meaning s.code s.fun s.env s.expr)).after weighed_value).after) is

  pub begun : (t : VisitState) → (spend 1 st).after ≡ gave tt t → Leads (means s st) (begins s t)
  unfolding opened_expression
  begun t paid = rw (meaning_is_fixed s.code s.fun s.env s.expr st) (paid_on t paid)

  pub not_begun : (x : EvalStop) (t : VisitState) → (spend 1 st).after ≡ stopped x t → (means s st).after ≡ stopped x t
  not_begun x t spent = rw (meaning_is_fixed s.code s.fun s.env s.expr st) (unpaid x t spent)

-- ---- operands

module _ (s : Spot) (st : VisitState) where
  -- further operands behind values that are there, and one more
  abbrev behind_more : List Value → List Expr → Value → Run Value
  behind_more done rest v = made_behind s.code s.fun s.env (made s.code s.fun s.env (layer s)) (done ++ v ∷ []) rest >>= weighed_value

  behind_is : (done : List Value) (ops : List Expr) (e : Expr) (rest : List Expr) → ops ≡ e ∷ rest
      → Leads ((made_behind s.code s.fun s.env (made s.code s.fun s.env (layer s)) done ops >>= weighed_value) st) (and_then (means (record s { expr = e }) st) (behind_more done rest))
  behind_is done ops e rest is =
      subst (λ l. Leads ((made_behind s.code s.fun s.env (made s.code s.fun s.env (layer s)) done l >>= weighed_value) st) (and_then (means (record s { expr = e }) st) (behind_more done rest))) (sym is)
      (regrouped (means (record s { expr = e }) st) (λ v. made_behind s.code s.fun s.env (made s.code s.fun s.env (layer s)) (done ++ v ∷ []) rest) weighed_value)

  -- the first operand
  pub begins_first : (e : Expr) → IsOperation (layer s) → slice_get (operands (layer s)) 0 ≡ Some e → Leads (begins s st) (resume s (Part 0) [] (means (record s { expr = e }) st))
  begins_first e form first =
      onward _ _ _ (along _ _ weighed_value (opens s.code s.fun s.env (layer s) st form))
      (behind_is [] (operands (layer s)) e (drop 1 (operands (layer s))) (drop_front (operands (layer s)) 0 e first))

  -- no operand
  pub begins_bare : IsOperation (layer s) → slice_get (operands (layer s)) 0 ≡ None → Leads (begins s st) ((made s.code s.fun s.env (layer s) [] >>= weighed_value) st)
  begins_bare form none =
      onward _ _ _ (along _ _ weighed_value (opens s.code s.fun s.env (layer s) st form))
      (rw (drop_end (operands (layer s)) 0 none) (itself _))

  -- the next operand, behind one that gave v
  pub second_in_form : (n : ℕ) (held : List Value) (v : Value) (e : Expr) → slice_get (operands (layer s)) (n + 1) ≡ Some e
      → Leads (resume s (Part n) held (quiet (gave v st))) (resume s (Part (n + 1)) (v ∷ held) (means (record s { expr = e }) st))
  second_in_form n held v e there =
      onward _ _ _ (given_on v st (after_operand s n held))
      (subst (λ l. Leads (after_operand s n held v st) (and_then (means (record s { expr = e }) st) (behind_more l (drop (n + 1 + 1) (operands (layer s))))))
      (sym (reverse-append (v ∷ []) held))
      (behind_is (reverse held ++ v ∷ []) (drop (n + 1) (operands (layer s))) e (drop (n + 1 + 1) (operands (layer s))) (drop_front (operands (layer s)) (n + 1) e there)))

  -- the last operand gave v
  pub last_in_form : (n : ℕ) (held : List Value) (v : Value) → slice_get (operands (layer s)) (n + 1) ≡ None
      → Leads (resume s (Part n) held (quiet (gave v st))) ((made s.code s.fun s.env (layer s) (reverse (v ∷ held)) >>= weighed_value) st)
  last_in_form n held v none =
      onward _ _ _ (given_on v st (after_operand s n held))
      (subst (λ l. Leads (after_operand s n held v st) ((made s.code s.fun s.env (layer s) l >>= weighed_value) st)) (sym (reverse-append (v ∷ []) held))
      (rw (drop_end (operands (layer s)) (n + 1) none) (itself _)))

-- ---- what stops inside stops the whole

next_stops : {A B : Type 0} (p : RunStep A) (f : A → Run B) (e : EvalStop) (t : VisitState) → p.after ≡ stopped e t → (and_then p f).after ≡ stopped e t
next_stops p f e t is = ap (λ a. («next» a f).after) is

not_rescued : (p : RunStep Value) (f : Exn → Run Value) (h : ℕ) (e : EvalStop) (t : VisitState) → PassesOn (Try h) e → p.after ≡ stopped e t → (rescued_step p f).after ≡ stopped e t
not_rescued p f h (Raised x) t on is = absurd on
not_rescued p f h WorkSpent t on is = ap (λ a. (otherwise a f).after) is
not_rescued p f h Wrong t on is = ap (λ a. (otherwise a f).after) is
not_rescued p f h NoMemory t on is = ap (λ a. (otherwise a f).after) is

pub stopped_in : (s : Spot) (k : Continuation) (held : List Value) (r : RunStep Value) (e : EvalStop) (t : VisitState) → PassesOn k e → r.after ≡ stopped e t
    → (resume s k held r).after ≡ stopped e t
stopped_in s (Part n) held r e t on is = next_stops r _ e t is
stopped_in s (Last n) held r e t on is = next_stops r _ e t is
stopped_in s (Try h) held r e t on is =
    let f = handled s.code s.fun s.env (layer s) in
    next_stops (rescued_step r f) weighed_value e t (not_rescued r f h e t on is)
stopped_in s (Bound i) held r e t on is = next_stops r _ e t is
stopped_in s (Call a) held r e t on is = next_stops r _ e t is
stopped_in s (Step a) held r e t on is = next_stops r _ e t is
stopped_in s (Chunk a) held r e t on is = next_stops r _ e t is

-- ---- what leads on inside leads the whole on

pub resumed_along : (s : Spot) (k : Continuation) (held : List Value) (p q : RunStep Value) → Leads p q → Leads (resume s k held p) (resume s k held q)
resumed_along s (Part n) held p q h = along p q _ h
resumed_along s (Last n) held p q h = along p q _ h
resumed_along s (Try i) held p q h = along _ _ weighed_value (rescued_along p q _ h)
resumed_along s (Bound i) held p q h = along p q _ h
resumed_along s (Call a) held p q h = along p q _ h
resumed_along s (Step a) held p q h = along p q _ h
resumed_along s (Chunk a) held p q h = along p q _ h
