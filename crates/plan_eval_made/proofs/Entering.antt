-- Chunks that are opened, over plain variables.
use Rattle.std.proofs.Common.{◌≡◌, ◌≢◌, ℕ, suc, List, [], ◌∷◌, ◌++◌, length, reverse, slice_get, Option, Some, None, MatchOption, Err, refl, sym, ap, ◌∙◌, subst}
use Rattle.std.proofs.lemmas.List.{append_assoc}
use Rattle.containers.proofs.Options.{none-some, some-same}
use Rattle.plan_base.specs.declared.tree.Chunk.{Chunk}
use Rattle.plan_base.specs.declared.tree.Expr.{Expr, Expr-F}
use Rattle.plan_base.specs.declared.tree.Fun.{Fun}
use Rattle.plan_base.specs.declared.tree.Param.{Param}
use Rattle.plan_base.specs.declared.tree.Value.{Value}
use Rattle.plan_base.specs.declared.tree.Value as value
use Rattle.plan_types_spec.specs.TypingNames.{place_of}
use Rattle.service_api.specs.Services.{ServiceState}
use Rattle.plan_meaning.specs.declared.stop.EvalStop.{EvalStop}
use Rattle.plan_meaning.specs.declared.stop.EvalStop.TheVariants.{Wrong, NoMemory}
use Rattle.plan_meaning.specs.State.{VisitState, joined_state}
use Rattle.plan_meaning.specs.Run.{RunStep, gave, stopped, «next», pure, ◌>>◌, weighed_value}
use Rattle.plan_meaning.specs.Meaning.{Env, meaning, binds, bound, bound_behind, as_chunk, pay_eval, visited_chunk, entered_function}
use Rattle.plan_eval_state.specs.declared.progress.Progress.{Progress}
use Rattle.plan_eval_state.specs.declared.progress.Progress.TheVariants as came
use Rattle.plan_eval_state.specs.declared.run.Run.{Run}
use Rattle.plan_eval_state.specs.Spots.{Spot, layer}
use Rattle.plan_eval_state.specs.Flow.{now, Flows}
use Rattle.plan_eval_state.specs.Laws.{makes}
use Rattle.plan_eval_made.specs.Makes.{PopsAs, Stays}
use Rattle.plan_eval_made.specs.Opens.{Admits, HasNoEntry, IsOpened, Opens, Pays, Refuses, Widens}
use Rattle.plan_eval_made.specs.declared.opening.Opened.{Opened}
use Rattle.plan_eval_made.proofs.Made.{as_many_as, one_held}

pub none_of : {A : Type 0} (o : Option A) → ((x : A) → o ≡ Some x → ⊥) → o ≡ None
none_of (Some x) h = absurd (h x refl)
none_of None h = refl

-- ---- the entry

unbound : (done : Env) (ps : List Param) (vs : List Value) → (length ps ≡ length vs → ⊥) → bound_behind done ps vs ≡ None
unbound done [] [] h = absurd (h refl)
unbound done (p ∷ ps) (v ∷ vs) h = unbound (done ++ binds p.name v ∷ []) ps vs (λ k. h (ap suc k))
unbound done [] (v ∷ vs) h = refl
unbound done (p ∷ ps) [] h = refl

pub binds_none : (ps : List Param) (vs : List Value) → (length ps ≡ length vs → ⊥) → bound ps vs ≡ None
unfolding bound
binds_none ps vs h = unbound [] ps vs h

pub no_place : (k : Chunk) → place_of k.entry k.code.funs ≡ None → HasNoEntry k
unfolding visited_chunk
no_place k none = λ st. rw none refl

pub no_function : (k : Chunk) (fun : ℕ) → place_of k.entry k.code.funs ≡ Some fun → slice_get k.code.funs fun ≡ None → HasNoEntry k
unfolding visited_chunk entered_function
no_function k fun place none = λ st. rw (place, none) refl

pub other_number : (k : Chunk) (fun : ℕ) (f : Fun) → place_of k.entry k.code.funs ≡ Some fun → slice_get k.code.funs fun ≡ Some f → (length f.params ≡ length k.args → ⊥) → HasNoEntry k
unfolding visited_chunk entered_function
other_number k fun f place there other = λ st. rw (place, there, binds_none f.params k.args other) refl

-- ---- values in their turn

pub one_fewer : {X : Type 0} (turned rest stack now all : List X) (x : X) → turned ≡ rest ++ x ∷ [] → now ≡ x ∷ stack → turned ++ stack ≡ all → rest ++ now ≡ all
one_fewer turned rest stack now all x is more e =
    ap (λ l. rest ++ l) more ∙ sym (append_assoc rest (x ∷ []) stack) ∙ ap (λ l. l ++ stack) (sym is) ∙ e

-- ---- an `eval` that stops

module _ (s : Spot) (a : Expr) (form : layer s ≡ Expr-F.Eval a) (st : VisitState) where
  pub eval_wrong : (v : Value) → as_chunk v ≡ None → (makes s (v ∷ []) st).after ≡ stopped Wrong st
  eval_wrong v is = rw (form, is) refl

  pub eval_unpaid : (v : Value) (k : Chunk) (e : EvalStop) (t : VisitState) → as_chunk v ≡ Some k → (pay_eval st).after ≡ stopped e t → (makes s (v ∷ []) st).after ≡ stopped e t
  eval_unpaid v k e t is h = rw (form, is) (ap (λ r. («next» («next» r (λ _. visited_chunk meaning k >> pure value.Unit)).after weighed_value).after) h)

  pub eval_stops : (v : Value) (k : Chunk) (t : VisitState) → as_chunk v ≡ Some k → (pay_eval st).after ≡ gave tt t → HasNoEntry k → (makes s (v ∷ []) st).after ≡ stopped Wrong t
  eval_stops v k t is paid none =
      rw (form, is) (ap (λ r. («next» («next» r (λ _. visited_chunk meaning k >> pure value.Unit)).after weighed_value).after) paid
      ∙ ap (λ r. («next» («next» r (λ _. pure value.Unit)).after weighed_value).after) (none t))

-- ---- the chunk on top

popped : (r : Option Chunk) (stack new pre : List Value) (v : Value) → stack ≡ v ∷ pre → PopsAs as_chunk r stack new → (r ≡ as_chunk v) × (new ≡ pre)
popped r stack new pre v is h = subst (λ (l : List Value). PopsAs as_chunk r l new) is h

module _ (old mid : Run) (stays : Stays old mid) where
  same_now : (n : ServiceState) → now mid n ≡ now old n
  same_now n = ap (λ o. joined_state o n) stays.state

  -- the value on top is no chunk
  pub refused_wrong : (r : Option Chunk) → r ≡ None → PopsAs as_chunk r old.stack mid.stack → Refuses old came.Wrong mid
  refused_wrong r none h = record {
    settled = λ e. cc;
    made = λ s a form held pre n is all.
        let one = one_held held (as_many_as (layer s) (Expr-F.Eval a) held form all) in
        let off = popped r old.stack mid.stack pre one.0 (is ∙ ap (λ l. l ++ pre) one.1) h in
        ap (λ l. (makes s (reverse l) (now old n)).after) one.1 ∙ eval_wrong s a form (now old n) one.0 (sym off.0 ∙ none) ∙ ap (stopped Wrong) (sym (same_now n));
  }

  -- the eval isn't paid
  pub refused_unpaid : (k : Chunk) (r : Option Chunk) (p : Progress) (new : Run) (e : EvalStop) (so : ServiceState → VisitState) → r ≡ Some k → PopsAs as_chunk r old.stack mid.stack → p ≢ came.Wait
      → ((s : Spot) (junk pre : List Value) (want : RunStep Value) (n : ServiceState) → mid.stack ≡ junk ++ pre
      → (e ≢ NoMemory → want.after ≡ stopped e (so n)) → Flows s pre want p new n)
      → ((n : ServiceState) → e ≢ NoMemory → (pay_eval (now mid n)).after ≡ stopped e (so n)) → Refuses old p new
  refused_unpaid k r p new e so some h settled flows unpaid = record {
    settled = settled;
    made = λ s a form held pre n is all.
        let one = one_held held (as_many_as (layer s) (Expr-F.Eval a) held form all) in
        let off = popped r old.stack mid.stack pre one.0 (is ∙ ap (λ l. l ++ pre) one.1) h in
        flows s [] pre (makes s (reverse held) (now old n)) n off.1
        (λ other. ap (λ l. (makes s (reverse l) (now old n)).after) one.1
        ∙ eval_unpaid s a form (now old n) one.0 k e (so n) (sym off.0 ∙ some) (ap (λ (st : VisitState). (pay_eval st).after) (sym (same_now n)) ∙ unpaid n other));
  }

  -- it is paid
  pub chunk_paid : (k : Chunk) (r : Option Chunk) (new : Run) → r ≡ Some k → PopsAs as_chunk r old.stack mid.stack → new.stack ≡ mid.stack → new.paused ≡ mid.paused
      → ((n : ServiceState) → (pay_eval (now mid n)).after ≡ gave tt (now new n)) → (v : Value) (pre : List Value) → old.stack ≡ v ∷ pre → Pays v pre old k new
  chunk_paid k r new some h stack paused paid v pre is =
      let off = popped r old.stack mid.stack pre v is h in
      record {
        is = sym off.0 ∙ some;
        paid = λ n. ap (λ (st : VisitState). (pay_eval st).after) (sym (same_now n)) ∙ paid n;
        stacked = stack ∙ off.1;
        paused = paused ∙ stays.paused;
      }

-- ---- the chunk that was paid

-- it has no entry
pub refused_entry : (k : Chunk) (old new : Run) → HasNoEntry k → ((v : Value) (pre : List Value) → old.stack ≡ v ∷ pre → Pays v pre old k new) → Refuses old came.Wrong new
refused_entry k old new none pays = record {
  settled = λ e. cc;
  made = λ s a form held pre n is all.
      let one = one_held held (as_many_as (layer s) (Expr-F.Eval a) held form all) in
      let paid = pays one.0 pre (is ∙ ap (λ l. l ++ pre) one.1) in
      ap (λ l. (makes s (reverse l) (now old n)).after) one.1 ∙ eval_stops s a form (now old n) one.0 k (now new n) paid.is (paid.paid n) none;
}

pub entry_missing : (k : Chunk) (r : Option ℕ) → r ≡ None → MatchOption r (HasNoEntry k) (Admits k) → HasNoEntry k
entry_missing k r none h = subst (λ (o : Option ℕ). MatchOption o (HasNoEntry k) (Admits k)) none h

-- it is open
pub chunk_opens : (v : Value) (pre : List Value) (old mid : Run) (o : Opened) (new : Run) (k : Chunk) (fun : ℕ) → Pays v pre old k mid → old.paused ≡ [] → Admits k fun
    → IsOpened k fun mid.stack o new → Widens mid new → Opens v pre old o new
chunk_opens v pre old mid o new k fun pays bare admits opened widens = record {
  chunk = k;
  is = pays.is;
  paid = λ n. pays.paid n ∙ ap (λ w. gave tt (joined_state w n)) (sym widens.state);
  entry = record { function = admits.function; place = admits.place ∙ ap Some (sym opened.place); there = ap (slice_get k.code.funs) opened.place ∙ admits.there; many = admits.many };
  opened = record {
    place = refl;
    same = opened.same;
    size = opened.size;
    program = opened.program;
    base = opened.base ∙ ap length pays.stacked;
    stacked = opened.stacked ∙ ap (λ l. reverse k.args ++ l) pays.stacked;
  };
  bare = widens.paused ∙ pays.paused ∙ bare;
}
