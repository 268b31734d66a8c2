-- Rules for evaluations that send and note certain things only.
use Rattle.std.proofs.Common.{◌≡◌, ℕ, zero, suc, ◌-◌, Bool, true, false, cond, if◌then◌else◌, List, [], ◌∷◌, ◌++◌, Option, Some, None, refl, sym, ap, subst, append_assoc}
use Rattle.std.specs.Prelude.{ℤ, nat_lt}
use Rattle.std.specs.List.{AllByRecursion}
use Rattle.std.proofs.lemmas.List.{append-nil}
use Rattle.plan_base.specs.declared.name.Name.{Name}
use Rattle.plan_base.specs.declared.ids.Host.{Host}
use Rattle.plan_base.specs.declared.tree.Chunk.{Chunk}
use Rattle.plan_base.specs.declared.tree.Svc.{Svc}
use Rattle.plan_base.specs.declared.tree.Expr.{Expr, out-Expr}
use Rattle.plan_base.specs.declared.tree.Program.{Program}
use Rattle.plan_base.specs.declared.tree.Value.{Value}
use Rattle.plan_base.specs.declared.tree.Value.TheVariants as value
use Rattle.plan_base.specs.Trees.{ExprLayer}
use Rattle.plan_base.specs.Sizes.{weight}
use Rattle.service_api.specs.declared.answer.Answer.{Answer}
use Rattle.service_api.specs.declared.answer.Answer.TheVariants.{Gives, Raises}
use Rattle.service_api.specs.declared.router.Hop.{Hop}
use Rattle.service_api.specs.declared.router.Hop.TheVariants.{To, NoService, NoRoute}
use Rattle.service_api.specs.Routes.{hop}
use Rattle.service_api.specs.Services.{served_call, called_services as kept_rows, Rows}
use Rattle.plan_meaning.specs.declared.stop.EvalStop.{EvalStop}
use Rattle.plan_meaning.specs.declared.stop.EvalStop.TheVariants.{Raised, WorkSpent}
use Rattle.plan_types_spec.specs.Rules.{too_large}
use Rattle.plan_meaning.specs.State.{VisitState}
use Rattle.plan_meaning.specs.Run.{After, gave, stopped, Run, ◌>>=◌, ◌>>◌, pure, stop, raise, or_wrong, spend, weighed_value, is_too_large, whole, serve, answered_call, quiet, «next»}
use Rattle.std.specs.Prelude.{slice_get}
use Rattle.plan_base.specs.declared.tree.Fun.{Fun}
use Rattle.plan_base.specs.declared.tree.Expr.{Expr-F}
use Rattle.plan_base.specs.declared.tree.Expr.TheVariants as expr
use Rattle.plan_types_spec.specs.TypingNames.{place_of, service_of, prim_of}
use Rattle.plan_meaning.specs.Meaning.{Env, is_paid, bound_of, no_bound, packet, sent_by, send_remote, values_behind, values, tuple, packed_chunk, call, called_name, called_by, served_or, choice}
use Rattle.plan_meaning.specs.Meaning.{remote, as_bool, as_int, as_host, as_chunk, chunk_at, value_of, bound, entered_function, applied_at, visited_chunk, meaning, opened_at, opened_expression, node}
use Rattle.plan_meaning.specs.Meaning.{run_to}
use Rattle.reliable_ports_world.specs.Only.{Allowed, Good, AnswerFits, Serves, MaySend}
use Rattle.reliable_ports_world.specs.Visits.{EndsGood}

pub all_push : {X : Type 0} (P : X → Type 0) (xs : List X) (x : X) → AllByRecursion P xs → P x → AllByRecursion P (xs ++ x ∷ [])
all_push P [] x h p = (p, tt)
all_push P (y ∷ xs) x h p = (h.0, all_push P xs x h.1 p)

module _ (a : Allowed) where
  -- from each good state a run ends in one, and what it gives is ok
  abbrev pub Only : {A : Type 0} → (A → Type 0) → Run A → Type 0
  Only ok p = (s : VisitState) → Good a s → EndsGood a ok (p s).after

  pub only_pure : {A : Type 0} (ok : A → Type 0) (v : A) → ok v → Only ok (pure v)
  only_pure ok v h s g = (g, h)

  pub only_stop : {A : Type 0} (ok : A → Type 0) (e : EvalStop) → Only ok (stop e)
  only_stop ok e s g = g

  pub only_bind : {A B : Type 0} (ok : A → Type 0) (fine : B → Type 0) (p : Run A) (f : A → Run B) → Only ok p → ((v : A) → ok v → Only fine (f v)) → Only fine (p >>= f)
  only_bind {A = A} ok fine p f h k s g = by (p s).after (h s g)
    where
      by : (r : After A) → EndsGood a ok r → EndsGood a fine («next» r f).after
      by (gave v t) e = k v e.1 t e.0
      by (stopped x t) e = e

  pub only_then : {A B : Type 0} (ok : A → Type 0) (fine : B → Type 0) (p : Run A) (q : Run B) → Only ok p → Only fine q → Only fine (p >> q)
  only_then ok fine p q h k = only_bind ok fine p (λ _. q) h (λ v e. k)

  pub only_some : {A : Type 0} (ok : A → Type 0) (o : Option A) (v : A) → o ≡ Some v → ok v → Only ok (or_wrong o)
  only_some ok o v e h = subst (λ x. Only ok (or_wrong x)) (sym e) (only_pure ok v h)

  one : Unit {0}
  one = tt

  pub only_spend : (n : ℕ) → Only (λ _. Unit {0}) (spend n)
  unfolding spend
  only_spend n s g = by (nat_lt s.work n)
    where
      by : (t : Bool) → EndsGood {A = Unit {0}} a (λ _. Unit {0}) (cond t (quiet (stopped WorkSpent s)) (quiet (gave one (record s { work = s.work - n })))).after
      by true = g
      by false = (record { offer = g.offer; sends = g.sends; notes = g.notes }, tt)

  pub only_weighed : (ok : Value → Type 0) (v : Value) → ok v → Only ok (weighed_value v)
  unfolding weighed_value
  only_weighed ok v h = by (is_too_large v)
    where
      by : (t : Bool) → Only ok (cond t (raise too_large) (spend (weight v) >> pure v))
      by true = only_stop ok (Raised too_large)
      by false = only_then (λ _. Unit {0}) ok (spend (weight v)) (pure v) (only_spend (weight v)) (only_pure ok v h)

  pub only_whole : (ok : Value → Type 0) (p : Run Value) → Only ok p → Only ok (whole p)
  unfolding whole
  only_whole ok p h = only_bind ok ok (spend 1 >> p) weighed_value (only_then (λ _. Unit {0}) ok (spend 1) p (only_spend 1) h) (only_weighed ok)

  -- a service
  pub only_serve : (ok : Value → Type 0) (d : Svc) (args : List Value) → Serves a d args ok → Only ok (serve d args)
  unfolding serve
  only_serve ok d args h s g =
      by (served_call s.services d args s.ctx).answer
      (subst (λ o. AnswerFits a.note ok (o.serve d args s.ctx s.services.rows).answer) (sym g.offer) (h s.ctx s.services.rows)) (served_call s.services d args s.ctx).rows
    where
      by : (r : Answer) → AnswerFits a.note ok r → (rows : Rows) → EndsGood a ok (answered_call r (record s { services = kept_rows rows s.services }))
      by (Gives v None) e rows = (record { offer = g.offer; sends = g.sends; notes = g.notes }, e.1)
      by (Gives v (Some n)) e rows = (record { offer = g.offer; sends = g.sends; notes = all_push a.note s.notes n g.notes e.0 }, e.1)
      by (Raises x) e rows = record { offer = g.offer; sends = g.sends; notes = g.notes }

  -- a send
  pub only_send : (k : Chunk) (h : Host) (n : ℤ) (r : Name) → a.chunk k → Only (λ _. Unit {0}) (send_remote k h n r)
  unfolding send_remote
  only_send k h n r c s g = by (is_paid n s.ctx.purse)
    where
      way : (w : Hop) → EndsGood a (λ _. Unit {0}) (sent_by w k h (bound_of n) r s).after
      way (To via dev) = (record { offer = g.offer; sends = all_push (MaySend a) s.outbox (record { dev = dev; packet = packet s k h (bound_of n) r }) g.sends (c, refl); notes = g.notes }, tt)
      way NoService = g
      way NoRoute = g

      by : (t : Bool) → EndsGood a (λ _. Unit {0}) (cond t (sent_by (hop s.ctx.router r s.ctx.here h) k h (bound_of n) r s) (raise no_bound s)).after
      by true = way (hop s.ctx.router r s.ctx.here h)
      by false = g

  -- an expression, by its level, at every depth
  pub only_level : (ok : Value → Type 0) (code : Program) (seen : ℕ) (env : Env) (e : Expr) (l : ExprLayer) → out-Expr e ≡ l → ((n : ℕ) → Only ok (opened_at (run_to n) code seen env l)) → (n : ℕ) → Only ok (run_to n code seen env e)
  unfolding run_to node opened_expression
  only_level ok code seen env e l q h zero = only_stop ok WorkSpent
  only_level ok code seen env e l q h (suc n) = only_whole ok (opened_at (run_to n) code seen env (out-Expr e)) (subst (λ x. Only ok (opened_at (run_to n) code seen env x)) (sym q) (h n))

  -- the value that an expression gives
  abbrev pub Gives_value : Program → ℕ → Env → Expr → Value → Type 0
  Gives_value code seen env e v = (n : ℕ) → Only (λ w. w ≡ v) (run_to n code seen env e)

  abbrev pub Give_values : Program → ℕ → Env → List Expr → List Value → Type 0
  Give_values code seen env [] [] = Unit {0}
  Give_values code seen env [] (v ∷ vs) = ⊥
  Give_values code seen env (e ∷ es) [] = ⊥
  Give_values code seen env (e ∷ es) (v ∷ vs) = Gives_value code seen env e v × Give_values code seen env es vs

  pub only_values : (code : Program) (seen : ℕ) (env : Env) (done : List Value) (es : List Expr) (vs : List Value) → Give_values code seen env es vs → (n : ℕ) → Only (λ ws. ws ≡ done ++ vs) (values_behind (run_to n) done code seen env es)
  only_values code seen env done [] [] h n = only_pure (λ ws. ws ≡ done ++ []) done (sym (append-nil done))
  only_values code seen env done [] (v ∷ vs) h n = absurd h
  only_values code seen env done (e ∷ es) [] h n = absurd h
  only_values code seen env done (e ∷ es) (v ∷ vs) h n =
      only_bind (λ w. w ≡ v) (λ ws. ws ≡ done ++ v ∷ vs) (run_to n code seen env e) (λ w. values_behind (run_to n) (done ++ w ∷ []) code seen env es) (h.0 n)
      (λ w q. subst (λ x. Only (λ ws. ws ≡ done ++ v ∷ vs) (values_behind (run_to n) (done ++ x ∷ []) code seen env es)) (sym q)
      (subst (λ xs. Only (λ ws. ws ≡ xs) (values_behind (run_to n) (done ++ v ∷ []) code seen env es)) (append_assoc done (v ∷ []) vs) (only_values code seen env (done ++ v ∷ []) es vs h.1 n)))

  pub only_any : {A : Type 0} (ok : A → Type 0) (p : Run A) → Only ok p → Only (λ _. Unit {0}) p
  only_any {A = A} ok p h s g = by (p s).after (h s g)
    where
      by : (r : After A) → EndsGood a ok r → EndsGood a (λ _. Unit {0}) r
      by (gave v t) e = (e.0, tt)
      by (stopped x t) e = e

  pub only_taken : {A : Type 0} (o : Option A) → Only (λ _. Unit {0}) (or_wrong o)
  only_taken (Some v) s g = (g, tt)
  only_taken None s g = g

  -- the meaning itself
  pub only_meaning : (ok : Value → Type 0) (code : Program) (seen : ℕ) (env : Env) (e : Expr) → ((n : ℕ) → Only ok (run_to n code seen env e)) → Only ok (meaning code seen env e)
  unfolding meaning
  only_meaning ok code seen env e h s g = h (suc s.work) s g

  -- the entry of a chunk: its function's place, the function and the bindings are known
  pub only_visited : (k : Chunk) (at : ℕ) (f : Fun) (env : Env) → place_of k.entry k.code.funs ≡ Some at → slice_get k.code.funs at ≡ Some f → bound f.params k.args ≡ Some env
      → ((n : ℕ) → Only (λ _. Unit {0}) (run_to n k.code at env f.body)) → Only (λ _. Unit {0}) (visited_chunk meaning k)
  unfolding visited_chunk entered_function
  only_visited k at f env p q b h = subst (λ o. Only (λ _. Unit {0}) (applied_at meaning k.code o k.args)) (sym p)
      (only_bind (λ g. g ≡ f) (λ _. Unit {0}) (or_wrong (slice_get k.code.funs at)) (λ g. or_wrong (bound g.params k.args) >>= (λ env. meaning k.code at env g.body)) (only_some (λ g. g ≡ f) (slice_get k.code.funs at) f q refl)
      (λ g e. subst (λ (x : Fun). Only (λ _. Unit {0}) (or_wrong (bound x.params k.args) >>= (λ env. meaning k.code at env x.body))) (sym e)
      (only_bind (λ v. v ≡ env) (λ _. Unit {0}) (or_wrong (bound f.params k.args)) (λ v. meaning k.code at v f.body) (only_some (λ v. v ≡ env) (bound f.params k.args) env b refl)
      (λ v e. subst (λ x. Only (λ _. Unit {0}) (meaning k.code at x f.body)) (sym e) (only_meaning (λ _. Unit {0}) k.code at env f.body h)))))

  -- ---- the forms

  pub gives_var : (code : Program) (seen : ℕ) (env : Env) (x : Name) (v : Value) → value_of x env ≡ Some v → Gives_value code seen env (expr.Var x) v
  gives_var code seen env x v e = only_level (λ w. w ≡ v) code seen env (expr.Var x) (Expr-F.Var x) (expr.outs-Var x) (λ n. only_some (λ w. w ≡ v) (value_of x env) v e refl)

  pub gives_int : (code : Program) (seen : ℕ) (env : Env) (z : ℤ) → Gives_value code seen env (expr.Int z) (value.Int z)
  gives_int code seen env z = only_level (λ w. w ≡ value.Int z) code seen env (expr.Int z) (Expr-F.Int z) (expr.outs-Int z) (λ n. only_pure (λ w. w ≡ value.Int z) (value.Int z) refl)

  pub gives_blob : (code : Program) (seen : ℕ) (env : Env) (b : List ℕ) → Gives_value code seen env (expr.Blob b) (value.Blob b)
  gives_blob code seen env b = only_level (λ w. w ≡ value.Blob b) code seen env (expr.Blob b) (Expr-F.Blob b) (expr.outs-Blob b) (λ n. only_pure (λ w. w ≡ value.Blob b) (value.Blob b) refl)

  pub gives_tuple : (code : Program) (seen : ℕ) (env : Env) (es : List Expr) (vs : List Value) → Give_values code seen env es vs → Gives_value code seen env (expr.Tuple es) (value.Tuple vs)
  unfolding tuple values
  gives_tuple code seen env es vs h = only_level (λ w. w ≡ value.Tuple vs) code seen env (expr.Tuple es) (Expr-F.Tuple es) (expr.outs-Tuple es)
      (λ n.
      only_bind (λ ws. ws ≡ vs) (λ w. w ≡ value.Tuple vs) (values_behind (run_to n) [] code seen env es) (λ ws. pure (value.Tuple ws)) (only_values code seen env [] es vs h n) (λ ws e.
      only_pure (λ w. w ≡ value.Tuple vs) (value.Tuple ws) (ap value.Tuple e)))

  pub gives_chunk : (code : Program) (seen : ℕ) (env : Env) (f : Name) (es : List Expr) (vs : List Value) → Give_values code seen env es vs
      → Gives_value code seen env (expr.ChunkOf f es) (value.Chunk (record { code = code; entry = f; args = vs }))
  unfolding packed_chunk values
  gives_chunk code seen env f es vs h = only_level (λ w. w ≡ value.Chunk (record { code = code; entry = f; args = vs })) code seen env (expr.ChunkOf f es) (Expr-F.ChunkOf f es) (expr.outs-ChunkOf f es)
      (λ n.
      only_bind (λ ws. ws ≡ vs) (λ w. w ≡ value.Chunk (record { code = code; entry = f; args = vs })) (values_behind (run_to n) [] code seen env es) (λ ws.
      pure (value.Chunk (record { code = code; entry = f; args = ws }))) (only_values code seen env [] es vs h n)
      (λ ws e. only_pure (λ w. w ≡ value.Chunk (record { code = code; entry = f; args = vs })) (value.Chunk (record { code = code; entry = f; args = ws })) (ap (λ xs. value.Chunk (record { code = code; entry = f; args = xs })) e)))

  pub calls_service : (ok : Value → Type 0) (code : Program) (seen : ℕ) (env : Env) (f : Name) (d : Svc) (es : List Expr) (vs : List Value) → prim_of f ≡ None → service_of f code.svcs ≡ Some d
      → Give_values code seen env es vs → Serves a d vs ok
      → (n : ℕ) → Only ok (run_to n code seen env (expr.Call f es))
  unfolding call called_name values
  calls_service ok code seen env f d es vs p q h r = only_level ok code seen env (expr.Call f es) (Expr-F.Call f es) (expr.outs-Call f es)
      (λ n. only_bind (λ ws. ws ≡ vs) ok (values_behind (run_to n) [] code seen env es) (called_name (run_to n) code seen f) (only_values code seen env [] es vs h n)
      (λ ws e. subst (λ xs. Only ok (called_name (run_to n) code seen f xs)) (sym e)
      (subst (λ o. Only ok (called_by (run_to n) o code seen f vs)) (sym p) (subst (λ o. Only ok (served_or (run_to n) o code seen f vs)) (sym q) (only_serve ok d vs r)))))

  pub chooses : (code : Program) (seen : ℕ) (env : Env) (t x y : Expr) → ((n : ℕ) → Only (λ _. Unit {0}) (run_to n code seen env t)) → ((n : ℕ) → Only (λ _. Unit {0}) (run_to n code seen env x))
      → ((n : ℕ) → Only (λ _. Unit {0}) (run_to n code seen env y))
      → (n : ℕ) → Only (λ _. Unit {0}) (run_to n code seen env (expr.If t x y))
  unfolding choice
  chooses code seen env t x y h k l = only_level (λ _. Unit {0}) code seen env (expr.If t x y) (Expr-F.If t x y) (expr.outs-If t x y)
      (λ n. only_bind (λ _. Unit {0}) (λ _. Unit {0}) (run_to n code seen env t) (λ v. or_wrong (as_bool v) >>= (λ b. if b then run_to n code seen env x else run_to n code seen env y)) (h n)
      (λ v e. only_bind (λ _. Unit {0}) (λ _. Unit {0}) (or_wrong (as_bool v)) (λ b. if b then run_to n code seen env x else run_to n code seen env y) (only_taken (as_bool v)) (λ b e. branch n b)))
    where
      branch : (n : ℕ) (b : Bool) → Only (λ _. Unit {0}) (if b then run_to n code seen env x else run_to n code seen env y)
      branch n true = k n
      branch n false = l n

  chunk_out : (k : Chunk) → as_chunk (value.Chunk k) ≡ Some k
  unfolding as_chunk
  chunk_out k = ap chunk_at (value.outs-Chunk k)

  pub sends_on : (code : Program) (seen : ℕ) (env : Env) (e h b : Expr) (r : Name) (k : Chunk) → Gives_value code seen env e (value.Chunk k) → a.chunk k
      → ((n : ℕ) → Only (λ _. Unit {0}) (run_to n code seen env h)) → ((n : ℕ) → Only (λ _. Unit {0}) (run_to n code seen env b))
      → (n : ℕ) → Only (λ _. Unit {0}) (run_to n code seen env (expr.OnRemote e h b r))
  unfolding remote
  sends_on code seen env e h b r k p c q u = only_level (λ _. Unit {0}) code seen env (expr.OnRemote e h b r) (Expr-F.OnRemote e h b r) (expr.outs-OnRemote e h b r)
      (λ n. only_bind (λ w. w ≡ value.Chunk k) (λ _. Unit {0}) (run_to n code seen env e) (λ v. or_wrong (as_chunk v) >>= rest n) (p n)
      (λ v s. subst (λ x. Only (λ _. Unit {0}) (or_wrong (as_chunk x) >>= rest n)) (sym s)
      (only_bind (λ j. j ≡ k) (λ _. Unit {0}) (or_wrong (as_chunk (value.Chunk k))) (rest n) (only_some (λ j. j ≡ k) (as_chunk (value.Chunk k)) k (chunk_out k) refl)
      (λ j t. subst (λ x. Only (λ _. Unit {0}) (rest n x)) (sym t) (rest_ok n)))))
    where
      paid : Chunk → Host → ℤ → Run Value
      paid j host z = send_remote j host z r >> pure value.Unit

      last : ℕ → Chunk → Host → Run Value
      last n j host = run_to n code seen env b >>= (λ x. or_wrong (as_int x) >>= paid j host)

      rest : ℕ → Chunk → Run Value
      rest n j = run_to n code seen env h >>= (λ w. or_wrong (as_host w) >>= last n j)

      paid_ok : (host : Host) (z : ℤ) → Only (λ _. Unit {0}) (paid k host z)
      paid_ok host z = only_then (λ _. Unit {0}) (λ _. Unit {0}) (send_remote k host z r) (pure value.Unit) (only_send k host z r c) (only_pure (λ _. Unit {0}) value.Unit tt)

      last_ok : (n : ℕ) (host : Host) → Only (λ _. Unit {0}) (last n k host)
      last_ok n host = only_bind (λ _. Unit {0}) (λ _. Unit {0}) (run_to n code seen env b) (λ x. or_wrong (as_int x) >>= paid k host) (u n)
          (λ x y. only_bind (λ _. Unit {0}) (λ _. Unit {0}) (or_wrong (as_int x)) (paid k host) (only_taken (as_int x)) (λ z y. paid_ok host z))

      rest_ok : (n : ℕ) → Only (λ _. Unit {0}) (rest n k)
      rest_ok n = only_bind (λ _. Unit {0}) (λ _. Unit {0}) (run_to n code seen env h) (λ w. or_wrong (as_host w) >>= last n k) (q n)
          (λ w y. only_bind (λ _. Unit {0}) (λ _. Unit {0}) (or_wrong (as_host w)) (last n k) (only_taken (as_host w)) (λ host y. last_ok n host))
