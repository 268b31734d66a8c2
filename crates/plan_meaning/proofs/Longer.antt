-- Where the allowance suffices, a greater one gives the same with so much more work left.
use Rattle.std.proofs.Common.{◌≡◌, ℕ, suc, ◌+◌, ◌-◌, ◌≤◌, Bool, true, false, if◌then◌else◌, ◌==◌, nat_lt, ℤ, List, refl, ap, ◌∙◌, arith}
use Rattle.std.proofs.lemmas.Bool.Decides.{nat_tests}
use Rattle.plan_base.specs.declared.name.Name.{Name}
use Rattle.plan_base.specs.declared.ids.Host.{Host}
use Rattle.plan_base.specs.declared.ids.Dev.{Dev}
use Rattle.plan_base.specs.declared.tree.Exn.{Exn}
use Rattle.plan_base.specs.declared.tree.Expr.{Expr}
use Rattle.plan_base.specs.declared.tree.Svc.{Svc}
use Rattle.plan_base.specs.declared.tree.Program.{Program}
use Rattle.plan_base.specs.declared.tree.Value.{Value}
use Rattle.plan_base.specs.declared.tree.Chunk.{Chunk}
use Rattle.service_api.specs.declared.answer.Answer.{Answer}
use Rattle.service_api.specs.declared.answer.Answer.TheVariants.{Gives, Raises}
use Rattle.service_api.specs.declared.router.Hop.{Hop}
use Rattle.service_api.specs.declared.router.Hop.TheVariants.{To, NoService, NoRoute}
use Rattle.service_api.specs.Routes.{hop, default_route}
use Rattle.service_api.specs.Services.{served_call}
use Rattle.plan_meaning.specs.declared.stop.EvalStop.TheVariants.{Raised, WorkSpent, Wrong, NoMemory}
use Rattle.plan_meaning.specs.State.{VisitState}
use Rattle.plan_meaning.specs.Run.{After, gave, stopped, RunStep, service, both, Run, «next», and_then, ◌>>=◌, quiet, raise, otherwise, rescued_step, rescue, spend, serve, answered_call}
use Rattle.plan_meaning.specs.Meaning.{Env, pay_eval, no_bound, is_paid, bound_of, sent_packet, sent_by, send_remote, is_next, not_neighbour, send_neighbour, run_to, meaning, visited_chunk}
use Rattle.plan_meaning.specs.Laws.{IsSpent, more, after_more, step_more, IsLonger}
use Rattle.plan_meaning.proofs.Walk.{Kept, run_kept, visited_kept}

too_long : (w n k : ℕ) → nat_lt w n ≡ false → nat_lt (w + k) n ≡ true → ⊥
too_long w n k e d = grind (arith, nat_tests)

less : (w n k : ℕ) → nat_lt w n ≡ false → (w + k) - n ≡ (w - n) + k
less w n k e = grind (arith, nat_tests)

module _ (k : ℕ) where
  abbrev pub Longer : (A : Type 0) → Run A → Run A → Type 0
  Longer A p q = (s : VisitState) → ¬ IsSpent (p s).after → q (more k s) ≡ step_more k (p s)

  next_longer : {A B : Type 0} (a : After A) (f g : A → Run B) → ((x : A) → Longer B (f x) (g x)) → ¬ IsSpent («next» a f).after → «next» (after_more k a) g ≡ step_more k («next» a f)
  next_longer (gave x s) f g h n = h x s n
  next_longer (stopped e s) f g h n = refl

  pub first_lasts : {A B : Type 0} (a : After A) (f : A → Run B) → ¬ IsSpent («next» a f).after → ¬ IsSpent a
  first_lasts (gave x s) f n h = h
  first_lasts (stopped (Raised x) s) f n h = h
  first_lasts (stopped WorkSpent s) f n h = n h
  first_lasts (stopped Wrong s) f n h = h
  first_lasts (stopped NoMemory s) f n h = h

  then_longer : (A B : Type 0) (p q : Run A) (f g : A → Run B) → Longer A p q → ((x : A) → Longer B (f x) (g x)) → Longer B (p >>= f) (q >>= g)
  then_longer A B p q f g h l s n =
      ap (λ r. and_then r g) (h s (first_lasts (p s).after f n)) ∙
      (λ i. record { after = (next_longer (p s).after f g l n i).after; asks = both (p s).asks (next_longer (p s).after f g l n i).asks })

  otherwise_longer : (a : After Value) (f g : Exn → Run Value) → ((x : Exn) → Longer Value (f x) (g x)) → ¬ IsSpent (otherwise a f).after → otherwise (after_more k a) g ≡ step_more k (otherwise a f)
  otherwise_longer (gave x s) f g h n = refl
  otherwise_longer (stopped (Raised x) s) f g h n = h x s n
  otherwise_longer (stopped WorkSpent s) f g h n = refl
  otherwise_longer (stopped Wrong s) f g h n = refl
  otherwise_longer (stopped NoMemory s) f g h n = refl

  pub rescue_lasts : (a : After Value) (f : Exn → Run Value) → ¬ IsSpent (otherwise a f).after → ¬ IsSpent a
  rescue_lasts (gave x s) f n h = h
  rescue_lasts (stopped (Raised x) s) f n h = h
  rescue_lasts (stopped WorkSpent s) f n h = n h
  rescue_lasts (stopped Wrong s) f n h = h
  rescue_lasts (stopped NoMemory s) f n h = h

  rescue_longer : (p q : Run Value) (f g : Exn → Run Value) → Longer Value p q → ((x : Exn) → Longer Value (f x) (g x)) → Longer Value (rescue p f) (rescue q g)
  rescue_longer p q f g h l s n =
      ap (λ r. rescued_step r g) (h s (rescue_lasts (p s).after f n)) ∙
      (λ i. record { after = (otherwise_longer (p s).after f g l n i).after; asks = both (p s).asks (otherwise_longer (p s).after f g l n i).asks })

  spent_by : VisitState → ℕ → Bool → RunStep (Unit {0})
  spent_by s n b = if b then quiet (stopped WorkSpent s) else quiet (gave tt (record s { work = s.work - n }))

  spend_at : (s : VisitState) (n : ℕ) (b c : Bool) → nat_lt s.work n ≡ b → nat_lt (s.work + k) n ≡ c → ¬ IsSpent (spent_by s n b).after
      → spent_by (more k s) n c ≡ step_more k (spent_by s n b)
  unfolding spent_by
  spend_at s n true c e d h = absurd (h tt)
  spend_at s n false true e d h = absurd (too_long s.work n k e d)
  spend_at s n false false e d h = ap (λ w. quiet (gave tt (record s { work = w }))) (less s.work n k e)

  spends : (n : ℕ) → Longer (Unit {0}) (spend n) (spend n)
  unfolding spend spent_by
  spends n s h = spend_at s n (nat_lt s.work n) (nat_lt (s.work + k) n) refl refl h

  pay_at : (s : VisitState) (b : Bool) → (if b then raise {A = Unit {0}} no_bound (more k s) else quiet (gave tt (record (more k s) { ctx = record s.ctx { purse = s.ctx.purse - 1 }; evals = s.evals + 1 })))
      ≡ step_more k (if b then raise {A = Unit {0}} no_bound s else quiet (gave tt (record s { ctx = record s.ctx { purse = s.ctx.purse - 1 }; evals = s.evals + 1 })))
  pay_at s true = refl
  pay_at s false = refl

  pays : Longer (Unit {0}) pay_eval pay_eval
  unfolding pay_eval
  pays s h = pay_at s (s.ctx.purse == 0)

  sent_by_longer : (s : VisitState) (hop : Hop) (c : Chunk) (h : Host) (n : ℕ) (r : Name) → sent_by hop c h n r (more k s) ≡ step_more k (sent_by hop c h n r s)
  sent_by_longer s (To via dev) c h n r = refl
  sent_by_longer s NoService c h n r = refl
  sent_by_longer s NoRoute c h n r = refl

  choose : {A : Type 0} (b : Bool) (p q : Run A) (s : VisitState) → p (more k s) ≡ step_more k (p s) → q (more k s) ≡ step_more k (q s) → (if b then p (more k s) else q (more k s)) ≡ step_more k (if b then p s else q s)
  choose true p q s h l = h
  choose false p q s h l = l

  remotes : (c : Chunk) (h : Host) (n : ℤ) (r : Name) → Longer (Unit {0}) (send_remote c h n r) (send_remote c h n r)
  unfolding send_remote
  remotes c h n r s e = choose (is_paid n s.ctx.purse) (sent_by (hop s.ctx.router r s.ctx.here h) c h (bound_of n) r) (raise no_bound) s (sent_by_longer s (hop s.ctx.router r s.ctx.here h) c h (bound_of n) r) refl

  neighbours : (c : Chunk) (h : Host) (n : ℤ) (d : Dev) → Longer (Unit {0}) (send_neighbour c h n d) (send_neighbour c h n d)
  unfolding send_neighbour is_next
  neighbours c h n d s e =
      choose (is_paid n s.ctx.purse) (λ t. if is_next s d h then sent_packet d c h (bound_of n) default_route t else raise not_neighbour t) (raise no_bound) s
      (choose (is_next s d h) (sent_packet d c h (bound_of n) default_route) (raise not_neighbour) s refl refl) refl

  serve_longer : (s : VisitState) (a : Answer) → answered_call a (more k s) ≡ after_more k (answered_call a s)
  serve_longer s (Gives v told) = refl
  serve_longer s (Raises x) = refl

  serves : (d : Svc) (args : List Value) → Longer Value (serve d args) (serve d args)
  unfolding serve
  serves d args s h = ap (λ a. record { after = a; asks = service d args }) (serve_longer _ (served_call s.services d args s.ctx).answer)

  pub longer_kept : Kept Longer
  longer_kept = record {
    gives = λ A a s h. refl;
    stops = λ A e s h. refl;
    wrongs = λ A s h. refl;
    binds = then_longer;
    rescues = rescue_longer;
    spends = spends;
    pays = pays;
    remotes = remotes;
    neighbours = neighbours;
    serves = serves;
  }

  run_longer : (n m : ℕ) → n ≤ m → (code : Program) (seen : ℕ) (env : Env) (e : Expr) → Longer Value (run_to n code seen env e) (run_to m code seen env e)
  run_longer = run_kept Longer longer_kept (λ q s h. absurd (h tt))

  pub longer : (code : Program) (seen : ℕ) (env : Env) (e : Expr) → Longer Value (meaning code seen env e) (meaning code seen env e)
  unfolding meaning
  longer code seen env e s h = run_longer (suc s.work) (suc (s.work + k)) (omega arith) code seen env e s h

  pub visit_longer : (c : Chunk) → Longer Value (visited_chunk meaning c) (visited_chunk meaning c)
  visit_longer c = visited_kept Longer longer_kept meaning meaning longer c

pub allowance : (code : Program) (seen : ℕ) (env : Env) (e : Expr) (s : VisitState) → IsLonger (meaning code seen env e) s
allowance code seen env e s k h = longer k code seen env e s h

pub visit_allowance : (c : Chunk) (s : VisitState) → IsLonger (visited_chunk meaning c) s
visit_allowance c s k h = visit_longer k c s h
