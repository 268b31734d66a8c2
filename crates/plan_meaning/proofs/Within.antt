-- The depth at which the meaning is cut off is no part of it.
use Rattle.std.proofs.Common.{◌≡◌, ℕ, zero, suc, ◌+◌, ◌-◌, ◌<◌, ◌≤◌, Bool, true, false, if◌then◌else◌, ◌==◌, nat_lt, ℤ, List, refl, sym, ap, ◌∙◌, subst, arith}
use Rattle.std.proofs.lemmas.Bool.Decides.{nat_tests}
use Rattle.plan_base.specs.declared.name.Name.{Name}
use Rattle.plan_base.specs.declared.ids.Host.{Host}
use Rattle.plan_base.specs.declared.ids.Dev.{Dev}
use Rattle.plan_base.specs.declared.tree.Exn.{Exn}
use Rattle.plan_base.specs.declared.tree.Expr.{Expr}
use Rattle.plan_base.specs.declared.tree.Svc.{Svc}
use Rattle.plan_base.specs.declared.tree.Program.{Program}
use Rattle.plan_base.specs.declared.tree.Value.{Value}
use Rattle.plan_base.specs.declared.tree.Chunk.{Chunk}
use Rattle.service_api.specs.declared.answer.Answer.{Answer}
use Rattle.service_api.specs.declared.answer.Answer.TheVariants.{Gives, Raises}
use Rattle.service_api.specs.declared.router.Hop.{Hop}
use Rattle.service_api.specs.declared.router.Hop.TheVariants.{To, NoService, NoRoute}
use Rattle.service_api.specs.Routes.{hop, default_route}
use Rattle.service_api.specs.Services.{served_call}
use Rattle.plan_meaning.specs.declared.stop.EvalStop.TheVariants.{Raised, WorkSpent, Wrong, NoMemory}
use Rattle.plan_meaning.specs.State.{VisitState}
use Rattle.plan_meaning.specs.Run.{After, gave, stopped, RunStep, both, Run, «next», and_then, ◌>>=◌, ◌>>◌, quiet, otherwise, rescued_step, rescue, spend, whole, serve, answered_call}
use Rattle.plan_meaning.specs.Meaning.{Env, Runs, pay_eval, no_bound, is_paid, bound_of, sent_packet, sent_by, send_remote, is_next, not_neighbour, send_neighbour, node, run_to, meaning}
use Rattle.plan_meaning.specs.Laws.{left_by}
use Rattle.plan_meaning.proofs.Walk.{Kept, weighed_kept, opened_kept}

-- the same step, which leaves no more work
pub record Agree {A : Type 0} (s : VisitState) (a b : RunStep A) : Type 0 where
  pub same : a ≡ b
  pub falls : (left_by a.after).work ≤ s.work

-- at states with less work than w
abbrev pub Within : ℕ → (A : Type 0) → Run A → Run A → Type 0
Within w A p q = (s : VisitState) → s.work < w → Agree s (p s) (q s)

itself : {A : Type 0} (s : VisitState) (a : RunStep A) → (left_by a.after).work ≤ s.work → Agree s a a
itself s a h = record { same = refl; falls = h }

below : (a b c : ℕ) → b ≤ a → c ≤ b → c ≤ a
below a b c h k = omega arith

module _ (w : ℕ) where
  next_within : {A B : Type 0} (s : VisitState) (a : After A) (f g : A → Run B) → s.work < w → (left_by a).work ≤ s.work → ((x : A) → Within w B (f x) (g x)) → Agree s («next» a f) («next» a g)
  next_within s (gave x t) f g l h k = let m : t.work < w = omega arith in record { same = (k x t m).same; falls = below s.work t.work _ h (k x t m).falls }
  next_within s (stopped e t) f g l h k = itself s _ h

  then_within : (A B : Type 0) (p q : Run A) (f g : A → Run B) → Within w A p q → ((x : A) → Within w B (f x) (g x)) → Within w B (p >>= f) (q >>= g)
  then_within A B p q f g h k s l =
      let first = h s l in
      let later = next_within s (p s).after f g l first.falls k in
      record { same = (λ i. record { after = (later.same i).after; asks = both (p s).asks (later.same i).asks }) ∙ ap (λ r. and_then r g) first.same; falls = later.falls }

  otherwise_within : (s : VisitState) (a : After Value) (f g : Exn → Run Value) → s.work < w → (left_by a).work ≤ s.work → ((x : Exn) → Within w Value (f x) (g x)) → Agree s (otherwise a f) (otherwise a g)
  otherwise_within s (gave x t) f g l h k = itself s _ h
  otherwise_within s (stopped (Raised x) t) f g l h k = let m : t.work < w = omega arith in record { same = (k x t m).same; falls = below s.work t.work _ h (k x t m).falls }
  otherwise_within s (stopped WorkSpent t) f g l h k = itself s _ h
  otherwise_within s (stopped Wrong t) f g l h k = itself s _ h
  otherwise_within s (stopped NoMemory t) f g l h k = itself s _ h

  rescue_within : (p q : Run Value) (f g : Exn → Run Value) → Within w Value p q → ((x : Exn) → Within w Value (f x) (g x)) → Within w Value (rescue p f) (rescue q g)
  rescue_within p q f g h k s l =
      let first = h s l in
      let later = otherwise_within s (p s).after f g l first.falls k in
      record { same = (λ i. record { after = (later.same i).after; asks = both (p s).asks (later.same i).asks }) ∙ ap (λ r. rescued_step r g) first.same; falls = later.falls }

  choose : {A : Type 0} (s : VisitState) (b : Bool) (x y : RunStep A) → (left_by x.after).work ≤ s.work → (left_by y.after).work ≤ s.work → (left_by (if b then x else y).after).work ≤ s.work
  choose s true x y h k = h
  choose s false x y h k = k

  same_work : (n : ℕ) → n ≤ n
  same_work n = omega arith

  less_work : (n k : ℕ) → n - k ≤ n
  less_work n k = omega arith

  spends : (n : ℕ) → Within w (Unit {0}) (spend n) (spend n)
  unfolding spend
  spends n s l = itself s _ (choose s (nat_lt s.work n) (quiet (stopped WorkSpent s)) (quiet (gave tt (record s { work = s.work - n }))) (same_work s.work) (less_work s.work n))

  pays : Within w (Unit {0}) pay_eval pay_eval
  unfolding pay_eval
  pays s l = itself s _ (choose s (s.ctx.purse == 0) (quiet (stopped (Raised no_bound) s)) (quiet (gave tt (record s { ctx = record s.ctx { purse = s.ctx.purse - 1 }; evals = s.evals + 1 }))) (same_work s.work) (same_work s.work))

  sent_by_falls : (s : VisitState) (hop : Hop) (c : Chunk) (h : Host) (n : ℕ) (r : Name) → (left_by (sent_by hop c h n r s).after).work ≤ s.work
  sent_by_falls s (To via dev) c h n r = same_work s.work
  sent_by_falls s NoService c h n r = same_work s.work
  sent_by_falls s NoRoute c h n r = same_work s.work

  remotes : (k : Chunk) (h : Host) (n : ℤ) (r : Name) → Within w (Unit {0}) (send_remote k h n r) (send_remote k h n r)
  unfolding send_remote
  remotes k h n r s l =
      itself s _ (choose s (is_paid n s.ctx.purse) (sent_by (hop s.ctx.router r s.ctx.here h) k h (bound_of n) r s) (quiet (stopped (Raised no_bound) s))
      (sent_by_falls s (hop s.ctx.router r s.ctx.here h) k h (bound_of n) r) (same_work s.work))

  neighbours : (k : Chunk) (h : Host) (n : ℤ) (d : Dev) → Within w (Unit {0}) (send_neighbour k h n d) (send_neighbour k h n d)
  unfolding send_neighbour
  neighbours k h n d s l =
      itself s _ (choose s (is_paid n s.ctx.purse) (if is_next s d h then sent_packet d k h (bound_of n) default_route s else quiet (stopped (Raised not_neighbour) s)) (quiet (stopped (Raised no_bound) s))
      (choose s (is_next s d h) (sent_packet d k h (bound_of n) default_route s) (quiet (stopped (Raised not_neighbour) s)) (same_work s.work) (same_work s.work)) (same_work s.work))

  served_falls : (s t : VisitState) → t.work ≤ s.work → (a : Answer) → (left_by (answered_call a t)).work ≤ s.work
  served_falls s t h (Gives v told) = h
  served_falls s t h (Raises x) = h

  serves : (d : Svc) (args : List Value) → Within w Value (serve d args) (serve d args)
  unfolding serve
  serves d args s l = itself s _ (served_falls s _ (same_work s.work) (served_call s.services d args s.ctx).answer)

  pub within_kept : Kept (Within w)
  within_kept = record {
    gives = λ A a s l. itself s _ (same_work s.work);
    stops = λ A e s l. itself s _ (same_work s.work);
    wrongs = λ A s l. itself s _ (same_work s.work);
    binds = then_within;
    rescues = rescue_within;
    spends = spends;
    pays = pays;
    remotes = remotes;
    neighbours = neighbours;
    serves = serves;
  }

-- an expression first spends 1, so its parts run with less work
one_spent : VisitState → Bool → RunStep (Unit {0})
one_spent s b = if b then quiet (stopped WorkSpent s) else quiet (gave tt (record s { work = s.work - 1 }))

spent_first : (w : ℕ) (s : VisitState) (b : Bool) → nat_lt s.work 1 ≡ b → s.work < suc w → (p q : Run Value) → Within w Value p q
    → Agree s («next» (one_spent s b).after (λ _. p)) («next» (one_spent s b).after (λ _. q))
unfolding one_spent
spent_first w s true e l p q h = itself s _ (same_work 0 s.work)
spent_first w s false e l p q h =
    let t : VisitState = record s { work = s.work - 1 } in
    let m : s.work - 1 < w = grind (arith, nat_tests) in
    let later = h t m in
    record { same = later.same; falls = below s.work t.work _ (less_work 0 s.work 1) later.falls }

first_within : (w : ℕ) (p q : Run Value) → Within w Value p q → Within (suc w) Value (spend 1 >> p) (spend 1 >> q)
unfolding spend one_spent
first_within w p q h s l =
    let later = spent_first w s (nat_lt s.work 1) refl l p q h in
    record { same = λ i. record { after = (later.same i).after; asks = both (spend 1 s).asks (later.same i).asks }; falls = later.falls }

whole_within : (w : ℕ) (p q : Run Value) → Within w Value p q → Within (suc w) Value (whole p) (whole q)
unfolding whole
whole_within w p q h = then_within (suc w) _ _ _ _ _ _ (first_within w p q h) (weighed_kept (Within (suc w)) (within_kept (suc w)))

module _ (w : ℕ) (r r' : Runs) (runs : (code : Program) (seen : ℕ) (env : Env) (e : Expr) → Within w Value (r code seen env e) (r' code seen env e)) where
  pub node_within : (code : Program) (seen : ℕ) (env : Env) (e : Expr) → Within (suc w) Value (node r code seen env e) (node r' code seen env e)
  unfolding node
  node_within code seen env e = whole_within w _ _ (opened_kept (Within w) (within_kept w) r r' runs code seen env e)

pub run_within : (n m : ℕ) → n ≤ m → (code : Program) (seen : ℕ) (env : Env) (e : Expr) → Within n Value (run_to n code seen env e) (run_to m code seen env e)
unfolding run_to
run_within zero m h code seen env e = λ s l. absurd (omega arith)
run_within (suc n) zero h code seen env e = absurd (omega arith)
run_within (suc n) (suc m) h code seen env e = node_within n (run_to n) (run_to m) (run_within n m (omega arith)) code seen env e

-- at any depth above the work left it is the meaning
pub deep_enough : (n : ℕ) (code : Program) (seen : ℕ) (env : Env) (e : Expr) → Within n Value (run_to n code seen env e) (meaning code seen env e)
unfolding meaning
deep_enough n code seen env e s l =
    let k = run_within (suc s.work) n (omega arith) code seen env e s (omega arith) in
    record { same = sym k.same; falls = subst (λ r. (left_by r.after).work ≤ s.work) k.same k.falls }

pub meaning_is_fixed : (code : Program) (seen : ℕ) (env : Env) (e : Expr) (s : VisitState) → meaning code seen env e s ≡ node meaning code seen env e s
unfolding meaning run_to
meaning_is_fixed code seen env e s = (node_within s.work (run_to s.work) meaning (deep_enough s.work) code seen env e s (omega arith)).same
