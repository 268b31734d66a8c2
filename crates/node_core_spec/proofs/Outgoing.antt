-- What a visit sends belongs to its family, and each packet has a bound of at least 1.
use Rattle.std.proofs.Common.{◌≡◌, ℕ, suc, ◌+◌, ◌-◌, ◌<◌, Bool, true, false, ◌&&◌, if◌then◌else◌, ◌==◌, nat_lt, nat_le, ℤ, pos, negsuc, List, refl, arith}
use Rattle.std.specs.Prelude.{All}
use Rattle.std.proofs.lemmas.Bool.Decides.{nat_tests}
use Rattle.std.proofs.lemmas.Bool.{false≢true}
use Rattle.std.proofs.lemmas.List.Elements.{All-push}
use Rattle.plan_base.specs.declared.ids.Family.{Family}
use Rattle.plan_base.specs.declared.name.Name.{Name}
use Rattle.plan_base.specs.declared.ids.Host.{Host}
use Rattle.plan_base.specs.declared.ids.Dev.{Dev}
use Rattle.plan_base.specs.declared.tree.Exn.{Exn}
use Rattle.plan_base.specs.declared.tree.Expr.{Expr}
use Rattle.plan_base.specs.declared.tree.Svc.{Svc}
use Rattle.plan_base.specs.declared.tree.Program.{Program}
use Rattle.plan_base.specs.declared.tree.Value.{Value}
use Rattle.plan_base.specs.declared.tree.Chunk.{Chunk}
use Rattle.service_api.specs.declared.answer.Answer.{Answer}
use Rattle.service_api.specs.declared.answer.Answer.TheVariants.{Gives, Raises}
use Rattle.service_api.specs.declared.router.Hop.{Hop}
use Rattle.service_api.specs.declared.router.Hop.TheVariants.{To, NoService, NoRoute}
use Rattle.service_api.specs.Routes.{hop, default_route}
use Rattle.service_api.specs.Services.{served_call}
use Rattle.plan_meaning.specs.declared.sent.Sent.{Sent}
use Rattle.plan_meaning.specs.declared.stop.EvalStop.TheVariants.{Raised, WorkSpent, Wrong, NoMemory}
use Rattle.plan_meaning.specs.State.{VisitState}
use Rattle.plan_meaning.specs.Run.{After, gave, stopped, RunStep, Run, «next», quiet, raise, otherwise, spend, serve, answered_call}
use Rattle.plan_meaning.specs.Meaning.{Env, pay_eval, no_bound, is_paid, bound_of, sent_packet, sent_by, send_remote, is_next, not_neighbour, send_neighbour, run_to, meaning, visited_chunk}
use Rattle.plan_meaning.specs.Laws.{left_by}
use Rattle.plan_meaning.proofs.Walk.{Kept, run_kept, visited_kept}

paid_low : (n purse : ℕ) → (nat_le 1 n && nat_le n purse) ≡ true → 0 < n
paid_low n purse e = grind (arith, nat_tests)

bound_low : (n : ℤ) (purse : ℕ) → is_paid n purse ≡ true → 0 < bound_of n
bound_low (pos n) purse e = paid_low n purse e
bound_low (negsuc n) purse e = absurd (false≢true e)

module _ (f : Family) where
  -- the state is of the family, and so are its packets
  pub record Outgoing (own : Family) (outbox : List Sent) : Type 0 where
    pub same : own ≡ f
    pub family : All (λ s. s.packet.family ≡ f) outbox
    pub paid : All (λ s. 0 < s.packet.bound) outbox

  abbrev pub Out : {A : Type 0} → After A → Type 0
  Out a = Outgoing (left_by a).family (left_by a).outbox

  abbrev pub Sends : (A : Type 0) → Run A → Run A → Type 0
  Sends A p q = (s : VisitState) → Outgoing s.family s.outbox → Out (p s).after

  choose : {A : Type 0} (b : Bool) (x y : RunStep A) → Out x.after → Out y.after → Out (if b then x else y).after
  choose true x y h k = h
  choose false x y h k = k

  next_out : {A B : Type 0} (a : After A) (g : A → Run B) → Out a → ((x : A) → Sends B (g x) (g x)) → Out («next» a g).after
  next_out (gave x s) g h k = k x s h
  next_out (stopped e s) g h k = h

  rescue_out : (a : After Value) (g : Exn → Run Value) → Out a → ((x : Exn) → Sends Value (g x) (g x)) → Out (otherwise a g).after
  rescue_out (gave x s) g h k = h
  rescue_out (stopped (Raised x) s) g h k = k x s h
  rescue_out (stopped WorkSpent s) g h k = h
  rescue_out (stopped Wrong s) g h k = h
  rescue_out (stopped NoMemory s) g h k = h

  sent_out : (s : VisitState) (dev : Dev) (k : Chunk) (h : Host) (n : ℕ) (r : Name) → 0 < n → Outgoing s.family s.outbox → Out (sent_packet dev k h n r s).after
  sent_out s dev k h n r e o = record {
    same = o.same;
    family = All-push (λ s. s.packet.family ≡ f) s.outbox _ o.family o.same;
    paid = All-push (λ s. 0 < s.packet.bound) s.outbox _ o.paid e;
  }

  sent_by_out : (s : VisitState) (hop : Hop) (k : Chunk) (h : Host) (n : ℕ) (r : Name) → 0 < n → Outgoing s.family s.outbox → Out (sent_by hop k h n r s).after
  sent_by_out s (To via dev) k h n r e o = sent_out s dev k h n r e o
  sent_by_out s NoService k h n r e o = o
  sent_by_out s NoRoute k h n r e o = o

  remote_out : (s : VisitState) (k : Chunk) (h : Host) (n : ℤ) (r : Name) (b : Bool) → is_paid n s.ctx.purse ≡ b → Outgoing s.family s.outbox
      → Out (if b then sent_by (hop s.ctx.router r s.ctx.here h) k h (bound_of n) r s else raise no_bound s).after
  remote_out s k h n r true e o = sent_by_out s (hop s.ctx.router r s.ctx.here h) k h (bound_of n) r (bound_low n _ e) o
  remote_out s k h n r false e o = o

  neighbour_out : (s : VisitState) (k : Chunk) (h : Host) (n : ℤ) (d : Dev) (b : Bool) → is_paid n s.ctx.purse ≡ b → Outgoing s.family s.outbox
      → Out (if b then (if is_next s d h then sent_packet d k h (bound_of n) default_route s else raise not_neighbour s) else raise no_bound s).after
  neighbour_out s k h n d true e o = choose (is_next s d h) _ _ (sent_out s d k h (bound_of n) default_route (bound_low n _ e) o) o
  neighbour_out s k h n d false e o = o

  served_out : (t : VisitState) → Outgoing t.family t.outbox → (a : Answer) → Out (answered_call a t)
  served_out t o (Gives v told) = o
  served_out t o (Raises x) = o

  spends : (n : ℕ) → Sends (Unit {0}) (spend n) (spend n)
  unfolding spend
  spends n s o = choose (nat_lt s.work n) (quiet (stopped WorkSpent s)) (quiet (gave tt (record s { work = s.work - n }))) o o

  pays : Sends (Unit {0}) pay_eval pay_eval
  unfolding pay_eval
  pays s o = choose (s.ctx.purse == 0) (quiet (stopped (Raised no_bound) s)) (quiet (gave tt (record s { ctx = record s.ctx { purse = s.ctx.purse - 1 }; evals = s.evals + 1 }))) o o

  remotes : (k : Chunk) (h : Host) (n : ℤ) (r : Name) → Sends (Unit {0}) (send_remote k h n r) (send_remote k h n r)
  unfolding send_remote
  remotes k h n r s o = remote_out s k h n r (is_paid n s.ctx.purse) refl o

  neighbours : (k : Chunk) (h : Host) (n : ℤ) (d : Dev) → Sends (Unit {0}) (send_neighbour k h n d) (send_neighbour k h n d)
  unfolding send_neighbour
  neighbours k h n d s o = neighbour_out s k h n d (is_paid n s.ctx.purse) refl o

  serves : (d : Svc) (args : List Value) → Sends Value (serve d args) (serve d args)
  unfolding serve
  serves d args s o = served_out _ o (served_call s.services d args s.ctx).answer

  sends_kept : Kept Sends
  sends_kept = record {
    gives = λ A a s o. o;
    stops = λ A e s o. o;
    wrongs = λ A s o. o;
    binds = λ A B p q g g' h k s o. next_out (p s).after g (h s o) k;
    rescues = λ p q g g' h k s o. rescue_out (p s).after g (h s o) k;
    spends = spends;
    pays = pays;
    remotes = remotes;
    neighbours = neighbours;
    serves = serves;
  }

  run_sends : (n : ℕ) (code : Program) (seen : ℕ) (env : Env) (e : Expr) → Sends Value (run_to n code seen env e) (run_to n code seen env e)
  run_sends n = run_kept Sends sends_kept (λ q s o. o) n n (omega arith)

  means_sends : (code : Program) (seen : ℕ) (env : Env) (e : Expr) → Sends Value (meaning code seen env e) (meaning code seen env e)
  unfolding meaning
  means_sends code seen env e s o = run_sends (suc s.work) code seen env e s o

  -- what is sent is of the family and has a bound
  pub visit_sends : (k : Chunk) → Sends Value (visited_chunk meaning k) (visited_chunk meaning k)
  visit_sends k = visited_kept Sends sends_kept meaning meaning means_sends k
