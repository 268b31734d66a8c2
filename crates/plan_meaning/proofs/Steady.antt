-- Surroundings, family, offer and the rows at `begin` stay.
use Rattle.std.proofs.Common.{ℕ, suc, ◌+◌, ◌-◌, if◌then◌else◌, ◌==◌, nat_lt, ℤ, List, refl, ◌∙◌, arith}
use Rattle.plan_base.specs.declared.name.Name.{Name}
use Rattle.plan_base.specs.declared.ids.Host.{Host}
use Rattle.plan_base.specs.declared.ids.Dev.{Dev}
use Rattle.plan_base.specs.declared.tree.Exn.{Exn}
use Rattle.plan_base.specs.declared.tree.Expr.{Expr}
use Rattle.plan_base.specs.declared.tree.Svc.{Svc}
use Rattle.plan_base.specs.declared.tree.Program.{Program}
use Rattle.plan_base.specs.declared.tree.Value.{Value}
use Rattle.plan_base.specs.declared.tree.Chunk.{Chunk}
use Rattle.service_api.specs.declared.answer.Answer.{Answer}
use Rattle.service_api.specs.declared.answer.Answer.TheVariants.{Gives, Raises}
use Rattle.service_api.specs.declared.router.Hop.{Hop}
use Rattle.service_api.specs.declared.router.Hop.TheVariants.{To, NoService, NoRoute}
use Rattle.service_api.specs.Routes.{hop, default_route}
use Rattle.service_api.specs.Services.{served_call}
use Rattle.plan_meaning.specs.declared.stop.EvalStop.TheVariants.{Raised, WorkSpent, Wrong, NoMemory}
use Rattle.plan_meaning.specs.State.{VisitState}
use Rattle.plan_meaning.specs.Run.{After, gave, stopped, Run, «next», quiet, otherwise, spend, serve, answered_call}
use Rattle.plan_meaning.specs.Meaning.{Env, pay_eval, no_bound, is_paid, bound_of, sent_packet, sent_by, send_remote, is_next, not_neighbour, send_neighbour, run_to, meaning, visited_chunk}
use Rattle.plan_meaning.specs.Laws.{left_by, IsSteady}
use Rattle.plan_meaning.proofs.Walk.{Kept, choose, run_kept, visited_kept}

abbrev pub Steady : (A : Type 0) → Run A → Run A → Type 0
Steady A p q = (s : VisitState) → IsSteady s (left_by (p s).after)

abbrev Has : {A : Type 0} → VisitState → After A → Type 0
Has s a = IsSteady s (left_by a)

same_steady : (s : VisitState) → IsSteady s s
same_steady s = record { ctx = refl; family = refl; offer = refl; begun = refl }

then_steady : (r s t : VisitState) → IsSteady r s → IsSteady s t → IsSteady r t
then_steady r s t h k = record { ctx = k.ctx ∙ h.ctx; family = k.family ∙ h.family; offer = k.offer ∙ h.offer; begun = k.begun ∙ h.begun }

next_steady : {A B : Type 0} (r : VisitState) (a : After A) (f : A → Run B) → Has r a → ((x : A) → Steady B (f x) (f x)) → Has r («next» a f).after
next_steady r (gave x s) f h k = then_steady r s _ h (k x s)
next_steady r (stopped e s) f h k = h

rescue_steady : (r : VisitState) (a : After Value) (f : Exn → Run Value) → Has r a → ((x : Exn) → Steady Value (f x) (f x)) → Has r (otherwise a f).after
rescue_steady r (gave x s) f h k = h
rescue_steady r (stopped (Raised x) s) f h k = then_steady r s _ h (k x s)
rescue_steady r (stopped WorkSpent s) f h k = h
rescue_steady r (stopped Wrong s) f h k = h
rescue_steady r (stopped NoMemory s) f h k = h

sent_steady : (s : VisitState) (dev : Dev) (k : Chunk) (h : Host) (n : ℕ) (r : Name) → Has s (sent_packet dev k h n r s).after
sent_steady s dev k h n r = record { ctx = refl; family = refl; offer = refl; begun = refl }

sent_by_steady : (s : VisitState) (hop : Hop) (k : Chunk) (h : Host) (n : ℕ) (r : Name) → Has s (sent_by hop k h n r s).after
sent_by_steady s (To via dev) k h n r = sent_steady s dev k h n r
sent_by_steady s NoService k h n r = same_steady s
sent_by_steady s NoRoute k h n r = same_steady s

served_steady : (s t : VisitState) → IsSteady s t → (a : Answer) → Has s (answered_call a t)
served_steady s t e (Gives v told) = record { ctx = e.ctx; family = e.family; offer = e.offer; begun = e.begun }
served_steady s t e (Raises x) = e

spends : (n : ℕ) → Steady (Unit {0}) (spend n) (spend n)
unfolding spend
spends n s = choose IsSteady s (nat_lt s.work n) (quiet (stopped WorkSpent s)) (quiet (gave tt (record s { work = s.work - n }))) (same_steady s) (record { ctx = refl; family = refl; offer = refl; begun = refl })

pays : Steady (Unit {0}) pay_eval pay_eval
unfolding pay_eval
pays s =
    choose IsSteady s (s.ctx.purse == 0) (quiet (stopped (Raised no_bound) s))
    (quiet (gave tt (record s { ctx = record s.ctx { purse = s.ctx.purse - 1 }; evals = s.evals + 1 }))) (same_steady s) (record { ctx = refl; family = refl; offer = refl; begun = refl })

remotes : (k : Chunk) (h : Host) (n : ℤ) (r : Name) → Steady (Unit {0}) (send_remote k h n r) (send_remote k h n r)
unfolding send_remote
remotes k h n r s =
    choose IsSteady s (is_paid n s.ctx.purse) (sent_by (hop s.ctx.router r s.ctx.here h) k h (bound_of n) r s) (quiet (stopped (Raised no_bound) s))
    (sent_by_steady s (hop s.ctx.router r s.ctx.here h) k h (bound_of n) r) (same_steady s)

neighbours : (k : Chunk) (h : Host) (n : ℤ) (d : Dev) → Steady (Unit {0}) (send_neighbour k h n d) (send_neighbour k h n d)
unfolding send_neighbour
neighbours k h n d s =
    choose IsSteady s (is_paid n s.ctx.purse) (if is_next s d h then sent_packet d k h (bound_of n) default_route s else quiet (stopped (Raised not_neighbour) s)) (quiet (stopped (Raised no_bound) s))
    (choose IsSteady s (is_next s d h) (sent_packet d k h (bound_of n) default_route s) (quiet (stopped (Raised not_neighbour) s)) (sent_steady s d k h (bound_of n) default_route) (same_steady s)) (same_steady s)

serves : (d : Svc) (args : List Value) → Steady Value (serve d args) (serve d args)
unfolding serve
serves d args s = served_steady s _ (record { ctx = refl; family = refl; offer = refl; begun = refl }) (served_call s.services d args s.ctx).answer

pub steady_kept : Kept Steady
steady_kept = record {
  gives = λ A a s. same_steady s;
  stops = λ A e s. same_steady s;
  wrongs = λ A s. same_steady s;
  binds = λ A B p q f g h k s. next_steady s (p s).after f (h s) k;
  rescues = λ p q f g h k s. rescue_steady s (p s).after f (h s) k;
  spends = spends;
  pays = pays;
  remotes = remotes;
  neighbours = neighbours;
  serves = serves;
}

run_steady : (n : ℕ) (code : Program) (seen : ℕ) (env : Env) (e : Expr) → Steady Value (run_to n code seen env e) (run_to n code seen env e)
run_steady n = run_kept Steady steady_kept (λ q s. same_steady s) n n (omega arith)

pub steadiness : (code : Program) (seen : ℕ) (env : Env) (e : Expr) (s : VisitState) → IsSteady s (left_by (meaning code seen env e s).after)
unfolding meaning
steadiness code seen env e s = run_steady (suc s.work) code seen env e s

pub visit_steadiness : (k : Chunk) (s : VisitState) → IsSteady s (left_by (visited_chunk meaning k s).after)
visit_steadiness k = visited_kept Steady steady_kept meaning meaning steadiness k
