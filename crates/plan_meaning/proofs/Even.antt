-- Purse, evals and the bounds of the packets sent keep their sum.
use Rattle.std.proofs.Common.{◌≡◌, ℕ, suc, ◌+◌, ◌-◌, ◌≤◌, Bool, true, false, ◌&&◌, if◌then◌else◌, ◌==◌, nat_lt, nat_le, ℤ, pos, negsuc, List, [], ◌∷◌, ◌++◌, refl, ap, ◌∙◌, arith}
use Rattle.std.proofs.lemmas.Bool.Decides.{nat_tests}
use Rattle.std.proofs.lemmas.List.Sums.{sum_by-append}
use Rattle.std.proofs.lemmas.Bool.{false≢true}
use Rattle.plan_base.specs.declared.name.Name.{Name}
use Rattle.plan_base.specs.declared.ids.Host.{Host}
use Rattle.plan_base.specs.declared.ids.Dev.{Dev}
use Rattle.plan_base.specs.declared.tree.Exn.{Exn}
use Rattle.plan_base.specs.declared.tree.Expr.{Expr}
use Rattle.plan_base.specs.declared.tree.Svc.{Svc}
use Rattle.plan_base.specs.declared.tree.Program.{Program}
use Rattle.plan_base.specs.declared.tree.Value.{Value}
use Rattle.plan_base.specs.declared.tree.Chunk.{Chunk}
use Rattle.service_api.specs.declared.answer.Answer.{Answer}
use Rattle.service_api.specs.declared.answer.Answer.TheVariants.{Gives, Raises}
use Rattle.service_api.specs.declared.router.Hop.{Hop}
use Rattle.service_api.specs.declared.router.Hop.TheVariants.{To, NoService, NoRoute}
use Rattle.service_api.specs.Routes.{hop, default_route}
use Rattle.service_api.specs.Services.{served_call}
use Rattle.plan_meaning.specs.declared.sent.Sent.{Sent}
use Rattle.plan_meaning.specs.declared.stop.EvalStop.TheVariants.{Raised, WorkSpent, Wrong, NoMemory}
use Rattle.plan_meaning.specs.State.{VisitState}
use Rattle.plan_meaning.specs.Run.{After, gave, stopped, RunStep, Run, «next», quiet, raise, otherwise, spend, serve, answered_call}
use Rattle.plan_meaning.specs.Meaning.{Env, pay_eval, no_bound, is_paid, bound_of, sent_packet, sent_by, send_remote, is_next, not_neighbour, send_neighbour, run_to, meaning, visited_chunk}
use Rattle.plan_meaning.specs.Visit.{bounds}
use Rattle.plan_meaning.specs.Laws.{left_by, total, IsBalanced}
use Rattle.plan_meaning.proofs.Walk.{Kept, run_kept, visited_kept}

abbrev pub Even : (A : Type 0) → Run A → Run A → Type 0
Even A p q = (s : VisitState) → IsBalanced p s

abbrev Has : {A : Type 0} → ℕ → After A → Type 0
Has n a = total (left_by a) ≡ n

choose : {A : Type 0} (n : ℕ) (b : Bool) (x y : RunStep A) → Has n x.after → Has n y.after → Has n (if b then x else y).after
choose n true x y h k = h
choose n false x y h k = k

next_even : {A B : Type 0} (n : ℕ) (a : After A) (f : A → Run B) → Has n a → ((x : A) → Even B (f x) (f x)) → Has n («next» a f).after
next_even n (gave x s) f h k = k x s ∙ h
next_even n (stopped e s) f h k = h

rescue_even : (n : ℕ) (a : After Value) (f : Exn → Run Value) → Has n a → ((x : Exn) → Even Value (f x) (f x)) → Has n (otherwise a f).after
rescue_even n (gave x s) f h k = h
rescue_even n (stopped (Raised x) s) f h k = k x s ∙ h
rescue_even n (stopped WorkSpent s) f h k = h
rescue_even n (stopped Wrong s) f h k = h
rescue_even n (stopped NoMemory s) f h k = h

pay_sum : (purse evals b : ℕ) → (purse == 0) ≡ false → (purse - 1) + (evals + 1) + b ≡ purse + evals + b
pay_sum purse evals b e = grind (arith, nat_tests)

pay_even : (s : VisitState) (b : Bool) → (s.ctx.purse == 0) ≡ b
    → Has (total s) (if b then raise {A = Unit {0}} no_bound s else quiet (gave tt (record s { ctx = record s.ctx { purse = s.ctx.purse - 1 }; evals = s.evals + 1 }))).after
pay_even s true e = refl
pay_even s false e = pay_sum s.ctx.purse s.evals (bounds s.outbox) e

send_sum : (purse n evals b : ℕ) → n ≤ purse → (purse - n) + evals + (b + n) ≡ purse + evals + b
send_sum purse n evals b h = omega arith

bounds_behind : (xs : List Sent) (x : Sent) → bounds (xs ++ x ∷ []) ≡ bounds xs + x.packet.bound
bounds_behind xs x = sum_by-append (λ p. p.packet.bound) xs (x ∷ []) ∙ ap (λ n. bounds xs + n) (grind arith)

sent_even : (s : VisitState) (dev : Dev) (k : Chunk) (h : Host) (n : ℕ) (r : Name) → n ≤ s.ctx.purse → Has (total s) (sent_packet dev k h n r s).after
sent_even s dev k h n r e =
    ap (λ b. (s.ctx.purse - n) + s.evals + b) (bounds_behind s.outbox _) ∙ send_sum s.ctx.purse n s.evals (bounds s.outbox) e

sent_by_even : (s : VisitState) (hop : Hop) (k : Chunk) (h : Host) (n : ℕ) (r : Name) → n ≤ s.ctx.purse → Has (total s) (sent_by hop k h n r s).after
sent_by_even s (To via dev) k h n r e = sent_even s dev k h n r e
sent_by_even s NoService k h n r e = refl
sent_by_even s NoRoute k h n r e = refl

paid_within : (n purse : ℕ) → (nat_le 1 n && nat_le n purse) ≡ true → n ≤ purse
paid_within n purse e = grind (arith, nat_tests)

bound_within : (n : ℤ) (purse : ℕ) → is_paid n purse ≡ true → bound_of n ≤ purse
bound_within (pos n) purse e = paid_within n purse e
bound_within (negsuc n) purse e = absurd (false≢true e)

remote_even : (s : VisitState) (k : Chunk) (h : Host) (n : ℤ) (r : Name) (b : Bool) → is_paid n s.ctx.purse ≡ b
    → Has (total s) (if b then sent_by (hop s.ctx.router r s.ctx.here h) k h (bound_of n) r s else raise no_bound s).after
remote_even s k h n r true e = sent_by_even s (hop s.ctx.router r s.ctx.here h) k h (bound_of n) r (bound_within n _ e)
remote_even s k h n r false e = refl

neighbour_even : (s : VisitState) (k : Chunk) (h : Host) (n : ℤ) (d : Dev) (b : Bool) → is_paid n s.ctx.purse ≡ b
    → Has (total s) (if b then (if is_next s d h then sent_packet d k h (bound_of n) default_route s else raise not_neighbour s) else raise no_bound s).after
neighbour_even s k h n d true e = choose _ (is_next s d h) _ _ (sent_even s d k h (bound_of n) default_route (bound_within n _ e)) refl
neighbour_even s k h n d false e = refl

served_even : (s t : VisitState) → total t ≡ total s → (a : Answer) → Has (total s) (answered_call a t)
served_even s t e (Gives v told) = e
served_even s t e (Raises x) = e

module _ (n : ℕ) where
  spends : Even (Unit {0}) (spend n) (spend n)
  unfolding spend
  spends s = choose (total s) (nat_lt s.work n) (quiet (stopped WorkSpent s)) (quiet (gave tt (record s { work = s.work - n }))) refl refl

pays : Even (Unit {0}) pay_eval pay_eval
unfolding pay_eval
pays s = pay_even s (s.ctx.purse == 0) refl

remotes : (k : Chunk) (h : Host) (n : ℤ) (r : Name) → Even (Unit {0}) (send_remote k h n r) (send_remote k h n r)
unfolding send_remote
remotes k h n r s = remote_even s k h n r (is_paid n s.ctx.purse) refl

neighbours : (k : Chunk) (h : Host) (n : ℤ) (d : Dev) → Even (Unit {0}) (send_neighbour k h n d) (send_neighbour k h n d)
unfolding send_neighbour
neighbours k h n d s = neighbour_even s k h n d (is_paid n s.ctx.purse) refl

serves : (d : Svc) (args : List Value) → Even Value (serve d args) (serve d args)
unfolding serve
serves d args s = served_even s _ refl (served_call s.services d args s.ctx).answer

pub even_kept : Kept Even
even_kept = record {
  gives = λ A a s. refl;
  stops = λ A e s. refl;
  wrongs = λ A s. refl;
  binds = λ A B p q f g h k s. next_even (total s) (p s).after f (h s) k;
  rescues = λ p q f g h k s. rescue_even (total s) (p s).after f (h s) k;
  spends = spends;
  pays = pays;
  remotes = remotes;
  neighbours = neighbours;
  serves = serves;
}

pub run_even : (n : ℕ) (code : Program) (seen : ℕ) (env : Env) (e : Expr) → Even Value (run_to n code seen env e) (run_to n code seen env e)
run_even n = run_kept Even even_kept (λ q s. refl) n n (omega arith)

pub balance : (code : Program) (seen : ℕ) (env : Env) (e : Expr) (s : VisitState) → IsBalanced (meaning code seen env e) s
unfolding meaning
balance code seen env e s = run_even (suc s.work) code seen env e s

pub visit_balance : (k : Chunk) (s : VisitState) → IsBalanced (visited_chunk meaning k) s
visit_balance k = visited_kept Even even_kept meaning meaning balance k
