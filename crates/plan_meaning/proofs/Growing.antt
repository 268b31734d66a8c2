-- The purse never rises; evals, packets and notes only become more.
use Rattle.std.proofs.Common.{ℕ, suc, ◌+◌, ◌-◌, ◌≤◌, if◌then◌else◌, ◌==◌, nat_lt, ℤ, List, [], ◌∷◌, ◌++◌, Option, Some, None, refl, sym, ◌∙◌, ap, arith, append_assoc}
use Rattle.std.proofs.lemmas.List.{append-nil}
use Rattle.plan_base.specs.declared.name.Name.{Name}
use Rattle.plan_base.specs.declared.ids.Host.{Host}
use Rattle.plan_base.specs.declared.ids.Dev.{Dev}
use Rattle.plan_base.specs.declared.tree.Exn.{Exn}
use Rattle.plan_base.specs.declared.tree.Expr.{Expr}
use Rattle.plan_base.specs.declared.tree.Svc.{Svc}
use Rattle.plan_base.specs.declared.tree.Program.{Program}
use Rattle.plan_base.specs.declared.tree.Value.{Value}
use Rattle.plan_base.specs.declared.tree.Chunk.{Chunk}
use Rattle.service_api.specs.declared.answer.Note.{Note}
use Rattle.service_api.specs.declared.answer.Answer.{Answer}
use Rattle.service_api.specs.declared.answer.Answer.TheVariants.{Gives, Raises}
use Rattle.service_api.specs.declared.router.Hop.{Hop}
use Rattle.service_api.specs.declared.router.Hop.TheVariants.{To, NoService, NoRoute}
use Rattle.service_api.specs.Routes.{hop, default_route}
use Rattle.service_api.specs.Services.{Served, served_call, called_services}
use Rattle.plan_meaning.specs.declared.stop.EvalStop.TheVariants.{Raised, WorkSpent, Wrong, NoMemory}
use Rattle.plan_meaning.specs.State.{VisitState}
use Rattle.plan_meaning.specs.Run.{After, gave, stopped, Run, «next», quiet, otherwise, spend, serve, answered_call, notes_after}
use Rattle.plan_meaning.specs.Meaning.{Env, pay_eval, no_bound, is_paid, bound_of, sent_packet, sent_by, send_remote, is_next, not_neighbour, send_neighbour, run_to, meaning, visited_chunk}
use Rattle.plan_meaning.specs.Laws.{left_by, Extends, HasGrown}
use Rattle.plan_meaning.proofs.Walk.{Kept, choose, run_kept, visited_kept}

itself : {A : Type 0} (xs : List A) → Extends xs xs
itself xs = record { more = []; behind = sym (append-nil xs) }

extends_then : {A : Type 0} (xs ys zs : List A) → Extends xs ys → Extends ys zs → Extends xs zs
extends_then xs ys zs h k = record { more = h.more ++ k.more; behind = k.behind ∙ ap (λ l. l ++ k.more) h.behind ∙ append_assoc xs h.more k.more }

one_more : {A : Type 0} (xs : List A) (x : A) → Extends xs (xs ++ x ∷ [])
one_more xs x = record { more = x ∷ []; behind = refl }

pub same_number : (n : ℕ) → n ≤ n
same_number n = omega arith

less_number : (n k : ℕ) → n - k ≤ n
less_number n k = omega arith

one_number : (n : ℕ) → n ≤ n + 1
one_number n = omega arith

pub between : (a b c : ℕ) → a ≤ b → b ≤ c → a ≤ c
between a b c h k = omega arith

grown_itself : (s : VisitState) → HasGrown s s
grown_itself s = record { purse = same_number s.ctx.purse; evals = same_number s.evals; outbox = itself s.outbox; notes = itself s.notes }

grown_then : (r s t : VisitState) → HasGrown r s → HasGrown s t → HasGrown r t
grown_then r s t h k = record {
  purse = between t.ctx.purse s.ctx.purse r.ctx.purse k.purse h.purse;
  evals = between r.evals s.evals t.evals h.evals k.evals;
  outbox = extends_then r.outbox s.outbox t.outbox h.outbox k.outbox;
  notes = extends_then r.notes s.notes t.notes h.notes k.notes;
}

abbrev pub Growing : (A : Type 0) → Run A → Run A → Type 0
Growing A p q = (s : VisitState) → HasGrown s (left_by (p s).after)

abbrev Has : {A : Type 0} → VisitState → After A → Type 0
Has s a = HasGrown s (left_by a)

next_grown : {A B : Type 0} (r : VisitState) (a : After A) (f : A → Run B) → Has r a → ((x : A) → Growing B (f x) (f x)) → Has r («next» a f).after
next_grown r (gave x s) f h k = grown_then r s _ h (k x s)
next_grown r (stopped e s) f h k = h

rescue_grown : (r : VisitState) (a : After Value) (f : Exn → Run Value) → Has r a → ((x : Exn) → Growing Value (f x) (f x)) → Has r (otherwise a f).after
rescue_grown r (gave x s) f h k = h
rescue_grown r (stopped (Raised x) s) f h k = grown_then r s _ h (k x s)
rescue_grown r (stopped WorkSpent s) f h k = h
rescue_grown r (stopped Wrong s) f h k = h
rescue_grown r (stopped NoMemory s) f h k = h

sent_grown : (s : VisitState) (dev : Dev) (k : Chunk) (h : Host) (n : ℕ) (r : Name) → Has s (sent_packet dev k h n r s).after
sent_grown s dev k h n r = record { purse = less_number s.ctx.purse n; evals = same_number s.evals; outbox = one_more s.outbox _; notes = itself s.notes }

sent_by_grown : (s : VisitState) (hop : Hop) (k : Chunk) (h : Host) (n : ℕ) (r : Name) → Has s (sent_by hop k h n r s).after
sent_by_grown s (To via dev) k h n r = sent_grown s dev k h n r
sent_by_grown s NoService k h n r = grown_itself s
sent_by_grown s NoRoute k h n r = grown_itself s

noted_grown : (notes : List Note) (o : Option Note) → Extends notes (notes_after o notes)
noted_grown notes None = itself notes
noted_grown notes (Some note) = one_more notes note

answered_grown : (s : VisitState) (r : Served) (a : Answer) → Has s (answered_call a (record s { services = called_services r.rows s.services }))
answered_grown s r (Gives v told) = record { purse = same_number s.ctx.purse; evals = same_number s.evals; outbox = itself s.outbox; notes = noted_grown s.notes told }
answered_grown s r (Raises x) = record { purse = same_number s.ctx.purse; evals = same_number s.evals; outbox = itself s.outbox; notes = itself s.notes }

less_work : (s : VisitState) (n : ℕ) → HasGrown s (record s { work = n })
less_work s n = record { purse = same_number s.ctx.purse; evals = same_number s.evals; outbox = itself s.outbox; notes = itself s.notes }

paid_grown : (s : VisitState) → HasGrown s (record s { ctx = record s.ctx { purse = s.ctx.purse - 1 }; evals = s.evals + 1 })
paid_grown s = record { purse = less_number s.ctx.purse 1; evals = one_number s.evals; outbox = itself s.outbox; notes = itself s.notes }

spends : (n : ℕ) → Growing (Unit {0}) (spend n) (spend n)
unfolding spend
spends n s = choose HasGrown s (nat_lt s.work n) (quiet (stopped WorkSpent s)) (quiet (gave tt (record s { work = s.work - n }))) (grown_itself s) (less_work s (s.work - n))

pays : Growing (Unit {0}) pay_eval pay_eval
unfolding pay_eval
pays s = choose HasGrown s (s.ctx.purse == 0) (quiet (stopped (Raised no_bound) s)) (quiet (gave tt (record s { ctx = record s.ctx { purse = s.ctx.purse - 1 }; evals = s.evals + 1 }))) (grown_itself s) (paid_grown s)

remotes : (k : Chunk) (h : Host) (n : ℤ) (r : Name) → Growing (Unit {0}) (send_remote k h n r) (send_remote k h n r)
unfolding send_remote
remotes k h n r s =
    choose HasGrown s (is_paid n s.ctx.purse) (sent_by (hop s.ctx.router r s.ctx.here h) k h (bound_of n) r s) (quiet (stopped (Raised no_bound) s))
    (sent_by_grown s (hop s.ctx.router r s.ctx.here h) k h (bound_of n) r) (grown_itself s)

neighbours : (k : Chunk) (h : Host) (n : ℤ) (d : Dev) → Growing (Unit {0}) (send_neighbour k h n d) (send_neighbour k h n d)
unfolding send_neighbour
neighbours k h n d s =
    choose HasGrown s (is_paid n s.ctx.purse) (if is_next s d h then sent_packet d k h (bound_of n) default_route s else quiet (stopped (Raised not_neighbour) s)) (quiet (stopped (Raised no_bound) s))
    (choose HasGrown s (is_next s d h) (sent_packet d k h (bound_of n) default_route s) (quiet (stopped (Raised not_neighbour) s)) (sent_grown s d k h (bound_of n) default_route) (grown_itself s)) (grown_itself s)

serves : (d : Svc) (args : List Value) → Growing Value (serve d args) (serve d args)
unfolding serve
serves d args s = answered_grown s (served_call s.services d args s.ctx) (served_call s.services d args s.ctx).answer

pub growing_kept : Kept Growing
growing_kept = record {
  gives = λ A a s. grown_itself s;
  stops = λ A e s. grown_itself s;
  wrongs = λ A s. grown_itself s;
  binds = λ A B p q f g h k s. next_grown s (p s).after f (h s) k;
  rescues = λ p q f g h k s. rescue_grown s (p s).after f (h s) k;
  spends = spends;
  pays = pays;
  remotes = remotes;
  neighbours = neighbours;
  serves = serves;
}

run_growing : (n : ℕ) (code : Program) (seen : ℕ) (env : Env) (e : Expr) → Growing Value (run_to n code seen env e) (run_to n code seen env e)
run_growing n = run_kept Growing growing_kept (λ q s. grown_itself s) n n (omega arith)

pub growth : (code : Program) (seen : ℕ) (env : Env) (e : Expr) (s : VisitState) → HasGrown s (left_by (meaning code seen env e s).after)
unfolding meaning
growth code seen env e s = run_growing (suc s.work) code seen env e s

pub visit_growth : (k : Chunk) (s : VisitState) → HasGrown s (left_by (visited_chunk meaning k s).after)
visit_growth k = visited_kept Growing growing_kept meaning meaning growth k
