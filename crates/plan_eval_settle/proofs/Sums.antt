-- What is settled is in balance.
use Rattle.std.proofs.Common.{◌≡◌, ℕ, ◌+◌, List, [], ◌∷◌, ◌++◌, Option, Some, None, refl, sym, ap, subst, arith}
use Rattle.std.specs.Prelude.{map, Result, Ok, Err, IfOk}
use Rattle.std.specs.Option.{option_to_list}
use Rattle.std.proofs.lemmas.List.{append-nil}
use Rattle.std.proofs.lemmas.List.Sums.{sum_by-cons, sum_by_push}
use Rattle.plan_base.specs.declared.name.Name.{Name}
use Rattle.plan_base.specs.declared.tree.Packet.{Packet}
use Rattle.service_api.specs.declared.ctx.Ctx.{Ctx}
use Rattle.plan_meaning.specs.declared.sent.Sent.{Sent}
use Rattle.plan_meaning.specs.declared.outcome.Visit.{Visit}
use Rattle.plan_meaning.specs.Visit.{bounds}
use Rattle.plan_base.specs.declared.memory.NoMemory.{NoMemory}
use Rattle.plan_eval_settle.specs.declared.settling.Settled.{Settled}
use Rattle.plan_eval_settle.specs.Settles.{telling_of, handed_packet, left_beside, visit_settled}
use Rattle.plan_eval_settle.proofs.Tellings.{tells}

pub same_bounds : (h : Option Name) (outbox : List Sent) → bounds (map (handed_packet h) outbox) ≡ bounds outbox
same_bounds h [] = refl
same_bounds h (s ∷ ss) =
    omega (arith, same_bounds h ss, sum_by-cons (λ (x : Sent). x.packet.bound) (handed_packet h s) (map (handed_packet h) ss), sum_by-cons (λ (x : Sent). x.packet.bound) s ss)

parts_balance : (h : Option Name) (outbox : List Sent) (left : ℕ) (told : Option Sent) → ((t : Sent) → told ≡ Some t → t.packet.bound ≡ left)
    → left_beside left told + bounds (map (handed_packet h) outbox ++ option_to_list told) ≡ left + bounds outbox
parts_balance h outbox left None k = omega (arith, same_bounds h outbox, ap bounds (append-nil (map (handed_packet h) outbox)))
parts_balance h outbox left (Some t) k = omega (arith, same_bounds h outbox, k t refl, sum_by_push (λ (x : Sent). x.packet.bound) (map (handed_packet h) outbox) t)

-- what was paid, is left and is sent stays in sum
pub settled_balance : (p : Packet) (ctx : Ctx) (v : Visit) → (visit_settled p ctx v).visit.evals + (visit_settled p ctx v).visit.left + bounds (visit_settled p ctx v).visit.outbox ≡ v.evals + v.left + bounds v.outbox
unfolding visit_settled
settled_balance p ctx v = omega (arith, parts_balance p.handler v.outbox v.left (telling_of p ctx v) (λ t e. ap (λ (x : Sent). x.packet.bound) (tells p ctx v t e).is))

-- so does what a call answers, where it answers that
pub ok_balance : (p : Packet) (ctx : Ctx) (v : Visit) (r : Result Settled NoMemory) → IfOk r (λ s. s ≡ visit_settled p ctx v)
    → IfOk r (λ s. s.visit.evals + s.visit.left + bounds s.visit.outbox ≡ v.evals + v.left + bounds v.outbox)
ok_balance p ctx v (Ok s) e = subst (λ (x : Settled). x.visit.evals + x.visit.left + bounds x.visit.outbox ≡ v.evals + v.left + bounds v.outbox) (sym e) (settled_balance p ctx v)
ok_balance p ctx v (Err x) e = e
