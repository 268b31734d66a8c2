-- What the services of a node answer to the two programs of a port.
use Rattle.std.proofs.Common.{◌≡◌, ℕ, Bool, true, false, cond, [], ◌∷◌, Option, Some, None, refl, sym, subst}
use Rattle.std.specs.Prelude.{◌==◌, nat_le, pos}
use Rattle.plan_base.specs.declared.ids.Host.{Host}
use Rattle.plan_base.specs.declared.tree.Ty.{Ty}
use Rattle.plan_base.specs.declared.tree.Value.{Value}
use Rattle.plan_base.specs.declared.tree.Value.TheVariants as value
use Rattle.plan_base.specs.Trees.{ValueLayer}
use Rattle.service_api.specs.declared.ctx.Ctx.{Ctx}
use Rattle.service_api.specs.declared.answer.Note.TheVariants.{Port}
use Rattle.service_api.specs.Schemes.{instance}
use Rattle.service_api.specs.Services.{Rows}
use Rattle.service_registry_spec.specs.declared.service.Service.TheVariants as service
use Rattle.service_registry_spec.specs.Offered.{InstalledPackages, type_of}
use Rattle.plan_types_spec.specs.Rules.{bad_index}
use Rattle.service_registry_spec.specs.Answers.{given_answer, noted_answer, raised_answer, of_host, of_int, delivered_answer}
use Rattle.service_registry_spec.specs.Serving.{serve, serve_at, serve_offered, offer}
use Rattle.reliable_ports.specs.Programs.{this_host_is, get_rb, deliver}
use Rattle.reliable_ports_world.specs.Only.{AnswerFits}
use Rattle.reliable_ports_world.specs.Visits.{Any}
use Rattle.reliable_ports_world.specs.Allowed.{NoNote, PortServes}

host_at : (o : Option Ty) (h : Host) (ctx : Ctx) (rows : Rows) → AnswerFits NoNote Any (serve_at o service.ThisHostIs (value.Host h ∷ []) ctx rows).answer
host_at None h ctx rows = tt
host_at (Some a) h ctx rows = subst (λ (l : ValueLayer). AnswerFits NoNote Any (of_host (λ g. given_answer (value.Bool (g.0 == ctx.here.0)) rows) l rows).answer) (sym (value.outs-Host h)) (tt, tt)

purse_at : (o : Option Ty) (ctx : Ctx) (rows : Rows) → AnswerFits NoNote Any (serve_at o service.GetRb [] ctx rows).answer
purse_at None ctx rows = tt
purse_at (Some a) ctx rows = (tt, tt)

port_answer_fits : (p : ℕ) (v : Value) (rows : Rows) → AnswerFits (λ n. n ≡ Port p v) Any (delivered_answer (pos p) v rows).answer
port_answer_fits p v rows = by (nat_le p 65535)
  where
    by : (t : Bool) → AnswerFits (λ n. n ≡ Port p v) Any (cond t (noted_answer (Port p v) rows) (raised_answer bad_index rows)).answer
    by true = (refl, tt)
    by false = tt

deliver_at : (o : Option Ty) (p : ℕ) (v : Value) (ctx : Ctx) (rows : Rows) → AnswerFits (λ n. n ≡ Port p v) Any (serve_at o service.Deliver (value.Int (pos p) ∷ v ∷ []) ctx rows).answer
deliver_at None p v ctx rows = tt
deliver_at (Some a) p v ctx rows = subst (λ (l : ValueLayer). AnswerFits (λ n. n ≡ Port p v) Any (of_int (λ z. delivered_answer z v rows) l rows).answer) (sym (value.outs-Int (pos p))) (port_answer_fits p v rows)

pub registry_serves : (p : InstalledPackages) → PortServes (offer p)
unfolding serve
registry_serves p = record { host = host p.net; purse = purse p.net; delivers = tells p.host }
  where
    host : (t : Bool) (h : Host) (ctx : Ctx) (rows : Rows) → AnswerFits NoNote Any (serve_offered (cond t (Some service.ThisHostIs) None) this_host_is (value.Host h ∷ []) ctx rows).answer
    host true h ctx rows = host_at (instance (type_of service.ThisHostIs) this_host_is) h ctx rows
    host false h ctx rows = tt

    purse : (t : Bool) (ctx : Ctx) (rows : Rows) → AnswerFits NoNote Any (serve_offered (cond t (Some service.GetRb) None) get_rb [] ctx rows).answer
    purse true ctx rows = purse_at (instance (type_of service.GetRb) get_rb) ctx rows
    purse false ctx rows = tt

    tells : (t : Bool) (q : ℕ) (v : Value) (ctx : Ctx) (rows : Rows) → AnswerFits (λ n. n ≡ Port q v) Any (serve_offered (cond t (Some service.Deliver) None) deliver (value.Int (pos q) ∷ v ∷ []) ctx rows).answer
    tells true q v ctx rows = deliver_at (instance (type_of service.Deliver) deliver) q v ctx rows
    tells false q v ctx rows = tt
