-- What a registry keeps and stands for after a call and after a tick.
use Rattle.std.proofs.Common.{◌≡◌, ℕ, ℤ, ◌≤◌, Bool, true, false, List, length, Option, Some, None, Result, Ok, Err, sym, ap, ◌∙◌, subst}
use Rattle.std.proofs.lemmas.List.Elements.{All-filter}
use Rattle.plan_base.specs.declared.memory.NoMemory.{NoMemory}
use Rattle.plan_base.specs.declared.tree.Svc.{Svc}
use Rattle.plan_base.specs.declared.tree.Ty.{Ty}
use Rattle.plan_base.specs.declared.tree.Value.{Value}
use Rattle.service_api.specs.declared.row.Row.{Row}
use Rattle.service_api.specs.Rows.{is_live, living}
use Rattle.resident_tables.proofs.Limits.{living_fits}
use Rattle.resident_tables.specs.Tables.{Table}
use Rattle.resident_tables.specs.Layers.{Layer}
use Rattle.service_api.specs.declared.answer.Answer.{Answer}
use Rattle.service_api.specs.declared.ctx.Ctx.{Ctx}
use Rattle.service_api.specs.Services.{Rows, Served, IsGoodValue, AreGoodRows, AreGoodValues, refused_call}
use Rattle.service_api.specs.Schemes.{instance}
use Rattle.service_registry_spec.specs.declared.service.Service.{Service}
use Rattle.service_registry_spec.specs.Offered.{InstalledPackages, offered_service, type_of}
use Rattle.service_registry_spec.specs.Serving.{serve, serve_at, serve_offered}
use Rattle.service_registry_spec.proofs.Goods.{serve_good}
use Rattle.service_registry.proofs.ArgumentReads.{with_next}
use Rattle.service_registry.specs.RegistryState.{rows_of, rows_begun, opened, IsOpen, IsKept}
use Rattle.service_registry.specs.Meets.{Meets}

-- ---- a call

pub served_none : (p : InstalledPackages) (svc : Svc) (args : List Value) (ctx : Ctx) (rows : Rows) → None ≡ offered_service p svc.name → serve p svc args ctx rows ≡ refused_call rows
unfolding serve
served_none p svc args ctx rows e = ap (λ (o : Option Service). serve_offered o svc args ctx rows) (sym e)

pub served_some : (p : InstalledPackages) (svc : Svc) (args : List Value) (ctx : Ctx) (rows : Rows) (s : Service) (t : Option Ty) → Some s ≡ offered_service p svc.name → t ≡ instance (type_of s) svc
    → serve p svc args ctx rows ≡ serve_at t s args ctx rows
unfolding serve
served_some p svc args ctx rows s t e f = ap (λ (o : Option Service). serve_offered o svc args ctx rows) (sym e) ∙ ap (λ (u : Option Ty). serve_at u s args ctx rows) (sym f)

pub meets_good : (p : InstalledPackages) (svc : Svc) (args : List Value) (ctx : Ctx) (old new : Rows) (r : Result Answer NoMemory) → Meets (serve p svc args ctx old) old r new → AreGoodRows old
    → AreGoodValues svc.params args → length ctx.neighbours ≤ 8 → AreGoodRows new
meets_good p svc args ctx old new (Ok a) e g ga near = subst (λ (s : Served). AreGoodRows s.rows) e (serve_good p svc args ctx old g ga near).rows
meets_good p svc args ctx old new (Err x) e g ga near = subst AreGoodRows (sym e) g

-- the changes of a visit, where a `begin` is open
pub kept_open : (t : Table) (o : Layer) (b ready : Bool) → b ≡ true → IsKept t (opened b o) ready → IsOpen t o ready
kept_open t o true ready e k = k
kept_open t o false ready e k = cc

pub open_kept : (t : Table) (o : Layer) (b ready : Bool) → b ≡ true → IsOpen t o ready → IsKept t (opened b o) ready
open_kept t o true ready e k = k
open_kept t o false ready e k = cc

-- ---- a tick

living_good : (now : ℕ) (rows : Rows) → AreGoodRows rows → AreGoodRows (record rows { rows = living now rows.rows })
living_good now rows h = record {
  values = All-filter (is_live now) (λ x. IsGoodValue x.ty x.value) rows.rows h.values;
  room = living_fits now rows.rows h.room;
  least = h.least;
  greatest = h.greatest;
}

pub expired_good : (t u : Table) (now : ℕ) → u.rows ≡ living now t.rows → u.«next» ≡ t.«next» → AreGoodRows (rows_of t) → AreGoodRows (rows_of u)
expired_good t u now e f g =
    let h = living_good now (rows_of t) g in
    subst (λ (xs : List Row). AreGoodRows (with_next xs u.«next»)) (sym e) (subst (λ (z : ℤ). AreGoodRows (with_next (living now t.rows) z)) (sym f) h)

pub expired_kept : (t u : Table) (c : Option Layer) (b : Bool) → rows_begun t c ≡ None → IsKept t c b → IsKept u c b
expired_kept t u None b h k = k
expired_kept t u (Some o) b h k = absurd cc
