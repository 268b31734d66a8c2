-- What each service answers, and the rows after it.
use Rattle.std.specs.Prelude.{ℕ, ◌+◌, min, Bool, if◌then◌else◌, ◌==◌, nat_le, ℤ, pos, negsuc, int_lt, nat_abs, List, [], ◌∷◌, map, codes, Option, Some, None}
use Rattle.plan_base.specs.declared.ids.Host.{Host}
use Rattle.plan_base.specs.declared.ids.Dev.{Dev}
use Rattle.plan_base.specs.declared.tree.Exn.{Exn}
use Rattle.plan_base.specs.declared.tree.Ty.{Ty}
use Rattle.plan_base.specs.declared.tree.Value.{Value, out-Value}
use Rattle.plan_base.specs.declared.tree.Value.TheVariants as value
use Rattle.plan_base.specs.declared.tree.Value.TheOpen.{Value-F}
use Rattle.plan_base.specs.Trees.{ValueLayer}
use Rattle.containers.specs.Keys.{Key}
use Rattle.service_api.specs.declared.row.Row.{Row}
use Rattle.service_api.specs.Rows.{put_row, without_row, got, fits, fresh_key, key_after}
use Rattle.plan_types_spec.specs.Rules.{exception, bad_index, overflow}
use Rattle.service_api.specs.declared.answer.Note.{Note}
use Rattle.service_api.specs.declared.answer.Note.TheVariants.{Print, Port}
use Rattle.service_api.specs.declared.answer.Answer.TheVariants.{Gives, Raises}
use Rattle.service_api.specs.declared.ctx.Ctx.{Ctx}
use Rattle.service_api.specs.declared.router.RouteRow.{RouteRow}
use Rattle.service_api.specs.declared.router.Hop.{Hop}
use Rattle.service_api.specs.declared.router.Hop.TheVariants.{To, NoService, NoRoute}
use Rattle.service_api.specs.Routes.{hop, default_route}
use Rattle.service_api.specs.Services.{Rows, Served, refused_call}
use Rattle.service_registry_spec.specs.declared.service.Service.{Service}
use Rattle.service_registry_spec.specs.declared.service.Service.TheVariants as service
use Rattle.service_registry_spec.specs.Offered.{hop_type}

abbrev pub no_route : Exn
no_route = exception (codes "NoRoute")

abbrev pub table_full : Exn
table_full = exception (codes "TableFull")

abbrev pub not_found : Exn
not_found = exception (codes "NotFound")

-- ---- answers

abbrev pub given_answer : Value → Rows → Served
given_answer v rows = record { answer = Gives v None; rows = rows }

abbrev pub noted_answer : Note → Rows → Served
noted_answer note rows = record { answer = Gives value.Unit (Some note); rows = rows }

abbrev pub raised_answer : Exn → Rows → Served
raised_answer x rows = record { answer = Raises x; rows = rows }

-- ---- arguments; other ones than the type has are refused

abbrev pub without_arguments : Served → List Value → Rows → Served
without_arguments s [] rows = s
without_arguments s (_ ∷ _) rows = refused_call rows

abbrev pub of_one : (Value → Served) → List Value → Rows → Served
of_one f (v ∷ []) rows = f v
of_one f _ rows = refused_call rows

abbrev pub of_two : (Value → Value → Served) → List Value → Rows → Served
of_two f (v ∷ w ∷ []) rows = f v w
of_two f _ rows = refused_call rows

abbrev pub of_four : (Value → Value → Value → Value → Served) → List Value → Rows → Served
of_four f (v ∷ w ∷ x ∷ y ∷ []) rows = f v w x y
of_four f _ rows = refused_call rows

abbrev pub of_host : (Host → Served) → ValueLayer → Rows → Served
of_host f (Value-F.Host h) rows = f h
of_host f _ rows = refused_call rows

abbrev pub of_int : (ℤ → Served) → ValueLayer → Rows → Served
of_int f (Value-F.Int z) rows = f z
of_int f _ rows = refused_call rows

abbrev pub of_text : (List ℕ → Served) → ValueLayer → Rows → Served
of_text f (Value-F.Str s) rows = f s
of_text f _ rows = refused_call rows

abbrev pub key_of : List ℕ → ℤ → Key
key_of name number = record { name = name; number = number }

-- ---- the package net

abbrev pub hop_value : Host → Dev → Value
hop_value h d = value.Tuple (value.Host h ∷ value.Dev d ∷ [])

-- the cost of the first route to the host
abbrev pub cost_in : List RouteRow → Host → Rows → Served
cost_in [] h rows = raised_answer no_route rows
cost_in (r ∷ rs) h rows = if r.host.0 == h.0 then given_answer (value.Int (pos r.cost)) rows else cost_in rs h rows

abbrev pub distance : Ctx → Rows → Host → Served
distance ctx rows h = if h.0 == ctx.here.0 then given_answer (value.Int (pos 0)) rows else cost_in ctx.router h rows

abbrev pub hop_answer : Hop → Rows → Served
hop_answer (To h d) rows = given_answer (hop_value h d) rows
hop_answer NoService rows = raised_answer no_route rows
hop_answer NoRoute rows = raised_answer no_route rows

-- ---- the package resident

-- the tick at which a row goes that is kept for so many
abbrev pub expiry_after : ℕ → ℤ → ℕ
expiry_after now life = min (now + nat_abs life) 18446744073709551615

abbrev pub put_answer : Row → Rows → Served
put_answer r rows = if fits (put_row r rows.rows) then given_answer value.Unit (record rows { rows = put_row r rows.rows }) else raised_answer table_full rows

abbrev pub kept_answer : Ty → Ctx → Rows → List ℕ → ℤ → Value → ℤ → Served
kept_answer a ctx rows name number v life =
    if int_lt life (pos 1) then raised_answer bad_index rows
    else put_answer (record { name = name; key = number; ty = a; value = v; expiry = expiry_after ctx.now life }) rows

abbrev pub got_answer : Option Value → Rows → Served
got_answer (Some v) rows = given_answer v rows
got_answer None rows = raised_answer not_found rows

abbrev pub key_answer : Option ℤ → Rows → Served
key_answer (Some z) rows = given_answer (value.Int z) (record rows { «next» = key_after rows.«next» })
key_answer None rows = raised_answer overflow rows

-- ---- the package host

abbrev pub delivered_answer : ℤ → Value → Rows → Served
delivered_answer (pos n) v rows = if nat_le n 65535 then noted_answer (Port n v) rows else raised_answer bad_index rows
delivered_answer (negsuc n) v rows = raised_answer bad_index rows

-- ---- each service, where its declaration takes `Any` at the type a

abbrev pub serve_as : Service → Ty → List Value → Ctx → Rows → Served
serve_as service.ThisHost a args ctx rows = without_arguments (given_answer (value.Host ctx.here) rows) args rows
serve_as service.ThisHostIs a args ctx rows = of_one (λ v. of_host (λ h. given_answer (value.Bool (h.0 == ctx.here.0)) rows) (out-Value v) rows) args rows
serve_as service.GetRb a args ctx rows = without_arguments (given_answer (value.Int (pos ctx.purse)) rows) args rows
serve_as service.GetSource a args ctx rows = without_arguments (given_answer (value.Host ctx.source) rows) args rows
serve_as service.GetNeighbors a args ctx rows =
    without_arguments (given_answer (value.List hop_type (map (λ n. hop_value n.0 n.1) ctx.neighbours)) rows) args rows
serve_as service.GetDist a args ctx rows = of_one (λ v. of_host (distance ctx rows) (out-Value v) rows) args rows
serve_as service.NextHop a args ctx rows = of_one (λ v. of_host (λ h. hop_answer (hop ctx.router default_route ctx.here h) rows) (out-Value v) rows) args rows
serve_as service.Put a args ctx rows =
    of_four (λ n k v l.
    of_text (λ name.
    of_int (λ number.
    of_int (kept_answer a ctx rows name number v) (out-Value l) rows) (out-Value k) rows) (out-Value n) rows) args rows
serve_as service.Get a args ctx rows =
    of_two (λ n k.
    of_text (λ name.
    of_int (λ number. got_answer (got (key_of name number) a ctx.now rows.rows) rows) (out-Value k) rows) (out-Value n) rows) args rows
serve_as service.Remove a args ctx rows =
    of_two (λ n k.
    of_text (λ name.
    of_int (λ number.
    given_answer value.Unit (record rows
    { rows = without_row (key_of name number) rows.rows })) (out-Value k) rows) (out-Value n) rows) args rows
serve_as service.GenerateKey a args ctx rows = without_arguments (key_answer (fresh_key rows.«next») rows) args rows
serve_as service.Print a args ctx rows = of_one (λ v. noted_answer (Print v) rows) args rows
serve_as service.Deliver a args ctx rows = of_two (λ p v. of_int (λ z. delivered_answer z v rows) (out-Value p) rows) args rows
