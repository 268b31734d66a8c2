-- Each service answers well from good rows and good arguments, and leaves good rows.
use Rattle.std.proofs.Common.{◌≡◌, ℕ, ℤ, pos, negsuc, ◌==◌, ◌≤◌, Bool, true, false, nat_le, if◌then◌else◌, List, [], ◌∷◌, length, map, Option, Some, None, refl, sym, subst, lit<}
use Rattle.std.proofs.Math.Nat.{zero-lt-suc}
use Rattle.std.specs.Prelude.{int_lt, Contains}
use Rattle.plan_base.specs.declared.ids.Host.{Host}
use Rattle.plan_base.specs.declared.tree.Exn.{Exn}
use Rattle.plan_base.specs.declared.tree.Svc.{Svc}
use Rattle.plan_base.specs.declared.tree.Ty.{Ty}
use Rattle.plan_base.specs.declared.tree.Ty.TheVariants as ty
use Rattle.plan_base.specs.declared.tree.Value.{Value, out-Value}
use Rattle.plan_base.specs.declared.tree.Value.TheVariants as value
use Rattle.plan_base.specs.declared.tree.Value.TheOpen.{Value-F}
use Rattle.plan_base.specs.Trees.{ValueLayer}
use Rattle.service_api.specs.declared.row.Row.{Row}
use Rattle.service_api.specs.Rows.{put_row, got, fits, fresh_key}
use Rattle.plan_types_spec.specs.Rules.{bad_index, overflow, no_service}
use Rattle.service_api.specs.declared.answer.Note.{Note}
use Rattle.service_api.specs.declared.answer.Note.TheVariants.{Print, Port}
use Rattle.service_api.specs.declared.ctx.Ctx.{Ctx}
use Rattle.service_api.specs.declared.router.RouteRow.{RouteRow}
use Rattle.service_api.specs.declared.router.Hop.{Hop}
use Rattle.service_api.specs.declared.router.Hop.TheVariants.{To, NoService, NoRoute}
use Rattle.service_api.specs.declared.scheme.SchemeTy.{SchemeTy}
use Rattle.service_api.specs.Routes.{hop, default_route}
use Rattle.service_api.specs.Schemes.{instance, AllStandFor, stands_for}
use Rattle.service_api.specs.Services.{Rows, Served, IsGoodServe, IsGoodServed, IsGoodValue, AreGoodValues, AreGoodRows, IsGoodOptionNote, MayRaise, own_exceptions, exceptions_among, refused_call}
use Rattle.service_api.proofs.InstanceLaws.{found_is}
use Rattle.service_registry_spec.specs.declared.service.Service.{Service}
use Rattle.service_registry_spec.specs.declared.service.Service.TheVariants as service
use Rattle.service_registry_spec.specs.Offered.{InstalledPackages, offered_service, name_of, type_of, hop_type}
use Rattle.service_registry_spec.specs.Answers.{given_answer, noted_answer, raised_answer, without_arguments, of_one, of_two, of_four, of_host, of_int, of_text, key_of, cost_in, distance, hop_answer}
use Rattle.service_registry_spec.specs.Answers.{put_answer, kept_answer, got_answer, key_answer, delivered_answer, serve_as, no_route, table_full, not_found, expiry_after}
use Rattle.service_registry_spec.specs.Serving.{serve_at, serve_offered, serve}
use Rattle.service_registry_spec.proofs.Refusals.{offered_is}
use Rattle.service_registry_spec.proofs.Leaves.{good_unit, good_bool, good_int, good_host}
use Rattle.service_registry_spec.proofs.Hops.{good_hop, good_hops}
use Rattle.service_registry_spec.proofs.Tables.{put_good, without_good, key_good, got_good}

may_refuse : (svc : Svc) → MayRaise svc no_service
may_refuse svc = (0, zero-lt-suc _, refl)

-- the exceptions of the name
raises_of : (svc : Svc) (name : List ℕ) (x : Exn) → svc.name ≡ name → Contains (no_service ∷ exceptions_among own_exceptions name) x → MayRaise svc x
raises_of svc name x e h = subst (λ n. Contains (no_service ∷ exceptions_among own_exceptions n) x) (sym e) h

module _ (svc : Svc) (rows : Rows) (gr : AreGoodRows rows) where
  refused_good : IsGoodServed svc (refused_call rows)
  refused_good = record { answer = may_refuse svc; rows = gr }

  given_good : (t : Ty) (v : Value) → svc.result ≡ t → IsGoodValue t v → IsGoodServed svc (given_answer v rows)
  given_good t v e g = record { answer = (subst (λ (u : Ty). IsGoodValue u v) (sym e) g, tt); rows = gr }

  noted_good : (note : Note) → svc.result ≡ ty.Unit → IsGoodOptionNote (Some note) → IsGoodServed svc (noted_answer note rows)
  noted_good note e g = record { answer = (subst (λ (u : Ty). IsGoodValue u value.Unit) (sym e) good_unit, g); rows = gr }

  raised_good : (x : Exn) → MayRaise svc x → IsGoodServed svc (raised_answer x rows)
  raised_good x h = record { answer = h; rows = gr }

  -- ---- other arguments are refused

  none_good : (s : Served) → IsGoodServed svc s → (args : List Value) → IsGoodServed svc (without_arguments s args rows)
  none_good s g [] = g
  none_good s g (_ ∷ _) = refused_good

  host_good : (f : Host → Served) → ((h : Host) → IsGoodServed svc (f h)) → (l : ValueLayer) → IsGoodServed svc (of_host f l rows)
  host_good f g (Value-F.Host h) = g h
  host_good f g Value-F.Unit = refused_good
  host_good f g (Value-F.Bool b) = refused_good
  host_good f g (Value-F.Int z) = refused_good
  host_good f g (Value-F.Char n) = refused_good
  host_good f g (Value-F.Str s) = refused_good
  host_good f g (Value-F.Blob b) = refused_good
  host_good f g (Value-F.Dev d) = refused_good
  host_good f g (Value-F.Chunk k) = refused_good
  host_good f g (Value-F.List t vs) = refused_good
  host_good f g (Value-F.Tuple vs) = refused_good

  int_good : (f : ℤ → Served) → ((z : ℤ) → IsGoodServed svc (f z)) → (l : ValueLayer) → IsGoodServed svc (of_int f l rows)
  int_good f g (Value-F.Int z) = g z
  int_good f g Value-F.Unit = refused_good
  int_good f g (Value-F.Bool b) = refused_good
  int_good f g (Value-F.Host h) = refused_good
  int_good f g (Value-F.Char n) = refused_good
  int_good f g (Value-F.Str s) = refused_good
  int_good f g (Value-F.Blob b) = refused_good
  int_good f g (Value-F.Dev d) = refused_good
  int_good f g (Value-F.Chunk k) = refused_good
  int_good f g (Value-F.List t vs) = refused_good
  int_good f g (Value-F.Tuple vs) = refused_good

  text_good : (f : List ℕ → Served) → ((s : List ℕ) → IsGoodServed svc (f s)) → (l : ValueLayer) → IsGoodServed svc (of_text f l rows)
  text_good f g (Value-F.Str s) = g s
  text_good f g Value-F.Unit = refused_good
  text_good f g (Value-F.Bool b) = refused_good
  text_good f g (Value-F.Host h) = refused_good
  text_good f g (Value-F.Char n) = refused_good
  text_good f g (Value-F.Int z) = refused_good
  text_good f g (Value-F.Blob b) = refused_good
  text_good f g (Value-F.Dev d) = refused_good
  text_good f g (Value-F.Chunk k) = refused_good
  text_good f g (Value-F.List t vs) = refused_good
  text_good f g (Value-F.Tuple vs) = refused_good

  one_good : (t : Ty) (f : Value → Served) → ((v : Value) → IsGoodValue t v → IsGoodServed svc (f v)) → (args : List Value) → AreGoodValues (t ∷ []) args → IsGoodServed svc (of_one f args rows)
  one_good t f g [] h = refused_good
  one_good t f g (v ∷ []) h = g v h.0
  one_good t f g (v ∷ w ∷ vs) h = refused_good

  two_good : (t u : Ty) (f : Value → Value → Served) → ((v w : Value) → IsGoodValue u w → IsGoodServed svc (f v w)) → (args : List Value) → AreGoodValues (t ∷ u ∷ []) args → IsGoodServed svc (of_two f args rows)
  two_good t u f g [] h = refused_good
  two_good t u f g (v ∷ []) h = refused_good
  two_good t u f g (v ∷ w ∷ []) h = g v w h.1.0
  two_good t u f g (v ∷ w ∷ x ∷ vs) h = refused_good

  four_good : (t u a b : Ty) (f : Value → Value → Value → Value → Served) → ((v w x y : Value) → IsGoodValue a x → IsGoodServed svc (f v w x y)) → (args : List Value)
      → AreGoodValues (t ∷ u ∷ a ∷ b ∷ []) args → IsGoodServed svc (of_four f args rows)
  four_good t u a b f g [] h = refused_good
  four_good t u a b f g (v ∷ []) h = refused_good
  four_good t u a b f g (v ∷ w ∷ []) h = refused_good
  four_good t u a b f g (v ∷ w ∷ x ∷ []) h = refused_good
  four_good t u a b f g (v ∷ w ∷ x ∷ y ∷ []) h = g v w x y h.1.1.0
  four_good t u a b f g (v ∷ w ∷ x ∷ y ∷ z ∷ vs) h = refused_good

  -- ---- the package net

  cost_if : (b : Bool) (s r : Served) → IsGoodServed svc s → IsGoodServed svc r → IsGoodServed svc (if b then s else r)
  cost_if true s r g h = g
  cost_if false s r g h = h

  cost_good : svc.result ≡ ty.Int → MayRaise svc no_route → (rs : List RouteRow) (h : Host) → IsGoodServed svc (cost_in rs h rows)
  cost_good e m [] h = raised_good no_route m
  cost_good e m (r ∷ rs) h = cost_if (r.host.0 == h.0) _ (cost_in rs h rows) (given_good ty.Int _ e (good_int (pos r.cost))) (cost_good e m rs h)

  distance_good : svc.result ≡ ty.Int → MayRaise svc no_route → (ctx : Ctx) (h : Host) → IsGoodServed svc (distance ctx rows h)
  distance_good e m ctx h = cost_if (h.0 == ctx.here.0) _ (cost_in ctx.router h rows) (given_good ty.Int _ e (good_int (pos 0))) (cost_good e m ctx.router h)

  hop_good : svc.result ≡ hop_type → MayRaise svc no_route → (o : Hop) → IsGoodServed svc (hop_answer o rows)
  hop_good e m (To h d) = given_good hop_type _ e (good_hop h d)
  hop_good e m NoService = raised_good no_route m
  hop_good e m NoRoute = raised_good no_route m

  -- ---- the package resident

  put_if : (r : Row) → svc.result ≡ ty.Unit → MayRaise svc table_full → IsGoodValue r.ty r.value → (b : Bool) → fits (put_row r rows.rows) ≡ b
      → IsGoodServed svc (if b then given_answer value.Unit (record rows { rows = put_row r rows.rows }) else raised_answer table_full rows)
  put_if r e m g true f = record { answer = (subst (λ (u : Ty). IsGoodValue u value.Unit) (sym e) good_unit, tt); rows = put_good r rows g gr f }
  put_if r e m g false f = raised_good table_full m

  kept_good : (a : Ty) (ctx : Ctx) (name : List ℕ) (z : ℤ) (v : Value) (life : ℤ) → svc.result ≡ ty.Unit → MayRaise svc bad_index → MayRaise svc table_full → IsGoodValue a v → IsGoodServed svc (kept_answer a ctx rows name z v life)
  kept_good a ctx name z v life e m n g =
      let r : Row = record { name = name; key = z; ty = a; value = v; expiry = expiry_after ctx.now life } in
      cost_if (int_lt life (pos 1)) (raised_answer bad_index rows) (put_answer r rows) (raised_good bad_index m) (put_if r e n g (fits (put_row r rows.rows)) refl)

  got_answer_good : (t : Ty) (o : Option Value) → svc.result ≡ t → MayRaise svc not_found → ((v : Value) → o ≡ Some v → IsGoodValue t v) → IsGoodServed svc (got_answer o rows)
  got_answer_good t (Some v) e m g = given_good t v e (g v refl)
  got_answer_good t None e m g = raised_good not_found m

  key_answer_good : (o : Option ℤ) → svc.result ≡ ty.Int → MayRaise svc overflow → IsGoodServed svc (key_answer o rows)
  key_answer_good (Some z) e m = record { answer = (subst (λ (u : Ty). IsGoodValue u (value.Int z)) (sym e) (good_int z), tt); rows = key_good rows gr }
  key_answer_good None e m = raised_good overflow m

  -- ---- the package host

  delivered_good : (t : Ty) (z : ℤ) (v : Value) → svc.result ≡ ty.Unit → MayRaise svc bad_index → IsGoodValue t v → IsGoodServed svc (delivered_answer z v rows)
  delivered_good t (pos n) v e m g = cost_if (nat_le n 65535) (noted_answer (Port n v) rows) (raised_answer bad_index rows) (noted_good (Port n v) e (t, g)) (raised_good bad_index m)
  delivered_good t (negsuc n) v e m g = raised_good bad_index m

-- ---- each service

abbrev Params : Service → Ty → List Ty
Params s a = map (stands_for a) (type_of s).params

as_good : (s : Service) (a : Ty) (svc : Svc) (args : List Value) (ctx : Ctx) (rows : Rows) → svc.name ≡ name_of s → svc.result ≡ stands_for a (type_of s).result → AreGoodRows rows
    → AreGoodValues (Params s a) args → length ctx.neighbours ≤ 8 → IsGoodServed svc (serve_as s a args ctx rows)
as_good service.ThisHost a svc args ctx rows n e gr ga near = none_good svc rows gr _ (given_good svc rows gr ty.Host _ e (good_host ctx.here)) args
as_good service.ThisHostIs a svc args ctx rows n e gr ga near = one_good svc rows gr ty.Host _ (λ v g. host_good svc rows gr _ (λ h. given_good svc rows gr ty.Bool _ e (good_bool (h.0 == ctx.here.0))) (out-Value v)) args ga
as_good service.GetRb a svc args ctx rows n e gr ga near = none_good svc rows gr _ (given_good svc rows gr ty.Int _ e (good_int (pos ctx.purse))) args
as_good service.GetSource a svc args ctx rows n e gr ga near = none_good svc rows gr _ (given_good svc rows gr ty.Host _ e (good_host ctx.source)) args
as_good service.GetNeighbors a svc args ctx rows n e gr ga near = none_good svc rows gr _ (given_good svc rows gr (ty.List hop_type) _ e (good_hops ctx.neighbours near)) args
as_good service.GetDist a svc args ctx rows n e gr ga near =
    one_good svc rows gr ty.Host _ (λ v g.
    host_good svc rows gr (distance ctx rows) (distance_good svc rows gr e (raises_of svc (name_of service.GetDist) no_route n (1, lit< tt, refl)) ctx) (out-Value v)) args ga
as_good service.NextHop a svc args ctx rows n e gr ga near =
    one_good svc rows gr ty.Host _ (λ v g.
    host_good svc rows gr _ (λ h. hop_good svc rows gr e (raises_of svc (name_of service.NextHop) no_route n (1, lit< tt, refl)) (hop ctx.router default_route ctx.here h)) (out-Value v)) args ga
as_good service.Put a svc args ctx rows n e gr ga near =
    four_good svc rows gr ty.Str ty.Int a ty.Int _ (λ v w x y g.
    text_good svc rows gr _ (λ name.
    int_good svc rows gr _ (λ z.
    int_good svc rows gr (kept_answer a ctx rows name z x) (λ life.
    kept_good svc rows gr a ctx name z x life e (raises_of svc (name_of service.Put) bad_index n (1, lit< tt, refl))
    (raises_of svc (name_of service.Put) table_full n (2, lit< tt, refl)) g) (out-Value y)) (out-Value w)) (out-Value v)) args ga
as_good service.Get a svc args ctx rows n e gr ga near =
    two_good svc rows gr ty.Str ty.Int _ (λ v w g.
    text_good svc rows gr _ (λ name.
    int_good svc rows gr _ (λ z.
    got_answer_good svc rows gr a (got (key_of name z) a ctx.now rows.rows) e
    (raises_of svc (name_of service.Get) not_found n (1, lit< tt, refl)) (λ x f. got_good (key_of name z) a ctx.now rows x gr f)) (out-Value w)) (out-Value v)) args ga
as_good service.Remove a svc args ctx rows n e gr ga near =
    two_good svc rows gr ty.Str ty.Int _ (λ v w g.
    text_good svc rows gr _ (λ name.
    int_good svc rows gr _ (λ z.
    record { answer = (subst (λ (u : Ty). IsGoodValue u value.Unit) (sym e) good_unit, tt); rows = without_good (key_of name z) rows gr }) (out-Value w)) (out-Value v)) args ga
as_good service.GenerateKey a svc args ctx rows n e gr ga near = none_good svc rows gr _ (key_answer_good svc rows gr (fresh_key rows.«next») e (raises_of svc (name_of service.GenerateKey) overflow n (1, lit< tt, refl))) args
as_good service.Print a svc args ctx rows n e gr ga near = one_good svc rows gr a _ (λ v g. noted_good svc rows gr (Print v) e (a, g)) args ga
as_good service.Deliver a svc args ctx rows n e gr ga near =
    two_good svc rows gr ty.Int a _ (λ v w g.
    int_good svc rows gr _ (λ z. delivered_good svc rows gr a z w e (raises_of svc (name_of service.Deliver) bad_index n (1, lit< tt, refl)) g) (out-Value v)) args ga

-- ---- together

params_good : (a : Ty) (ss : List SchemeTy) (ts : List Ty) (args : List Value) → AllStandFor a ss ts → AreGoodValues ts args → AreGoodValues (map (stands_for a) ss) args
params_good a [] [] [] s g = tt
params_good a [] [] (v ∷ vs) s g = absurd g
params_good a [] (t ∷ ts) args s g = absurd s
params_good a (x ∷ xs) [] args s g = absurd s
params_good a (x ∷ xs) (t ∷ ts) [] s g = absurd g
params_good a (x ∷ xs) (t ∷ ts) (v ∷ vs) s g = (subst (λ (u : Ty). IsGoodValue u v) s.0 g.0, params_good a xs ts vs s.1 g.1)

at_good : (s : Service) (t : Option Ty) (svc : Svc) (args : List Value) (ctx : Ctx) (rows : Rows) → instance (type_of s) svc ≡ t → svc.name ≡ name_of s → AreGoodRows rows
    → AreGoodValues svc.params args → length ctx.neighbours ≤ 8 → IsGoodServed svc (serve_at t s args ctx rows)
at_good s (Some a) svc args ctx rows f n gr ga near =
    let i = found_is (type_of s) svc a f in
    as_good s a svc args ctx rows n i.result gr (params_good a (type_of s).params svc.params args i.params ga) near
at_good s None svc args ctx rows f n gr ga near = refused_good svc rows gr

offered_good : (p : InstalledPackages) (o : Option Service) (svc : Svc) (args : List Value) (ctx : Ctx) (rows : Rows) → offered_service p svc.name ≡ o → AreGoodRows rows
    → AreGoodValues svc.params args → length ctx.neighbours ≤ 8 → IsGoodServed svc (serve_offered o svc args ctx rows)
offered_good p (Some s) svc args ctx rows e gr ga near = at_good s (instance (type_of s) svc) svc args ctx rows refl (offered_is p svc.name s e) gr ga near
offered_good p None svc args ctx rows e gr ga near = refused_good svc rows gr

pub serve_good : (p : InstalledPackages) → IsGoodServe (serve p)
unfolding serve
serve_good p svc args ctx rows gr ga near = offered_good p (offered_service p svc.name) svc args ctx rows refl gr ga near
