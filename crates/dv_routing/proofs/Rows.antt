-- The lists of routes and the advert that a node makes of them.
use Rattle.std.proofs.Common.{◌≡◌, ◌≢◌, ℕ, ◌≤◌, ◌<◌, ◌^◌, Bool, true, false, cond, eqb, ltb, ◌&&◌, ◌||◌, Option, Some, None, List, [], ◌∷◌, ◌++◌, length, inl, inr, refl, sym, ap, subst, ◌∙◌, arith, IsTrue}
use Rattle.std.specs.Prelude.{map}
use Rattle.std.specs.List.{All}
use Rattle.std.specs.Option.{option_to_list}
use Rattle.std.proofs.lemmas.Bool.Decides.{nat_tests}
use Rattle.std.proofs.lemmas.List.Elements.{All-head, All-tail}
use Rattle.plan_base.specs.declared.ids.Host.{Host}
use Rattle.plan_base.specs.declared.ids.Dev.{Dev}
use Rattle.service_api.specs.declared.router.RouteRow.{RouteRow}
use Rattle.service_api.specs.declared.advert.AdvertRow.{AdvertRow}
use Rattle.service_api.specs.declared.advert.Advert.{Advert}
use Rattle.service_api.specs.Adverts.{is_above, RowsFit, AdvertFits}
use Rattle.dv_routing.specs.Routing.{Routing, is_among, least, row_cost, rows_cost, told_on, heard_cost, own_cost, near_cost, route, routes_to, all_routes, advert_row, own_advert, row_for, own_route}
use Rattle.dv_routing.specs.Laws.{IsRoute, IsRouteAnswer}
use Rattle.dv_routing.specs.Sorted.{HostsAscend}
use Rattle.dv_routing.proofs.Costs.{least_from, same_host, eqb_self}
use Rattle.dv_routing.proofs.Best.{route_own, route_answer, route_host, same_or_not}

-- a row for its host, before others
pub row_first : (x : Host) (row : RouteRow) (rows : List RouteRow) → row.host ≡ x → row_for (row ∷ rows) x ≡ Some row
row_first x row rows e = ap (λ t. cond t (Some row) (row_for rows x)) (ap (λ h. eqb row.host.0 h.0) (sym e) ∙ eqb_self row.host.0)

row_later : (x y : Host) (row : RouteRow) (rows : List RouteRow) → row.host ≡ y → eqb y.0 x.0 ≡ false → row_for (row ∷ rows) x ≡ row_for rows x
row_later x y row rows e off = ap (λ t. cond t (Some row) (row_for rows x)) (ap (λ h. eqb h.0 x.0) e ∙ off)

-- the first row for a host is its route
pub rows_for : (r : Routing) (x : Host) (hs : List Host) → row_for (routes_to r hs) x ≡ cond (is_among hs x) (route r x) None
rows_for r x [] = refl
rows_for r x (y ∷ hs) = at (rows_for r x hs) (route r y) refl (eqb y.0 x.0) refl
  where
    at : row_for (routes_to r hs) x ≡ cond (is_among hs x) (route r x) None → (o : Option RouteRow) → route r y ≡ o → (t : Bool) → eqb y.0 x.0 ≡ t
        → row_for (option_to_list o ++ routes_to r hs) x ≡ cond (t || is_among hs x) (route r x) None
    at rest (Some row) e true h =
        row_first x row (routes_to r hs) (route_host r y row e ∙ same_host y x h) ∙ (sym e ∙ ap (route r) (same_host y x h))
    at rest (Some row) e false h = row_later x y row (routes_to r hs) (route_host r y row e) h ∙ rest
    at rest None e true h = rest ∙ none (is_among hs x)
      where
        none : (b : Bool) → cond b (route r x) None ≡ route r x
        none true = refl
        none false = sym (ap (route r) (sym (same_host y x h)) ∙ e)
    at rest None e false h = rest

pub rows_routes : (r : Routing) (x : Host) → is_among r.hosts x ≡ true → row_for (all_routes r) x ≡ route r x
unfolding all_routes
rows_routes r x h = rows_for r x r.hosts ∙ ap (λ t. cond t (route r x) None) h

-- costs that can be advertised are below 65,535
abbrev Told : Option ℕ → Type 0
Told o = (c : ℕ) → o ≡ Some c → c < 65535

least_told : (a b : Option ℕ) → Told a → Told b → Told (least a b)
least_told a b h k c e = elim (least_from a b c e) [ inl u ↦ h c u | inr v ↦ k c v ]

none_told : Told None
none_told c e = absurd (none e)
  where
    none : ◌≡◌ {A = Option ℕ} None (Some c) → ⊥
    none h = cc

row_told : (hosts : List Host) (x : Host) (row : AdvertRow) → Told (row_cost hosts x row)
row_told hosts x row = split (eqb row.host.0 x.0) (is_among hosts row.host) (ltb row.cost 65535) refl
  where
    below : (c : ℕ) → row.cost ≡ c → true ≡ ltb row.cost 65535 → c < 65535
    below c s h = grind (arith, nat_tests)

    split : (t u v : Bool) → v ≡ ltb row.cost 65535 → Told (cond (t && (u && v)) (Some row.cost) None)
    split true true true h = λ c e. below c (cc) h
    split true true false h = none_told
    split true false v h = none_told
    split false u v h = none_told

rows_told : (hosts : List Host) (x : Host) (rows : List AdvertRow) → Told (rows_cost hosts x rows)
unfolding rows_cost
rows_told hosts x [] = none_told
rows_told hosts x (row ∷ rows) = least_told (row_cost hosts x row) (rows_cost hosts x rows) (row_told hosts x row) (rows_told hosts x rows)

on_told : (hosts : List Host) (x : Host) (d : Dev) (told : Dev × Advert) → Told (told_on hosts x d told)
on_told hosts x d told = split (eqb told.0.0 d.0)
  where
    split : (t : Bool) → Told (cond t (rows_cost hosts x told.1.rows) None)
    split true = rows_told hosts x told.1.rows
    split false = none_told

heard_told : (hosts : List Host) (x : Host) (d : Dev) (heard : List (Dev × Advert)) → Told (heard_cost hosts x d heard)
unfolding heard_cost
heard_told hosts x d [] = none_told
heard_told hosts x d (told ∷ later) = least_told (told_on hosts x d told) (heard_cost hosts x d later) (on_told hosts x d told) (heard_told hosts x d later)

own_told : (m x : Host) → Told (own_cost m x)
own_told m x = split (eqb m.0 x.0)
  where
    split : (t : Bool) → Told (cond t (Some 0) None)
    split true = λ c e. let s : 0 ≡ c = cc in omega arith
    split false = none_told

near_told : (r : Routing) (x : Host) (link : Host × Dev) → Told (near_cost r x link)
unfolding near_cost
near_told r x link = least_told (own_cost link.0 x) (heard_cost r.hosts x link.1 r.heard) (own_told link.0 x) (heard_told r.hosts x link.1 r.heard)

pub route_told : (r : Routing) (x : Host) (row : RouteRow) → route r x ≡ Some row → row.cost ≤ 65535
route_told r x row e = elim (same_or_not r.here x) [ inl same ↦ own same | inr other ↦ over other ]
  where
    own : r.here ≡ x → row.cost ≤ 65535
    own same =
        let a : Some (own_route r.here) ≡ Some row = sym (route_own r) ∙ (ap (route r) same ∙ e) in
        let b : own_route r.here ≡ row = cc in
        let c : 0 ≡ row.cost = ap (λ w. w.cost) b in
        omega arith

    over : r.here ≢ x → row.cost ≤ 65535
    over other =
        let i : IsRoute r x row = subst (IsRouteAnswer r x) e (route_answer r x other) in
        let below = near_told r x (row.«next», row.dev) i.cost.0 i.cost.2 in
        let is = i.cost.1 in
        omega arith

pub ascend_from : (before : Option ℕ) (h : ℕ) (hs : List Host) → IsTrue (is_above before h) → HostsAscend (Some h) hs → HostsAscend before hs
ascend_from before h [] a k = tt
ascend_from None h (y ∷ hs) a k = (refl, k.1)
ascend_from (Some b) h (y ∷ hs) a k = (above, k.1)
  where
    above : IsTrue (ltb b y.0)
    above = let u : IsTrue (ltb b h) = a in let v : IsTrue (ltb h y.0) = k.0 in grind (arith, nat_tests)

rows_fit : (r : Routing) (before : Option ℕ) (hs : List Host) → HostsAscend before hs → All (λ h. h.0 < 2 ^ 32) hs → RowsFit before (map advert_row (routes_to r hs))
rows_fit r before [] up small = tt
rows_fit r before (y ∷ hs) up small =
    at (λ b k. rows_fit r b hs k (All-tail (λ h. h.0 < 2 ^ 32) y hs small)) (route r y) refl
  where
    at : ((b : Option ℕ) → HostsAscend b hs → RowsFit b (map advert_row (routes_to r hs))) → (o : Option RouteRow) → route r y ≡ o
        → RowsFit before (map advert_row (option_to_list o ++ routes_to r hs))
    at rest None e = rest before (ascend_from before y.0 hs up.0 up.1)
    at rest (Some row) e =
        let is : row.host ≡ y = route_host r y row e in
        let P : Host → Type 0 = λ h. (IsTrue (is_above before h.0) × (h.0 < 2 ^ 32)) × (row.cost ≤ 65535) × RowsFit (Some h.0) (map advert_row (routes_to r hs)) in
        subst P (sym is) ((up.0, All-head (λ h. h.0 < 2 ^ 32) y hs small), route_told r y row e, rest (Some y.0) up.1)

rows_few : (r : Routing) (hs : List Host) → length (map advert_row (routes_to r hs)) ≤ length hs
rows_few r [] = omega arith
rows_few r (y ∷ hs) = at (rows_few r hs) (route r y)
  where
    at : length (map advert_row (routes_to r hs)) ≤ length hs → (o : Option RouteRow) → length (map advert_row (option_to_list o ++ routes_to r hs)) ≤ length (y ∷ hs)
    at few None = omega arith
    at few (Some row) = omega arith

pub advert_fits : (r : Routing) → r.here.0 < 2 ^ 32 → All (λ h. h.0 < 2 ^ 32) r.hosts → length r.hosts ≤ 32 → HostsAscend None r.hosts → AdvertFits (own_advert r)
unfolding all_routes own_advert
advert_fits r here small few up = let n = rows_few r r.hosts in (here, omega arith, rows_fit r None r.hosts up small)
