-- The route to another host is the least, over the lowest device.
use Rattle.std.proofs.Common.{◌≡◌, ◌≢◌, ℕ, zero, suc, ◌+◌, ◌≤◌, Bool, true, false, cond, eqb, Option, Some, None, List, [], ◌∷◌, ◌⊎◌, inl, inr, refl, sym, ap, subst, ◌∙◌, arith}
use Rattle.std.specs.List.{Contains}
use Rattle.std.proofs.lemmas.Bool.Decides.{nat_tests}
use Rattle.plan_base.specs.declared.ids.Host.{Host}
use Rattle.plan_base.specs.declared.ids.Dev.{Dev}
use Rattle.service_api.specs.declared.router.RouteRow.{RouteRow}
use Rattle.dv_routing.specs.Routing.{Routing, near_cost, over_link, is_better, better, best_from, own_route, route}
use Rattle.dv_routing.specs.Laws.{IsRoute, IsRouteAnswer}
use Rattle.dv_routing.proofs.Costs.{host_tested, eqb_self}

-- the first route is as good as the second
abbrev Beats : Option RouteRow → Option RouteRow → Type 0
Beats a None = Unit {0}
Beats None (Some c) = ⊥
Beats (Some b) (Some c) = (b.cost ≤ c.cost) × (b.cost ≡ c.cost → b.dev.0 ≤ c.dev.0)

beats_self : (a : Option RouteRow) → Beats a a
beats_self None = tt
beats_self (Some a) = (omega arith, λ e. omega arith)

beats_over : (a b c : Option RouteRow) → Beats a b → Beats b c → Beats a c
beats_over a b None h k = tt
beats_over a None (Some c) h k = absurd k
beats_over None (Some b) (Some c) h k = absurd h
beats_over (Some a) (Some b) (Some c) h k =
    let f : a.cost ≡ b.cost → a.dev.0 ≤ b.dev.0 = h.1 in
    let g : b.cost ≡ c.cost → b.dev.0 ≤ c.dev.0 = k.1 in
    let u : a.cost ≤ b.cost = h.0 in
    let v : b.cost ≤ c.cost = k.0 in
    (omega arith, λ e. omega arith)

better_first : (a b : Option RouteRow) → Beats (better a b) a
better_first None b = tt
better_first (Some a) None = beats_self (Some a)
better_first (Some a) (Some b) = split (is_better b a) refl
  where
    split : (t : Bool) → t ≡ is_better b a → Beats (cond t (Some b) (Some a)) (Some a)
    split true h = (grind (arith, nat_tests), λ e. grind (arith, nat_tests))
    split false h = beats_self (Some a)

better_second : (a b : Option RouteRow) → Beats (better a b) b
better_second None b = beats_self b
better_second (Some a) None = tt
better_second (Some a) (Some b) = split (is_better b a) refl
  where
    split : (t : Bool) → t ≡ is_better b a → Beats (cond t (Some b) (Some a)) (Some b)
    split true h = beats_self (Some b)
    split false h = (grind (arith, nat_tests), λ e. grind (arith, nat_tests))

better_one : (a b : Option RouteRow) → (better a b ≡ a) ⊎ (better a b ≡ b)
better_one None b = inr refl
better_one (Some a) None = inl refl
better_one (Some a) (Some b) = split (is_better b a)
  where
    split : (t : Bool) → (cond t (Some b) (Some a) ≡ Some a) ⊎ (cond t (Some b) (Some a) ≡ Some b)
    split true = inr refl
    split false = inl refl

-- an element of a list is the first one or a later one
pub first_or_later : {X : Type 0} (y : X) (ys : List X) (x : X) → Contains (y ∷ ys) x → (y ≡ x) ⊎ Contains ys x
first_or_later y ys x (zero, h, e) = inl e
first_or_later y ys x (suc k, h, e) = inr (k, omega arith, e)

pub contains_later : {X : Type 0} (y : X) (ys : List X) (x : X) → Contains ys x → Contains (y ∷ ys) x
contains_later y ys x (k, h, e) = (suc k, omega arith, e)

abbrev through : Routing → Host → Host × Dev → Option RouteRow
through r x link = over_link x link (near_cost r x link)

best_first : (r : Routing) (x : Host) (best : Option RouteRow) (links : List (Host × Dev)) → Beats (best_from r x best links) best
unfolding best_from
best_first r x best [] = beats_self best
best_first r x best (link ∷ links) =
    beats_over (best_from r x (better best (through r x link)) links) (better best (through r x link)) best
    (best_first r x (better best (through r x link)) links) (better_first best (through r x link))

best_all : (r : Routing) (x : Host) (best : Option RouteRow) (links : List (Host × Dev)) (link : Host × Dev) → Contains links link
    → Beats (best_from r x best links) (through r x link)
unfolding best_from
best_all r x best [] link c = absurd (omega (arith, c.1))
best_all r x best (first ∷ links) link c =
    let next = better best (through r x first) in
    elim (first_or_later first links link c) [
      | inl e ↦ let P : Host × Dev → Type 0 = λ l. Beats (best_from r x next links) (through r x l) in
          subst P e (beats_over (best_from r x next links) next (through r x first) (best_first r x next links) (better_second best (through r x first)))
      | inr k ↦ best_all r x next links link k
    ]

-- a route over one of the links
record OverOne (r : Routing) (x : Host) (links : List (Host × Dev)) (best : Option RouteRow) : Type 0 where
  link : Host × Dev
  among : Contains links link
  is : best ≡ through r x link

best_one : (r : Routing) (x : Host) (best : Option RouteRow) (links : List (Host × Dev))
    → (best_from r x best links ≡ best) ⊎ OverOne r x links (best_from r x best links)
unfolding best_from
best_one r x best [] = inl refl
best_one r x best (first ∷ links) =
    let next = better best (through r x first) in
    let goal : Type 0 = (best_from r x next links ≡ best) ⊎ OverOne r x (first ∷ links) (best_from r x next links) in
    let here : best_from r x next links ≡ next → goal = λ e.
    elim (better_one best (through r x first)) [
      | inl k ↦ inl (e ∙ k)
      | inr k ↦ inr (record { link = first; among = (0, omega arith, refl); is = e ∙ k })
    ] in
    let later : OverOne r x links (best_from r x next links) → goal = λ o.
    inr (record { link = o.link; among = contains_later first links o.link o.among; is = o.is }) in
    elim (best_one r x next links) [ inl e ↦ here e | inr o ↦ later o ]

-- nothing is known where no route is
none_near : (r : Routing) (x : Host) (link : Host × Dev) → Beats None (through r x link) → near_cost r x link ≡ None
none_near r x link h = split (near_cost r x link) h
  where
    split : (n : Option ℕ) → Beats None (over_link x link n) → n ≡ None
    split None k = refl
    split (Some c) k = absurd k

abbrev row_over : Host → Host × Dev → ℕ → RouteRow
row_over x link c = record { host = x; «next» = link.0; dev = link.1; cost = c + 1 }

is_route : (r : Routing) (x : Host) (link : Host × Dev) (c : ℕ) → Contains r.neighbours link → near_cost r x link ≡ Some c
    → ((l : Host × Dev) → Contains r.neighbours l → Beats (Some (row_over x link c)) (through r x l)) → IsRoute r x (row_over x link c)
is_route r x link c among near beats = record {
  host = refl;
  link = among;
  cost = (c, refl, near);
  cheapest = λ l n a e. (beaten l n a e).0;
  lowest = λ l n a e same. (beaten l n a e).1 same;
}
  where
    beaten : (l : Host × Dev) (n : ℕ) → Contains r.neighbours l → near_cost r x l ≡ Some n → Beats (Some (row_over x link c)) (Some (row_over x l n))
    beaten l n a e = let P : Option ℕ → Type 0 = λ o. Beats (Some (row_over x link c)) (over_link x l o) in subst P e (beats l a)

best_answer : (r : Routing) (x : Host) → IsRouteAnswer r x (best_from r x None r.neighbours)
best_answer r x =
    let best = best_from r x None r.neighbours in
    let beats : (l : Host × Dev) → Contains r.neighbours l → Beats best (through r x l) = λ l a. best_all r x None r.neighbours l a in
    let P : Option RouteRow → Type 0 = λ b. ((l : Host × Dev) → Contains r.neighbours l → Beats b (through r x l)) → IsRouteAnswer r x b in
    let none : P None = λ k l a. none_near r x l (k l a) in
    let over : (o : OverOne r x r.neighbours best) (n : Option ℕ) → near_cost r x o.link ≡ n → P (over_link x o.link n) = λ o n.
    elim n as (λ m. near_cost r x o.link ≡ m → P (over_link x o.link m)) [
      | None ↦ λ e. none
      | Some c ↦ λ e k. is_route r x o.link c o.among e k
    ] in
    elim (best_one r x None r.neighbours) [
      | inl e ↦ subst P (sym e) none beats
      | inr o ↦ subst P (sym o.is) (over o (near_cost r x o.link) refl) beats
    ]

-- two hosts that differ have different numbers
pub not_same : (a b : Host) → a ≢ b → eqb a.0 b.0 ≡ false
not_same a b h = split (eqb a.0 b.0) refl
  where
    split : (t : Bool) → t ≡ eqb a.0 b.0 → t ≡ false
    split true e = absurd (h (host_tested a b true e refl))
    split false e = refl

pub route_other : (r : Routing) (x : Host) → r.here ≢ x → route r x ≡ best_from r x None r.neighbours
unfolding route
route_other r x h = ap (λ t. cond t (Some (own_route r.here)) (best_from r x None r.neighbours)) (not_same r.here x h)

pub route_own : (r : Routing) → route r r.here ≡ Some (own_route r.here)
unfolding route
route_own r = ap (λ t. cond t (Some (own_route r.here)) (best_from r r.here None r.neighbours)) (eqb_self r.here.0)

pub route_answer : (r : Routing) (x : Host) → r.here ≢ x → IsRouteAnswer r x (route r x)
route_answer r x h = subst (IsRouteAnswer r x) (sym (route_other r x h)) (best_answer r x)

-- a node is at a host, or it isn't
pub same_or_not : (a b : Host) → (a ≡ b) ⊎ (a ≢ b)
same_or_not a b = split (eqb a.0 b.0) refl
  where
    split : (t : Bool) → t ≡ eqb a.0 b.0 → (a ≡ b) ⊎ (a ≢ b)
    split true e = inl (host_tested a b true e refl)
    split false e = inr (λ same. absurd (differs (ap (λ h. h.0) same) e))
      where
        differs : a.0 ≡ b.0 → false ≡ eqb a.0 b.0 → ⊥
        differs s k = grind (arith, nat_tests)

-- the host of a route
pub route_host : (r : Routing) (x : Host) (row : RouteRow) → route r x ≡ Some row → row.host ≡ x
route_host r x row e =
    elim (same_or_not r.here x) [
      | inl same ↦ own same
      | inr other ↦ let P : Option RouteRow → Type 0 = IsRouteAnswer r x in (subst P e (route_answer r x other)).host
    ]
  where
    own : r.here ≡ x → row.host ≡ x
    own same = let a = route_own r in let b = ap (route r) same in cc
