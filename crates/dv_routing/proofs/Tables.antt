-- A table that stands for the adverts heard keeps on doing so, and answers by them.
use Rattle.std.proofs.Common.{◌≡◌, ◌≢◌, ℕ, zero, suc, ◌+◌, ◌≤◌, ◌<◌, Bool, true, false, cond, eqb, ◌||◌, Option, Some, None, List, [], ◌∷◌, length, drop, get_or, refl, sym, ap, subst, ◌∙◌, arith}
use Rattle.std.specs.Prelude.{map, slice_index_or, nat_lt}
use Rattle.std.proofs.lemmas.Bool.{false≢true}
use Rattle.std.proofs.lemmas.List.{drop_all}
use Rattle.std.proofs.lemmas.Bool.Decides.{Decides-eqb, nat_tests}
use Rattle.plan_base.specs.declared.ids.Host.{Host}
use Rattle.plan_base.specs.declared.ids.Dev.{Dev}
use Rattle.service_api.specs.declared.router.RouteRow.{RouteRow}
use Rattle.service_api.specs.declared.advert.Advert.{Advert}
use Rattle.dv_routing.specs.declared.table.Known.{Known}
use Rattle.dv_routing.specs.declared.table.Lane.{Lane}
use Rattle.dv_routing.specs.declared.table.Table.{Table}
use Rattle.dv_routing.specs.Routing.{Routing, opening_routing, hears, is_among, least, rows_cost, told_on, heard_cost, near_cost, over_link, better, best_from, own_route, route, route_within}
use Rattle.dv_routing.specs.Lanes.{taken_cost, known_after, lane_after, unknown, fresh_lane, known_cost, lane_cost, lane_route, best_lane}
use Rattle.dv_routing.specs.Stands.{known_of, lane_of, Stands}
use Rattle.dv_routing.proofs.Costs.{least-none, least-zero, rows_inside, heard_outside, heard_more, same_host, eqb_self}

-- what is among the later hosts is among all of them
among_later : (h : Host) (hs : List Host) (x : Host) → is_among hs x ≡ true → is_among (h ∷ hs) x ≡ true
among_later h hs x e = split (eqb h.0 x.0)
  where
    split : (t : Bool) → (t || is_among hs x) ≡ true
    split true = refl
    split false = e

among_self : (h : Host) (hs : List Host) → is_among (h ∷ hs) h ≡ true
among_self h hs = ap (λ t. t || is_among hs h) (eqb_self h.0)

known_opens : (r : Routing) (d : Dev) (hs : List Host) → r.heard ≡ [] → map unknown hs ≡ map (known_of r d) hs
unfolding heard_cost
known_opens r d [] e = refl
known_opens r d (h ∷ hs) e =
    let a : unknown h ≡ known_of r d h = ap (λ heard. let k : Known = record { host = h; least = heard_cost r.hosts h d heard } in k) (sym e) in
    let b = known_opens r d hs e in
    cc

pub lanes_open : (here : Host) (hosts : List Host) (neighbours links : List (Host × Dev))
    → map (fresh_lane hosts) links ≡ map (lane_of (opening_routing here hosts neighbours)) links
lanes_open here hosts neighbours [] = refl
lanes_open here hosts neighbours (link ∷ links) =
    let a = ap (λ ks. let l : Lane = record { host = link.0; dev = link.1; known = ks } in l) (known_opens (opening_routing here hosts neighbours) link.1 hosts refl) in
    let b = lanes_open here hosts neighbours links in
    cc

-- what is known of a host of the network, after an advert on the device
known_hears : (r : Routing) (e : Dev) (a : Advert) (d : Dev) (h : Host) → eqb e.0 d.0 ≡ true → is_among r.hosts h ≡ true
    → known_after a.rows (known_of r d h) ≡ known_of (hears r e a) d h
known_hears r e a d h on among =
    let told : told_on r.hosts h d (e, a) ≡ taken_cost h a.rows = ap (λ t. cond t (rows_cost r.hosts h a.rows) None) on ∙ rows_inside r.hosts h a.rows among in
    let more = heard_more r.hosts h d r.heard (e, a) in
    ap (λ c. let k : Known = record { host = h; least = c } in k) (ap (λ c. least (heard_cost r.hosts h d r.heard) c) (sym told) ∙ sym more)

-- and after one on another device
known_stays : (r : Routing) (e : Dev) (a : Advert) (d : Dev) (h : Host) → eqb e.0 d.0 ≡ false → known_of r d h ≡ known_of (hears r e a) d h
known_stays r e a d h off =
    let told : told_on r.hosts h d (e, a) ≡ None = ap (λ t. cond t (rows_cost r.hosts h a.rows) None) off in
    let more = heard_more r.hosts h d r.heard (e, a) in
    ap (λ c. let k : Known = record { host = h; least = c } in k)
    (sym (more ∙ (ap (λ c. least (heard_cost r.hosts h d r.heard) c) told ∙ least-none (heard_cost r.hosts h d r.heard))))

all_hear : (r : Routing) (e : Dev) (a : Advert) (d : Dev) (hs : List Host) → eqb e.0 d.0 ≡ true → ((h : Host) → is_among hs h ≡ true → is_among r.hosts h ≡ true)
    → map (known_after a.rows) (map (known_of r d) hs) ≡ map (known_of (hears r e a) d) hs
all_hear r e a d [] on inside = refl
all_hear r e a d (h ∷ hs) on inside =
    let first = known_hears r e a d h on (inside h (among_self h hs)) in
    let rest = all_hear r e a d hs on (λ x i. inside x (among_later h hs x i)) in
    cc

all_stay : (r : Routing) (e : Dev) (a : Advert) (d : Dev) (hs : List Host) → eqb e.0 d.0 ≡ false → map (known_of r d) hs ≡ map (known_of (hears r e a) d) hs
all_stay r e a d [] off = refl
all_stay r e a d (h ∷ hs) off =
    let first = known_stays r e a d h off in
    let rest = all_stay r e a d hs off in
    cc

lane_hears : (r : Routing) (e : Dev) (a : Advert) (link : Host × Dev) → lane_after e a.rows (lane_of r link) ≡ lane_of (hears r e a) link
lane_hears r e a link = split (eqb e.0 link.1.0) refl
  where
    split : (t : Bool) → t ≡ eqb e.0 link.1.0
        → cond t (record { host = link.0; dev = link.1; known = map (known_after a.rows) (lane_of r link).known }) (lane_of r link) ≡ lane_of (hears r e a) link
    split true h = ap (λ ks. let l : Lane = record { host = link.0; dev = link.1; known = ks } in l) (all_hear r e a link.1 r.hosts (sym h) (λ x i. i))
    split false h = ap (λ ks. let l : Lane = record { host = link.0; dev = link.1; known = ks } in l) (all_stay r e a link.1 r.hosts (sym h))

lanes_hear : (r : Routing) (e : Dev) (a : Advert) (links : List (Host × Dev)) → map (lane_after e a.rows) (map (lane_of r) links) ≡ map (lane_of (hears r e a)) links
lanes_hear r e a [] = refl
lanes_hear r e a (link ∷ links) =
    let first = lane_hears r e a link in
    let rest = lanes_hear r e a links in
    cc

-- a table hears an advert
pub stands_after : (r : Routing) (t u : Table) (e : Dev) (a : Advert) → Stands r t → u.here ≡ t.here → u.hosts ≡ t.hosts
    → u.lanes.items ≡ map (lane_after e a.rows) t.lanes.items → Stands (hears r e a) u
stands_after r t u e a s here hosts lanes = record {
  here = here ∙ s.here;
  hosts = hosts ∙ s.hosts;
  lanes = lanes ∙ (ap (map (lane_after e a.rows)) s.lanes ∙ lanes_hear r e a r.neighbours);
}

-- what is known for a host is what was heard
known_is : (r : Routing) (d : Dev) (x : Host) (hs : List Host) → is_among hs x ≡ true → known_cost (map (known_of r d) hs) x ≡ heard_cost r.hosts x d r.heard
known_is r d x [] h = absurd (false≢true h)
known_is r d x (y ∷ hs) h = split (known_is r d x hs) (eqb y.0 x.0) refl h
  where
    split : (is_among hs x ≡ true → known_cost (map (known_of r d) hs) x ≡ heard_cost r.hosts x d r.heard) → (t : Bool) → t ≡ eqb y.0 x.0
        → (t || is_among hs x) ≡ true → cond t (heard_cost r.hosts y d r.heard) (known_cost (map (known_of r d) hs) x) ≡ heard_cost r.hosts x d r.heard
    split rest true e k = ap (λ z. heard_cost r.hosts z d r.heard) (same_host y x (sym e))
    split rest false e k = rest k

known_none : (r : Routing) (d : Dev) (x : Host) (hs : List Host) → is_among hs x ≡ false → known_cost (map (known_of r d) hs) x ≡ None
known_none r d x [] h = refl
known_none r d x (y ∷ hs) h = split (known_none r d x hs) (eqb y.0 x.0) h
  where
    split : (is_among hs x ≡ false → known_cost (map (known_of r d) hs) x ≡ None) → (t : Bool) → (t || is_among hs x) ≡ false → cond t (heard_cost r.hosts y d r.heard) (known_cost (map (known_of r d) hs) x) ≡ None
    split rest true k = absurd (false≢true (sym k))
    split rest false k = rest k

known_heard : (r : Routing) (d : Dev) (x : Host) → known_cost (map (known_of r d) r.hosts) x ≡ heard_cost r.hosts x d r.heard
known_heard r d x = split (is_among r.hosts x) refl
  where
    split : (t : Bool) → is_among r.hosts x ≡ t → known_cost (map (known_of r d) r.hosts) x ≡ heard_cost r.hosts x d r.heard
    split true h = known_is r d x r.hosts h
    split false h = known_none r d x r.hosts h ∙ sym (heard_outside r.hosts x d r.heard h)

-- each entry is that of its host
own_entry : (r : Routing) (d : Dev) (hs : List Host) (at : ℕ) (o : Known) → at < length (map (known_of r d) hs)
    → slice_index_or (map (known_of r d) hs) at o ≡ known_of r d (slice_index_or (map (known_of r d) hs) at o).host
own_entry r d [] at o h = absurd (omega arith)
own_entry r d (x ∷ hs) zero o h = refl
own_entry r d (x ∷ hs) (suc at) o h = own_entry r d hs at o (omega arith)

inside : (i n : ℕ) → true ≡ nat_lt i n → i < n
inside i n e = grind (arith, nat_tests)

-- an entry before all that is known changes nothing, where it is one of it
pub known_near : (r : Routing) (d : Dev) (ks : List Known) (at : ℕ) (o : Known) (x : Host) → ks ≡ map (known_of r d) r.hosts → true ≡ nat_lt at (length ks) → known_cost (slice_index_or ks at o ∷ ks) x ≡ known_cost ks x
known_near r d ks at o x e there = split (eqb (slice_index_or ks at o).host.0 x.0) refl
  where
    k : Known
    k = slice_index_or ks at o

    within : at < length (map (known_of r d) r.hosts)
    within = subst (λ (l : List Known). at < length l) e (inside at (length ks) there)

    is : k ≡ known_of r d k.host
    is = subst (λ (l : List Known). slice_index_or l at o ≡ known_of r d (slice_index_or l at o).host) (sym e) (own_entry r d r.hosts at o within)

    split : (t : Bool) → t ≡ eqb k.host.0 x.0 → cond t k.least (known_cost ks x) ≡ known_cost ks x
    split true h = ap (λ (z : Known). z.least) is ∙ (ap (λ y. heard_cost r.hosts y d r.heard) (same_host k.host x (sym h)) ∙ (sym (known_heard r d x) ∙ ap (λ l. known_cost l x) (sym e)))
    split false h = refl

not_same : (a b : ℕ) → a ≢ b → eqb a b ≡ false
not_same a b e = split (eqb a b) refl
  where
    split : (t : Bool) → eqb a b ≡ t → t ≡ false
    split true h = absurd (e ((Decides-eqb a b).0 h))
    split false h = refl

-- the cost for another host than the neighbour
pub later_cost : (lane : Lane) (x : Host) (o : Option ℕ) → lane.host.0 ≢ x.0 → o ≡ known_cost lane.known x → o ≡ lane_cost x lane
later_cost lane x o e is = is ∙ sym (ap (λ t. cond t (Some 0) (known_cost lane.known x)) (not_same lane.host.0 x.0 e))

lane_near : (r : Routing) (x : Host) (link : Host × Dev) → lane_cost x (lane_of r link) ≡ near_cost r x link
unfolding near_cost
lane_near r x link = split (eqb link.0.0 x.0)
  where
    split : (t : Bool) → cond t (Some 0) (known_cost (map (known_of r link.1) r.hosts) x) ≡ least (cond t (Some 0) None) (heard_cost r.hosts x link.1 r.heard)
    split true = sym (least-zero (heard_cost r.hosts x link.1 r.heard))
    split false = known_heard r link.1 x

best_is : (r : Routing) (x : Host) (best : Option RouteRow) (links : List (Host × Dev)) → best_lane x best (map (lane_of r) links) ≡ best_from r x best links
unfolding best_from
best_is r x best [] = refl
best_is r x best (link ∷ links) =
    ap (λ c. best_lane x (better best (over_link x link c)) (map (lane_of r) links)) (lane_near r x link)
    ∙ best_is r x (better best (over_link x link (near_cost r x link))) links

best_suc : (lanes : List Lane) (i : ℕ) (l : Lane) (x : Host) (best : Option RouteRow) → i < length lanes → best_lane x best (drop i lanes) ≡ best_lane x (better best (lane_route x (get_or lanes i l))) (drop (suc i) lanes)
best_suc [] i l x best h = absurd (omega arith)
best_suc (m ∷ ms) zero l x best h = refl
best_suc (m ∷ ms) (suc i) l x best h = best_suc ms i l x best (omega arith)

-- each lane is one of a link
record IsLane (r : Routing) (l : Lane) : Type 0 where
  link : Host × Dev
  is : l ≡ lane_of r link

own_lane : (r : Routing) (links : List (Host × Dev)) (i : ℕ) (d : Lane) → i < length (map (lane_of r) links) → IsLane r (get_or (map (lane_of r) links) i d)
own_lane r [] i d h = absurd (omega arith)
own_lane r (link ∷ links) zero d h = record { link = link; is = refl }
own_lane r (link ∷ links) (suc i) d h = let o = own_lane r links i d (omega arith) in record { link = o.link; is = o.is }

-- the best route, after one more lane
pub lane_next : (r : Routing) (links : List (Host × Dev)) (lanes : List Lane) (i : ℕ) (l : Lane) (x : Host) (best one new : Option RouteRow) → lanes ≡ map (lane_of r) links → i < length lanes → l ≡ get_or lanes i l
    → ((link : Host × Dev) → l ≡ lane_of r link → one ≡ lane_route x l) → new ≡ better best one → best_lane x best (drop i lanes) ≡ best_lane x None lanes → best_lane x new (drop (i + 1) lanes) ≡ best_lane x None lanes
lane_next r links lanes i l x best one new e within is over n h =
    let there : i < length (map (lane_of r) links) = subst (λ ls. i < length ls) e within in
    let o = own_lane r links i l there in
    let more : suc i ≡ i + 1 = omega arith in
    let way : one ≡ lane_route x (get_or lanes i l) = over o.link (is ∙ (ap (λ ls. get_or ls i l) e ∙ o.is)) ∙ ap (lane_route x) is in
    ap (λ b. best_lane x b (drop (i + 1) lanes)) (n ∙ ap (better best) way)
    ∙ (ap (λ j. best_lane x (better best (lane_route x (get_or lanes i l))) (drop j lanes)) (sym more) ∙ (sym (best_suc lanes i l x best within) ∙ h))

-- behind the last lane
pub lanes_past : (lanes : List Lane) (i : ℕ) (x : Host) (best : Option RouteRow) → length lanes ≤ i → best_lane x best (drop i lanes) ≡ best_lane x None lanes → best ≡ best_lane x None lanes
lanes_past lanes i x best past h = ap (best_lane x best) (sym (drop_all i lanes past)) ∙ h

-- the route of a table
pub table_route : (r : Routing) (t : Table) (x : Host) → Stands r t
    → cond (eqb t.here.0 x.0) (Some (own_route t.here)) (best_lane x None t.lanes.items) ≡ route r x
unfolding route
table_route r t x s =
    ap (λ h. cond (eqb h.0 x.0) (Some (own_route h)) (best_lane x None t.lanes.items)) s.here
    ∙ ap (λ b. cond (eqb r.here.0 x.0) (Some (own_route r.here)) b) (ap (best_lane x None) s.lanes ∙ best_is r x None r.neighbours)

pub table_own : (r : Routing) (t : Table) (x : Host) → Stands r t → t.here.0 ≡ x.0 → Some (own_route t.here) ≡ route r x
table_own r t x s e =
    sym (ap (λ b. cond b (Some (own_route t.here)) (best_lane x None t.lanes.items)) ((Decides-eqb t.here.0 x.0).1 e)) ∙ table_route r t x s

pub table_best : (r : Routing) (t : Table) (x : Host) (best : Option RouteRow) → Stands r t → t.here.0 ≢ x.0 → best ≡ best_lane x None t.lanes.items → best ≡ route r x
table_best r t x best s e is = is ∙ (sym (ap (λ b. cond b (Some (own_route t.here)) (best_lane x None t.lanes.items)) (not_same t.here.0 x.0 e)) ∙ table_route r t x s)

-- the route to a host within the network, by the table's hosts
pub within_is : (r : Routing) (t : Table) (x : Host) → Stands r t → (b : Bool) → is_among t.hosts x ≡ b → cond b (route r x) None ≡ route_within r x
within_is r t x s b e = ap (λ u. cond u (route r x) None) (sym e ∙ ap (λ hs. is_among hs x) s.hosts)
