-- The lesser of costs, and the costs that adverts carry.
use Rattle.std.proofs.Common.{◌≡◌, ℕ, Bool, true, false, cond, eqb, ltb, ◌&&◌, Option, Some, None, List, [], ◌∷◌, ◌++◌, ◌⊎◌, inl, inr, refl, sym, ap, ◌∙◌, arith}
use Rattle.std.proofs.lemmas.Bool.Decides.{nat_tests, Decides-eqb}
use Rattle.plan_base.specs.declared.ids.Host.{Host}
use Rattle.plan_base.specs.declared.ids.Dev.{Dev}
use Rattle.service_api.specs.declared.advert.AdvertRow.{AdvertRow}
use Rattle.service_api.specs.declared.advert.Advert.{Advert}
use Rattle.dv_routing.specs.Routing.{least, row_cost, rows_cost, told_on, heard_cost, is_among}
use Rattle.dv_routing.specs.Lanes.{told_cost, taken_cost}
use Rattle.dv_routing.specs.Laws.{AtMost, NoRise}

pub least-none : (a : Option ℕ) → least a None ≡ a
least-none None = refl
least-none (Some a) = refl

pub least-zero : (b : Option ℕ) → least (Some 0) b ≡ Some 0
least-zero None = refl
least-zero (Some b) = grind (arith, nat_tests)

pub least-assoc : (a b c : Option ℕ) → least (least a b) c ≡ least a (least b c)
least-assoc None b c = refl
least-assoc (Some a) None c = refl
least-assoc (Some a) (Some b) None = least-none (least (Some a) (Some b))
least-assoc (Some a) (Some b) (Some c) = split (ltb b a) (ltb c b) refl refl
  where
    split : (t u : Bool) → t ≡ ltb b a → u ≡ ltb c b → least (cond t (Some b) (Some a)) (Some c) ≡ least (Some a) (cond u (Some c) (Some b))
    split true true h k = grind (arith, nat_tests)
    split true false h k = grind (arith, nat_tests)
    split false true h k = refl
    split false false h k = grind (arith, nat_tests)

pub ruleset least_laws = (least-none, least-assoc)

-- the lesser of two is one of them
pub least_from : (a b : Option ℕ) (c : ℕ) → least a b ≡ Some c → (a ≡ Some c) ⊎ (b ≡ Some c)
least_from None b c e = inr e
least_from (Some a) None c e = inl e
least_from (Some a) (Some b) c e = split (ltb b a) e
  where
    split : (t : Bool) → cond t (Some b) (Some a) ≡ Some c → (Some a ≡ Some c) ⊎ (Some b ≡ Some c)
    split true k = inr k
    split false k = inl k

pub least_first : (a b : Option ℕ) → NoRise a (least a b)
least_first None b = tt
least_first (Some a) None = omega arith
least_first (Some a) (Some b) = split (ltb b a) refl
  where
    split : (t : Bool) → t ≡ ltb b a → AtMost (cond t (Some b) (Some a)) a
    split true h = grind (arith, nat_tests)
    split false h = omega arith

pub least_within : (a b q : Option ℕ) → NoRise a q → NoRise b q → NoRise (least a b) q
least_within None b q h k = k
least_within (Some a) None q h k = h
least_within (Some a) (Some b) q h k = split (ltb b a)
  where
    split : (t : Bool) → NoRise (cond t (Some b) (Some a)) q
    split true = k
    split false = h

-- a host by its number
pub host_tested : (a b : Host) (t : Bool) → t ≡ eqb a.0 b.0 → t ≡ true → a ≡ b
host_tested a b t h k =
    let e : a.0 ≡ b.0 = grind (arith, nat_tests) in ap (λ n. let x : Host = record { 0 = n } in x) e

pub eqb_self : (n : ℕ) → eqb n n ≡ true
eqb_self n = (Decides-eqb n n).1 refl

pub same_host : (a b : Host) → eqb a.0 b.0 ≡ true → a ≡ b
same_host a b h = host_tested a b true (sym h) refl

-- a list of hosts has each host with the number of one of its own
pub among_same : (hosts : List Host) (a b : Host) → a ≡ b → is_among hosts b ≡ true → is_among hosts a ≡ true
among_same hosts a b e h = ap (is_among hosts) e ∙ h

-- for a host of the network a row gives its cost, as it stands
pub row_inside : (hosts : List Host) (x : Host) (row : AdvertRow) → is_among hosts x ≡ true → row_cost hosts x row ≡ told_cost x row
row_inside hosts x row h = split (eqb row.host.0 x.0) refl
  where
    split : (t : Bool) → t ≡ eqb row.host.0 x.0
        → cond (t && (is_among hosts row.host && ltb row.cost 65535)) (Some row.cost) None ≡ cond (t && ltb row.cost 65535) (Some row.cost) None
    split true e = ap (λ b. cond (b && ltb row.cost 65535) (Some row.cost) None) (among_same hosts row.host x (host_tested row.host x true e refl) h)
    split false e = refl

-- of another host it gives nothing
pub row_outside : (hosts : List Host) (x : Host) (row : AdvertRow) → is_among hosts x ≡ false → row_cost hosts x row ≡ None
row_outside hosts x row h = split (eqb row.host.0 x.0) refl
  where
    split : (t : Bool) → t ≡ eqb row.host.0 x.0 → cond (t && (is_among hosts row.host && ltb row.cost 65535)) (Some row.cost) None ≡ None
    split true e = ap (λ b. cond (b && ltb row.cost 65535) (Some row.cost) None) (ap (is_among hosts) (host_tested row.host x true e refl) ∙ h)
    split false e = refl

pub rows_inside : (hosts : List Host) (x : Host) (rows : List AdvertRow) → is_among hosts x ≡ true → rows_cost hosts x rows ≡ taken_cost x rows
unfolding rows_cost taken_cost
rows_inside hosts x [] h = refl
rows_inside hosts x (row ∷ rows) h =
    let a = row_inside hosts x row h in
    let b = rows_inside hosts x rows h in
    cc

pub rows_outside : (hosts : List Host) (x : Host) (rows : List AdvertRow) → is_among hosts x ≡ false → rows_cost hosts x rows ≡ None
unfolding rows_cost
rows_outside hosts x [] h = refl
rows_outside hosts x (row ∷ rows) h = ap (λ a. least a (rows_cost hosts x rows)) (row_outside hosts x row h) ∙ rows_outside hosts x rows h

pub told_outside : (hosts : List Host) (x : Host) (d : Dev) (told : Dev × Advert) → is_among hosts x ≡ false → told_on hosts x d told ≡ None
told_outside hosts x d told h = split (eqb told.0.0 d.0)
  where
    split : (t : Bool) → cond t (rows_cost hosts x told.1.rows) None ≡ None
    split true = rows_outside hosts x told.1.rows h
    split false = refl

pub heard_outside : (hosts : List Host) (x : Host) (d : Dev) (heard : List (Dev × Advert)) → is_among hosts x ≡ false → heard_cost hosts x d heard ≡ None
unfolding heard_cost
heard_outside hosts x d [] h = refl
heard_outside hosts x d (told ∷ later) h = ap (λ a. least a (heard_cost hosts x d later)) (told_outside hosts x d told h) ∙ heard_outside hosts x d later h

-- one more advert counts as one more cost
pub heard_more : (hosts : List Host) (x : Host) (d : Dev) (heard : List (Dev × Advert)) (told : Dev × Advert)
    → heard_cost hosts x d (heard ++ told ∷ []) ≡ least (heard_cost hosts x d heard) (told_on hosts x d told)
unfolding heard_cost
heard_more hosts x d [] told = least-none (told_on hosts x d told)
heard_more hosts x d (first ∷ later) told =
    ap (λ a. least (told_on hosts x d first) a) (heard_more hosts x d later told)
    ∙ sym (least-assoc (told_on hosts x d first) (heard_cost hosts x d later) (told_on hosts x d told))
