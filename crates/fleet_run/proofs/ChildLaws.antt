-- Children that are started, and waited for, one after the other.
use Rattle.std.proofs.Common.{◌≡◌, ◌≢◌, inl, inr, ℕ, zero, suc, ◌+◌, ◌<◌, ◌≤◌, List, [], ◌∷◌, ◌++◌, length, take, drop, get_or, refl, sym, ◌∙◌, ap, subst, arith, rules, append-nil, append_assoc, true, cond, not, tests}
use Rattle.std.specs.List.{Contains, filter}
use Rattle.std.proofs.lemmas.Bool.{eq-eqb}
use Rattle.std.proofs.lemmas.List.{drop_more, drop_all, take_more, length-drop}
use Rattle.std.proofs.lemmas.List.Elements.{Contains-append_left, Contains-append_right, Contains-append_cases, Contains-push_cases, filter-append}
use Rattle.node_io.specs.declared.spawner.Child.{Child}
use Rattle.node_io.specs.Spawners.{is_other, IsFresh, Words}
use Rattle.fleet_run.specs.Children.{AreApart, AreOpen, AreNumbered, LeavesOpen, LeavesAllBut}

none_in : (c : Child) → Contains [] c → ⊥
none_in c k = let none : k.0 < 0 = k.1 in absurd (omega arith)

first_in : (c : Child) (cs : List Child) → Contains (c ∷ cs) c
first_in c cs = (0, omega arith, refl)

one_child : (c d : Child) → c.0 ≡ d.0 → c ≡ d
one_child c d e = ap (λ n. let child : Child = record { 0 = n } in child) e

-- ---- starting

apart_more : (base cs : List Child) (c : Child) → AreApart base cs → IsFresh (base ++ cs) c → AreApart base (cs ++ c ∷ [])
apart_more base [] c a fresh = ((λ k. fresh (Contains-append_left base [] c k)), ((λ k. none_in c k), tt))
apart_more base (d ∷ ds) c a fresh =
    let other : c ≡ d → ⊥ = λ e. fresh (subst (Contains (base ++ d ∷ ds)) (sym e) (Contains-append_right base (d ∷ ds) d (first_in d ds))) in
    let apart : IsFresh (ds ++ c ∷ []) d = λ k. elim (Contains-push_cases ds c d k) as (λ _. ⊥) [ inl h ↦ a.1.0 h | inr e ↦ other e ] in
    let fewer : IsFresh (base ++ ds) c = λ k. fresh (elim (Contains-append_cases base ds c k) as (λ _. Contains (base ++ d ∷ ds) c)
    [ inl h ↦ Contains-append_left base (d ∷ ds) c h | inr h ↦ Contains-append_right base (d ∷ ds) c (Contains-append_right (d ∷ []) ds c h) ]) in
    (a.0, (apart, apart_more base ds c a.1.1 fewer))

-- none was started
pub none_open : (base : List Child) → AreOpen base base []
none_open base = record { is = sym (append-nil base); apart = tt }

-- one more was started
pub open_more : (base running new cs : List Child) (c : Child) → AreOpen base running cs → IsFresh running c → new ≡ running ++ c ∷ [] → AreOpen base new (cs ++ c ∷ [])
open_more base running new cs c o fresh e = record {
  is = e ∙ ap (λ l. l ++ c ∷ []) o.is ∙ append_assoc base cs (c ∷ []);
  apart = apart_more base cs c o.apart (subst (λ l. IsFresh l c) o.is fresh);
}

pub numbered_more : (n m : ℕ) (cs : List Child) (c : Child) → AreNumbered n cs → c.0 ≡ m → m ≡ n + length cs → AreNumbered n (cs ++ c ∷ [])
numbered_more n m [] c a e k = (omega (arith, e, k), tt)
numbered_more n m (d ∷ cs) c a e k = (a.0, numbered_more (n + 1) m cs c a.1 e (omega (arith, k)))

-- ---- waiting

filter_fresh : (xs : List Child) (c : Child) → IsFresh xs c → filter (is_other c) xs ≡ xs
filter_fresh [] c fresh = refl
filter_fresh (x ∷ xs) c fresh =
    let differs : x.0 ≢ c.0 = λ e. fresh (subst (Contains (x ∷ xs)) (one_child x c e) (first_in x xs)) in
    let kept : is_other c x ≡ true = search (rules, tests) in
    let later = filter_fresh xs c (λ k. fresh (Contains-append_right (x ∷ []) xs c k)) in
    ap (λ b. cond b (x ∷ filter (is_other c) xs) (filter (is_other c) xs)) kept ∙ ap (λ l. x ∷ l) later

filter_first : (c : Child) (cs : List Child) → filter (is_other c) (c ∷ cs) ≡ filter (is_other c) cs
filter_first c cs = ap (λ b. cond (not b) (c ∷ filter (is_other c) cs) (filter (is_other c) cs)) (eq-eqb c.0 c.0 refl)

-- the first was waited for
open_less : (base running cs : List Child) (c : Child) → AreOpen base running (c ∷ cs) → AreOpen base (filter (is_other c) running) cs
open_less base running cs c o = record {
  is = ap (filter (is_other c)) o.is ∙ filter-append (is_other c) base (c ∷ cs) ∙ ap (λ l. l ++ filter (is_other c) (c ∷ cs)) (filter_fresh base c o.apart.0)
      ∙ ap (λ l. base ++ l) (filter_first c cs ∙ filter_fresh cs c o.apart.1.0);
  apart = o.apart.1.1;
}

next_of : (cs : List Child) (i : ℕ) (d c : Child) → i < length cs → c ≡ get_or cs i d → drop i cs ≡ c ∷ drop (i + 1) cs
next_of cs i d c h e = drop_more cs i d h ∙ ap (λ x. x ∷ drop (i + 1) cs) (sym e)

-- the next child is open, and then it was waited for
pub next_is_open : (base running cs : List Child) (i : ℕ) (d c : Child) → i < length cs → c ≡ get_or cs i d → AreOpen base running (drop i cs) → Contains running c
next_is_open base running cs i d c h e o =
    subst (λ l. Contains l c) (sym o.is) (Contains-append_right base (drop i cs) c (subst (λ l. Contains l c) (sym (next_of cs i d c h e)) (first_in c (drop (i + 1) cs))))

pub next_waited : (base running new cs : List Child) (i : ℕ) (d c : Child) → i < length cs → c ≡ get_or cs i d → new ≡ filter (is_other c) running → AreOpen base running (drop i cs)
    → AreOpen base new (drop (i + 1) cs)
next_waited base running new cs i d c h e f o =
    subst (λ l. AreOpen base l (drop (i + 1) cs)) (sym f) (open_less base running (drop (i + 1) cs) c (subst (AreOpen base running) (next_of cs i d c h e) o))

-- all were waited for
pub all_waited : (base running cs : List Child) (i : ℕ) → length cs ≤ i → AreOpen base running (drop i cs) → running ≡ base
all_waited base running cs i h o = o.is ∙ ap (λ l. base ++ l) (drop_all i cs h) ∙ append-nil base

pub leaves : (base running cs : List Child) → AreOpen base running cs → LeavesOpen base running
leaves base running cs o = record { still = cs; is = o.is }

-- so many were waited for, and the others are left
pub leaves_behind : (base running cs : List Child) (gone all : ℕ) → AreOpen base running (drop gone cs) → gone ≤ length cs → length cs ≡ all → LeavesAllBut gone all base running
leaves_behind base running cs gone all o h e = record { still = drop gone cs; is = o.is; count = omega (arith, length-drop gone cs, h, e) }

-- the number of a child by its place
pub numbered_at : (n : ℕ) (cs : List Child) (i : ℕ) (d : Child) → i < length cs → AreNumbered n cs → (get_or cs i d).0 ≡ n + i
numbered_at n [] i d h a = absurd (omega (arith, h))
numbered_at n (c ∷ cs) zero d h a = omega (arith, a.0)
numbered_at n (c ∷ cs) (suc i) d h a = omega (arith, numbered_at (n + 1) cs i d (omega (arith, h)) a.1)

-- the words of the starts, one more
pub starts_next : (old mid new all : List Words) (i : ℕ) (w : Words) → i < length all → w ≡ get_or all i w → mid ≡ old ++ take i all → new ≡ mid ++ w ∷ [] → new ≡ old ++ take (i + 1) all
starts_next old mid new all i w h is before e =
    e ∙ ap (λ l. l ++ w ∷ []) before ∙ append_assoc old (take i all) (w ∷ []) ∙ ap (λ x. old ++ (take i all ++ x ∷ [])) is ∙ ap (λ l. old ++ l) (sym (take_more all i w h))
