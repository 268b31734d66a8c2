-- Lists of crossings by how often each stands in them.
use Rattle.std.proofs.Common.{◌≡◌, ℕ, suc, ◌+◌, ◌≤◌, Bool, true, false, ◌&&◌, if◌then◌else◌, List, [], ◌∷◌, Option, Some, None, refl, sym, ap, ◌∙◌, arith, true≢false}
use Rattle.std.specs.Prelude.{nat_lt, ◌==◌, sum_by}
use Rattle.std.specs.Str.{bytes_eq}
use Rattle.std.proofs.lemmas.Slice.Eq.{bytes_eq-Decides}
use Rattle.std.proofs.lemmas.Bool.{eqb-true}
use Rattle.std.proofs.lemmas.List.Sums.{sum_by-cons}
use Rattle.std.proofs.lemmas.Bool.Decides.{nat_tests}
use Rattle.containers.proofs.Bools.{both_true}
use Rattle.net_world_spec.specs.declared.lines.LinkEnd.{LinkEnd}
use Rattle.ledger_audit.specs.Crossings.{Crossing, same_end, same_crossing, times, Arrival, first_over, crossings, AtMost, less_one, less_each}

-- ---- the test

end_is : (a b : Option LinkEnd) → same_end a b ≡ true → a ≡ b
end_is None None e = refl
end_is None (Some b) e = absurd (true≢false (sym e))
end_is (Some a) None e = absurd (true≢false (sym e))
end_is (Some a) (Some b) e =
    let t = both_true (a.host.0 == b.host.0) (a.dev.0 == b.dev.0) e in
    let h : a.host.0 ≡ b.host.0 = omega (arith, eqb-true a.host.0 b.host.0 t.0) in
    let d : a.dev.0 ≡ b.dev.0 = omega (arith, eqb-true a.dev.0 b.dev.0 t.1) in
    λ i. Some (record { host = record { 0 = h i }; dev = record { 0 = d i } })

end_self : (a : Option LinkEnd) → same_end a a ≡ true
end_self None = refl
end_self (Some a) = grind (arith, nat_tests)

pub crossing_is : (a b : Crossing) → same_crossing a b ≡ true → a ≡ b
unfolding same_crossing
crossing_is a b e =
    let t = both_true (same_end a.from b.from) (bytes_eq a.bytes b.bytes) e in
    let f = end_is a.from b.from t.0 in
    let s = (bytes_eq-Decides a.bytes b.bytes).0 t.1 in
    λ i. record { from = f i; bytes = s i }

pub crossing_self : (a : Crossing) → same_crossing a a ≡ true
unfolding same_crossing
crossing_self a = λ i. end_self a.from i && (bytes_eq-Decides a.bytes a.bytes).1 refl i

pub times_same : (c d : Crossing) (xs : List Crossing) → same_crossing c d ≡ true → times c xs ≡ times d xs
times_same c d xs e = ap (λ x. times x xs) (crossing_is c d e)

-- ---- one crossing less

pub less_times : (a c : Crossing) (xs : List Crossing) → 1 ≤ times a xs → times c xs ≡ times c (less_one a xs) + (if same_crossing c a then 1 else 0)
less_times a c [] h = absurd (omega arith)
less_times a c (x ∷ xs) h = by (same_crossing a x) refl (less_times a c xs) h
  where
    by : (t : Bool) → same_crossing a x ≡ t → (1 ≤ times a xs → times c xs ≡ times c (less_one a xs) + (if same_crossing c a then 1 else 0)) → 1 ≤ (if t then suc (times a xs) else times a xs)
        → times c (x ∷ xs) ≡ times c (if t then xs else x ∷ less_one a xs) + (if same_crossing c a then 1 else 0)
    by true e r g = ap (λ y. if same_crossing c y then suc (times c xs) else times c xs) (sym (crossing_is a x e)) ∙ one (same_crossing c a)
      where
        one : (t : Bool) → (if t then suc (times c xs) else times c xs) ≡ times c xs + (if t then 1 else 0)
        one true = omega arith
        one false = omega arith
    by false e r g = two (same_crossing c x) (r g)
      where
        two : (t : Bool) → times c xs ≡ times c (less_one a xs) + (if same_crossing c a then 1 else 0)
            → (if t then suc (times c xs) else times c xs) ≡ (if t then suc (times c (less_one a xs)) else times c (less_one a xs)) + (if same_crossing c a then 1 else 0)
        two true q = omega (arith, q)
        two false q = q

pub less_sum : (w : Crossing → ℕ) (a : Crossing) (xs : List Crossing) → 1 ≤ times a xs → sum_by w xs ≡ w a + sum_by w (less_one a xs)
less_sum w a [] h = absurd (omega arith)
less_sum w a (x ∷ xs) h = by (same_crossing a x) refl (less_sum w a xs) h
  where
    by : (t : Bool) → same_crossing a x ≡ t → (1 ≤ times a xs → sum_by w xs ≡ w a + sum_by w (less_one a xs)) → 1 ≤ (if t then suc (times a xs) else times a xs) → sum_by w (x ∷ xs) ≡ w a + sum_by w (if t then xs else x ∷ less_one a xs)
    by true e r g = sum_by-cons w x xs ∙ ap (λ y. w y + sum_by w xs) (sym (crossing_is a x e))
    by false e r g = omega (arith, sum_by-cons w x xs, sum_by-cons w x (less_one a xs), r g)

-- ---- all of them

own_once : (a : Crossing) (xs : List Crossing) → 1 ≤ times a (a ∷ xs)
own_once a xs = let t : times a (a ∷ xs) ≡ suc (times a xs) = ap (λ b. if b then suc (times a xs) else times a xs) (crossing_self a) in omega (arith, t)

times_cons : (c x : Crossing) (xs : List Crossing) → times c (x ∷ xs) ≡ times c xs + (if same_crossing c x then 1 else 0)
times_cons c x xs = by (same_crossing c x)
  where
    by : (t : Bool) → (if t then suc (times c xs) else times c xs) ≡ times c xs + (if t then 1 else 0)
    by true = omega arith
    by false = omega arith

at_most_less : (x : Crossing) (xs ys : List Crossing) → AtMost (x ∷ xs) ys → AtMost xs (less_one x ys)
at_most_less x xs ys h c =
    let o : 1 ≤ times x ys = omega (arith, own_once x xs, h x) in
    omega (arith, h c, times_cons c x xs, less_times x c ys o)

-- what is in a list is what is in a part of it, and what remains
pub parted_sum : (w : Crossing → ℕ) (xs ys : List Crossing) → AtMost xs ys → sum_by w ys ≡ sum_by w xs + sum_by w (less_each xs ys)
parted_sum w [] ys h = omega arith
parted_sum w (x ∷ xs) ys h =
    let o : 1 ≤ times x ys = omega (arith, own_once x xs, h x) in
    omega (arith, less_sum w x ys o, parted_sum w xs (less_one x ys) (at_most_less x xs ys h), sum_by-cons w x xs)

-- ---- the verdict

pub verdict_only : (sent seen : List Crossing) (zs : List Arrival) → first_over sent seen zs ≡ None → AtMost seen sent → (c : Crossing) → times c seen + times c (crossings zs) ≤ times c sent
verdict_only sent seen [] e h c = omega (arith, h c)
verdict_only sent seen (a ∷ zs) e h c = by (nat_lt (times a.crossing sent) (suc (times a.crossing seen))) refl (λ f g. verdict_only sent (a.crossing ∷ seen) zs f g c) e
  where
    by : (t : Bool) → nat_lt (times a.crossing sent) (suc (times a.crossing seen)) ≡ t → (first_over sent (a.crossing ∷ seen) zs ≡ None → AtMost (a.crossing ∷ seen) sent → times c (a.crossing ∷ seen) + times c (crossings zs) ≤ times c sent)
        → (if t then Some (record { log = a.log; event = a.event; accepted = suc (times a.crossing seen); sent = times a.crossing sent }) else first_over sent (a.crossing ∷ seen) zs)
        ≡ None → times c seen + times c (a.crossing ∷ crossings zs) ≤ times c sent
    by true q r f = absurd cc
    by false q r f =
        let l : suc (times a.crossing seen) ≤ times a.crossing sent = grind (arith, nat_tests) in
        omega (arith, r f (λ d. more d l), times_cons c a.crossing seen, times_cons c a.crossing (crossings zs))
      where
        more : (d : Crossing) → suc (times a.crossing seen) ≤ times a.crossing sent → times d (a.crossing ∷ seen) ≤ times d sent
        more d l = two (same_crossing d a.crossing) refl
          where
            two : (t : Bool) → same_crossing d a.crossing ≡ t → (if t then suc (times d seen) else times d seen) ≤ times d sent
            two true s = omega (arith, l, times_same d a.crossing seen s, times_same d a.crossing sent s)
            two false s = h d

pub verdict_always : (sent seen : List Crossing) (zs : List Arrival) → ((c : Crossing) → times c seen + times c (crossings zs) ≤ times c sent) → first_over sent seen zs ≡ None
verdict_always sent seen [] h = refl
verdict_always sent seen (a ∷ zs) h =
    let t : nat_lt (times a.crossing sent) (suc (times a.crossing seen)) ≡ false = fits in
    ap (λ b. if b then Some (record { log = a.log; event = a.event; accepted = suc (times a.crossing seen); sent = times a.crossing sent }) else first_over sent (a.crossing ∷ seen) zs) t
    ∙ verdict_always sent (a.crossing ∷ seen) zs (λ c. omega (arith, h c, times_cons c a.crossing seen, times_cons c a.crossing (crossings zs)))
  where
    fits : nat_lt (times a.crossing sent) (suc (times a.crossing seen)) ≡ false
    fits = let o = own_once a.crossing (crossings zs) in let l = h a.crossing in grind (arith, nat_tests)
