-- The families of a ledger, host by host, are in order, and are those that were injected.
use Rattle.std.proofs.Common.{◌≡◌, ◌≢◌, ◌⊎◌, inl, inr, ◌↔◌, ℕ, suc, ◌≤◌, Bool, true, false, cond, ◌||◌, List, [], ◌∷◌, ◌++◌, Option, Some, None, IsTrue, refl, sym, ap, subst, ◌∙◌, arith, append-nil, true≢false}
use Rattle.std.specs.Prelude.{◌==◌}
use Rattle.std.specs.List.{filter, list_any, AllByRecursion}
use Rattle.std.proofs.lemmas.Bool.{eqb-true, eqb-false, eq-eqb, ne_eqb, ltb-true, lt-ltb}
use Rattle.std.proofs.lemmas.List.Elements.{filter-append}
use Rattle.plan_base.specs.declared.ids.Host.{Host}
use Rattle.plan_base.specs.declared.ids.Family.{Family}
use Rattle.service_api.specs.Adverts.{is_above}
use Rattle.dv_routing.specs.Routing.{is_among}
use Rattle.dv_routing.specs.Sorted.{sorted_into, HostsAscend, HostsDiffer}
use Rattle.dv_routing.proofs.Sorting.{sorted_same, sorted_ascends}
use Rattle.ledger_audit.specs.Runs.{acts_in}
use Rattle.ledger_audit.specs.Audits.{Logged}
use Rattle.ledger_audit.specs.Pasts.{injected_families}
use Rattle.ledger_audit.specs.Ledgers.{all_acts, hosts_of, is_from, by_hosts, families_of}
use Rattle.ledger_audit.specs.Order.{IsBefore, InOrder, IsIn}
use Rattle.ledger_audit.proofs.Injecting.{append_is, Rising, log_rises}

-- ---- lists

all_both : (P : Family → Type 0) (xs ys : List Family) → AllByRecursion P xs → AllByRecursion P ys → AllByRecursion P (xs ++ ys)
all_both P [] ys a b = b
all_both P (x ∷ xs) ys a b = (a.0, all_both P xs ys a.1 b)

all_weaker : (P Q : Family → Type 0) → ((f : Family) → P f → Q f) → (xs : List Family) → AllByRecursion P xs → AllByRecursion Q xs
all_weaker P Q w [] a = tt
all_weaker P Q w (x ∷ xs) a = (w x a.0, all_weaker P Q w xs a.1)

order_both : (xs ys : List Family) → InOrder xs → InOrder ys → AllByRecursion (λ x. AllByRecursion (IsBefore x) ys) xs → InOrder (xs ++ ys)
order_both [] ys a b h = b
order_both (x ∷ xs) ys a b h = (all_both (IsBefore x) xs ys a.0 h.0, order_both xs ys a.1 b h.1)

-- ---- one log

abbrev From : Host → ℕ → Family → Type 0
From h n f = (f.source ≡ h) × (n ≤ f.serial)

rising_all : (h : Host) (n : ℕ) (fs : List Family) → Rising h n fs → AllByRecursion (From h n) fs
rising_all h n [] r = tt
rising_all h n (f ∷ fs) r = ((r.0, r.1.0), all_weaker (From h (suc f.serial)) (From h n) (λ g k. (k.0, omega (arith, k.1, r.1.0))) fs (rising_all h (suc f.serial) fs r.1.1))

rising_order : (h : Host) (n : ℕ) (fs : List Family) → Rising h n fs → InOrder fs
rising_order h n [] r = tt
rising_order h n (f ∷ fs) r =
    (all_weaker (From h (suc f.serial)) (IsBefore f) (λ g k. inr (ap (λ x. x.0) (r.0 ∙ sym k.0), omega (arith, k.1))) fs (rising_all h (suc f.serial) fs r.1.1), rising_order h (suc f.serial) fs r.1.1)

-- those of a host are all from it, and none from another
own_part : (h : Host) (n : ℕ) (fs : List Family) → Rising h n fs → (g : Host) → h.0 ≡ g.0 → filter (is_from g) fs ≡ fs
own_part h n [] r g e = refl
own_part h n (f ∷ fs) r g e =
    ap (λ b. cond b (f ∷ filter (is_from g) fs) (filter (is_from g) fs)) (eq-eqb f.source.0 g.0 (ap (λ x. x.0) r.0 ∙ e))
    ∙ ap (λ l. f ∷ l) (own_part h (suc f.serial) fs r.1.1 g e)

other_part : (h : Host) (n : ℕ) (fs : List Family) → Rising h n fs → (g : Host) → h.0 ≢ g.0 → filter (is_from g) fs ≡ []
other_part h n [] r g e = refl
other_part h n (f ∷ fs) r g e =
    ap (λ b. cond b (f ∷ filter (is_from g) fs) (filter (is_from g) fs)) (ne_eqb f.source.0 g.0 (λ q. e (sym (ap (λ x. x.0) r.0) ∙ q)))
    ∙ other_part h (suc f.serial) fs r.1.1 g e

-- ---- all logs

abbrev families_in : List Logged → List Family
families_in ls = injected_families (all_acts ls)

abbrev of_log : Logged → List Family
of_log l = injected_families (acts_in l.node l.entries)

families_cons : (l : Logged) (ls : List Logged) → families_in (l ∷ ls) ≡ of_log l ++ families_in ls
families_cons l ls = append_is (acts_in l.node l.entries) (all_acts ls)

no_families : families_in [] ≡ []
unfolding injected_families
no_families = refl

rises : (l : Logged) → Rising l.node.here l.node.serial (of_log l)
rises l = log_rises l.node l.entries

-- the part of a host, in the families of a log and others
part_cons : (g : Host) (l : Logged) (ls : List Logged) → filter (is_from g) (families_in (l ∷ ls)) ≡ filter (is_from g) (of_log l) ++ filter (is_from g) (families_in ls)
part_cons g l ls = ap (filter (is_from g)) (families_cons l ls) ∙ filter-append (is_from g) (of_log l) (families_in ls)

either_false : (a b : Bool) → (a || b) ≡ false → (a ≡ false) × (b ≡ false)
either_false true b e = absurd (true≢false e)
either_false false b e = (refl, e)

-- a host of no log has no family
strange_part : (g : Host) (ls : List Logged) → is_among (hosts_of ls) g ≡ false → filter (is_from g) (families_in ls) ≡ []
strange_part g [] e = ap (filter (is_from g)) no_families
strange_part g (l ∷ ls) e =
    let t = either_false (l.node.here.0 == g.0) (is_among (hosts_of ls) g) e in
    part_cons g l ls ∙ (λ i. other_part l.node.here l.node.serial (of_log l) (rises l) g (eqb-false l.node.here.0 g.0 t.0) i ++ strange_part g ls t.1 i)

among_same : (hs : List Host) (a b : Host) → a.0 ≡ b.0 → is_among hs a ≡ is_among hs b
among_same hs a b e = ap (λ n. list_any (λ h. h.0 == n) hs) e

part_order : (g : Host) (ls : List Logged) → HostsDiffer (hosts_of ls) → InOrder (filter (is_from g) (families_in ls))
part_order g [] d = subst InOrder (sym (ap (filter (is_from g)) no_families)) tt
part_order g (l ∷ ls) d = subst InOrder (sym (part_cons g l ls)) (by (part_order g ls d.1) (l.node.here.0 == g.0) refl)
  where
    by : InOrder (filter (is_from g) (families_in ls)) → (t : Bool) → (l.node.here.0 == g.0) ≡ t → InOrder (filter (is_from g) (of_log l) ++ filter (is_from g) (families_in ls))
    by rest true t =
        let same : l.node.here.0 ≡ g.0 = eqb-true l.node.here.0 g.0 t in
        let own = own_part l.node.here l.node.serial (of_log l) (rises l) g same in
        let none = strange_part g ls (among_same (hosts_of ls) g l.node.here (sym same) ∙ d.0) in
        subst InOrder (sym ((λ i. own i ++ none i) ∙ append-nil (of_log l))) (rising_order l.node.here l.node.serial (of_log l) (rises l))
    by rest false t =
        let none = other_part l.node.here l.node.serial (of_log l) (rises l) g (eqb-false l.node.here.0 g.0 t) in
        subst InOrder (sym (ap (λ x. x ++ filter (is_from g) (families_in ls)) none)) rest

-- ---- host by host

part_from : (g : Host) (fs : List Family) → AllByRecursion (λ f. f.source.0 ≡ g.0) (filter (is_from g) fs)
part_from g [] = tt
part_from g (f ∷ fs) = by (part_from g fs) (f.source.0 == g.0) refl
  where
    by : AllByRecursion (λ x. x.source.0 ≡ g.0) (filter (is_from g) fs) → (t : Bool) → (f.source.0 == g.0) ≡ t → AllByRecursion (λ x. x.source.0 ≡ g.0) (cond t (f ∷ filter (is_from g) fs) (filter (is_from g) fs))
    by rest true t = (eqb-true f.source.0 g.0 t, rest)
    by rest false t = rest

abbrev Above : Option ℕ → Family → Type 0
Above before f = IsTrue (is_above before f.source.0)

above_so : (before : Option ℕ) (h : ℕ) (f : Family) → IsTrue (is_above before h) → h ≤ f.source.0 → Above before f
above_so None h f a l = a
above_so (Some b) h f a l = lt-ltb b f.source.0 (omega (arith, ltb-true b h a, l))

record Ordered (before : Option ℕ) (fs : List Family) : Type 0 where
  order : InOrder fs
  above : AllByRecursion (Above before) fs

parts_order : (before : Option ℕ) (hosts : List Host) (fs : List Family) → ((g : Host) → InOrder (filter (is_from g) fs)) → HostsAscend before hosts → Ordered before (by_hosts hosts fs)
parts_order before [] fs k a = record { order = tt; above = tt }
parts_order before (h ∷ hosts) fs k a =
    let rest = parts_order (Some h.0) hosts fs k a.1 in
    record {
      order = order_both (filter (is_from h) fs) (by_hosts hosts fs) (k h) rest.order
          (all_weaker (λ f. f.source.0 ≡ h.0) (λ f. AllByRecursion (IsBefore f) (by_hosts hosts fs))
          (λ f e. all_weaker (Above (Some h.0)) (IsBefore f) (λ g b. inl (omega (arith, e, ltb-true h.0 g.source.0 b))) (by_hosts hosts fs) rest.above)
          (filter (is_from h) fs) (part_from h fs));
      above = all_both (Above before) (filter (is_from h) fs) (by_hosts hosts fs)
          (all_weaker (λ f. f.source.0 ≡ h.0) (Above before) (λ f e. above_so before h.0 f a.0 (omega (arith, e))) (filter (is_from h) fs) (part_from h fs))
          (all_weaker (Above (Some h.0)) (Above before) (λ f b. above_so before h.0 f a.0 (omega (arith, ltb-true h.0 f.source.0 b))) (by_hosts hosts fs) rest.above);
    }

pub in_order : (ls : List Logged) → HostsDiffer (hosts_of ls) → InOrder (families_of ls)
unfolding families_of
in_order ls d = (parts_order None (sorted_into [] (hosts_of ls)) (families_in ls) (λ g. part_order g ls d) (sorted_ascends (hosts_of ls) d)).order

-- ---- all of them

in_left : (f : Family) (xs ys : List Family) → IsIn f xs → IsIn f (xs ++ ys)
in_left f [] ys i = absurd i
in_left f (x ∷ xs) ys i = elim i [ inl e ↦ inl e | inr j ↦ inr (in_left f xs ys j) ]

in_right : (f : Family) (xs ys : List Family) → IsIn f ys → IsIn f (xs ++ ys)
in_right f [] ys i = i
in_right f (x ∷ xs) ys i = inr (in_right f xs ys i)

in_either : (f : Family) (xs ys : List Family) → IsIn f (xs ++ ys) → IsIn f xs ⊎ IsIn f ys
in_either f [] ys i = inr i
in_either f (x ∷ xs) ys i = elim i [ inl e ↦ inl (inl e) | inr j ↦ elim (in_either f xs ys j) [ inl a ↦ inl (inr a) | inr b ↦ inr b ] ]

in_part : (f : Family) (g : Host) (fs : List Family) → f.source.0 ≡ g.0 → IsIn f fs → IsIn f (filter (is_from g) fs)
in_part f g [] e i = i
in_part f g (x ∷ fs) e i = by (λ j. in_part f g fs e j) (x.source.0 == g.0) refl
  where
    by : (IsIn f fs → IsIn f (filter (is_from g) fs)) → (t : Bool) → (x.source.0 == g.0) ≡ t → IsIn f (cond t (x ∷ filter (is_from g) fs) (filter (is_from g) fs))
    by rest true t = elim i [ inl same ↦ inl same | inr j ↦ inr (rest j) ]
    by rest false t = elim i [ inl same ↦ absurd (eqb-false x.source.0 g.0 t (ap (λ y. y.source.0) (sym same) ∙ e)) | inr j ↦ rest j ]

of_part : (f : Family) (g : Host) (fs : List Family) → IsIn f (filter (is_from g) fs) → IsIn f fs
of_part f g [] i = i
of_part f g (x ∷ fs) i = by (λ j. of_part f g fs j) (is_from g x) i
  where
    by : (IsIn f (filter (is_from g) fs) → IsIn f fs) → (t : Bool) → IsIn f (cond t (x ∷ filter (is_from g) fs) (filter (is_from g) fs)) → IsIn f (x ∷ fs)
    by rest true j = elim j [ inl e ↦ inl e | inr k ↦ inr (rest k) ]
    by rest false j = inr (rest j)

of_hosts : (f : Family) (hosts : List Host) (fs : List Family) → IsIn f (by_hosts hosts fs) → IsIn f fs
of_hosts f [] fs i = absurd i
of_hosts f (h ∷ hosts) fs i = elim (in_either f (filter (is_from h) fs) (by_hosts hosts fs) i) [ inl a ↦ of_part f h fs a | inr b ↦ of_hosts f hosts fs b ]

in_hosts : (f : Family) (hosts : List Host) (fs : List Family) → is_among hosts f.source ≡ true → IsIn f fs → IsIn f (by_hosts hosts fs)
in_hosts f [] fs a i = absurd (true≢false (sym a))
in_hosts f (h ∷ hosts) fs a i = by (λ b. in_hosts f hosts fs b i) (h.0 == f.source.0) refl a
  where
    by : (is_among hosts f.source ≡ true → IsIn f (by_hosts hosts fs)) → (t : Bool) → (h.0 == f.source.0) ≡ t → (t || is_among hosts f.source) ≡ true → IsIn f (filter (is_from h) fs ++ by_hosts hosts fs)
    by rest true t b = in_left f (filter (is_from h) fs) (by_hosts hosts fs) (in_part f h fs (sym (eqb-true h.0 f.source.0 t)) i)
    by rest false t b = in_right f (filter (is_from h) fs) (by_hosts hosts fs) (rest b)

source_is : (f : Family) (h : Host) (n : ℕ) (fs : List Family) → Rising h n fs → IsIn f fs → f.source ≡ h
source_is f h n [] r i = absurd i
source_is f h n (x ∷ fs) r i = elim i [ inl e ↦ ap (λ y. y.source) e ∙ r.0 | inr j ↦ source_is f h (suc x.serial) fs r.1.1 j ]

-- a family that is injected is of the host of a log
source_is_known : (f : Family) (ls : List Logged) → IsIn f (families_in ls) → is_among (hosts_of ls) f.source ≡ true
source_is_known f [] i = absurd (subst (IsIn f) no_families i)
source_is_known f (l ∷ ls) i = by (λ b. source_is_known f ls b) (in_either f (of_log l) (families_in ls) (subst (IsIn f) (families_cons l ls) i))
  where
    or_true : (a c : Bool) → c ≡ true → (a || c) ≡ true
    or_true true c e = refl
    or_true false c e = e

    by : (IsIn f (families_in ls) → is_among (hosts_of ls) f.source ≡ true) → IsIn f (of_log l) ⊎ IsIn f (families_in ls) → ((l.node.here.0 == f.source.0) || is_among (hosts_of ls) f.source) ≡ true
    by rest (inl a) = ap (λ t. t || is_among (hosts_of ls) f.source) (eq-eqb l.node.here.0 f.source.0 (ap (λ h. h.0) (sym (source_is f l.node.here l.node.serial (of_log l) (rises l) a))))
    by rest (inr b) = or_true (l.node.here.0 == f.source.0) (is_among (hosts_of ls) f.source) (rest b)

pub same_families : (ls : List Logged) (f : Family) → IsIn f (families_of ls) ↔ IsIn f (injected_families (all_acts ls))
unfolding families_of
same_families ls f = (
  λ i. of_hosts f (sorted_into [] (hosts_of ls)) (families_in ls) i,
  λ i. in_hosts f (sorted_into [] (hosts_of ls)) (families_in ls) (sorted_same (hosts_of ls) f.source ∙ source_is_known f ls i) i,
)
