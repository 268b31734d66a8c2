-- What acts count for families, and how the counts of families change with their keys.
use Rattle.std.proofs.Common.{◌≡◌, ℕ, ◌+◌, Bool, true, false, cond, if◌then◌else◌, List, [], ◌∷◌, ◌++◌, Option, Some, None, refl, sym, ap, ◌∙◌, arith}
use Rattle.std.specs.Prelude.{◌≤◌, min, unwrap_or, ◌==◌}
use Rattle.std.specs.Map.{lookup, KeepsOthers}
use Rattle.std.proofs.lemmas.List.Sums.{sum_by-cons}
use Rattle.std.proofs.lemmas.Bool.{eqb-true}
use Rattle.containers.proofs.Bools.{both_true}
use Rattle.plan_base.specs.declared.ids.Family.{Family}
use Rattle.node_core_spec.specs.declared.acts.Act.{Act}
use Rattle.node_core_spec.specs.declared.acts.Act.TheVariants.{Injected, Arrived, Asked, Noted, Ended, Handled, Queued, Dropped, Bad, Misplaced, AdvertQueued, AdvertDropped, AdvertSpent, Stale, Heard, Ticked, Taken, SerialsSpent, NoMemory}
use Rattle.node_core_spec.specs.Counts.{is_family, only, act_sum, act_granted, act_hops, act_evals, act_left}
use Rattle.node_core_spec.proofs.CountLaws.{act_sum-append}
use Rattle.ledger_audit.specs.declared.keys.FamilyKey.{FamilyKey}
use Rattle.ledger_audit.specs.declared.book.Counts.{Counts}
use Rattle.ledger_audit.specs.declared.book.FamilyTotals.{FamilyTotals}
use Rattle.ledger_audit.specs.Keys.{family_of}
use Rattle.ledger_audit.specs.Books.{none, plus, capped, counts_of, counts_in, IsSet, Adds, act_row, with_row, act_counts, acts_counts}
use Rattle.ledger_audit.specs.Ledgers.{Pays}
use Rattle.ledger_audit.specs.contracts.keys.FamilyKeyPartialEq.TheImpl as key_eq
use Rattle.ledger_audit.proofs.LookUps.{own_test, found_after}

abbrev Entries : Type 0
Entries = List (FamilyKey × Counts)

-- ---- keys

pub family_is : (f g : Family) → is_family f g ≡ true → f ≡ g
unfolding is_family
family_is f g e =
    let t = both_true (f.source.0 == g.source.0) (f.serial == g.serial) e in
    let s : f.source.0 ≡ g.source.0 = omega (arith, eqb-true f.source.0 g.source.0 t.0) in
    let n : f.serial ≡ g.serial = omega (arith, eqb-true f.serial g.serial t.1) in
    λ i. record { source = record { 0 = s i }; serial = n i }

-- the equality of keys, which is that of their families
abbrev pub same_key : FamilyKey → FamilyKey → Bool
same_key = (key_eq.ghosts).eq

key_test : (a b : FamilyKey) → same_key a b ≡ is_family (family_of a) (family_of b)
unfolding is_family
key_test a b = refl

-- what a look-up by the key finds
pub own_counts : (f : Family) (key : FamilyKey) (es : Entries) (o : Option Counts) → family_of key ≡ f → o ≡ lookup (same_key key) es → unwrap_or o none ≡ counts_of f es
unfolding counts_of
own_counts f key es o k h =
    ap (λ p. unwrap_or p none) (h ∙ ap (λ t. lookup t es) (own_test family_of is_family family_is same_key key_test key))
    ∙ ap (λ g. unwrap_or (lookup (λ q. is_family g (family_of q)) es) none) k

-- what is found once a key has a new value
pub set_counts : (g : Family) (key : FamilyKey) (w : Counts) (old new : Entries) (f : Family) → family_of key ≡ g → lookup (same_key key) new ≡ Some w → KeepsOthers same_key (same_key key) old new
    → counts_of f new ≡ (if is_family f g then w else counts_of f old)
unfolding counts_of
set_counts g key w old new f k here others =
    ap (λ o. unwrap_or o none) (found_after family_of is_family family_is same_key key_test key w old new f here others)
    ∙ by (is_family f (family_of key)) (lookup (λ q. is_family f (family_of q)) old)
    ∙ ap (λ h. if is_family f h then w else unwrap_or (lookup (λ q. is_family f (family_of q)) old) none) k
  where
    by : (b : Bool) (o : Option Counts) → unwrap_or (cond b (Some w) o) none ≡ (if b then w else unwrap_or o none)
    by true o = refl
    by false o = refl

-- a new value that is the old one and more
pub set_adds : (g : Family) (more w : Counts) (old new : FamilyTotals) → IsSet g w old new → w ≡ plus (counts_in g old) more → Adds g more old new
set_adds g more w old new h e f = h f ∙ by (is_family f g) refl
  where
    by : (b : Bool) → is_family f g ≡ b → (if b then w else counts_in f old) ≡ (if b then plus (counts_in f old) more else counts_in f old)
    by true t = e ∙ ap (λ k. plus (counts_in k old) more) (sym (family_is f g t))
    by false t = refl

-- ---- acts

-- what a row counts for a family
abbrev share : Family → Option (Family × Counts) → Counts
share f None = none
share f (Some x) = if is_family f x.0 then x.1 else none

abbrev pub counts : ℕ → ℕ → ℕ → ℕ → Counts
counts g h e l = record { granted = g; hops = h; evals = e; left = l }

act_shares : (f : Family) (a : Act) → act_counts f a ≡ share f (act_row a)
unfolding only
act_shares f (Injected g b) = by (is_family f g)
  where
    by : (t : Bool) → counts (if t then b else 0) 0 0 0 ≡ (if t then counts b 0 0 0 else none)
    by true = refl
    by false = refl
act_shares f (Queued d g b) = by (is_family f g)
  where
    by : (t : Bool) → counts 0 (if t then 1 else 0) 0 0 ≡ (if t then counts 0 1 0 0 else none)
    by true = refl
    by false = refl
act_shares f (Ended g o e r) = by (is_family f g)
  where
    by : (t : Bool) → counts 0 0 (if t then e else 0) (if t then r else 0) ≡ (if t then counts 0 0 e r else none)
    by true = refl
    by false = refl
act_shares f (Dropped r g b) = by (is_family f g)
  where
    by : (t : Bool) → counts 0 0 0 (if t then b else 0) ≡ (if t then counts 0 0 0 b else none)
    by true = refl
    by false = refl
act_shares f (Arrived d) = refl
act_shares f Asked = refl
act_shares f (Noted n) = refl
act_shares f (Handled g n b) = refl
act_shares f (Bad e) = refl
act_shares f Misplaced = refl
act_shares f (AdvertQueued d) = refl
act_shares f (AdvertDropped d) = refl
act_shares f (AdvertSpent d) = refl
act_shares f (Stale t w) = refl
act_shares f (Heard d) = refl
act_shares f (Ticked n) = refl
act_shares f (Taken d w) = refl
act_shares f SerialsSpent = refl
act_shares f NoMemory = refl

pub act_added : (a : Act) (g : Family) (more : Counts) (old new : FamilyTotals) → Some (g, more) ≡ act_row a → Adds g more old new → (f : Family) → counts_in f new ≡ with_row f (act_row a) (counts_in f old)
act_added a g more old new e h f = h f ∙ ap (λ o. with_row f o (counts_in f old)) e

pub act_apart : (a : Act) (b : FamilyTotals) → None ≡ act_row a → (f : Family) → counts_in f b ≡ with_row f (act_row a) (counts_in f b)
act_apart a b e f = ap (λ o. with_row f o (counts_in f b)) e

-- ---- counts that stand still

-- both in sum, with no last value
abbrev pub in_sum : Counts → Counts → Counts
in_sum a b = counts (a.granted + b.granted) (a.hops + b.hops) (a.evals + b.evals) (a.left + b.left)

sum_none : (c : Counts) → c ≡ in_sum c none
sum_none c =
    let g : c.granted ≡ c.granted + 0 = omega arith in
    let h : c.hops ≡ c.hops + 0 = omega arith in
    let e : c.evals ≡ c.evals + 0 = omega arith in
    let l : c.left ≡ c.left + 0 = omega arith in
    λ i. counts (g i) (h i) (e i) (l i)

one_capped : (m n : ℕ) → min (min m 18446744073709551615 + n) 18446744073709551615 ≡ min (m + n) 18446744073709551615
one_capped m n = omega arith

plus_capped : (c d : Counts) → plus (capped c) d ≡ capped (in_sum c d)
plus_capped c d = λ i. counts (one_capped c.granted d.granted i) (one_capped c.hops d.hops i) (one_capped c.evals d.evals i) (one_capped c.left d.left i)

-- what an act adds to counts that stand still is what it adds to the sums
pub row_capped : (f : Family) (a : Act) (c : Counts) → with_row f (act_row a) (capped c) ≡ capped (in_sum c (act_counts f a))
row_capped f a c = by_row (act_row a) ∙ ap (λ d. capped (in_sum c d)) (sym (act_shares f a))
  where
    by_family : (t : Bool) (d : Counts) → (if t then plus (capped c) d else capped c) ≡ capped (in_sum c (if t then d else none))
    by_family true d = plus_capped c d
    by_family false d = ap capped (sum_none c)

    by_row : (o : Option (Family × Counts)) → with_row f o (capped c) ≡ capped (in_sum c (share f o))
    by_row None = ap capped (sum_none c)
    by_row (Some x) = by_family (is_family f x.0) x.1

-- what is granted has a place in 64 bits, so no count stood still
pub none_capped : (c : Counts) → Pays c → c.granted ≤ 18446744073709551615 → capped c ≡ c
none_capped c pays room =
    let g : min c.granted 18446744073709551615 ≡ c.granted = omega (arith, room) in
    let h : min c.hops 18446744073709551615 ≡ c.hops = omega (arith, room, pays) in
    let e : min c.evals 18446744073709551615 ≡ c.evals = omega (arith, room, pays) in
    let l : min c.left 18446744073709551615 ≡ c.left = omega (arith, room, pays) in
    λ i. counts (g i) (h i) (e i) (l i)

-- ---- acts in sum

one_sum : (c : Act → ℕ) (a : Act) → act_sum c (a ∷ []) ≡ c a
unfolding act_sum
one_sum c a = omega (arith, sum_by-cons c a [])

sum_push : (c : Act → ℕ) (acts : List Act) (a : Act) → act_sum c (acts ++ a ∷ []) ≡ act_sum c acts + c a
sum_push c acts a = act_sum-append c acts (a ∷ []) ∙ ap (λ n. act_sum c acts + n) (one_sum c a)

pub counts_push : (f : Family) (acts : List Act) (a : Act) → acts_counts f (acts ++ a ∷ []) ≡ in_sum (acts_counts f acts) (act_counts f a)
counts_push f acts a = λ i. record {
  granted = sum_push (act_granted f) acts a i;
  hops = sum_push (act_hops f) acts a i;
  evals = sum_push (act_evals f) acts a i;
  left = sum_push (act_left f) acts a i;
}

pub no_counts : (f : Family) → none ≡ capped (acts_counts f [])
unfolding act_sum
no_counts f = refl
