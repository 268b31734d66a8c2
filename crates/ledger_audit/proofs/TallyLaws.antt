-- How the counts of crossings change with their keys.
use Rattle.std.proofs.Common.{◌≡◌, ℕ, suc, ◌+◌, Bool, true, false, cond, ◌&&◌, if◌then◌else◌, List, [], ◌∷◌, ◌++◌, Option, Some, None, refl, sym, ap, ◌∙◌, arith}
use Rattle.std.specs.Prelude.{min, unwrap_or}
use Rattle.std.specs.Str.{bytes_eq}
use Rattle.std.specs.Map.{lookup, KeepsOthers}
use Rattle.ledger_audit.specs.Crossings.{Crossing, same_end, same_crossing, times}
use Rattle.ledger_audit.proofs.Multisets.{crossing_is}
use Rattle.ledger_audit.specs.declared.keys.EndKey.{EndKey}
use Rattle.ledger_audit.specs.declared.keys.CrossingKey.{CrossingKey}
use Rattle.ledger_audit.specs.declared.tally.SendCount.{SendCount}
use Rattle.ledger_audit.specs.declared.tally.Tallies.{Tallies}
use Rattle.ledger_audit.specs.Keys.{end_of, crossing_of}
use Rattle.ledger_audit.specs.Tallies.{none, one_sent, one_accepted, tally_of, tally_in, Changes, Tallied}
use Rattle.ledger_audit.specs.contracts.keys.CrossingKeyPartialEq.TheImpl as key_eq
use Rattle.ledger_audit.proofs.LookUps.{own_test, found_after}

abbrev Entries : Type 0
Entries = List (CrossingKey × SendCount)

-- the equality of keys, which is that of their crossings
abbrev pub same_key : CrossingKey → CrossingKey → Bool
same_key = (key_eq.ghosts).eq

key_test : (a b : CrossingKey) → same_key a b ≡ same_crossing (crossing_of a) (crossing_of b)
unfolding same_crossing
key_test a b = by a.from b.from
  where
    by : (x y : Option EndKey) → same_key (record { from = x; bytes = a.bytes }) (record { from = y; bytes = b.bytes }) ≡ (same_end (end_of x) (end_of y) && bytes_eq a.bytes.items b.bytes.items)
    by None None = refl
    by None (Some y) = refl
    by (Some x) None = refl
    by (Some x) (Some y) = refl

-- what a look-up by the key finds
pub own_tally : (key : CrossingKey) (es : Entries) (o : Option SendCount) → o ≡ lookup (same_key key) es → unwrap_or o none ≡ tally_of (crossing_of key) es
unfolding tally_of
own_tally key es o h = ap (λ p. unwrap_or p none) (h ∙ ap (λ f. lookup f es) (own_test crossing_of same_crossing crossing_is same_key key_test key))

-- what is found once a key has a new value
pub set_changes : (key : CrossingKey) (w : SendCount) (old new : Entries) (c : Crossing) → lookup (same_key key) new ≡ Some w → KeepsOthers same_key (same_key key) old new
    → tally_of c new ≡ (if same_crossing c (crossing_of key) then w else tally_of c old)
unfolding tally_of
set_changes key w old new c here others =
    ap (λ o. unwrap_or o none) (found_after crossing_of same_crossing crossing_is same_key key_test key w old new c here others)
    ∙ by (same_crossing c (crossing_of key)) (lookup (λ k. same_crossing c (crossing_of k)) old)
  where
    by : (b : Bool) (o : Option SendCount) → unwrap_or (cond b (Some w) o) none ≡ (if b then w else unwrap_or o none)
    by true o = refl
    by false o = refl

-- a new value that is made of the old one
pub set_moves : (move : SendCount → SendCount) (x : Crossing) (w : SendCount) (old new : Tallies) → Changes (λ t. w) x old new → w ≡ move (tally_in x old) → Changes move x old new
set_moves move x w old new h e c = h c ∙ by (same_crossing c x) refl
  where
    by : (b : Bool) → same_crossing c x ≡ b → (if b then w else tally_in c old) ≡ (if b then move (tally_in c old) else tally_in c old)
    by true t = e ∙ ap (λ d. move (tally_in d old)) (sym (crossing_is c x t))
    by false t = refl

-- ---- counts of lists

times_push : (c d : Crossing) (xs : List Crossing) → times c (xs ++ d ∷ []) ≡ (if same_crossing c d then suc (times c xs) else times c xs)
times_push c d [] = refl
times_push c d (x ∷ xs) = ap (λ n. if same_crossing c x then suc n else n) (times_push c d xs) ∙ by (same_crossing c x) (same_crossing c d) (times c xs)
  where
    by : (a b : Bool) (n : ℕ) → (if a then suc (if b then suc n else n) else (if b then suc n else n)) ≡ (if b then suc (if a then suc n else n) else (if a then suc n else n))
    by true true n = refl
    by true false n = refl
    by false true n = refl
    by false false n = refl

abbrev tally : ℕ → ℕ → SendCount
tally m n = record { sent = min m 4294967295; accepted = min n 4294967295 }

one_more : (n : ℕ) → min (min n 4294967295 + 1) 4294967295 ≡ min (suc n) 4294967295
one_more n = omega arith

pub tallied_sent : (sent : List Crossing) (d : Crossing) (old new : Tallies) → Tallied sent [] old → Changes one_sent d old new → Tallied (sent ++ d ∷ []) [] new
tallied_sent sent d old new h k c =
    k c ∙ ap (λ t. if same_crossing c d then one_sent t else t) (h c) ∙ by (same_crossing c d) (times c sent)
    ∙ ap (λ n. tally n 0) (sym (times_push c d sent))
  where
    by : (b : Bool) (n : ℕ) → (if b then one_sent (tally n 0) else tally n 0) ≡ tally (if b then suc n else n) 0
    by true n = λ i. record { sent = one_more n i; accepted = min 0 4294967295 }
    by false n = refl

pub tallied_seen : (sent seen : List Crossing) (d : Crossing) (old new : Tallies) → Tallied sent seen old → Changes one_accepted d old new → Tallied sent (d ∷ seen) new
tallied_seen sent seen d old new h k c =
    k c ∙ ap (λ t. if same_crossing c d then one_accepted t else t) (h c) ∙ by (same_crossing c d) (times c sent) (times c seen)
  where
    by : (b : Bool) (m n : ℕ) → (if b then one_accepted (tally m n) else tally m n) ≡ tally m (if b then suc n else n)
    by true m n = λ i. record { sent = min m 4294967295; accepted = one_more n i }
    by false m n = refl

-- nothing is counted at first
pub none_tallied : (t : Tallies) → ((c : Crossing) → tally_in c t ≡ none) → Tallied [] [] t
none_tallied t h c = h c
