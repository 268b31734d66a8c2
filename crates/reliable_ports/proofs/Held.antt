-- What is held, by the tests that the code makes.
use Rattle.std.proofs.Common.{◌≡◌, ℕ, zero, suc, ◌+◌, ◌-◌, ◌≤◌, ◌<◌, Bool, true, false, ◌&&◌, if◌then◌else◌, List, [], ◌∷◌, ◌++◌, length, drop, Option, Some, None, refl, ap, arith}
use Rattle.std.specs.Prelude.{nat_lt, nat_le, slice_get, slice_index_or, pos}
use Rattle.std.specs.Slice.{IsItemAt}
use Rattle.std.specs.Option.{option_copied}
use Rattle.std.proofs.Common.{Bor}
use Rattle.std.proofs.lemmas.Bool.Decides.{nat_tests}
use Rattle.plan_meaning.specs.Meaning.{is_paid}
use Rattle.reliable_ports.specs.Ends.{Body, Sending, offered_count, held_at, is_held, IsShort, AllShort}

pub old_none : (seq : ℕ) (s : Sending) → seq ≤ s.acked → None ≡ held_at seq s
unfolding held_at
old_none seq s h = let t : nat_lt s.acked seq ≡ false = grind (arith, nat_tests) in rw t refl

pub new_some : (seq : ℕ) (s : Sending) → s.acked < seq → held_at seq s ≡ slice_get s.held (seq - suc s.acked)
unfolding held_at
new_some seq s h = let t : nat_lt s.acked seq ≡ true = grind (arith, nat_tests) in rw t refl

pub short_at : (bs : List Body) (i : ℕ) (b : Body) → AllShort bs → slice_get bs i ≡ Some b → IsShort b
short_at [] i b h e = absurd cc
short_at (c ∷ bs) zero b h e = let s : c ≡ b = cc in omega (arith, h.0, ap length s)
short_at (c ∷ bs) (suc i) b h e = short_at bs i b h.1 e

none_past : (bs : List Body) (i : ℕ) → slice_get bs i ≡ None → length bs ≤ i
none_past [] i e = omega arith
none_past (c ∷ bs) zero e = absurd cc
none_past (c ∷ bs) (suc i) e = omega (arith, none_past bs i e)

some_within : (bs : List Body) (i : ℕ) (b : Body) → slice_get bs i ≡ Some b → i < length bs
some_within [] i b e = absurd cc
some_within (c ∷ bs) zero b e = omega arith
some_within (c ∷ bs) (suc i) b e = omega (arith, some_within bs i b e)

-- held exactly where a body is found
pub none_not_held : (seq : ℕ) (s : Sending) → held_at seq s ≡ None → is_held seq s ≡ false
unfolding held_at is_held
none_not_held seq s e = by (nat_lt s.acked seq) refl e
  where
    by : (t : Bool) → nat_lt s.acked seq ≡ t → (if t then slice_get s.held (seq - suc s.acked) else None) ≡ None → (t && nat_le seq (offered_count s)) ≡ false
    by false k e = refl
    by true k e =
        let l : s.acked < seq = grind (arith, nat_tests) in
        let m = none_past s.held (seq - suc s.acked) e in
        let n : offered_count s < seq = omega (arith, l, m) in
        grind (arith, nat_tests)

pub some_held : (seq : ℕ) (s : Sending) (b : Body) → held_at seq s ≡ Some b → is_held seq s ≡ true
unfolding held_at is_held
some_held seq s b e = by (nat_lt s.acked seq) refl e
  where
    by : (t : Bool) → nat_lt s.acked seq ≡ t → (if t then slice_get s.held (seq - suc s.acked) else None) ≡ Some b → (t && nat_le seq (offered_count s)) ≡ true
    by false k e = absurd cc
    by true k e =
        let l : s.acked < seq = grind (arith, nat_tests) in
        let m = some_within s.held (seq - suc s.acked) b e in
        let n : seq ≤ offered_count s = omega (arith, l, m) in
        grind (arith, nat_tests)

pub held_short : (seq : ℕ) (s : Sending) (b : Body) → AllShort s.held → held_at seq s ≡ Some b → IsShort b
unfolding held_at
held_short seq s b h e = by (nat_lt s.acked seq) e
  where
    by : (t : Bool) → (if t then slice_get s.held (seq - suc s.acked) else None) ≡ Some b → IsShort b
    by false e = absurd cc
    by true e = short_at s.held (seq - suc s.acked) b h e

pub held_few : (seq : ℕ) (s : Sending) → is_held seq s ≡ true → seq ≤ offered_count s
unfolding is_held
held_few seq s e = grind (arith, nat_tests)

pub short_push : (bs : List Body) (b : Body) → AllShort bs → IsShort b → AllShort (bs ++ b ∷ [])
short_push [] b h s = (s, tt)
short_push (c ∷ bs) b h s = (h.0, short_push bs b h.1 s)

pub short_drop : (n : ℕ) (bs : List Body) → AllShort bs → AllShort (drop n bs)
short_drop zero bs h = h
short_drop (suc n) [] h = h
short_drop (suc n) (b ∷ bs) h = short_drop n bs h.1

pub drop_length : (n : ℕ) (bs : List Body) → n ≤ length bs → n + length (drop n bs) ≡ length bs
drop_length zero bs h = omega arith
drop_length (suc n) [] h = absurd (omega (arith, h))
drop_length (suc n) (b ∷ bs) h = omega (arith, drop_length n bs (omega (arith, h)))

-- a purse pays 4 where it holds so much
pub pays_four : (purse : ℕ) → is_paid (pos 4) purse ≡ false → purse < 4
pays_four purse e = grind (arith, nat_tests)

pub four_paid : (purse : ℕ) → is_paid (pos 4) purse ≡ true → 4 ≤ purse
four_paid purse e = grind (arith, nat_tests)

-- ---- an item of a queue

get_past : {X : Type 0} (xs : List X) (i : ℕ) → length xs ≤ i → None ≡ slice_get xs i
get_past [] i h = refl
get_past (x ∷ xs) zero h = absurd (omega (arith, h))
get_past (x ∷ xs) (suc i) h = get_past xs i (omega (arith, h))

get_at : {X : Type 0} (xs : List X) (i : ℕ) (y : X) → i < length xs → y ≡ slice_index_or xs i y → Some y ≡ slice_get xs i
get_at [] i y h e = absurd (omega (arith, h))
get_at (x ∷ xs) zero y h e = ap Some e
get_at (x ∷ xs) (suc i) y h e = get_at xs i y (omega (arith, h)) e

pub item_is : {X : Type 0} (xs : List X) (i : ℕ) (r : Option (Bor X)) → IsItemAt xs i r → option_copied r ≡ slice_get xs i
item_is xs i None h = get_past xs i h.3
item_is xs i (Some x) h = get_at xs i x.now h.3.0 (h.3.1 x.now)
