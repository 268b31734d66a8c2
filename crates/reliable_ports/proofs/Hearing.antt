-- What is heard, by the tests that the code makes.
use Rattle.std.proofs.Common.{◌≡◌, ◌≢◌, ℕ, suc, ◌+◌, ◌-◌, ◌≤◌, ◌<◌, Bool, true, false, ◌&&◌, if◌then◌else◌, length, drop, refl, ap, arith}
use Rattle.std.specs.Prelude.{nat_lt, nat_le, nat_eq}
use Rattle.std.proofs.lemmas.Bool.Decides.{nat_tests}
use Rattle.reliable_ports.specs.declared.sender.Ack.TheVariants as ack
use Rattle.reliable_ports.specs.declared.receiver.Came.TheVariants as came
use Rattle.reliable_ports.specs.Ends.{Body, Sending, Receiving, next_of, ready, with_next, with_early, with_message, came_as, with_fewer, with_ack, ack_of, is_awaited, is_news, offered_count}

-- ---- the receiver

abbrev Choice : {X : Type 0} → X → X → X → X → Bool → Bool → Bool → X
Choice a b c d s t u = if s then a else if t then b else if u then c else d

pub came_old : (seq n : ℕ) (r : Receiving) → n ≡ next_of r → seq < n → came.Old ≡ came_as seq r
unfolding came_as
came_old seq n r e h = let s : nat_lt seq (next_of r) ≡ true = grind (arith, nat_tests) in rw s refl

pub message_old : (seq n : ℕ) (b : Body) (r : Receiving) → n ≡ next_of r → seq < n → r ≡ with_message seq b r
unfolding with_message
message_old seq n b r e h = let s : nat_lt seq (next_of r) ≡ true = grind (arith, nat_tests) in rw s refl

pub came_far : (seq n : ℕ) (r : Receiving) → n ≡ next_of r → n ≤ seq → 64 ≤ seq - n → came.Far ≡ came_as seq r
unfolding came_as
came_far seq n r e h g =
    let s : nat_lt seq (next_of r) ≡ false = grind (arith, nat_tests) in
    let t : nat_le (next_of r + 64) seq ≡ true = grind (arith, nat_tests) in
    rw (s, t) refl

pub message_far : (seq n : ℕ) (b : Body) (r : Receiving) → n ≡ next_of r → n ≤ seq → 64 ≤ seq - n → r ≡ with_message seq b r
unfolding with_message
message_far seq n b r e h g =
    let s : nat_lt seq (next_of r) ≡ false = grind (arith, nat_tests) in
    let t : nat_le (next_of r + 64) seq ≡ true = grind (arith, nat_tests) in
    rw (s, t) refl

pub came_next : (seq n k : ℕ) (r : Receiving) → n ≡ next_of r → n ≤ seq → seq - n ≡ 0 → k ≡ length (ready r.early) + 1 → came.Delivered k ≡ came_as seq r
unfolding came_as
came_next seq n k r e h g m =
    let s : nat_lt seq (next_of r) ≡ false = grind (arith, nat_tests) in
    let t : nat_le (next_of r + 64) seq ≡ false = grind (arith, nat_tests) in
    let u : nat_eq seq (next_of r) ≡ true = grind (arith, nat_tests) in
    let c : k ≡ suc (length (ready r.early)) = omega (arith, m) in
    rw (s, t, u) (ap came.Delivered c)

pub message_next : (seq n : ℕ) (b : Body) (r : Receiving) → n ≡ next_of r → n ≤ seq → seq - n ≡ 0 → with_next b r ≡ with_message seq b r
unfolding with_message
message_next seq n b r e h g =
    let s : nat_lt seq (next_of r) ≡ false = grind (arith, nat_tests) in
    let t : nat_le (next_of r + 64) seq ≡ false = grind (arith, nat_tests) in
    let u : nat_eq seq (next_of r) ≡ true = grind (arith, nat_tests) in
    rw (s, t, u) refl

pub came_ahead : (seq n : ℕ) (r : Receiving) → n ≡ next_of r → n ≤ seq → seq - n < 64 → seq - n ≢ 0 → came.Ahead ≡ came_as seq r
unfolding came_as
came_ahead seq n r e h g m =
    let s : nat_lt seq (next_of r) ≡ false = grind (arith, nat_tests) in
    let t : nat_le (next_of r + 64) seq ≡ false = grind (arith, nat_tests) in
    let u : nat_eq seq (next_of r) ≡ false = grind (arith, nat_tests) in
    rw (s, t, u) refl

pub message_ahead : (seq n i : ℕ) (b : Body) (r : Receiving) → n ≡ next_of r → n ≤ seq → seq - n < 64 → seq - n ≢ 0 → i ≡ seq - n - 1 → with_early i b r ≡ with_message seq b r
unfolding with_message
message_ahead seq n i b r e h g m k =
    let s : nat_lt seq (next_of r) ≡ false = grind (arith, nat_tests) in
    let t : nat_le (next_of r + 64) seq ≡ false = grind (arith, nat_tests) in
    let u : nat_eq seq (next_of r) ≡ false = grind (arith, nat_tests) in
    let j : i ≡ seq - suc (next_of r) = omega (arith, k, e) in
    rw (s, t, u) (ap (λ p. with_early p b r) j)

-- ---- the sender

pub stranger_low : (next : ℕ) (s : Sending) → next < 1 → ack.Stranger ≡ ack_of next s
unfolding ack_of
stranger_low next s h = let a : is_awaited next s ≡ false = grind (arith, nat_tests) in rw a refl

pub still_low : (next : ℕ) (s : Sending) → next < 1 → s ≡ with_ack next s
unfolding with_ack
still_low next s h = let a : is_awaited next s ≡ false = grind (arith, nat_tests) in rw a refl

pub stranger_high : (next n : ℕ) (s : Sending) → n ≡ offered_count s → n + 1 < next → ack.Stranger ≡ ack_of next s
unfolding ack_of
stranger_high next n s e h = let a : is_awaited next s ≡ false = grind (arith, nat_tests) in rw a refl

pub still_high : (next n : ℕ) (s : Sending) → n ≡ offered_count s → n + 1 < next → s ≡ with_ack next s
unfolding with_ack
still_high next n s e h = let a : is_awaited next s ≡ false = grind (arith, nat_tests) in rw a refl

pub ack_old : (next n : ℕ) (s : Sending) → n ≡ offered_count s → 1 ≤ next → next ≤ n + 1 → next ≤ s.acked + 1 → ack.Old ≡ ack_of next s
unfolding ack_of
ack_old next n s e l h g =
    let a : is_awaited next s ≡ true = grind (arith, nat_tests) in
    let b : is_news next s ≡ false = grind (arith, nat_tests) in
    rw (a, b) refl

pub still_old : (next : ℕ) (s : Sending) → next ≤ s.acked + 1 → s ≡ with_ack next s
unfolding with_ack
still_old next s g = by (is_awaited next s) (grind (arith, nat_tests))
  where
    by : (t : Bool) → is_news next s ≡ false → s ≡ (if t && is_news next s then record { acked = next - 1; held = drop (next - suc s.acked) s.held } else s)
    by true b = rw b refl
    by false b = refl

pub ack_moved : (next n : ℕ) (s : Sending) → n ≡ offered_count s → 1 ≤ next → next ≤ n + 1 → s.acked + 1 < next → ack.Moved ≡ ack_of next s
unfolding ack_of
ack_moved next n s e l h g =
    let a : is_awaited next s ≡ true = grind (arith, nat_tests) in
    let b : is_news next s ≡ true = grind (arith, nat_tests) in
    rw (a, b) refl

pub acked_on : (next n k : ℕ) (s : Sending) → n ≡ offered_count s → 1 ≤ next → next ≤ n + 1 → s.acked + 1 < next → k ≡ next - 1 - s.acked → with_fewer k s ≡ with_ack next s
unfolding with_ack
acked_on next n k s e l h g m =
    let a : is_awaited next s ≡ true = grind (arith, nat_tests) in
    let b : is_news next s ≡ true = grind (arith, nat_tests) in
    let c : k ≡ next - suc s.acked = omega (arith, m) in
    let d : s.acked + k ≡ next - 1 = omega (arith, m, g) in
    rw (a, b) (λ i. record { acked = d i; held = drop (c i) s.held })
