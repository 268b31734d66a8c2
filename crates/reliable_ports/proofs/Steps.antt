-- What the two ends keep of each other.
use Rattle.std.proofs.Common.{◌≡◌, ℕ, zero, suc, ◌+◌, ◌-◌, ◌≤◌, ◌<◌, Bool, true, false, ◌&&◌, if◌then◌else◌, List, [], ◌∷◌, ◌++◌, length, drop, Option, Some, None, refl, sym, ap, ◌∙◌, arith, length-append}
use Rattle.std.specs.Prelude.{slice_get, nat_lt, nat_le, nat_eq}
use Rattle.std.proofs.lemmas.List.{append_assoc, drop-append-le, drop-drop}
use Rattle.std.proofs.lemmas.Bool.Decides.{nat_tests}
use Rattle.reliable_ports.specs.Ends.{Body, Sending, Receiving, next_of, ready, kept_bodies, with_next, with_early, with_message, with_offer, with_ack, held_at, is_awaited, is_news}
use Rattle.reliable_ports.proofs.Slots.{Agrees, ready_goes, kept_agrees, more_agrees_behind, get_behind, get_dropped}

-- the message with a number, from 1
abbrev pub message : ℕ → List Body → Option Body
message zero os = None
message (suc i) os = slice_get os i

-- the bodies delivered and some rest are those offered, and what came early agrees with that rest
pub record Receives (os : List Body) (r : Receiving) : Type 0 where
  pub rest : List Body
  pub prefix : r.delivered ++ rest ≡ os
  pub agrees : Agrees r.early (drop 1 rest)

-- the sender holds what is offered and not acknowledged
pub record Sends (os : List Body) (s : Sending) : Type 0 where
  pub within : s.acked ≤ length os
  pub held : s.held ≡ drop s.acked os

-- ---- the receiver

pub receives_more : (b : Body) (os : List Body) (r : Receiving) → Receives os r → Receives (os ++ b ∷ []) r
receives_more b os r h = record {
  rest = h.rest ++ b ∷ [];
  prefix = sym (append_assoc r.delivered h.rest (b ∷ [])) ∙ ap (λ xs. xs ++ b ∷ []) h.prefix;
  agrees = more_agrees_behind b r.early h.rest h.agrees;
}

-- the awaited message
receives_next : (b : Body) (os : List Body) (r : Receiving) → (h : Receives os r) → message (next_of r) os ≡ Some b → Receives os (with_next b r)
receives_next b os r h m = at h.rest h.prefix h.agrees (sym (get_behind r.delivered h.rest 0 (length r.delivered) (omega arith)) ∙ ap (λ xs. slice_get xs (length r.delivered)) h.prefix ∙ m)
  where
    at : (rest : List Body) → r.delivered ++ rest ≡ os → Agrees r.early (drop 1 rest) → slice_get rest 0 ≡ Some b → Receives os (with_next b r)
    at [] f a g = absurd cc
    at (o ∷ more) f a g =
        let w = ready_goes r.early more a in
        let e : o ≡ b = cc in
        record {
          rest = w.rest;
          prefix = append_assoc r.delivered (b ∷ ready r.early) w.rest ∙ ap (λ xs. r.delivered ++ xs) (λ i. sym e i ∷ w.prefix i) ∙ f;
          agrees = w.agrees;
        }

-- one that comes early
receives_early : (i : ℕ) (b : Body) (os : List Body) (r : Receiving) → (h : Receives os r) → message (suc (i + next_of r)) os ≡ Some b → Receives os (record { delivered = r.delivered; early = kept_bodies i b r.early })
receives_early i b os r h m = record {
  rest = h.rest;
  prefix = h.prefix;
  agrees = kept_agrees i b r.early (drop 1 h.rest) h.agrees
      (get_dropped 1 h.rest i (suc i) (omega arith) ∙ sym (get_behind r.delivered h.rest (suc i) (i + next_of r) (omega arith)) ∙ ap (λ xs. slice_get xs (i + next_of r)) h.prefix ∙ m);
}

pub receives_message : (seq : ℕ) (b : Body) (os : List Body) (r : Receiving) → Receives os r → message seq os ≡ Some b → Receives os (with_message seq b r)
unfolding with_message
receives_message seq b os r h m = one (nat_lt seq (next_of r)) refl
  where
    P : Receiving → Type 0
    P = Receives os

    three : (t : Bool) → nat_eq seq (next_of r) ≡ t → nat_lt seq (next_of r) ≡ false → P (if t then with_next b r else with_early (seq - suc (next_of r)) b r)
    three true e l = let n : next_of r ≡ seq = grind (arith, nat_tests) in receives_next b os r h (ap (λ k. message k os) n ∙ m)
    three false e l = let n : suc (seq - suc (next_of r) + next_of r) ≡ seq = grind (arith, nat_tests) in receives_early (seq - suc (next_of r)) b os r h (ap (λ k. message k os) n ∙ m)

    two : (t : Bool) → nat_lt seq (next_of r) ≡ false → P (if t then r else if nat_eq seq (next_of r) then with_next b r else with_early (seq - suc (next_of r)) b r)
    two true l = h
    two false l = three (nat_eq seq (next_of r)) refl l

    one : (t : Bool) → nat_lt seq (next_of r) ≡ t → P (if t then r else if nat_le (next_of r + 64) seq then r else if nat_eq seq (next_of r) then with_next b r else with_early (seq - suc (next_of r)) b r)
    one true l = h
    one false l = two (nat_le (next_of r + 64) seq) l

-- hearing a message delivers no less than before
pub delivers_on : (seq : ℕ) (b : Body) (r : Receiving) → length r.delivered ≤ length (with_message seq b r).delivered
unfolding with_message
delivers_on seq b r = one (nat_lt seq (next_of r)) (nat_le (next_of r + 64) seq) (nat_eq seq (next_of r))
  where
    one : (s t u : Bool) → length r.delivered ≤ length (if s then r else if t then r else if u then with_next b r else with_early (seq - suc (next_of r)) b r).delivered
    one true t u = omega arith
    one false true u = omega arith
    one false false true = omega (arith, length-append r.delivered (b ∷ ready r.early))
    one false false false = omega arith

-- ---- the sender

pub sends_more : (b : Body) (os : List Body) (s : Sending) → Sends os s → Sends (os ++ b ∷ []) (with_offer b s)
sends_more b os s h = record {
  within = omega (arith, h.within, length-append os (b ∷ []));
  held = ap (λ xs. xs ++ b ∷ []) h.held ∙ sym (drop-append-le s.acked os (b ∷ []) h.within);
}

-- what is held is the message of that number
pub held_message : (seq : ℕ) (b : Body) (os : List Body) (s : Sending) → Sends os s → held_at seq s ≡ Some b → message seq os ≡ Some b
unfolding held_at
held_message seq b os s h e = by (nat_lt s.acked seq) refl e
  where
    at : (n : ℕ) → s.acked < n → slice_get s.held (n - suc s.acked) ≡ Some b → message n os ≡ Some b
    at zero l g = absurd (omega arith)
    at (suc i) l g = sym (get_dropped s.acked os (suc i - suc s.acked) i (omega arith)) ∙ ap (λ xs. slice_get xs (suc i - suc s.acked)) (sym h.held) ∙ g

    by : (t : Bool) → nat_lt s.acked seq ≡ t → (if t then slice_get s.held (seq - suc s.acked) else None) ≡ Some b → message seq os ≡ Some b
    by true l g = at seq (grind (arith, nat_tests)) g
    by false l g = absurd cc

-- an ack of no more than was delivered
pub sends_ack : (next : ℕ) (n : ℕ) (os : List Body) (s : Sending) → Sends os s → s.acked ≤ n → n ≤ length os → next ≤ suc n → Sends os (with_ack next s) × ((with_ack next s).acked ≤ n)
unfolding with_ack
sends_ack next n os s h a l m = by (is_awaited next s && is_news next s) refl
  where
    Moved : Sending
    Moved = record { acked = next - 1; held = drop (next - suc s.acked) s.held }

    by : (t : Bool) → (is_awaited next s && is_news next s) ≡ t → Sends os (if t then Moved else s) × ((if t then Moved else s).acked ≤ n)
    by true e =
        let g : suc s.acked < next = grind (arith, nat_tests) in (
          record {
            within = omega arith;
            held = ap (drop (next - suc s.acked)) h.held ∙ drop-drop (next - suc s.acked) s.acked os ∙ ap (λ k. drop k os) (omega arith);
          },
          omega arith,
        )
    by false e = (h, a)
