-- The bodies that came early, beside those that were offered after the awaited one.
use Rattle.std.proofs.Common.{◌≡◌, ℕ, zero, suc, ◌+◌, List, [], ◌∷◌, ◌++◌, length, drop, Option, Some, None, refl, sym, ap, arith}
use Rattle.std.specs.Prelude.{slice_get}
use Rattle.reliable_ports.specs.Ends.{Body, ready, behind, kept_bodies}

-- each body that came early is the one offered at its place
abbrev pub Agrees : List (Option Body) → List Body → Type 0
Agrees [] os = Unit {0}
Agrees (None ∷ xs) [] = Agrees xs []
Agrees (None ∷ xs) (o ∷ os) = Agrees xs os
Agrees (Some b ∷ xs) [] = ⊥
Agrees (Some b ∷ xs) (o ∷ os) = (b ≡ o) × Agrees xs os

-- what was offered behind some bodies, where they are a prefix of it
pub record Goes (xs : List (Option Body)) (os : List Body) : Type 0 where
  pub rest : List Body
  pub prefix : ready xs ++ rest ≡ os
  pub agrees : Agrees (behind xs) (drop 1 rest)

pub ready_goes : (xs : List (Option Body)) (os : List Body) → Agrees xs os → Goes xs os
ready_goes [] os a = record { rest = os; prefix = refl; agrees = tt }
ready_goes (None ∷ xs) [] a = record { rest = []; prefix = refl; agrees = a }
ready_goes (None ∷ xs) (o ∷ os) a = record { rest = o ∷ os; prefix = refl; agrees = a }
ready_goes (Some b ∷ xs) [] a = absurd a
ready_goes (Some b ∷ xs) (o ∷ os) a =
    let g = ready_goes xs os a.1 in
    record { rest = g.rest; prefix = λ i. a.0 i ∷ g.prefix i; agrees = g.agrees }

none_some : {A B : Type 0} {x : A} → ◌≡◌ {A = Option A} None (Some x) → B
none_some e = absurd cc

some_same : {A : Type 0} {x y : A} → Some x ≡ Some y → x ≡ y
some_same e = cc

pub kept_agrees : (i : ℕ) (b : Body) (xs : List (Option Body)) (os : List Body) → Agrees xs os → slice_get os i ≡ Some b → Agrees (kept_bodies i b xs) os
kept_agrees i b xs [] a h = none_some h
kept_agrees zero b [] (o ∷ os) a h = (sym (some_same h), tt)
kept_agrees zero b (None ∷ xs) (o ∷ os) a h = (sym (some_same h), a)
kept_agrees zero b (Some c ∷ xs) (o ∷ os) a h = a
kept_agrees (suc i) b [] (o ∷ os) a h = kept_agrees i b [] os tt h
kept_agrees (suc i) b (None ∷ xs) (o ∷ os) a h = kept_agrees i b xs os a h
kept_agrees (suc i) b (Some c ∷ xs) (o ∷ os) a h = (a.0, kept_agrees i b xs os a.1 h)

pub more_agrees : (b : Body) (xs : List (Option Body)) (os : List Body) → Agrees xs os → Agrees xs (os ++ b ∷ [])
more_agrees b [] os a = tt
more_agrees b (None ∷ xs) [] a = a
more_agrees b (None ∷ xs) (o ∷ os) a = more_agrees b xs os a
more_agrees b (Some c ∷ xs) [] a = absurd a
more_agrees b (Some c ∷ xs) (o ∷ os) a = (a.0, more_agrees b xs os a.1)

-- the same where the awaited message may not be offered yet
pub more_agrees_behind : (b : Body) (xs : List (Option Body)) (os : List Body) → Agrees xs (drop 1 os) → Agrees xs (drop 1 (os ++ b ∷ []))
more_agrees_behind b xs [] a = a
more_agrees_behind b xs (o ∷ os) a = more_agrees b xs os a

-- ---- look-ups

pub get_behind : {X : Type 0} (xs ys : List X) (i j : ℕ) → j ≡ i + length xs → slice_get (xs ++ ys) j ≡ slice_get ys i
get_behind [] ys i j e = ap (slice_get ys) (omega arith)
get_behind (x ∷ xs) ys i zero e = absurd (omega arith)
get_behind (x ∷ xs) ys i (suc j) e = get_behind xs ys i j (omega arith)

pub get_dropped : {X : Type 0} (n : ℕ) (xs : List X) (i j : ℕ) → j ≡ i + n → slice_get (drop n xs) i ≡ slice_get xs j
get_dropped zero xs i j e = ap (slice_get xs) (omega arith)
get_dropped (suc n) [] i j e = refl
get_dropped (suc n) (x ∷ xs) i zero e = absurd (omega arith)
get_dropped (suc n) (x ∷ xs) i (suc j) e = get_dropped n xs i j (omega arith)

pub get_more : {X : Type 0} (xs ys : List X) (i : ℕ) (x : X) → slice_get xs i ≡ Some x → slice_get (xs ++ ys) i ≡ Some x
get_more [] ys i x h = none_some h
get_more (y ∷ xs) ys zero x h = h
get_more (y ∷ xs) ys (suc i) x h = get_more xs ys i x h
