-- The ends of a wire with one frame more.
use Rattle.std.proofs.Common.{◌≡◌, ℕ, ◌+◌, ◌≤◌, ◌<◌, List, [], ◌∷◌, ◌++◌, length, take, get_or, Option, Some, None, refl, sym, ap, ◌∙◌, arith}
use Rattle.std.proofs.lemmas.Grind.{take_at_read}
use Rattle.std.proofs.lemmas.List.{take_all}
use Rattle.net_world_spec.specs.declared.lines.FrameOnWire.{FrameOnWire}
use Rattle.net_world_spec.specs.Numbers.{at_most, lowest, at_least, highest}

-- ---- the lowest

pub lowest_none : (xs : List FrameOnWire) → None ≡ lowest (take 0 xs)
unfolding lowest
lowest_none xs = refl

either_lower : (m n : ℕ) (o : Option ℕ) → at_most m (Some (at_most n o)) ≡ at_most n (Some (at_most m o))
either_lower m n None = omega arith
either_lower m n (Some k) = omega arith

lowest_push : (xs : List FrameOnWire) (x : FrameOnWire) → lowest (xs ++ x ∷ []) ≡ Some (at_most x.number (lowest xs))
unfolding lowest
lowest_push [] x = refl
lowest_push (y ∷ ys) x = ap (λ o. Some (at_most y.number o)) (lowest_push ys x) ∙ ap Some (either_lower y.number x.number (lowest ys))

pub lowest_next : (xs : List FrameOnWire) (i : ℕ) (x : FrameOnWire) (found : Option ℕ) (n : ℕ) → i < length xs → x ≡ get_or xs i x → found ≡ lowest (take i xs) → n ≡ at_most x.number found → Some n ≡ lowest (take (i + 1) xs)
lowest_next xs i x found n within is f e =
    ap Some (e ∙ ap (at_most x.number) f) ∙ sym (lowest_push (take i xs) x) ∙ ap lowest (ap (λ y. take i xs ++ y ∷ []) is ∙ sym (take_at_read xs i x within).1)

pub lowest_all : (xs : List FrameOnWire) (i : ℕ) (found : Option ℕ) → length xs ≤ i → found ≡ lowest (take i xs) → found ≡ lowest xs
lowest_all xs i found e h = h ∙ ap lowest (take_all i xs e)

-- ---- the highest

pub highest_none : (xs : List FrameOnWire) → None ≡ highest (take 0 xs)
unfolding highest
highest_none xs = refl

either_higher : (m n : ℕ) (o : Option ℕ) → at_least m (Some (at_least n o)) ≡ at_least n (Some (at_least m o))
either_higher m n None = omega arith
either_higher m n (Some k) = omega arith

highest_push : (xs : List FrameOnWire) (x : FrameOnWire) → highest (xs ++ x ∷ []) ≡ Some (at_least x.number (highest xs))
unfolding highest
highest_push [] x = refl
highest_push (y ∷ ys) x = ap (λ o. Some (at_least y.number o)) (highest_push ys x) ∙ ap Some (either_higher y.number x.number (highest ys))

pub highest_next : (xs : List FrameOnWire) (i : ℕ) (x : FrameOnWire) (found : Option ℕ) (n : ℕ) → i < length xs → x ≡ get_or xs i x → found ≡ highest (take i xs) → n ≡ at_least x.number found → Some n ≡ highest (take (i + 1) xs)
highest_next xs i x found n within is f e =
    ap Some (e ∙ ap (at_least x.number) f) ∙ sym (highest_push (take i xs) x) ∙ ap highest (ap (λ y. take i xs ++ y ∷ []) is ∙ sym (take_at_read xs i x within).1)

pub highest_all : (xs : List FrameOnWire) (i : ℕ) (found : Option ℕ) → length xs ≤ i → found ≡ highest (take i xs) → found ≡ highest xs
highest_all xs i found e h = h ∙ ap highest (take_all i xs e)
