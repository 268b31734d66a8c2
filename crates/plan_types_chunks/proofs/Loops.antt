-- What one more item does to what a loop still has to read.
use Rattle.std.proofs.Common.{◌≡◌, ◌≢◌, ℕ, zero, suc, ◌+◌, ◌<◌, ◌∙◌, ap, refl, min, Bool, true, false, ◌&&◌, if◌then◌else◌, List, [], ◌∷◌, length, drop, get_or, Some, arith}
use Rattle.plan_base.specs.declared.tree.Ty.{Ty}
use Rattle.plan_base.specs.declared.tree.Value.{Value}
use Rattle.plan_base.specs.declared.tree.Param.{Param}
use Rattle.plan_types_spec.specs.TypingNames.{param_types}
use Rattle.plan_types_chunks.specs.declared.fault.Ill.TheVariants.{Argument}
use Rattle.plan_types_chunks.specs.Chunks.{fit_all, fits, ill_from, right}

fit_suc : (vs : List Value) (ts : List Ty) (i : ℕ) (v : Value) (t : Ty) → i < length vs → i < length ts → fit_all fits (drop i vs) (drop i ts) ≡ (fits (get_or vs i v) (get_or ts i t) && fit_all fits (drop (suc i) vs) (drop (suc i) ts))
fit_suc (a ∷ vs) (b ∷ ts) zero v t h k = refl
fit_suc (a ∷ vs) (b ∷ ts) (suc i) v t h k = fit_suc vs ts i v t (omega arith) (omega arith)
fit_suc [] ts i v t h k = absurd (omega arith)
fit_suc (a ∷ vs) [] i v t h k = absurd (omega arith)

pub fit_next : (vs : List Value) (ts : List Ty) (i : ℕ) (v : Value) (t : Ty) → i < length vs → i < length ts → fit_all fits (drop i vs) (drop i ts) ≡ (fits (get_or vs i v) (get_or ts i t) && fit_all fits (drop (i + 1) vs) (drop (i + 1) ts))
fit_next vs ts i v t h k = let e : suc i ≡ i + 1 = omega arith in fit_suc vs ts i v t h k ∙ ap (λ j. fits (get_or vs i v) (get_or ts i t) && fit_all fits (drop j vs) (drop j ts)) e

-- other counts never fit
pub fit_count : (vs : List Value) (ts : List Ty) → length vs ≢ length ts → fit_all fits vs ts ≡ false
fit_count [] [] h = absurd (h refl)
fit_count [] (t ∷ ts) h = refl
fit_count (v ∷ vs) [] h = refl
fit_count (v ∷ vs) (t ∷ ts) h = go (fit_count vs ts (λ e. h (ap suc e))) (fits v t)
  where
    go : fit_all fits vs ts ≡ false → (b : Bool) → (b && fit_all fits vs ts) ≡ false
    go rest true = rest
    go rest false = refl

ill_suc : (n : ℕ) (vs : List Value) (ps : List Param) (i : ℕ) (v : Value) (p : Param) → i < length vs → i < length ps
    → ill_from right n (drop i vs) (param_types (drop i ps)) ≡ (if right (get_or vs i v) (get_or ps i p).ty then ill_from right (min (n + 1) 255) (drop (suc i) vs) (param_types (drop (suc i) ps)) else Some (Argument n))
ill_suc n (a ∷ vs) (b ∷ ps) zero v p h k = refl
ill_suc n (a ∷ vs) (b ∷ ps) (suc i) v p h k = ill_suc n vs ps i v p (omega arith) (omega arith)
ill_suc n [] ps i v p h k = absurd (omega arith)
ill_suc n (a ∷ vs) [] i v p h k = absurd (omega arith)

pub ill_next : (n : ℕ) (vs : List Value) (ps : List Param) (i : ℕ) (v : Value) (p : Param) → i < length vs → i < length ps
    → ill_from right n (drop i vs) (param_types (drop i ps)) ≡ (if right (get_or vs i v) (get_or ps i p).ty then ill_from right (min (n + 1) 255) (drop (i + 1) vs) (param_types (drop (i + 1) ps)) else Some (Argument n))
ill_next n vs ps i v p h k =
    let e : suc i ≡ i + 1 = omega arith in
    ill_suc n vs ps i v p h k ∙ ap (λ j. if right (get_or vs i v) (get_or ps i p).ty then ill_from right (min (n + 1) 255) (drop j vs) (param_types (drop j ps)) else Some (Argument n)) e
