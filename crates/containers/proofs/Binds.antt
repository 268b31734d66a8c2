use Rattle.std.proofs.Common.{◌≡◌, Option, Some, None, Result, Ok, Err, refl, ap}
use Rattle.containers.specs.Reading.{◌>>=◌}

pub ok_inj : {A E : Type 0} {x y : A} → ◌≡◌ {A = Result A E} (Ok x) (Ok y) → x ≡ y
ok_inj {A} {E} {x} h = ap (value_or x) h
  where
    value_or : A → Result A E → A
    value_or d (Ok y) = y
    value_or d (Err _) = d

pub some_inj : {A : Type 0} {x y : A} → Some x ≡ Some y → x ≡ y
some_inj {A} {x} h = ap (value_or x) h
  where
    value_or : A → Option A → A
    value_or d (Some y) = y
    value_or d None = d

-- a reading of two parts that succeeds: what the first gave, and that the second went on from there
pub record Bound {A B E : Type 0} (r : Result A E) (h : A → Result B E) (y : B) : Type 0 where
  pub first : A
  pub read : r ≡ Ok first
  pub then_read : h first ≡ Ok y

pub bind_ok : {A B E : Type 0} (r : Result A E) (h : A → Result B E) (y : B) → (r >>= h) ≡ Ok y → Bound r h y
bind_ok (Ok x) h y e = record { first = x; read = refl; then_read = e }
bind_ok (Err x) h y e = cc

-- where the first is read, the second goes on from there
pub bind_is : {A B E : Type 0} {r : Result A E} (h : A → Result B E) {x : A} {q : Result B E} → r ≡ Ok x → h x ≡ q → (r >>= h) ≡ q
bind_is h e k = rw e k

-- what the first refuses is refused
pub bind_err : {A B E : Type 0} {r : Result A E} (h : A → Result B E) {e : E} → r ≡ Err e → (r >>= h) ≡ Err e
bind_err h k = rw k refl
