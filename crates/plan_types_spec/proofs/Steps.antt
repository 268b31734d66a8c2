-- What holds of each answer of a part of the checking.
use Rattle.std.proofs.Common.{◌≡◌, ℕ, refl, Bool, true, false, Option, Some, None}
use Rattle.std.specs.Prelude.{Result, Ok, Err, if◌then◌else◌}
use Rattle.plan_types_spec.specs.declared.type_fault.TypeFault.{TypeFault}
use Rattle.plan_types_spec.specs.TypingOrder.{Checking, pure, refuse, after, ◌>>=◌, or_refuse}

-- what an answer must be, where there is one
abbrev pub Holds : {A : Type 0} → (A → Type 0) → Result (A × ℕ) TypeFault → Type 0
Holds P (Ok r) = P r.0
Holds P (Err f) = Unit {0}

-- each answer of m has the property
abbrev pub Yields : {A : Type 0} → (A → Type 0) → Checking A → Type 0
Yields P m = (n : ℕ) → Holds P (m n)

after_holds : {A B : Type 0} (P : A → Type 0) (Q : B → Type 0) (r : Result (A × ℕ) TypeFault) (k : A → Checking B) → Holds P r → ((a : A) → P a → Yields Q (k a)) → Holds Q (after r k)
after_holds P Q (Ok r) k h f = f r.0 h r.1
after_holds P Q (Err e) k h f = tt

pub then_yields : {A B : Type 0} (P : A → Type 0) (Q : B → Type 0) (m : Checking A) (k : A → Checking B) → Yields P m → ((a : A) → P a → Yields Q (k a)) → Yields Q (m >>= k)
then_yields P Q m k h f = λ n. after_holds P Q (m n) k (h n) f

pub pure_yields : {A : Type 0} (P : A → Type 0) (a : A) → P a → Yields P (pure a)
pure_yields P a h = λ n. h

pub refuse_yields : {A : Type 0} (P : A → Type 0) (f : TypeFault) → Yields P (refuse f)
refuse_yields P f = λ n. tt

pub if_yields : {A : Type 0} (P : A → Type 0) (b : Bool) (m k : Checking A) → (b ≡ true → Yields P m) → (b ≡ false → Yields P k) → Yields P (if b then m else k)
if_yields P true m k f g = f refl
if_yields P false m k f g = g refl

pub known_yields : {A B : Type 0} (Q : B → Type 0) (o : Option A) (e : TypeFault) (k : A → Checking B) → ((a : A) → o ≡ Some a → Yields Q (k a)) → Yields Q (or_refuse o e >>= k)
known_yields Q (Some a) e k f = f a refl
known_yields Q None e k f = λ n. tt
