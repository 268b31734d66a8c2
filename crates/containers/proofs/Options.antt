-- Small laws on options.
use Rattle.std.proofs.Common.{◌≡◌, Option, Some, None}

pub none-some : {A : Type 0} {x : A} → ◌≡◌ {A = Option A} None (Some x) → ⊥
none-some h = cc

pub some-same : {A : Type 0} {x y : A} → Some x ≡ Some y → x ≡ y
some-same h = cc
