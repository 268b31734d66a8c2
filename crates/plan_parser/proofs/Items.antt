-- One more value in a tuple.
use Rattle.std.proofs.Common.{◌≡◌, List, [], ◌∷◌, ◌++◌}
use Rattle.std.specs.Prelude.{map}
use Rattle.std.proofs.lemmas.List.{map-append}
use Rattle.plan_parser.specs.declared.item.TypedValue.{TypedValue}

pub values_last : (is : List TypedValue) (i : TypedValue) → map (λ j. j.value) (is ++ i ∷ []) ≡ map (λ j. j.value) is ++ i.value ∷ []
values_last is i = map-append _ is (i ∷ [])

pub types_last : (is : List TypedValue) (i : TypedValue) → map (λ j. j.ty) (is ++ i ∷ []) ≡ map (λ j. j.ty) is ++ i.ty ∷ []
types_last is i = map-append _ is (i ∷ [])
