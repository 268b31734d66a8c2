-- When a declared service is an instance of a service's type.
use Rattle.std.specs.Prelude.{◌≡◌, Bool, true, false, ◌&&◌, ◌||◌, if◌then◌else◌, List, [], ◌∷◌, Option, Some, None, is_some}
use Rattle.std.specs.List.{list_any}
use Rattle.plan_base.specs.declared.tree.Ty.{Ty}
use Rattle.plan_base.specs.declared.tree.Ty.TheVariants as type
use Rattle.plan_base.specs.declared.tree.Svc.{Svc}
use Rattle.service_api.specs.declared.scheme.SchemeTy.{SchemeTy}
use Rattle.service_api.specs.declared.scheme.SchemeTy.TheVariants.{Any, Is}
use Rattle.service_api.specs.declared.scheme.Scheme.{Scheme}
use Rattle.plan_base.specs.SameTypes.{same_type}

-- what a type of the row stands for where `Any` is a
abbrev pub stands_for : Ty → SchemeTy → Ty
stands_for a Any = a
stands_for a (Is t) = t

-- the first list at a is the second
abbrev pub AllStandFor : Ty → List SchemeTy → List Ty → Type 0
AllStandFor a [] [] = Unit {0}
AllStandFor a (s ∷ ss) (t ∷ ts) = (t ≡ stands_for a s) × AllStandFor a ss ts
AllStandFor a _ _ = ⊥

abbrev pub is_any : SchemeTy → Bool
is_any Any = true
is_any (Is t) = false

-- whether `Any` stands in the row
abbrev pub has_any : Scheme → Bool
has_any scheme = list_any is_any scheme.params || is_any scheme.result

-- the declaration has the row's type with a for `Any`, and a is unit where there is no `Any`
pub record IsInstance (scheme : Scheme) (svc : Svc) (a : Ty) : Type 0 where
  pub params : AllStandFor a scheme.params svc.params
  pub result : svc.result ≡ stands_for a scheme.result
  pub unit : has_any scheme ≡ false → a ≡ type.Unit

-- the type at the first place of `Any`
abbrev pub taken_by : SchemeTy → Ty → Option Ty → Option Ty
taken_by Any t later = Some t
taken_by (Is u) t later = later

abbrev pub taken_among : List SchemeTy → List Ty → Option Ty → Option Ty
taken_among [] ts later = later
taken_among (s ∷ ss) [] later = later
taken_among (s ∷ ss) (t ∷ ts) later = taken_by s t (taken_among ss ts later)

abbrev pub or_unit : Option Ty → Ty
or_unit (Some t) = t
or_unit None = type.Unit

-- the type that the declaration has for `Any`, unit where the row has none
unfoldable pub any_type : Scheme → Svc → Ty
any_type scheme svc = or_unit (taken_among scheme.params svc.params (taken_by scheme.result svc.result None))

abbrev pub same_all : Ty → List SchemeTy → List Ty → Bool
same_all a [] [] = true
same_all a (s ∷ ss) (t ∷ ts) = same_type t (stands_for a s) && same_all a ss ts
same_all a _ _ = false

abbrev pub tests_instance : Scheme → Svc → Ty → Bool
tests_instance scheme svc a = same_all a scheme.params svc.params && same_type svc.result (stands_for a scheme.result)

-- the type taken by `Any`, unit where there is none; None where the declaration is no instance
unfoldable pub instance : Scheme → Svc → Option Ty
instance scheme svc = if tests_instance scheme svc (any_type scheme svc) then Some (any_type scheme svc) else None

-- whether the declaration is an instance of the type that is there
abbrev pub is_instance_of : Option Scheme → Svc → Bool
is_instance_of (Some scheme) svc = is_some (instance scheme svc)
is_instance_of None svc = false
