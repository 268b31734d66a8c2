-- The two services by their names, with their types, and which of them a declaration calls.
use Rattle.std.specs.Prelude.{ℕ, Bool, if◌then◌else◌, List, [], ◌∷◌, codes, Option, Some, None, is_some}
use Rattle.std.specs.Str.{bytes_eq}
use Rattle.plan_base.specs.declared.tree.Svc.{Svc}
use Rattle.plan_base.specs.declared.tree.Ty.TheVariants as ty
use Rattle.service_api.specs.declared.scheme.Scheme.{Scheme}
use Rattle.service_api.specs.declared.scheme.SchemeTy.TheVariants.{Is}
use Rattle.service_api.specs.Schemes.{instance}
use Rattle.example_services.specs.declared.service.ExampleService.{ExampleService}
use Rattle.example_services.specs.declared.service.ExampleService.TheVariants.{Count, Greet}

abbrev pub name_of : ExampleService → List ℕ
name_of Count = codes "count"
name_of Greet = codes "greet"

abbrev pub type_of : ExampleService → Scheme
type_of Count = record { params = []; result = Is ty.Int }
type_of Greet = record { params = Is ty.Str ∷ []; result = Is ty.Str }

-- the service of the name
abbrev pub named_service : List ℕ → Option ExampleService
named_service name = if bytes_eq (name_of Count) name then Some Count else (if bytes_eq (name_of Greet) name then Some Greet else None)

abbrev pub type_named : Option ExampleService → Option Scheme
type_named (Some s) = Some (type_of s)
type_named None = None

abbrev pub scheme_of : List ℕ → Option Scheme
scheme_of name = type_named (named_service name)

-- whether the declaration is an instance of the service's type
abbrev pub fits : ExampleService → Svc → Bool
fits s svc = is_some (instance (type_of s) svc)

abbrev pub called_as : Option ExampleService → Svc → Option ExampleService
called_as (Some s) svc = if fits s svc then Some s else None
called_as None svc = None

-- the service of the declaration's name, where it is an instance of that service's type
abbrev pub called_service : Svc → Option ExampleService
called_service svc = called_as (named_service svc.name) svc
