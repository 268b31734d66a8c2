-- The services of the packages, by their names, with their packages and types.
use Rattle.std.specs.Prelude.{ℕ, Bool, if◌then◌else◌, List, [], ◌∷◌, codes, Option, Some, None}
use Rattle.std.specs.Str.{bytes_eq}
use Rattle.plan_base.specs.declared.tree.Ty.{Ty}
use Rattle.plan_base.specs.declared.tree.Ty.TheVariants as ty
use Rattle.service_api.specs.declared.package.PackageName.{PackageName}
use Rattle.service_api.specs.declared.package.PackageName.TheVariants.{Net, Resident, Host}
use Rattle.service_api.specs.declared.scheme.Scheme.{Scheme}
use Rattle.service_api.specs.declared.scheme.SchemeTy.{SchemeTy}
use Rattle.service_api.specs.declared.scheme.SchemeTy.TheVariants.{Any, Is}
use Rattle.service_registry_spec.specs.declared.service.Service.{Service}
use Rattle.service_registry_spec.specs.declared.service.Service.TheVariants.{ThisHost, ThisHostIs, GetRb, GetSource, GetNeighbors, GetDist}
use Rattle.service_registry_spec.specs.declared.service.Service.TheVariants.{NextHop, Put, Get, Remove, GenerateKey, Print, Deliver}

abbrev pub all_services : List Service
all_services = ThisHost ∷ ThisHostIs ∷ GetRb ∷ GetSource ∷ GetNeighbors ∷ GetDist ∷ NextHop ∷ Put ∷ Get ∷ Remove ∷ GenerateKey ∷ Print ∷ Deliver ∷ []

abbrev pub name_of : Service → List ℕ
name_of ThisHost = codes "thisHost"
name_of ThisHostIs = codes "thisHostIs"
name_of GetRb = codes "getRB"
name_of GetSource = codes "getSource"
name_of GetNeighbors = codes "getNeighbors"
name_of GetDist = codes "getDist"
name_of NextHop = codes "nextHop"
name_of Put = codes "put"
name_of Get = codes "get"
name_of Remove = codes "remove"
name_of GenerateKey = codes "generateKey"
name_of Print = codes "print"
name_of Deliver = codes "deliver"

abbrev pub package_of : Service → PackageName
package_of ThisHost = Net
package_of ThisHostIs = Net
package_of GetRb = Net
package_of GetSource = Net
package_of GetNeighbors = Net
package_of GetDist = Net
package_of NextHop = Net
package_of Put = Resident
package_of Get = Resident
package_of Remove = Resident
package_of GenerateKey = Resident
package_of Print = Host
package_of Deliver = Host

-- a host with the device that leads to it
abbrev pub hop_type : Ty
hop_type = ty.Tuple (ty.Host ∷ ty.Dev ∷ [])

abbrev pub takes : List SchemeTy → Ty → Scheme
takes params result = record { params = params; result = Is result }

abbrev pub type_of : Service → Scheme
type_of ThisHost = takes [] ty.Host
type_of ThisHostIs = takes (Is ty.Host ∷ []) ty.Bool
type_of GetRb = takes [] ty.Int
type_of GetSource = takes [] ty.Host
type_of GetNeighbors = takes [] (ty.List hop_type)
type_of GetDist = takes (Is ty.Host ∷ []) ty.Int
type_of NextHop = takes (Is ty.Host ∷ []) hop_type
type_of Put = takes (Is ty.Str ∷ Is ty.Int ∷ Any ∷ Is ty.Int ∷ []) ty.Unit
type_of Get = record { params = Is ty.Str ∷ Is ty.Int ∷ []; result = Any }
type_of Remove = takes (Is ty.Str ∷ Is ty.Int ∷ []) ty.Unit
type_of GenerateKey = takes [] ty.Int
type_of Print = takes (Any ∷ []) ty.Unit
type_of Deliver = takes (Is ty.Int ∷ Any ∷ []) ty.Unit

-- the first of the services that has the name
abbrev pub service_named : List Service → List ℕ → Option Service
service_named [] name = None
service_named (s ∷ ss) name = if bytes_eq (name_of s) name then Some s else service_named ss name

-- the packages that are there
pub record InstalledPackages : Type 0 where
  pub net : Bool
  pub resident : Bool
  pub host : Bool

abbrev pub is_there : InstalledPackages → PackageName → Bool
is_there p Net = p.net
is_there p Resident = p.resident
is_there p Host = p.host

abbrev pub if_there : InstalledPackages → Option Service → Option Service
if_there p (Some s) = if is_there p (package_of s) then Some s else None
if_there p None = None

-- the service of the name, where its package is there
abbrev pub offered_service : InstalledPackages → List ℕ → Option Service
offered_service p name = if_there p (service_named all_services name)

abbrev pub type_offered : Option Service → Option Scheme
type_offered (Some s) = Some (type_of s)
type_offered None = None

abbrev pub scheme_of : InstalledPackages → List ℕ → Option Scheme
scheme_of p name = type_offered (offered_service p name)
