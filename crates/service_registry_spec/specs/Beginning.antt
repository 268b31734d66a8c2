-- What the services of a node stand for at the beginning, by the packages that the node lacks.
use Rattle.std.specs.Prelude.{Bool, true, false, not, ◌&&◌, List, [], None, pos}
use Rattle.std.specs.List.{list_any}
use Rattle.service_api.specs.declared.package.PackageName.{PackageName}
use Rattle.service_api.specs.declared.package.PackageName.TheVariants.{Net, Resident, Host}
use Rattle.service_api.specs.Services.{Rows, ServiceState}
use Rattle.service_registry_spec.specs.Offered.{InstalledPackages}
use Rattle.service_registry_spec.specs.Serving.{offer}

-- whether these are the same package
abbrev pub is_package : PackageName → PackageName → Bool
is_package Net Net = true
is_package Resident Resident = true
is_package Host Host = true
is_package _ _ = false

abbrev pub is_missing : List PackageName → PackageName → Bool
is_missing missing p = list_any (is_package p) missing

-- the packages that are there where these are missing
abbrev pub present_without : List PackageName → InstalledPackages
present_without missing = record { net = not (is_missing missing Net); resident = not (is_missing missing Resident); host = not (is_missing missing Host) }

-- the packages that are there but for this one
abbrev pub one_less : InstalledPackages → PackageName → InstalledPackages
one_less p missing =
    record {
      net = p.net && not (is_package Net missing);
      resident = p.resident && not (is_package Resident missing);
      host = p.host && not (is_package Host missing);
    }

-- no rows, and 1 as the next key
abbrev pub no_rows : Rows
no_rows = record { rows = []; «next» = pos 1 }

-- outside a visit, with no rows
abbrev pub opening_standing : InstalledPackages → ServiceState
opening_standing p = record { offer = offer p; rows = no_rows; begun = None; ready = false }
