-- The packages that are there, as definitions see them.
use Rattle.service_registry_spec.specs.Offered.{InstalledPackages}
use Rattle.service_registry.specs.declared.installed_packages.InstalledPackages.{InstalledPackages as InCode}

abbrev pub present_of : InCode → InstalledPackages
present_of t = record { net = t.net; resident = t.resident; host = t.host }
