-- The packages that a node lacks.
use Rattle.std.specs.Prelude.{Bool, true, false, not, if◌then◌else◌, List, [], ◌∷◌, ◌++◌, ℕ, Option, Some, None, Result, Ok, Err}
use Rattle.std.specs.List.{list_any}
use Rattle.std.specs.Option.{ok_or}
use Rattle.std.specs.Str.{bytes_eq}
use lib.Chars.{codes}
use Rattle.service_api.specs.declared.package.PackageName.{PackageName}
use Rattle.service_api.specs.declared.package.PackageName.TheVariants as packages
use Rattle.line_reader.specs.declared.fault.LineReason.{LineReason}
use Rattle.line_reader.specs.declared.fault.LineReason.TheVariants.{BadWord, TwiceNamed}
use Rattle.line_reader.specs.Reads.{◌>>=◌, Part, word_at, allowed_or_reason}

-- the package that a word names
abbrev pub package_of : List ℕ → Option PackageName
package_of w =
    if bytes_eq w (codes "net") then Some packages.Net else
    (if bytes_eq w (codes "resident") then Some packages.Resident else (if bytes_eq w (codes "host") then Some packages.Host else None))

-- whether two packages are the same
abbrev pub same_package : PackageName → PackageName → Bool
same_package packages.Net packages.Net = true
same_package packages.Resident packages.Resident = true
same_package packages.Host packages.Host = true
same_package _ _ = false

-- the next word as a package, behind those that were named
unfoldable pub package_at : List PackageName → List (List ℕ) → Part (List PackageName)
package_at seen ws = do
  p ← word_at ws
  k ← ok_or (package_of p.0) BadWord
  _ ← allowed_or_reason (not (list_any (same_package k) seen)) TwiceNamed
  Ok (seen ++ k ∷ [], p.1)

-- one `without PACKAGE` behind others
unfoldable pub one_package : List PackageName → List (List ℕ) → Part (List PackageName)
one_package seen ws = do
  w ← word_at ws
  _ ← allowed_or_reason (bytes_eq w.0 (codes "without")) BadWord
  package_at seen w.1

-- `without PACKAGE` until the line ends
unfoldable pub packages_at : List PackageName → List (List ℕ) → Result (List PackageName) LineReason
packages_at seen [] = Ok seen
packages_at seen (w ∷ []) = Err BadWord
packages_at seen (w ∷ p ∷ ws) = do
  next ← one_package seen (w ∷ p ∷ ws)
  packages_at next.0 ws
