-- What a file of an audit keeps.
use Rattle.std.specs.Prelude.{◌≡◌, ◌≢◌, ℕ, Bool, ◌≤◌, ◌<◌, ◌^◌, true, false, List, [], ◌∷◌, length}
use Rattle.std.specs.List.{All, list_any}
use Rattle.std.specs.Str.{bytes_eq}
use Rattle.network_config.specs.declared.schedule.Link.{Link}
use Rattle.network_config.specs.Rules.{IsLinkDevice, LinksApart}
use Rattle.network_config.specs.FileNames.{is_file_name}
use Rattle.command_files.specs.declared.audit.AuditFile.{AuditFile}

-- whether a file is among those that were named
abbrev pub is_named : List ℕ → List (List ℕ) → Bool
is_named file names = list_any (λ n. bytes_eq n file) names

-- no file is named twice
abbrev pub NamesDiffer : List (List ℕ) → Type 0
NamesDiffer [] = Unit {0}
NamesDiffer (n ∷ ns) = (is_named n ns ≡ false) × NamesDiffer ns

-- a link goes from a device of one host to a device of another, whether their logs are there or not
pub record JoinsHosts (l : Link) : Type 0 where
  pub from : l.from.0 < 2 ^ 32
  pub to : l.to.0 < 2 ^ 32
  pub apart : l.to.0 ≢ l.from.0
  pub from_device : IsLinkDevice l.from_dev
  pub to_device : IsLinkDevice l.to_dev

-- a file of an audit within its limits
pub record KeepsAudit (a : AuditFile) : Type 0 where
  pub some : 1 ≤ length a.logs
  pub few : length a.logs ≤ 16
  pub names : All (λ n. is_file_name n ≡ true) a.logs
  pub differ : NamesDiffer a.logs
  pub links : All JoinsHosts a.links
  pub apart : LinksApart a.links
