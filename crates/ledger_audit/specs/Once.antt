-- Logs of nodes of version 2.
use Rattle.std.specs.Prelude.{◌≡◌, ◌≢◌, List, [], ◌∷◌, IsSomeAnd}
use Rattle.std.specs.List.{AllByRecursion}
use Rattle.plan_base.specs.declared.ids.Host.{Host}
use Rattle.plan_base.specs.declared.stamp.Version.{Version}
use Rattle.plan_base.specs.declared.stamp.Version.TheVariants.{Two}
use Rattle.network_config.specs.declared.event.LogEvent.{LogEvent}
use Rattle.network_config.specs.declared.event.LogEvent.TheVariants.{Step, Lost}
use Rattle.node_core_spec.specs.Fits.{NodeFits, comes_fit}
use Rattle.ledger_audit.specs.Crossings.{Crossing}
use Rattle.ledger_audit.specs.Audits.{Logged}
use Rattle.ledger_audit.specs.Spelling.{Begins, ReadsAgain}

-- what comes with each entry keeps the limits of a version
abbrev pub EntriesFit : Version → List LogEvent → Type 0
EntriesFit v [] = Unit {0}
EntriesFit v (Step e ∷ es) = comes_fit v e × EntriesFit v es
EntriesFit v (Lost ∷ es) = EntriesFit v es

-- a log of a node of version 2, from its beginning, whose frames are read again
pub record IsOfTwo (l : Logged) : Type 0 where
  pub version : l.node.version ≡ Two
  pub fits : NodeFits l.node
  pub begin : Begins l
  pub entries : EntriesFit Two l.entries
  pub read : ReadsAgain l

-- a crossing comes from a device of this host
abbrev pub ComesFrom : Crossing → Host → Type 0
ComesFrom c h = IsSomeAnd c.from (λ e. e.host.0 ≡ h.0)

-- the log of the host that a crossing comes from, if there is one, is of version 2
abbrev pub FromTwo : Crossing → List Logged → Type 0
FromTwo c logs = AllByRecursion (λ l. ComesFrom c l.node.here → IsOfTwo l) logs

-- no two logs are of one host
abbrev pub HostsApart : List Logged → Type 0
HostsApart [] = Unit {0}
HostsApart (l ∷ ls) = AllByRecursion (λ m. m.node.here.0 ≢ l.node.here.0) ls × HostsApart ls
