-- Crossings and families, by their keys in the code.
use Rattle.std.specs.Prelude.{Option, Some, None}
use Rattle.plan_base.specs.declared.ids.Family.{Family}
use Rattle.net_world_spec.specs.declared.lines.LinkEnd.{LinkEnd}
use Rattle.ledger_audit.specs.Crossings.{Crossing}
use Rattle.ledger_audit.specs.declared.keys.EndKey.{EndKey}
use Rattle.ledger_audit.specs.declared.keys.CrossingKey.{CrossingKey}
use Rattle.ledger_audit.specs.declared.keys.FamilyKey.{FamilyKey}

-- the end that a key names, if it names one
abbrev pub end_of : Option EndKey → Option LinkEnd
end_of None = None
end_of (Some k) = Some (record { host = record { 0 = k.host }; dev = record { 0 = k.dev } })

-- the crossing of a key
abbrev pub crossing_of : CrossingKey → Crossing
crossing_of k = record { from = end_of k.from; bytes = k.bytes.items }

-- the family of a key
abbrev pub family_of : FamilyKey → Family
family_of k = record { source = record { 0 = k.host }; serial = k.serial }
