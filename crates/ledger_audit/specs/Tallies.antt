-- How often frames were sent and accepted, as the code counts them.
use Rattle.std.specs.Prelude.{◌≡◌, ◌+◌, ◌<◌, min, if◌then◌else◌, List, length, unwrap_or}
use Rattle.std.specs.Map.{lookup}
use Rattle.ledger_audit.specs.Crossings.{Crossing, Arrival, same_crossing, times}
use Rattle.ledger_audit.specs.declared.keys.CrossingKey.{CrossingKey}
use Rattle.ledger_audit.specs.declared.tally.SendCount.{SendCount}
use Rattle.ledger_audit.specs.declared.tally.Tallies.{Tallies}
use Rattle.ledger_audit.specs.Keys.{crossing_of}

-- neither sent nor accepted
abbrev pub none : SendCount
none = record { sent = 0; accepted = 0 }

-- once more sent; the count stands still at the last value of 32 bits
abbrev pub one_sent : SendCount → SendCount
one_sent t = record { sent = min (t.sent + 1) 4294967295; accepted = t.accepted }

-- once more accepted; so does this one
abbrev pub one_accepted : SendCount → SendCount
one_accepted t = record { sent = t.sent; accepted = min (t.accepted + 1) 4294967295 }

-- the counts of a crossing among entries
unfoldable pub tally_of : Crossing → List (CrossingKey × SendCount) → SendCount
tally_of c es = unwrap_or (lookup (λ k. same_crossing c (crossing_of k)) es) none

-- the counts of a crossing in the code
abbrev pub tally_in : Crossing → Tallies → SendCount
tally_in c t = tally_of c t.rows.entries

-- the counts of one crossing are changed so, and no other's
abbrev pub Changes : (SendCount → SendCount) → Crossing → Tallies → Tallies → Type 0
Changes move x old new = (c : Crossing) → tally_in c new ≡ (if same_crossing c x then move (tally_in c old) else tally_in c old)

-- each crossing is counted as often as it stands in what was sent and in what was accepted, up to the last value of 32 bits
abbrev pub Tallied : List Crossing → List Crossing → Tallies → Type 0
Tallied sent seen t = (c : Crossing) → tally_in c t ≡ record { sent = min (times c sent) 4294967295; accepted = min (times c seen) 4294967295 }

-- so few are sent and accepted that no count stands still
abbrev pub AreFew : List Crossing → List Arrival → Type 0
AreFew sent accepted = (length sent < 4294967295) × (length accepted < 4294967295)
