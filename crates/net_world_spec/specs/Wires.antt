-- How often a number goes onto the wire and off it, and where its frame leads.
use Rattle.std.specs.Prelude.{◌≡◌, ℕ, ◌+◌, ◌≤◌, ◌==◌, if◌then◌else◌, List, sum_by, Some, All}
use Rattle.net_world_spec.specs.declared.lines.Line.{Line}
use Rattle.net_world_spec.specs.declared.lines.Line.TheVariants.{Wire, Off}
use Rattle.net_world_spec.specs.declared.lines.Entry.{Entry}
use Rattle.net_world_spec.specs.declared.lines.FrameOnWire.{FrameOnWire}
use Rattle.net_world_spec.specs.World.{Cables, WorldState, far_end}
use Rattle.net_world_spec.specs.Counts.{tally}

-- 1 for the same number
unfoldable pub one_if : ℕ → ℕ → ℕ
one_if n m = if m == n then 1 else 0

-- a line that puts the frame of a number onto the wire
abbrev pub line_sent : ℕ → Line → ℕ
line_sent n (Wire m bytes) = one_if n m
line_sent n _ = 0

-- a line that takes it off, by a delivery or a loss
abbrev pub line_off : ℕ → Line → ℕ
line_off n (Off m) = one_if n m
line_off n _ = 0

-- how often a number was sent, and how often it was delivered or lost
abbrev pub times_sent : ℕ → List Entry → ℕ
times_sent n = tally (line_sent n)

abbrev pub times_off : ℕ → List Entry → ℕ
times_off n = tally (line_off n)

-- how many frames of a number are on the wire
unfoldable pub on_wire : ℕ → List FrameOnWire → ℕ
on_wire n wire = sum_by (λ x. one_if n x.number) wire

-- each number is sent at most once, and then it is on the wire, or was delivered or lost, once
pub record IsOnce (n : ℕ) (history : List Entry) (w : WorldState) : Type 0 where
  pub sent : times_sent n history ≤ 1
  pub account : times_sent n history ≡ times_off n history + on_wire n w.wire

-- each frame on the wire is to arrive at the other end of the link over which it was sent
abbrev pub WireLeads : Cables → List FrameOnWire → Type 0
WireLeads links wire = All (λ x. far_end links x.from.host x.from.dev ≡ Some x.to) wire
