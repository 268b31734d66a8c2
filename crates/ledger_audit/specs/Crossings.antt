-- Frames as they cross from one end of a link to the other.
use Rattle.std.specs.Prelude.{ℕ, suc, ◌≤◌, Bool, true, false, ◌==◌, ◌&&◌, if◌then◌else◌, nat_lt, List, [], ◌∷◌, map, Option, Some, None}
use Rattle.std.specs.Str.{bytes_eq}
use Rattle.net_world_spec.specs.declared.lines.LinkEnd.{LinkEnd}

-- the end that sends a frame, where a link or the node itself leads from it, and the frame's bytes
pub record Crossing : Type 0 where
  pub from : Option LinkEnd
  pub bytes : List ℕ

-- whether two ends are the same, where a frame that comes from no end is the same as another such
abbrev pub same_end : Option LinkEnd → Option LinkEnd → Bool
same_end None None = true
same_end None (Some b) = false
same_end (Some a) None = false
same_end (Some a) (Some b) = (a.host.0 == b.host.0) && (a.dev.0 == b.dev.0)

-- whether these are the same bytes from the same end
unfoldable pub same_crossing : Crossing → Crossing → Bool
same_crossing a b = same_end a.from b.from && bytes_eq a.bytes b.bytes

-- how often a crossing stands in a list
abbrev pub times : Crossing → List Crossing → ℕ
times c [] = 0
times c (d ∷ ds) = if same_crossing c d then suc (times c ds) else times c ds

-- an accepted frame: its log and its event, from 1, and the crossing
pub record Arrival : Type 0 where
  pub log : ℕ
  pub event : ℕ
  pub crossing : Crossing

-- an accepted frame that stands more often than it was sent
pub record Over : Type 0 where
  pub log : ℕ
  pub event : ℕ
  pub accepted : ℕ
  pub sent : ℕ

-- the first arrival that, with those before it, stands more often than it was sent
abbrev pub first_over : List Crossing → List Crossing → List Arrival → Option Over
first_over sent seen [] = None
first_over sent seen (a ∷ more) =
    if nat_lt (times a.crossing sent) (suc (times a.crossing seen))
    then Some (record { log = a.log; event = a.event; accepted = suc (times a.crossing seen); sent = times a.crossing sent })
    else first_over sent (a.crossing ∷ seen) more

-- what crossed, without the numbers
abbrev pub crossings : List Arrival → List Crossing
crossings arrivals = map (λ a. a.crossing) arrivals

-- each crossing stands in the first list at most as often as in the second
abbrev pub AtMost : List Crossing → List Crossing → Type 0
AtMost xs ys = (c : Crossing) → times c xs ≤ times c ys

-- a list without the first one that is the same
abbrev pub less_one : Crossing → List Crossing → List Crossing
less_one c [] = []
less_one c (d ∷ ds) = if same_crossing c d then ds else d ∷ less_one c ds

-- a list without these, each once
abbrev pub less_each : List Crossing → List Crossing → List Crossing
less_each [] ys = ys
less_each (x ∷ xs) ys = less_each xs (less_one x ys)
