-- The numbers that a device took, and what it takes the next one as.
use Rattle.std.specs.Prelude.{ℕ, ◌+◌, max, Bool, true, false, ◌==◌, nat_lt, nat_le, if◌then◌else◌, List, [], ◌∷◌}
use Rattle.std.specs.List.{list_any}
use Rattle.plan_base.specs.declared.stamp.Stamp.{Stamp}
use Rattle.replay_window.specs.declared.window.Took.{Took}
use Rattle.replay_window.specs.declared.window.Took.TheVariants.{Fresh, Repeated, TooOld}

-- the moment at which the last sender began, and all numbers taken from it
pub record Seen : Type 0 where
  pub boot : ℕ
  pub numbers : List ℕ

abbrev pub nothing_seen : Seen
nothing_seen = record { boot = 0; numbers = [] }

-- the greatest of some numbers, 0 where there is none
unfoldable pub greatest : List ℕ → ℕ
greatest [] = 0
greatest (n ∷ ns) = max n (greatest ns)

-- whether a number is among those taken
unfoldable pub is_taken : ℕ → List ℕ → Bool
is_taken n ns = list_any (λ m. m == n) ns

-- a number of the last sender: too old where it is 1,024 or more below the greatest one
unfoldable pub took_number : List ℕ → ℕ → Took
took_number ns n = if nat_le (n + 1024) (greatest ns) then TooOld else if is_taken n ns then Repeated else Fresh

-- what the next stamp is taken as
unfoldable pub took : Seen → Stamp → Took
took seen s = if nat_lt s.boot seen.boot then TooOld else if s.boot == seen.boot then took_number seen.numbers s.link else Fresh

-- a stamp is taken: all others are forgotten where the sender has begun anew
unfoldable pub seen_with : Seen → Stamp → Seen
seen_with seen s = if s.boot == seen.boot then record { boot = s.boot; numbers = s.link ∷ seen.numbers } else record { boot = s.boot; numbers = s.link ∷ [] }

abbrev pub seen_by : Took → Seen → Stamp → Seen
seen_by Fresh seen s = seen_with seen s
seen_by _ seen s = seen

-- what is taken after the next stamp
abbrev pub seen_after : Seen → Stamp → Seen
seen_after seen s = seen_by (took seen s) seen s

-- whether a stamp was taken as one that wasn't taken before
abbrev pub is_fresh : Took → Bool
is_fresh Fresh = true
is_fresh _ = false
