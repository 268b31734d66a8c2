-- When a call of the environment may fail: a count of faults rises in it.
use Rattle.std.specs.Prelude.{ℕ, List, ◌+◌, ◌-◌, ◌^◌, ◌≤◌, ◌==◌, min, IsTrue}
use Rattle.std.specs.List.{list_any}

-- a count rose: it is greater now, or stands at its last value
abbrev pub HasRisen : ℕ → ℕ → Type 0
HasRisen before now = min (before + 1) (2 ^ 64 - 1) ≤ now

-- the count after one more, which stands still at its last value
abbrev pub one_more : ℕ → ℕ
one_more n = min (n + 1) (2 ^ 64 - 1)

-- the call with this number, counted from 1, is among those that are to fail
abbrev pub IsDue : List ℕ → ℕ → Type 0
IsDue fails call = IsTrue (list_any (λ n. n == call) fails)
