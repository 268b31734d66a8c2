-- Which numbers a window stands for, and what it does on its own.
use Rattle.std.specs.Prelude.{◌≡◌, ℕ, ◌+◌, ◌-◌, ◌<◌, ◌/◌, ◌%◌, max, ◌==◌, ◌&&◌, nat_lt, nat_le, if◌then◌else◌, List, [], ◌∷◌, length, get_or, set}
use Rattle.plan_base.specs.declared.stamp.Stamp.{Stamp}
use Rattle.replay_window.specs.declared.window.Took.{Took}
use Rattle.replay_window.specs.declared.window.Took.TheVariants.{Fresh, Repeated, TooOld}
use Rattle.replay_window.specs.declared.window.Window.{Window}
use Rattle.replay_window.specs.Seen.{Seen, greatest}

-- how often 1,024 goes into a number, and one more
abbrev pub turn_of : ℕ → ℕ
turn_of n = n / 1024 + 1

-- the turn of a number at its own place, 0 at every other one
unfoldable pub turn_at : ℕ → ℕ → ℕ
turn_at i n = if n % 1024 == i then turn_of n else 0

-- the greatest turn of some numbers at a place
unfoldable pub turn_in : ℕ → List ℕ → ℕ
turn_in i [] = 0
turn_in i (n ∷ ns) = max (turn_at i n) (turn_in i ns)

-- a window stands for the numbers taken: it keeps the greatest one, and at each place the greatest turn
pub record WindowStands (seen : Seen) (w : Window) : Type 0 where
  pub boot : w.boot ≡ seen.boot
  pub top : w.top ≡ greatest seen.numbers
  pub places : length w.turns ≡ 1024
  pub turns : (i : ℕ) → i < 1024 → get_or w.turns i 0 ≡ turn_in i seen.numbers

-- what the window takes a number of its sender as
unfoldable pub number_took : Window → ℕ → Took
number_took w n = if nat_le 1024 w.top && nat_le n (w.top - 1024) then TooOld
    else if get_or w.turns (n % 1024) 0 == turn_of n then Repeated else Fresh

-- what the window takes a stamp as
unfoldable pub window_took : Window → Stamp → Took
window_took w s = if nat_lt s.boot w.boot then TooOld else if s.boot == w.boot then number_took w s.link else Fresh

-- the window with one number more
unfoldable pub window_with : Window → ℕ → Window
window_with w n = record { boot = w.boot; top = max w.top n; turns = set w.turns (n % 1024) (turn_of n) }
