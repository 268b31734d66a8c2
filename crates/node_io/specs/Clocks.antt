-- A clock.
use Rattle.std.specs.Prelude.{ℕ, Bool, IsTrue, List, ◌≡◌, drop, get_or}

-- a clock, as contracts see it. The answers to come and the last one, 0 before the first, are known where it is observable
pub record ClockState : Type 0 where
  pub observable : Bool
  pub answers : List ℕ
  pub last : ℕ

-- the next answer was given, or the last one once more
pub record Tells (old new : ClockState) (answer : ℕ) : Type 0 where
  pub observable : new.observable ≡ old.observable
  pub told : IsTrue old.observable → answer ≡ get_or old.answers 0 old.last
  pub answers : IsTrue old.observable → new.answers ≡ drop 1 old.answers
  pub last : IsTrue old.observable → new.last ≡ answer
