-- What every call of a spawner leaves.
use Rattle.std.proofs.Common.{◌≡◌, ◌∙◌, ℕ, Bool, true, Result, Ok, Err, refl, arith}
use Rattle.std.specs.Result.{is_err}
use Rattle.node_io.specs.Causes.{HasRisen}
use Rattle.node_io.specs.declared.spawner.Child.{Child}
use Rattle.node_io.specs.Spawners.{SpawnerState, KeepsStatuses, WaitResult}

pub kept_same : (a : SpawnerState) → KeepsStatuses a a
kept_same a = record { observable = refl; statuses = refl; later = omega arith }

pub kept_both : (a b c : SpawnerState) → KeepsStatuses a b → KeepsStatuses b c → KeepsStatuses a c
kept_both a b c u v = record { observable = v.observable ∙ u.observable; statuses = v.statuses ∙ u.statuses; later = omega (arith, u.later, v.later) }

-- what a test of a waiting says of it
pub wait_failed : {E : Type 0} (child : Child) (a b : SpawnerState) (r : Result ℕ E) (t : Bool) → t ≡ is_err r → t ≡ true → WaitResult child a b r → HasRisen a.faults b.faults
wait_failed child a b (Ok s) t e f h = absurd (cc)
wait_failed child a b (Err x) t e f h = h
