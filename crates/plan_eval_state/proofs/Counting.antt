-- How much is left to be done.
use Rattle.std.proofs.Common.{◌≡◌, ◌<◌, ◌≤◌, ℕ, ◌+◌, length, arith, ◌≢◌, refl}
use Rattle.plan_eval_state.specs.declared.progress.Progress.{Progress}
use Rattle.plan_eval_state.specs.declared.progress.Progress.TheVariants as came
use Rattle.plan_eval_state.specs.declared.run.Run.{Run}
use Rattle.plan_eval_state.specs.Flow.{Spends, Lasts}
use Rattle.plan_eval_state.specs.Loop.{load}

-- an expression that paid and went on has begun
pub lasts_spends : (depth other old mid : ℕ) (p : Progress) (run : Run) → mid < old → Lasts other mid p run → Spends depth old p run
lasts_spends depth other old mid came.Done run less h = omega (arith, less, h)
lasts_spends depth other old mid came.Wait run less h = (omega (arith, less, h.0), λ some. omega (arith, less, h.1))
lasts_spends depth other old mid came.Raised run less h = omega (arith, less, h)
lasts_spends depth other old mid came.Spent run less h = omega (arith, less, h)
lasts_spends depth other old mid came.Wrong run less h = omega (arith, less, h)
lasts_spends depth other old mid came.NoMemory run less h = omega (arith, less, h)

-- a part that began is one that goes on
pub spends_lasts : (depth old mid : ℕ) (p : Progress) (run : Run) → mid ≤ old → Spends depth mid p run → Lasts depth old p run
spends_lasts depth old mid came.Done run less h = omega (arith, less, h)
spends_lasts depth old mid came.Wait run less h = (omega (arith, less, h.0), omega (arith, less, h.0), λ some. omega (arith, less, h.1 some))
spends_lasts depth old mid came.Raised run less h = omega (arith, less, h)
spends_lasts depth old mid came.Spent run less h = omega (arith, less, h)
spends_lasts depth old mid came.Wrong run less h = omega (arith, less, h)
spends_lasts depth old mid came.NoMemory run less h = omega (arith, less, h)

-- what doesn't wait lasts
pub settled_lasts : (depth old : ℕ) (p : Progress) (run : Run) → p ≢ came.Wait → run.state.work ≤ old → Lasts depth old p run
settled_lasts depth old came.Done run settled less = less
settled_lasts depth old came.Wait run settled less = absurd (settled refl)
settled_lasts depth old came.Raised run settled less = less
settled_lasts depth old came.Spent run settled less = less
settled_lasts depth old came.Wrong run settled less = less
settled_lasts depth old came.NoMemory run settled less = less

-- one that goes on lasts from more too
pub lasts_later : (depth old mid : ℕ) (p : Progress) (run : Run) → mid ≤ old → Lasts depth mid p run → Lasts depth old p run
lasts_later depth old mid came.Done run less h = omega (arith, less, h)
lasts_later depth old mid came.Wait run less h = (omega (arith, less, h.0), omega (arith, less, h.1), λ some. omega (arith, less, h.2 some))
lasts_later depth old mid came.Raised run less h = omega (arith, less, h)
lasts_later depth old mid came.Spent run less h = omega (arith, less, h)
lasts_later depth old mid came.Wrong run less h = omega (arith, less, h)
lasts_later depth old mid came.NoMemory run less h = omega (arith, less, h)

-- a turn that begins what waits makes the load less
pub wake_less : (depth conts onto_conts : ℕ) (p : Progress) (old new : Run) → 0 < depth → onto_conts ≡ length old.paused + conts → Spends depth old.state.work p new
    → load p onto_conts new < load came.Wait conts old
wake_less depth conts all came.Done old new some e h = omega (arith, e, h)
wake_less depth conts all came.Wait old new some e h = omega (arith, e, h.0, h.1 some)
wake_less depth conts all came.Raised old new some e h = omega (arith, e, h)
wake_less depth conts all came.Spent old new some e h = omega arith
wake_less depth conts all came.Wrong old new some e h = omega arith
wake_less depth conts all came.NoMemory old new some e h = omega arith

-- a turn that goes on with what waits innermost makes it less
pub go_less : (depth conts : ℕ) (p : Progress) (old new : Run) → 0 < depth → Lasts depth old.state.work p new → load p conts new < load came.Done (conts + 1) old
go_less depth conts came.Done old new some h = omega (arith, h)
go_less depth conts came.Wait old new some h = omega (arith, h.0, h.2 some)
go_less depth conts came.Raised old new some h = omega (arith, h)
go_less depth conts came.Spent old new some h = omega arith
go_less depth conts came.Wrong old new some h = omega arith
go_less depth conts came.NoMemory old new some h = omega arith
