-- What an allowance of work gives and nothing else.
use Rattle.std.specs.Prelude.{◌≡◌, ℕ}
use Rattle.plan_base.specs.declared.ids.Family.{Family}
use Rattle.plan_base.specs.declared.tree.Chunk.{Chunk}
use Rattle.service_api.specs.declared.ctx.Ctx.{Ctx}
use Rattle.service_api.specs.Services.{ServiceState}
use Rattle.plan_meaning.specs.declared.outcome.Visit.{Visit}
use Rattle.plan_meaning.specs.Visit.{IsVisit}

-- with so much work to spend the visit of the chunk ends so and leaves the services so, and in no other way
pub record GivesAlone (work : ℕ) (k : Chunk) (ctx : Ctx) (family : Family) (old : ServiceState) (r : Visit) (new : ServiceState) : Type 0 where
  pub gives : IsVisit work k ctx family old r new
  pub alone : (q : Visit) (other : ServiceState) → IsVisit work k ctx family old q other → (q ≡ r) × (other ≡ new)
