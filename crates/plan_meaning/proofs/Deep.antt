-- A visit at a depth above its work is the visit, and asks services well.
use Rattle.std.proofs.Common.{◌≡◌, ℕ, ◌<◌, sym, subst}
use Rattle.plan_base.specs.declared.tree.Chunk.{Chunk}
use Rattle.plan_base.specs.declared.tree.Value.{Value}
use Rattle.plan_types_spec.specs.Typing.{IsTypedChunk, within}
use Rattle.plan_base.specs.WellFormed.{IsWellFormedChunk}
use Rattle.service_api.specs.Services.{IsGoodChunk}
use Rattle.plan_meaning.specs.State.{VisitState}
use Rattle.plan_meaning.specs.Run.{RunStep}
use Rattle.plan_meaning.specs.Meaning.{run_to, meaning, visited_chunk}
use Rattle.plan_meaning.specs.Safe.{IsSafe, IsGoodState}
use Rattle.plan_meaning.proofs.Walk.{visited_kept}
use Rattle.plan_meaning.proofs.Within.{Within, within_kept, deep_enough}
use Rattle.plan_meaning.proofs.Sound.{visit_soundness}

pub deep_visit : (n : ℕ) (k : Chunk) (s : VisitState) → s.work < n → visited_chunk (run_to n) k s ≡ visited_chunk meaning k s
deep_visit n k s h = (visited_kept (Within n) (within_kept n) (run_to n) meaning (deep_enough n) k s h).same

safe_visit : (k : Chunk) (s : VisitState) → IsTypedChunk k → IsWellFormedChunk k → IsGoodState s → IsSafe (visited_chunk meaning k s).asks
safe_visit k s (within at d t p g h n w) f l = (visit_soundness k at d (record { typed = within at d t p g h n w; formed = f }) p g s l).safe

pub deep_safe : (n : ℕ) (k : Chunk) (s : VisitState) → s.work < n → IsGoodChunk k → IsGoodState s → IsSafe (visited_chunk (run_to n) k s).asks
deep_safe n k s h t l = subst (λ (r : RunStep Value). IsSafe r.asks) (sym (deep_visit n k s h)) (safe_visit k s t.typed t.formed l)
