use Rattle.std.proofs.Common.{◌≡◌}
use Rattle.std.specs.Prelude.{map}
use Rattle.plan_parser.proofs.item.tuple_of.Given as goal

abbrev pub invariant-loop-item : goal.invariant-loop-item
invariant-loop-item l = (l.values ≡ map (λ i. i.value) l.yielded) × (l.types ≡ map (λ i. i.ty) l.yielded)
