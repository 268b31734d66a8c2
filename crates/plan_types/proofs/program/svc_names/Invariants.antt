use Rattle.std.proofs.Common.{◌≡◌, take}
use Rattle.std.specs.Prelude.{map}
use Rattle.plan_base.specs.declared.tree.Svc.{Svc}
use Rattle.plan_types.proofs.program.svc_names.Given as goal

abbrev pub invariant-loop-svc : goal.invariant-loop-svc
invariant-loop-svc l = l.all ≡ map (λ (d : Svc). d.name) (take l.svc-index l.svcs)
