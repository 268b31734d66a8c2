use Rattle.std.proofs.Common.{◌≡◌, min, take}
use Rattle.std.specs.List.{sum_by}
use Rattle.plan_base.specs.Sizes.{svc_size}
use Rattle.plan_base_size.proofs.sizes.svcs_size.Given as goal

abbrev pub invariant-loop-svc : goal.invariant-loop-svc
invariant-loop-svc l = l.total ≡ min (sum_by svc_size (take l.svc-index l.svcs)) 18446744073709551615
