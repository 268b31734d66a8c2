use Rattle.std.proofs.Common.{◌≡◌, drop}
use Rattle.std.specs.List.{list_all}
use Rattle.plan_types_chunks.specs.Chunks.{fits, fit_all}
use Rattle.plan_types_chunks.proofs.shape.+fits.Given as goal

abbrev pub invariant-all_fit-loop-i : goal.invariant-all_fit-loop-i
invariant-all_fit-loop-i l = list_all (λ v. fits v l.t) l.values ≡ list_all (λ v. fits v l.t) (drop l.i l.values)

abbrev pub invariant-each_fits-loop-i : goal.invariant-each_fits-loop-i
invariant-each_fits-loop-i l = fit_all fits l.values l.types ≡ fit_all fits (drop l.i l.values) (drop l.i l.types)
