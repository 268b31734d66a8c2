use Rattle.std.proofs.Common.{[], sym, subst}
use Rattle.bound_ledger.specs.Stands.{Stands}
use Rattle.bound_ledger.proofs.LineLaws.{nothing_stands}
use Rattle.grow_run.proofs.growth.GrowingNetwork.begin.Goals as goal

pub returns-clause-fresh : goal.returns-clause-fresh
returns-clause-fresh g c = record {
  world = c.in_ok-world.ensures;
  ledger = subst (Stands []) (sym c.in_ok-ledger.ensures) nothing_stands;
  summary = cc;
}
