use Rattle.std.proofs.Common.{sym, subst, arith}
use Rattle.std.proofs.lemmas.Grind.{common_steps}
use Rattle.resident_tables.specs.Expiries.{AllStay}
use Rattle.resident_tables.proofs.Expiries.{without_stay}
use Rattle.resident_tables.proofs.tables.Tables.remove.Goals as goal

pub invariant_of-self : goal.invariant_of-self
invariant_of-self c = record {
  bytes = grind (arith, common_steps);
  fit = grind (arith, common_steps);
  least = c.self.invariant.least;
  stay = subst (λ xs. AllStay c.self.inside.earliest xs) (sym c.remove.ensures.items) (without_stay c.self.inside.earliest _ c.self.inside.rows.items c.self.invariant.stay);
}
