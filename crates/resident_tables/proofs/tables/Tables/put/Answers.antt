use Rattle.std.proofs.Common.{arith, w64}
use Rattle.std.proofs.lemmas.Grind.{common_steps}
use mir.Val.{to_z, of_z}
use Rattle.resident_tables.specs.Tables.{row_of}
use Rattle.resident_tables.proofs.Expiries.{stay_put}
use Rattle.resident_tables.proofs.tables.Tables.put.Goals as goal

pub invariant_of-self-2 : goal.invariant_of-self-2
invariant_of-self-2 c =
    let r = row_of c.args.name.now (to_z w64 (of_z w64 c.args.key)) c.args.ty.now c.args.value.now c.args.expiry in record {
      bytes = grind (arith, common_steps);
      fit = grind (arith, common_steps);
      least = c.self.invariant.least;
      stay = stay_put c.self.inside.earliest c.min-self-inside.result r c.self.inside.rows.items c.put_parts.new.rows.items c.min-self-inside.ensures c.in-Ok.ensures.ok c.self.invariant.stay;
    }
