use Rattle.std.proofs.Common.{refl, ap, ◌∙◌}
use Rattle.std.specs.Prelude.{map}
use Rattle.dv_routing.specs.Lanes.{fresh_lane}
use Rattle.dv_routing.proofs.Tables.{lanes_open}
use Rattle.dv_routing.proofs.table.Table.new.Goals as goal

pub returns : goal.returns
returns c = record {
  here = refl;
  hosts = c.in_ok-from_slice.ensures ∙ c.as_slice-3.ensures;
  lanes = c.in_ok-lanes.ensures
      ∙ (ap (λ hs. map (fresh_lane hs) c.as_slice-2.result.now) c.as_slice.ensures
      ∙ (ap (map (fresh_lane c.args.hosts.now)) c.as_slice-2.ensures ∙ lanes_open c.args.here c.args.hosts.now c.args.neighbours.now c.args.neighbours.now));
}
