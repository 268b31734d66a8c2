use Rattle.std.proofs.Common.{◌≡◌, ◌+◌, ◌*◌, ◌++◌, ◌≤◌, take}
use Rattle.reliable_ports_world.specs.Scripts.{script_of, begun_ports, state_at}
use Rattle.reliable_ports_world.specs.Texts.{script_told}
use Rattle.reliable_ports_world.specs.Stands.{PortStands, budget}
use Rattle.reliable_ports_world.proofs.run.run_events.Given as goal

abbrev pub invariant-loop-event : goal.invariant-loop-event
invariant-loop-event g l = record {
  number : l.number ≡ l.event-index + 1;
  stands : PortStands g.S.Services.stands l.ports (state_at l.file l.event-index);
  text : l.text ≡ l.initial.text ++ script_told 1 (take l.event-index (script_of l.file)) (begun_ports l.file);
  cost : budget l.ports ≤ budget l.initial.ports + 4 * l.event-index;
}
