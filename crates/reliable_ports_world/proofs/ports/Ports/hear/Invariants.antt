use Rattle.std.proofs.Common.{◌≡◌, take}
use Rattle.reliable_ports_world.specs.Ports.{PortState, hears}
use Rattle.reliable_ports_world.specs.Told.{lines_told}
use Rattle.reliable_ports_world.specs.Stands.{PortStands, Goes, budget}
use Rattle.reliable_ports_world.proofs.ports.Ports.hear.Given as goal

abbrev pub invariant-loop-line : goal.invariant-loop-line
invariant-loop-line g l = record {
  goes : (s : PortState) → PortStands g.S.Services.stands l.initial.self s
      → Goes g.S.Services.stands l.self (hears (take l.line-index l.lines) s) (lines_told l.number (take l.line-index l.lines) s) l.initial.text l.text;
  cost : budget l.self ≡ budget l.initial.self;
}
