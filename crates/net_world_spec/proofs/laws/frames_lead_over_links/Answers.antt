use Rattle.net_world_spec.proofs.Wires.{opening_leads}
use Rattle.net_world_spec.proofs.laws.frames_lead_over_links.Goals as goal

pub returns : goal.returns
returns c = opening_leads
