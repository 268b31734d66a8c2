use Rattle.net_world_spec.proofs.Walking.{hop_leads, home}
use Rattle.net_world_spec.proofs.moves.routes_lead.Goals as goal

pub returns : goal.returns
returns c = record { other = λ far w x n row h hop. ((hop_leads far w x n row h hop).end, (hop_leads far w x n row h hop).leads); own = home }
