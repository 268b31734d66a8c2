use Rattle.net_world_spec.proofs.Keep.{goes_keep, goes_rise}
use Rattle.net_world_spec.proofs.moves.moves_keep.Goals as goal

pub returns : goal.returns
returns c = record { holds = goes_keep; rises = goes_rise }
