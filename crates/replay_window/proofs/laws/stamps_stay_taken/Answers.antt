use Rattle.replay_window.proofs.Stale.{stale_once_seen, stays}
use Rattle.replay_window.proofs.laws.stamps_stay_taken.Goals as goal

pub returns : goal.returns
returns c = record { taken = stale_once_seen; stays = stays }
