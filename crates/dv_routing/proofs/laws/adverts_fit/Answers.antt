use Rattle.dv_routing.proofs.Rows.{advert_fits}
use Rattle.dv_routing.proofs.laws.adverts_fit.Goals as goal

pub returns : goal.returns
returns c = advert_fits
