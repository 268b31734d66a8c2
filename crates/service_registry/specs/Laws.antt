-- The laws of services hold of a registry.
use Rattle.service_api.specs.Services.{IsGoodServe, RefusesOthers}
use Rattle.service_registry_spec.specs.Serving.{serve, offer}
use Rattle.service_registry_spec.proofs.Goods.{serve_good}
use Rattle.service_registry_spec.proofs.Refusals.{refuses}
use Rattle.service_registry.specs.RegistryState.{RegistryState}

pub registry_good : (h : RegistryState) → IsGoodServe (serve h.there)
registry_good h = serve_good h.there

pub registry_refuses : (h : RegistryState) → RefusesOthers (offer h.there)
registry_refuses h = refuses h.there
