-- What a call of a service means: NoService where its package is absent, the name is in no package, or the declaration is no
-- instance of the service's type.
use Rattle.std.specs.Prelude.{List, Option, Some, None}
use Rattle.plan_base.specs.declared.tree.Svc.{Svc}
use Rattle.plan_base.specs.declared.tree.Ty.{Ty}
use Rattle.plan_base.specs.declared.tree.Value.{Value}
use Rattle.service_api.specs.declared.ctx.Ctx.{Ctx}
use Rattle.service_api.specs.Schemes.{instance}
use Rattle.service_api.specs.Services.{Rows, Served, Offer, refused_call}
use Rattle.service_registry_spec.specs.declared.service.Service.{Service}
use Rattle.service_registry_spec.specs.Offered.{InstalledPackages, offered_service, scheme_of, type_of}
use Rattle.service_registry_spec.specs.Answers.{serve_as}

abbrev pub serve_at : Option Ty → Service → List Value → Ctx → Rows → Served
serve_at (Some a) s args ctx rows = serve_as s a args ctx rows
serve_at None s args ctx rows = refused_call rows

abbrev pub serve_offered : Option Service → Svc → List Value → Ctx → Rows → Served
serve_offered (Some s) svc args ctx rows = serve_at (instance (type_of s) svc) s args ctx rows
serve_offered None svc args ctx rows = refused_call rows

-- what a call means where these packages are there
unfoldable pub serve : InstalledPackages → Svc → List Value → Ctx → Rows → Served
serve p svc args ctx rows = serve_offered (offered_service p svc.name) svc args ctx rows

abbrev pub offer : InstalledPackages → Offer
offer p = record { scheme = scheme_of p; serve = serve p }
