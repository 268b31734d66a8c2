-- What isn't offered is refused; the service of a name has that name.
use Rattle.std.proofs.Common.{◌≡◌, ℕ, Bool, true, false, if◌then◌else◌, List, [], ◌∷◌, Option, Some, None, is_some, refl, sym, ap, ◌∙◌}
use Rattle.std.proofs.lemmas.Slice.Eq.{bytes_eq-Decides}
use Rattle.std.specs.Str.{bytes_eq}
use Rattle.containers.proofs.Options.{none-some, some-same}
use Rattle.plan_base.specs.declared.tree.Svc.{Svc}
use Rattle.plan_base.specs.declared.tree.Ty.{Ty}
use Rattle.plan_base.specs.declared.tree.Value.{Value}
use Rattle.service_api.specs.declared.ctx.Ctx.{Ctx}
use Rattle.service_api.specs.Schemes.{instance, is_instance_of}
use Rattle.service_api.specs.Services.{Rows, RefusesOthers, refused_call}
use Rattle.service_registry_spec.specs.declared.service.Service.{Service}
use Rattle.service_registry_spec.specs.Offered.{InstalledPackages, name_of, service_named, all_services, if_there, is_there, package_of, offered_service, type_of, type_offered}
use Rattle.service_registry_spec.specs.Serving.{serve_at, serve_offered, serve, offer}

refused_at : (t : Option Ty) (s : Service) (args : List Value) (ctx : Ctx) (rows : Rows) → is_some t ≡ false → serve_at t s args ctx rows ≡ refused_call rows
refused_at None s args ctx rows e = refl
refused_at (Some a) s args ctx rows e = cc

refused_offered : (o : Option Service) (svc : Svc) (args : List Value) (ctx : Ctx) (rows : Rows) → is_instance_of (type_offered o) svc ≡ false → serve_offered o svc args ctx rows ≡ refused_call rows
refused_offered None svc args ctx rows e = refl
refused_offered (Some s) svc args ctx rows e = refused_at (instance (type_of s) svc) s args ctx rows e

pub refuses : (p : InstalledPackages) → RefusesOthers (offer p)
unfolding serve
refuses p svc args ctx rows e = refused_offered (offered_service p svc.name) svc args ctx rows e

module _ (name : List ℕ) (s : Service) where
  -- the recursion's result is an argument, so that the cases stand outside of it
  first_or : (x : Service) (rest : Option Service) → (rest ≡ Some s → name ≡ name_of s) → (b : Bool) → bytes_eq (name_of x) name ≡ b → (if b then Some x else rest) ≡ Some s → name ≡ name_of s
  first_or x rest later true t f = sym ((bytes_eq-Decides (name_of x) name).0 t) ∙ ap name_of (some-same f)
  first_or x rest later false t f = later f

  named_is : (ss : List Service) → service_named ss name ≡ Some s → name ≡ name_of s
  named_is [] e = absurd (none-some e)
  named_is (x ∷ xs) e = first_or x (service_named xs name) (named_is xs) (bytes_eq (name_of x) name) refl e

if_some : (b : Bool) (x s : Service) → (if b then Some x else None) ≡ Some s → Some x ≡ Some s
if_some true x s f = f
if_some false x s f = absurd (none-some f)

there_is : (p : InstalledPackages) (o : Option Service) (s : Service) → if_there p o ≡ Some s → o ≡ Some s
there_is p None s e = e
there_is p (Some x) s e = if_some (is_there p (package_of x)) x s e

pub offered_is : (p : InstalledPackages) (name : List ℕ) (s : Service) → offered_service p name ≡ Some s → name ≡ name_of s
offered_is p name s e = named_is name s all_services (there_is p (service_named all_services name) s e)
