-- What is injected may come to a node of another version where that takes its handler.
use Rattle.std.proofs.Common.{◌≡◌, true, Option, Some, None, refl, sym, subst}
use Rattle.plan_base.specs.declared.name.Name.{Name}
use Rattle.plan_base.specs.declared.tree.Chunk.{Chunk}
use Rattle.plan_types_spec.specs.Handlers.{MayHandle}
use Rattle.plan_base.specs.declared.stamp.Version.{Version}
use Rattle.plan_base.specs.declared.stamp.Version.TheVariants.{One, Two}
use Rattle.network_config.specs.declared.serve.Inject.{Inject as Injection}
use Rattle.network_config.specs.declared.event.Event.TheVariants.{Inject}
use Rattle.network_config.specs.Rules.{MayName}
use Rattle.network_config.specs.NodeRules.{KeepsInject}
use Rattle.node_core_spec.specs.Fits.{comes_within}
use Rattle.node_serve.specs.Moments.{takes_handler}

may_handle : (v : Version) (c : Chunk) (o : Option Name) → MayName v c o → MayHandle c o
may_handle One c o m = subst (MayHandle c) (sym m) tt
may_handle Two c o m = m

may_name : (w v : Version) (c : Chunk) (o : Option Name) → takes_handler w o ≡ true → MayName v c o → MayName w c o
may_name One v c None t m = refl
may_name One v c (Some n) t m = absurd cc
may_name Two v c o t m = may_handle v c o m

pub may_come : (w v : Version) (x : Injection) → takes_handler w x.handler ≡ true → KeepsInject v x → comes_within w (Inject x.chunk x.bound x.handler)
may_come w v x t k = (k.2.0.0, may_name w v x.chunk x.handler t k.2.1)
