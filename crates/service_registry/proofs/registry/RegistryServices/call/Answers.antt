use Rattle.std.proofs.Common.{◌≡◌, true, false, List, sym, subst, arith}
use Rattle.plan_base.specs.declared.tree.Value.{Value}
use Rattle.service_api.specs.Services.{AreGoodValues}
use Rattle.service_registry.specs.RegistryState.{rows_over}
use Rattle.service_registry.specs.Packages.{present_of}
use Rattle.service_registry.proofs.Kept.{kept_open, open_kept, meets_good}
use Rattle.service_registry.proofs.registry.RegistryServices.call.Goals as goal

pub invariant_of-self : goal.invariant_of-self
invariant_of-self c =
    let t = c.self.inside.tables in
    let o = c.self.inside.changes in
    let is : c.self.inside.is_open ≡ true = grind (arith, c.if-not-self.false) in
    let was = kept_open t o c.self.inside.is_open c.self.inside.is_ready is c.self.invariant.1 in
    let good = subst (λ (vs : List Value). AreGoodValues c.args.svc.now.params vs) (sym c.as_slice.ensures) c.requires.good in (
      c.self.invariant.0,
      open_kept t c.answer_call.new.changes c.self.inside.is_open false is (record {
        base = c.answer_call.ensures.over;
        good = meets_good (present_of c.self.inside.there) c.args.svc.now c.as_slice.result.now c.args.ctx.now (rows_over t o) (rows_over t c.answer_call.new.changes) c.answer_call.result
            c.answer_call.ensures.meets was.good good c.requires.near;
        room = λ e. absurd cc;
      }),
    )
