use Rattle.std.proofs.Common.{◌≡◌, ℕ, ℤ, List, length, get_or, Some, None, refl, ap, ◌∙◌, sym, arith}
use Rattle.std.specs.Option.{option_copied}
use Rattle.plan_base.specs.declared.tree.Value.TheVariants as value
use Rattle.service_api.specs.Rows.{without_row}
use Rattle.service_api.specs.Services.{Rows, Served, refused_call}
use Rattle.service_registry_spec.specs.Answers.{given_answer, key_of}
use Rattle.service_registry.specs.RegistryState.{rows_over}
use Rattle.service_registry.proofs.ArgumentReads.{named_other, named_by, two_items, get_or_any, meets_as}
use Rattle.service_registry.proofs.resident.remove.Goals as goal

abbrev remove_by : Rows → List ℕ → ℤ → Served
remove_by rows name number = given_answer value.Unit (record rows { rows = without_row (key_of name number) rows.rows })

pub returns-then-args-ne2-clause-meets : goal.returns-then-args-ne2-clause-meets
returns-then-args-ne2-clause-meets c =
    let rows = rows_over c.args.base.now c.args.changes.now in
    meets_as _ (refused_call rows) rows rows c.no_such_service.result (named_other (remove_by rows) rows c.args.args.now (λ (e : length c.args.args.now ≡ 2). omega arith)) (c.no_such_service.ensures rows)

pub returns-in_default-clause-meets : goal.returns-in_default-clause-meets
returns-in_default-clause-meets c =
    let rows = rows_over c.args.base.now c.args.changes.now in
    let x = c.index-args-0.result in
    let y = get_or c.args.args.now 1 x in
    meets_as _ (refused_call rows) rows rows c.no_such_service-in_default.result
    (named_by (remove_by rows) rows c.args.args.now x y None _ (two_items c.args.args.now x y (omega arith) c.index-args-0.is (get_or_any c.args.args.now 1 x y (omega arith)))
    (ap option_copied (sym c.in_default.is) ∙ c.as_text.ensures) refl)
    (c.no_such_service-in_default.ensures rows)

pub returns-in_default-as_int-clause-meets : goal.returns-in_default-as_int-clause-meets
returns-in_default-as_int-clause-meets c =
    let rows = rows_over c.args.base.now c.args.changes.now in
    let x = c.index-args-0.result in
    let y = c.index-args-1.result in
    meets_as _ (refused_call rows) rows rows c.no_such_service-in_default-as_int.result
    (named_by (remove_by rows) rows c.args.args.now x y (Some c.in-Some.name.now) None (two_items c.args.args.now x y (omega arith) c.index-args-0.is c.index-args-1.is)
    (ap option_copied (sym c.in-Some.is) ∙ c.as_text.ensures) (sym c.in_default-as_int.is ∙ c.as_int.ensures))
    (c.no_such_service-in_default-as_int.ensures rows)
