use Rattle.std.proofs.Common.{◌≡◌, ℕ, ℤ, List, length, get_or, Option, Some, None, refl, ap, ◌∙◌, sym, w64, arith, rules}
use Rattle.std.proofs.lemmas.Int.{to_z-of_z}
use Rattle.std.specs.Option.{option_copied}
use mir.Val.{to_z, of_z}
use Rattle.plan_base.specs.declared.tree.Ty.{Ty}
use Rattle.plan_base.specs.declared.tree.Value.{Value}
use Rattle.service_api.specs.Rows.{got}
use Rattle.service_api.specs.declared.ctx.Ctx.{Ctx}
use Rattle.service_api.specs.Services.{Rows, Served, refused_call}
use Rattle.service_registry_spec.specs.Answers.{got_answer, raised_answer, not_found, key_of}
use Rattle.service_registry.specs.RegistryState.{rows_over}
use Rattle.service_registry.proofs.ArgumentReads.{named_other, named_by, two_items, get_or_any, meets_as}
use Rattle.service_registry.proofs.resident.get.Goals as goal

abbrev get_by : Ty → Ctx → Rows → List ℕ → ℤ → Served
get_by a ctx rows name number = got_answer (got (key_of name number) a ctx.now rows.rows) rows

pub returns-then-args-ne2 : goal.returns-then-args-ne2
returns-then-args-ne2 c =
    let rows = rows_over c.args.base.now c.args.changes.now in
    meets_as _ (refused_call rows) rows rows c.no_such_service.result (named_other (get_by c.args.a.now c.args.ctx.now rows) rows c.args.args.now (λ (e : length c.args.args.now ≡ 2). omega arith)) (c.no_such_service.ensures rows)

pub returns-in_default : goal.returns-in_default
returns-in_default c =
    let rows = rows_over c.args.base.now c.args.changes.now in
    let x = c.index-args-0.result in
    let y = get_or c.args.args.now 1 x in
    meets_as _ (refused_call rows) rows rows c.no_such_service-in_default.result
    (named_by (get_by c.args.a.now c.args.ctx.now rows) rows c.args.args.now x y None _ (two_items c.args.args.now x y (omega arith) c.index-args-0.is (get_or_any c.args.args.now 1 x y (omega arith)))
    (ap option_copied (sym c.in_default.is) ∙ c.as_text.ensures) refl)
    (c.no_such_service-in_default.ensures rows)

pub returns-in_default-as_int : goal.returns-in_default-as_int
returns-in_default-as_int c =
    let rows = rows_over c.args.base.now c.args.changes.now in
    let x = c.index-args-0.result in
    let y = c.index-args-1.result in
    meets_as _ (refused_call rows) rows rows c.no_such_service-in_default-as_int.result
    (named_by (get_by c.args.a.now c.args.ctx.now rows) rows c.args.args.now x y (Some c.in-Some.name.now) None (two_items c.args.args.now x y (omega arith) c.index-args-0.is c.index-args-1.is)
    (ap option_copied (sym c.in-Some.is) ∙ c.as_text.ensures) (sym c.in_default-as_int.is ∙ c.as_int.ensures))
    (c.no_such_service-in_default-as_int.ensures rows)

pub returns-in-Err-NotFound : goal.returns-in-Err-NotFound
returns-in-Err-NotFound c =
    let rows = rows_over c.args.base.now c.args.changes.now in
    let f = get_by c.args.a.now c.args.ctx.now rows in
    let x = c.index-args-0.result in
    let y = c.index-args-1.result in
    let z = c.in-Some-as_int.number in
    let same : to_z w64 (of_z w64 z) ≡ z = to_z-of_z w64 z (search rules) in
    let none = rw c.in-Err-NotFound.field-0-is at c.in-Err-NotFound.ensures in
    meets_as _ (raised_answer not_found rows) rows rows c.not_found.result
    (
    named_by f rows c.args.args.now x y (Some c.in-Some.name.now) (Some z)
    (two_items c.args.args.now x y (omega arith) c.index-args-0.is c.index-args-1.is) (ap option_copied (sym c.in-Some.is) ∙ c.as_text.ensures) (sym c.in-Some-as_int.is ∙ c.as_int.ensures)
    ∙ ap (λ (n : ℤ). f c.in-Some.name.now n) (sym same)
    ∙ ap (λ (o : Option Value). got_answer o rows) none)
    (c.not_found.ensures rows)

pub unreachable-requires : goal.unreachable-requires
unreachable-requires c = rw c.in-Err-TableFull.field-0-is at c.in-Err-TableFull.ensures
