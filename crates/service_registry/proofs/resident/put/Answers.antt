use Rattle.std.proofs.Common.{◌≡◌, ℕ, ◌+◌, min, length, get_or, Some, None, refl, ap, ◌∙◌, sym, w64, arith, rules}
use Rattle.std.proofs.lemmas.Int.{to_z-of_z}
use Rattle.std.specs.Option.{option_copied}
use mir.Val.{to_z, of_z}
use Rattle.plan_types_spec.specs.Rules.{bad_index}
use Rattle.service_api.specs.Services.{refused_call}
use Rattle.service_registry_spec.specs.Answers.{raised_answer, table_full}
use Rattle.service_registry.specs.RegistryState.{rows_over}
use Rattle.service_registry.proofs.ArgumentReads.{four_items, get_or_any, meets_as, meets_left, rows_path}
use Rattle.service_registry.proofs.Puts.{put_other, put_by, kept_short, kept_full}
use Rattle.service_registry.proofs.resident.put.Goals as goal

pub returns-then-args-ne4-clause-meets : goal.returns-then-args-ne4-clause-meets
returns-then-args-ne4-clause-meets c =
    let rows = rows_over c.args.base.now c.args.changes.now in
    meets_as _ (refused_call rows) rows rows c.no_such_service.result (put_other c.args.a.now c.args.ctx.now rows c.args.args.now (λ (e : length c.args.args.now ≡ 4). omega arith)) (c.no_such_service.ensures rows)

pub returns-in_default-clause-meets : goal.returns-in_default-clause-meets
returns-in_default-clause-meets c =
    let rows = rows_over c.args.base.now c.args.changes.now in
    let args = c.args.args.now in
    let x = c.index-args-0.result in
    let y = get_or args 1 x in
    let v = get_or args 2 x in
    let w = get_or args 3 x in
    meets_as _ (refused_call rows) rows rows c.no_such_service-in_default.result
    (put_by c.args.a.now c.args.ctx.now rows args x y v w None _ _
    (four_items args x y v w (omega arith) c.index-args-0.is (get_or_any args 1 x y (omega arith)) (get_or_any args 2 x v (omega arith))
    (get_or_any args 3 x w (omega arith))) (ap option_copied (sym c.in_default.is) ∙ c.as_text.ensures) refl refl)
    (c.no_such_service-in_default.ensures rows)

pub returns-in_default-as_int-clause-meets : goal.returns-in_default-as_int-clause-meets
returns-in_default-as_int-clause-meets c =
    let rows = rows_over c.args.base.now c.args.changes.now in
    let args = c.args.args.now in
    let x = c.index-args-0.result in
    let y = c.index-args-1.result in
    let v = get_or args 2 x in
    let w = get_or args 3 x in
    meets_as _ (refused_call rows) rows rows c.no_such_service-in_default-as_int.result
    (put_by c.args.a.now c.args.ctx.now rows args x y v w (Some c.in-Some.name.now) None _
    (four_items args x y v w (omega arith) c.index-args-0.is c.index-args-1.is (get_or_any args 2 x v (omega arith))
    (get_or_any args 3 x w (omega arith))) (ap option_copied (sym c.in-Some.is) ∙ c.as_text.ensures) (sym c.in_default-as_int.is ∙ c.as_int.ensures) refl)
    (c.no_such_service-in_default-as_int.ensures rows)

pub returns-in_default-as_int-2-clause-meets : goal.returns-in_default-as_int-2-clause-meets
returns-in_default-as_int-2-clause-meets c =
    let rows = rows_over c.args.base.now c.args.changes.now in
    let args = c.args.args.now in
    let x = c.index-args-0.result in
    let y = c.index-args-1.result in
    let v = c.index-args-2.result in
    let w = c.index-args-3.result in
    meets_as _ (refused_call rows) rows rows c.no_such_service-in_default-as_int-2.result
    (put_by c.args.a.now c.args.ctx.now rows args x y v w (Some c.in-Some.name.now) (Some c.in-Some-as_int.number) None
    (four_items args x y v w (omega arith) c.index-args-0.is c.index-args-1.is c.index-args-2.is
    c.index-args-3.is) (ap option_copied (sym c.in-Some.is) ∙ c.as_text.ensures) (sym c.in-Some-as_int.is ∙ c.as_int.ensures) (sym c.in_default-as_int-2.is ∙ c.as_int-2.ensures))
    (c.no_such_service-in_default-as_int-2.ensures rows)

pub returns-then-life-lt1-clause-meets : goal.returns-then-life-lt1-clause-meets
returns-then-life-lt1-clause-meets c =
    let rows = rows_over c.args.base.now c.args.changes.now in
    let args = c.args.args.now in
    let x = c.index-args-0.result in
    let y = c.index-args-1.result in
    let v = c.index-args-2.result in
    let w = c.index-args-3.result in
    let life = c.in-Some-as_int-2.life in
    let same : to_z w64 (of_z w64 life) ≡ life = to_z-of_z w64 life (search rules) in
    meets_as _ (raised_answer bad_index rows) rows rows c.bad_index.result
    (
    put_by c.args.a.now c.args.ctx.now rows args x y v w (Some c.in-Some.name.now) (Some c.in-Some-as_int.number) (Some life)
    (four_items args x y v w (omega arith) c.index-args-0.is c.index-args-1.is c.index-args-2.is
    c.index-args-3.is) (ap option_copied (sym c.in-Some.is) ∙ c.as_text.ensures) (sym c.in-Some-as_int.is ∙ c.as_int.ensures) (sym c.in-Some-as_int-2.is ∙ c.as_int-2.ensures)
    ∙ kept_short c.args.a.now c.args.ctx.now rows c.in-Some.name.now c.in-Some-as_int.number v life (to_z w64 (of_z w64 life)) (sym same) c.if-life-lt1.true)
    (c.bad_index.ensures rows)

pub returns-in-Err-TableFull-clause-meets : goal.returns-in-Err-TableFull-clause-meets
returns-in-Err-TableFull-clause-meets c =
    let rows = rows_over c.args.base.now c.args.changes.now in
    let args = c.args.args.now in
    let x = c.index-args-0.result in
    let y = c.index-args-1.result in
    let v = c.index-args-2.result in
    let w = c.index-args-3.result in
    let z = c.in-Some-as_int.number in
    let life = c.in-Some-as_int-2.life in
    let same_z : to_z w64 (of_z w64 z) ≡ z = to_z-of_z w64 z (search rules) in
    let same : to_z w64 (of_z w64 life) ≡ life = to_z-of_z w64 life (search rules) in
    let full = rw c.in-Err-TableFull.field-0-is at c.in-Err-TableFull.ensures.rows in
    meets_left _ (raised_answer table_full rows) rows (rows_over c.args.base.now c.put.new.self) c.table_full.result
    (
    put_by c.args.a.now c.args.ctx.now rows args x y v w (Some c.in-Some.name.now) (Some z) (Some life)
    (four_items args x y v w (omega arith) c.index-args-0.is c.index-args-1.is c.index-args-2.is
    c.index-args-3.is) (ap option_copied (sym c.in-Some.is) ∙ c.as_text.ensures) (sym c.in-Some-as_int.is ∙ c.as_int.ensures) (sym c.in-Some-as_int-2.is ∙ c.as_int-2.ensures)
    ∙ kept_full c.args.a.now c.args.ctx.now rows c.in-Some.name.now z (to_z w64 (of_z w64 z)) v life (to_z w64 (of_z w64 life)) c.saturating_add-expiry.result (sym same_z) (sym same)
    c.if-life-lt1.false
    (c.saturating_add-expiry.ensures ∙ ap (λ (n : ℕ). min (c.args.ctx.now.now + n) 18446744073709551615) c.unsigned_abs.ensures.value) full.0)
    (rows_path _ _ _ _ full.1 c.put.ensures.next_key) (c.table_full.ensures rows)

pub unreachable-requires : goal.unreachable-requires
unreachable-requires c = rw c.in-Err-NotFound.field-0-is at c.in-Err-NotFound.ensures.rows
