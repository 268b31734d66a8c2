use Rattle.std.proofs.Common.{Some, None, sym, ap, ◌∙◌}
use Rattle.std.specs.Option.{option_map}
use Rattle.bound_ledger.proofs.KeyLaws.{row_is_found, key_is, found_key, found_place}
use Rattle.bound_ledger.proofs.ledger.place_of.Goals as goal

pub returns-then-eq-clause-row : goal.returns-then-eq-clause-row
returns-then-eq-clause-row c =
    row_is_found c.args.f c.in-Some.found.now c.args.rows.now.entries (Some c.in-Some.row.now) (key_is c.args.f c.of-key.result c.in-Some.found.now c.of-key.ensures (sym c.eq.ensures ∙ c.if-eq.true)) (sym c.in-Some.ensures.value)

pub returns-then-eq-clause-place : goal.returns-then-eq-clause-place
returns-then-eq-clause-place c =
    found_place c.args.f c.of-key.result c.in-Some.found.now c.in-Some.row.now c.args.rows.now.entries c.args.last c.of-key.ensures (sym c.eq.ensures ∙ c.if-eq.true) c.in-Some.ensures.entry

pub returns-in_err-place-clause-row : goal.returns-in_err-place-clause-row
returns-in_err-place-clause-row c =
    ap (option_map (λ p. p.1)) c.from_residual.ensures ∙ row_is_found c.args.f c.of-key.result c.args.rows.now.entries None c.of-key.ensures c.in_err-place.ensures.value

pub returns-clause-row : goal.returns-clause-row
returns-clause-row c = row_is_found c.args.f c.of-key.result c.args.rows.now.entries (Some c.in_ok-place.row.now) c.of-key.ensures c.in_ok-place.ensures.value

pub returns-clause-place : goal.returns-clause-place
returns-clause-place c =
    found_place c.args.f c.of-key.result c.in_ok-place.field-0-1.now c.in_ok-place.row.now c.args.rows.now.entries c.in_ok-place.place c.of-key.ensures
    (found_key c.of-key.result c.in_ok-place.field-0-1.now c.args.rows.now.entries (sym c.in_ok-place.ensures.key)) (sym c.in_ok-place.ensures.entry)
