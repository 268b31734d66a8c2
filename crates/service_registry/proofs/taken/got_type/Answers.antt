use Rattle.std.proofs.Common.{◌≡◌, length, sym, ◌∙◌, arith}
use Rattle.std.proofs.lemmas.Bool.{false≢true}
use Rattle.service_registry_spec.specs.declared.service.Service.TheVariants.{Get}
use Rattle.service_registry_spec.specs.Offered.{type_of}
use Rattle.service_registry.proofs.TakenTypes.{none_found, other_many, two_types, got_found, got_needs}
use Rattle.service_registry.proofs.taken.got_type.Goals as goal

pub returns-then-params-ne2 : goal.returns-then-params-ne2
returns-then-params-ne2 c = λ svc has ends. other_many (type_of Get) svc c.args.params.now has (λ (e : length c.args.params.now ≡ 2). omega arith)

pub returns-then-is_key : goal.returns-then-is_key
returns-then-is_key c = λ svc has ends.
    let is = c.is_key.ensures.0 c.if-is_key.true in
    got_found svc c.args.back.now ends c.args.params.now has c.index-params-0.result c.index-params-1.result
    (two_types c.args.params.now c.index-params-0.result c.index-params-1.result (omega arith) c.index-params-0.is c.index-params-1.is) is.0 is.1

pub returns : goal.returns
returns c = λ svc has ends.
    none_found (type_of Get) svc (λ b i.
    false≢true (sym c.if-is_key.false ∙ c.is_key.ensures.1
    (got_needs svc c.args.back.now ends c.args.params.now has b c.index-params-0.result c.index-params-1.result
    (two_types c.args.params.now c.index-params-0.result c.index-params-1.result (omega arith) c.index-params-0.is c.index-params-1.is) i)))
