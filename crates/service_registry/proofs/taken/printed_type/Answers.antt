use Rattle.std.proofs.Common.{◌≡◌, length, sym, ◌∙◌, arith}
use Rattle.std.proofs.lemmas.Bool.{false≢true}
use Rattle.service_registry_spec.specs.declared.service.Service.TheVariants.{Print}
use Rattle.service_registry_spec.specs.Offered.{type_of}
use Rattle.service_registry.proofs.TakenTypes.{none_found, other_many, one_type, printed_found, printed_needs}
use Rattle.service_registry.proofs.taken.printed_type.Goals as goal

pub returns-then-params-ne1 : goal.returns-then-params-ne1
returns-then-params-ne1 c = λ svc has ends. other_many (type_of Print) svc c.args.params.now has (λ (e : length c.args.params.now ≡ 1). omega arith)

pub returns-then-is_unit : goal.returns-then-is_unit
returns-then-is_unit c = λ svc has ends.
    let is = c.is_unit.ensures.0 c.if-is_unit.true in
    printed_found svc c.args.back.now ends c.args.params.now has c.index-params-0.result (one_type c.args.params.now c.index-params-0.result (omega arith) c.index-params-0.is) is

pub returns : goal.returns
returns c = λ svc has ends.
    none_found (type_of Print) svc (λ b i. false≢true (sym c.if-is_unit.false ∙ c.is_unit.ensures.1 (printed_needs svc c.args.back.now ends c.args.params.now has b i)))
