use Rattle.std.proofs.Common.{◌≡◌, length, get_or, sym, ◌∙◌, arith}
use Rattle.std.proofs.lemmas.Bool.{false≢true}
use Rattle.service_registry_spec.specs.declared.service.Service.TheVariants.{Put}
use Rattle.service_registry_spec.specs.Offered.{type_of}
use Rattle.service_registry.proofs.TakenTypes.{none_found, other_many, four_types, type_any, put_found, put_needs}
use Rattle.service_registry.proofs.taken.put_type.Goals as goal

pub returns-then-params-ne4 : goal.returns-then-params-ne4
returns-then-params-ne4 c = λ svc has ends. other_many (type_of Put) svc c.args.params.now has (λ (e : length c.args.params.now ≡ 4). omega arith)

pub returns-then-is_put : goal.returns-then-is_put
returns-then-is_put c = λ svc has ends.
    let is = c.is_put.ensures.0 c.if-is_put.true in
    put_found svc c.args.back.now ends c.args.params.now has c.index-params-0.result c.index-params-1.result c.index-params-2.result c.index-params-3.result
    (four_types c.args.params.now c.index-params-0.result c.index-params-1.result c.index-params-2.result c.index-params-3.result (omega arith) c.index-params-0.is c.index-params-1.is
    c.index-params-2.is c.index-params-3.is) is.0.0 is.0.1 is.1.0 is.1.1

pub returns : goal.returns
returns c = λ svc has ends.
    none_found (type_of Put) svc (λ b i.
    false≢true (sym c.if-is_put.false ∙ c.is_put.ensures.1
    (put_needs svc c.args.back.now ends c.args.params.now has b c.index-params-0.result c.index-params-1.result (get_or c.args.params.now 2 c.index-params-0.result) c.index-params-3.result
    (four_types c.args.params.now c.index-params-0.result c.index-params-1.result (get_or c.args.params.now 2 c.index-params-0.result) c.index-params-3.result (omega arith)
    c.index-params-0.is c.index-params-1.is
    (type_any c.args.params.now 2 c.index-params-0.result (get_or c.args.params.now 2 c.index-params-0.result) (omega arith)) c.index-params-3.is) i)))
