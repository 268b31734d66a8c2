use Rattle.std.proofs.Common.{◌≡◌, ℤ, Some, ap, ◌∙◌, sym, w64, arith, rules}
use Rattle.std.proofs.lemmas.Int.{to_z-of_z}
use mir.Val.{to_z, of_z}
use Rattle.plan_base.specs.declared.tree.Value.{out-Value}
use Rattle.service_registry_spec.specs.Answers.{delivered_answer, of_int, of_two}
use Rattle.service_registry.proofs.ArgumentReads.{two_items, int_read, meets_as}
use Rattle.service_registry.proofs.host.deliver.Goals as goal

pub returns : goal.returns
returns c = λ a ctx rows.
    let z = c.in-Some.port in
    let same : to_z w64 (of_z w64 z) ≡ z = to_z-of_z w64 z (search rules) in
    meets_as _ (delivered_answer (to_z w64 (of_z w64 z)) c.v-item.result rows) rows rows c.deliver_to_port.result
    (
    ap (λ xs. of_two (λ p v. of_int (λ n. delivered_answer n v rows) (out-Value p) rows) xs rows)
    (two_items c.args.args.now c.port-item.result c.v-item.result (let a = c.in-len2.len_at_least in let b = c.in-len2.len_below in omega arith) c.port-item.is c.v-item.is)
    ∙ int_read rows (λ n. delivered_answer n c.v-item.result rows) (out-Value c.port-item.result) (Some z) (sym c.in-Some.is ∙ c.as_int.ensures)
    ∙ ap (λ (n : ℤ). delivered_answer n c.v-item.result rows) (sym same))
    (c.deliver_to_port.ensures rows)
