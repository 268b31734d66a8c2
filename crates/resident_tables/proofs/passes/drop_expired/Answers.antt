use Rattle.std.proofs.Common.{◌≡◌, length, drop, sym, ap, ◌∙◌}
use Rattle.std.proofs.lemmas.List.{take_at}
use Rattle.std.specs.Prelude.{nat_lt}
use Rattle.std.specs.List.{filter}
use Rattle.service_api.specs.Rows.{row_key, is_live}
use Rattle.resident_tables.proofs.Lists.{unique_kept}
use Rattle.resident_tables.proofs.Marked.{index_expired}
use Rattle.resident_tables.proofs.passes.drop_expired.Goals as goal

pub returns-clause-unique : goal.returns-clause-unique
returns-clause-unique c = rw c.keep_living.ensures.items (unique_kept row_key (is_live c.args.now) c.args.rows.now.items c.requires.unique)

pub returns-clause-index : goal.returns-clause-index
returns-clause-index c =
    let sent = c.renumber-left.new.order in
    let order = c.args.order.now in
    let long : length sent ≡ order.len = c.renumber-left.auto.order ∙ ap length c.as_mut_slice.ensures.value ∙ sym order.ok.0 in
    let kept = c.keep_below.ensures.items ∙ ap (filter (λ p. nat_lt p c.renumber-left.result)) (take_at sent (drop (length sent) order.items) order.len long) in
    index_expired c.args.now c.renumber-left.result c.args.rows.now.items c.as_slice.result.now c.keep_living.new.rows.items order.items c.as_mut_slice.result.now sent c.keep_below.new.order.items
    c.as_slice.ensures.value c.as_mut_slice.ensures.value c.requires.index c.renumber-left.ensures.left c.renumber-left.ensures.places kept c.keep_living.ensures.items
