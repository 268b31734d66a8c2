use Rattle.std.proofs.Common.{◌++◌, codes, ap, ◌∙◌}
use Rattle.std.specs.Fmt.{decimal}
use Rattle.node_core_spec.specs.Texts.{family_text}
use Rattle.trace_text.proofs.Forward.{pieces}
use Rattle.trace_text.proofs.ledger.put_row.Goals as goal

pub returns : goal.returns
returns c =
    let r = c.args.row in
    c.in_ok-put.ensures.whole ∙ ap (λ z. c.args.out.now ++ z)
    (pieces c.new-text.result c.family.new.self c.write_count.new.text c.write_count-2.new.text c.write_count-3.new.text c.write_count-4.new.text
    c.write_count-5.new.text c.byte.new.self (family_text c.args.f) (codes " granted " ++ decimal r.granted) (codes " hops " ++ decimal r.hops)
    (codes " evals " ++ decimal r.evals) (codes " live " ++ decimal r.live) (codes " left " ++ decimal r.left) (codes "\n")
    c.new-text.ensures c.family.ensures.text c.write_count.ensures.text c.write_count-2.ensures.text c.write_count-3.ensures.text
    c.write_count-4.ensures.text c.write_count-5.ensures.text c.byte.ensures)
