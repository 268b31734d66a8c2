use Rattle.std.proofs.Common.{◌+◌, Ok, Err, sym, ◌∙◌, ap, arith}
use Rattle.plan_base.specs.declared.limit.Limit.{Limit}
use Rattle.chunk_codec_spec.specs.declared.fault.SpellFault.TheVariants.{OverLimit}
use Rattle.chunk_codec_spec.specs.Scan.{Scan}
use Rattle.chunk_codec.proofs.TagSteps.{expr_tag_nodes, expr_tag_depth, expr_tag_ok}
use Rattle.chunk_codec.proofs.source.Source.expr_tag.Goals as goal

pub returns-in-Some-clause-gives : goal.returns-in-Some-clause-gives
returns-in-Some-clause-gives c =
    let same = ap (λ (q : Scan). q.nodes) c.self.view_is in
    let h = c.if-self-ge4096.true in
    expr_tag_nodes c.args.room c.args.self.now c.byte.new.self c.in_ok-byte.byte c.in-Some.field-0 c.in_ok-byte.ensures (sym c.in-Some.ensures) (omega (arith, same, h))
    ∙ ap (λ a. Err (OverLimit Limit.Nodes a)) (sym c.place-at.ensures)

pub returns-in-Some-2-clause-gives : goal.returns-in-Some-2-clause-gives
returns-in-Some-2-clause-gives c =
    let same = ap (λ (q : Scan). q.nodes) c.self.view_is in
    let h = c.if-self-ge4096.false in
    expr_tag_depth c.args.room c.args.self.now c.byte.new.self c.in_ok-byte.byte c.in-Some.field-0 c.in_ok-byte.ensures (sym c.in-Some.ensures) (omega (arith, same, h)) c.if-room-eq0.true
    ∙ ap (λ a. Err (OverLimit Limit.Depth a)) (sym c.place-at.ensures)

pub returns-in-Some-3-clause-gives : goal.returns-in-Some-3-clause-gives
returns-in-Some-3-clause-gives c =
    let same = ap (λ (q : Scan). q.nodes) c.self.view_is in
    let h = c.if-self-ge4096.false in
    expr_tag_ok c.args.room c.args.self.now c.byte.new.self c.in_ok-byte.byte c.in-Some.field-0 c.in_ok-byte.ensures (sym c.in-Some.ensures) (omega (arith, same, h)) c.if-room-eq0.false
    ∙ ap (λ (q : Scan). Ok (c.in-Some.field-0, record q { nodes = q.nodes + 1 })) (sym c.self.view_is)
