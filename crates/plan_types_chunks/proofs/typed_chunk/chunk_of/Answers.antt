use Rattle.std.proofs.Common.{◌≡◌, ◌∙◌, sym, arith, true, None}
use Rattle.std.proofs.lemmas.Grind.{common_steps}
use Rattle.plan_types_chunks.specs.Chunks.{ill_call, right}
use Rattle.plan_types_chunks.proofs.Values.{call_made}
use Rattle.plan_types_chunks.proofs.typed_chunk.chunk_of.Goals as goal

pub of_size-requires-clause-checked : goal.of_size-requires-clause-checked
of_size-requires-clause-checked c =
    let none : c.in_ok-ill.field-0 ≡ None = grind (arith, common_steps, c.in_default.not-Some) in
    let small : c.is_small_with.result ≡ true = grind (arith, c.if-not-is_small_with.false) in
    call_made c.in_ok-share_program.field-0 c.args.program.now c.in_ok-copy.field-0 c.args.entry.now c.args.args c.in_ok-share_program.ensures.value c.in_ok-copy.ensures c.share_program.ensures.kept
    c.requires.formed c.requires.full (sym c.is_small_with.ensures ∙ small)
    (sym (c.in_ok-ill.ensures ∙ (λ i. ill_call right (c.program.ensures.value i) c.args.entry.now (c.as_slice.ensures i))) ∙ none)

pub returns-clause-found : goal.returns-clause-found
returns-clause-found c =
    let none : c.in_ok-ill.field-0 ≡ None = grind (arith, common_steps, c.in_default.not-Some) in
    let small : c.is_small_with.result ≡ true = grind (arith, c.if-not-is_small_with.false) in
    rw c.of_size.ensures (
      λ i. record { code = c.in_ok-share_program.ensures.value i; entry = c.in_ok-copy.ensures i; args = c.args.args },
      call_made c.in_ok-share_program.field-0 c.args.program.now c.in_ok-copy.field-0 c.args.entry.now c.args.args c.in_ok-share_program.ensures.value c.in_ok-copy.ensures c.share_program.ensures.kept
          c.requires.formed c.requires.full (sym c.is_small_with.ensures ∙ small)
          (sym (c.in_ok-ill.ensures ∙ (λ i. ill_call right (c.program.ensures.value i) c.args.entry.now (c.as_slice.ensures i))) ∙ none),
    )
