use Rattle.std.proofs.Common.{◌≡◌, List, ap, sym, ◌∙◌, subst}
use Rattle.plan_base.specs.declared.tree.Chunk.{Chunk}
use Rattle.plan_base.specs.declared.tree.Value.{Value}
use Rattle.plan_base.specs.declared.name.Name.{Name}
use Rattle.checked_chunks.specs.Kept.{IsCheckedChunk}
use Rattle.plan_eval_settle.specs.Settles.{handler_chunk}
use Rattle.plan_eval_settle.proofs.Handlers.{handler_checked}
use Rattle.plan_eval_settle.proofs.telling.handler_chunk.Goals as goal

pub of-requires : goal.of-requires
of-requires c =
    let chunk : Chunk = c.args.chunk.now in
    let n : Name = c.args.name.now in
    let s = c.args.reason in
    let is : c.in_ok-call.call ≡ handler_chunk chunk n s = c.in_ok-call.ensures.call ∙ ap (λ (xs : List Value). record { code = chunk.code; entry = n; args = xs }) c.in_ok-args.ensures in
    subst IsCheckedChunk (sym is)
    (handler_checked chunk n s c.handler_call.ensures.kept c.handler_call.ensures.named c.requires.handler c.requires.utf8 c.requires.short)
