use Rattle.std.proofs.Common.{◌∙◌, ap, ◌*◌, drop, ◌+◌, arith, length-drop}
use Rattle.plan_lexer.proofs.BlobLemmas.{blob_whole}
use Rattle.plan_lexer.proofs.hexed.blob_at.Goals as goal

pub blob_on-requires-clause-short : goal.blob_on-requires-clause-short
blob_on-requires-clause-short c = rw (c.after.ensures, length-drop) (omega (arith, c.requires, c.in_ok-front.ensures.within, c.len-passed.ensures))

pub returns-clause-value : goal.returns-clause-value
returns-clause-value c =
    blob_whole (λ read. read) c.blob_on.result c.args.start (c.args.start + 2 + 2 * c.len-passed.result) c.args.text.now c.in_ok-front.front c.after.result.now c.in_ok-front.ensures.reads
    (ap (λ n. c.args.start + 2 + 2 * n) c.len-passed.ensures) (c.after.ensures ∙ ap (λ n. drop (2 * n) c.args.text.now) c.len-passed.ensures) c.blob_on.ensures.value
