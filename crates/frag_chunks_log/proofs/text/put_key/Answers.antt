use Rattle.std.proofs.Common.{◌≡◌, ◌++◌, OnOk, sym, subst, append_assoc, arith}
use Rattle.frag_chunks_log.proofs.KeyTexts.{int_printed}
use Rattle.frag_chunks_log.proofs.text.put_key.Goals as goal

pub returns : goal.returns
returns c =
    subst (λ t. OnOk c.put_int.result (c.put_int.new.out ≡ c.args.out.now ++ (c.args.word.now ++ t))) (sym (int_printed c.args.key)) (grind (arith, append_assoc))
