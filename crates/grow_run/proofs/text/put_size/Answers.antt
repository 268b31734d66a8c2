use Rattle.std.proofs.Common.{◌++◌, ap, ◌∙◌, append_assoc}
use Rattle.std.specs.Prelude.{codes}
use Rattle.std.specs.Fmt.{decimal}
use Rattle.grow_run.proofs.text.put_size.Goals as goal

pub returns : goal.returns
returns c =
    c.in_ok-add_all.ensures.ok ∙ ap (λ x. x ++ codes "\n") (c.in_ok-put_count.ensures ∙ ap (λ n. c.args.out.now ++ (codes "hosts 8 links 8 events " ++ decimal n)) c.from.ensures)
    ∙ append_assoc c.args.out.now (codes "hosts 8 links 8 events " ++ decimal c.args.events) (codes "\n")
