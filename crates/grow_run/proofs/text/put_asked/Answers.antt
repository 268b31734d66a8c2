use Rattle.std.proofs.Common.{◌++◌, ap, ◌∙◌, append_assoc}
use Rattle.std.specs.Prelude.{codes}
use Rattle.std.specs.Fmt.{decimal}
use Rattle.grow_run.proofs.text.put_asked.Goals as goal

pub returns : goal.returns
returns c =
    let seed = codes "planet grow " ++ decimal c.args.seed in
    let events = codes " " ++ decimal c.args.events in
    let first = c.in_ok-put_count.ensures ∙ ap (λ n. c.args.out.now ++ (codes "planet grow " ++ decimal n)) c.from.ensures in
    let second = c.in_ok-put_count-2.ensures ∙ ap (λ n. c.put_count.new.out ++ (codes " " ++ decimal n)) c.from-2.ensures in
    c.in_ok-add_all.ensures.ok ∙ ap (λ x. x ++ codes "\n") (second ∙ ap (λ x. x ++ events) first)
    ∙ append_assoc (c.args.out.now ++ seed) events (codes "\n") ∙ append_assoc c.args.out.now seed (events ++ codes "\n")
