use Rattle.std.proofs.Common.{◌++◌, [], ◌∷◌, refl, sym, ap, ◌∙◌, append_assoc, arith}
use Rattle.std.proofs.lemmas.List.{append-nil, length_push}
use Rattle.node_core_spec.specs.Node.{sends_acts}
use Rattle.node_core_parts.proofs.SendLaws.{sends_acts_none, sends_queues_none, sends_acts_more, sends_queues_more}
use Rattle.node_core_parts.proofs.sends.send_all.Goals as goal

pub loop-sending-init : goal.loop-sending-init
loop-sending-init c = (
  sym (append-nil c.args.acts.now.items) ∙ ap (λ x. c.args.acts.now.items ++ x) (sym (sends_acts_none c.args.lanes.now)),
  sym (sends_queues_none c.args.lanes.now),
  omega arith,
  refl,
)

pub loop-sending-preserved : goal.loop-sending-preserved
loop-sending-preserved c =
    let i = c.loop-sending.invariant in
    let more = sends_acts_more c.args.lanes.now c.loop-sending.yielded c.in-Some.sending in
    let queues = sends_queues_more c.args.lanes.now c.loop-sending.yielded c.in-Some.sending in
    let assoc = append_assoc c.args.acts.now.items (sends_acts c.args.lanes.now c.loop-sending.yielded) (c.send_one-act.result ∷ []) in
    let count = length_push c.loop-sending.yielded c.in-Some.sending in
    (cc, cc, omega arith, cc)
