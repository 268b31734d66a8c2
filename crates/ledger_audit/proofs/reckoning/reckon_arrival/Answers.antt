use Rattle.std.proofs.Common.{refl, sym}
use Rattle.ledger_audit.proofs.PastLaws.{arrived_so}
use Rattle.ledger_audit.proofs.reckoning.reckon_arrival.Goals as goal

pub returns : goal.returns
returns c = λ p h.
    arrived_so p c.args.reckoning.now _ c.args.mark.log c.args.mark.event c.args.from c.args.bytes.now c.args.acts.now c.in_ok-key.key (sym c.if-not-is_accepted.ensures) c.in_ok-key.ensures refl refl refl refl c.in_ok-add.ensures.ok h
