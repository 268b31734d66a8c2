use Rattle.std.proofs.Common.{refl, ap, ◌∙◌}
use Rattle.packet_frame.specs.Stamped.{stamped_bytes}
use Rattle.ledger_audit.specs.Runs.{crossing_from}
use Rattle.ledger_audit.specs.Keys.{crossing_of}
use Rattle.ledger_audit.proofs.PastLaws.{sent_held, frame_reads}
use Rattle.ledger_audit.proofs.reckoning.reckon_sent.Goals as goal

pub returns-clause-holds : goal.returns-clause-holds
returns-clause-holds c = λ p h.
    sent_held p c.args.reckoning.now _ (crossing_of c.in_ok-key.key) (crossing_from c.args.here c.args.dev (stamped_bytes c.args.frame.now)) h
    (c.in_ok-key.ensures ∙ ap (λ b. crossing_from c.args.here c.args.dev b) (c.as_slice.ensures ∙ c.in_ok-bytes.ensures.is)) c.in_ok-send.ensures refl refl refl refl

pub returns-clause-reads : goal.returns-clause-reads
returns-clause-reads c = frame_reads c.args.frame.now c.in_ok-bytes.bytes c.in_ok-bytes.ensures
