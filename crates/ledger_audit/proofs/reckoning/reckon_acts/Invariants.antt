use Rattle.std.proofs.Common.{take}
use Rattle.ledger_audit.specs.Pasts.{Past, with_acts, Holds}
use Rattle.ledger_audit.proofs.reckoning.reckon_acts.Given as goal

abbrev pub invariant-loop-act : goal.invariant-loop-act
invariant-loop-act l = (p : Past) → Holds l.initial.reckoning p → Holds l.reckoning (with_acts (take l.act-index l.acts) p)
