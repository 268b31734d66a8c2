use Rattle.std.proofs.Common.{◌≡◌, take}
use Rattle.std.specs.Prelude.{map}
use Rattle.node_core_spec.specs.Node.{advert_sending}
use Rattle.node_core_parts.proofs.outgoing.advert_sendings.Given as goal

abbrev pub invariant-loop-link : goal.invariant-loop-link
invariant-loop-link l = l.sends ≡ map (advert_sending l.fn.mark l.fn.advert) (take l.link-index l.neighbours)
