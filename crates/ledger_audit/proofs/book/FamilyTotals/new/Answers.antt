use Rattle.std.proofs.Common.{ap}
use Rattle.ledger_audit.specs.Books.{counts_of}
use Rattle.ledger_audit.proofs.book.FamilyTotals.new.Goals as goal

pub returns : goal.returns
unfolding counts_of
returns c = λ f. ap (counts_of f) c.new.ensures.empty
