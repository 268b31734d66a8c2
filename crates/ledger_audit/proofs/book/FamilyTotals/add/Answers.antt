use Rattle.std.proofs.Common.{ap, ◌∙◌}
use Rattle.ledger_audit.specs.Books.{plus}
use Rattle.ledger_audit.proofs.ActLaws.{set_adds}
use Rattle.ledger_audit.proofs.book.FamilyTotals.add.Goals as goal

pub returns : goal.returns
returns c =
    set_adds c.args.f c.args.more c.plus-counts.result c.args.self.now c.set.new.self c.in_ok-set.ensures (c.plus-counts.ensures ∙ ap (λ x. plus x c.args.more) c.of.ensures)
