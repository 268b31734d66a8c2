use Rattle.std.proofs.Common.{◌∙◌, w64, rules}
use Rattle.std.proofs.lemmas.Int.{to_z-of_z}
use mir.Val.{to_z, of_z, SFits}
use Rattle.resident_tables.proofs.Over.{forget_absent, forget_noted, forget_new}
use Rattle.resident_tables.proofs.moves.forget.Goals as goal

pub returns-in_default-clause-ok : goal.returns-in_default-clause-ok
returns-in_default-clause-ok c = forget_absent (record { name = c.args.wanted.now.name.now; number = c.args.wanted.now.number }) c.args.gone.now.items c.args.base.now.rows c.in_default.ensures.row

pub returns-in-Some-get-clause-ok : goal.returns-in-Some-get-clause-ok
returns-in-Some-get-clause-ok c = forget_noted (record { name = c.args.wanted.now.name.now; number = c.args.wanted.now.number }) c.args.gone.now.items c.args.base.now.rows c.in-Some-get._noted.now c.in-Some-get.ensures.item

pub returns-clause-ok : goal.returns-clause-ok
returns-clause-ok c =
    let z = c.args.wanted.now.number in
    let fits : SFits w64 z = search rules in
    forget_new (to_z w64 (of_z w64 z)) z c.of-name.result c.args.wanted.now.name.now c.args.gone.now.items c.reserve.new.self.items c.put.new.self.items c.args.base.now.rows
    (to_z-of_z w64 z fits) (c.of-name.ensures ∙ c.in_ok-from_slice.ensures.items) c.reserve.ensures.items c.in_default-get.ensures.item c.put.ensures.items
