use Rattle.std.proofs.lemmas.Nat.{div-mul-add, mod-mul-add}
use Rattle.resident_tables.specs.Passes.{place_of, mark_of}
use Rattle.resident_tables.proofs.passes.entry_of.Goals as goal

pub returns-clause-place : goal.returns-clause-place
unfolding place_of
returns-clause-place c = mod-mul-add c.args.mark 4294967296 c.args.place c.requires.place

pub returns-clause-mark : goal.returns-clause-mark
unfolding mark_of
returns-clause-mark c = div-mul-add c.args.mark 4294967296 c.args.place c.requires.place
