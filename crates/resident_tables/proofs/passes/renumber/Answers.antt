use Rattle.std.proofs.Common.{◌∙◌}
use Rattle.resident_tables.proofs.Marked.{places_within}
use Rattle.resident_tables.proofs.passes.renumber.Goals as goal

pub move_places-requires : goal.move_places-requires
move_places-requires c = record { within = places_within c.mark_rows-left.new.order c.args.order.now _ c.mark_rows-left.ensures.places (c.mark_rows-left.auto.order ∙ c.requires.same) c.requires.within }
