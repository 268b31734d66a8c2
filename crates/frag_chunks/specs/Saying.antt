-- A part that was read, as definitions have it; how many places a key has.
use Rattle.std.specs.Prelude.{◌≤◌, length}
use Rattle.frag_chunks.specs.declared.given.Given.{Given}
use Rattle.frag_chunks.specs.declared.holding.PartialMessage.{PartialMessage}
use Rattle.frag_chunks.specs.declared.holding.PartialMessage.TheVariants as holding
use Rattle.frag_chunks.specs.declared.holding.Entry.{Entry}
use Rattle.frag_chunks.specs.Gathers.{Said}

abbrev pub as_said : Given → Said
as_said g = record { key = g.key; index = g.index; count = g.count; piece = g.piece.now }

-- a key has at most 32 places
abbrev pub FewIn : PartialMessage → Type 0
FewIn holding.Spoiled = Unit {0}
FewIn (holding.Open slots) = length slots ≤ 32

abbrev pub FewPlaces : Entry → Type 0
FewPlaces e = FewIn e.holding
