use Rattle.std.proofs.Common.{ap, ◌∙◌, w64, rules}
use Rattle.std.proofs.lemmas.Int.{to_z-of_z}
use Rattle.frag_chunks.specs.Gathers.{place_of}
use Rattle.frag_chunks.proofs.given.Given.places.Goals as goal

pub returns : goal.returns
returns c = c.number_of.ensures ∙ ap place_of (to_z-of_z w64 c.args.self.now.count (search rules))
