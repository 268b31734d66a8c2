-- Fleets as they are written: the words of each line, and when they say the fleet.
use Rattle.std.specs.Prelude.{ℕ, List, [], ◌∷◌, map}
use Rattle.std.specs.List.{All}
use Rattle.std.specs.Fmt.{decimal}
use lib.Chars.{codes}
use Rattle.network_config.specs.declared.fleet.Fleet.{Fleet}
use Rattle.network_config.specs.declared.fleet.Kid.{Kid}
use Rattle.network_config.specs.declared.fleet.Kid.TheVariants as kids
use Rattle.network_config.specs.NodeRules.{KeepsFleet}
use Rattle.line_reader.specs.Lines.{spaced_words}
use Rattle.schedule_text.specs.Written.{spread}
use Rattle.top_laws.specs.Words.{IsOneWord}

-- the words of a child
abbrev pub kid_words : Kid → List (List ℕ)
kid_words (kids.Node h file turns) = codes "node" ∷ decimal h.0 ∷ file ∷ decimal turns ∷ []
kid_words (kids.Ask h file) = codes "ask" ∷ decimal h.0 ∷ file ∷ []

-- a fleet line by line: the header, and then the children
abbrev pub fleet_lines : Fleet → List (List ℕ)
fleet_lines f = codes "planet fleet 1" ∷ map (λ k. spaced_words (kid_words k)) f.children

-- a fleet as a text
abbrev pub fleet_text : Fleet → List ℕ
fleet_text f = spread (fleet_lines f)

-- the file of a child can be named in a line
abbrev pub IsNamedFile : Kid → Type 0
IsNamedFile (kids.Node h file turns) = IsOneWord file
IsNamedFile (kids.Ask h file) = IsOneWord file

-- a fleet within its limits, whose files can be named
pub record IsFleet (f : Fleet) : Type 0 where
  pub rules : KeepsFleet f
  pub files : All IsNamedFile f.children
