-- Arguments that have no more bytes than the buffer, one after another.
use Rattle.std.proofs.Common.{List, [], ◌∷◌, ◌++◌}
use Rattle.std.specs.Prelude.{All}
use Rattle.std.proofs.lemmas.List.Elements.{All-nil, All-push}
use Rattle.host_io.specs.declared.arguments.Argument.{Argument}
use Rattle.host_io.specs.Words.{IsShort}

pub none_short : All IsShort []
none_short = All-nil IsShort

pub more_short : (arguments : List Argument) (argument : Argument) → All IsShort arguments → IsShort argument → All IsShort (arguments ++ argument ∷ [])
more_short arguments argument all short = All-push IsShort arguments argument all short
