use Rattle.std.proofs.Common.{◌≡◌, [], length}
use Rattle.line_reader.specs.Packages.{packages_at}
use Rattle.line_reader.proofs.package_words.packages.Given as goal

abbrev pub invariant-loop-words : goal.invariant-loop-words
invariant-loop-words l = packages_at l.seen l.words ≡ packages_at [] l.fn.words

abbrev pub decreases-loop-words : goal.decreases-loop-words
decreases-loop-words l = length l.words
