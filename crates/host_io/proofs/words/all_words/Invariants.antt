use Rattle.std.proofs.Common.{◌≡◌, take}
use Rattle.std.specs.Prelude.{map}
use Rattle.host_io.specs.Words.{word_of}
use Rattle.host_io.proofs.words.all_words.Given as goal

abbrev pub invariant-loop-argument : goal.invariant-loop-argument
invariant-loop-argument l = l.words ≡ map word_of (take l.argument-index l.arguments)
