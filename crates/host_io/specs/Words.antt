-- The words that arguments are.
use Rattle.std.specs.Prelude.{ℕ, ◌≤◌, if◌then◌else◌, List, [], ◌∷◌, length, drop, map}
use Rattle.std.specs.Str.{is_utf8}
use lib.Chars.{codes}
use Rattle.host_io.specs.declared.arguments.Argument.{Argument}
use Rattle.host_io.specs.declared.arguments.Argument.TheVariants.{Whole, TooLong}

-- an argument has at most 131,072 bytes, or was too long
abbrev pub IsShort : Argument → Type 0
IsShort (Whole bytes) = length bytes ≤ 131072
IsShort TooLong = Unit {0}

-- bytes where they are UTF-8, else others
abbrev pub utf8_or : List ℕ → List ℕ → List ℕ
utf8_or others bytes = if is_utf8 bytes then bytes else others

-- an argument's bytes, or others where they are no UTF-8, or too many
abbrev pub bytes_or : List ℕ → Argument → List ℕ
bytes_or others (Whole bytes) = utf8_or others bytes
bytes_or others TooLong = others

-- the word of an argument: its bytes, or the empty word
abbrev pub word_of : Argument → List ℕ
word_of argument = bytes_or [] argument

-- the words of a call: those of the arguments behind the program's own name, in their order
abbrev pub words_in : List Argument → List (List ℕ)
words_in arguments = map word_of (drop 1 arguments)

-- the program's name: the bytes of the first argument, or `planet`
abbrev pub program_in : List Argument → List ℕ
program_in [] = codes "planet"
program_in (own ∷ behind) = bytes_or (codes "planet") own
