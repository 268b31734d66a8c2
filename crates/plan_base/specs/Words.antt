-- Which words are names.
use Rattle.std.specs.Prelude.{ℕ, Bool, false, ◌&&◌, ◌||◌, ◌==◌, not, List, [], ◌∷◌, length, nat_le, IsTrue, codes}
use Rattle.std.specs.Char.{is_ascii_alphabetic, is_ascii_alphanumeric}
use Rattle.std.specs.List.{list_all, list_any}
use Rattle.std.specs.Str.{bytes_eq}

-- a letter, a digit or `_`, of ASCII
abbrev pub is_word_byte : ℕ → Bool
is_word_byte b = is_ascii_alphanumeric b || b == 95

-- an ASCII letter, and then letters, digits and `_`
unfoldable pub is_word : List ℕ → Bool
is_word [] = false
is_word (b ∷ bs) = is_ascii_alphabetic b && list_all is_word_byte bs

-- the words that the language keeps for itself
abbrev pub reserved_words : List (List ℕ)
reserved_words =
    codes "and" ∷ codes "blob" ∷ codes "bool" ∷ codes "char" ∷ codes "chunk" ∷ codes "dev" ∷ codes "else" ∷ codes "end" ∷ codes "eval"
    ∷ codes "exception" ∷ codes "false" ∷ codes "foldl" ∷ codes "foldr" ∷ codes "fun" ∷ codes "handle" ∷ codes "host" ∷ codes "if"
    ∷ codes "in" ∷ codes "int" ∷ codes "let" ∷ codes "list" ∷ codes "mod" ∷ codes "not" ∷ codes "OnNeighbor" ∷ codes "OnRemote"
    ∷ codes "or" ∷ codes "raise" ∷ codes "string" ∷ codes "svc" ∷ codes "then" ∷ codes "true" ∷ codes "try" ∷ codes "unit"
    ∷ codes "val" ∷ []

unfoldable pub is_reserved : List ℕ → Bool
is_reserved w = list_any (λ r. bytes_eq r w) reserved_words

-- a name: a word of at most 32 bytes that isn't reserved
unfoldable pub is_name : List ℕ → Bool
is_name w = is_word w && (nat_le (length w) 32 && not (is_reserved w))

abbrev pub IsName : List ℕ → Type 0
IsName w = IsTrue (is_name w)
