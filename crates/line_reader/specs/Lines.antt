-- A file as its lines, and a line as its words.
use Rattle.std.specs.Prelude.{ℕ, Bool, true, false, if◌then◌else◌, ◌==◌, List, [], ◌∷◌, ◌++◌}

-- pieces that begin with one more byte
abbrev pub begin_with : ℕ → List (List ℕ) → List (List ℕ)
begin_with b [] = (b ∷ []) ∷ []
begin_with b (piece ∷ pieces) = (b ∷ piece) ∷ pieces

-- the lines of a file: what stands before each line feed, and what stands behind the last one where anything does
unfoldable pub lines : List ℕ → List (List ℕ)
lines [] = []
lines (b ∷ bytes) = if b == 10 then [] ∷ lines bytes else begin_with b (lines bytes)

-- the words of a line: what stands between single spaces, so that two spaces make an empty word
unfoldable pub words : List ℕ → List (List ℕ)
words [] = [] ∷ []
words (b ∷ bytes) = if b == 32 then [] ∷ words bytes else begin_with b (words bytes)

-- words behind others on one line
abbrev pub behind : List (List ℕ) → List ℕ
behind [] = []
behind (w ∷ ws) = 32 ∷ w ++ behind ws

-- words as one line
abbrev pub spaced_words : List (List ℕ) → List ℕ
spaced_words [] = []
spaced_words (w ∷ ws) = w ++ behind ws

-- the words that are left where the line goes on with bytes, none where it has ended
abbrev pub words_left : Bool → List ℕ → List (List ℕ)
words_left true bytes = words bytes
words_left false bytes = []
