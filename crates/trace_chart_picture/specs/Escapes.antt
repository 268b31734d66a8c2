-- Texts as they stand in a picture: no byte of them opens or closes an element or an attribute.
use Rattle.std.specs.Prelude.{ℕ, Bool, true, false, List, [], ◌∷◌, ◌++◌, codes, length, take, get_or, nat_lt, nat_le, ◌==◌, ◌&&◌, ◌||◌, if◌then◌else◌}

-- U+FFFD, which stands for a character that XML has not
abbrev pub no_character : List ℕ
no_character = 239 ∷ 191 ∷ 189 ∷ []

-- a byte in the picture; `seen` is how many bytes of U+FFFE or U+FFFF stand in front of it
unfoldable pub byte_text : ℕ → ℕ → List ℕ
byte_text seen b =
    if b == 60 then codes "&lt;" else
    (if b == 62 then codes "&gt;" else
    (if b == 38 then codes "&amp;" else
    (if b == 34 then codes "&quot;" else
    (if b == 39 then codes "&#39;" else
    (if nat_lt b 32 then no_character else
    (if (seen == 2) && nat_lt 189 b then 189 ∷ [] else b ∷ []))))))

-- how many bytes of U+FFFE or U+FFFF there are with this one
unfoldable pub seen_with : ℕ → ℕ → ℕ
seen_with seen b = if b == 239 then 1 else (if (seen == 1) && (b == 191) then 2 else 0)

-- the rest of a text in the picture
abbrev pub escaped_from : ℕ → List ℕ → List ℕ
escaped_from seen [] = []
escaped_from seen (b ∷ bs) = byte_text seen b ++ escaped_from (seen_with seen b) bs

-- a text in the picture
abbrev pub escaped_text : List ℕ → List ℕ
escaped_text text = escaped_from 0 text

-- no `<`, no `>`, no quote
abbrev pub is_harmless : ℕ → Bool
is_harmless b = if (b == 60) || ((b == 62) || ((b == 34) || (b == 39))) then false else true

-- a byte at which a character begins
abbrev pub begins_character : ℕ → Bool
begins_character b = nat_lt b 128 || nat_lt 191 b

-- the first of the places 36, 35, 34 and 33 at which a character begins
unfoldable pub cut_place : List ℕ → ℕ
cut_place text =
    if begins_character (get_or text 36 0) then 36 else
    (if begins_character (get_or text 35 0) then 35 else
    (if begins_character (get_or text 34 0) then 34 else 33))

-- a label of at most 36 bytes as it is; of a longer one the front, and the whole as a note that is shown on request
unfoldable pub shown_label : List ℕ → List ℕ
shown_label text =
    if nat_le (length text) 36 then escaped_text text else
    (codes "<title>" ++ (escaped_text text ++ (codes "</title>" ++ (escaped_text (take (cut_place text) text) ++ codes ".."))))
