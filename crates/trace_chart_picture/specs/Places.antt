-- Places in pixels, and how paths and texts begin.
use Rattle.std.specs.Prelude.{ℕ, ◌+◌, ◌*◌, List, ◌++◌, codes}
use Rattle.std.specs.Fmt.{decimal}
use Rattle.trace_chart_picture.specs.declared.drawing.Point.{Point}

-- pixels from the left
abbrev pub x_of : ℕ → ℕ
x_of across = across * 110 + 30

-- pixels from the top
abbrev pub y_of : ℕ → ℕ
y_of row = row * 18 + 66

unfoldable pub point_text : Point → List ℕ
point_text at = decimal (x_of at.across) ++ (codes " " ++ decimal (y_of at.row))

-- a path of this class, up to its first place
unfoldable pub path_text : List ℕ → Point → List ℕ
path_text class at = codes "<path class='" ++ (class ++ (codes "' d='M" ++ point_text at))

-- where a text stands
unfoldable pub at_text : ℕ → ℕ → List ℕ
at_text x y = codes "' x='" ++ (decimal x ++ (codes "' y='" ++ (decimal y ++ codes "'>")))

-- a text of this class, up to its first byte
unfoldable pub text_text : List ℕ → ℕ → ℕ → List ℕ
text_text class x y = codes "<text class='" ++ (class ++ at_text x y)
