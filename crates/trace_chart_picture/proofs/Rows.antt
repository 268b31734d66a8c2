-- A row that is written is taken apart into it again.
use Rattle.std.proofs.Common.{◌≡◌, ℕ, Bool, true, false, List, ◌∷◌, ◌++◌, codes, refl, sym, ap, ◌∙◌, arith}
use Rattle.std.specs.Fmt.{decimal}
use Rattle.std.specs.Str.{bytes_eq}
use Rattle.std.proofs.lemmas.Slice.Eq.{bytes_eq-Decides}
use Rattle.plan_base.specs.declared.ids.Family.{Family}
use Rattle.trace_chart_picture.specs.Cuts.{first, rest, long}
use Rattle.trace_chart_picture.specs.Guesses.{family_of, family_at, guessed_row}
use Rattle.trace_chart_picture.specs.Lines.{family_text}
use Rattle.trace_chart_picture.specs.Reads.{lacks, IsLong, IsFamily, IsRow, IsNoRow, IsReadRow}
use Rattle.trace_chart_picture.specs.Traces.{row_text}
use Rattle.trace_chart_picture.specs.declared.line.Row.{Row}
use Rattle.trace_chart_picture.proofs.Digits.{number_lacks, short_lacks, family_lacks, long_again, short_again}
use Rattle.trace_chart_picture.proofs.Fronts.{before_sign, after_sign, before_none}

pub family_again : (f : Family) → IsFamily f → family_of (family_text f) ≡ f
unfolding family_of
family_again f k =
    let dot : lacks 46 (decimal f.source.0) ≡ true = short_lacks 46 f.source.0 (omega arith) k.0 in
    rw (
      before_sign 46 (decimal f.source.0) (decimal f.serial) dot,
      after_sign 46 (decimal f.source.0) (decimal f.serial) dot,
      short_again f.source.0 k.0,
      long_again f.serial k.1,
    ) refl

-- the first word is a family
pub family_first : (f : Family) (more : List ℕ) → IsFamily f → family_at (family_text f ++ 32 ∷ more) ≡ f
family_first f more k = ap family_of (before_sign 32 (family_text f) more (family_lacks 32 f (omega arith) k)) ∙ family_again f k

pub behind_family : (f : Family) (more : List ℕ) → IsFamily f → rest (family_text f ++ 32 ∷ more) ≡ more
behind_family f more k = after_sign 32 (family_text f) more (family_lacks 32 f (omega arith) k)

-- the first word is a number
pub number_first : (n : ℕ) (more : List ℕ) → IsLong n → long (first (decimal n ++ 32 ∷ more)) ≡ n
number_first n more k = ap long (before_sign 32 (decimal n) more (number_lacks 32 n (omega arith) k)) ∙ long_again n k

pub behind_number : (n : ℕ) (more : List ℕ) → IsLong n → rest (decimal n ++ 32 ∷ more) ≡ more
behind_number n more k = after_sign 32 (decimal n) more (number_lacks 32 n (omega arith) k)

-- it is all of the text
pub number_alone : (n : ℕ) → IsLong n → long (first (decimal n)) ≡ n
number_alone n k = ap long (before_none 32 (decimal n) (number_lacks 32 n (omega arith) k)) ∙ long_again n k

pub row_again : (r : Row) → IsRow r → guessed_row (row_text r) ≡ r
unfolding guessed_row row_text
row_again r k =
    let left : List ℕ = codes "left " ++ decimal r.left in
    let live : List ℕ = codes "live " ++ (decimal r.live ++ 32 ∷ left) in
    let evals : List ℕ = codes "evals " ++ (decimal r.evals ++ 32 ∷ live) in
    let hops : List ℕ = codes "hops " ++ (decimal r.hops ++ 32 ∷ evals) in
    let granted : List ℕ = codes "granted " ++ (decimal r.granted ++ 32 ∷ hops) in
    rw (
      family_first r.family granted k.family,
      behind_family r.family granted k.family,
      number_first r.granted hops k.granted,
      behind_number r.granted hops k.granted,
      number_first r.hops evals k.hops,
      behind_number r.hops evals k.hops,
      number_first r.evals live k.evals,
      behind_number r.evals live k.evals,
      number_first r.live left k.live,
      behind_number r.live left k.live,
      number_alone r.left k.left,
    ) refl

-- what was taken apart, where it is written so
pub only_row : (line : List ℕ) (row : Row) → row ≡ guessed_row line → bytes_eq (row_text row) line ≡ true → IsReadRow line row
only_row line row e same =
    record { text = (bytes_eq-Decides (row_text row) line).0 same; only = λ x k t. sym (row_again x k) ∙ ap guessed_row t ∙ sym e }

-- what was taken apart and isn't written so is no row
pub no_row : (line : List ℕ) (row : Row) → row ≡ guessed_row line → bytes_eq (row_text row) line ≡ false → IsNoRow line
no_row line row e other r k t =
    let same : row ≡ r = e ∙ ap guessed_row (sym t) ∙ row_again r k in
    let yes : bytes_eq (row_text row) line ≡ true = (bytes_eq-Decides (row_text row) line).1 (ap row_text same ∙ t) in
    true_not (bytes_eq (row_text row) line) yes other
  where
    true_not : (x : Bool) → x ≡ true → x ≡ false → ⊥
    true_not true a b = absurd cc
    true_not false a b = absurd cc
