-- The table of hex digits is what its bytes are worth.
use Rattle.std.proofs.Common.{◌≡◌, ℕ, zero, suc, ◌+◌, ◌<◌, ◌≤◌, List, [], ◌∷◌, get_or, Option, None, Some, refl, ap, ◌∙◌, arith}
use Rattle.plan_lexer.specs.CharItems.{hex_value}
use Rattle.plan_lexer.proofs.RuleLemmas.{hex_small}

abbrev pub digits_table : List ℕ
digits_table =
    255 ∷ 255 ∷ 255 ∷ 255 ∷ 255 ∷ 255 ∷ 255 ∷ 255 ∷ 255 ∷ 255 ∷ 255 ∷ 255 ∷ 255 ∷ 255 ∷ 255 ∷ 255 ∷ 255 ∷ 255 ∷
    255 ∷ 255 ∷ 255 ∷ 255 ∷ 255 ∷ 255 ∷ 255 ∷ 255 ∷ 255 ∷ 255 ∷ 255 ∷ 255 ∷ 255 ∷ 255 ∷ 255 ∷ 255 ∷ 255 ∷ 255 ∷
    255 ∷ 255 ∷ 255 ∷ 255 ∷ 255 ∷ 255 ∷ 255 ∷ 255 ∷ 255 ∷ 255 ∷ 255 ∷ 255 ∷ 0 ∷ 1 ∷ 2 ∷ 3 ∷ 4 ∷ 5 ∷ 6 ∷ 7 ∷ 8 ∷
    9 ∷ 255 ∷ 255 ∷ 255 ∷ 255 ∷ 255 ∷ 255 ∷ 255 ∷ 10 ∷ 11 ∷ 12 ∷ 13 ∷ 14 ∷ 15 ∷ 255 ∷ 255 ∷ 255 ∷ 255 ∷ 255 ∷
    255 ∷ 255 ∷ 255 ∷ 255 ∷ 255 ∷ 255 ∷ 255 ∷ 255 ∷ 255 ∷ 255 ∷ 255 ∷ 255 ∷ 255 ∷ 255 ∷ 255 ∷ 255 ∷ 255 ∷ 255 ∷
    255 ∷ 255 ∷ 255 ∷ 10 ∷ 11 ∷ 12 ∷ 13 ∷ 14 ∷ 15 ∷ 255 ∷ 255 ∷ 255 ∷ 255 ∷ 255 ∷ 255 ∷ 255 ∷ 255 ∷ 255 ∷ 255 ∷
    255 ∷ 255 ∷ 255 ∷ 255 ∷ 255 ∷ 255 ∷ 255 ∷ 255 ∷ 255 ∷ 255 ∷ 255 ∷ 255 ∷ 255 ∷ 255 ∷ 255 ∷ 255 ∷ 255 ∷ 255 ∷
    255 ∷ 255 ∷ 255 ∷ 255 ∷ 255 ∷ 255 ∷ 255 ∷ 255 ∷ 255 ∷ 255 ∷ 255 ∷ 255 ∷ 255 ∷ 255 ∷ 255 ∷ 255 ∷ 255 ∷ 255 ∷
    255 ∷ 255 ∷ 255 ∷ 255 ∷ 255 ∷ 255 ∷ 255 ∷ 255 ∷ 255 ∷ 255 ∷ 255 ∷ 255 ∷ 255 ∷ 255 ∷ 255 ∷ 255 ∷ 255 ∷ 255 ∷
    255 ∷ 255 ∷ 255 ∷ 255 ∷ 255 ∷ 255 ∷ 255 ∷ 255 ∷ 255 ∷ 255 ∷ 255 ∷ 255 ∷ 255 ∷ 255 ∷ 255 ∷ 255 ∷ 255 ∷ 255 ∷
    255 ∷ 255 ∷ 255 ∷ 255 ∷ 255 ∷ 255 ∷ 255 ∷ 255 ∷ 255 ∷ 255 ∷ 255 ∷ 255 ∷ 255 ∷ 255 ∷ 255 ∷ 255 ∷ 255 ∷ 255 ∷
    255 ∷ 255 ∷ 255 ∷ 255 ∷ 255 ∷ 255 ∷ 255 ∷ 255 ∷ 255 ∷ 255 ∷ 255 ∷ 255 ∷ 255 ∷ 255 ∷ 255 ∷ 255 ∷ 255 ∷ 255 ∷
    255 ∷ 255 ∷ 255 ∷ 255 ∷ 255 ∷ 255 ∷ 255 ∷ 255 ∷ 255 ∷ 255 ∷ 255 ∷ 255 ∷ 255 ∷ 255 ∷ 255 ∷ 255 ∷ 255 ∷ 255 ∷
    255 ∷ 255 ∷ 255 ∷ 255 ∷ 255 ∷ 255 ∷ 255 ∷ 255 ∷ 255 ∷ 255 ∷ 255 ∷ 255 ∷ 255 ∷ 255 ∷ 255 ∷ 255 ∷ 255 ∷ []

-- what a function gives at n numbers from i on
abbrev counted_values : ℕ → ℕ → (ℕ → ℕ) → List ℕ
counted_values zero i f = []
counted_values (suc n) i f = f i ∷ counted_values n (i + 1) f

counted_at : (n i k : ℕ) (f : ℕ → ℕ) → k < n → get_or (counted_values n i f) k 0 ≡ f (i + k)
counted_at zero i k f h = absurd (omega arith)
counted_at (suc n) i zero f h = ap f (omega arith)
counted_at (suc n) i (suc k) f h = counted_at n (i + 1) k f (omega arith) ∙ ap f (omega arith)

-- a value, or 255 where there is none
abbrev worth : Option ℕ → ℕ
worth None = 255
worth (Some v) = v

table_is : digits_table ≡ counted_values 256 0 (λ b. worth (hex_value b))
unfolding hex_value
table_is = refl

table_at : (b : ℕ) → b < 256 → get_or digits_table b 0 ≡ worth (hex_value b)
table_at b h =
    let here : 0 + b ≡ b = omega arith in
    ap (λ (l : List ℕ). get_or l b 0) table_is ∙ counted_at 256 0 b (λ n. worth (hex_value n)) h ∙ ap (λ n. worth (hex_value n)) here

read_by : (x : Option ℕ) (n : ℕ) → n ≡ worth x → n < 16 → Some n ≡ x
read_by None n e h = absurd (omega (arith, e, h))
read_by (Some v) n e h = ap Some e

refused_by : (b n : ℕ) (x : Option ℕ) → hex_value b ≡ x → n ≡ worth x → 16 ≤ n → None ≡ x
refused_by b n None is e h = refl
refused_by b n (Some v) is e h = absurd (omega (arith, hex_small b v is, e, h))

-- a digit by the table
pub digit_read : (b : ℕ) → b < 256 → get_or digits_table b 0 < 16 → Some (get_or digits_table b 0) ≡ hex_value b
digit_read b within small = read_by (hex_value b) _ (table_at b within) small

pub digit_refused : (b : ℕ) → b < 256 → 16 ≤ get_or digits_table b 0 → None ≡ hex_value b
digit_refused b within big = refused_by b _ (hex_value b) refl (table_at b within) big

-- the byte 0 is no digit
pub digit_some : (b : ℕ) → get_or digits_table b 0 < 16 → 0 < b
digit_some zero small = absurd (omega (arith, small))
digit_some (suc b) small = omega arith
