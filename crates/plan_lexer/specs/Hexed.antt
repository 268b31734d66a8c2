-- Blobs.
use Rattle.std.specs.Prelude.{◌≡◌, ℕ, ◌+◌, ◌*◌, List, [], ◌∷◌, length, drop, Option, Some, None, Result, Ok, Err, ◌==◌, if◌then◌else◌}
use Rattle.plan_lexer.specs.CharItems.{hex_value}
use Rattle.plan_lexer.specs.Quoted.{with_front}
use Rattle.plan_lexer.specs.declared.fault.LexFault.{LexFault}
use Rattle.plan_lexer.specs.declared.fault.LexFault.TheVariants.{BadChar, OpenString}

-- the next byte of a blob: the digits so far, with a digit that has no second one yet; `behind` reads what follows
abbrev pub blob_by : ℕ → (Option ℕ → Result (List ℕ × ℕ) LexFault) → Option ℕ → Option ℕ → Result (List ℕ × ℕ) LexFault
blob_by at behind half None = Err (BadChar at)
blob_by at behind None (Some digit) = behind (Some digit)
blob_by at behind (Some high) (Some digit) = with_front ((16 * high + digit) ∷ []) (behind None)

-- where a blob's closing quote stands: refused behind an odd number of digits
abbrev pub blob_end : ℕ → Option ℕ → Result (List ℕ × ℕ) LexFault
blob_end at None = Ok ([], at + 1)
blob_end at (Some high) = Err (BadChar at)

-- the bytes of the rest of a blob that begins at `start`, and the place behind its closing quote
abbrev pub blob_from : ℕ → ℕ → Option ℕ → List ℕ → Result (List ℕ × ℕ) LexFault
blob_from start at half [] = Err (OpenString start)
blob_from start at half (b ∷ more) =
    if b == 10 then Err (OpenString start) else
    (if b == 34 then blob_end at half else blob_by at (λ next. blob_from start (at + 1) next more) half (hex_value b))

-- the bytes of a blob that begins at `start`, two places before the text, and the place behind its closing quote
unfoldable pub blob_at : ℕ → List ℕ → Result (List ℕ × ℕ) LexFault
blob_at start text = blob_from start (start + 2) None text

-- these bytes are those of the first pairs of a text: with what is read behind them, it reads as it does
pub record IsFront (text bytes : List ℕ) : Type 0 where
  pub reads : (start at : ℕ) → with_front bytes (blob_from start (at + 2 * length bytes) None (drop (2 * length bytes) text)) ≡ blob_from start at None text
