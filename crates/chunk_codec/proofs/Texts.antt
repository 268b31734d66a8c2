use Rattle.std.proofs.Common.{◌≡◌, ℕ, true, false, List}
use Rattle.std.specs.Str.{IsUtf8, is_utf8}
use Rattle.std.proofs.lemmas.Str.{IsUtf8-from_is_utf8, is_utf8-from_IsUtf8}
use Rattle.containers.proofs.Bools.{not_true}

pub text_true : (bs : List ℕ) → IsUtf8 bs → is_utf8 bs ≡ true
text_true bs h = is_utf8-from_IsUtf8 bs h

pub text_false : (bs : List ℕ) → (IsUtf8 bs → ⊥) → is_utf8 bs ≡ false
text_false bs h = not_true (is_utf8 bs) (λ e. h (IsUtf8-from_is_utf8 bs e))
