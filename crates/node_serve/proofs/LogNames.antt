-- The name of a log is a text.
use Rattle.std.proofs.Common.{◌≡◌, ℕ, Bool, true, false, ◌&&◌, nat_le, nat_lt, List, length}
use Rattle.std.specs.Str.{is_utf8, IsUtf8}
use Rattle.std.proofs.lemmas.Bool.{false≢true}
use Rattle.std.proofs.lemmas.Str.{IsUtf8-from_is_utf8}
use Rattle.network_config.specs.FileNames.{is_file_name}

second : (a b : Bool) → (a && b) ≡ true → b ≡ true
second true b h = h
second false b h = absurd (false≢true h)

pub name_is_text : (w : List ℕ) → is_file_name w ≡ true → IsUtf8 w
name_is_text w h = IsUtf8-from_is_utf8 w (second (nat_le (length w) 255) (is_utf8 w) (second (nat_lt 0 (length w)) (nat_le (length w) 255 && is_utf8 w) h))
