-- The name of a file is a text.
use Rattle.std.proofs.Common.{◌≡◌, ℕ, true, ◌&&◌, nat_le, nat_lt, List, length}
use Rattle.std.specs.Str.{is_utf8, IsUtf8}
use Rattle.std.proofs.lemmas.Str.{IsUtf8-from_is_utf8}
use Rattle.containers.proofs.Bools.{both_true}
use Rattle.network_config.specs.FileNames.{is_file_name}

pub name_is_text : (w : List ℕ) → is_file_name w ≡ true → IsUtf8 w
name_is_text w h =
    let t = both_true (nat_lt 0 (length w)) (nat_le (length w) 255 && is_utf8 w) h in
    IsUtf8-from_is_utf8 w (both_true (nat_le (length w) 255) (is_utf8 w) t.1).1
