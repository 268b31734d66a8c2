-- The names of files.
use Rattle.std.specs.Prelude.{ℕ, Bool, ◌&&◌, nat_le, nat_lt, List, length}
use Rattle.std.specs.Str.{is_utf8}

-- a file name is 1 to 255 bytes of UTF-8
abbrev pub is_file_name : List ℕ → Bool
is_file_name w = nat_lt 0 (length w) && (nat_le (length w) 255 && is_utf8 w)
