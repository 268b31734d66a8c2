-- A text behind which nothing stands.
use Rattle.std.proofs.Common.{◌≡◌, List, [], ◌++◌, ℕ, sym}
use Rattle.std.proofs.lemmas.List.{append-nil}

pub nothing_behind : (text : List ℕ) → text ≡ text ++ []
nothing_behind text = sym (append-nil text)
