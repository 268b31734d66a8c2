-- Words that are none of the commands.
use Rattle.std.proofs.Common.{◌≡◌, ◌≢◌, ℕ, List, [], ◌∷◌, length, None, refl}
use Rattle.planet_cli.specs.Requests.{request_of}

-- no command has another number of words
pub request-not_two_or_three : (words : List (List ℕ)) → length words ≢ 2 → length words ≢ 3 → request_of words ≡ None
request-not_two_or_three [] h k = refl
request-not_two_or_three (command ∷ []) h k = refl
request-not_two_or_three (command ∷ file ∷ []) h k = absurd (h refl)
request-not_two_or_three (command ∷ a ∷ b ∷ []) h k = absurd (k refl)
request-not_two_or_three (command ∷ a ∷ b ∷ c ∷ more) h k = refl
