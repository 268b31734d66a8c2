-- How the packages of a line follow each other.
use Rattle.std.proofs.Common.{◌≡◌, ℕ, ◌<◌, Bool, true, false, not, List, [], ◌∷◌, ◌++◌, length, Option, Some, None, Result, Ok, Err, refl, sym, ap, ◌∙◌, arith}
use Rattle.std.specs.List.{list_any}
use Rattle.std.specs.Option.{ok_or}
use Rattle.std.specs.Str.{bytes_eq}
use lib.Chars.{codes}
use Rattle.line_reader.specs.declared.fault.LineReason.{LineReason}
use Rattle.line_reader.specs.declared.fault.LineReason.TheVariants.{BadWord, TwiceNamed}
use Rattle.line_reader.specs.declared.fault.LineError.{LineError}
use Rattle.line_reader.specs.declared.fault.LineError.TheVariants as stops
use Rattle.service_api.specs.declared.package.PackageName.{PackageName}
use Rattle.line_reader.specs.Reads.{◌>>=◌, has_word, allowed_or_reason, Fails}
use Rattle.line_reader.specs.Packages.{package_of, same_package, package_at, one_package, packages_at}

alone : {A : Type 0} (t : Bool) (y : Result A LineReason) → (allowed_or_reason t BadWord >>= λ _. Err BadWord) ≡ y → Err BadWord ≡ y
alone true y e = e
alone false y e = e

last_step : (t : Bool) (next : List PackageName) (ws : List (List ℕ)) (x : List PackageName × List (List ℕ)) → (allowed_or_reason t TwiceNamed >>= λ _. Ok (next, ws)) ≡ Ok x → ws ≡ x.1
last_step true next ws x e = cc
last_step false next ws x e = absurd cc

last_is : (t : Bool) (o : Option PackageName) (u : PackageName → Bool) (seen : List PackageName) (ws : List (List ℕ)) (x : List PackageName × List (List ℕ))
    → (allowed_or_reason t BadWord >>= λ _. ok_or o BadWord >>= λ k. allowed_or_reason (u k) TwiceNamed >>= λ _. Ok (seen ++ k ∷ [], ws)) ≡ Ok x → ws ≡ x.1
last_is false o u seen ws x e = absurd cc
last_is true None u seen ws x e = absurd cc
last_is true (Some k) u seen ws x e = last_step (u k) (seen ++ k ∷ []) ws x e

rest_is : (seen : List PackageName) (w p : List ℕ) (ws : List (List ℕ)) (x : List PackageName × List (List ℕ)) → one_package seen (w ∷ p ∷ ws) ≡ Ok x → ws ≡ x.1
unfolding one_package package_at
rest_is seen w p ws x e = last_is (bytes_eq w (codes "without")) (package_of p) (λ k. not (list_any (same_package k) seen)) seen ws x e

lone_word : (seen : List PackageName) (w : List ℕ) (y : Result (List PackageName × List (List ℕ)) LineReason) → one_package seen (w ∷ []) ≡ y → Err BadWord ≡ y
unfolding one_package package_at
lone_word seen w y e = alone (bytes_eq w (codes "without")) y e

no_word : (seen : List PackageName) (x : List PackageName × List (List ℕ)) → one_package seen [] ≡ Ok x → ⊥
unfolding one_package
no_word seen x e = cc

next_is : (seen : List PackageName) (ws : List (List ℕ)) (x : List PackageName × List (List ℕ)) → one_package seen ws ≡ Ok x → packages_at seen ws ≡ packages_at x.0 x.1
unfolding packages_at
next_is seen [] x e = absurd (no_word seen x e)
next_is seen (w ∷ []) x e = absurd (let f = lone_word seen w (Ok x) e in cc)
next_is seen (w ∷ p ∷ ws) x e = rw e (ap (λ (r : List (List ℕ)). packages_at x.0 r) (rest_is seen w p ws x e))

-- behind a package come the others
pub packages_next : (seen next : List PackageName) (ws rest : List (List ℕ)) (total : Result (List PackageName) LineReason) → one_package seen ws ≡ Ok (next, rest) → packages_at seen ws ≡ total → packages_at next rest ≡ total
packages_next seen next ws rest total e so_far = sym (next_is seen ws (next, rest) e) ∙ so_far

shorter_is : (seen : List PackageName) (ws : List (List ℕ)) (x : List PackageName × List (List ℕ)) → one_package seen ws ≡ Ok x → length x.1 < length ws
shorter_is seen [] x e = absurd (no_word seen x e)
shorter_is seen (w ∷ []) x e = absurd (let f = lone_word seen w (Ok x) e in cc)
shorter_is seen (w ∷ p ∷ ws) x e = omega (arith, ap (λ (r : List (List ℕ)). length r) (rest_is seen w p ws x e))

-- a package takes words
pub packages_shorter : (seen next : List PackageName) (ws rest : List (List ℕ)) → one_package seen ws ≡ Ok (next, rest) → length rest < length ws
packages_shorter seen next ws rest e = shorter_is seen ws (next, rest) e

-- a package that is refused
pub packages_stop : (seen : List PackageName) (ws : List (List ℕ)) (e : LineError) → has_word ws ≡ true → Fails e (one_package seen ws) → Fails e (packages_at seen ws)
unfolding packages_at
packages_stop seen ws stops.NoMemory h f = tt
packages_stop seen [] (stops.Reason r) h f = absurd cc
packages_stop seen (w ∷ []) (stops.Reason r) h f = let h = lone_word seen w (Err r) f in cc
packages_stop seen (w ∷ p ∷ ws) (stops.Reason r) h f = rw f refl

-- no package more
pub packages_done : (seen : List PackageName) (ws : List (List ℕ)) → has_word ws ≡ false → packages_at seen ws ≡ Ok seen
unfolding packages_at
packages_done seen [] h = refl
packages_done seen (w ∷ ws) h = absurd cc
