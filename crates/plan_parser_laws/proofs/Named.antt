-- The function of a name by its place, which the checker goes by, and by what is judged.
use Rattle.std.proofs.Common.{◌≡◌, ℕ, zero, suc, ◌<◌, ◌≤◌, ◌∙◌, sym, ap, refl, cond, Bool, true, false, List, [], ◌∷◌, length, take, Some, None, arith}
use Rattle.std.specs.Prelude.{slice_get, option_and_then, is_some, if◌then◌else◌, nat_lt}
use Rattle.std.specs.List.{find, position, position_or_len}
use Rattle.std.specs.Str.{bytes_eq}
use Rattle.std.proofs.lemmas.Bool.Decides.{nat_tests}
use Rattle.std.proofs.Math.Seq.{take-length}
use Rattle.std.proofs.lemmas.List.Folds.{find_at}
use Rattle.std.proofs.lemmas.Option.{slice_get_past}
use Rattle.plan_base.specs.declared.name.Name.{Name}
use Rattle.plan_base.specs.declared.tree.Program.{Program}
use Rattle.plan_base.specs.declared.tree.Place.TheVariants.{Node}
use Rattle.plan_types_spec.specs.declared.type_fault.TypeFault.TheVariants.{UnknownName, NotEarlier}
use Rattle.plan_types_spec.specs.TypingNames.{place_of}
use Rattle.plan_types_spec.specs.TypingOrder.{fun_of, earlier, not_earlier}
use Rattle.plan_parser_laws.specs.Judgements.{function_named, stands_earlier, none_earlier}

at_front : {X : Type 0} (n : ℕ) (xs : List X) (k : ℕ) → k < length (take n xs) → slice_get xs k ≡ slice_get (take n xs) k
at_front zero xs k h = absurd (omega arith)
at_front (suc n) [] k h = refl
at_front (suc n) (x ∷ xs) zero h = refl
at_front (suc n) (x ∷ xs) (suc k) h = at_front n xs k (omega arith)

by_place : {X : Type 0} (p : X → Bool) (n : ℕ) (xs : List X) → option_and_then (slice_get xs) (position p (take n xs)) ≡ find p (take n xs)
by_place {X} p n xs = go (nat_lt (position_or_len p (take n xs)) (length (take n xs))) refl
  where
    go : (b : Bool) → nat_lt (position_or_len p (take n xs)) (length (take n xs)) ≡ b → option_and_then (slice_get xs) (cond b (Some (position_or_len p (take n xs))) None) ≡ find p (take n xs)
    go true e = let h : position_or_len p (take n xs) < length (take n xs) = grind (arith, nat_tests) in at_front n xs (position_or_len p (take n xs)) h ∙ sym (find_at p (take n xs))
    go false e = let h : length (take n xs) ≤ position_or_len p (take n xs) = grind (arith, nat_tests) in sym (find_at p (take n xs) ∙ slice_get_past (take n xs) (position_or_len p (take n xs)) h)

pub earlier_is : (code : Program) (seen : ℕ) (f : Name) → earlier code seen f ≡ stands_earlier code seen f
earlier_is code seen f = by_place (λ d. bytes_eq d.name f) seen code.funs

pub named_is : (code : Program) (f : Name) → fun_of code f ≡ function_named f code.funs
named_is code f =
    let e : take (length code.funs) code.funs ≡ code.funs = take-length code.funs in
    ap (λ z. option_and_then (slice_get code.funs) (place_of f z)) (sym e) ∙ (by_place (λ d. bytes_eq d.name f) (length code.funs) code.funs ∙ ap (λ z. function_named f z) e)

within : {X : Type 0} (xs : List X) (k : ℕ) → k < length xs → is_some (slice_get xs k) ≡ true
within [] k h = absurd (omega arith)
within (x ∷ xs) zero h = refl
within (x ∷ xs) (suc k) h = within xs k (omega arith)

found_too : {X : Type 0} (p : X → Bool) (xs : List X) → is_some (position p xs) ≡ is_some (find p xs)
found_too p xs = go (nat_lt (position_or_len p xs) (length xs)) refl
  where
    go : (b : Bool) → nat_lt (position_or_len p xs) (length xs) ≡ b → is_some (cond b (Some (position_or_len p xs)) None) ≡ is_some (find p xs)
    go true e = let h : position_or_len p xs < length xs = grind (arith, nat_tests) in sym (ap is_some (find_at p xs) ∙ within xs (position_or_len p xs) h)
    go false e = let h : length xs ≤ position_or_len p xs = grind (arith, nat_tests) in sym (ap is_some (find_at p xs ∙ slice_get_past xs (position_or_len p xs) h))

pub none_is : (code : Program) (f : Name) (at : ℕ) → not_earlier code f at ≡ none_earlier code f at
none_is code f at = ap (λ b. if b then NotEarlier (Node at) else UnknownName (Node at)) (found_too (λ d. bytes_eq d.name f) code.funs)
