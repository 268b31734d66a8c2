-- The first item of a list and the later ones.
use Rattle.std.proofs.Common.{◌≡◌, ◌-◌, ◌≤◌, ◌<◌, List, [], ◌∷◌, length, take, drop, refl, ap, sym, arith}
use Rattle.std.specs.Prelude.{slice_get, Some, None}
use Rattle.std.proofs.lemmas.List.{take_rest}
use Rattle.plan_base.specs.declared.tree.Ty.{Ty}
use Rattle.plan_base.specs.declared.tree.Value.{Value}
use Rattle.plan_base.specs.declared.tree.Value.TheVariants as value
use Rattle.plan_types_spec.specs.Rules.{first_item, later_items, gives, raises, empty}

pub first_there : (xs : List Value) (x : Value) → slice_get xs 0 ≡ Some x → first_item xs ≡ gives x
first_there [] x e = cc
first_there (y ∷ ys) x e = cc

pub first_missing : (xs : List Value) → slice_get xs 0 ≡ None → first_item xs ≡ raises empty
first_missing [] e = refl
first_missing (y ∷ ys) e = cc

pub later_there : (t : Ty) (xs : List Value) → 1 ≤ length xs → later_items t xs ≡ gives (value.List t (take (length xs - 1) (drop 1 xs)))
later_there t [] h = absurd (omega arith)
later_there t (x ∷ xs) h = ap (λ ys. gives (value.List t ys)) (sym (take_rest (x ∷ xs) 1))

pub later_missing : (t : Ty) (xs : List Value) → length xs < 1 → later_items t xs ≡ raises empty
later_missing t [] h = refl
later_missing t (x ∷ xs) h = absurd (omega arith)

pub ruleset lists = (first_there, first_missing, later_there, later_missing)
