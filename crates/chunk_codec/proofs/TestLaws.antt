-- What the tests that trees keep say of their parts. Spellings and printed texts both stand on it.
use Rattle.std.proofs.Common.{◌≡◌, ℕ, suc, ◌-◌, ◌≤◌, Bool, true, List, [], ◌∷◌, length, take, refl, sym, ◌∙◌, ap, arith, ℤ, pos, negsuc}
use Rattle.std.specs.Prelude.{◌&&◌, nat_le, max, fold, is_some, FitsSigned}
use Rattle.std.specs.List.{list_all}
use Rattle.std.specs.Int.{w64}
use Rattle.std.proofs.lemmas.Bool.{leb-true, ltb-true}
use Rattle.containers.proofs.Bools.{and_left as left, and_right as right}
use Rattle.plan_base.specs.declared.tree.Ty.{Ty, Ty-F}
use Rattle.plan_base.specs.declared.tree.Clause.{Clause}
use Rattle.plan_base.specs.Sizes.{type_depth, type_depth_level}
use Rattle.plan_base.specs.WellFormed.{names_all_but_last, formed_expr}
use Rattle.chunk_codec.specs.Ranges.{is_int}

-- ---- numbers and depths

pub between : (least most n : ℕ) → (nat_le least n && nat_le n most) ≡ true → (least ≤ n) × (n ≤ most)
between least most n h = (leb-true least n (left _ _ h), leb-true n most (right _ _ h))

pub int_fits : (z : ℤ) → is_int z ≡ true → FitsSigned w64 z
int_fits (pos n) h = record { sfits = ltb-true n 9223372036854775808 h }
int_fits (negsuc n) h = record { sfits = ltb-true n 9223372036854775808 h }

pub max_parts : (a b n : ℕ) → max a b ≤ n → (a ≤ n) × (b ≤ n)
max_parts a b n h = (grind arith, grind arith)

pub fold_within : {A : Type 0} (f : A → ℕ) (n : ℕ) (xs : List A) (m : ℕ) → fold (λ k x. max k (f x)) m xs ≤ n → m ≤ n
fold_within f n [] m h = h
fold_within f n (x ∷ xs) m h = (max_parts m (f x) n (fold_within f n xs (max m (f x)) h)).0

-- no type is without depth
pub no_depth : (x : Ty-F Ty) → type_depth_level type_depth x ≤ 0 → ⊥
no_depth (Ty-F.List t) h = omega (arith, h)
no_depth (Ty-F.Tuple ts) h = omega (arith, h)
no_depth _ h = omega (arith, h)

-- ---- clauses

abbrev pub clause_named : Clause → Bool
clause_named c = is_some c.name

abbrev pub body_formed : Clause → Bool
body_formed c = formed_expr c.body

-- all but the last of the clauses behind one have a name
pub named_rest : (c : Clause) (cs : List Clause) → names_all_but_last clause_named (c ∷ cs) ≡ true → names_all_but_last clause_named cs ≡ true
named_rest c [] h = refl
named_rest c (d ∷ ds) h =
    let e : length (c ∷ d ∷ ds) - 1 ≡ suc (length ds) = omega arith in
    let n : length (d ∷ ds) - 1 ≡ length ds = omega arith in
    ap (λ m. list_all clause_named (take m (d ∷ ds))) n
    ∙ right (is_some c.name) (list_all clause_named (take (length ds) (d ∷ ds))) (ap (λ m. list_all clause_named (take m (c ∷ d ∷ ds))) (sym e) ∙ h)
