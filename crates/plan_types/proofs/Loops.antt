-- What one more item does to what a loop has found so far.
use Rattle.std.proofs.Common.{◌≡◌, ℕ, ◌+◌, ◌-◌, ◌<◌, ◌≤◌, ◌∙◌, sym, ap, refl, Bool, true, false, ◌||◌, List, [], ◌∷◌, ◌++◌, take, length, get_or, Some, None, suc, arith}
use Rattle.std.specs.Prelude.{if◌then◌else◌}
use Rattle.std.specs.Option.{option_or}
use Rattle.std.specs.Str.{bytes_eq}
use Rattle.std.proofs.lemmas.List.{take_more, get_or_default}
use Rattle.plan_base.specs.declared.name.Name.{Name}
use Rattle.plan_base.specs.declared.tree.Param.{Param}
use Rattle.plan_types_spec.specs.TypingNames.{binding, has_name, built_in}

binding-last : (n : Name) (ps : List Param) (p : Param) → binding n (ps ++ p ∷ []) ≡ (if bytes_eq p.name n then Some p.ty else binding n ps)
binding-last n [] p = refl
binding-last n (q ∷ ps) p = ap (λ o. option_or o (if bytes_eq q.name n then Some q.ty else None)) (binding-last n ps p) ∙ go (bytes_eq p.name n)
  where
    go : (b : Bool) → option_or (if b then Some p.ty else binding n ps) (if bytes_eq q.name n then Some q.ty else None) ≡ (if b then Some p.ty else option_or (binding n ps) (if bytes_eq q.name n then Some q.ty else None))
    go true = refl
    go false = refl

-- the bindings up to and with the one at i
binding_more : (n : Name) (ps : List Param) (i : ℕ) (d : Param) → i < length ps → binding n (take (i + 1) ps) ≡ (if bytes_eq (get_or ps i d).name n then Some (get_or ps i d).ty else binding n (take i ps))
binding_more n ps i d h = ap (binding n) (take_more ps i d h) ∙ binding-last n (take i ps) (get_or ps i d)

-- the binding before i that is looked at, and those before it
pub bound_at : (n : Name) (ps : List Param) (i : ℕ) (q r : Param) → 0 < i → i ≤ length ps → bytes_eq (get_or ps (i - 1) q).name n ≡ true → Some (get_or ps (i - 1) r).ty ≡ binding n (take i ps)
bound_at n ps i q r some within h =
    let e : i ≡ (i - 1) + 1 = omega arith in
    let k : i - 1 < length ps = omega arith in
    ap (λ (p : Param). Some p.ty) (get_or_default ps (i - 1) r q k)
    ∙ (sym (ap (λ (b : Bool). if b then Some (get_or ps (i - 1) q).ty else binding n (take (i - 1) ps)) h) ∙ (sym (binding_more n ps (i - 1) q k) ∙ ap (λ j. binding n (take j ps)) (sym e)))

pub bound_before : (n : Name) (ps : List Param) (i : ℕ) (q : Param) → 0 < i → i ≤ length ps → bytes_eq (get_or ps (i - 1) q).name n ≡ false → binding n (take i ps) ≡ binding n (take (i - 1) ps)
bound_before n ps i q some within h =
    let e : i ≡ (i - 1) + 1 = omega arith in
    let k : i - 1 < length ps = omega arith in
    ap (λ j. binding n (take j ps)) e ∙ (binding_more n ps (i - 1) q k ∙ ap (λ (b : Bool). if b then Some (get_or ps (i - 1) q).ty else binding n (take (i - 1) ps)) h)

-- a name among two lists
pub has_name_append : (xs ys : List Name) (n : Name) → has_name (xs ++ ys) n ≡ (has_name xs n || has_name ys n)
has_name_append [] ys n = refl
has_name_append (x ∷ xs) ys n = ap (λ b. bytes_eq x n || b) (has_name_append xs ys n) ∙ go (bytes_eq x n)
  where
    go : (b : Bool) → (b || (has_name xs n || has_name ys n)) ≡ ((b || has_name xs n) || has_name ys n)
    go true = refl
    go false = refl

-- a built-in name, and another name beside the built-in ones
pub built_taken : (taken : List Name) (n : Name) → has_name built_in n ≡ true → has_name (built_in ++ taken) n ≡ true
built_taken taken n h = has_name_append built_in taken n ∙ ap (λ b. b || has_name taken n) h

pub other_taken : (taken : List Name) (n : Name) → has_name built_in n ≡ false → has_name (built_in ++ taken) n ≡ has_name taken n
other_taken taken n h = has_name_append built_in taken n ∙ ap (λ b. b || has_name taken n) h

-- a depth above 0 is one more than the one below it
pub deeper : {X : Type 0} (f : ℕ → X) (n : ℕ) → 0 < n → f n ≡ f (suc (n - 1))
deeper f n some = let e : n ≡ suc (n - 1) = omega arith in ap f e
