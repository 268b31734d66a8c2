-- The place of a name, looked for from the last binding on.
use Rattle.std.proofs.Common.{◌≡◌, ◌<◌, ◌≤◌, ℕ, zero, suc, ◌+◌, ◌-◌, arith, Bool, true, false, if◌then◌else◌, List, [], ◌∷◌, ◌++◌, length, map, take, slice_get, get_or, Option, Some, None, IfSome, refl, sym, ap, ◌∙◌}
use Rattle.std.specs.Option.{option_or}
use Rattle.std.specs.Str.{bytes_eq}
use Rattle.containers.proofs.Options.{none-some, some-same}
use Rattle.plan_base.specs.declared.name.Name.{Name}
use Rattle.plan_base.specs.declared.tree.Param.{Param}
use Rattle.plan_eval_state.specs.Spots.{counted}
use Rattle.plan_eval_state.specs.Loop.{place_named}
use Rattle.plan_eval_made.specs.declared.here.Binding.{Binding}
use Rattle.plan_eval_made.specs.declared.here.Here.{Here}
use Rattle.plan_eval_made.specs.Where.{AreBelow, names_here, places_here}
use Rattle.plan_eval_made.proofs.Standing.{length_map, length_counted}

or_later : (c : Bool) (i : ℕ) (p q : Option ℕ) → option_or (if c then Some i else p) q ≡ (if c then Some i else option_or p q)
or_later true i p q = refl
or_later false i p q = refl

-- one more binding behind others
pub named_last : (x y : Name) (i : ℕ) (names : List Name) (places : List ℕ) (k : ℕ) → slice_get names k ≡ Some y → slice_get places k ≡ Some i
    → place_named x (take (suc k) names) (take (suc k) places) ≡ (if bytes_eq y x then Some i else place_named x (take k names) (take k places))
named_last x y i [] places k is at = absurd (none-some is)
named_last x y i (z ∷ names) [] k is at = absurd (none-some at)
named_last x y i (z ∷ names) (j ∷ places) zero is at =
    let name : z ≡ y = some-same is in let place : j ≡ i = some-same at in
    ap (λ (n : Name). (if bytes_eq n x then Some j else None)) name ∙ ap (λ m. (if bytes_eq y x then Some m else None)) place
named_last x y i (z ∷ names) (j ∷ places) (suc k) is at =
    ap (λ o. option_or o (if bytes_eq z x then Some j else None)) (named_last x y i names places k is at)
    ∙ or_later (bytes_eq y x) i (place_named x (take k names) (take k places)) (if bytes_eq z x then Some j else None)

found_here : (c : Bool) (i : ℕ) (p : Option ℕ) → c ≡ true → (if c then Some i else p) ≡ Some i
found_here c i p e = ap (λ b. (if b then Some i else p)) e

found_before : (c : Bool) (i : ℕ) (p : Option ℕ) → c ≡ false → (if c then Some i else p) ≡ p
found_before c i p e = ap (λ b. (if b then Some i else p)) e

module _ (x y : Name) (i : ℕ) (names : List Name) (places : List ℕ) (k : ℕ) (is : slice_get names k ≡ Some y) (at : slice_get places k ≡ Some i)
    (all : place_named x names places ≡ place_named x (take (suc k) names) (take (suc k) places)) where
  -- the last one of that name is found
  pub named_there : bytes_eq y x ≡ true → place_named x names places ≡ Some i
  named_there e = all ∙ named_last x y i names places k is at ∙ found_here (bytes_eq y x) i (place_named x (take k names) (take k places)) e

  -- another name is passed over
  pub named_before : bytes_eq y x ≡ false → place_named x names places ≡ place_named x (take k names) (take k places)
  named_before e = all ∙ named_last x y i names places k is at ∙ found_before (bytes_eq y x) i (place_named x (take k names) (take k places)) e

pub take_all : {A : Type 0} (xs : List A) (n : ℕ) → n ≡ length xs → take n xs ≡ xs
take_all [] n e = ap (λ m. take m []) e
take_all (x ∷ xs) n e = ap (λ m. take m (x ∷ xs)) e ∙ ap (λ l. x ∷ l) (take_all xs (length xs) refl)

pub get_map : {A B : Type 0} (f : A → B) (xs : List A) (k : ℕ) (x : A) → slice_get xs k ≡ Some x → slice_get (map f xs) k ≡ Some (f x)
get_map f [] k x is = absurd (none-some is)
get_map f (y ∷ xs) zero x is = ap Some (ap f (some-same is))
get_map f (y ∷ xs) (suc k) x is = get_map f xs k x is

pub get_counted : {A : Type 0} (xs : List A) (base k : ℕ) → k < length xs → slice_get (counted base xs) k ≡ Some (base + k)
get_counted [] base k less = absurd (omega (arith, less))
get_counted (x ∷ xs) base zero less = let e : base ≡ base + 0 = omega arith in ap Some e
get_counted (x ∷ xs) base (suc k) less =
    let e : base + 1 + k ≡ base + suc k = omega arith in
    get_counted xs (base + 1) k (omega (arith, less)) ∙ ap Some e

-- ---- both kinds of names

or_none : (o : Option ℕ) → option_or o None ≡ o
or_none (Some i) = refl
or_none None = refl

or_both : (p q r : Option ℕ) → option_or (option_or p q) r ≡ option_or p (option_or q r)
or_both (Some i) q r = refl
or_both None q r = refl

pub named_both : (x : Name) (ns ms : List Name) (is js : List ℕ) → length ns ≡ length is → place_named x (ns ++ ms) (is ++ js) ≡ option_or (place_named x ms js) (place_named x ns is)
named_both x [] ms [] js same = sym (or_none (place_named x ms js))
named_both x (n ∷ ns) ms (i ∷ is) js same =
    ap (λ o. option_or o (if bytes_eq n x then Some i else None)) (named_both x ns ms is js (omega (arith, same)))
    ∙ or_both (place_named x ms js) (place_named x ns is) (if bytes_eq n x then Some i else None)
named_both x [] ms (i ∷ is) js same = absurd (omega (arith, same))
named_both x (n ∷ ns) ms [] js same = absurd (omega (arith, same))

-- what is found is one of the places
either_below : (c : Bool) (o : Option ℕ) (i j height : ℕ) → ((m : ℕ) → o ≡ Some m → m < height) → i < height → option_or o (if c then Some i else None) ≡ Some j → j < height
either_below c (Some m) i j height h less is = let same : m ≡ j = some-same is in let low : m < height = h m refl in omega (arith, same, low)
either_below true None i j height h less is = let same : i ≡ j = some-same is in omega (arith, same, less)
either_below false None i j height h less is = absurd (none-some is)

pub named_below : (x : Name) (names : List Name) (places : List ℕ) (i height : ℕ) → AreBelow places height → place_named x names places ≡ Some i → i < height
named_below x [] places i height h is = absurd (none-some is)
named_below x (n ∷ names) [] i height h is = absurd (none-some is)
named_below x (n ∷ names) (j ∷ places) i height h is =
    either_below (bytes_eq n x) (place_named x names places) j i height (λ m e. named_below x names places m height h.1 e) h.0 is

-- ---- a step of the search

got : {A : Type 0} (xs : List A) (k : ℕ) (x : A) → k < length xs → x ≡ get_or xs k x → slice_get xs k ≡ Some x
got [] k x less is = absurd (omega (arith, less))
got (y ∷ xs) zero x less is = ap Some (sym is)
got (y ∷ xs) (suc k) x less is = got xs k x (omega (arith, less)) is

one_before : (left : ℕ) → 0 < left → left ≡ suc (left - 1)
one_before left some = omega (arith, some)

-- among what `let`s bind
module _ (x : Name) (bs : List Binding) (left : ℕ) (b : Binding) (within : left ≤ length bs) (some : 0 < left) (is : b ≡ get_or bs (left - 1) b)
    (all : place_named x (map (λ (b : Binding). b.name.now) bs) (map (λ (b : Binding). b.at) bs)
    ≡ place_named x (take left (map (λ (b : Binding). b.name.now) bs)) (take left (map (λ (b : Binding). b.at) bs))) where
  bound_at_end : slice_get bs (left - 1) ≡ Some b
  bound_at_end = got bs (left - 1) b (omega (arith, within, some)) is

  bound_all : place_named x (map (λ (b : Binding). b.name.now) bs) (map (λ (b : Binding). b.at) bs)
      ≡ place_named x (take (suc (left - 1)) (map (λ (b : Binding). b.name.now) bs)) (take (suc (left - 1)) (map (λ (b : Binding). b.at) bs))
  bound_all = all ∙ ap (λ n. place_named x (take n (map (λ (b : Binding). b.name.now) bs)) (take n (map (λ (b : Binding). b.at) bs))) (one_before left some)

  pub bound_found : bytes_eq b.name.now x ≡ true → Some b.at ≡ place_named x (map (λ (b : Binding). b.name.now) bs) (map (λ (b : Binding). b.at) bs)
  bound_found e = sym (named_there x b.name.now b.at (map (λ (b : Binding). b.name.now) bs) (map (λ (b : Binding). b.at) bs) (left - 1)
      (get_map (λ (b : Binding). b.name.now) bs (left - 1) b bound_at_end) (get_map (λ (b : Binding). b.at) bs (left - 1) b bound_at_end) bound_all e)

  pub bound_passed : bytes_eq b.name.now x ≡ false → place_named x (map (λ (b : Binding). b.name.now) bs) (map (λ (b : Binding). b.at) bs)
      ≡ place_named x (take (left - 1) (map (λ (b : Binding). b.name.now) bs)) (take (left - 1) (map (λ (b : Binding). b.at) bs))
  bound_passed e = named_before x b.name.now b.at (map (λ (b : Binding). b.name.now) bs) (map (λ (b : Binding). b.at) bs) (left - 1)
      (get_map (λ (b : Binding). b.name.now) bs (left - 1) b bound_at_end) (get_map (λ (b : Binding). b.at) bs (left - 1) b bound_at_end) bound_all e

-- among parameters
module _ (x : Name) (ps : List Param) (base left : ℕ) (p : Param) (within : left ≤ length ps) (some : 0 < left) (is : p ≡ get_or ps (left - 1) p)
    (all : place_named x (map (λ (p : Param). p.name) ps) (counted base ps) ≡ place_named x (take left (map (λ (p : Param). p.name) ps)) (take left (counted base ps))) where
  param_at_end : slice_get ps (left - 1) ≡ Some p
  param_at_end = got ps (left - 1) p (omega (arith, within, some)) is

  param_all : place_named x (map (λ (p : Param). p.name) ps) (counted base ps)
      ≡ place_named x (take (suc (left - 1)) (map (λ (p : Param). p.name) ps)) (take (suc (left - 1)) (counted base ps))
  param_all = all ∙ ap (λ n. place_named x (take n (map (λ (p : Param). p.name) ps)) (take n (counted base ps))) (one_before left some)

  pub param_found : bytes_eq p.name x ≡ true → Some (base + (left - 1)) ≡ place_named x (map (λ (p : Param). p.name) ps) (counted base ps)
  param_found e = sym (named_there x p.name (base + (left - 1)) (map (λ (p : Param). p.name) ps) (counted base ps) (left - 1)
      (get_map (λ (p : Param). p.name) ps (left - 1) p param_at_end) (get_counted ps base (left - 1) (omega (arith, within, some))) param_all e)

  pub param_passed : bytes_eq p.name x ≡ false → place_named x (map (λ (p : Param). p.name) ps) (counted base ps)
      ≡ place_named x (take (left - 1) (map (λ (p : Param). p.name) ps)) (take (left - 1) (counted base ps))
  param_passed e = named_before x p.name (base + (left - 1)) (map (λ (p : Param). p.name) ps) (counted base ps) (left - 1)
      (get_map (λ (p : Param). p.name) ps (left - 1) p param_at_end) (get_counted ps base (left - 1) (omega (arith, within, some))) param_all e

-- the search begins with all
pub param_start : (x : Name) (ps : List Param) (base : ℕ) → place_named x (map (λ (p : Param). p.name) ps) (counted base ps)
    ≡ place_named x (take (length ps) (map (λ (p : Param). p.name) ps)) (take (length ps) (counted base ps))
param_start x ps base =
    let n : take (length ps) (map (λ (p : Param). p.name) ps) ≡ map (λ (p : Param). p.name) ps = take_all (map (λ (p : Param). p.name) ps) (length ps) (sym (length_map (λ (p : Param). p.name) ps)) in
    let i : take (length ps) (counted base ps) ≡ counted base ps = take_all (counted base ps) (length ps) (sym (length_counted ps base)) in
    sym (ap (λ l. place_named x l (take (length ps) (counted base ps))) n ∙ ap (place_named x (map (λ (p : Param). p.name) ps)) i)

-- ---- what is found at a place where an expression is evaluated

module _ (here : Here) (x : Name) where
  both_here : place_named x (names_here here) (places_here here)
      ≡ option_or (place_named x (map (λ (b : Binding). b.name.now) here.bindings.now) (map (λ (b : Binding). b.at) here.bindings.now))
      (place_named x (map (λ (p : Param). p.name) here.function.now.params) (counted here.base here.function.now.params))
  both_here =
      named_both x (map (λ (p : Param). p.name) here.function.now.params) (map (λ (b : Binding). b.name.now) here.bindings.now)
      (counted here.base here.function.now.params) (map (λ (b : Binding). b.at) here.bindings.now)
      (length_map (λ (p : Param). p.name) here.function.now.params ∙ sym (length_counted here.function.now.params here.base))

  pub named_in_let : (i : ℕ) → Some i ≡ place_named x (map (λ (b : Binding). b.name.now) here.bindings.now) (map (λ (b : Binding). b.at) here.bindings.now)
      → Some i ≡ place_named x (names_here here) (places_here here)
  named_in_let i is =
      sym (both_here ∙ ap (λ o. option_or o (place_named x (map (λ (p : Param). p.name) here.function.now.params) (counted here.base here.function.now.params))) (sym is))

  pub named_in_args : (ps : List Param) (r : Option ℕ) → None ≡ place_named x (map (λ (b : Binding). b.name.now) here.bindings.now) (map (λ (b : Binding). b.at) here.bindings.now)
      → ps ≡ here.function.now.params → r ≡ place_named x (map (λ (p : Param). p.name) ps) (counted here.base ps) → r ≡ place_named x (names_here here) (places_here here)
  named_in_args ps r none same is =
      is ∙ ap (λ (l : List Param). place_named x (map (λ (p : Param). p.name) l) (counted here.base l)) same
      ∙ sym (both_here ∙ ap (λ o. option_or o (place_named x (map (λ (p : Param). p.name) here.function.now.params) (counted here.base here.function.now.params))) (sym none))

pub named_found_below : (x : Name) (names : List Name) (places : List ℕ) (height : ℕ) (r : Option ℕ) → AreBelow places height → r ≡ place_named x names places → IfSome r (λ i. i < height)
named_found_below x names places height (Some i) h is = named_below x names places i height h (sym is)
named_found_below x names places height None h is = tt
