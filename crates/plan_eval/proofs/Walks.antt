-- The walk to the innermost expression, over plain variables.
use Rattle.std.proofs.Common.{◌≡◌, ℕ, zero, suc, ◌+◌, ◌-◌, ◌<◌, ◌≤◌, List, [], ◌∷◌, ◌++◌, length, map, drop, reverse, slice_get, Option, Some, None, refl, sym, ap, ◌∙◌, subst, arith, append-nil, ⊎_elim}
use Rattle.std.proofs.lemmas.Bool.{cases_lt}
use Rattle.std.proofs.lemmas.List.{reverse-append, length-reverse}
use Rattle.containers.proofs.Options.{none-some, some-same}
use Rattle.plan_base.specs.declared.tree.Fun.{Fun}
use Rattle.plan_base.specs.declared.tree.Program.{Program}
use Rattle.plan_base.specs.declared.tree.Value.{Value}
use Rattle.plan_meaning.specs.Run.{RunStep}
use Rattle.plan_eval_state.specs.declared.continuation.Activation.{Activation}
use Rattle.plan_eval_state.specs.declared.continuation.Continuation.{Continuation}
use Rattle.plan_eval_state.specs.declared.continuation.Continuation.TheVariants.{Part, Last, Try, Bound, Call, Step, Chunk}
use Rattle.plan_eval_state.specs.Places.{at_place}
use Rattle.plan_eval_state.specs.Spots.{Spot, counted}
use Rattle.plan_eval_state.specs.Loop.{Site, Stands, bare, fun_site, body_site, walked}
use Rattle.plan_eval_state.proofs.Bottoms.{place_under, place_of_top}
use Rattle.plan_eval_state.proofs.Stepping.{step_walked}
use Rattle.plan_eval.specs.declared.place.Place.{Place}
use Rattle.plan_eval.specs.Walk.{activation_of, then_walked, or_walked, innermost, outermost, IsNearest, IsBody, site_of, site_if}

-- ---- places

-- an item of a list is the one behind the others, or one of those
data Split {A : Type 0} (zs : List A) (x : A) (i : ℕ) (y : A) : Type 0 where
  at_end : i ≡ length zs → x ≡ y → Split zs x i y
  before : i < length zs → slice_get zs i ≡ Some y → Split zs x i y

later_split : {A : Type 0} (z : A) (zs : List A) (x : A) (i : ℕ) (y : A) → Split zs x i y → Split (z ∷ zs) x (suc i) y
later_split z zs x i y (at_end e same) = at_end (ap suc e) same
later_split z zs x i y (before l there) = before (omega (arith, l)) there

split : {A : Type 0} (zs : List A) (x : A) (i : ℕ) (y : A) → slice_get (zs ++ x ∷ []) i ≡ Some y → Split zs x i y
split [] x zero y is = at_end refl (some-same is)
split [] x (suc i) y is = absurd (none-some is)
split (z ∷ zs) x zero y is = before (omega arith) is
split (z ∷ zs) x (suc i) y is = later_split z zs x i y (split zs x i y is)

-- an item of a stack is the one on top, or one below
data Top {A : Type 0} (x : A) (xs : List A) (i : ℕ) (y : A) : Type 0 where
  on_top : i ≡ length xs → x ≡ y → Top x xs i y
  beneath : i < length xs → at_place xs i ≡ Some y → Top x xs i y

split_top : {A : Type 0} (x : A) (xs : List A) (i : ℕ) (y : A) → Split (reverse xs) x i y → Top x xs i y
unfolding at_place
split_top x xs i y (at_end e same) = on_top (e ∙ length-reverse xs) same
split_top x xs i y (before l there) = beneath (omega (arith, l, length-reverse xs)) there

top : {A : Type 0} (x : A) (xs : List A) (i : ℕ) (y : A) → at_place (x ∷ xs) i ≡ Some y → Top x xs i y
unfolding at_place
top x xs i y is = split_top x xs i y (split (reverse xs) x i y (sym (ap (λ v. slice_get v i) (reverse-append (x ∷ []) xs)) ∙ is))

nothing_there : {A : Type 0} (i : ℕ) (y : A) → at_place [] i ≡ Some y → ⊥
unfolding at_place
nothing_there i y is = none-some is

top_within : {A : Type 0} (x : A) (xs : List A) (i : ℕ) (y : A) → Top x xs i y → i < length (x ∷ xs)
top_within x xs i y (on_top e same) = omega (arith, e)
top_within x xs i y (beneath l there) = omega (arith, l)

-- what is there stands below the height
pub place_within : {A : Type 0} (xs : List A) (i : ℕ) (y : A) → at_place xs i ≡ Some y → i < length xs
place_within [] i y is = absurd (nothing_there i y is)
place_within (x ∷ xs) i y is = top_within x xs i y (top x xs i y is)

-- ---- the lowest of a stack

pub lowest_all : {A : Type 0} (xs : List A) (i : ℕ) → length xs ≤ i → drop (length xs - i) xs ≡ xs
lowest_all xs i h = let e : length xs - i ≡ 0 = omega (arith, h) in ap (λ n. drop n xs) e

drop_all : {A : Type 0} (xs : List A) → drop (length xs) xs ≡ []
drop_all [] = refl
drop_all (x ∷ xs) = drop_all xs

lowest_none : {A : Type 0} (xs : List A) → drop (length xs - 0) xs ≡ []
lowest_none xs = let e : length xs - 0 ≡ length xs = omega arith in ap (λ n. drop n xs) e ∙ drop_all xs

lowest_under : {A : Type 0} (x : A) (xs : List A) (i : ℕ) → i ≤ length xs → drop (length (x ∷ xs) - i) (x ∷ xs) ≡ drop (length xs - i) xs
lowest_under x xs i h = let e : length (x ∷ xs) - i ≡ suc (length xs - i) = omega (arith, h) in ap (λ n. drop n (x ∷ xs)) e

module _ {A : Type 0} (x : A) (xs : List A) (i : ℕ) (y : A) where
  next_by : Top x xs i y → (at_place xs i ≡ Some y → drop (length xs - (i + 1)) xs ≡ y ∷ drop (length xs - i) xs)
      → drop (length (x ∷ xs) - (i + 1)) (x ∷ xs) ≡ y ∷ drop (length (x ∷ xs) - i) (x ∷ xs)
  next_by (on_top e same) again =
      let here : length (x ∷ xs) - (i + 1) ≡ 0 = omega (arith, e) in
      let over : length (x ∷ xs) - i ≡ suc zero = omega (arith, e) in
      ap (λ n. drop n (x ∷ xs)) here ∙ ap (λ z. z ∷ xs) same ∙ ap (λ l. y ∷ l) (sym (ap (λ n. drop n (x ∷ xs)) over))
  next_by (beneath l there) again =
      lowest_under x xs (i + 1) (omega (arith, l)) ∙ again there ∙ ap (λ l. y ∷ l) (sym (lowest_under x xs i (omega (arith, l))))

-- one more of them
pub lowest_next : {A : Type 0} (xs : List A) (i : ℕ) (y : A) → at_place xs i ≡ Some y → drop (length xs - (i + 1)) xs ≡ y ∷ drop (length xs - i) xs
lowest_next [] i y is = absurd (nothing_there i y is)
lowest_next (x ∷ xs) i y is = next_by x xs i y (top x xs i y is) (lowest_next xs i y)

-- ---- what is found

module _ (codes : List Program) (o : Option Site) (t next : Site) where
  pub walked_on : (k : Continuation) → o ≡ Some t → walked codes t k ≡ Some next → or_walked codes (activation_of k) o k ≡ Some next
  walked_on (Part n) is h = ap (λ o. then_walked codes o (Part n)) is ∙ h
  walked_on (Last n) is h = ap (λ o. then_walked codes o (Last n)) is ∙ h
  walked_on (Try i) is h = ap (λ o. then_walked codes o (Try i)) is ∙ h
  walked_on (Bound i) is h = ap (λ o. then_walked codes o (Bound i)) is ∙ h
  walked_on (Call a) is h = h
  walked_on (Step a) is h = h
  walked_on (Chunk a) is h = h

-- where the innermost spot is, the walk comes to
pub found_at : (codes : List Program) (a : Activation) (first : Spot) (pre : List Value) (top : RunStep Value) (ks : List Continuation) (stack : List Value) (s : Spot) (want : RunStep Value)
    → body_site a (slice_get codes a.number) ≡ Some (bare first) → Stands codes first pre top ks stack s want → innermost codes a ks ≡ Some (bare s)
found_at codes a first pre top [] stack s want begins h = begins ∙ ap (λ (t : Spot). Some (bare t)) (sym h.0)
found_at codes a first pre top (k ∷ ks) stack s want begins h =
    walked_on codes (innermost codes a ks) (bare h.outer) (bare s) k (found_at codes a first pre top ks h.low h.outer h.wider begins h.under)
    (step_walked codes h.outer k h.held s h.steps h.opened)

module _ (codes : List Program) (first : Activation) where
  -- a step of the walk
  pub walked_up : (ks : List Continuation) (i : ℕ) (k : Continuation) (t : Site) → innermost codes first (outermost i ks) ≡ Some t → at_place ks i ≡ Some k → activation_of k ≡ None
      → innermost codes first (outermost (i + 1) ks) ≡ walked codes t k
  walked_up ks i k t is there none =
      ap (innermost codes first) (lowest_next ks i k there) ∙ ap (λ a. or_walked codes a (innermost codes first (outermost i ks)) k) none ∙ ap (λ o. then_walked codes o k) is

  -- what is lost in a body is lost for the whole
  pub lost : (ks : List Continuation) (i : ℕ) → ((j : ℕ) (k : Continuation) → i ≤ j → at_place ks j ≡ Some k → activation_of k ≡ None)
      → innermost codes first (outermost i ks) ≡ None → innermost codes first ks ≡ None
  lost [] i inside is = sym (ap (innermost codes first) (lowest_all [] i (omega arith))) ∙ is
  lost (k ∷ ks) i inside is =
      ⊎_elim (λ less. sym (ap (innermost codes first) (lowest_all (k ∷ ks) i (omega (arith, less)))) ∙ is)
      (λ more.
      let none : activation_of k ≡ None = inside (length ks) k (omega (arith, more)) (place_of_top k ks (length ks) refl) in
      let under : innermost codes first ks ≡ None =
      lost ks i (λ j l le there. inside j l le (place_under (k ∷ []) ks j l there)) (sym (ap (innermost codes first) (lowest_under k ks i (omega (arith, more)))) ∙ is) in
      ap (λ a. or_walked codes a (innermost codes first ks) k) none ∙ ap (λ o. then_walked codes o k) under)
      (cases_lt (length ks) i)

-- ---- the nearest activation

module _ (first : Activation) (ks : List Continuation) where
  abbrev Inside : ℕ → Type 0
  Inside i = (j : ℕ) (k : Continuation) → i ≤ j → at_place ks j ≡ Some k → activation_of k ≡ None

  pub inside_none : (i : ℕ) → i ≡ length ks → Inside i
  inside_none i e j k le there =
      let l : j < length ks = place_within ks j k there in
      absurd (less_not j i (omega (arith, l, e)) le)
    where
      less_not : (m n : ℕ) → m < n → n ≤ m → ⊥
      less_not m n a b = omega (arith, a, b)

  pub inside_next : (i : ℕ) (k : Continuation) → 0 < i → at_place ks (i - 1) ≡ Some k → activation_of k ≡ None → Inside i → Inside (i - 1)
  inside_next i k some at none inside j l le there =
      ⊎_elim (λ less.
      let same : j ≡ i - 1 = omega (arith, less, le) in
      let k_is : k ≡ l = some-same (sym at ∙ ap (at_place ks) (sym same) ∙ there) in
      subst (λ c. activation_of c ≡ None) k_is none)
      (λ more. inside j l (omega (arith, more)) there) (cases_lt j i)

  pub nearest_found : (i : ℕ) (k : Continuation) (a : Activation) → 0 < i → i ≤ length ks → at_place ks (i - 1) ≡ Some k → activation_of k ≡ Some a → Inside i → IsNearest first ks a i
  nearest_found i k a some within at is inside =
      let up : i ≡ i - 1 + 1 = omega (arith, some) in
      record {
        within = within;
        body = λ codes.
            ap (λ n. innermost codes first (outermost n ks)) up ∙ ap (innermost codes first) (lowest_next ks (i - 1) k at)
            ∙ ap (λ o. or_walked codes o (innermost codes first (outermost (i - 1) ks)) k) is;
        inside = inside;
      }

  pub nearest_first : Inside 0 → IsNearest first ks first 0
  nearest_first inside = record { within = omega arith; body = λ codes. ap (innermost codes first) (lowest_none ks); inside = inside }

  -- where no body is, nothing is found
  pub nearest_lost : (codes : List Program) (a : Activation) (from : ℕ) → IsNearest first ks a from → body_site a (slice_get codes a.number) ≡ None → innermost codes first ks ≡ None
  nearest_lost codes a from near none = lost codes first ks from near.inside (near.body codes ∙ none)

-- ---- in a body

-- the walk begins at the whole body
pub walk_start : (codes : List Program) (first : Activation) (ks : List Continuation) (a : Activation) (from : ℕ) (f : Fun) (p : Place) → IsNearest first ks a from → IsBody codes a f → f.body ≡ p.expr.now
    → p.bindings ≡ [] → innermost codes first (outermost from ks) ≡ Some (site_of a f p)
walk_start codes first ks a from f p near body is bare =
    near.body codes ∙ ap (body_site a) body.program ∙ ap (fun_site a) body.there
    ∙ rw (bare, sym is, append-nil (map (λ q. q.name) f.params), append-nil (counted a.base f.params)) refl

-- an innermost spot has a program
pub no_program : (codes : List Program) (first : Activation) (ks : List Continuation) (a : Activation) (from : ℕ) (t : Site) → IsNearest first ks a from → slice_get codes a.number ≡ None
    → innermost codes first ks ≡ Some t → ⊥
no_program codes first ks a from t near none found = none-some (sym (nearest_lost first ks codes a from near (ap (body_site a) none)) ∙ found)

-- and a function
pub no_function : (codes : List Program) (first : Activation) (ks : List Continuation) (a : Activation) (from : ℕ) (t : Site) (code : Program) → IsNearest first ks a from
    → slice_get codes a.number ≡ Some code → slice_get code.funs a.fun ≡ None → innermost codes first ks ≡ Some t → ⊥
no_function codes first ks a from t code near there none found =
    none-some (sym (nearest_lost first ks codes a from near (ap (body_site a) there ∙ ap (fun_site a) none)) ∙ found)

-- and a place
pub no_place : (codes : List Program) (first : Activation) (ks : List Continuation) (a : Activation) (f : Fun) (o : Option Place) (t : Site) → o ≡ None → site_if a f o ≡ innermost codes first ks
    → innermost codes first ks ≡ Some t → ⊥
no_place codes first ks a f o t none walk found = none-some (sym (ap (site_if a f) none) ∙ walk ∙ found)
