-- The declarations of a program stand for the conditions on their names.
use Rattle.std.proofs.Common.{◌≡◌, ℕ, zero, suc, ◌+◌, ◌∙◌, sym, ap, refl, subst, Bool, true, false, not, ◌||◌, List, [], ◌∷◌, ◌++◌, append_assoc, take, length, Option, Some, arith}
use Rattle.std.specs.Prelude.{Result, Ok, Err, if◌then◌else◌, map, slice_get}
use Rattle.plan_base.specs.declared.name.Name.{Name}
use Rattle.plan_base.specs.declared.tree.Svc.{Svc}
use Rattle.plan_base.specs.declared.tree.Fun.{Fun}
use Rattle.plan_base.specs.declared.tree.Program.{Program}
use Rattle.plan_base.specs.declared.tree.Place.TheVariants as place
use Rattle.plan_types_spec.specs.declared.type_fault.TypeFault.{TypeFault}
use Rattle.plan_types_spec.specs.declared.type_fault.TypeFault.TheVariants as fault
use Rattle.plan_types_spec.specs.Typing.{param_names}
use Rattle.plan_types_spec.specs.TypingNames.{has_name, is_prim, built_in, are_new}
use Rattle.plan_types_spec.specs.TypingOrder.{next, then_by, services_from, exceptions_from, functions_from}
use Rattle.plan_parser_laws.specs.Judgements.{behind}
use Rattle.plan_parser_laws.specs.Conditions.{Condition, of_service, of_exception, of_function, svc_names, fun_names, Keeps, Blames, for_service, for_exception, for_function, conditions_from, FirstUnkept, here, later}

-- ---- answers of a list of conditions

unfoldable pub AllKept : Program → List Condition → Type 0
AllKept p [] = Unit {0}
AllKept p (k ∷ more) = Keeps p k × AllKept p more

-- what the answer says of the conditions that are left
abbrev pub StandsFor : {A : Type 0} → Program → List Condition → Result A TypeFault → Type 0
StandsFor p ks (Ok a) = AllKept p ks
StandsFor p ks (Err f) = FirstUnkept p f ks

pub kept_first : {A : Type 0} (p : Program) (k : Condition) (more : List Condition) (q : Result A TypeFault) → Keeps p k → StandsFor p more q → StandsFor p (k ∷ more) q
unfolding AllKept
kept_first p k more (Ok a) h s = (h, s)
kept_first p k more (Err f) h s = later k more h s

pub none_kept : (p : Program) → AllKept p []
unfolding AllKept
none_kept p = tt

-- ---- lists up to a place

take_next : {X : Type 0} (xs : List X) (i : ℕ) (y : X) → slice_get xs i ≡ Some y → take (suc i) xs ≡ take i xs ++ y ∷ []
take_next [] i y e = absurd (cc)
take_next (z ∷ xs) zero y e = let same : z ≡ y = cc in ap (λ w. w ∷ []) same
take_next (z ∷ xs) (suc i) y e = ap (λ ys. z ∷ ys) (take_next xs i y e)

pub take_more : {X : Type 0} (xs : List X) (i : ℕ) (y : X) → slice_get xs i ≡ Some y → take (i + 1) xs ≡ take i xs ++ y ∷ []
take_more xs i y e = let next : i + 1 ≡ suc i = omega arith in ap (λ j. take j xs) next ∙ take_next xs i y e

map_at : {X Y : Type 0} (f : X → Y) (xs : List X) (i : ℕ) (y : X) → slice_get xs i ≡ Some y → slice_get (map f xs) i ≡ Some (f y)
map_at f [] i y e = absurd (cc)
map_at f (z ∷ xs) zero y e = let same : z ≡ y = cc in ap (λ w. Some (f w)) same
map_at f (z ∷ xs) (suc i) y e = map_at f xs i y e

-- what stands in a list from a place on
abbrev pub From : {X : Type 0} → List X → ℕ → List X → Type 0
From xs i rest = (j : ℕ) → slice_get xs (i + j) ≡ slice_get rest j

pub from_here : {X : Type 0} (xs : List X) (i : ℕ) (y : X) (rest : List X) → From xs i (y ∷ rest) → slice_get xs i ≡ Some y
from_here xs i y rest h = let e : i ≡ i + 0 = omega arith in ap (slice_get xs) e ∙ h 0

pub from_next : {X : Type 0} (xs : List X) (i : ℕ) (y : X) (rest : List X) → From xs i (y ∷ rest) → From xs (i + 1) rest
from_next xs i y rest h = λ j. let e : i + 1 + j ≡ i + suc j = omega arith in ap (slice_get xs) e ∙ h (suc j)

pub from_start : {X : Type 0} (xs : List X) → From xs 0 xs
from_start xs = λ j. let e : 0 + j ≡ j = omega arith in ap (slice_get xs) e

same_item : {X : Type 0} (xs : List X) (i : ℕ) (y z : X) → slice_get xs i ≡ Some y → slice_get xs i ≡ Some z → y ≡ z
same_item {X} xs i y z e h = let q : ◌≡◌ {A = Option X} (Some y) (Some z) = sym e ∙ h in cc

-- ---- the three kinds of declarations

-- the place of the next declaration
onward : (base i at : ℕ) → at ≡ behind base i → next at ≡ behind base (i + 1)
onward base i at e = omega (arith, e)

module _ {A : Type 0} (p : Program) where
  service_step : (d : Svc) (i at : ℕ) (taken : List Name) (more : List Condition) (k : Result ℕ TypeFault) (h : ℕ → Result A TypeFault)
      → slice_get p.svcs i ≡ Some d → taken ≡ take i (svc_names p) → at ≡ behind 0 i → StandsFor p more (then_by k h)
      → StandsFor p (of_service i ∷ more) (then_by (if is_prim d.name || has_name taken d.name then Err (fault.TwiceNamed (place.Decl at)) else k) h)
  service_step d i at taken more k h is names stands rest = go (is_prim d.name) (has_name taken d.name) refl refl
    where
      blame : Blames p (of_service i) (fault.TwiceNamed (place.Decl at))
      blame = subst (λ n. Blames p (of_service i) (fault.TwiceNamed (place.Decl n))) (sym stands) (for_service i)

      taken_names_same : has_name taken d.name ≡ has_name (take i (svc_names p)) d.name
      taken_names_same = ap (λ ns. has_name ns d.name) names

      go : (a b : Bool) → is_prim d.name ≡ a → has_name taken d.name ≡ b → StandsFor p (of_service i ∷ more) (then_by (if a || b then Err (fault.TwiceNamed (place.Decl at)) else k) h)
      go true b e f = here (of_service i) more (λ h. let z : true ≡ false = sym e ∙ (h d is).0 in cc) blame
      go false true e f = here (of_service i) more (λ h. let z : true ≡ false = sym f ∙ taken_names_same ∙ (h d is).1 in cc) blame
      go false false e f = kept_first p (of_service i) more (then_by k h)
          (λ g h. let same : d ≡ g = same_item p.svcs i d g is h in (ap (λ x. is_prim x.name) (sym same) ∙ e, ap (λ x. has_name (take i (svc_names p)) x.name) (sym same) ∙ sym taken_names_same ∙ f)) rest

  pub services_stand : (ds : List Svc) (i at : ℕ) (taken : List Name) (ks : List Condition) (k : ℕ → Result A TypeFault) → From p.svcs i ds → taken ≡ take i (svc_names p) → at ≡ behind 0 i
      → ((m : ℕ) → m ≡ behind 0 (i + length ds) → StandsFor p ks (k m)) → StandsFor p (conditions_from of_service i (length ds) ks) (then_by (services_from taken ds at) k)
  unfolding services_from
  services_stand [] i at taken ks k look names stands s = let e : i ≡ i + 0 = omega arith in s at (stands ∙ ap (behind 0) e)
  services_stand (d ∷ ds) i at taken ks k look names stands s =
      let is = from_here p.svcs i d ds look in
      service_step d i at taken (conditions_from of_service (i + 1) (length ds) ks) (services_from (taken ++ d.name ∷ []) ds (next at)) k is names stands
      (services_stand ds (i + 1) (next at) (taken ++ d.name ∷ []) ks k (from_next p.svcs i d ds look)
      (ap (λ ns. ns ++ d.name ∷ []) names ∙ sym (take_more (svc_names p) i d.name (map_at (λ d. d.name) p.svcs i d is))) (onward 0 i at stands)
      (λ m e. let same : i + 1 + length ds ≡ i + suc (length ds) = omega arith in s m (e ∙ ap (behind 0) same)))

  exception_step : (x : Name) (i at : ℕ) (taken : List Name) (more : List Condition) (k : Result ℕ TypeFault) (h : ℕ → Result A TypeFault)
      → slice_get p.exns i ≡ Some x → taken ≡ built_in ++ take i p.exns → at ≡ behind (length p.svcs) i → StandsFor p more (then_by k h)
      → StandsFor p (of_exception i ∷ more) (then_by (if has_name taken x then Err (fault.TwiceNamed (place.Decl at)) else k) h)
  exception_step x i at taken more k h is names stands rest = go (has_name taken x) refl
    where
      blame : Blames p (of_exception i) (fault.TwiceNamed (place.Decl at))
      blame = subst (λ n. Blames p (of_exception i) (fault.TwiceNamed (place.Decl n))) (sym stands) (for_exception i)

      taken_names_same : has_name taken x ≡ has_name (built_in ++ take i p.exns) x
      taken_names_same = ap (λ ns. has_name ns x) names

      go : (b : Bool) → has_name taken x ≡ b → StandsFor p (of_exception i ∷ more) (then_by (if b then Err (fault.TwiceNamed (place.Decl at)) else k) h)
      go true f = here (of_exception i) more (λ h. let z : true ≡ false = sym f ∙ taken_names_same ∙ h x is in cc) blame
      go false f = kept_first p (of_exception i) more (then_by k h)
          (λ g h. let same : x ≡ g = same_item p.exns i x g is h in ap (has_name (built_in ++ take i p.exns)) (sym same) ∙ sym taken_names_same ∙ f) rest

  pub exceptions_stand : (ns : List Name) (i at : ℕ) (taken : List Name) (ks : List Condition) (k : ℕ → Result A TypeFault) → From p.exns i ns → taken ≡ built_in ++ take i p.exns → at ≡ behind (length p.svcs) i
      → ((m : ℕ) → m ≡ behind (length p.svcs) (i + length ns) → StandsFor p ks (k m)) → StandsFor p (conditions_from of_exception i (length ns) ks) (then_by (exceptions_from taken ns at) k)
  unfolding exceptions_from
  exceptions_stand [] i at taken ks k look names stands s = let e : i ≡ i + 0 = omega arith in s at (stands ∙ ap (behind (length p.svcs)) e)
  exceptions_stand (x ∷ ns) i at taken ks k look names stands s =
      let is = from_here p.exns i x ns look in
      exception_step x i at taken (conditions_from of_exception (i + 1) (length ns) ks) (exceptions_from (taken ++ x ∷ []) ns (next at)) k is names stands
      (exceptions_stand ns (i + 1) (next at) (taken ++ x ∷ []) ks k (from_next p.exns i x ns look)
      (ap (λ ns. ns ++ x ∷ []) names ∙ append_assoc built_in (take i p.exns) (x ∷ []) ∙ ap (λ ns. built_in ++ ns) (sym (take_more p.exns i x is))) (onward (length p.svcs) i at stands)
      (λ m e. let same : i + 1 + length ns ≡ i + suc (length ns) = omega arith in s m (e ∙ ap (behind (length p.svcs)) same)))

  function_step : (d : Fun) (i at : ℕ) (taken : List Name) (more : List Condition) (k : Result ℕ TypeFault) (h : ℕ → Result A TypeFault)
      → slice_get p.funs i ≡ Some d → taken ≡ svc_names p ++ take i (fun_names p) → at ≡ behind (length p.svcs + length p.exns) i → StandsFor p more (then_by k h)
      → StandsFor p (of_function i ∷ more) (then_by (if is_prim d.name || has_name taken d.name || not (are_new [] (param_names d.params)) then Err (fault.TwiceNamed (place.Decl at)) else k) h)
  function_step d i at taken more k h is names stands rest = go (is_prim d.name) (has_name taken d.name) (are_new [] (param_names d.params)) refl refl refl
    where
      blame : Blames p (of_function i) (fault.TwiceNamed (place.Decl at))
      blame = subst (λ n. Blames p (of_function i) (fault.TwiceNamed (place.Decl n))) (sym stands) (for_function i)

      taken_names_same : has_name taken d.name ≡ has_name (svc_names p ++ take i (fun_names p)) d.name
      taken_names_same = ap (λ ns. has_name ns d.name) names

      go : (a b c : Bool) → is_prim d.name ≡ a → has_name taken d.name ≡ b → are_new [] (param_names d.params) ≡ c
          → StandsFor p (of_function i ∷ more) (then_by (if a || b || not c then Err (fault.TwiceNamed (place.Decl at)) else k) h)
      go true b c e f g = here (of_function i) more (λ h. let z : true ≡ false = sym e ∙ (h d is).0 in cc) blame
      go false true c e f g = here (of_function i) more (λ h. let z : true ≡ false = sym f ∙ taken_names_same ∙ (h d is).1 in cc) blame
      go false false false e f g = here (of_function i) more (λ h. let z : true ≡ false = sym (h d is).2 ∙ g in cc) blame
      go false false true e f g = kept_first p (of_function i) more (then_by k h)
          (λ x h. let same : d ≡ x = same_item p.funs i d x is h in
          (ap (λ y. is_prim y.name) (sym same) ∙ e, ap (λ y. has_name (svc_names p ++ take i (fun_names p)) y.name) (sym same) ∙ sym taken_names_same ∙ f, ap (λ y. are_new [] (param_names y.params)) (sym same) ∙ g)) rest

  pub functions_stand : (ds : List Fun) (i at : ℕ) (taken : List Name) (ks : List Condition) (k : ℕ → Result A TypeFault) → From p.funs i ds → taken ≡ svc_names p ++ take i (fun_names p)
      → at ≡ behind (length p.svcs + length p.exns) i → ((m : ℕ) → StandsFor p ks (k m)) → StandsFor p (conditions_from of_function i (length ds) ks) (then_by (functions_from taken ds at) k)
  unfolding functions_from
  functions_stand [] i at taken ks k look names stands s = s at
  functions_stand (d ∷ ds) i at taken ks k look names stands s =
      let is = from_here p.funs i d ds look in
      function_step d i at taken (conditions_from of_function (i + 1) (length ds) ks) (functions_from (taken ++ d.name ∷ []) ds (next at)) k is names stands
      (functions_stand ds (i + 1) (next at) (taken ++ d.name ∷ []) ks k (from_next p.funs i d ds look)
      (ap (λ ns. ns ++ d.name ∷ []) names ∙ append_assoc (svc_names p) (take i (fun_names p)) (d.name ∷ [])
      ∙ ap (λ ns. svc_names p ++ ns) (sym (take_more (fun_names p) i d.name (map_at (λ d. d.name) p.funs i d is))))
      (onward (length p.svcs + length p.exns) i at stands) s)
