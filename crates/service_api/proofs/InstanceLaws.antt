-- The written instances of a service's type are those that the test finds.
use Rattle.std.proofs.Common.{◌≡◌, ◌↔◌, ◌⊎◌, inl, inr, ⊎_elim, Bool, true, false, ◌||◌, if◌then◌else◌, List, [], ◌∷◌, Option, Some, None, refl, sym, ap, ◌∙◌, subst}
use Rattle.std.specs.List.{list_any}
use Rattle.std.proofs.lemmas.Bool.{false≢true, true≢false}
use Rattle.containers.proofs.Bools.{and_left, and_right, and_both}
use Rattle.containers.proofs.Options.{none-some, some-same}
use Rattle.plan_base.specs.declared.tree.Ty.{Ty}
use Rattle.plan_base.specs.declared.tree.Ty.TheVariants as type
use Rattle.plan_base.specs.declared.tree.Svc.{Svc}
use Rattle.plan_base.specs.SameTypes.{same_type}
use Rattle.plan_base.proofs.SameTypes.{same_type_true, same_type_of}
use Rattle.service_api.specs.declared.scheme.SchemeTy.{SchemeTy}
use Rattle.service_api.specs.declared.scheme.SchemeTy.TheVariants.{Any, Is}
use Rattle.service_api.specs.declared.scheme.Scheme.{Scheme}
use Rattle.service_api.specs.Schemes.{stands_for, AllStandFor, is_any, has_any, IsInstance, taken_by, taken_among, or_unit, any_type, same_all, tests_instance, instance}

same_stand : (a : Ty) (ss : List SchemeTy) (ts : List Ty) → same_all a ss ts ≡ true → AllStandFor a ss ts
same_stand a [] [] e = tt
same_stand a (s ∷ ss) (t ∷ ts) e =
    (same_type_true t (stands_for a s) (and_left (same_type t (stands_for a s)) (same_all a ss ts) e), same_stand a ss ts (and_right (same_type t (stands_for a s)) (same_all a ss ts) e))
same_stand a [] (t ∷ ts) e = absurd (false≢true e)
same_stand a (s ∷ ss) [] e = absurd (false≢true e)

stand_same : (a : Ty) (ss : List SchemeTy) (ts : List Ty) → AllStandFor a ss ts → same_all a ss ts ≡ true
stand_same a [] [] h = refl
stand_same a (s ∷ ss) (t ∷ ts) h = and_both (same_type t (stands_for a s)) (same_all a ss ts) (same_type_of t (stands_for a s) h.0) (stand_same a ss ts h.1)
stand_same a [] (t ∷ ts) h = absurd h
stand_same a (s ∷ ss) [] h = absurd h

-- without `Any` nothing is taken
untaken : (ss : List SchemeTy) (ts : List Ty) (later : Option Ty) → list_any is_any ss ≡ false → taken_among ss ts later ≡ later
untaken [] ts later e = refl
untaken (Any ∷ ss) ts later e = absurd (true≢false e)
untaken (Is u ∷ ss) [] later e = refl
untaken (Is u ∷ ss) (t ∷ ts) later e = untaken ss ts later e

untaken_last : (s : SchemeTy) (t : Ty) → is_any s ≡ false → taken_by s t None ≡ None
untaken_last Any t e = absurd (true≢false e)
untaken_last (Is u) t e = refl

neither : (a b : Bool) → (a || b) ≡ false → (a ≡ false) × (b ≡ false)
neither true b e = absurd (true≢false e)
neither false b e = (refl, e)

taken_unit : (scheme : Scheme) (svc : Svc) → has_any scheme ≡ false → any_type scheme svc ≡ type.Unit
unfolding any_type
taken_unit scheme svc e =
    let n = neither (list_any is_any scheme.params) (is_any scheme.result) e in
    ap or_unit (untaken scheme.params svc.params (taken_by scheme.result svc.result None) n.0 ∙ untaken_last scheme.result svc.result n.1)

tested_is_instance : (scheme : Scheme) (svc : Svc) (a : Ty) (b : Bool) → tests_instance scheme svc (any_type scheme svc) ≡ b → (if b then Some (any_type scheme svc) else None) ≡ Some a → IsInstance scheme svc a
tested_is_instance scheme svc a false d e = absurd (none-some e)
tested_is_instance scheme svc a true d e =
    let w = any_type scheme svc in
    let last = same_type svc.result (stands_for w scheme.result) in
    subst (λ x. IsInstance scheme svc x) (some-same e) (record {
      params = same_stand w scheme.params svc.params (and_left (same_all w scheme.params svc.params) last d);
      result = same_type_true svc.result (stands_for w scheme.result) (and_right (same_all w scheme.params svc.params) last d);
      unit = taken_unit scheme svc;
    })

pub found_is : (scheme : Scheme) (svc : Svc) (a : Ty) → instance scheme svc ≡ Some a → IsInstance scheme svc a
unfolding instance
found_is scheme svc a e = tested_is_instance scheme svc a (tests_instance scheme svc (any_type scheme svc)) refl e

-- `Any` takes the type that stands for it, or there is none
took : (a : Ty) (ss : List SchemeTy) (ts : List Ty) (later : Option Ty) → AllStandFor a ss ts → (taken_among ss ts later ≡ Some a) ⊎ ((list_any is_any ss ≡ false) × (taken_among ss ts later ≡ later))
took a [] [] later h = inr (refl, refl)
took a (Any ∷ ss) (t ∷ ts) later h = inl (ap Some h.0)
took a (Is u ∷ ss) (t ∷ ts) later h = took a ss ts later h.1
took a [] (t ∷ ts) later h = absurd h
took a (s ∷ ss) [] later h = absurd h

took_last : (a : Ty) (s : SchemeTy) (t : Ty) → t ≡ stands_for a s → (is_any s ≡ false → a ≡ type.Unit) → or_unit (taken_by s t None) ≡ a
took_last a Any t e k = e
took_last a (Is u) t e k = sym (k refl)

taken_is : (scheme : Scheme) (svc : Svc) (a : Ty) → IsInstance scheme svc a → any_type scheme svc ≡ a
unfolding any_type
taken_is scheme svc a h =
    ⊎_elim (λ e. ap or_unit e)
    (λ n. ap or_unit n.1 ∙ took_last a scheme.result svc.result h.result (λ m. h.unit (λ i. n.0 i || m i)))
    (took a scheme.params svc.params (taken_by scheme.result svc.result None) h.params)

pub is_found : (scheme : Scheme) (svc : Svc) (a : Ty) → IsInstance scheme svc a → instance scheme svc ≡ Some a
unfolding instance
is_found scheme svc a h =
    let t = taken_is scheme svc a h in
    let passes = and_both (same_all a scheme.params svc.params) (same_type svc.result (stands_for a scheme.result)) (stand_same a scheme.params svc.params h.params) (same_type_of svc.result (stands_for a scheme.result) h.result) in
    let e : tests_instance scheme svc (any_type scheme svc) ≡ true = subst (λ x. tests_instance scheme svc x ≡ true) (sym t) passes in
    (λ i. if e i then Some (any_type scheme svc) else None) ∙ ap Some t

pub instance_exact : (scheme : Scheme) (svc : Svc) (o : Option Ty) → o ≡ instance scheme svc → (a : Ty) → (o ≡ Some a) ↔ IsInstance scheme svc a
instance_exact scheme svc o e a = (λ h. found_is scheme svc a (sym e ∙ h), λ h. e ∙ is_found scheme svc a h)

pub some_found : (scheme : Scheme) (svc : Svc) (w : Ty) → w ≡ any_type scheme svc → tests_instance scheme svc w ≡ true → Some w ≡ instance scheme svc
unfolding instance
some_found scheme svc w e h =
    let shows : tests_instance scheme svc (any_type scheme svc) ≡ true = subst (λ x. tests_instance scheme svc x ≡ true) e h in
    ap Some e ∙ sym (λ i. if shows i then Some (any_type scheme svc) else None)
