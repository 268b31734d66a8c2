-- When a declaration is an instance of the type of a service, by its parts.
use Rattle.std.proofs.Common.{◌≡◌, ℕ, zero, suc, ◌<◌, List, [], ◌∷◌, length, get_or, Option, Some, None, refl, sym, ap, ◌∙◌, arith}
use Rattle.std.proofs.lemmas.Bool.{true≢false}
use Rattle.plan_base.specs.declared.tree.Ty.{Ty}
use Rattle.plan_base.specs.declared.tree.Ty.TheVariants as ty
use Rattle.plan_base.specs.declared.tree.Svc.{Svc}
use Rattle.service_api.specs.declared.scheme.SchemeTy.{SchemeTy}
use Rattle.service_api.specs.declared.scheme.Scheme.{Scheme}
use Rattle.service_api.specs.Schemes.{AllStandFor, IsInstance, instance}
use Rattle.service_api.proofs.InstanceLaws.{found_is, is_found}
use Rattle.service_registry_spec.specs.declared.service.Service.TheVariants.{Put, Get, Remove, Print, Deliver}
use Rattle.service_registry_spec.specs.Offered.{type_of}

pub none_found : (scheme : Scheme) (svc : Svc) → ((a : Ty) → IsInstance scheme svc a → ⊥) → None ≡ instance scheme svc
none_found scheme svc h = sym (go (instance scheme svc) refl)
  where
    go : (o : Option Ty) → instance scheme svc ≡ o → o ≡ None
    go None e = refl
    go (Some a) e = absurd (h a (found_is scheme svc a e))

stand_long : (a : Ty) (ss : List SchemeTy) (ts : List Ty) → AllStandFor a ss ts → length ts ≡ length ss
stand_long a [] [] h = refl
stand_long a (s ∷ ss) (t ∷ ts) h = omega (arith, stand_long a ss ts h.1)
stand_long a [] (t ∷ ts) h = absurd h
stand_long a (s ∷ ss) [] h = absurd h

-- another number of parameters
pub other_many : (scheme : Scheme) (svc : Svc) (ps : List Ty) → svc.params ≡ ps → (length ps ≡ length scheme.params → ⊥) → None ≡ instance scheme svc
other_many scheme svc ps is h = none_found scheme svc (λ a i. h (ap length (sym is) ∙ stand_long a scheme.params svc.params i.params))

-- ---- lists of some types

pub one_type : (ts : List Ty) (x : Ty) → length ts ≡ 1 → x ≡ get_or ts 0 x → ts ≡ x ∷ []
one_type [] x h e = absurd (omega arith)
one_type (u ∷ []) x h e = cc
one_type (u ∷ v ∷ vs) x h e = absurd (omega arith)

pub two_types : (ts : List Ty) (x y : Ty) → length ts ≡ 2 → x ≡ get_or ts 0 x → y ≡ get_or ts 1 y → ts ≡ x ∷ y ∷ []
two_types [] x y h e f = absurd (omega arith)
two_types (u ∷ []) x y h e f = absurd (omega arith)
two_types (u ∷ v ∷ []) x y h e f = cc
two_types (u ∷ v ∷ w ∷ ws) x y h e f = absurd (omega arith)

-- an item that is there is the same whatever stands for one that isn't
pub type_any : (ts : List Ty) (i : ℕ) (d e : Ty) → i < length ts → get_or ts i d ≡ get_or ts i e
type_any [] i d e h = absurd (omega arith)
type_any (x ∷ xs) zero d e h = refl
type_any (x ∷ xs) (suc i) d e h = type_any xs i d e (omega arith)

pub four_types : (ts : List Ty) (x y z w : Ty) → length ts ≡ 4 → x ≡ get_or ts 0 x → y ≡ get_or ts 1 y → z ≡ get_or ts 2 z → w ≡ get_or ts 3 w → ts ≡ x ∷ y ∷ z ∷ w ∷ []
four_types [] x y z w h e f g i = absurd (omega arith)
four_types (a ∷ []) x y z w h e f g i = absurd (omega arith)
four_types (a ∷ b ∷ []) x y z w h e f g i = absurd (omega arith)
four_types (a ∷ b ∷ c ∷ []) x y z w h e f g i = absurd (omega arith)
four_types (a ∷ b ∷ c ∷ d ∷ []) x y z w h e f g i = cc
four_types (a ∷ b ∷ c ∷ d ∷ m ∷ ms) x y z w h e f g i = absurd (omega arith)

-- ---- the services

module _ (svc : Svc) (back : Ty) (ends : svc.result ≡ back) (ps : List Ty) (has : svc.params ≡ ps) where
  pub put_found : (n k a l : Ty) → ps ≡ n ∷ k ∷ a ∷ l ∷ [] → n ≡ ty.Str → k ≡ ty.Int → l ≡ ty.Int → back ≡ ty.Unit → Some a ≡ instance (type_of Put) svc
  put_found n k a l are str int life unit =
      sym (is_found (type_of Put) svc a (record { params = rw (has, are) (str, (int, (refl, (life, tt)))); result = ends ∙ unit; unit = λ e. absurd (true≢false e) }))

  pub put_needs : (b n k a l : Ty) → ps ≡ n ∷ k ∷ a ∷ l ∷ [] → IsInstance (type_of Put) svc b → ((n ≡ ty.Str) × (k ≡ ty.Int)) × ((l ≡ ty.Int) × (back ≡ ty.Unit))
  put_needs b n k a l are i = let h = rw (has, are) at i.params in ((h.0, h.1.0), (h.1.1.1.0, sym ends ∙ i.result))

  pub got_found : (n k : Ty) → ps ≡ n ∷ k ∷ [] → n ≡ ty.Str → k ≡ ty.Int → Some back ≡ instance (type_of Get) svc
  got_found n k are str int = sym (is_found (type_of Get) svc back (record { params = rw (has, are) (str, (int, tt)); result = ends; unit = λ e. absurd (true≢false e) }))

  pub got_needs : (b n k : Ty) → ps ≡ n ∷ k ∷ [] → IsInstance (type_of Get) svc b → (n ≡ ty.Str) × (k ≡ ty.Int)
  got_needs b n k are i = let h = rw (has, are) at i.params in (h.0, h.1.0)

  pub removed_found : (n k u : Ty) → ps ≡ n ∷ k ∷ [] → u ≡ ty.Unit → n ≡ ty.Str → k ≡ ty.Int → back ≡ ty.Unit → Some u ≡ instance (type_of Remove) svc
  removed_found n k u are is str int unit = sym (is_found (type_of Remove) svc u (record { params = rw (has, are) (str, (int, tt)); result = ends ∙ unit; unit = λ e. is }))

  pub removed_needs : (b n k : Ty) → ps ≡ n ∷ k ∷ [] → IsInstance (type_of Remove) svc b → (n ≡ ty.Str) × ((k ≡ ty.Int) × (back ≡ ty.Unit))
  removed_needs b n k are i = let h = rw (has, are) at i.params in (h.0, (h.1.0, sym ends ∙ i.result))

  pub printed_found : (a : Ty) → ps ≡ a ∷ [] → back ≡ ty.Unit → Some a ≡ instance (type_of Print) svc
  printed_found a are unit = sym (is_found (type_of Print) svc a (record { params = rw (has, are) (refl, tt); result = ends ∙ unit; unit = λ e. absurd (true≢false e) }))

  pub printed_needs : (b : Ty) → IsInstance (type_of Print) svc b → back ≡ ty.Unit
  printed_needs b i = sym ends ∙ i.result

  pub delivered_found : (p a : Ty) → ps ≡ p ∷ a ∷ [] → p ≡ ty.Int → back ≡ ty.Unit → Some a ≡ instance (type_of Deliver) svc
  delivered_found p a are int unit = sym (is_found (type_of Deliver) svc a (record { params = rw (has, are) (int, (refl, tt)); result = ends ∙ unit; unit = λ e. absurd (true≢false e) }))

  pub delivered_needs : (b p a : Ty) → ps ≡ p ∷ a ∷ [] → IsInstance (type_of Deliver) svc b → (p ≡ ty.Int) × (back ≡ ty.Unit)
  delivered_needs b p a are i = let h = rw (has, are) at i.params in (h.0, sym ends ∙ i.result)
