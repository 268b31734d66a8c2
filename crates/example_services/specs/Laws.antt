-- The laws that the trait asks for: both services answer well, and whatever isn't offered is refused.
use Rattle.std.proofs.Common.{◌≡◌, true, false, ◌&&◌, if◌then◌else◌, List, [], ◌∷◌, Option, Some, None, is_some, refl, sym, ap, ◌∙◌, subst, lit≤}
use Rattle.std.specs.Str.{IsAscii}
use Rattle.std.proofs.Math.Nat.{zero-lt-suc}
use Rattle.std.proofs.lemmas.Str.{IsUtf8-from_ascii, is_utf8-from_IsUtf8}
use Rattle.std.proofs.lemmas.Str.Ascii.{IsAscii-nil, IsAscii-cons}
use Rattle.plan_base.specs.declared.tree.Svc.{Svc}
use Rattle.plan_base.specs.declared.tree.Ty.{Ty}
use Rattle.plan_base.specs.declared.tree.Ty.TheVariants as ty
use Rattle.plan_base.specs.declared.tree.Value.{Value}
use Rattle.plan_base.specs.declared.tree.Value.TheVariants as value
use Rattle.plan_base.specs.WellFormed.{well_formed_text}
use Rattle.plan_base.proofs.SizeLaws.{weight_out, nesting_out, value_depth_out}
use Rattle.plan_base.proofs.FormLaws.{formed_value_out}
use Rattle.plan_types_spec.specs.Typing.{str}
use Rattle.service_api.specs.declared.answer.Note.TheVariants.{Print}
use Rattle.service_api.specs.Schemes.{instance, is_instance_of}
use Rattle.service_api.specs.Services.{Rows, IsGoodServe, IsGoodServed, IsGoodValue, AreGoodValues, AreGoodRows, IsGoodNote, RefusesOthers, refused_call}
use Rattle.service_api.proofs.InstanceLaws.{found_is}
use Rattle.service_registry_spec.proofs.Leaves.{Sized, good_sized, good_int}
use Rattle.service_registry_spec.proofs.Tables.{key_good}
use Rattle.example_services.specs.declared.services.Counts.{Counts}
use Rattle.example_services.specs.declared.service.ExampleService.{ExampleService}
use Rattle.example_services.specs.declared.service.ExampleService.TheVariants.{Count, Greet}
use Rattle.example_services.specs.Offered.{named_service, type_of, type_named, called_as}
use Rattle.example_services.specs.Serving.{hello, counted_answer, greeted_answer, serve_called, serve, offer}

hello_ascii : IsAscii hello
hello_ascii = IsAscii-cons 104 (101 ∷ 108 ∷ 108 ∷ 111 ∷ []) (lit≤ tt)
    (IsAscii-cons 101 (108 ∷ 108 ∷ 111 ∷ []) (lit≤ tt)
    (IsAscii-cons 108 (108 ∷ 111 ∷ []) (lit≤ tt) (IsAscii-cons 108 (111 ∷ []) (lit≤ tt) (IsAscii-cons 111 [] (lit≤ tt) IsAscii-nil))))

hello_formed : well_formed_text hello ≡ true
unfolding well_formed_text
hello_formed = ap (λ b. b && true) (is_utf8-from_IsUtf8 hello (IsUtf8-from_ascii hello hello_ascii))

sized_hello : Sized (value.Str hello) 8 0
sized_hello = record {
  weighs = weight_out (value.Str hello) ∙ rw (value.outs-Str hello) refl;
  nests = nesting_out (value.Str hello) ∙ rw (value.outs-Str hello) refl;
  deep = value_depth_out (value.Str hello) ∙ rw (value.outs-Str hello) refl;
  formed = formed_value_out (value.Str hello) ∙ rw (value.outs-Str hello) hello_formed;
}

good_hello : IsGoodValue ty.Str (value.Str hello)
good_hello = good_sized ty.Str (value.Str hello) 8 0 (str hello (value.outs-Str hello) refl) sized_hello (lit≤ tt) refl

-- an argument that is good may be noted
argument_is_noted : (ts : List Ty) (v : Value) → AreGoodValues ts (v ∷ []) → IsGoodNote (Print v)
argument_is_noted [] v g = absurd g
argument_is_noted (t ∷ ts) v g = (t, g.0)

module _ (svc : Svc) (rows : Rows) (gr : AreGoodRows rows) where
  refused_good : IsGoodServed svc (refused_call rows)
  refused_good = record { answer = (0, zero-lt-suc _, refl); rows = gr }

  counted_good : svc.result ≡ ty.Int → (args : List Value) → IsGoodServed svc (counted_answer args rows)
  counted_good e [] =
      record {
        answer = (subst (λ (t : Ty). IsGoodValue t (value.Int rows.«next»)) (sym e) (good_int rows.«next»), tt);
        rows = key_good rows gr;
      }
  counted_good e (_ ∷ _) = refused_good

  greeted_good : svc.result ≡ ty.Str → (args : List Value) → AreGoodValues svc.params args → IsGoodServed svc (greeted_answer args rows)
  greeted_good e [] g = refused_good
  greeted_good e (v ∷ []) g =
      record {
        answer = (subst (λ (t : Ty). IsGoodValue t (value.Str hello)) (sym e) good_hello, argument_is_noted svc.params v g);
        rows = gr;
      }
  greeted_good e (v ∷ w ∷ vs) g = refused_good

  fitting_good : (s : ExampleService) (t : Option Ty) (args : List Value) → instance (type_of s) svc ≡ t → AreGoodValues svc.params args
      → IsGoodServed svc (serve_called (if is_some t then Some s else None) args rows)
  fitting_good s None args f g = refused_good
  fitting_good Count (Some a) args f g = counted_good (found_is (type_of Count) svc a f).result args
  fitting_good Greet (Some a) args f g = greeted_good (found_is (type_of Greet) svc a f).result args g

  named_good : (o : Option ExampleService) (args : List Value) → AreGoodValues svc.params args → IsGoodServed svc (serve_called (called_as o svc) args rows)
  named_good None args g = refused_good
  named_good (Some s) args g = fitting_good s (instance (type_of s) svc) args refl g

pub serve_good : IsGoodServe serve
serve_good svc args ctx rows gr ga near = named_good svc rows gr (named_service svc.name) args ga

unfit : (o : Option ExampleService) (svc : Svc) (args : List Value) (rows : Rows) → is_instance_of (type_named o) svc ≡ false
    → serve_called (called_as o svc) args rows ≡ refused_call rows
unfit None svc args rows e = refl
unfit (Some s) svc args rows e = ap (λ b. serve_called (if b then Some s else None) args rows) e

pub refuses : RefusesOthers offer
refuses svc args ctx rows e = unfit (named_service svc.name) svc args rows e

-- ---- as members of the trait, for each value

pub example_good : (c : Counts) → IsGoodServe serve
example_good c = serve_good

pub example_refuses : (c : Counts) → RefusesOthers offer
example_refuses c = refuses
