-- What the shape and the soundness of a value are, by its outermost level.
use Rattle.std.proofs.Common.{◌≡◌, ℕ, ◌+◌, ◌==◌, min, Bool, true, not, ◌&&◌, if◌then◌else◌, refl, ap, sym, ◌∙◌, List, [], ◌∷◌, length, Option, Some, None}
use Rattle.std.specs.Prelude.{map, is_some, is_ok, IsTrue, Result, Ok, Err}
use Rattle.std.proofs.lemmas.List.{length-map}
use Rattle.containers.proofs.Lists.{list_all-map}
use Rattle.plan_base.specs.declared.tree.Ty.{Ty, Ty-F, out-Ty}
use Rattle.plan_base.specs.declared.tree.Fun.{Fun}
use Rattle.plan_base.specs.declared.tree.Program.{Program}
use Rattle.plan_types_spec.specs.declared.type_fault.TypeFault.{TypeFault}
use Rattle.plan_base.specs.declared.tree.Value.{Value, Value-F, out-Value, roll-out-Value, map-Value, fold_out-Value, para-roll-Value}
use Rattle.plan_base.specs.declared.tree.Chunk.{Chunk, out-Chunk, roll-out-Chunk, fold-Chunk, para-Chunk, para-roll-Chunk}
use Rattle.plan_base.specs.Trees.{TyLayer, ValueLayer}
use Rattle.plan_types_spec.specs.TypingNames.{param_types}
use Rattle.plan_base.specs.SameTypes.{same_type}
use Rattle.plan_types_spec.specs.TypingOrder.{fun_of, annotated_program}
use Rattle.plan_types_chunks.specs.declared.fault.Ill.{Ill}
use Rattle.plan_types_chunks.specs.declared.fault.Ill.TheVariants.{Count, Argument}
use Rattle.checked_chunks.specs.Kept.{is_small_chunk}
use Rattle.plan_types_chunks.specs.Chunks.{fit_all, fits_layer, fits, ill_from, ill_with, ill_call, ill_code, ill_level, sound_level, paired_right, sound, right, illness, is_right_chunk}

fit_all-map : (f : Value → Ty → Bool) (vs : List Value) (ts : List Ty) → fit_all (λ g. g) (map f vs) ts ≡ fit_all f vs ts
fit_all-map f [] [] = refl
fit_all-map f [] (t ∷ ts) = refl
fit_all-map f (v ∷ vs) [] = refl
fit_all-map f (v ∷ vs) (t ∷ ts) = ap (λ b. f v t && b) (fit_all-map f vs ts)

fits_step : (f : Value → Ty → Bool) (g : Chunk → Bool) (x : ValueLayer) (l : TyLayer) → fits_layer (λ h. h) (map-Value Value Chunk (Ty → Bool) Bool f g x) l ≡ fits_layer f x l
fits_step f g (Value-F.List u vs) (Ty-F.List t) = ap (λ b. same_type u t && b) (list_all-map (λ h. h u) f vs)
fits_step f g (Value-F.Tuple vs) (Ty-F.Tuple ts) = fit_all-map f vs ts
fits_step f g _ _ = refl

pub fits_out : (v : Value) (t : Ty) → fits v t ≡ fits_layer fits (out-Value v) (out-Ty t)
unfolding fits
fits_out v t =
    ap (λ f. f t) (fold_out-Value (Ty → Bool) Bool (λ l t. fits_layer (λ f. f) l (out-Ty t)) (λ _. true) v)
    ∙ fits_step fits (fold-Chunk (Ty → Bool) Bool (λ l t. fits_layer (λ f. f) l (out-Ty t)) (λ _. true)) (out-Value v) (out-Ty t)

abbrev paired_with_test : {X : Type 0} → (X → Bool) → X → (X × Bool)
paired_with_test f x = (x, f x)

ill_from-map : (n : ℕ) (vs : List Value) (ts : List Ty) → ill_from paired_right n (map (paired_with_test sound) vs) ts ≡ ill_from right n vs ts
ill_from-map n [] ts = refl
ill_from-map n (v ∷ vs) [] = refl
ill_from-map n (v ∷ vs) (t ∷ ts) = ap (λ o. if right v t then o else Some (Argument n)) (ill_from-map (min (n + 1) 255) vs ts)

ill_with-map : (vs : List Value) (o : Option Fun) → ill_with paired_right (map (paired_with_test sound) vs) o ≡ ill_with right vs o
ill_with-map vs None = refl
ill_with-map vs (Some d) = λ i. if length-map vs (paired_with_test sound) i == length d.params then ill_from-map 0 vs (param_types d.params) i else Some Count

pub sound_chunk : (c : Chunk) → para-Chunk Bool Bool (sound_level (λ v. v.1) (λ c. is_small_chunk c.0 && c.1)) (λ c. not (is_some (ill_level paired_right c))) c ≡ not (is_some (illness c))
unfolding sound illness
sound_chunk c =
    ap (para-Chunk Bool Bool (sound_level (λ v. v.1) (λ c. is_small_chunk c.0 && c.1)) (λ c. not (is_some (ill_level paired_right c)))) (sym (roll-out-Chunk c))
    ∙ para-roll-Chunk Bool Bool (sound_level (λ v. v.1) (λ c. is_small_chunk c.0 && c.1)) (λ c. not (is_some (ill_level paired_right c))) (out-Chunk c)
    ∙ ap (λ o. not (is_some (ill_code (annotated_program c.code) o))) (ill_with-map c.args (fun_of c.code c.entry))

sound_step : (f : Value → Bool) (g h : Chunk → Bool) → ((c : Chunk) → g c ≡ h c) → (x : ValueLayer)
    → sound_level (λ v. v.1) (λ c. is_small_chunk c.0 && c.1) (map-Value Value Chunk (Value × Bool) (Chunk × Bool) (λ v. (v, f v)) (λ c. (c, g c)) x) ≡ sound_level f (λ c. is_small_chunk c && h c) x
sound_step f g h e (Value-F.Chunk c) = ap (λ b. is_small_chunk c && b) (e c)
sound_step f g h e (Value-F.List t vs) = list_all-map (λ v. v.1) (paired_with_test f) vs
sound_step f g h e (Value-F.Tuple vs) = list_all-map (λ v. v.1) (paired_with_test f) vs
sound_step f g h e _ = refl

pub sound_out : (v : Value) → sound v ≡ sound_level sound is_right_chunk (out-Value v)
unfolding sound
sound_out v =
    ap sound (sym (roll-out-Value v))
    ∙ para-roll-Value Bool Bool (sound_level (λ v. v.1) (λ c. is_small_chunk c.0 && c.1)) (λ c. not (is_some (ill_level paired_right c))) (out-Value v)
    ∙ sound_step sound (para-Chunk Bool Bool (sound_level (λ v. v.1) (λ c. is_small_chunk c.0 && c.1)) (λ c. not (is_some (ill_level paired_right c)))) (λ c. not (is_some (illness c))) sound_chunk (out-Value v)

pub illness_is : (c : Chunk) → illness c ≡ ill_code (annotated_program c.code) (ill_call right c.code c.entry c.args)
unfolding illness
illness_is c = refl

-- where the code is typed, what is wrong comes after it
pub code_passes : (r : Result Program TypeFault) (next : Option Ill) → IsTrue (is_ok r) → ill_code r next ≡ next
code_passes (Ok p) next h = refl
code_passes (Err f) next h = absurd (cc)

-- both by their outermost level
pub ruleset levels = (fits_out, sound_out, illness_is)
