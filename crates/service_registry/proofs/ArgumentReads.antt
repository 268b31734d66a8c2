-- How services take their arguments.
use Rattle.std.proofs.Common.{◌≡◌, ℕ, zero, suc, ℤ, ◌<◌, ◌≤◌, List, [], ◌∷◌, length, get_or, Option, Some, None, Result, refl, sym, ap, ◌∙◌, subst, arith}
use Rattle.plan_base.specs.declared.memory.NoMemory.{NoMemory}
use Rattle.plan_base.specs.declared.tree.Value.{Value, out-Value}
use Rattle.plan_base.specs.declared.tree.Value.TheOpen.{Value-F}
use Rattle.plan_base.specs.Trees.{ValueLayer}
use Rattle.service_api.specs.declared.row.Row.{Row}
use Rattle.service_api.specs.declared.answer.Answer.{Answer}
use Rattle.service_api.specs.Services.{Rows, Served, refused_call}
use Rattle.service_registry_spec.specs.Answers.{without_arguments, of_two, of_int, of_text}
use Rattle.service_registry.specs.Arguments.{int_in, text_in}
use Rattle.service_registry.specs.Meets.{Meets}

-- the answer at an argument that is there, and else a refusal
abbrev pub taken_argument : (A : Type 0) → (A → Served) → Option A → Rows → Served
taken_argument A f (Some a) rows = f a
taken_argument A f None rows = refused_call rows

module _ (rows : Rows) where
  int_taken : (f : ℤ → Served) (l : ValueLayer) → of_int f l rows ≡ taken_argument ℤ f (int_in l) rows
  int_taken f (Value-F.Int z) = refl
  int_taken f Value-F.Unit = refl
  int_taken f (Value-F.Bool b) = refl
  int_taken f (Value-F.Host h) = refl
  int_taken f (Value-F.Char n) = refl
  int_taken f (Value-F.Str s) = refl
  int_taken f (Value-F.Blob b) = refl
  int_taken f (Value-F.Dev d) = refl
  int_taken f (Value-F.Chunk k) = refl
  int_taken f (Value-F.List t vs) = refl
  int_taken f (Value-F.Tuple vs) = refl

  text_taken : (f : List ℕ → Served) (l : ValueLayer) → of_text f l rows ≡ taken_argument (List ℕ) f (text_in l) rows
  text_taken f (Value-F.Str s) = refl
  text_taken f Value-F.Unit = refl
  text_taken f (Value-F.Bool b) = refl
  text_taken f (Value-F.Host h) = refl
  text_taken f (Value-F.Char n) = refl
  text_taken f (Value-F.Int z) = refl
  text_taken f (Value-F.Blob b) = refl
  text_taken f (Value-F.Dev d) = refl
  text_taken f (Value-F.Chunk k) = refl
  text_taken f (Value-F.List t vs) = refl
  text_taken f (Value-F.Tuple vs) = refl

  pub int_read : (f : ℤ → Served) (l : ValueLayer) (o : Option ℤ) → o ≡ int_in l → of_int f l rows ≡ taken_argument ℤ f o rows
  int_read f l o e = int_taken f l ∙ ap (λ x. taken_argument ℤ f x rows) (sym e)

  pub text_read : (f : List ℕ → Served) (l : ValueLayer) (o : Option (List ℕ)) → o ≡ text_in l → of_text f l rows ≡ taken_argument (List ℕ) f o rows
  text_read f l o e = text_taken f l ∙ ap (λ x. taken_argument (List ℕ) f x rows) (sym e)

-- ---- how many arguments there are

pub some_refused : (s : Served) (args : List Value) (rows : Rows) → 1 ≤ length args → without_arguments s args rows ≡ refused_call rows
some_refused s [] rows h = absurd (omega arith)
some_refused s (x ∷ xs) rows h = refl

pub none_given : (s : Served) (args : List Value) (rows : Rows) → length args < 1 → without_arguments s args rows ≡ s
none_given s [] rows h = refl
none_given s (x ∷ xs) rows h = absurd (omega arith)

pub two_items : (args : List Value) (x y : Value) → length args ≡ 2 → x ≡ get_or args 0 x → y ≡ get_or args 1 y → args ≡ x ∷ y ∷ []
two_items [] x y h e f = absurd (omega arith)
two_items (u ∷ []) x y h e f = absurd (omega arith)
two_items (u ∷ v ∷ []) x y h e f = cc
two_items (u ∷ v ∷ w ∷ ws) x y h e f = absurd (omega arith)

-- an item that is there is the same whatever stands for one that isn't
pub get_or_any : (xs : List Value) (i : ℕ) (d e : Value) → i < length xs → get_or xs i d ≡ get_or xs i e
get_or_any [] i d e h = absurd (omega arith)
get_or_any (x ∷ xs) zero d e h = refl
get_or_any (x ∷ xs) (suc i) d e h = get_or_any xs i d e (omega arith)

pub four_items : (args : List Value) (x y z w : Value) → length args ≡ 4 → x ≡ get_or args 0 x → y ≡ get_or args 1 y → z ≡ get_or args 2 z → w ≡ get_or args 3 w → args ≡ x ∷ y ∷ z ∷ w ∷ []
four_items [] x y z w h e f g i = absurd (omega arith)
four_items (a ∷ []) x y z w h e f g i = absurd (omega arith)
four_items (a ∷ b ∷ []) x y z w h e f g i = absurd (omega arith)
four_items (a ∷ b ∷ c ∷ []) x y z w h e f g i = absurd (omega arith)
four_items (a ∷ b ∷ c ∷ d ∷ []) x y z w h e f g i = cc
four_items (a ∷ b ∷ c ∷ d ∷ m ∷ ms) x y z w h e f g i = absurd (omega arith)

-- ---- a service of a name and a number

abbrev pub Named : (List ℕ → ℤ → Served) → Rows → List Value → Served
Named f rows args = of_two (λ n k. of_text (λ name. of_int (f name) (out-Value k) rows) (out-Value n) rows) args rows

module _ (f : List ℕ → ℤ → Served) (rows : Rows) where
  pub named_other : (args : List Value) → (length args ≡ 2 → ⊥) → Named f rows args ≡ refused_call rows
  named_other [] h = refl
  named_other (x ∷ []) h = refl
  named_other (x ∷ y ∷ []) h = absurd (h refl)
  named_other (x ∷ y ∷ z ∷ zs) h = refl

  -- by what its arguments are
  pub named_by : (args : List Value) (x y : Value) (o : Option (List ℕ)) (p : Option ℤ) → args ≡ x ∷ y ∷ [] → o ≡ text_in (out-Value x) → p ≡ int_in (out-Value y)
      → Named f rows args ≡ taken_argument (List ℕ) (λ name. taken_argument ℤ (f name) p rows) o rows
  named_by args x y o p e g h =
      ap (Named f rows) e
      ∙ text_read rows (λ name. of_int (f name) (out-Value y) rows) (out-Value x) o g
      ∙ ap (λ (t : List ℕ → Served). taken_argument (List ℕ) t o rows) (λ i name. int_read rows (f name) (out-Value y) p h i)

pub meets_as : (s t : Served) (old new : Rows) (r : Result Answer NoMemory) → s ≡ t → Meets t old r new → Meets s old r new
meets_as s t old new r e m = subst (λ (x : Served). Meets x old r new) (sym e) m

-- the same where the rows are left as they were
pub meets_left : (s t : Served) (old new : Rows) (r : Result Answer NoMemory) → s ≡ t → new ≡ old → Meets t old r old → Meets s old r new
meets_left s t old new r e n m = meets_as s t old new r e (subst (λ (x : Rows). Meets t old r x) (sym n) m)

abbrev pub with_next : List Row → ℤ → Rows
with_next rows «next» = record { rows = rows; «next» = «next» }

pub rows_path : (xs ys : List Row) (a b : ℤ) → xs ≡ ys → a ≡ b → with_next xs a ≡ with_next ys b
rows_path xs ys a b e f = λ i. with_next (e i) (f i)
