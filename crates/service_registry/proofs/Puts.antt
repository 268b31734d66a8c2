-- How the service that keeps a value takes its arguments, and what it answers.
use Rattle.std.proofs.Common.{◌≡◌, ℕ, ℤ, pos, Bool, true, false, List, [], ◌∷◌, length, Option, refl, sym, ap, ◌∙◌}
use Rattle.std.specs.Prelude.{int_lt, if◌then◌else◌}
use Rattle.plan_base.specs.declared.tree.Ty.{Ty}
use Rattle.plan_base.specs.declared.tree.Value.{Value, out-Value}
use Rattle.service_api.specs.Rows.{put_row, fits}
use Rattle.resident_tables.specs.Tables.{row_of}
use Rattle.plan_types_spec.specs.Rules.{bad_index}
use Rattle.service_api.specs.declared.ctx.Ctx.{Ctx}
use Rattle.service_api.specs.Services.{Rows, Served, refused_call}
use Rattle.service_registry_spec.specs.declared.service.Service.TheVariants as service
use Rattle.service_registry_spec.specs.Answers.{of_int, kept_answer, raised_answer, put_answer, table_full, serve_as, expiry_after}
use Rattle.service_registry.specs.Arguments.{int_in, text_in}
use Rattle.service_registry.proofs.ArgumentReads.{taken_argument, int_read, text_read}

module _ (a : Ty) (ctx : Ctx) (rows : Rows) where
  abbrev Put : List Value → Served
  Put args = serve_as service.Put a args ctx rows

  pub put_other : (args : List Value) → (length args ≡ 4 → ⊥) → Put args ≡ refused_call rows
  put_other [] h = refl
  put_other (x ∷ []) h = refl
  put_other (x ∷ y ∷ []) h = refl
  put_other (x ∷ y ∷ z ∷ []) h = refl
  put_other (x ∷ y ∷ z ∷ w ∷ []) h = absurd (h refl)
  put_other (x ∷ y ∷ z ∷ w ∷ m ∷ ms) h = refl

  -- by what its arguments are
  pub put_by : (args : List Value) (x y v w : Value) (o : Option (List ℕ)) (p q : Option ℤ) → args ≡ x ∷ y ∷ v ∷ w ∷ [] → o ≡ text_in (out-Value x) → p ≡ int_in (out-Value y) → q ≡ int_in (out-Value w)
      → Put args ≡ taken_argument (List ℕ) (λ name. taken_argument ℤ (λ number. taken_argument ℤ (kept_answer a ctx rows name number v) q rows) p rows) o rows
  put_by args x y v w o p q e f g h =
      ap Put e
      ∙ text_read rows (λ name. of_int (λ number. of_int (kept_answer a ctx rows name number v) (out-Value w) rows) (out-Value y) rows) (out-Value x) o f
      ∙ ap (λ (t : List ℕ → Served). taken_argument (List ℕ) t o rows) (λ i name. int_read rows (λ number. of_int (kept_answer a ctx rows name number v) (out-Value w) rows) (out-Value y) p g i)
      ∙ ap (λ (t : List ℕ → ℤ → Served). taken_argument (List ℕ) (λ name. taken_argument ℤ (t name) p rows) o rows) (λ i name number. int_read rows (kept_answer a ctx rows name number v) (out-Value w) q h i)

  pub kept_short : (name : List ℕ) (number : ℤ) (v : Value) (life other : ℤ) → life ≡ other → int_lt other (pos 1) ≡ true → kept_answer a ctx rows name number v life ≡ raised_answer bad_index rows
  kept_short name number v life other e h = ap (kept_answer a ctx rows name number v) e ∙ rw h refl

  -- the row as it was put is the row of the arguments
  pub kept_full : (name : List ℕ) (number n : ℤ) (v : Value) (life other : ℤ) (expiry : ℕ) → number ≡ n → life ≡ other → int_lt other (pos 1) ≡ false → expiry ≡ expiry_after ctx.now other
      → fits (put_row (row_of name n a v expiry) rows.rows) ≡ false → kept_answer a ctx rows name number v life ≡ raised_answer table_full rows
  kept_full name number n v life other expiry e f h x full =
      (λ i. kept_answer a ctx rows name (e i) v (f i))
      ∙ ap (λ (b : Bool). if b then raised_answer bad_index rows else put_answer (row_of name n a v (expiry_after ctx.now other)) rows) h
      ∙ ap (λ (t : ℕ). put_answer (row_of name n a v t) rows) (sym x)
      ∙ rw full refl
