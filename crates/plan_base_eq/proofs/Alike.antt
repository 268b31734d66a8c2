-- Whether two trees are the same, by the form of each.
use Rattle.std.proofs.Common.{◌≡◌, ◌∙◌, sym, refl, true, false}
use Rattle.std.specs.Prelude.{IsTrue, ◌↔◌}
use Rattle.std.proofs.lemmas.Bool.{false≢true}

-- both are the same form, which has no parts
pub alike : {A : Type 0} {a b x : A} → a ≡ x → b ≡ x → IsTrue true ↔ (a ≡ b)
alike p q = (λ _. p ∙ sym q, λ _. refl)

-- the second isn't of the first one's form
pub unlike : {A : Type 0} {a b x : A} → a ≡ x → (b ≡ x → ⊥) → IsTrue false ↔ (a ≡ b)
unlike p n = (λ h. absurd (false≢true h), λ e. absurd (n (sym e ∙ p)))
