-- A text that was put together piece by piece.
use Rattle.std.proofs.Common.{◌≡◌, ℕ, List, [], ◌++◌, ap, ◌∙◌, append_assoc}

to_the_right : (a b c d e f z : List ℕ) → (((((a ++ b) ++ c) ++ d) ++ e) ++ f) ++ z ≡ a ++ (b ++ (c ++ (d ++ (e ++ (f ++ z)))))
to_the_right a b c d e f z =
    append_assoc ((((a ++ b) ++ c) ++ d) ++ e) f z ∙ append_assoc (((a ++ b) ++ c) ++ d) e (f ++ z) ∙ append_assoc ((a ++ b) ++ c) d (e ++ (f ++ z))
    ∙ append_assoc (a ++ b) c (d ++ (e ++ (f ++ z))) ∙ append_assoc a b (c ++ (d ++ (e ++ (f ++ z))))

-- six pieces and an end, from nothing
pub pieces : (t t1 t2 t3 t4 t5 t6 whole a b c d e f z : List ℕ) → t ≡ [] → t1 ≡ t ++ a → t2 ≡ t1 ++ b → t3 ≡ t2 ++ c → t4 ≡ t3 ++ d → t5 ≡ t4 ++ e
    → t6 ≡ t5 ++ f → whole ≡ t6 ++ z → whole ≡ a ++ (b ++ (c ++ (d ++ (e ++ (f ++ z)))))
pieces t t1 t2 t3 t4 t5 t6 whole a b c d e f z h h1 h2 h3 h4 h5 h6 h7 =
    h7 ∙ ap (λ x. x ++ z) (h6 ∙ ap (λ x. x ++ f) (h5 ∙ ap (λ x. x ++ e) (h4 ∙ ap (λ x. x ++ d) (h3 ∙ ap (λ x. x ++ c) (h2 ∙ ap (λ x. x ++ b)
    (h1 ∙ ap (λ x. x ++ a) h)))))) ∙ to_the_right a b c d e f z
