-- The lines of steps.
use Rattle.std.proofs.Common.{◌≡◌, ℕ, ◌+◌, ◌<◌, List, [], ◌∷◌, ◌++◌, length, take, get_or, refl, sym, ◌∙◌, ap, append-nil, append_assoc}
use Rattle.std.proofs.lemmas.List.{take_more}
use Rattle.plan_base.specs.declared.ids.Host.{Host}
use Rattle.node_core_spec.specs.declared.acts.Act.{Act}
use Rattle.node_core_spec.specs.Texts.{act_line}
use Rattle.node_log.specs.Runs.{entries_at}
use Rattle.node_log.specs.Texts.{lines_text}

-- ---- lines

pub lines_none : (here : Host) (n : ℕ) → lines_text here (entries_at n []) ≡ []
unfolding lines_text
lines_none here n = refl

pub lines_more : (here : Host) (n : ℕ) (acts : List Act) (a : Act) → lines_text here (entries_at n (acts ++ a ∷ [])) ≡ lines_text here (entries_at n acts) ++ act_line n here a
unfolding lines_text
lines_more here n [] a = append-nil (act_line n here a)
lines_more here n (b ∷ acts) a = ap (λ l. act_line n here b ++ l) (lines_more here n acts a) ∙ sym (append_assoc (act_line n here b) (lines_text here (entries_at n acts)) (act_line n here a))

pub lines_one : (here : Host) (n : ℕ) (a : Act) → lines_text here (entries_at n (a ∷ [])) ≡ [] ++ act_line n here a
lines_one here n a = lines_more here n [] a ∙ ap (λ l. l ++ act_line n here a) (lines_none here n)

-- the lines of the acts up to the next one were appended
pub lines_put : (here : Host) (n : ℕ) (acts : List Act) (i : ℕ) (a : Act) (old mid new : List ℕ) → i < length acts → a ≡ get_or acts i a → new ≡ mid ++ act_line n here a
    → mid ≡ old ++ lines_text here (entries_at n (take i acts)) → new ≡ old ++ lines_text here (entries_at n (take (i + 1) acts))
lines_put here n acts i a old mid new h is x y =
    let before = lines_text here (entries_at n (take i acts)) in
    let line = act_line n here a in
    let next : take (i + 1) acts ≡ take i acts ++ a ∷ [] = take_more acts i a h ∙ ap (λ b. take i acts ++ b ∷ []) (sym is) in
    x ∙ ap (λ l. l ++ line) y ∙ append_assoc old before line ∙ ap (λ l. old ++ l) (sym (ap (λ l. lines_text here (entries_at n l)) next ∙ lines_more here n (take i acts) a))
