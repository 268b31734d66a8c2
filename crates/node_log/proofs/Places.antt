-- The places of steps that were refused.
use Rattle.std.proofs.Common.{◌≡◌, ℕ, ◌+◌, ◌<◌, ◌≤◌, true, false, ◌||◌, List, [], ◌∷◌, ◌++◌, length, refl, ◌∙◌, ap, subst, arith, tests, append_assoc}
use Rattle.network_config.specs.declared.event.LogEvent.{LogEvent}
use Rattle.network_config.specs.declared.event.LogEvent.TheVariants.{Step, Lost}
use Rattle.node_log.specs.Runs.{Running, is_among, is_refused}
use Rattle.node_log.specs.Follow.{Ext, is_lost, FitsAfter, Fits, lost_after, lost_places}

-- what fits a log fits its fronts
pub fits_front : (n : ℕ) (refused : List ℕ) (es fs : List LogEvent) → FitsAfter n refused (es ++ fs) → FitsAfter n refused es
unfolding FitsAfter
fits_front n refused [] fs h = tt
fits_front n refused (e ∷ es) fs h = (h.0, fits_front (n + 1) refused es fs h.1)

-- what fits a log says whether its last entry was refused
pub fits_last : (n : ℕ) (refused : List ℕ) (es : List LogEvent) (e : LogEvent) → FitsAfter n refused (es ++ e ∷ []) → is_among refused (n + length es + 1) ≡ is_lost e
unfolding FitsAfter
fits_last n refused [] e h = let same : n + 0 + 1 ≡ n + 1 = omega arith in ap (is_among refused) same ∙ h.0
fits_last n refused (f ∷ es) e h = let same : n + length (f ∷ es) + 1 ≡ n + 1 + length es + 1 = omega arith in ap (is_among refused) same ∙ fits_last (n + 1) refused es e h.1

pub fits_before : (refused : List ℕ) (r d : Running) → Ext r d → Fits refused d.events → Fits refused r.events
fits_before refused r d x h = fits_front 0 refused r.events x.events (subst (Fits refused) x.log h)

-- the step that made the last entry
pub fits_entry : (refused : List ℕ) (r : Running) (e : LogEvent) → Fits refused (r.events ++ e ∷ []) → is_refused refused r ≡ is_lost e
fits_entry refused r e h = let same : length r.events + 1 ≡ 0 + length r.events + 1 = omega arith in ap (is_among refused) same ∙ fits_last 0 refused r.events e h

-- ---- a log fits its own places

among_more : (ps qs : List ℕ) (n : ℕ) → is_among (ps ++ qs) n ≡ (is_among ps n || is_among qs n)
among_more [] qs n = refl
among_more (p ∷ ps) qs n = grind (arith, among_more ps qs n)

-- no place of a later entry is this one
later : (n m : ℕ) (es : List LogEvent) → n ≤ m → is_among (lost_after m es) n ≡ false
unfolding lost_after
later n m [] h = refl
later n m (Lost ∷ es) h = grind (arith, tests, later n (m + 1) es (omega arith))
later n m (Step e ∷ es) h = later n (m + 1) es (omega arith)

own : (n : ℕ) (ps : List ℕ) (es : List LogEvent) → ((m : ℕ) → n < m → is_among ps m ≡ false) → FitsAfter n (ps ++ lost_after n es) es
unfolding FitsAfter lost_after
own n ps [] h = tt
own n ps (Step e ∷ es) h =
    let first : is_among (ps ++ lost_after (n + 1) es) (n + 1) ≡ false = grind (arith, among_more ps (lost_after (n + 1) es) (n + 1), h (n + 1) (omega arith), later (n + 1) (n + 1) es (omega arith)) in
    (first, own (n + 1) ps es (λ m l. h m (omega arith)))
own n ps (Lost ∷ es) h =
    let rest = lost_after (n + 1) es in
    let here : is_among ((n + 1) ∷ rest) (n + 1) ≡ true = grind (arith, tests) in
    let first : is_among (ps ++ ((n + 1) ∷ rest)) (n + 1) ≡ true = grind (arith, among_more ps ((n + 1) ∷ rest) (n + 1), h (n + 1) (omega arith), here) in
    let beyond : (m : ℕ) → n + 1 < m → is_among ((n + 1) ∷ []) m ≡ false = λ m l. grind (arith, tests) in
    let before : (m : ℕ) → n + 1 < m → is_among (ps ++ (n + 1) ∷ []) m ≡ false = λ m l. grind (arith, among_more ps ((n + 1) ∷ []) m, h m (omega arith), beyond m l) in
    (first, subst (λ l. FitsAfter (n + 1) l es) (append_assoc ps ((n + 1) ∷ []) rest) (own (n + 1) (ps ++ (n + 1) ∷ []) es before))

-- a log fits the places of its own refused steps
pub own_places : (es : List LogEvent) → Fits (lost_places es) es
own_places es = own 0 [] es (λ m l. refl)
