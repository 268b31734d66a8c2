-- Until when rows stay that are put, removed and dropped.
use Rattle.std.proofs.Common.{◌≡◌, ℕ, ◌<◌, ◌≤◌, Bool, true, false, List, [], ◌∷◌, min, refl, sym, ap, ◌∙◌, subst, arith}
use Rattle.std.specs.Prelude.{not, if◌then◌else◌}
use Rattle.std.proofs.lemmas.Bool.Decides.{nat_tests}
use Rattle.std.proofs.lemmas.List.Elements.{All-nil, All-cons, All-head, All-tail, All-filter}
use Rattle.containers.specs.Keys.{Key, same_key}
use Rattle.service_api.specs.declared.row.Row.{Row}
use Rattle.service_api.specs.Rows.{row_key, put_row, without_row, is_live, living}
use Rattle.resident_tables.specs.declared.gone.Gone.{Gone}
use Rattle.resident_tables.specs.Expiries.{AllStay, least_expiry}
use Rattle.resident_tables.specs.Layers.{gone_key, put_all, without_all}
use Rattle.resident_tables.proofs.Steps.{kept_first}

abbrev Stays : ℕ → Row → Type 0
Stays e r = e ≤ r.expiry

pub stay_lower : (e d : ℕ) (xs : List Row) → d ≤ e → AllStay e xs → AllStay d xs
stay_lower e d xs l h = λ i x k. let a = h i x k in omega arith

stay_if : (e : ℕ) (b : Bool) (ys zs : List Row) → AllStay e ys → AllStay e zs → AllStay e (if b then ys else zs)
stay_if e true ys zs g h = g
stay_if e false ys zs g h = h

pub put_stay : (e : ℕ) (r : Row) (xs : List Row) → e ≤ r.expiry → AllStay e xs → AllStay e (put_row r xs)
put_stay e r [] g h = All-cons (Stays e) r [] g (All-nil (Stays e))
put_stay e r (x ∷ xs) g h = stay_if e (same_key (row_key x) (row_key r)) (r ∷ xs) (x ∷ put_row r xs)
    (All-cons (Stays e) r xs g (All-tail (Stays e) x xs h))
    (All-cons (Stays e) x (put_row r xs) (All-head (Stays e) x xs h) (put_stay e r xs g (All-tail (Stays e) x xs h)))

pub puts_stay : (e : ℕ) (rs xs : List Row) → AllStay e rs → AllStay e xs → AllStay e (put_all rs xs)
puts_stay e [] xs g h = h
puts_stay e (r ∷ rs) xs g h = puts_stay e rs (put_row r xs) (All-tail (Stays e) r rs g) (put_stay e r xs (All-head (Stays e) r rs g) h)

pub without_stay : (e : ℕ) (k : Key) (xs : List Row) → AllStay e xs → AllStay e (without_row k xs)
without_stay e k xs h = All-filter (λ x. not (same_key (row_key x) k)) (Stays e) xs h

pub withouts_stay : (e : ℕ) (gs : List Gone) (xs : List Row) → AllStay e xs → AllStay e (without_all gs xs)
withouts_stay e [] xs h = h
withouts_stay e (g ∷ gs) xs h = withouts_stay e gs (without_row (gone_key g) xs) (without_stay e (gone_key g) xs h)

live_first : (now e : ℕ) (x : Row) → now < e → e ≤ x.expiry → is_live now x ≡ true
live_first now e x n h = grind (arith, nat_tests)

pub all_living : (now e : ℕ) (xs : List Row) → now < e → AllStay e xs → living now xs ≡ xs
all_living now e [] n h = refl
all_living now e (x ∷ xs) n h = kept_first now x xs (live_first now e x n (All-head (Stays e) x xs h)) ∙ ap (λ ys. x ∷ ys) (all_living now e xs n (All-tail (Stays e) x xs h))

pub least_le : (b : ℕ) (xs : List Row) → least_expiry b xs ≤ b
least_le b [] = omega arith
least_le b (x ∷ xs) = let h = least_le (min b x.expiry) xs in omega arith

pub least_stay : (b : ℕ) (xs : List Row) → AllStay (least_expiry b xs) xs
least_stay b [] = All-nil (Stays b)
least_stay b (x ∷ xs) =
    let h = least_le (min b x.expiry) xs in
    All-cons (Stays (least_expiry (min b x.expiry) xs)) x xs (omega arith) (least_stay (min b x.expiry) xs)

-- ---- after a put and after a commit

pub stay_put : (a e : ℕ) (r : Row) (xs ys : List Row) → e ≡ min a r.expiry → ys ≡ put_row r xs → AllStay a xs → AllStay e ys
stay_put a e r xs ys d f h = subst (AllStay e) (sym f) (put_stay e r xs (omega arith) (stay_lower a e xs (omega arith) h))

pub stay_committed : (a e : ℕ) (gs : List Gone) (ps xs ys : List Row) → e ≡ least_expiry a ps → ys ≡ put_all ps (without_all gs xs) → AllStay a xs → AllStay e ys
stay_committed a e gs ps xs ys d f h =
    let l = least_le a ps in
    let stay : AllStay e ps = subst (λ (n : ℕ). AllStay n ps) (sym d) (least_stay a ps) in
    subst (AllStay e) (sym f) (puts_stay e ps (without_all gs xs) stay (withouts_stay e gs xs (stay_lower a e xs (omega arith) h)))
