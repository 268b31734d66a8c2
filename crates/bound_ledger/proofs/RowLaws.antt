-- What changes of a ledger's rows are to look-ups and to the families.
use Rattle.std.proofs.Common.{◌≡◌, ℕ, zero, suc, ◌+◌, ◌≤◌, Bool, true, false, cond, ◌&&◌, ◌||◌, if◌then◌else◌, List, [], ◌∷◌, ◌++◌, map, length, slice_get, Option, Some, None, refl, sym, ap, ◌∙◌, true≢false, is_some, arith}
use Rattle.std.specs.Prelude.{unwrap_or, ◌==◌}
use Rattle.std.specs.Option.{option_map}
use Rattle.std.specs.List.{list_any, IsDistinct, AllByRecursion}
use Rattle.std.specs.Map.{lookup}
use Rattle.std.specs.Cmp.{IsEquivalence}
use Rattle.std.proofs.lemmas.Bool.{eqb-true}
use Rattle.std.proofs.lemmas.Bool.Decides.{nat_tests}
use Rattle.std.proofs.lemmas.Map.{NonePasses, none_passes_from_lookup}
use Rattle.std.proofs.lemmas.Map.Entries.{none_past_head}
use Rattle.indexmap.specs.IndexMap.{set_value_at}
use Rattle.plan_base.specs.declared.ids.Family.{Family}
use Rattle.bound_ledger.specs.declared.row.Row.{Row}
use Rattle.bound_ledger.specs.Counts.{nothing, more}
use Rattle.bound_ledger.specs.Rows.{FamilyRow, same_family, families_in, OneEach, row_of, counts_of, change, changed_rows, with_grant}

-- ---- families

both : (a b : Bool) → (a && b) ≡ true → (a ≡ true) × (b ≡ true)
both true b e = (refl, e)
both false b e = absurd (true≢false (sym e))

pub same_is : (f g : Family) → same_family f g ≡ true → f ≡ g
unfolding same_family
same_is f g e =
    let t = both (f.source.0 == g.source.0) (f.serial == g.serial) e in
    let s : f.source.0 ≡ g.source.0 = omega (arith, eqb-true f.source.0 g.source.0 t.0) in
    let n : f.serial ≡ g.serial = omega (arith, eqb-true f.serial g.serial t.1) in
    λ i. record { source = record { 0 = s i }; serial = n i }

pub same_self : (f : Family) → same_family f f ≡ true
unfolding same_family
same_self f = grind (arith, nat_tests)

equal_tests : (a b c d : ℕ) → ((a == b) && (c == d)) ≡ ((b == a) && (d == c))
equal_tests a b c d = grind (arith, nat_tests)

pub same_turned : (f g : Family) → same_family f g ≡ same_family g f
unfolding same_family
same_turned f g = equal_tests f.source.0 g.source.0 f.serial g.serial

pub families_alike : IsEquivalence same_family
families_alike = record { refl = same_self; symm = same_turned; congr = λ f g h e. ap (λ x. same_family x h) (same_is f g e) }

-- ---- one row that is changed, and rows that aren't

change_own : (move : Row → Row) (f : Family) (e : FamilyRow) → same_family f e.0 ≡ true → change move f e ≡ (e.0, move e.1)
change_own move f e h = ap (λ b. if b then (e.0, move e.1) else e) h

change_other : (move : Row → Row) (f : Family) (e : FamilyRow) → same_family f e.0 ≡ false → change move f e ≡ e
change_other move f e h = ap (λ b. if b then (e.0, move e.1) else e) h

apart : (move : Row → Row) (f : Family) (rows : List FamilyRow) → NonePasses (same_family f) rows → changed_rows move f rows ≡ rows
unfolding changed_rows
apart move f [] h = refl
apart move f (e ∷ es) h = λ i. change_other move f e h.0 i ∷ apart move f es h.1 i

-- a family without a row: nothing changes
pub changed_none : (move : Row → Row) (f : Family) (rows : List FamilyRow) → row_of f rows ≡ None → changed_rows move f rows ≡ rows
unfolding row_of
changed_none move f rows h = apart move f rows (none_passes_from_lookup (same_family f) rows h)

-- a change is the new row in the place of the old one
pub changed_to : (move : Row → Row) (f : Family) (v w : Row) (rows : List FamilyRow) → OneEach rows → row_of f rows ≡ Some v → w ≡ move v → changed_rows (λ _. w) f rows ≡ changed_rows move f rows
unfolding changed_rows row_of IsDistinct
changed_to move f v w [] d h m = refl
changed_to move f v w (e ∷ es) d h m = by (same_family f e.0) refl (λ t. changed_to move f v w es d.1 (sym (ap (λ b. cond b (Some e.1) (lookup (same_family f) es)) t) ∙ h) m)
  where
    first : same_family f e.0 ≡ true → e.1 ≡ v
    first t = ap (λ o. unwrap_or o v) (sym (ap (λ b. cond b (Some e.1) (lookup (same_family f) es)) t) ∙ h)

    by : (b : Bool) → same_family f e.0 ≡ b → (same_family f e.0 ≡ false → map (change (λ _. w) f) es ≡ map (change move f) es) → map (change (λ _. w) f) (e ∷ es) ≡ map (change move f) (e ∷ es)
    by true t rest =
        let none = none_past_head families_alike f e es d t in
        (λ i. (change_own (λ _. w) f e t ∙ (λ j. (e.0, (m ∙ ap move (sym (first t))) j)) ∙ sym (change_own move f e t)) i ∷ (apart (λ _. w) f es none ∙ sym (apart move f es none)) i)
    by false t rest = λ i. (change_other (λ _. w) f e t ∙ sym (change_other move f e t)) i ∷ rest t i

-- so is a write at its place
pub changed_at : (move : Row → Row) (f : Family) (v w : Row) (rows : List FamilyRow) (i : ℕ) → OneEach rows → slice_get rows i ≡ Some (f, v) → w ≡ move v → set_value_at rows i w ≡ changed_rows move f rows
unfolding changed_rows IsDistinct
changed_at move f v w [] zero d h m = absurd cc
changed_at move f v w [] (suc i) d h m = absurd cc
changed_at move f v w (e ∷ es) zero d h m =
    let here : e ≡ (f, v) = ap (λ o. unwrap_or o e) h in
    let t : same_family f e.0 ≡ true = ap (λ x. same_family f x.0) here ∙ same_self f in
    λ i. (ap (λ x. (e.0, x)) (m ∙ ap (λ x. move x.1) (sym here)) ∙ sym (change_own move f e t)) i ∷ sym (apart move f es (none_past_head families_alike f e es d t)) i
changed_at move f v w (e ∷ es) (suc i) d h m = λ j. sym (change_other move f e (before es i (d.0) h)) j ∷ changed_at move f v w es i d.1 h m j
  where
    before : (es : List FamilyRow) (i : ℕ) → AllByRecursion (λ y. same_family e.0 y ≡ false) (families_in es) → slice_get es i ≡ Some (f, v) → same_family f e.0 ≡ false
    before [] zero a h = absurd cc
    before [] (suc i) a h = absurd cc
    before (x ∷ xs) zero a h = same_turned f e.0 ∙ ap (λ y. same_family e.0 y.0) (sym (ap (λ o. unwrap_or o x) h)) ∙ a.0
    before (x ∷ xs) (suc i) a h = before xs i a.1 h

-- two changes of a row are one
pub changed_twice : (one two : Row → Row) (f : Family) (rows : List FamilyRow) → changed_rows (λ r. two (one r)) f rows ≡ changed_rows two f (changed_rows one f rows)
unfolding changed_rows
changed_twice one two f [] = refl
changed_twice one two f (e ∷ es) = λ i. at (same_family f e.0) refl i ∷ changed_twice one two f es i
  where
    at : (b : Bool) → same_family f e.0 ≡ b → change (λ r. two (one r)) f e ≡ change two f (change one f e)
    at true t = change_own (λ r. two (one r)) f e t ∙ sym (ap (change two f) (change_own one f e t) ∙ change_own two f (e.0, one e.1) t)
    at false t = change_other (λ r. two (one r)) f e t ∙ sym (ap (change two f) (change_other one f e t) ∙ change_other two f e t)

-- ---- look-ups

own_row : (move : Row → Row) (f : Family) (rows : List FamilyRow) → row_of f (changed_rows move f rows) ≡ option_map move (row_of f rows)
unfolding changed_rows row_of
own_row move f [] = refl
own_row move f (e ∷ es) = by (same_family f e.0) refl (own_row move f es)
  where
    by : (b : Bool) → same_family f e.0 ≡ b → lookup (same_family f) (map (change move f) es) ≡ option_map move (lookup (same_family f) es)
        → lookup (same_family f) (map (change move f) (e ∷ es)) ≡ option_map move (lookup (same_family f) (e ∷ es))
    by true t rest = ap (λ x. lookup (same_family f) (x ∷ map (change move f) es)) (change_own move f e t)
        ∙ ap (λ b. cond b (Some (move e.1)) (lookup (same_family f) (map (change move f) es))) t
        ∙ sym (ap (λ b. option_map move (cond b (Some e.1) (lookup (same_family f) es))) t)
    by false t rest = ap (λ x. lookup (same_family f) (x ∷ map (change move f) es)) (change_other move f e t)
        ∙ ap (λ b. cond b (Some e.1) (lookup (same_family f) (map (change move f) es))) t
        ∙ rest
        ∙ sym (ap (λ b. option_map move (cond b (Some e.1) (lookup (same_family f) es))) t)

other_row : (move : Row → Row) (f g : Family) (rows : List FamilyRow) → same_family f g ≡ false → row_of f (changed_rows move g rows) ≡ row_of f rows
unfolding changed_rows row_of
other_row move f g [] h = refl
other_row move f g (e ∷ es) h = by (same_family g e.0) refl (other_row move f g es h)
  where
    by : (b : Bool) → same_family g e.0 ≡ b → lookup (same_family f) (map (change move g) es) ≡ lookup (same_family f) es
        → lookup (same_family f) (map (change move g) (e ∷ es)) ≡ lookup (same_family f) (e ∷ es)
    by true t rest =
        let off : same_family f e.0 ≡ false = ap (same_family f) (sym (same_is g e.0 t)) ∙ h in
        ap (λ x. lookup (same_family f) (x ∷ map (change move g) es)) (change_own move g e t)
        ∙ ap (λ b. cond b (Some (move e.1)) (lookup (same_family f) (map (change move g) es))) off
        ∙ rest
        ∙ sym (ap (λ b. cond b (Some e.1) (lookup (same_family f) es)) off)
    by false t rest = ap (λ x. lookup (same_family f) (x ∷ map (change move g) es)) (change_other move g e t)
        ∙ ap (cond (same_family f e.0) (Some e.1)) rest

pub counts_some : (f : Family) (rows : List FamilyRow) (v : Row) → row_of f rows ≡ Some v → counts_of f rows ≡ v
unfolding counts_of
counts_some f rows v h = ap (λ o. unwrap_or o nothing) h

pub counts_none : (f : Family) (rows : List FamilyRow) → row_of f rows ≡ None → counts_of f rows ≡ nothing
unfolding counts_of
counts_none f rows h = ap (λ o. unwrap_or o nothing) h

-- the counts of the family that is changed: where it has no row, a change must leave no counts
pub counts_own : (move : Row → Row) (f : Family) (rows : List FamilyRow) → (row_of f rows ≡ None → move nothing ≡ nothing) → counts_of f (changed_rows move f rows) ≡ move (counts_of f rows)
counts_own move f rows none = by (row_of f rows) refl
  where
    by : (o : Option Row) → row_of f rows ≡ o → counts_of f (changed_rows move f rows) ≡ move (counts_of f rows)
    by None e = counts_none f (changed_rows move f rows) (own_row move f rows ∙ ap (option_map move) e) ∙ sym (none e) ∙ ap move (sym (counts_none f rows e))
    by (Some v) e = counts_some f (changed_rows move f rows) (move v) (own_row move f rows ∙ ap (option_map move) e) ∙ ap move (sym (counts_some f rows v e))

-- the counts of any other
pub counts_other : (move : Row → Row) (f g : Family) (rows : List FamilyRow) → same_family f g ≡ false → counts_of f (changed_rows move g rows) ≡ counts_of f rows
unfolding counts_of
counts_other move f g rows h = ap (λ o. unwrap_or o nothing) (other_row move f g rows h)

-- ---- a row more

pushed_row : (f g : Family) (r : Row) (rows : List FamilyRow) → same_family f g ≡ false → row_of f (rows ++ (g, r) ∷ []) ≡ row_of f rows
unfolding row_of
pushed_row f g r [] h = ap (λ b. cond b (Some r) None) h
pushed_row f g r (e ∷ es) h = ap (cond (same_family f e.0) (Some e.1)) (pushed_row f g r es h)

pushed_own : (f : Family) (r : Row) (rows : List FamilyRow) → row_of f rows ≡ None → row_of f (rows ++ (f, r) ∷ []) ≡ Some r
unfolding row_of
pushed_own f r [] h = ap (λ b. cond b (Some r) None) (same_self f)
pushed_own f r (e ∷ es) h =
    let none = none_passes_from_lookup (same_family f) (e ∷ es) h in
    ap (λ b. cond b (Some e.1) (lookup (same_family f) (es ++ (f, r) ∷ []))) none.0
    ∙ pushed_own f r es (sym (ap (λ b. cond b (Some e.1) (lookup (same_family f) es)) none.0) ∙ h)

-- ---- grants

pub grant_some : (f : Family) (n : ℕ) (rows : List FamilyRow) (v : Row) → row_of f rows ≡ Some v → with_grant f n rows ≡ changed_rows (more n) f rows
unfolding with_grant
grant_some f n rows v h = ap (λ o. if is_some o then changed_rows (more n) f rows else rows ++ (f, more n nothing) ∷ []) h

pub grant_none : (f : Family) (n : ℕ) (rows : List FamilyRow) → row_of f rows ≡ None → with_grant f n rows ≡ rows ++ (f, more n nothing) ∷ []
unfolding with_grant
grant_none f n rows h = ap (λ o. if is_some o then changed_rows (more n) f rows else rows ++ (f, more n nothing) ∷ []) h

pub grant_own : (f : Family) (n : ℕ) (rows : List FamilyRow) → counts_of f (with_grant f n rows) ≡ more n (counts_of f rows)
grant_own f n rows = by (row_of f rows) refl
  where
    by : (o : Option Row) → row_of f rows ≡ o → counts_of f (with_grant f n rows) ≡ more n (counts_of f rows)
    by None e = ap (counts_of f) (grant_none f n rows e) ∙ counts_some f (rows ++ (f, more n nothing) ∷ []) (more n nothing) (pushed_own f (more n nothing) rows e) ∙ ap (more n) (sym (counts_none f rows e))
    by (Some v) e = ap (counts_of f) (grant_some f n rows v e) ∙ counts_own (more n) f rows (λ none. absurd (true≢false (sym (ap is_some e) ∙ ap is_some none)))

pub grant_other : (f g : Family) (n : ℕ) (rows : List FamilyRow) → same_family f g ≡ false → counts_of f (with_grant g n rows) ≡ counts_of f rows
unfolding counts_of
grant_other f g n rows h = by (row_of g rows) refl
  where
    by : (o : Option Row) → row_of g rows ≡ o → counts_of f (with_grant g n rows) ≡ counts_of f rows
    by None e = ap (counts_of f) (grant_none g n rows e) ∙ ap (λ o. unwrap_or o nothing) (pushed_row f g (more n nothing) rows h)
    by (Some v) e = ap (counts_of f) (grant_some g n rows v e) ∙ counts_other (more n) f g rows h

-- ---- the families, and how many rows there are

pub families_changed : (move : Row → Row) (f : Family) (rows : List FamilyRow) → families_in (changed_rows move f rows) ≡ families_in rows
unfolding changed_rows
families_changed move f [] = refl
families_changed move f (e ∷ es) = λ i. family_is_kept (same_family f e.0) refl i ∷ families_changed move f es i
  where
    family_is_kept : (b : Bool) → same_family f e.0 ≡ b → (change move f e).0 ≡ e.0
    family_is_kept true t = ap (λ x. x.0) (change_own move f e t)
    family_is_kept false t = ap (λ x. x.0) (change_other move f e t)

pub length_changed : (move : Row → Row) (f : Family) (rows : List FamilyRow) → length (changed_rows move f rows) ≡ length rows
unfolding changed_rows
length_changed move f [] = refl
length_changed move f (e ∷ es) = ap suc (length_changed move f es)

families_pushed : (rows : List FamilyRow) (e : FamilyRow) → families_in (rows ++ e ∷ []) ≡ families_in rows ++ e.0 ∷ []
families_pushed [] e = refl
families_pushed (x ∷ xs) e = ap (λ fs. x.0 ∷ fs) (families_pushed xs e)

among : (f : Family) (rows : List FamilyRow) → list_any (same_family f) (families_in rows) ≡ is_some (row_of f rows)
unfolding row_of
among f [] = refl
among f (e ∷ es) = ap (λ b. same_family f e.0 || b) (among f es) ∙ by (same_family f e.0) e.1 (lookup (same_family f) es)
  where
    by : (b : Bool) (v : Row) (o : Option Row) → (b || is_some o) ≡ is_some (cond b (Some v) o)
    by true v o = refl
    by false v o = refl

pub families_granted : (f : Family) (n : ℕ) (rows : List FamilyRow) → families_in (with_grant f n rows) ≡ (if list_any (same_family f) (families_in rows) then families_in rows else families_in rows ++ f ∷ [])
families_granted f n rows = by (row_of f rows) refl
  where
    by : (o : Option Row) → row_of f rows ≡ o → families_in (with_grant f n rows) ≡ (if list_any (same_family f) (families_in rows) then families_in rows else families_in rows ++ f ∷ [])
    by None e = ap families_in (grant_none f n rows e) ∙ families_pushed rows (f, more n nothing)
        ∙ sym (ap (λ b. if b then families_in rows else families_in rows ++ f ∷ []) (among f rows ∙ ap is_some e))
    by (Some v) e = ap families_in (grant_some f n rows v e) ∙ families_changed (more n) f rows
        ∙ sym (ap (λ b. if b then families_in rows else families_in rows ++ f ∷ []) (among f rows ∙ ap is_some e))

length_pushed : (rows : List FamilyRow) (e : FamilyRow) → length (rows ++ e ∷ []) ≡ length rows + 1
length_pushed [] e = refl
length_pushed (x ∷ xs) e = omega (arith, length_pushed xs e)

pub length_granted : (f : Family) (n : ℕ) (rows : List FamilyRow) → length (with_grant f n rows) ≤ length rows + 1
length_granted f n rows = by (row_of f rows) refl
  where
    by : (o : Option Row) → row_of f rows ≡ o → length (with_grant f n rows) ≤ length rows + 1
    by None e = omega (arith, ap length (grant_none f n rows e), length_pushed rows (f, more n nothing))
    by (Some v) e = omega (arith, ap length (grant_some f n rows v e), length_changed (more n) f rows)
