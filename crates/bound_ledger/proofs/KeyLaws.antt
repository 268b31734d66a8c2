-- The rows by their keys, and as contracts see them.
use Rattle.std.proofs.Common.{◌≡◌, ℕ, zero, suc, ◌+◌, ◌<◌, ◌≤◌, Bool, true, false, cond, List, [], ◌∷◌, ◌++◌, map, length, slice_get, Option, Some, None, refl, sym, ap, subst, ◌∙◌, arith}
use Rattle.std.specs.Prelude.{unwrap_or, All, IfSome}
use Rattle.std.specs.Option.{option_map}
use Rattle.std.specs.List.{IsDistinct, AllByRecursion}
use Rattle.std.specs.Map.{lookup, lookup_key, keys_of}
use Rattle.std.proofs.lemmas.List.Elements.{All-cons, All-head, All-tail}
use Rattle.std.proofs.lemmas.Map.{NonePasses, none_passes_from_lookup}
use Rattle.std.proofs.lemmas.Map.Entries.{none_past_head}
use Rattle.std.proofs.lemmas.Map.Made.{lookup_key_passes}
use Rattle.indexmap.specs.IndexMap.{insert_entry, set_value_at}
use Rattle.plan_base.specs.declared.ids.Family.{Family}
use Rattle.bound_ledger.specs.declared.key.FamilyKey.{FamilyKey}
use Rattle.bound_ledger.specs.declared.row.Row.{Row}
use Rattle.bound_ledger.specs.Counts.{InBalance, nothing, more}
use Rattle.bound_ledger.specs.Rows.{FamilyRow, same_family, families_in, OneEach, row_of, counts_of, change, changed_rows, with_grant}
use Rattle.bound_ledger.proofs.RowLaws.{same_is, changed_to, changed_at, counts_some, counts_none, grant_some, grant_none}
use Rattle.bound_ledger.specs.Keys.{key_of, family_of, row_at, rows_at, AreKept}
use Rattle.bound_ledger.specs.contracts.key.FamilyKeyPartialEq.TheImpl as key_eq
use Rattle.bound_ledger.specs.contracts.key.FamilyKeyEq.TheImpl.Laws.{laws-law}

abbrev Entries : Type 0
Entries = List (FamilyKey × Row)

abbrev Balanced : FamilyKey × Row → Type 0
Balanced e = InBalance e.1

-- the equality of keys, which is that of their families
abbrev pub same_key : FamilyKey → FamilyKey → Bool
same_key = (key_eq.ghosts).eq

key_test : (f : Family) (k : FamilyKey) → same_key (key_of f) k ≡ same_family f (family_of k)
unfolding same_family
key_test f k = refl

-- a look-up by the key is one by the family
pub row_found : (f : Family) (es : Entries) → row_of f (rows_at es) ≡ lookup (same_key (key_of f)) es
unfolding row_of rows_at same_family
row_found f [] = refl
row_found f (e ∷ es) = ap (cond (same_key (key_of f) e.0) (Some e.1)) (row_found f es)

pub row_is_found : (f : Family) (key : FamilyKey) (es : Entries) (o : Option Row) → key ≡ key_of f → o ≡ lookup (same_key key) es → o ≡ row_of f (rows_at es)
row_is_found f key es o k h = h ∙ ap (λ x. lookup (same_key x) es) k ∙ sym (row_found f es)

-- a key that the search found, or that was compared, is that of the family
pub key_is : (f : Family) (key k : FamilyKey) → key ≡ key_of f → same_key key k ≡ true → k ≡ key_of f
key_is f key k e t = ap key_of (sym (same_is f (family_of k) (sym (key_test f k) ∙ ap (λ x. same_key x k) (sym e) ∙ t)))

pub found_key : (key k : FamilyKey) (es : Entries) → lookup_key (same_key key) es ≡ Some k → same_key key k ≡ true
found_key key k es h = lookup_key_passes (same_key key) es k h

-- ---- no family has two rows

once_after : (k : FamilyKey) (es : Entries) → AllByRecursion (λ y. same_key k y ≡ false) (keys_of es) → AllByRecursion (λ y. same_family (family_of k) y ≡ false) (families_in (rows_at es))
unfolding rows_at same_family
once_after k [] h = h
once_after k (e ∷ es) h = (h.0, once_after k es h.1)

pub once : (es : Entries) → IsDistinct same_key (keys_of es) → OneEach (rows_at es)
unfolding rows_at IsDistinct
once [] d = d
once (e ∷ es) d = (once_after e.0 es d.0, once es d.1)

-- ---- a row at a place

write_rows : (es : Entries) (i : ℕ) (w : Row) → rows_at (set_value_at es i w) ≡ set_value_at (rows_at es) i w
unfolding rows_at
write_rows [] i w = refl
write_rows (e ∷ es) zero w = refl
write_rows (e ∷ es) (suc i) w = ap (λ rows. row_at e ∷ rows) (write_rows es i w)

-- a write at the place of a family's row changes that row
pub row_put : (move : Row → Row) (f : Family) (v w : Row) (es : Entries) (i : ℕ) → IsDistinct same_key (keys_of es)
    → slice_get (rows_at es) i ≡ Some (f, v) → w ≡ move v → rows_at (set_value_at es i w) ≡ changed_rows move f (rows_at es)
row_put move f v w es i d h m = write_rows es i w ∙ changed_at move f v w (rows_at es) i (once es d) h m

balanced_write : (es : Entries) (i : ℕ) (w : Row) → InBalance w → All Balanced es → All Balanced (set_value_at es i w)
balanced_write [] i w b a = a
balanced_write (e ∷ es) zero w b a = All-cons Balanced (e.0, w) es b (All-tail Balanced e es a)
balanced_write (e ∷ es) (suc i) w b a = All-cons Balanced e (set_value_at es i w) (All-head Balanced e es a) (balanced_write es i w b (All-tail Balanced e es a))

length_write : (es : Entries) (i : ℕ) (w : Row) → length (set_value_at es i w) ≡ length es
length_write [] i w = refl
length_write (e ∷ es) zero w = refl
length_write (e ∷ es) (suc i) w = ap suc (length_write es i w)

pub kept_at : (es : Entries) (i : ℕ) (w : Row) → InBalance w → AreKept es → AreKept (set_value_at es i w)
kept_at es i w b a = record { balanced = balanced_write es i w b a.balanced; few = omega (arith, length_write es i w, a.few) }

-- ---- a row entered

change_own : (w : Row) (f : Family) (e : FamilyKey × Row) → same_key (key_of f) e.0 ≡ true → change (λ _. w) f (row_at e) ≡ (family_of e.0, w)
unfolding same_family
change_own w f e t = ap (λ b. cond b (family_of e.0, w) (row_at e)) t

change_other : (w : Row) (f : Family) (e : FamilyKey × Row) → same_key (key_of f) e.0 ≡ false → change (λ _. w) f (row_at e) ≡ row_at e
unfolding same_family
change_other w f e t = ap (λ b. cond b (family_of e.0, w) (row_at e)) t

apart : (w : Row) (f : Family) (es : Entries) → NonePasses (same_key (key_of f)) es → rows_at es ≡ changed_rows (λ _. w) f (rows_at es)
unfolding rows_at changed_rows
apart w f [] h = refl
apart w f (e ∷ es) h = λ i. sym (change_other w f e h.0) i ∷ apart w f es h.1 i

present : (f : Family) (v w : Row) (es : Entries) → IsDistinct same_key (keys_of es) → lookup (same_key (key_of f)) es ≡ Some v → rows_at (insert_entry same_key es (key_of f) w) ≡ changed_rows (λ _. w) f (rows_at es)
unfolding rows_at changed_rows IsDistinct
present f v w [] d h = absurd cc
present f v w (e ∷ es) d h = by (same_key (key_of f) e.0) refl (λ t. present f v w es d.1 (sym (ap (λ b. cond b (Some e.1) (lookup (same_key (key_of f)) es)) t) ∙ h))
  where
    by : (b : Bool) → same_key (key_of f) e.0 ≡ b → (same_key (key_of f) e.0 ≡ false → map row_at (insert_entry same_key es (key_of f) w) ≡ map (change (λ _. w) f) (map row_at es))
        → map row_at (insert_entry same_key (e ∷ es) (key_of f) w) ≡ map (change (λ _. w) f) (map row_at (e ∷ es))
    by true t rest = ap (λ b. map row_at (cond b ((e.0, w) ∷ es) (e ∷ insert_entry same_key es (key_of f) w))) t
        ∙ (λ i. sym (change_own w f e t) i ∷ apart w f es (none_past_head laws-law (key_of f) e es d t) i)
    by false t rest = ap (λ b. map row_at (cond b ((e.0, w) ∷ es) (e ∷ insert_entry same_key es (key_of f) w))) t
        ∙ (λ i. sym (change_other w f e t) i ∷ rest t i)

rows_pushed : (es : Entries) (e : FamilyKey × Row) → rows_at (es ++ e ∷ []) ≡ rows_at es ++ row_at e ∷ []
unfolding rows_at
rows_pushed [] e = refl
rows_pushed (x ∷ xs) e = ap (λ es. row_at x ∷ es) (rows_pushed xs e)

insert_new : (k : FamilyKey) (w : Row) (es : Entries) → lookup (same_key k) es ≡ None → insert_entry same_key es k w ≡ es ++ (k, w) ∷ []
insert_new k w [] h = refl
insert_new k w (e ∷ es) h =
    let none = none_passes_from_lookup (same_key k) (e ∷ es) h in
    ap (λ b. cond b ((e.0, w) ∷ es) (e ∷ insert_entry same_key es k w)) none.0
    ∙ ap (λ r. e ∷ r) (insert_new k w es (sym (ap (λ b. cond b (Some e.1) (lookup (same_key k) es)) none.0) ∙ h))

-- the counts at a key are those of its family
pub counts_at : (f : Family) (key : FamilyKey) (v none : Row) (o : Option Row) (es : Entries) → key ≡ key_of f → o ≡ lookup (same_key key) es → none ≡ nothing → v ≡ unwrap_or o none
    → v ≡ counts_of f (rows_at es)
unfolding counts_of
counts_at f key v none o es k h n e = e ∙ ap (unwrap_or o) n ∙ ap (λ x. unwrap_or x nothing) (row_is_found f key es o k h)

-- these with more granted, entered at the key, are the family's grant
pub row_entered : (f : Family) (n : ℕ) (key : FamilyKey) (v w : Row) (old new : Entries) (rows : List FamilyRow) → rows_at old ≡ rows → key ≡ key_of f → IsDistinct same_key (keys_of old)
    → v ≡ counts_of f (rows_at old) → w ≡ more n v → new ≡ insert_entry same_key old key w → rows_at new ≡ with_grant f n rows
row_entered f n key v w old new rows r k d c m h = ap rows_at (h ∙ ap (λ x. insert_entry same_key old x w) k) ∙ by (row_of f (rows_at old)) refl ∙ ap (with_grant f n) r
  where
    by : (o : Option Row) → row_of f (rows_at old) ≡ o → rows_at (insert_entry same_key old (key_of f) w) ≡ with_grant f n (rows_at old)
    by None e = ap rows_at (insert_new (key_of f) w old (sym (row_found f old) ∙ e)) ∙ rows_pushed old (key_of f, w)
        ∙ ap (λ x. rows_at old ++ (f, x) ∷ []) (m ∙ ap (more n) (c ∙ counts_none f (rows_at old) e)) ∙ sym (grant_none f n (rows_at old) e)
    by (Some u) e = present f u w old d (sym (row_found f old) ∙ e)
        ∙ changed_to (more n) f u w (rows_at old) (once old d) e (m ∙ ap (more n) (c ∙ counts_some f (rows_at old) u e)) ∙ sym (grant_some f n (rows_at old) u e)

-- ---- what is kept

pub length_at : (es : Entries) → length (rows_at es) ≡ length es
unfolding rows_at
length_at [] = refl
length_at (e ∷ es) = ap suc (length_at es)

balanced_found : (k : FamilyKey) (es : Entries) (v : Row) → All Balanced es → lookup (same_key k) es ≡ Some v → InBalance v
balanced_found k [] v a h = absurd cc
balanced_found k (e ∷ es) v a h = by (same_key k e.0) refl (λ t. balanced_found k es v (All-tail Balanced e es a) (sym (ap (λ b. cond b (Some e.1) (lookup (same_key k) es)) t) ∙ h))
  where
    by : (b : Bool) → same_key k e.0 ≡ b → (same_key k e.0 ≡ false → InBalance v) → InBalance v
    by true t rest = let e : e.1 ≡ v = ap (λ o. unwrap_or o v) (sym (ap (λ b. cond b (Some e.1) (lookup (same_key k) es)) t) ∙ h) in let h = All-head Balanced _ es a in rw e at h
    by false t rest = rest t

pub counts_balanced : (f : Family) (v : Row) (es : Entries) → AreKept es → v ≡ counts_of f (rows_at es) → InBalance v
counts_balanced f v es a c = by (row_of f (rows_at es)) refl
  where
    by : (o : Option Row) → row_of f (rows_at es) ≡ o → InBalance v
    by None e = subst InBalance (sym (c ∙ counts_none f (rows_at es) e)) (record { law = refl; limit = omega arith })
    by (Some u) e = subst InBalance (sym (c ∙ counts_some f (rows_at es) u e)) (balanced_found (key_of f) es u a.balanced (sym (row_found f es) ∙ e))

pub row_balanced : (f : Family) (v : Row) (es : Entries) → AreKept es → Some v ≡ row_of f (rows_at es) → InBalance v
row_balanced f v es a h = counts_balanced f v es a (sym (counts_some f (rows_at es) v (sym h)))

balanced_enter : (k : FamilyKey) (w : Row) (es : Entries) → InBalance w → All Balanced es → All Balanced (insert_entry same_key es k w)
balanced_enter k w [] b a = All-cons Balanced (k, w) [] b a
balanced_enter k w (e ∷ es) b a = by (same_key k e.0) (balanced_enter k w es b (All-tail Balanced e es a))
  where
    by : (t : Bool) → All Balanced (insert_entry same_key es k w) → All Balanced (cond t ((e.0, w) ∷ es) (e ∷ insert_entry same_key es k w))
    by true rest = All-cons Balanced (e.0, w) es b (All-tail Balanced e es a)
    by false rest = All-cons Balanced e (insert_entry same_key es k w) (All-head Balanced e es a) rest

length_enter : (k : FamilyKey) (w : Row) (es : Entries) → length (insert_entry same_key es k w) ≤ length es + 1
length_enter k w [] = omega arith
length_enter k w (e ∷ es) = by (same_key k e.0) (length_enter k w es)
  where
    by : (t : Bool) → length (insert_entry same_key es k w) ≤ length es + 1 → length (cond t ((e.0, w) ∷ es) (e ∷ insert_entry same_key es k w)) ≤ length (e ∷ es) + 1
    by true rest = omega arith
    by false rest = omega (arith, rest)

pub kept_entered : (k : FamilyKey) (w : Row) (old new : Entries) → InBalance w → length (rows_at old) < 4294967295 → AreKept old → new ≡ insert_entry same_key old k w → AreKept new
kept_entered k w old new b few a h =
    let kept : AreKept (insert_entry same_key old k w) = record { balanced = balanced_enter k w old b a.balanced; few = omega (arith, length_enter k w old, length_at old, few) } in
    let e = sym h in rw e at kept

pub found_balanced : (key : FamilyKey) (es : Entries) (o : Option Row) → AreKept es → o ≡ lookup (same_key key) es → IfSome o InBalance
found_balanced key es None a h = tt
found_balanced key es (Some v) a h = balanced_found key es v a.balanced (sym h)

-- the row at a place
pub row_placed : (es : Entries) (i : ℕ) (k : FamilyKey) (v : Row) (f : Family) → Some (k, v) ≡ slice_get es i → f ≡ family_of k → slice_get (rows_at es) i ≡ Some (f, v)
unfolding rows_at
row_placed es i k v f h e = at_place es i ∙ ap (option_map row_at) (sym h) ∙ (λ j. Some (sym e j, v))
  where
    at_place : (es : Entries) (i : ℕ) → slice_get (map row_at es) i ≡ option_map row_at (slice_get es i)
    at_place [] zero = refl
    at_place [] (suc i) = refl
    at_place (e ∷ es) zero = refl
    at_place (e ∷ es) (suc i) = at_place es i

pub found_place : (f : Family) (key k : FamilyKey) (v : Row) (es : Entries) (i : ℕ) → key ≡ key_of f → same_key key k ≡ true → Some (k, v) ≡ slice_get es i → slice_get (rows_at es) i ≡ Some (f, v)
found_place f key k v es i e t h = row_placed es i k v f h (sym (ap family_of (key_is f key k e t)))

balanced_at : (es : Entries) (i : ℕ) (k : FamilyKey) (v : Row) → All Balanced es → Some (k, v) ≡ slice_get es i → InBalance v
balanced_at [] zero k v a h = absurd cc
balanced_at [] (suc i) k v a h = absurd cc
balanced_at (e ∷ es) zero k v a h = let same : e ≡ (k, v) = ap (λ o. unwrap_or o e) (sym h) in let b = All-head Balanced e es a in let P : FamilyKey × Row → Type 0 = λ x. InBalance x.1 in subst P same b
balanced_at (e ∷ es) (suc i) k v a h = balanced_at es i k v (All-tail Balanced e es a) h

pub placed_balanced : (es : Entries) (i : ℕ) (k : FamilyKey) (v : Row) → AreKept es → Some (k, v) ≡ slice_get es i → InBalance v
placed_balanced es i k v a h = balanced_at es i k v a.balanced h
