-- Files by name: the entry at the first place that has the name is the file.
use Rattle.std.proofs.Common.{◌≡◌, ◌≢◌, ℕ, ◌+◌, ◌<◌, ◌≤◌, Bool, true, false, cond, not, List, [], ◌∷◌, ◌++◌, length, get_or, set, Option, Some, None, refl, sym, ap, ◌∙◌, arith, suc, position, ltb, subst, unwrap_or}
use Rattle.std.proofs.lemmas.Bool.Decides.{nat_tests, Decides-ltb}
use Rattle.std.specs.List.{position_or_len}
use Rattle.std.specs.Str.{bytes_eq}
use Rattle.std.proofs.lemmas.Slice.Eq.{bytes_eq-Decides}
use Rattle.containers.proofs.Bools.{not_true}
use Rattle.node_io.specs.FileMaps.{FileMap, file_at, is_named, contents, ChangesOnly}

abbrev Entry : Type 0
Entry = List ℕ × List ℕ

one_plus : (m : ℕ) → 1 + m ≡ suc m
one_plus m = omega arith

same_name : (name : List ℕ) → bytes_eq name name ≡ true
same_name name = (bytes_eq-Decides name name).1 refl

other_name : (a name other : List ℕ) → bytes_eq a name ≡ true → other ≢ name → bytes_eq a other ≡ false
other_name a name other e differs =
    not_true (bytes_eq a other) (λ t. differs (sym ((bytes_eq-Decides a other).0 t) ∙ (bytes_eq-Decides a name).0 e))

-- the place of a name, or the number of files where it is missing
abbrev pub place : List ℕ → FileMap → ℕ
place name fs = position_or_len (is_named name) fs

found_step : (b : Bool) (f : Entry) (fs : FileMap) (d : Entry) (m : ℕ) (rest : Option (List ℕ)) → (m < length fs → rest ≡ Some (get_or fs m d).1)
    → cond (not b) (1 + m) 0 < suc (length fs) → cond b (Some f.1) rest ≡ Some (get_or (f ∷ fs) (cond (not b) (1 + m) 0) d).1
found_step true f fs d m rest ih h = refl
found_step false f fs d m rest ih h = rw (one_plus m) (ih (omega arith))

-- the file is the entry at its place
pub file_at-place : (name : List ℕ) (fs : FileMap) (d : Entry) → place name fs < length fs → file_at fs name ≡ Some (get_or fs (place name fs) d).1
file_at-place name [] d h = absurd (omega arith)
file_at-place name (f ∷ fs) d h = found_step (is_named name f) f fs d (place name fs) (file_at fs name) (file_at-place name fs d) h

missing_step : (b : Bool) (x : List ℕ) (m n : ℕ) (rest : Option (List ℕ)) → (n ≤ m → rest ≡ None) → suc n ≤ cond (not b) (1 + m) 0 → cond b (Some x) rest ≡ None
missing_step true x m n rest ih h = absurd (omega arith)
missing_step false x m n rest ih h = ih (omega arith)

-- there is no file where the name has no place
pub file_at-no_place : (name : List ℕ) (fs : FileMap) → length fs ≤ place name fs → file_at fs name ≡ None
file_at-no_place name [] h = refl
file_at-no_place name (f ∷ fs) h = missing_step (is_named name f) f.1 (place name fs) (length fs) (file_at fs name) (file_at-no_place name fs) h

-- the entry at place i with other bytes
abbrev changed_map : FileMap → ℕ → Entry → List ℕ → FileMap
changed_map fs i d bytes = set fs i ((get_or fs i d).0, bytes)

here_step : (b : Bool) (name : List ℕ) (f : Entry) (fs : FileMap) (d : Entry) (bytes : List ℕ) (m : ℕ) → is_named name f ≡ b
    → (m < length fs → file_at (changed_map fs m d bytes) name ≡ Some bytes)
    → cond (not b) (1 + m) 0 < suc (length fs) → file_at (changed_map (f ∷ fs) (cond (not b) (1 + m) 0) d bytes) name ≡ Some bytes
here_step true name f fs d bytes m e ih h = rw e refl
here_step false name f fs d bytes m e ih h = rw (one_plus m) (rw e (ih (omega arith)))

changed-here : (name : List ℕ) (fs : FileMap) (d : Entry) (bytes : List ℕ) → place name fs < length fs → file_at (changed_map fs (place name fs) d bytes) name ≡ Some bytes
changed-here name [] d bytes h = absurd (omega arith)
changed-here name (f ∷ fs) d bytes h = here_step (is_named name f) name f fs d bytes (place name fs) refl (changed-here name fs d bytes) h

others_step : (b : Bool) (name other : List ℕ) (f : Entry) (fs : FileMap) (d : Entry) (bytes : List ℕ) (m : ℕ) → other ≢ name → is_named name f ≡ b
    → file_at (changed_map fs m d bytes) other ≡ file_at fs other
    → file_at (changed_map (f ∷ fs) (cond (not b) (1 + m) 0) d bytes) other ≡ file_at (f ∷ fs) other
others_step true name other f fs d bytes m differs e ih = rw (other_name f.0 name other e differs) refl
others_step false name other f fs d bytes m differs e ih = rw (one_plus m) (ap (λ r. cond (is_named other f) (Some f.1) r) ih)

changed-others : (name other : List ℕ) (fs : FileMap) (d : Entry) (bytes : List ℕ) → other ≢ name → file_at (changed_map fs (place name fs) d bytes) other ≡ file_at fs other
changed-others name other [] d bytes differs = refl
changed-others name other (f ∷ fs) d bytes differs =
    others_step (is_named name f) name other f fs d bytes (place name fs) differs refl (changed-others name other fs d bytes differs)

-- writing the bytes at the place of the name changes that file only
pub ChangesOnly-changed : (name : List ℕ) (fs : FileMap) (d : Entry) (bytes : List ℕ) → place name fs < length fs → ChangesOnly fs (changed_map fs (place name fs) d bytes) name bytes
ChangesOnly-changed name fs d bytes h = record {
  here = changed-here name fs d bytes h;
  others = λ other differs. changed-others name other fs d bytes differs;
}

pushed-here : (name : List ℕ) (fs : FileMap) (bytes : List ℕ) → file_at fs name ≡ None → file_at (fs ++ (name, bytes) ∷ []) name ≡ Some bytes
pushed-here name [] bytes h = rw (same_name name) refl
pushed-here name (f ∷ fs) bytes h = pushed_step (is_named name f) f.1 bytes (file_at fs name) (file_at (fs ++ (name, bytes) ∷ []) name) (pushed-here name fs bytes) h
  where
    pushed_step : (b : Bool) (x bytes : List ℕ) (old new : Option (List ℕ)) → (old ≡ None → new ≡ Some bytes) → cond b (Some x) old ≡ None → cond b (Some x) new ≡ Some bytes
    pushed_step true x bytes old new ih h = cc
    pushed_step false x bytes old new ih h = ih h

pushed-others : (name other : List ℕ) (fs : FileMap) (bytes : List ℕ) → other ≢ name → file_at (fs ++ (name, bytes) ∷ []) other ≡ file_at fs other
pushed-others name other [] bytes differs = rw (other_name name name other (same_name name) differs) refl
pushed-others name other (f ∷ fs) bytes differs = ap (λ r. cond (is_named other f) (Some f.1) r) (pushed-others name other fs bytes differs)

-- a new file at the end changes that file only
pub ChangesOnly-pushed : (name : List ℕ) (fs : FileMap) (bytes : List ℕ) → length fs ≤ place name fs → ChangesOnly fs (fs ++ (name, bytes) ∷ []) name bytes
ChangesOnly-pushed name fs bytes h = record {
  here = pushed-here name fs bytes (file_at-no_place name fs h);
  others = λ other differs. pushed-others name other fs bytes differs;
}

-- what a search for the first place answers
found_test : (b : Bool) (m i : ℕ) → Some i ≡ cond b (Some m) None → (b ≡ true) × (i ≡ m)
found_test true m i e = (refl, (cc))
found_test false m i e = absurd (cc)

missing_test : (b : Bool) (m : ℕ) → None ≡ cond b (Some m) None → b ≡ false
missing_test true m e = absurd (cc)
missing_test false m e = refl

found_place : (name : List ℕ) (fs : FileMap) (i : ℕ) → Some i ≡ position (is_named name) fs → (place name fs < length fs) × (i ≡ place name fs)
found_place name fs i e =
    let t = found_test (ltb (place name fs) (length fs)) (place name fs) i e in
    ((Decides-ltb (place name fs) (length fs)).0 t.0, t.1)

no_place : (name : List ℕ) (fs : FileMap) → None ≡ position (is_named name) fs → length fs ≤ place name fs
no_place name fs e =
    let t = missing_test (ltb (place name fs) (length fs)) (place name fs) e in
    grind (arith, nat_tests)

-- the file is the entry that was found
pub file_at-found : (name : List ℕ) (fs : FileMap) (i : ℕ) (e : Entry) → Some i ≡ position (is_named name) fs → e ≡ get_or fs i e → file_at fs name ≡ Some e.1
file_at-found name fs i e found is =
    let t = found_place name fs i found in
    let here = file_at-place name fs e t.0 in
    here ∙ ap (λ j. Some (get_or fs j e).1) (sym t.1) ∙ ap (λ (x : Entry). Some x.1) (sym is)

-- there is no file where no entry was found
pub file_at-not_found : (name : List ℕ) (fs : FileMap) → None ≡ position (is_named name) fs → file_at fs name ≡ None
file_at-not_found name fs e = file_at-no_place name fs (no_place name fs e)

-- bytes written over those of the entry that was found
pub ChangesOnly-written : (fs items : FileMap) (name : List ℕ) (i : ℕ) (e : Entry) (bytes wanted : List ℕ) → items ≡ fs → Some i ≡ position (is_named name) fs
    → e ≡ get_or items i e → bytes ≡ wanted → ChangesOnly fs (set items i (e.0, bytes)) name wanted
ChangesOnly-written fs items name i e bytes wanted same found is right =
    let t = found_place name fs i found in
    let P : FileMap → Type 0 = λ new. ChangesOnly fs new name wanted in
    let whole = ChangesOnly-changed name fs e wanted t.0 in
    let at : get_or fs (place name fs) e ≡ e = cc in
    let new : changed_map fs (place name fs) e wanted ≡ set items i (e.0, bytes) = cc in
    subst P new whole

-- bytes added to those of the entry that was found
pub ChangesOnly-grown : (fs items : FileMap) (name : List ℕ) (i : ℕ) (e : Entry) (bytes piece : List ℕ) → items ≡ fs → Some i ≡ position (is_named name) fs
    → e ≡ get_or items i e → bytes ≡ e.1 ++ piece → ChangesOnly fs (set items i (e.0, bytes)) name (contents fs name ++ piece)
ChangesOnly-grown fs items name i e bytes piece same found is more =
    let here = file_at-found name fs i e found (is ∙ ap (λ (x : FileMap). get_or x i e) same) in
    ChangesOnly-written fs items name i e bytes (contents fs name ++ piece) same found is (more ∙ sym (ap (λ (o : Option (List ℕ)). unwrap_or o [] ++ piece) here))

-- a new entry at the end, where none was found
pub ChangesOnly-added : (fs items new : FileMap) (name n bytes wanted : List ℕ) → items ≡ fs → None ≡ position (is_named name) fs → n ≡ name
    → new ≡ items ++ (n, bytes) ∷ [] → bytes ≡ wanted → ChangesOnly fs new name wanted
ChangesOnly-added fs items new name n bytes wanted same missing named is right =
    let whole = ChangesOnly-pushed name fs wanted (no_place name fs missing) in
    let P : FileMap → Type 0 = λ m. ChangesOnly fs m name wanted in
    let made : fs ++ (name, wanted) ∷ [] ≡ new = cc in
    subst P made whole

-- a new entry at the end, where none was found, counts as one added to an empty file
pub contents-not_found : (name : List ℕ) (fs : FileMap) (piece : List ℕ) → None ≡ position (is_named name) fs → [] ++ piece ≡ contents fs name ++ piece
contents-not_found name fs piece missing = sym (ap (λ (o : Option (List ℕ)). unwrap_or o [] ++ piece) (file_at-not_found name fs missing))
