-- A value has a type exactly where its shape has it and each chunk inside it is typed.
use Rattle.std.proofs.Common.{◌≡◌, ℕ, zero, suc, ◌+◌, ◌==◌, ◌≤◌, ◌∙◌, sym, ap, refl, subst, min, max, Bool, true, false, not, ◌&&◌, if◌then◌else◌, List, [], ◌∷◌, length, Option, Some, None, slice_get, arith}
use Rattle.std.specs.Prelude.{Result, Ok, Err, nat_le, is_some, option_and_then, IsTrue, ◌↔◌}
use Rattle.std.specs.List.{sum_by, list_all}
use Rattle.std.proofs.lemmas.List.{length-map}
use Rattle.std.proofs.lemmas.Bool.{eqb-true, eq-eqb, leb-true, le-leb}
use Rattle.containers.proofs.Bools.{and_left, and_right, and_both}
use Rattle.containers.proofs.Lists.{sum_from, largest_from}
use Rattle.plan_base.specs.declared.name.Name.{Name}
use Rattle.plan_base.specs.declared.tree.Ty.{Ty, Ty-F, out-Ty}
use Rattle.plan_base.specs.declared.tree.Ty.TheVariants as ty
use Rattle.plan_base.specs.declared.tree.Fun.{Fun}
use Rattle.plan_base.specs.declared.tree.Program.{Program}
use Rattle.plan_base.specs.declared.tree.Value.{Value, Value-F, out-Value}
use Rattle.plan_base.specs.declared.tree.Chunk.{Chunk}
use Rattle.plan_types_spec.specs.declared.type_fault.TypeFault.{TypeFault}
use Rattle.plan_base.specs.Trees.{TyLayer, ValueLayer}
use Rattle.plan_base.specs.Sizes.{largest_by, weight_level, weight, chunk_weight, nesting, chunk_nesting, value_depth, type_depth, program_nodes}
use Rattle.plan_base.proofs.SizeLaws.{weight_out, chunk_weight_is, chunk_nesting_is}
use Rattle.plan_base.specs.WellFormed.{formed_value_level, formed_value, formed_chunk, formed_type, has_from_to, well_formed_type, well_formed_expr, well_formed_svc, well_formed_fun}
use Rattle.plan_base.specs.WellFormed.{well_formed_program, well_formed_value, IsWellFormedValue, ValueHasTypes, well_formed_chunk, IsWellFormedChunk, ChunkHasTypes, typed_value_level}
use Rattle.plan_base.specs.WellFormed.{value_has_types, chunk_has_types, program_has_types}
use Rattle.plan_base.proofs.FormLaws.{formed_value_out, formed_chunk_is, value_has_types_out, chunk_has_types_is}
use Rattle.plan_types_spec.specs.Typing.{Typed, HasType, unit, bool, int, char, str, blob, host, dev, list, tuple, chunk, HaveTypes, no_values, and_value, AllHaveType, no_items, and_item, IsTypedChunk, within}
use Rattle.plan_types_spec.specs.TypingNames.{place_of, param_types}
use Rattle.plan_base.specs.SameTypes.{same_type}
use Rattle.plan_types_spec.specs.TypingOrder.{fun_of, annotated_program}
use Rattle.plan_base.proofs.SameTypes.{out_same, same_type_true, same_type_itself}
use Rattle.plan_types_spec.proofs.Programs.{annotated_sound, annotated_complete, fills_itself, fills_full, depths_kept}
use Rattle.checked_chunks.specs.Kept.{IsChecked, is_small_chunk, IsCheckedChunk}
use Rattle.plan_types_chunks.specs.declared.fault.Ill.TheVariants.{Count, Argument}
use Rattle.plan_types_chunks.specs.Chunks.{fit_all, fits_layer, fits, ill_from, ill_with, ill_call, ill_code, sound_level, sound, right, illness, is_right_chunk, as_fault, or_large, refusal_of}
use Rattle.plan_types_chunks.proofs.Levels.{fits_out, sound_out, illness_is}

-- ---- parts are within the limits of the whole

sum_bounds : {X : Type 0} (f : X → ℕ) (n : ℕ) (x : X) (xs : List X) → sum_by f (x ∷ xs) ≤ n → (f x ≤ n) × (sum_by f xs ≤ n)
sum_bounds f n x xs h = let k = sum_from f (0 + f x) xs in (omega arith, omega arith)

largest_bounds : {X : Type 0} (f : X → ℕ) (n : ℕ) (x : X) (xs : List X) → largest_by f (x ∷ xs) ≤ n → (f x ≤ n) × (largest_by f xs ≤ n)
largest_bounds f n x xs h = let k = largest_from f (max 0 (f x)) xs in (omega arith, omega arith)

-- ---- where the shape is right and each chunk inside is typed, the value has the type

-- what is known of values that weigh at most n
abbrev Typing : ℕ → Type 0
Typing n = (v : Value) (t : Ty) → weight v ≤ n → value_has_types v ≡ true → fits v t ≡ true → sound v ≡ true → HasType v t

items_typed : (n : ℕ) → Typing n → (u : Ty) (vs : List Value) → sum_by weight vs ≤ n → list_all value_has_types vs ≡ true → list_all (λ v. fits v u) vs ≡ true → list_all sound vs ≡ true → AllHaveType u vs
items_typed n ih u [] w k f o = no_items
items_typed n ih u (v ∷ vs) w k f o =
    let a = sum_bounds weight n v vs w in
    and_item (ih v u a.0 (and_left (value_has_types v) (list_all value_has_types vs) k) (and_left (fits v u) (list_all (λ v. fits v u) vs) f) (and_left (sound v) (list_all sound vs) o))
    (items_typed n ih u vs a.1 (and_right (value_has_types v) (list_all value_has_types vs) k) (and_right (fits v u) (list_all (λ v. fits v u) vs) f) (and_right (sound v) (list_all sound vs) o))

parts_typed : (n : ℕ) → Typing n → (vs : List Value) (ts : List Ty) → sum_by weight vs ≤ n → list_all value_has_types vs ≡ true → fit_all fits vs ts ≡ true → list_all sound vs ≡ true → HaveTypes vs ts
parts_typed n ih [] [] w k f o = no_values
parts_typed n ih [] (t ∷ ts) w k f o = absurd (cc)
parts_typed n ih (v ∷ vs) [] w k f o = absurd (cc)
parts_typed n ih (v ∷ vs) (t ∷ ts) w k f o =
    let a = sum_bounds weight n v vs w in
    and_value (ih v t a.0 (and_left (value_has_types v) (list_all value_has_types vs) k) (and_left (fits v t) (fit_all fits vs ts) f) (and_left (sound v) (list_all sound vs) o))
    (parts_typed n ih vs ts a.1 (and_right (value_has_types v) (list_all value_has_types vs) k) (and_right (fits v t) (fit_all fits vs ts) f) (and_right (sound v) (list_all sound vs) o))

args_typed : (n : ℕ) → Typing n → (i : ℕ) (vs : List Value) (ts : List Ty) → length vs ≡ length ts → sum_by weight vs ≤ n → list_all value_has_types vs ≡ true → ill_from right i vs ts ≡ None → HaveTypes vs ts
args_typed n ih i [] [] e w k h = no_values
args_typed n ih i [] (t ∷ ts) e w k h = absurd (omega arith)
args_typed n ih i (v ∷ vs) [] e w k h = absurd (omega arith)
args_typed n ih i (v ∷ vs) (t ∷ ts) e w k h =
    let a = sum_bounds weight n v vs w in
    go (λ f o. ih v t a.0 (and_left (value_has_types v) (list_all value_has_types vs) k) f o)
    (λ r. args_typed n ih (min (i + 1) 255) vs ts (omega arith) a.1 (and_right (value_has_types v) (list_all value_has_types vs) k) r)
    (fits v t) (sound v) refl refl h
  where
    go : (fits v t ≡ true → sound v ≡ true → HasType v t) → (ill_from right (min (i + 1) 255) vs ts ≡ None → HaveTypes vs ts) → (p q : Bool) → fits v t ≡ p → sound v ≡ q
        → (if p && q then ill_from right (min (i + 1) 255) vs ts else Some (Argument i)) ≡ None → HaveTypes (v ∷ vs) (t ∷ ts)
    go first rest true true f o r = and_value (first f o) (rest r)
    go first rest true false f o r = absurd (cc)
    go first rest false q f o r = absurd (cc)

-- a typed code makes a typed chunk where nothing is wrong with the call
call_typed : (n : ℕ) → Typing n → (c : Chunk) → Typed c.code → sum_by weight c.args ≤ n → chunk_nesting c ≤ 4 → 1 + chunk_weight c ≤ 16384 → list_all value_has_types c.args ≡ true
    → ill_call right c.code c.entry c.args ≡ None → IsTypedChunk c
call_typed n ih c t w s m k h = place (place_of c.entry c.code.funs) refl h
  where
    typed_where_counted : (at : ℕ) (d : Fun) → place_of c.entry c.code.funs ≡ Some at → slice_get c.code.funs at ≡ Some d → (b : Bool) → (length c.args == length d.params) ≡ b
        → (if b then ill_from right 0 c.args (param_types d.params) else Some Count) ≡ None → IsTypedChunk c
    typed_where_counted at d p g false e r = absurd (cc)
    typed_where_counted at d p g true e r =
        let same : length c.args ≡ length d.params = eqb-true (length c.args) (length d.params) e in
        let count : length c.args ≡ length (param_types d.params) = same ∙ sym (length-map d.params (λ p. p.ty)) in
        within at d t p g (args_typed n ih 0 c.args (param_types d.params) count w k r) s m

    typed_where_found : (at : ℕ) → place_of c.entry c.code.funs ≡ Some at → (o : Option Fun) → slice_get c.code.funs at ≡ o → ill_with right c.args o ≡ None → IsTypedChunk c
    typed_where_found at p None g r = absurd (cc)
    typed_where_found at p (Some d) g r = typed_where_counted at d p g (length c.args == length d.params) refl r

    place : (o : Option ℕ) → place_of c.entry c.code.funs ≡ o → ill_with right c.args (option_and_then (slice_get c.code.funs) o) ≡ None → IsTypedChunk c
    place None p r = absurd (cc)
    place (Some at) p r = typed_where_found at p (slice_get c.code.funs at) refl r

typed_code : (code p : Program) → program_has_types code ≡ true → annotated_program code ≡ Ok p → Typed code
typed_code code p k e =
    let a = annotated_sound code p e in
    subst (λ z. Typed z) (fills_full code p k a.0) a.1

chunk_typed : (n : ℕ) → Typing n → (c : Chunk) → sum_by weight c.args ≤ n → chunk_nesting c ≤ 4 → 1 + chunk_weight c ≤ 16384 → chunk_has_types c ≡ true → illness c ≡ None → IsTypedChunk c
chunk_typed n ih c w s m k h = go (annotated_program c.code) refl (sym (illness_is c) ∙ h)
  where
    parts_have_types : (program_has_types c.code && list_all value_has_types c.args) ≡ true
    parts_have_types = sym (chunk_has_types_is c) ∙ k

    go : (r : Result Program TypeFault) → annotated_program c.code ≡ r → ill_code r (ill_call right c.code c.entry c.args) ≡ None → IsTypedChunk c
    go (Err f) e r = absurd (cc)
    go (Ok p) e r =
        call_typed n ih c (typed_code c.code p (and_left (program_has_types c.code) (list_all value_has_types c.args) parts_have_types)
        e) w s m (and_right (program_has_types c.code) (list_all value_has_types c.args) parts_have_types) r

none_of : {X : Type 0} (o : Option X) → not (is_some o) ≡ true → o ≡ None
none_of None h = refl
none_of (Some x) h = absurd (cc)

none_is : {X : Type 0} (o : Option X) → o ≡ None → not (is_some o) ≡ true
none_is None h = refl
none_is (Some x) h = absurd (cc)

weighs_little : (c : Chunk) → is_small_chunk c ≡ true → 1 + chunk_weight c ≤ 16384
weighs_little c s = leb-true (1 + chunk_weight c) 16384 (and_left (nat_le (1 + chunk_weight c) 16384) (nat_le (chunk_nesting c) 4) s)

nests_little : (c : Chunk) → is_small_chunk c ≡ true → chunk_nesting c ≤ 4
nests_little c s = leb-true (chunk_nesting c) 4 (and_right (nat_le (1 + chunk_weight c) 16384) (nat_le (chunk_nesting c) 4) s)

within_limits : (c : Chunk) → IsTypedChunk c → is_small_chunk c ≡ true
within_limits c (within at d t p g h n w) = and_both (nat_le (1 + chunk_weight c) 16384) (nat_le (chunk_nesting c) 4) (le-leb (1 + chunk_weight c) 16384 w) (le-leb (chunk_nesting c) 4 n)

at_level : (n : ℕ) → Typing n → (v : Value) (t : Ty) (l : ValueLayer) → out-Value v ≡ l → (m : TyLayer) → out-Ty t ≡ m → weight_level weight chunk_weight l ≤ suc n → typed_value_level value_has_types chunk_has_types l ≡ true
    → fits_layer fits l m ≡ true → sound_level sound is_right_chunk l ≡ true → HasType v t
at_level n ih v t Value-F.Unit e Ty-F.Unit g w k f o = unit e (out_same t ty.Unit (g ∙ sym ty.outs-Unit))
at_level n ih v t (Value-F.Bool b) e Ty-F.Bool g w k f o = bool b e (out_same t ty.Bool (g ∙ sym ty.outs-Bool))
at_level n ih v t (Value-F.Int i) e Ty-F.Int g w k f o = int i e (out_same t ty.Int (g ∙ sym ty.outs-Int))
at_level n ih v t (Value-F.Char c) e Ty-F.Char g w k f o = char c e (out_same t ty.Char (g ∙ sym ty.outs-Char))
at_level n ih v t (Value-F.Str x) e Ty-F.Str g w k f o = str x e (out_same t ty.Str (g ∙ sym ty.outs-Str))
at_level n ih v t (Value-F.Blob x) e Ty-F.Blob g w k f o = blob x e (out_same t ty.Blob (g ∙ sym ty.outs-Blob))
at_level n ih v t (Value-F.Host x) e Ty-F.Host g w k f o = host x e (out_same t ty.Host (g ∙ sym ty.outs-Host))
at_level n ih v t (Value-F.Dev x) e Ty-F.Dev g w k f o = dev x e (out_same t ty.Dev (g ∙ sym ty.outs-Dev))
at_level n ih v t (Value-F.List u vs) e (Ty-F.List x) g w k f o =
    let same : u ≡ x = same_type_true u x (and_left (same_type u x) (list_all (λ v. fits v u) vs) f) in
    list u vs e (out_same t (ty.List u) (g ∙ (ap Ty-F.List (sym same) ∙ sym (ty.outs-List u))))
    (items_typed n ih u vs (omega arith) k (and_right (same_type u x) (list_all (λ v. fits v u) vs) f) o)
at_level n ih v t (Value-F.Tuple vs) e (Ty-F.Tuple ts) g w k f o = tuple vs ts e (out_same t (ty.Tuple ts) (g ∙ sym (ty.outs-Tuple ts))) (parts_typed n ih vs ts (omega arith) k f o)
at_level n ih v t (Value-F.Chunk c) e Ty-F.Chunk g w k f o =
    let weighs = chunk_weight_is c in
    let small = and_left (is_small_chunk c) (not (is_some (illness c))) o in
    chunk c e (out_same t ty.Chunk (g ∙ sym ty.outs-Chunk)) (chunk_typed n ih c (omega arith) (nests_little c small) (weighs_little c small) k (none_of (illness c) (and_right (is_small_chunk c) (not (is_some (illness c))) o)))
at_level n ih v t _ e _ g w k f o = absurd (cc)

no_weight : (l : ValueLayer) → weight_level weight chunk_weight l ≤ zero → ⊥
no_weight (Value-F.Str s) w = omega arith
no_weight (Value-F.Blob s) w = omega arith
no_weight (Value-F.Chunk c) w = omega arith
no_weight (Value-F.List t vs) w = omega arith
no_weight (Value-F.Tuple vs) w = omega arith
no_weight _ w = omega arith

pub typing : (n : ℕ) → Typing n
typing zero v t w k f o = absurd (no_weight (out-Value v) (rw weight_out at w))
typing (suc n) v t w k f o =
    at_level n (typing n) v t (out-Value v) refl (out-Ty t) refl (rw weight_out at w) (sym (value_has_types_out v) ∙ k) (sym (fits_out v t) ∙ f) (sym (sound_out v) ∙ o)

-- ---- and the other way

sound_by_level : (v : Value) (t : Ty) (l : ValueLayer) (u : Ty) (m : TyLayer) → out-Value v ≡ l → t ≡ u → out-Ty u ≡ m → fits_layer fits l m ≡ true → sound_level sound is_right_chunk l ≡ true → (fits v t ≡ true) × (sound v ≡ true)
sound_by_level v t l u m e q g f o = (
  fits_out v t ∙ (λ i. fits_layer fits (e i) ((ap out-Ty q ∙ g) i)) ∙ f,
  sound_out v ∙ (λ i. sound_level sound is_right_chunk (e i)) ∙ o,
)

level_formed : (v : Value) (l : ValueLayer) → out-Value v ≡ l → formed_value v ≡ true → formed_value_level formed_value formed_chunk l ≡ true
level_formed v l e h = ap (formed_value_level formed_value formed_chunk) (sym e) ∙ (sym (formed_value_out v) ∙ h)

call_right : (k : Chunk) (at : ℕ) (d : Fun) → place_of k.entry k.code.funs ≡ Some at → slice_get k.code.funs at ≡ Some d → length k.args ≡ length (param_types d.params)
    → ill_from right 0 k.args (param_types d.params) ≡ None → ill_call right k.code k.entry k.args ≡ None
call_right k at d p g count h =
    let same : length k.args ≡ length d.params = count ∙ length-map d.params (λ p. p.ty) in
    let known : fun_of k.code k.entry ≡ Some d = ap (option_and_then (slice_get k.code.funs)) p ∙ g in
    ap (ill_with right k.args) known
    ∙ ap (λ b. if b then ill_from right 0 k.args (param_types d.params) else Some Count) (eq-eqb (length k.args) (length d.params) same)
    ∙ h

same_count : {vs : List Value} {ts : List Ty} → HaveTypes vs ts → length vs ≡ length ts
same_count no_values = refl
same_count (and_value h hs) = ap suc (same_count hs)

code_right : (k : Chunk) → Typed k.code → well_formed_program k.code ≡ true → ill_call right k.code k.entry k.args ≡ None → illness k ≡ None
code_right k t f h =
    illness_is k
    ∙ ap (λ r. ill_code r (ill_call right k.code k.entry k.args)) (annotated_complete k.code k.code (depths_kept k.code f) (fills_itself k.code t) t)
    ∙ h

mutual
  pub shape_by : {v : Value} {t : Ty} → HasType v t → formed_value v ≡ true → (fits v t ≡ true) × (sound v ≡ true)
  shape_by {v} {t} (unit e q) f = sound_by_level v t Value-F.Unit ty.Unit Ty-F.Unit e q ty.outs-Unit refl refl
  shape_by {v} {t} (bool b e q) f = sound_by_level v t (Value-F.Bool b) ty.Bool Ty-F.Bool e q ty.outs-Bool refl refl
  shape_by {v} {t} (int n e q) f = sound_by_level v t (Value-F.Int n) ty.Int Ty-F.Int e q ty.outs-Int refl refl
  shape_by {v} {t} (char n e q) f = sound_by_level v t (Value-F.Char n) ty.Char Ty-F.Char e q ty.outs-Char refl refl
  shape_by {v} {t} (str s e q) f = sound_by_level v t (Value-F.Str s) ty.Str Ty-F.Str e q ty.outs-Str refl refl
  shape_by {v} {t} (blob b e q) f = sound_by_level v t (Value-F.Blob b) ty.Blob Ty-F.Blob e q ty.outs-Blob refl refl
  shape_by {v} {t} (host h e q) f = sound_by_level v t (Value-F.Host h) ty.Host Ty-F.Host e q ty.outs-Host refl refl
  shape_by {v} {t} (dev d e q) f = sound_by_level v t (Value-F.Dev d) ty.Dev Ty-F.Dev e q ty.outs-Dev refl refl
  shape_by {v} {t} (list u vs e q h) f =
      let z = level_formed v (Value-F.List u vs) e f in
      let y = and_right (formed_type u && nat_le (type_depth u) 7) (nat_le (length vs) 65535 && list_all formed_value vs) z in
      let r = items_by h (and_right (nat_le (length vs) 65535) (list_all formed_value vs) y) in
      sound_by_level v t (Value-F.List u vs) (ty.List u) (Ty-F.List u) e q (ty.outs-List u) (and_both (same_type u u) (list_all (λ v. fits v u) vs) (same_type_itself u) r.0) r.1
  shape_by {v} {t} (tuple vs ts e q h) f =
      let z = level_formed v (Value-F.Tuple vs) e f in
      let r = parts_by h (and_right (nat_le 2 (length vs) && nat_le (length vs) 8) (list_all formed_value vs) z) in
      sound_by_level v t (Value-F.Tuple vs) (ty.Tuple ts) (Ty-F.Tuple ts) e q (ty.outs-Tuple ts) r.0 r.1
  shape_by {v} {t} (chunk k e q h) f =
      sound_by_level v t (Value-F.Chunk k) ty.Chunk Ty-F.Chunk e q ty.outs-Chunk refl
      (and_both (is_small_chunk k) (not (is_some (illness k))) (within_limits k h) (none_is (illness k) (chunk_by h (level_formed v (Value-F.Chunk k) e f))))

  items_by : {u : Ty} {vs : List Value} → AllHaveType u vs → list_all formed_value vs ≡ true → (list_all (λ v. fits v u) vs ≡ true) × (list_all sound vs ≡ true)
  items_by no_items f = (refl, refl)
  items_by {u} (and_item {v = v} {vs = vs} h hs) f =
      let a = shape_by h (and_left (formed_value v) (list_all formed_value vs) f) in
      let b = items_by hs (and_right (formed_value v) (list_all formed_value vs) f) in
      (and_both (fits v u) (list_all (λ v. fits v u) vs) a.0 b.0, and_both (sound v) (list_all sound vs) a.1 b.1)

  parts_by : {vs : List Value} {ts : List Ty} → HaveTypes vs ts → list_all formed_value vs ≡ true → (fit_all fits vs ts ≡ true) × (list_all sound vs ≡ true)
  parts_by no_values f = (refl, refl)
  parts_by (and_value {v = v} {vs = vs} {t = t} {ts = ts} h hs) f =
      let a = shape_by h (and_left (formed_value v) (list_all formed_value vs) f) in
      let b = parts_by hs (and_right (formed_value v) (list_all formed_value vs) f) in
      (and_both (fits v t) (fit_all fits vs ts) a.0 b.0, and_both (sound v) (list_all sound vs) a.1 b.1)

  args_by : {vs : List Value} {ts : List Ty} → HaveTypes vs ts → list_all (λ v. formed_value v && nat_le (value_depth v) 8) vs ≡ true → (i : ℕ) → ill_from right i vs ts ≡ None
  args_by no_values f i = refl
  args_by (and_value {v = v} {vs = vs} {t = t} {ts = ts} h hs) f i =
      let g = and_left (formed_value v && nat_le (value_depth v) 8) (list_all (λ v. formed_value v && nat_le (value_depth v) 8) vs) f in
      let a = shape_by h (and_left (formed_value v) (nat_le (value_depth v) 8) g) in
      let b = args_by hs (and_right (formed_value v && nat_le (value_depth v) 8) (list_all (λ v. formed_value v && nat_le (value_depth v) 8) vs) f) (min (i + 1) 255) in
      ap (λ c. if c then ill_from right (min (i + 1) 255) vs ts else Some (Argument i)) (and_both (fits v t) (sound v) a.0 a.1) ∙ b

  pub chunk_by : {k : Chunk} → IsTypedChunk k → formed_chunk k ≡ true → illness k ≡ None
  chunk_by {k} (within at d t p g h n w) f =
      let z = sym (formed_chunk_is k) ∙ f in
      let y = and_right (well_formed_program k.code) (nat_le (length k.args) 8 && list_all (λ v. formed_value v && nat_le (value_depth v) 8) k.args) z in
      let r = args_by h (and_right (nat_le (length k.args) 8) (list_all (λ v. formed_value v && nat_le (value_depth v) 8) k.args) y) 0 in
      code_right k t (and_left (well_formed_program k.code) (nat_le (length k.args) 8 && list_all (λ v. formed_value v && nat_le (value_depth v) 8) k.args) z) (call_right k at d p g (same_count h) r)

-- ---- for whole chunks

largest_small : (vs : List Value) → list_all (λ v. nat_le (nesting v) 3) vs ≡ true → largest_by nesting vs ≤ 3
largest_small [] h = omega arith
largest_small (v ∷ vs) h =
    let a = leb-true (nesting v) 3 (and_left (nat_le (nesting v) 3) (list_all (λ v. nat_le (nesting v) 3) vs) h) in
    let b = largest_small vs (and_right (nat_le (nesting v) 3) (list_all (λ v. nat_le (nesting v) 3) vs) h) in
    let k = largest_from nesting (max 0 (nesting v)) vs in
    omega arith

-- a chunk within the limits is typed where nothing is wrong with it
pub chunk_found : (c : Chunk) → IsWellFormedChunk c → ChunkHasTypes c → 1 + chunk_weight c ≤ 16384 → illness c ≡ None → IsCheckedChunk c
unfolding well_formed_chunk
chunk_found c f k m h =
    let small = largest_small c.args (and_right (formed_chunk c) (list_all (λ v. nat_le (nesting v) 3) c.args) f) in
    let nests = chunk_nesting_is c in
    let weighs = chunk_weight_is c in
    record { typed = chunk_typed 16384 (typing 16384) c (omega arith) (omega arith) m k h; formed = f; full = k }

-- and nothing is wrong where it is typed
pub chunk_only : (c : Chunk) → IsWellFormedChunk c → IsTypedChunk c → illness c ≡ None
unfolding well_formed_chunk
chunk_only c f t = chunk_by t (and_left (formed_chunk c) (list_all (λ v. nat_le (nesting v) 3) c.args) f)

formed_args : (vs : List Value) → list_all well_formed_value vs ≡ true → list_all (λ v. formed_value v && nat_le (value_depth v) 8) vs ≡ true
unfolding well_formed_value
formed_args [] h = refl
formed_args (v ∷ vs) h =
    let a = and_left (well_formed_value v) (list_all well_formed_value vs) h in
    let b = and_right (formed_value v) (nat_le (value_depth v) 8 && nat_le (nesting v) 4) a in
    and_both (formed_value v && nat_le (value_depth v) 8) (list_all (λ v. formed_value v && nat_le (value_depth v) 8) vs)
    (and_both (formed_value v) (nat_le (value_depth v) 8) (and_left (formed_value v) (nat_le (value_depth v) 8 && nat_le (nesting v) 4) a) (and_left (nat_le (value_depth v) 8) (nat_le (nesting v) 4) b))
    (formed_args vs (and_right (well_formed_value v) (list_all well_formed_value vs) h))

at_fun : (ds : List Fun) (i : ℕ) (d : Fun) → list_all well_formed_fun ds ≡ true → slice_get ds i ≡ Some d → nat_le (length d.params) 8 ≡ true
at_fun [] i d h e = absurd (cc)
at_fun (x ∷ ds) zero d h e =
    let same : x ≡ d = cc in
    ap (λ f. nat_le (length f.params) 8) (sym same)
    ∙ and_left (nat_le (length x.params) 8)
    (list_all (λ p. well_formed_type p.ty) x.params && (well_formed_type x.result && well_formed_expr x.body)) (and_left (well_formed_fun x) (list_all well_formed_fun ds) h)
at_fun (x ∷ ds) (suc i) d h e = at_fun ds i d (and_right (well_formed_fun x) (list_all well_formed_fun ds) h) e

few_params : (code : Program) (i : ℕ) (d : Fun) → well_formed_program code ≡ true → slice_get code.funs i ≡ Some d → nat_le (length d.params) 8 ≡ true
unfolding well_formed_program
few_params code i d w e =
    let a = and_right (nat_le (length code.svcs) 64 && list_all well_formed_svc code.svcs) (nat_le (length code.exns) 64 && ((has_from_to 1 64 code.funs && list_all well_formed_fun code.funs) && nat_le (program_nodes code) 4096)) w in
    let b = and_right (nat_le (length code.exns) 64) ((has_from_to 1 64 code.funs && list_all well_formed_fun code.funs) && nat_le (program_nodes code) 4096) a in
    let c = and_left (has_from_to 1 64 code.funs && list_all well_formed_fun code.funs) (nat_le (program_nodes code) 4096) b in
    at_fun code.funs i d (and_right (has_from_to 1 64 code.funs) (list_all well_formed_fun code.funs) c) e

few_args : (c : Chunk) → IsTypedChunk c → well_formed_program c.code ≡ true → nat_le (length c.args) 8 ≡ true
few_args c (within at d t p g h n w) f =
    let count : length c.args ≡ length d.params = same_count h ∙ length-map d.params (λ p. p.ty) in
    ap (λ m. nat_le m 8) count ∙ few_params c.code at d f g

small_parts : (vs : List Value) → largest_by nesting vs ≤ 3 → list_all (λ v. nat_le (nesting v) 3) vs ≡ true
small_parts [] h = refl
small_parts (v ∷ vs) h =
    let b = largest_bounds nesting 3 v vs h in
    and_both (nat_le (nesting v) 3) (list_all (λ v. nat_le (nesting v) 3) vs) (le-leb (nesting v) 3 b.0) (small_parts vs b.1)

-- a chunk of a checked program likewise
pub call_found : (c : Chunk) → IsChecked c.code → IsTrue (list_all well_formed_value c.args) → IsTrue (list_all value_has_types c.args) → is_small_chunk c ≡ true → ill_call right c.code c.entry c.args ≡ None → IsCheckedChunk c
unfolding well_formed_chunk
call_found c code f k s h =
    let m = weighs_little c s in
    let n = nests_little c s in
    let weighs = chunk_weight_is c in
    let nests = chunk_nesting_is c in
    let typed = call_typed 16384 (typing 16384) c code.typed (omega arith) n m k h in
    let formed : formed_chunk c ≡ true =
    formed_chunk_is c
    ∙ and_both (well_formed_program c.code) (nat_le (length c.args) 8 && list_all (λ v. formed_value v && nat_le (value_depth v) 8) c.args) code.formed
    (and_both (nat_le (length c.args) 8) (list_all (λ v. formed_value v && nat_le (value_depth v) 8) c.args) (few_args c typed code.formed) (formed_args c.args f)) in
    record {
      typed = typed;
      formed = and_both (formed_chunk c) (list_all (λ v. nat_le (nesting v) 3) c.args) formed (small_parts c.args (omega arith));
      full = chunk_has_types_is c ∙ and_both (program_has_types c.code) (list_all value_has_types c.args) code.full k;
    }

-- the same of a copy
pub call_made : (code p : Program) (entry n : Name) (args : List Value) → code ≡ p → entry ≡ n → IsChecked p → IsTrue (list_all well_formed_value args) → IsTrue (list_all value_has_types args)
    → is_small_chunk (record { code = code; entry = entry; args = args }) ≡ true → ill_call right p n args ≡ None
    → IsCheckedChunk (record { code = code; entry = entry; args = args })
call_made code p entry n args a b k f t s h = call_found (record { code = code; entry = entry; args = args }) (subst (λ z. IsChecked z) (sym a) k) f t s ((λ i. ill_call right (a i) (b i) args) ∙ h)

pub call_only : (c : Chunk) → IsTrue (list_all well_formed_value c.args) → IsTypedChunk c → refusal_of c ≡ None
call_only c f (within at d t p g h n w) =
    let r = call_right c at d p g (same_count h) (args_by h (formed_args c.args f) 0) in
    let s = within_limits c (within at d t p g h n w) in
    λ i. or_large (s i) (as_fault (r i))

-- of any value
pub value_law : (v : Value) (t : Ty) → IsWellFormedValue v → ValueHasTypes v → HasType v t ↔ (IsTrue (fits v t) × IsTrue (sound v))
unfolding well_formed_value
value_law v t w k = (
  λ h. shape_by h (and_left (formed_value v) (nat_le (value_depth v) 8 && nat_le (nesting v) 4) w),
  λ h. typing (weight v) v t (omega arith) k h.0 h.1,
)
