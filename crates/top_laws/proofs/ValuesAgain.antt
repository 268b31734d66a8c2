-- An argument of a checked chunk is printed so that it is read again.
use Rattle.std.proofs.Common.{◌≡◌, ℕ, zero, suc, ◌+◌, ◌<◌, ◌≤◌, Bool, true, false, List, [], ◌∷◌, length, Some, refl, sym, ◌∙◌, ap, subst, arith}
use Rattle.std.specs.Prelude.{◌&&◌, nat_le, max, fold, slice_get}
use Rattle.std.specs.List.{list_all}
use Rattle.std.proofs.lemmas.Bool.{leb-true, ltb-true}
use Rattle.std.proofs.lemmas.List.{length-map}
use Rattle.containers.proofs.Bools.{and_left as left, and_right as right}
use Rattle.containers.proofs.Lists.{all-map}
use Rattle.plan_base.specs.declared.tree.Ty.{Ty, out-Ty, Ty-F}
use Rattle.plan_base.specs.declared.tree.Ty.TheVariants as ty
use Rattle.plan_base.specs.declared.tree.Value.{Value, Value-F, out-Value, map-Value, fold_out-Value}
use Rattle.plan_base.specs.declared.tree.Chunk.{Chunk, fold-Chunk}
use Rattle.plan_base.specs.Sizes.{largest_by, type_depth, type_depth_level, value_depth}
use Rattle.plan_base.specs.WellFormed.{formed_type, formed_value, formed_value_level, formed_chunk, well_formed_program, well_formed_chunk}
use Rattle.plan_types_spec.specs.Typing.{HasType, HaveTypes, AllHaveType, IsTypedChunk}
use Rattle.plan_types_spec.specs.Typing as y
use Rattle.plan_base.proofs.SizeLaws.{type_depth_out, largest_by-map}
use Rattle.plan_base.proofs.FormLaws.{formed_value_out, formed_chunk_is}
use Rattle.checked_chunks.specs.Kept.{IsCheckedChunk}
use Rattle.plan_parser.specs.Values.{value_of}
use Rattle.plan_parser.specs.ReadTexts.{Reads}
use Rattle.plan_printer_spec.specs.Printed.{value_text}
use Rattle.program_text_laws.specs.Proper.{IsReadableType, IsProperValue, AreProperValues}
use Rattle.program_text_laws.specs.Proper as p
use Rattle.top_laws.proofs.Segments.{lexes_whole}
use Rattle.top_laws.proofs.ValueTokens.{value_part}
use Rattle.top_laws.specs.Readable.{IsReadable, AreOfType, AreReadable}
use Rattle.top_laws.specs.Readable as re
use Rattle.top_laws.proofs.ValuesRead.{value_again}
use Rattle.chunk_codec.proofs.TestLaws.{between, int_fits, max_parts, fold_within}
use Rattle.top_laws.specs.Exact.{value_exact, value_exact_level}
use Rattle.top_laws.specs.ReadBack.{plain, plain_level, reach, reach_level, IsReadBack}
use Rattle.top_laws.proofs.ExactLaws.{value_exact_out}
use Rattle.top_laws.proofs.ProgramsAgain.{bytes_are, type_proper, text_utf8}

-- ---- the outermost level

plain_step : (f : Value → Bool) (g : Chunk → Bool) → (x : Value-F Value Chunk) → plain_level (λ b. b) (map-Value Value Chunk Bool Bool f g x) ≡ plain_level f x
plain_step f g (Value-F.List t vs) = λ i. nat_le (length-map vs f i) 63 && all-map f vs i
plain_step f g (Value-F.Tuple vs) = all-map f vs
plain_step f g _ = refl

plain_out : (v : Value) → plain v ≡ plain_level plain (out-Value v)
unfolding plain
plain_out v = fold_out-Value Bool Bool (plain_level (λ b. b)) (λ _. false) v ∙ plain_step plain (fold-Chunk Bool Bool (plain_level (λ b. b)) (λ _. false)) (out-Value v)

reach_step : (f : Value → ℕ) (g : Chunk → ℕ) → (x : Value-F Value Chunk) → reach_level (λ n. n) (map-Value Value Chunk ℕ ℕ f g x) ≡ reach_level f x
reach_step f g (Value-F.List t []) = refl
reach_step f g (Value-F.List t (v ∷ vs)) = ap (λ n. 1 + n) (largest_by-map f (v ∷ vs))
reach_step f g (Value-F.Tuple vs) = ap (λ n. 1 + n) (largest_by-map f vs)
reach_step f g _ = refl

reach_out : (v : Value) → reach v ≡ reach_level reach (out-Value v)
unfolding reach
reach_out v = fold_out-Value ℕ ℕ (reach_level (λ n. n)) (λ _. 0) v ∙ reach_step reach (fold-Chunk ℕ ℕ (reach_level (λ n. n)) (λ _. 0)) (out-Value v)

-- what a value keeps, and its outermost level
record Good (v : Value) : Type 0 where
  formed : formed_value v ≡ true
  exact : value_exact v ≡ true
  plain : plain v ≡ true

record Level (x : Value-F Value Chunk) : Type 0 where
  formed : formed_value_level formed_value formed_chunk x ≡ true
  exact : value_exact_level value_exact x ≡ true
  plain : plain_level plain x ≡ true

level_of : (v : Value) (x : Value-F Value Chunk) → out-Value v ≡ x → Good v → Level x
level_of v x o g = subst Level o (record { formed = sym (formed_value_out v) ∙ g.formed; exact = sym (value_exact_out v) ∙ g.exact; plain = sym (plain_out v) ∙ g.plain })

reach_of : (v : Value) (x : Value-F Value Chunk) (n : ℕ) → out-Value v ≡ x → reach v ≤ n → reach_level reach x ≤ n
reach_of v x n o h = subst (λ z. reach_level reach z ≤ n) o (subst (λ m. m ≤ n) (reach_out v) h)

some_depth : (t : Ty) → 0 < type_depth t
some_depth t = by_level (out-Ty t) (type_depth_out t)
  where
    by_level : (x : Ty-F Ty) → type_depth t ≡ type_depth_level type_depth x → 0 < type_depth t
    by_level (Ty-F.List u) e = omega (arith, e)
    by_level (Ty-F.Tuple ts) e = omega (arith, e)
    by_level _ e = omega (arith, e)

-- ---- values

-- what all of a list keep
abbrev AllGood : List Value → Type 0
AllGood vs = (list_all formed_value vs ≡ true) × (list_all value_exact vs ≡ true) × (list_all plain vs ≡ true)

first_good : (v : Value) (vs : List Value) → AllGood (v ∷ vs) → Good v
first_good v vs g = record { formed = left _ _ g.0; exact = left _ _ g.1; plain = left _ _ g.2 }

rest_good : (v : Value) (vs : List Value) → AllGood (v ∷ vs) → AllGood vs
rest_good v vs g = (right _ _ g.0, right _ _ g.1, right _ _ g.2)

items_good : (u : Ty) (vs : List Value) → Level (Value-F.List u vs) → AllGood vs
items_good u vs l = (right (nat_le (length vs) 65535) _ (right (formed_type u && nat_le (type_depth u) 7) _ l.formed), l.exact, right (nat_le (length vs) 63) _ l.plain)

parts_good : (vs : List Value) → Level (Value-F.Tuple vs) → AllGood vs
parts_good vs l = (right (nat_le 2 (length vs) && nat_le (length vs) 8) _ l.formed, l.exact, l.plain)

-- a list's element type
item_type : (u : Ty) (vs : List Value) → Level (Value-F.List u vs) → IsReadableType u × (type_depth u ≤ 7)
item_type u vs l =
    let f : (formed_type u && nat_le (type_depth u) 7) ≡ true = left _ _ l.formed in
    let d : type_depth u ≤ 7 = leb-true (type_depth u) 7 (right (formed_type u) _ f) in
    ((type_proper 8 u (left _ _ f) (omega (arith, d)), omega (arith, d)), d)

mutual
  value_proper : {v : Value} {t : Ty} → HasType v t → Good v → IsProperValue v
  value_proper (y.unit o e) g = p.unit o
  value_proper (y.bool b o e) g = p.bool b o
  value_proper {v} (y.int n o e) g = p.int n o (int_fits n (level_of v (Value-F.Int n) o g).exact)
  value_proper {v} (y.char n o e) g = p.char n o (level_of v (Value-F.Char n) o g).formed
  value_proper {v} (y.str s o e) g = p.str s o (text_utf8 s (level_of v (Value-F.Str s) o g).formed)
  value_proper {v} (y.blob b o e) g = p.blob b o (bytes_are b (level_of v (Value-F.Blob b) o g).exact)
  value_proper {v} (y.host h o e) g = p.host h o (ltb-true h.0 4294967296 (level_of v (Value-F.Host h) o g).exact)
  value_proper {v} (y.dev d o e) g = p.dev d o (ltb-true d.0 4294967296 (level_of v (Value-F.Dev d) o g).exact)
  value_proper {v} (y.list u vs o e h) g = let l = level_of v (Value-F.List u vs) o g in p.list u vs o (item_type u vs l).0.0 (items_proper h (items_good u vs l))
  value_proper {v} (y.tuple vs ts o e h) g = let l = level_of v (Value-F.Tuple vs) o g in p.tuple vs o (between 2 8 (length vs) (left _ _ l.formed)) (values_proper h (parts_good vs l))
  value_proper {v} (y.chunk k o e h) g = let l = (level_of v (Value-F.Chunk k) o g).plain in cc

  items_proper : {u : Ty} {vs : List Value} → AllHaveType u vs → AllGood vs → AreProperValues vs
  items_proper y.no_items g = p.no_values
  items_proper (y.and_item {v = v} {vs = vs} h k) g = p.and_value (value_proper h (first_good v vs g)) (items_proper k (rest_good v vs g))

  values_proper : {vs : List Value} {ts : List Ty} → HaveTypes vs ts → AllGood vs → AreProperValues vs
  values_proper y.no_values g = p.no_values
  values_proper (y.and_value {v = v} {vs = vs} h k) g = p.and_value (value_proper h (first_good v vs g)) (values_proper k (rest_good v vs g))

-- the parts of what reaches so far reach one less
less : (n room : ℕ) → 1 + n ≤ suc room → n ≤ room
less n room h = omega (arith, h)

-- a list and a tuple by what their items and parts are
list_reads : (room : ℕ) (v : Value) (u : Ty) (vs : List Value) → out-Value v ≡ Value-F.List u vs → Good v → reach v ≤ room → ((k : ℕ) → largest_by reach vs ≤ k → AreOfType (suc k) vs u) → IsReadable (suc room) v (ty.List u)
list_reads room v u [] o g n items =
    let l = level_of v (Value-F.List u []) o g in
    let d = reach_of v (Value-F.List u []) room o n in
    let s = some_depth u in
    re.nil u o (omega (arith, s, d)) (item_type u [] l).0 d
list_reads zero v u (w ∷ ws) o g n items = absurd (let d = reach_of v (Value-F.List u (w ∷ ws)) zero o n in omega (arith, d))
list_reads (suc room) v u (w ∷ ws) o g n items = by_items (items room (less _ room (reach_of v (Value-F.List u (w ∷ ws)) (suc room) o n)))
  where
    by_items : AreOfType (suc room) (w ∷ ws) u → IsReadable (suc (suc room)) v (ty.List u)
    by_items (re.and_item h k) =
        let c = leb-true (length (w ∷ ws)) 63 (left _ _ (level_of v (Value-F.List u (w ∷ ws)) o g).plain) in
        re.list u w ws o (omega arith) (omega (arith, c)) h k

tuple_reads : (room : ℕ) (v : Value) (vs : List Value) (ts : List Ty) → out-Value v ≡ Value-F.Tuple vs → Good v → reach v ≤ room → ((k : ℕ) → largest_by reach vs ≤ k → AreReadable (suc k) vs ts) → IsReadable (suc room) v (ty.Tuple ts)
tuple_reads room v [] ts o g n parts = let f = (level_of v (Value-F.Tuple []) o g).formed in cc
tuple_reads room v (a ∷ []) ts o g n parts = let f = (level_of v (Value-F.Tuple (a ∷ [])) o g).formed in cc
tuple_reads zero v (a ∷ b ∷ vs) ts o g n parts = absurd (let d = reach_of v (Value-F.Tuple (a ∷ b ∷ vs)) zero o n in omega (arith, d))
tuple_reads (suc room) v (a ∷ b ∷ vs) ts o g n parts = by_parts ts (parts room (less _ room (reach_of v (Value-F.Tuple (a ∷ b ∷ vs)) (suc room) o n)))
  where
    by_parts : (us : List Ty) → AreReadable (suc room) (a ∷ b ∷ vs) us → IsReadable (suc (suc room)) v (ty.Tuple us)
    by_parts [] p = elim p [ ]
    by_parts (t ∷ []) (re.and_part h p) = elim p [ ]
    by_parts (t ∷ u ∷ us) (re.and_part h (re.and_part k j)) =
        let c = (between 2 8 (length (a ∷ b ∷ vs)) (left _ _ (level_of v (Value-F.Tuple (a ∷ b ∷ vs)) o g).formed)).1 in
        re.tuple a b vs t u us o (omega arith) (omega (arith, c)) h k j

mutual
  value_reads : {v : Value} {t : Ty} → HasType v t → Good v → (room : ℕ) → reach v ≤ room → IsReadable (suc room) v t
  value_reads {v} (y.unit o e) g room n = subst (IsReadable (suc room) v) (sym e) (re.unit o)
  value_reads {v} (y.bool b o e) g room n = subst (IsReadable (suc room) v) (sym e) (re.bool b o)
  value_reads {v} (y.int z o e) g room n = subst (IsReadable (suc room) v) (sym e) (re.int z o)
  value_reads {v} (y.char c o e) g room n = subst (IsReadable (suc room) v) (sym e) (re.char c o)
  value_reads {v} (y.str s o e) g room n = subst (IsReadable (suc room) v) (sym e) (re.str s o)
  value_reads {v} (y.blob b o e) g room n = subst (IsReadable (suc room) v) (sym e) (re.blob b o)
  value_reads {v} (y.host h o e) g room n = subst (IsReadable (suc room) v) (sym e) (re.host h o)
  value_reads {v} (y.dev d o e) g room n = subst (IsReadable (suc room) v) (sym e) (re.dev d o)
  value_reads {v} (y.list u vs o e h) g room n =
      subst (IsReadable (suc room) v) (sym e) (list_reads room v u vs o g n (λ k d. items_read h (items_good u vs (level_of v (Value-F.List u vs) o g)) k 0 d))
  value_reads {v} (y.tuple vs ts o e h) g room n =
      subst (IsReadable (suc room) v) (sym e) (tuple_reads room v vs ts o g n (λ k d. values_read h (parts_good vs (level_of v (Value-F.Tuple vs) o g)) k 0 d))
  value_reads {v} (y.chunk k o e h) g room n = let l = (level_of v (Value-F.Chunk k) o g).plain in cc

  items_read : {u : Ty} {vs : List Value} → AllHaveType u vs → AllGood vs → (room m : ℕ) → fold (λ k x. max k (reach x)) m vs ≤ room → AreOfType (suc room) vs u
  items_read y.no_items g room m d = re.no_items
  items_read (y.and_item {v = v} {vs = vs} h k) g room m d =
      let w = max_parts m (reach v) room (fold_within reach room vs (max m (reach v)) d) in
      re.and_item (value_reads h (first_good v vs g) room w.1) (items_read k (rest_good v vs g) room (max m (reach v)) d)

  values_read : {vs : List Value} {ts : List Ty} → HaveTypes vs ts → AllGood vs → (room m : ℕ) → fold (λ k x. max k (reach x)) m vs ≤ room → AreReadable (suc room) vs ts
  values_read y.no_values g room m d = re.no_parts
  values_read (y.and_value {v = v} {vs = vs} h k) g room m d =
      let w = max_parts m (reach v) room (fold_within reach room vs (max m (reach v)) d) in
      re.and_part (value_reads h (first_good v vs g) room w.1) (values_read k (rest_good v vs g) room (max m (reach v)) d)

-- ---- arguments

value_back : {v : Value} {t : Ty} → HasType v t → Good v → reach v ≤ 7 → Reads value_of (value_text v) v
value_back {v} {t} h g n =
    let l = lexes_whole (value_part (value_proper h g)) 0 in
    record { tokens = l.0; toks = l.1; read = value_again v t l.0 (length (value_text v)) (value_reads h g 7 n) l.2 }

abbrev shallow : Value → Bool
shallow v = formed_value v && nat_le (value_depth v) 8

arg_back : {vs : List Value} {ts : List Ty} → HaveTypes vs ts → list_all shallow vs ≡ true → list_all value_exact vs ≡ true → (i : ℕ) (v : Value) → slice_get vs i ≡ Some v → IsReadBack v → Reads value_of (value_text v) v
arg_back y.no_values f x i v e b = absurd (cc)
arg_back (y.and_value {v = w} h k) f x zero v e b =
    let same : w ≡ v = cc in
    subst (λ z. IsReadBack z → Reads value_of (value_text z) z) same
    (λ c. value_back h (record { formed = left _ _ (left _ _ f); exact = left _ _ x; plain = c.plain }) c.near) b
arg_back (y.and_value h k) f x (suc i) v e b = arg_back k (right _ _ f) (right _ _ x) i v e b

pub arguments_again : (k : Chunk) → IsCheckedChunk k → list_all value_exact k.args ≡ true → (i : ℕ) (v : Value) → slice_get k.args i ≡ Some v → IsReadBack v → Reads value_of (value_text v) v
unfolding well_formed_chunk
arguments_again k c x = by_typing c.typed
  where
    parts_are_formed : (well_formed_program k.code && (nat_le (length k.args) 8 && list_all shallow k.args)) ≡ true
    parts_are_formed = sym (formed_chunk_is k) ∙ left _ _ c.formed

    by_typing : IsTypedChunk k → (i : ℕ) (v : Value) → slice_get k.args i ≡ Some v → IsReadBack v → Reads value_of (value_text v) v
    by_typing (y.within at d t q s h n w) = arg_back h (right (nat_le (length k.args) 8) _ (right (well_formed_program k.code) _ parts_are_formed)) x
