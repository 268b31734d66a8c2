use Rattle.std.proofs.Common.{◌≡◌, ℕ, zero, suc, ◌+◌, ◌-◌, ◌^◌, ◌<◌, ◌≤◌, List, [], ◌∷◌, ◌++◌, length, Bool, true, false, Some, None, Ok, refl, sym, ◌∙◌, ap, subst, arith}
use Rattle.std.specs.Prelude.{nat_lt, if◌then◌else◌, slice_get}
use Rattle.std.specs.Int.{w8, w16, w32, to_be_bytes}
use Rattle.std.specs.Char.{IsScalar}
use Rattle.std.specs.Str.{IsUtf8}
use Rattle.std.proofs.lemmas.Str.{IsUtf8-from_is_utf8, is_utf8-from_IsUtf8}
use Rattle.std.proofs.lemmas.Bool.{ltb-false}
use Rattle.wire_bytes.specs.Fields.{IsBytes}
use Rattle.containers.proofs.Binds.{some_inj, bind_ok, bind_is}
use Rattle.containers.proofs.Agendas.{one_step}
use Rattle.chunk_codec_spec.specs.Items.{a_flag, an_int, a_word, a_char, a_text, a_blob, a_name, an_operator, a_part_number}
use Rattle.chunk_codec_spec.specs.Scan.{Scan, number_field, int_field, bytes_field, flag_field, char_field, text_field, blob_field, table_field, tag_of, flags, allowed_or_fault, name_field, operator_field, count_field}
use Rattle.chunk_codec_spec.specs.Fields.{flag_byte, flag_part, int_part, word_part, char_part, text_part, blob_part, name_part, op_byte, op_part, part_number_part}
use Rattle.chunk_codec_spec.specs.Steps.{step}
use Rattle.chunk_codec_spec.proofs.Took.{Took, Took-then, Took-first, Took-second, Took-as, between}
use Rattle.chunk_codec_spec.proofs.FieldLaws.{byte_takes, byte_again, number_takes, number_again, wide16, wide32, int_takes, int_again, bytes_takes, bytes_again, known_ok, known_is, allowed_ok, allowed_is}
use Rattle.chunk_codec_spec.proofs.PartLaws.{Lawful, count_takes, count_again}
use Rattle.chunk_codec_spec.specs.declared.tags.TheConstants.{OPERATORS}
use Rattle.plan_base.specs.declared.limit.Limit.{Limit}
use Rattle.plan_base.specs.declared.tree.Op.{Op}
use Rattle.plan_base.specs.Words.{is_word, is_name}
use Rattle.std.specs.Prelude.{nat_le}
use Rattle.std.proofs.lemmas.Bool.{leb-true, le-leb}
use Rattle.containers.proofs.Bools.{both_true}
use Rattle.chunk_codec_spec.specs.declared.fault.SpellFault.TheVariants.{BadName}

-- ---- tables

-- the items of a table have the numbers from base on
abbrev pub Numbered : {T : Type 0} → (T → ℕ) → ℕ → List T → Type 0
Numbered byte base [] = Unit {0}
Numbered byte base (t ∷ ts) = (byte t ≡ base) × Numbered byte (suc base) ts

pub record Table {T : Type 0} (base : ℕ) (tags : List T) (byte : T → ℕ) : Type 0 where
  pub numbered : Numbered byte base tags
  pub all : (t : T) → tag_of base tags (byte t) ≡ Some t

at_number : {T : Type 0} (byte : T → ℕ) (base : ℕ) (ts : List T) (i : ℕ) (t : T) → Numbered byte base ts → slice_get ts i ≡ Some t → byte t ≡ base + i
at_number byte base [] i t n e = cc
at_number byte base (u ∷ ts) zero t n e = ap byte (sym (some_inj e)) ∙ n.0 ∙ omega arith
at_number byte base (u ∷ ts) (suc i) t n e = let k = at_number byte (suc base) ts i t n.1 e in omega (arith, k)

tag_is : {T : Type 0} (byte : T → ℕ) (base : ℕ) (ts : List T) (b : ℕ) (t : T) → Numbered byte base ts → tag_of base ts b ≡ Some t → b ≡ byte t
tag_is {T} byte base ts b t n e = by_test (nat_lt b base) refl e
  where
    by_test : (c : Bool) → nat_lt b base ≡ c → (if c then None else slice_get ts (b - base)) ≡ Some t → b ≡ byte t
    by_test true q h = cc
    by_test false q h = let k = at_number byte base ts (b - base) t n h in let l = ltb-false b base q in omega (arith, k, l)

pub table_takes : {T : Type 0} (base : ℕ) (tags : List T) (byte : T → ℕ) → Table base tags byte → (f g : Scan) (t : T) → IsBytes f.front.rest
    → table_field base tags f ≡ Ok (t, g) → Took f (byte t ∷ []) 0 g
unfolding table_field
table_takes base tags byte table f g t h e =
    let b = bind_ok (number_field w8 f) _ _ e in
    let q = known_ok _ _ _ _ _ b.then_read in
    let took = byte_takes f b.first.1 b.first.0 h b.read in
    let same : b.first.0 ≡ byte t = tag_is byte base tags b.first.0 t table.numbered q.0 in
    let P : Scan → Type 0 = λ s. Took f (byte t ∷ []) 0 s in
    subst P q.1 (Took-as (ap (λ n. n ∷ []) same) refl took.0)

pub table_again : {T : Type 0} (base : ℕ) (tags : List T) (byte : T → ℕ) → Table base tags byte → (f g : Scan) (t : T) → Took f (byte t ∷ []) 0 g
    → table_field base tags f ≡ Ok (t, g)
unfolding table_field
table_again base tags byte table f g t took = bind_is _ (byte_again f g (byte t) took) (known_is _ _ g t (table.all t))

-- ---- the fields that are parts

flag_of : (b : Bool) → tag_of 0 flags (flag_byte b) ≡ Some b
flag_of false = refl
flag_of true = refl

pub flag_table : Table 0 flags flag_byte
flag_table = record { numbered = (refl, (refl, tt)); all = flag_of }

pub flag_lawful : Lawful flag_part
unfolding flag_field
flag_lawful = record {
  takes = λ f g x h k e. let t = table_takes 0 flags flag_byte flag_table f g x h e in record { took = t; fits = tt; within = omega (arith, t.count) };
  again = λ f g x h t k. table_again 0 flags flag_byte flag_table f g x t;
  goes = λ more f. one_step step a_flag more f (λ _. more) (flag_field f) refl;
}

pub int_lawful : Lawful int_part
int_lawful = record {
  takes = λ f g x h k e. let t = int_takes f g x h e in record { took = t.0; fits = t.1; within = omega (arith, t.0.count) };
  again = λ f g x h t k. int_again f g x h t;
  goes = λ more f. one_step step an_int more f (λ _. more) (int_field f) refl;
}

pub word_lawful : Lawful word_part
word_lawful = record {
  takes = λ f g x h k e. let t = number_takes w32 wide32 f g x h e in record { took = t.0; fits = t.1; within = omega (arith, t.0.count) };
  again = λ f g x h t k. number_again w32 wide32 f g x h t;
  goes = λ more f. one_step step a_word more f (λ _. more) (number_field w32 f) refl;
}

pub char_lawful : Lawful char_part
unfolding char_field
char_lawful = record {
  takes = λ f g x h k e.
      let b = bind_ok (number_field w32 f) _ _ e in
      let a = allowed_ok _ _ b.first (x, g) b.then_read in
      let t = number_takes w32 wide32 f b.first.1 b.first.0 h b.read in
      let P : ℕ × Scan → Type 0 = λ q. Took f (to_be_bytes w32 q.0) 0 q.1 × (q.0 < 2 ^ 32) in
      let u : P (x, g) = subst P a.1 t in
      let Q : ℕ × Scan → Type 0 = λ q. IsScalar q.0 in
      record { took = u.0; fits = (subst Q a.1 a.0, u.1); within = omega (arith, u.0.count) };
  again = λ f g x h t k. bind_is _ (number_again w32 wide32 f g x h.1 t) (allowed_is _ _ (x, g) h.0);
  goes = λ more f. one_step step a_char more f (λ _. more) (char_field f) refl;
}

-- a length, and so many bytes
sized_takes : (f m g : Scan) (n : ℕ) (bs : List ℕ) → IsBytes f.front.rest → number_field w16 f ≡ Ok (n, m) → bytes_field n m ≡ Ok (bs, g)
    → Took f (to_be_bytes w16 (length bs) ++ bs) 0 g × (length bs < 2 ^ 16)
sized_takes f m g n bs h e k =
    let t = number_takes w16 wide16 f m n h e in
    let u = bytes_takes n m g bs k in
    let P : ℕ → Type 0 = λ l. l < 2 ^ 16 in
    (Took-as (ap (λ l. to_be_bytes w16 l ++ bs) (sym u.1)) refl (Took-then t.0 u.0), subst P (sym u.1) t.1)

pub blob_lawful : Lawful blob_part
unfolding blob_field
blob_lawful = record {
  takes = λ f g x h k e.
      let b = bind_ok (number_field w16 f) _ _ e in
      let t = sized_takes f b.first.1 g b.first.0 x h b.read b.then_read in
      record { took = t.0; fits = t.1; within = omega (arith, t.0.count) };
  again = λ f g x h t k.
      let bs = to_be_bytes w16 (length x) in
      let u : Took f (bs ++ x) (0 + 0) g = t in
      let m = between f bs x 0 g in
      bind_is _ (number_again w16 wide16 f m (length x) h (Took-first f g bs x 0 0 u)) (bytes_again m g x (Took-second f g bs x 0 0 u));
  goes = λ more f. one_step step a_blob more f (λ _. more) (blob_field f) refl;
}

pub text_lawful : Lawful text_part
unfolding text_field
text_lawful = record {
  takes = λ f g x h k e.
      let b = bind_ok (number_field w16 f) _ _ e in
      let c = bind_ok (bytes_field b.first.0 b.first.1) _ _ b.then_read in
      let a = allowed_ok _ _ c.first (x, g) c.then_read in
      let t = sized_takes f b.first.1 c.first.1 b.first.0 c.first.0 h b.read c.read in
      let P : List ℕ × Scan → Type 0 = λ q. Took f (to_be_bytes w16 (length q.0) ++ q.0) 0 q.1 × (length q.0 < 2 ^ 16) in
      let u : P (x, g) = subst P a.1 t in
      let Q : List ℕ × Scan → Type 0 = λ q. IsUtf8 q.0 in
      record { took = u.0; fits = (subst Q a.1 (IsUtf8-from_is_utf8 c.first.0 a.0), u.1); within = omega (arith, u.0.count) };
  again = λ f g x h t k.
      let bs = to_be_bytes w16 (length x) in
      let u : Took f (bs ++ x) (0 + 0) g = t in
      let m = between f bs x 0 g in
      bind_is _ (number_again w16 wide16 f m (length x) h.1 (Took-first f g bs x 0 0 u))
      (bind_is _ (bytes_again m g x (Took-second f g bs x 0 0 u)) (allowed_is _ _ (x, g) (is_utf8-from_IsUtf8 x h.0)));
  goes = λ more f. one_step step a_text more f (λ _. more) (text_field f) refl;
}

word_long : (w : List ℕ) → is_word w ≡ true → 1 ≤ length w
unfolding is_word
word_long [] h = cc
word_long (b ∷ bs) h = omega arith

name_long : (w : List ℕ) → is_name w ≡ true → (1 ≤ length w) × (length w ≤ 32)
unfolding is_name
name_long w h =
    let a = both_true (is_word w) _ h in
    let b = both_true (nat_le (length w) 32) _ a.1 in
    (word_long w a.0, leb-true (length w) 32 b.0)

pub name_lawful : Lawful name_part
unfolding name_field
name_lawful = record {
  takes = λ f g x h k e.
      let b = bind_ok (number_field w8 f) _ _ e in
      let c = bind_ok (allowed_or_fault (nat_le 1 b.first.0) (BadName f.front.at) b.first) _ _ b.then_read in
      let d = bind_ok (allowed_or_fault (nat_le c.first.0 32) (BadName f.front.at) c.first) _ _ c.then_read in
      let r = bind_ok (bytes_field d.first.0 d.first.1) _ _ d.then_read in
      let low = allowed_ok _ _ b.first c.first c.read in
      let high = allowed_ok _ _ c.first d.first d.read in
      let word = allowed_ok _ _ r.first (x, g) r.then_read in
      let one = byte_takes f b.first.1 b.first.0 h b.read in
      let P : ℕ × Scan → Type 0 = λ q. Took f (q.0 ∷ []) 0 q.1 in
      let start : P d.first = subst P (low.1 ∙ high.1) one.0 in
      let t = bytes_takes d.first.0 d.first.1 r.first.1 r.first.0 r.read in
      let both : Took f (length r.first.0 ∷ r.first.0) 0 r.first.1 = Took-as (ap (λ n. n ∷ r.first.0) (sym t.1)) refl (Took-then start t.0) in
      let Q : List ℕ × Scan → Type 0 = λ q. Took f (length q.0 ∷ q.0) 0 q.1 × (is_name q.0 ≡ true) in
      let u : Q (x, g) = subst Q word.1 (both, word.0) in
      record { took = u.0; fits = u.1; within = omega (arith, u.0.count) };
  again = λ f g x fits t k.
      let long = name_long x fits in
      let bs = length x ∷ [] in
      let u : Took f (bs ++ x) (0 + 0) g = t in
      let m = between f bs x 0 g in
      bind_is _ (byte_again f m (length x) (Took-first f g bs x 0 0 u))
      (bind_is _ (allowed_is _ _ (length x, m) (le-leb 1 (length x) long.0))
      (bind_is _ (allowed_is _ _ (length x, m) (le-leb (length x) 32 long.1))
      (bind_is _ (bytes_again m g x (Took-second f g bs x 0 0 u)) (allowed_is _ _ (x, g) fits))));
  goes = λ more f. one_step step a_name more f (λ _. more) (name_field f) refl;
}

op_table_all : (o : Op) → tag_of 0 OPERATORS (op_byte o) ≡ Some o
op_table_all Op.Add = refl
op_table_all Op.Sub = refl
op_table_all Op.Mul = refl
op_table_all Op.Div = refl
op_table_all Op.Mod = refl
op_table_all Op.Cat = refl
op_table_all Op.Eq = refl
op_table_all Op.Ne = refl
op_table_all Op.Lt = refl
op_table_all Op.Le = refl
op_table_all Op.Gt = refl
op_table_all Op.Ge = refl
op_table_all Op.Cons = refl

op_table : Table 0 OPERATORS op_byte
op_table = record { numbered = (refl, (refl, (refl, (refl, (refl, (refl, (refl, (refl, (refl, (refl, (refl, (refl, (refl, tt))))))))))))); all = op_table_all }

pub op_lawful : Lawful op_part
unfolding operator_field
op_lawful = record {
  takes = λ f g x h k e. let t = table_takes 0 OPERATORS op_byte op_table f g x h e in record { took = t; fits = tt; within = omega (arith, t.count) };
  again = λ f g x h t k. table_again 0 OPERATORS op_byte op_table f g x t;
  goes = λ more f. one_step step an_operator more f (λ _. more) (operator_field f) refl;
}

pub part_number_lawful : Lawful part_number_part
part_number_lawful = record {
  takes = λ f g x h k e. let t = count_takes Limit.Parts 1 8 f g x h e in record { took = t.0; fits = (t.1, t.2); within = omega (arith, t.0.count) };
  again = λ f g x h t k. count_again Limit.Parts 1 8 f g x h.0 h.1 t;
  goes = λ more f. one_step step a_part_number more f (λ _. more) (count_field Limit.Parts 1 8 f) refl;
}
