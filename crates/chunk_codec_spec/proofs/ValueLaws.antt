use Rattle.std.proofs.Common.{◌≡◌, ℕ, zero, suc, ◌-◌, ◌<◌, List, [], ◌∷◌, ◌++◌, length, Bool, Some, Ok, refl, sym, ◌∙◌, ap, subst, arith, append-nil}
use Rattle.std.specs.Prelude.{IsTrue}
use Rattle.std.specs.List.{flat_map}
use Rattle.std.specs.Int.{w16, w32, w64, to_be_bytes, cast_unsigned}
use Rattle.std.proofs.lemmas.List.{length-map}
use Rattle.std.proofs.lemmas.Bool.{ltb-true}
use Rattle.containers.specs.Reading.{◌>>=◌}
use Rattle.containers.proofs.Binds.{bind_ok, bind_is}
use Rattle.containers.proofs.Agendas.{chain, one_step}
use Rattle.plan_base.specs.declared.limit.Limit.{Limit}
use denote.Hole.Carrier.{roll, out}
use Rattle.chunk_codec_spec.specs.Steps.{step}
use Rattle.chunk_codec_spec.proofs.Took.{Took, Took-as}
use Rattle.chunk_codec_spec.proofs.FieldLaws.{allowed_ok, allowed_is}
use Rattle.chunk_codec_spec.proofs.LeafLaws.{Table, table_takes, table_again, flag_lawful, int_lawful, word_lawful, char_lawful, text_lawful, blob_lawful, name_lawful}
use Rattle.chunk_codec_spec.proofs.PartLaws.{Lawful, AllLawful, Tag, FormIs, reads_takes, reads_again, reads_go, several_lawful, list_lawful, formed_lawful, opens}
use Rattle.chunk_codec_spec.proofs.TypeLaws.{type_lawful, flat_map-map, no_sum}
use Rattle.plan_base.specs.declared.tree.Value.{Value, Value-F, out-Value, roll-Value, roll-out-Value, map-Value, fold_out-Value}
use Rattle.plan_base.specs.declared.tree.Value.TheVariants as value
use Rattle.plan_base.specs.declared.tree.Chunk.{Chunk, fold-Chunk, fold_out-Chunk}
use Rattle.chunk_codec_spec.specs.declared.tags.ValueTag.{ValueTag}
use Rattle.chunk_codec_spec.specs.declared.tags.TheConstants.{VALUE_TAGS}
use Rattle.chunk_codec_spec.specs.Items.{ChunkItem, a_value, a_chunk, weight_end}
use Rattle.chunk_codec_spec.specs.Scan.{Scan, table_field, tag_of}
use Rattle.chunk_codec_spec.specs.Parts.{Part, Core, Parts, PartValues, AllFit, reads, items_of_parts, bytes_of_parts, nodes_of_parts}
use Rattle.chunk_codec_spec.specs.Fields.{flag_byte, sized_bytes, name_bytes}
use Rattle.chunk_codec_spec.specs.Types.{type_bytes}
use Rattle.chunk_codec_spec.specs.Programs.{program_bytes}
use Rattle.chunk_codec_spec.specs.Values.{value_bytes, value_bytes_level, chunk_bytes, chunk_bytes_level, may_open, value_tag_at, value_forms, value_of_parts, value_parts, value_from, chunk_from}
use Rattle.chunk_codec_spec.specs.Values.{value_within, no_value, no_chunk, values_within, chunk_forms, chunk_of_parts, chunk_parts, light, judged_weight, chunk_at, ChunkFits, chunk_with, value_core}
use Rattle.chunk_codec_spec.specs.Values.{value_part, chunk_part}
use Rattle.chunk_codec_spec.proofs.ProgramLaws.{program_lawful, judged_apart}

-- ---- the bytes of a value are those of its outermost level

value_bytes_step : (f : Value → List ℕ) (g h : Chunk → List ℕ) → ((c : Chunk) → g c ≡ h c) → (x : Value-F Value Chunk)
    → value_bytes_level (λ bs. bs) (λ bs. bs) (map-Value Value Chunk (List ℕ) (List ℕ) f g x) ≡ value_bytes_level f h x
value_bytes_step f g h e (Value-F.Chunk c) = (λ i. 24 ∷ e c i)
value_bytes_step f g h e (Value-F.List t vs) = (λ i. 25 ∷ (type_bytes t ++ (to_be_bytes w16 (length-map vs f i) ++ flat_map-map f vs i)))
value_bytes_step f g h e (Value-F.Tuple vs) = (λ i. 26 ∷ length-map vs f i ∷ flat_map-map f vs i)
value_bytes_step f g h e _ = refl

chunk_bytes_fold : (c : Chunk) → fold-Chunk (List ℕ) (List ℕ) (value_bytes_level (λ bs. bs) (λ bs. bs)) (chunk_bytes_level (λ bs. bs)) c ≡ chunk_bytes c
unfolding value_bytes
chunk_bytes_fold c =
    fold_out-Chunk (List ℕ) (List ℕ) (value_bytes_level (λ bs. bs) (λ bs. bs)) (chunk_bytes_level (λ bs. bs)) c
    ∙ (λ i. program_bytes c.code ++ (name_bytes c.entry ++ (length-map c.args value_bytes i ∷ flat_map-map value_bytes c.args i)))

pub value_bytes_out : (v : Value) → value_bytes v ≡ value_bytes_level value_bytes chunk_bytes (out-Value v)
unfolding value_bytes
value_bytes_out v =
    fold_out-Value (List ℕ) (List ℕ) (value_bytes_level (λ bs. bs) (λ bs. bs)) (chunk_bytes_level (λ bs. bs)) v
    ∙ value_bytes_step value_bytes (fold-Chunk (List ℕ) (List ℕ) (value_bytes_level (λ bs. bs) (λ bs. bs)) (chunk_bytes_level (λ bs. bs))) chunk_bytes chunk_bytes_fold (out-Value v)

-- ---- tags

abbrev value_byte : ValueTag → ℕ
value_byte ValueTag.Unit = 0x10
value_byte ValueTag.Bool = 0x11
value_byte ValueTag.Int = 0x12
value_byte ValueTag.Char = 0x13
value_byte ValueTag.Str = 0x14
value_byte ValueTag.Blob = 0x15
value_byte ValueTag.Host = 0x16
value_byte ValueTag.Dev = 0x17
value_byte ValueTag.Chunk = 0x18
value_byte ValueTag.List = 0x19
value_byte ValueTag.Tuple = 0x1a

value_table_all : (t : ValueTag) → tag_of 0x10 VALUE_TAGS (value_byte t) ≡ Some t
value_table_all ValueTag.Unit = refl
value_table_all ValueTag.Bool = refl
value_table_all ValueTag.Int = refl
value_table_all ValueTag.Char = refl
value_table_all ValueTag.Str = refl
value_table_all ValueTag.Blob = refl
value_table_all ValueTag.Host = refl
value_table_all ValueTag.Dev = refl
value_table_all ValueTag.Chunk = refl
value_table_all ValueTag.List = refl
value_table_all ValueTag.Tuple = refl

value_table : Table 0x10 VALUE_TAGS value_byte
value_table = record { numbered = (refl, (refl, (refl, (refl, (refl, (refl, (refl, (refl, (refl, (refl, (refl, tt))))))))))); all = value_table_all }

value_tag : (nest room : ℕ) → Tag (value_tag_at nest room) (λ tag. IsTrue (may_open nest room tag)) value_byte 0
unfolding value_tag_at
value_tag nest room = record {
  may = λ f g t e.
      let b = bind_ok (table_field 0x10 VALUE_TAGS f) _ _ e in
      let a = allowed_ok _ _ b.first (t, g) b.then_read in
      let P : ValueTag × Scan → Type 0 = λ q. IsTrue (may_open nest room q.0) in
      subst P a.1 a.0;
  takes = λ f g t h k e.
      let b = bind_ok (table_field 0x10 VALUE_TAGS f) _ _ e in
      let a = allowed_ok _ _ b.first (t, g) b.then_read in
      let P : ValueTag × Scan → Type 0 = λ q. Took f (value_byte q.0 ∷ []) 0 q.1 in
      let took : P (t, g) = subst P a.1 (table_takes 0x10 VALUE_TAGS value_byte value_table f b.first.1 b.first.0 h b.read) in
      (took, omega (arith, took.count));
  again = λ f g t a took k. bind_is _ (table_again 0x10 VALUE_TAGS value_byte value_table f g t took) (allowed_is _ _ (t, g) a);
}

-- ---- values, by the chunks that may stand in them

module _ (nest room cnest : ℕ) (core : Core Value) (chunks : Core Chunk) (iroom : ℕ) where
  abbrev deeper : Part Value
  deeper = value_from nest iroom core

  abbrev chunk : Part Chunk
  chunk = chunk_from cnest chunks

  level_is : (x : Value-F Value Chunk) → FormIs value_byte 0 (value_forms deeper chunk) (value_of_parts deeper chunk) (value_parts deeper chunk x) (roll-Value x) (value_bytes_level value_bytes chunk_bytes x) 0
  unfolding roll-Value roll
  level_is (Value-F.Bool b) = (sym (value.rolls-Bool b), (λ j. 17 ∷ (sym (append-nil (flag_byte b ∷ [])) j)), omega arith)
  level_is (Value-F.Int z) = (sym (value.rolls-Int z), (λ j. 18 ∷ (sym (append-nil (to_be_bytes w64 (cast_unsigned w64 z))) j)), omega arith)
  level_is (Value-F.Char c) = (sym (value.rolls-Char c), (λ j. 19 ∷ (sym (append-nil (to_be_bytes w32 c)) j)), omega arith)
  level_is (Value-F.Str s) = (sym (value.rolls-Str s), (λ j. 20 ∷ (sym (append-nil (sized_bytes s)) j)), omega arith)
  level_is (Value-F.Blob s) = (sym (value.rolls-Blob s), (λ j. 21 ∷ (sym (append-nil (sized_bytes s)) j)), omega arith)
  level_is (Value-F.Host h) = (sym (value.rolls-Host h), (λ j. 22 ∷ (sym (append-nil (to_be_bytes w32 h.0)) j)), omega arith)
  level_is (Value-F.Dev d) = (sym (value.rolls-Dev d), (λ j. 23 ∷ (sym (append-nil (to_be_bytes w32 d.0)) j)), omega arith)
  level_is (Value-F.Chunk c) = (sym (value.rolls-Chunk c), (λ j. 24 ∷ (sym (append-nil (chunk_bytes c)) j)), omega arith)
  level_is (Value-F.List t vs) = (sym (value.rolls-List t vs), (λ j. 25 ∷ ((type_bytes t) ++ (sym (append-nil (to_be_bytes w16 (length vs) ++ flat_map value_bytes vs)) j))), (let a = no_sum deeper.nodes (λ _. refl) vs in omega (arith, a)))
  level_is (Value-F.Tuple es) = (sym (value.rolls-Tuple es), (λ j. 26 ∷ (sym (append-nil (length es ∷ flat_map value_bytes es)) j)), (let a = no_sum deeper.nodes (λ _. refl) es in omega (arith, a)))
  level_is _ = (refl, refl, refl)

  is_form : (v : Value) → FormIs value_byte 0 (value_forms deeper chunk) (value_of_parts deeper chunk) (value_parts deeper chunk (out-Value v)) v (value_bytes v) 0
  is_form v =
      let P : Value → Type 0 = λ y. FormIs value_byte 0 (value_forms deeper chunk) (value_of_parts deeper chunk) (value_parts deeper chunk (out-Value v)) y (value_bytes_level value_bytes chunk_bytes (out-Value v)) 0 in
      let Q : List ℕ → Type 0 = λ bs. FormIs value_byte 0 (value_forms deeper chunk) (value_of_parts deeper chunk) (value_parts deeper chunk (out-Value v)) v bs 0 in
      subst Q (sym (value_bytes_out v)) (subst P (roll-out-Value v) (level_is (out-Value v)))

  form_is : (tag : ValueTag) (xs : PartValues (value_forms deeper chunk tag)) → value_parts deeper chunk (out-Value (value_of_parts deeper chunk tag xs)) ≡ Some (tag, xs)
  unfolding out-Value out
  form_is ValueTag.Bool xs = ap (value_parts deeper chunk) (value.outs-Bool xs.0)
  form_is ValueTag.Int xs = ap (value_parts deeper chunk) (value.outs-Int xs.0)
  form_is ValueTag.Char xs = ap (value_parts deeper chunk) (value.outs-Char xs.0)
  form_is ValueTag.Str xs = ap (value_parts deeper chunk) (value.outs-Str xs.0)
  form_is ValueTag.Blob xs = ap (value_parts deeper chunk) (value.outs-Blob xs.0)
  form_is ValueTag.Host xs = ap (value_parts deeper chunk) (value.outs-Host (record { 0 = xs.0 }))
  form_is ValueTag.Dev xs = ap (value_parts deeper chunk) (value.outs-Dev (record { 0 = xs.0 }))
  form_is ValueTag.Chunk xs = ap (value_parts deeper chunk) (value.outs-Chunk xs.0)
  form_is ValueTag.List xs = ap (value_parts deeper chunk) (value.outs-List xs.0 xs.1.0)
  form_is ValueTag.Tuple xs = ap (value_parts deeper chunk) (value.outs-Tuple xs.0)
  form_is _ xs = refl

  all_lawful : (tag : ValueTag) → IsTrue (may_open nest room tag) → (0 < nest → Lawful chunk) → (0 < room → Lawful deeper) → AllLawful (value_forms deeper chunk tag)
  all_lawful ValueTag.Unit a c k = tt
  all_lawful ValueTag.Bool a c k = (flag_lawful, tt)
  all_lawful ValueTag.Int a c k = (int_lawful, tt)
  all_lawful ValueTag.Char a c k = (char_lawful, tt)
  all_lawful ValueTag.Str a c k = (text_lawful, tt)
  all_lawful ValueTag.Blob a c k = (blob_lawful, tt)
  all_lawful ValueTag.Host a c k = (word_lawful, tt)
  all_lawful ValueTag.Dev a c k = (word_lawful, tt)
  all_lawful ValueTag.Chunk a c k = (c (ltb-true 0 nest a), tt)
  all_lawful ValueTag.List a c k = (type_lawful 7, (list_lawful deeper (k (ltb-true 0 room a)), tt))
  all_lawful ValueTag.Tuple a c k = (several_lawful Limit.Parts 2 8 deeper (k (ltb-true 0 room a)), tt)

  pub within_lawful : (0 < nest → Lawful chunk) → (0 < room → Lawful deeper)
      → ((more : List ChunkItem) (f : Scan) → step (a_value nest room) more f ≡ (value_tag_at nest room f >>= λ t. Ok (items_of_parts (value_forms deeper chunk t.0) more, t.1)))
      → Lawful (value_from nest room (value_within nest room chunk deeper))
  within_lawful c k steps =
      formed_lawful (a_value nest room) (value_tag_at nest room) (λ tag. IsTrue (may_open nest room tag)) value_byte 0 (value_forms deeper chunk) (value_of_parts deeper chunk)
      (λ v. value_parts deeper chunk (out-Value v)) value_bytes (λ _. 0) (value_tag nest room) (λ tag a. all_lawful tag a c k) is_form form_is steps

-- ---- chunks, by their arguments

module _ (nest : ℕ) (lawful : Lawful (value_part nest 8)) where
  abbrev argument : Part Value
  argument = value_part nest 8

  parts_lawful : AllLawful (chunk_forms argument)
  parts_lawful = (program_lawful, (name_lawful, (several_lawful Limit.Arguments 0 8 argument lawful, tt)))

  chunk_bytes_is : (c : Chunk) → chunk_bytes c ≡ bytes_of_parts (chunk_forms argument) (chunk_parts argument c)
  chunk_bytes_is c = (λ i. program_bytes c.code ++ (name_bytes c.entry ++ sym (append-nil (length c.args ∷ flat_map value_bytes c.args)) i))

  chunk_nodes_is : (c : Chunk) → nodes_of_parts (chunk_forms argument) (chunk_parts argument c) ≡ 0
  chunk_nodes_is c = let a = no_sum argument.nodes (λ _. refl) c.args in omega (arith, a)

  pub chunk_lawful : Lawful (chunk_from nest (chunk_with nest argument))
  unfolding chunk_at
  chunk_lawful = record {
    takes = λ f g x h k e.
        let b = bind_ok (reads (chunk_forms argument) (chunk_of_parts argument) f) _ _ e in
        let p = b.first in
        let r = reads_takes (chunk_forms argument) parts_lawful (chunk_of_parts argument) f p.1 p.0 h k b.read in
        let own : chunk_parts argument p.0 ≡ r.held = ap (chunk_parts argument) r.is in
        let P : PartValues (chunk_forms argument) → Type 0 = λ xs. Took f (bytes_of_parts (chunk_forms argument) xs) (nodes_of_parts (chunk_forms argument) xs) p.1 × AllFit (chunk_forms argument) xs in
        let q : P (chunk_parts argument p.0) = subst P (sym own) (r.all.took, r.all.fit) in
        let t : Took f (chunk_bytes p.0) 0 p.1 = Took-as (sym (chunk_bytes_is p.0)) (chunk_nodes_is p.0) q.0 in
        let a = allowed_ok _ _ p (x, g) b.then_read in
        let size : p.1.front.at - f.front.at ≡ length (chunk_bytes p.0) = omega (arith, t.place) in
        let W : ℕ → Type 0 = λ n. IsTrue (light nest n) in
        let fits : ChunkFits nest argument p.0 = record { parts = q.1; weighs = subst W size a.0 } in
        let R : Chunk × Scan → Type 0 = λ u. Took f (chunk_bytes u.0) 0 u.1 × ChunkFits nest argument u.0 in
        let all : R (x, g) = subst R a.1 (t, fits) in
        record { took = all.0; fits = all.1; within = omega (arith, all.0.count) };
    again = λ f g x fits t k.
        let v = Took-as (chunk_bytes_is x) (sym (chunk_nodes_is x)) t in
        let size : g.front.at - f.front.at ≡ length (chunk_bytes x) = omega (arith, t.place) in
        let W : ℕ → Type 0 = λ n. IsTrue (light nest n) in
        bind_is _ (reads_again (chunk_forms argument) parts_lawful (chunk_of_parts argument) f g (chunk_parts argument x) fits.parts v k)
        (allowed_is _ _ (x, g) (subst W (sym size) fits.weighs));
    goes = λ more f.
        opens (a_chunk nest) more (items_of_parts (chunk_forms argument) (weight_end nest f.front.at ∷ more)) f f
        (λ s. reads (chunk_forms argument) (chunk_of_parts argument) s >>= λ p. judged_weight nest f.front.at p) refl
        (chain step (items_of_parts (chunk_forms argument) (weight_end nest f.front.at ∷ more)) f (λ _. weight_end nest f.front.at ∷ more) (λ _. more)
        (reads (chunk_forms argument) (chunk_of_parts argument) f) _ (reads_go (chunk_forms argument) parts_lawful (chunk_of_parts argument) (weight_end nest f.front.at ∷ more) f)
        (λ p _. one_step step (weight_end nest f.front.at) more p.1 (λ _. more) (judged_weight nest f.front.at p) (judged_apart _ _ more p.0 p.1)));
  }

-- a value and a chunk are read exactly where they are spelled, else their first fault is the answer
pub value_lawful : (nest room : ℕ) → Lawful (value_part nest room)
unfolding value_core values_within
value_lawful zero zero = within_lawful 0 0 0 no_value no_chunk 0 (λ a. absurd (omega (arith, a))) (λ a. absurd (omega (arith, a))) (λ more f. refl)
value_lawful zero (suc room) = within_lawful 0 (suc room) 0 (value_core 0 room) no_chunk room (λ a. absurd (omega (arith, a))) (λ _. value_lawful zero room) (λ more f. refl)
value_lawful (suc nest) zero =
    within_lawful (suc nest) 0 nest no_value (chunk_with nest (value_part nest 8)) 0 (λ _. chunk_lawful nest (value_lawful nest 8)) (λ a. absurd (omega (arith, a))) (λ more f. refl)
value_lawful (suc nest) (suc room) =
    within_lawful (suc nest) (suc room) nest (value_core (suc nest) room) (chunk_with nest (value_part nest 8)) room (λ _. chunk_lawful nest (value_lawful nest 8)) (λ _. value_lawful (suc nest) room) (λ more f. refl)

pub chunk_part_lawful : (nest : ℕ) → Lawful (chunk_part nest)
chunk_part_lawful nest = chunk_lawful nest (value_lawful nest 8)
