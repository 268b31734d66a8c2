-- The chunk that reports to a handler is a checked one.
use Rattle.std.proofs.Common.{◌≡◌, ℕ, ◌+◌, ◌<◌, ◌≤◌, Bool, true, ◌&&◌, List, [], ◌∷◌, length, Option, Some, None, refl, sym, ap, ◌∙◌, arith}
use Rattle.std.specs.Prelude.{nat_le, slice_get, IsTrue}
use Rattle.std.specs.List.{list_all}
use Rattle.std.specs.Str.{is_utf8}
use Rattle.std.specs.Option.{option_and_then}
use Rattle.std.specs.Char.{is_ascii_alphabetic}
use Rattle.std.proofs.lemmas.Bool.Decides.{nat_tests}
use Rattle.std.proofs.lemmas.Bool.{le-leb}
use Rattle.std.proofs.lemmas.List.Sums.{sum_by-cons}
use Rattle.containers.proofs.Bools.{both_true}
use Rattle.plan_base.specs.declared.name.Name.{Name}
use Rattle.plan_base.specs.declared.tree.Ty.{Ty, Ty-F, out-Ty}
use Rattle.plan_base.specs.declared.tree.Ty.TheVariants as ty
use Rattle.plan_base.specs.declared.tree.Param.{Param}
use Rattle.plan_base.specs.declared.tree.Fun.{Fun}
use Rattle.plan_base.specs.declared.tree.Program.{Program}
use Rattle.plan_base.specs.declared.tree.Value.{Value}
use Rattle.plan_base.specs.declared.tree.Value.TheVariants as value
use Rattle.plan_base.specs.declared.tree.Chunk.{Chunk}
use Rattle.plan_base.specs.Words.{is_word_byte, is_word, is_name, IsName}
use Rattle.std.specs.Str.{IsAscii}
use Rattle.std.proofs.lemmas.Str.{IsUtf8-from_ascii, is_utf8-from_IsUtf8}
use Rattle.std.proofs.lemmas.Str.Ascii.{IsAscii-nil, IsAscii-cons}
use Rattle.plan_base.specs.Sizes.{code_size, weight, weight_level, chunk_weight, nesting, nesting_level, chunk_nesting, value_depth, value_depth_level}
use Rattle.plan_base.specs.WellFormed.{well_formed_text, well_formed_program, formed_value, formed_value_level, formed_chunk, well_formed_chunk, program_has_types, value_has_types, typed_value_level, chunk_has_types}
use Rattle.plan_types_spec.specs.Typing.{str, HaveTypes, no_values, and_value, IsTypedChunk, within}
use Rattle.plan_types_spec.specs.TypingNames.{place_of, param_types}
use Rattle.plan_base.proofs.SizeLaws.{weight_out, nesting_out, value_depth_out, chunk_weight_is, chunk_nesting_is}
use Rattle.plan_base.proofs.FormLaws.{formed_value_out, value_has_types_out}
use Rattle.plan_base.proofs.SameTypes.{out_same}
use Rattle.plan_base.proofs.WordLaws.{is_name_within}
use Rattle.checked_chunks.specs.Kept.{IsCheckedChunk}
use Rattle.plan_types_spec.specs.Handlers.{is_string, is_one_string, handles, is_handler}
use Rattle.plan_eval_settle.specs.Settles.{handler_chunk}

-- ---- the one argument

module _ (s : List ℕ) where
  abbrev text : Value
  text = value.Str s

  text_weighs : weight text ≡ 3 + length s
  text_weighs = weight_out text ∙ ap (λ l. weight_level weight chunk_weight l) (value.outs-Str s)

  text_nests : nesting text ≡ 0
  text_nests = nesting_out text ∙ ap (λ l. nesting_level nesting chunk_nesting l) (value.outs-Str s)

  text_valid : is_utf8 s ≡ true → length s ≤ 32 → well_formed_text s ≡ true
  unfolding well_formed_text
  text_valid u short = ap (λ b. b && nat_le (length s) 65535) u ∙ le-leb (length s) 65535 (omega arith)

  text_formed : is_utf8 s ≡ true → length s ≤ 32 → formed_value text ≡ true
  text_formed u short = formed_value_out text ∙ (ap (λ l. formed_value_level formed_value formed_chunk l) (value.outs-Str s) ∙ text_valid u short)

  text_deep : value_depth text ≡ 0
  text_deep = value_depth_out text ∙ ap (λ l. value_depth_level value_depth l) (value.outs-Str s)

  text_full : value_has_types text ≡ true
  text_full = value_has_types_out text ∙ ap (λ l. typed_value_level value_has_types chunk_has_types l) (value.outs-Str s)

-- ---- the function

string_is : (t : Ty) (l : Ty-F Ty) → out-Ty t ≡ l → is_string l ≡ true → t ≡ ty.Str
string_is t Ty-F.Str o h = out_same t ty.Str (o ∙ sym ty.outs-Str)
string_is t Ty-F.Unit o h = cc
string_is t Ty-F.Bool o h = cc
string_is t Ty-F.Int o h = cc
string_is t Ty-F.Char o h = cc
string_is t Ty-F.Blob o h = cc
string_is t Ty-F.Host o h = cc
string_is t Ty-F.Dev o h = cc
string_is t Ty-F.Chunk o h = cc
string_is t (Ty-F.List u) o h = cc
string_is t (Ty-F.Tuple ts) o h = cc

one_string : (ps : List Param) (s : List ℕ) → is_one_string ps ≡ true → HaveTypes (value.Str s ∷ []) (param_types ps)
one_string [] s h = cc
one_string (p ∷ []) s h = and_value (str s (value.outs-Str s) (string_is p.ty (out-Ty p.ty) refl h)) no_values
one_string (p ∷ q ∷ ps) s h = cc

-- the place of a function that handles
record Handling (code : Program) (n : Name) (s : List ℕ) : Type 0 where
  at : ℕ
  d : Fun
  place : place_of n code.funs ≡ Some at
  get : slice_get code.funs at ≡ Some d
  types : HaveTypes (value.Str s ∷ []) (param_types d.params)

handling : (code : Program) (n : Name) (s : List ℕ) → is_handler code n ≡ true → Handling code n s
unfolding is_handler
handling code n s h = by (place_of n code.funs) refl h
  where
    there : (at : ℕ) → place_of n code.funs ≡ Some at → (o : Option Fun) → slice_get code.funs at ≡ o → handles o ≡ true → Handling code n s
    there at p None g k = cc
    there at p (Some d) g k = record { at = at; d = d; place = p; get = g; types = one_string d.params s (both_true (is_one_string d.params) _ k).0 }

    by : (o : Option ℕ) → place_of n code.funs ≡ o → handles (option_and_then (slice_get code.funs) o) ≡ true → Handling code n s
    by None p k = cc
    by (Some at) p k = there at p (slice_get code.funs at) refl k

byte_ascii : (b : ℕ) → is_word_byte b ≡ true → b < 128
byte_ascii b h = grind (arith, nat_tests)

letter_ascii : (b : ℕ) → is_ascii_alphabetic b ≡ true → b < 128
letter_ascii b h = grind (arith, nat_tests)

word_ascii : (bs : List ℕ) → list_all is_word_byte bs ≡ true → IsAscii bs
word_ascii [] h = IsAscii-nil
word_ascii (b ∷ bs) h = let p = both_true (is_word_byte b) _ h in IsAscii-cons b bs (byte_ascii b p.0) (word_ascii bs p.1)

pub name_utf8 : (n : List ℕ) → IsName n → is_utf8 n ≡ true
unfolding is_name is_word
name_utf8 n h = is_utf8-from_IsUtf8 n (IsUtf8-from_ascii n (ascii n (both_true (is_word n) _ h).0))
  where
    ascii : (m : List ℕ) → is_word m ≡ true → IsAscii m
    ascii [] e = cc
    ascii (b ∷ bs) e = let p = both_true (is_ascii_alphabetic b) _ e in IsAscii-cons b bs (letter_ascii b p.0) (word_ascii bs p.1)

module _ (c : Chunk) (n : Name) (s : List ℕ) where
  told_nests : chunk_nesting (handler_chunk c n s) ≤ 4
  told_nests = grind (arith, chunk_nesting_is (handler_chunk c n s), text_nests s)

  told_weighs : code_size c.code ≤ 16000 → IsName n → length s ≤ 32 → 1 + chunk_weight (handler_chunk c n s) ≤ 16384
  told_weighs t w short = omega (arith, t, is_name_within n w, chunk_weight_is (handler_chunk c n s), text_weighs s, sum_by-cons weight (value.Str s) [], short)

  pub told_formed : IsTrue (well_formed_chunk c) → is_utf8 s ≡ true → length s ≤ 32 → IsTrue (well_formed_chunk (handler_chunk c n s))
  unfolding well_formed_chunk formed_chunk
  told_formed k u short =
      let program : well_formed_program c.code ≡ true = (both_true (well_formed_program c.code) _ (both_true _ _ k).0).0 in
      let deep : nat_le (value_depth (value.Str s)) 8 ≡ true = le-leb (value_depth (value.Str s)) 8 (omega (arith, text_deep s)) in
      let nests : nat_le (nesting (value.Str s)) 3 ≡ true = le-leb (nesting (value.Str s)) 3 (omega (arith, text_nests s)) in
      λ i. (program i && (true && ((text_formed s u short i && deep i) && true))) && (nests i && true)

  told_full : IsTrue (chunk_has_types c) → IsTrue (chunk_has_types (handler_chunk c n s))
  unfolding chunk_has_types
  told_full k = let full : program_has_types c.code ≡ true = (both_true (program_has_types c.code) _ k).0 in λ i. full i && (text_full s i && true)

  pub told_typed : IsName n → is_handler c.code n ≡ true → length s ≤ 32 → IsTypedChunk c → IsTypedChunk (handler_chunk c n s)
  told_typed w h short (within at d t p g v z q) = let f = handling c.code n s h in within f.at f.d t f.place f.get f.types told_nests (told_weighs t.small w short)

  -- the chunk that reports to a handler of a checked chunk's code is checked
  pub handler_checked : IsCheckedChunk c → IsName n → is_handler c.code n ≡ true → is_utf8 s ≡ true → length s ≤ 32 → IsCheckedChunk (handler_chunk c n s)
  handler_checked k w h u short = record { typed = told_typed w h short k.typed; formed = told_formed k.formed u short; full = told_full k.full }
