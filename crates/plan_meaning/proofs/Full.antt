-- Where code is typed, no type of `[]` or `raise` is missing in it.
use Rattle.std.proofs.Common.{◌≡◌, true, List, refl, ap, ◌∙◌}
use Rattle.std.specs.List.{list_all}
use Rattle.plan_base.specs.declared.tree.Ty.{Ty}
use Rattle.plan_base.specs.declared.tree.Value.{Value, out-Value}
use Rattle.plan_base.specs.declared.tree.Chunk.{Chunk}
use Rattle.plan_base.specs.Trees.{ValueLayer}
use Rattle.plan_base.specs.WellFormed.{typed_value_level, program_has_types, value_has_types, chunk_has_types}
use Rattle.plan_base.proofs.FormLaws.{value_has_types_out, chunk_has_types_is}
use Rattle.plan_types_spec.specs.Typing.{HasType, HaveTypes, AllHaveType, IsTypedChunk}
use Rattle.plan_types_spec.specs.Typing as y
use Rattle.checked_chunks.proofs.Whole.{program_whole}
use Rattle.containers.proofs.Bools.{and_both}

holds_all : (v : Value) (l : ValueLayer) → out-Value v ≡ l → typed_value_level value_has_types chunk_has_types l ≡ true → value_has_types v ≡ true
holds_all v l o h = value_has_types_out v ∙ (ap (typed_value_level value_has_types chunk_has_types) o ∙ h)

mutual
  pub full_value : {v : Value} {t : Ty} → HasType v t → value_has_types v ≡ true
  full_value {v} (y.unit o e) = holds_all v _ o refl
  full_value {v} (y.bool b o e) = holds_all v _ o refl
  full_value {v} (y.int n o e) = holds_all v _ o refl
  full_value {v} (y.char n o e) = holds_all v _ o refl
  full_value {v} (y.str s o e) = holds_all v _ o refl
  full_value {v} (y.blob b o e) = holds_all v _ o refl
  full_value {v} (y.host h o e) = holds_all v _ o refl
  full_value {v} (y.dev d o e) = holds_all v _ o refl
  full_value {v} (y.list u vs o e h) = holds_all v _ o (full_items h)
  full_value {v} (y.tuple vs ts o e h) = holds_all v _ o (full_values h)
  full_value {v} (y.chunk k o e h) = holds_all v _ o (full_chunk h)

  pub full_values : {vs : List Value} {ts : List Ty} → HaveTypes vs ts → list_all value_has_types vs ≡ true
  full_values y.no_values = refl
  full_values (y.and_value {v = v} {vs = vs} h k) = and_both (value_has_types v) (list_all value_has_types vs) (full_value h) (full_values k)

  pub full_items : {u : Ty} {vs : List Value} → AllHaveType u vs → list_all value_has_types vs ≡ true
  full_items y.no_items = refl
  full_items (y.and_item {v = v} {vs = vs} h k) = and_both (value_has_types v) (list_all value_has_types vs) (full_value h) (full_items k)

  pub full_chunk : {k : Chunk} → IsTypedChunk k → chunk_has_types k ≡ true
  full_chunk {k} (y.within at d t p g h n w) = chunk_has_types_is k ∙ and_both (program_has_types k.code) (list_all value_has_types k.args) (program_whole k.code t) (full_values h)
