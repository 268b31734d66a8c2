-- The agenda of a reading, and its first fault.
use Rattle.std.specs.Prelude.{ℕ, zero, suc, List, ◌∷◌, Result, Ok}
use Rattle.std.specs.Int.{w16, w32}
use Rattle.containers.specs.Reading.{◌>>=◌}
use Rattle.containers.specs.Agenda.{times}
use Rattle.plan_base.specs.declared.limit.Limit.{Limit}
use Rattle.chunk_codec_spec.specs.declared.fault.SpellFault.{SpellFault}
use Rattle.chunk_codec_spec.specs.Items.{ChunkItem, a_flag, an_int, a_word, a_char, a_text, a_blob, a_name, an_operator, a_part_number}
use Rattle.chunk_codec_spec.specs.Items.{a_type, an_expr, several_clauses, a_clause, a_parameter, a_service, a_function, a_program}
use Rattle.chunk_codec_spec.specs.Items.{code_end, a_value, a_chunk, weight_end, counted, listed}
use Rattle.chunk_codec_spec.specs.Scan.{Scan, number_field, int_field, flag_field, char_field, text_field, blob_field, name_field, operator_field, count_field}
use Rattle.chunk_codec_spec.specs.Parts.{items_of_parts}
use Rattle.chunk_codec_spec.specs.Types.{type_inner, type_tag_at, type_forms}
use Rattle.chunk_codec_spec.specs.Exprs.{expr_inner, one_below, expr_part, expr_tag_at, expr_forms, clauses_part, clause_tag_at, clause_forms, is_none_left}
use Rattle.chunk_codec_spec.specs.Programs.{param_forms, service_forms, function_forms, program_forms, counting, judged_code}
use Rattle.chunk_codec_spec.specs.Values.{value_tag_at, value_forms, value_inner, chunk_inner, value_part, chunk_forms, judged_weight}

-- the item was a field of its own
abbrev pub past : {A : Type 0} → List ChunkItem → Result (A × Scan) SpellFault → Result (List ChunkItem × Scan) SpellFault
past more r = r >>= λ x. Ok (more, x.1)

-- so many clauses of a `try`, the last of which is the last
abbrev pub clause_items : ℕ → ℕ → List ChunkItem → List ChunkItem
clause_items zero room more = more
clause_items (suc n) room more = a_clause (is_none_left n) room ∷ clause_items n room more

-- A field is judged alone; a form is replaced by its parts, and a count by so many items. What a program or a chunk
-- weighs is judged once it was read.
abbrev pub step : ChunkItem → List ChunkItem → Scan → Result (List ChunkItem × Scan) SpellFault
step a_flag more s = past more (flag_field s)
step an_int more s = past more (int_field s)
step a_word more s = past more (number_field w32 s)
step a_char more s = past more (char_field s)
step a_text more s = past more (text_field s)
step a_blob more s = past more (blob_field s)
step a_name more s = past more (name_field s)
step an_operator more s = past more (operator_field s)
step a_part_number more s = past more (count_field Limit.Parts 1 8 s)
step (a_type room) more s = type_tag_at room s >>= λ tag. Ok (items_of_parts (type_forms (type_inner room) tag.0) more, tag.1)
step (an_expr room) more s =
    expr_tag_at room s >>= λ tag. Ok (items_of_parts (expr_forms (expr_inner room) (clauses_part (one_below room) (expr_inner room)) tag.0) more, tag.1)
step (several_clauses room) more s = count_field Limit.Clauses 1 8 s >>= λ n. Ok (clause_items n.0 room more, n.1)
step (a_clause last room) more s = clause_tag_at last s >>= λ tag. Ok (items_of_parts (clause_forms (expr_part room) tag.0) more, tag.1)
step a_parameter more s = Ok (items_of_parts param_forms more, s)
step a_service more s = Ok (items_of_parts service_forms more, s)
step a_function more s = Ok (items_of_parts function_forms more, s)
step a_program more s = Ok (items_of_parts program_forms (code_end s.front.at s.nodes ∷ more), counting 0 s)
step (code_end start nodes) more s = judged_code start (more, counting nodes s)
step (a_value nest room) more s =
    value_tag_at nest room s >>= λ tag. Ok (items_of_parts (value_forms (value_inner nest room) (chunk_inner nest) tag.0) more, tag.1)
step (a_chunk nest) more s = Ok (items_of_parts (chunk_forms (value_part nest 8)) (weight_end nest s.front.at ∷ more), s)
step (weight_end nest start) more s = judged_weight nest start (more, s)
step (counted limit least most i) more s = count_field limit least most s >>= λ n. Ok (times n.0 i more, n.1)
step (listed i) more s = number_field w16 s >>= λ n. Ok (times n.0 i more, n.1)
