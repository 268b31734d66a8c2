use Rattle.std.proofs.Common.{arith}
use Rattle.chunk_codec.proofs.Puts.{values}
use Rattle.chunk_codec_spec.specs.Values.{value_bytes}
use Rattle.chunk_codec_spec.specs.Kept.{value_kept}
use Rattle.chunk_codec.proofs.Puts.{written_none, written_more, written_bytes, written_room}
use Rattle.chunk_codec.proofs.write.+put_values.Goals as goal

pub put_values-loop-v-init : goal.put_values-loop-v-init
put_values-loop-v-init t c = written_none value_bytes value_kept c.args.values.now c.args.out.now.bytes c.args.out.now.room c.requires.kept

pub put_values-loop-v-preserved : goal.put_values-loop-v-preserved
put_values-loop-v-preserved t c = written_more value_bytes value_kept c.args.values.now c.loop-v.v-index c.v-item.result c.loop-v-test.true c.v-item.is c.loop-v.invariant c.put_value.ensures.bytes c.put_value.ensures.room

pub put_values-returns : goal.put_values-returns
put_values-returns t c = record {
  bytes = written_bytes value_bytes value_kept c.args.values.now c.loop-v.v-index c.loop-v-test.false c.loop-v.invariant;
  room = written_room value_bytes value_kept c.args.values.now c.loop-v.v-index c.loop-v-test.false c.loop-v.invariant;
}

pub put_chunk-put_program-requires-clause-kept : goal.put_chunk-put_program-requires-clause-kept
put_chunk-put_program-requires-clause-kept t c = grind (arith, values)

pub put_chunk-put_program-requires-clause-room : goal.put_chunk-put_program-requires-clause-room
put_chunk-put_program-requires-clause-room t c = grind (arith, values)

pub put_chunk-put_name-requires : goal.put_chunk-put_name-requires
put_chunk-put_name-requires t c = grind (arith, values)

pub put_chunk-overflow_cast-len : goal.put_chunk-overflow_cast-len
put_chunk-overflow_cast-len t c = grind (arith, values)

pub put_chunk-put_u8-requires : goal.put_chunk-put_u8-requires
put_chunk-put_u8-requires t c = grind (arith, values)

pub put_chunk-put_values-requires : goal.put_chunk-put_values-requires
put_chunk-put_values-requires t c = grind (arith, values)

pub put_chunk-returns-clause-bytes : goal.put_chunk-returns-clause-bytes
put_chunk-returns-clause-bytes t c = grind (arith, values)

pub put_chunk-returns-clause-room : goal.put_chunk-returns-clause-room
put_chunk-returns-clause-room t c = grind (arith, values)

pub put_value-put_u8-requires : goal.put_value-put_u8-requires
put_value-put_u8-requires t c = grind (arith, values)

pub put_value-put_u8-requires-in-Bool : goal.put_value-put_u8-requires-in-Bool
put_value-put_u8-requires-in-Bool t c = grind (arith, values)

pub put_value-put_flag-requires : goal.put_value-put_flag-requires
put_value-put_flag-requires t c = grind (arith, values)

pub put_value-put_u8-requires-in-Int : goal.put_value-put_u8-requires-in-Int
put_value-put_u8-requires-in-Int t c = grind (arith, values)

pub put_value-put_i64-requires : goal.put_value-put_i64-requires
put_value-put_i64-requires t c = grind (arith, values)

pub put_value-put_u8-requires-in-Char : goal.put_value-put_u8-requires-in-Char
put_value-put_u8-requires-in-Char t c = grind (arith, values)

pub put_value-put_u32-requires : goal.put_value-put_u32-requires
put_value-put_u32-requires t c = grind (arith, values)

pub put_value-put_u8-requires-in-Str : goal.put_value-put_u8-requires-in-Str
put_value-put_u8-requires-in-Str t c = grind (arith, values)

pub put_value-as_slice-requires : goal.put_value-as_slice-requires
put_value-as_slice-requires t c = grind (arith, values)

pub put_value-put_sized-requires-clause-short : goal.put_value-put_sized-requires-clause-short
put_value-put_sized-requires-clause-short t c = grind (arith, values)

pub put_value-put_sized-requires-clause-room : goal.put_value-put_sized-requires-clause-room
put_value-put_sized-requires-clause-room t c = grind (arith, values)

pub put_value-put_u8-requires-in-Blob : goal.put_value-put_u8-requires-in-Blob
put_value-put_u8-requires-in-Blob t c = grind (arith, values)

pub put_value-as_slice-requires-in-Blob : goal.put_value-as_slice-requires-in-Blob
put_value-as_slice-requires-in-Blob t c = grind (arith, values)

pub put_value-put_u8-requires-in-Host : goal.put_value-put_u8-requires-in-Host
put_value-put_u8-requires-in-Host t c = grind (arith, values)

pub put_value-put_u32-requires-in-Host : goal.put_value-put_u32-requires-in-Host
put_value-put_u32-requires-in-Host t c = grind (arith, values)

pub put_value-put_u8-requires-in-Dev : goal.put_value-put_u8-requires-in-Dev
put_value-put_u8-requires-in-Dev t c = grind (arith, values)

pub put_value-put_u32-requires-in-Dev : goal.put_value-put_u32-requires-in-Dev
put_value-put_u32-requires-in-Dev t c = grind (arith, values)

pub put_value-put_u8-requires-in-Chunk : goal.put_value-put_u8-requires-in-Chunk
put_value-put_u8-requires-in-Chunk t c = grind (arith, values)

pub put_value-put_chunk-requires : goal.put_value-put_chunk-requires
put_value-put_chunk-requires t c = grind (arith, values)

pub put_value-put_u8-requires-in-List : goal.put_value-put_u8-requires-in-List
put_value-put_u8-requires-in-List t c = grind (arith, values)

pub put_value-put_ty-requires-clause-kept : goal.put_value-put_ty-requires-clause-kept
put_value-put_ty-requires-clause-kept t c = grind (arith, values)

pub put_value-put_ty-requires-clause-room : goal.put_value-put_ty-requires-clause-room
put_value-put_ty-requires-clause-room t c = grind (arith, values)

pub put_value-overflow_cast-len : goal.put_value-overflow_cast-len
put_value-overflow_cast-len t c = grind (arith, values)

pub put_value-put_u16-requires : goal.put_value-put_u16-requires
put_value-put_u16-requires t c = grind (arith, values)

pub put_value-put_values-requires : goal.put_value-put_values-requires
put_value-put_values-requires t c = grind (arith, values)

pub put_value-put_u8-requires-in-Tuple : goal.put_value-put_u8-requires-in-Tuple
put_value-put_u8-requires-in-Tuple t c = grind (arith, values)

pub put_value-overflow_cast-len-in-Tuple : goal.put_value-overflow_cast-len-in-Tuple
put_value-overflow_cast-len-in-Tuple t c = grind (arith, values)

pub put_value-put_u8-requires-in-Tuple-2 : goal.put_value-put_u8-requires-in-Tuple-2
put_value-put_u8-requires-in-Tuple-2 t c = grind (arith, values)

pub put_value-put_values-requires-in-Tuple : goal.put_value-put_values-requires-in-Tuple
put_value-put_values-requires-in-Tuple t c = grind (arith, values)

pub put_value-returns-in-Unit-clause-bytes : goal.put_value-returns-in-Unit-clause-bytes
put_value-returns-in-Unit-clause-bytes t c = grind (arith, values)

pub put_value-returns-in-Unit-clause-room : goal.put_value-returns-in-Unit-clause-room
put_value-returns-in-Unit-clause-room t c = grind (arith, values)

pub put_value-returns-in-Bool-clause-bytes : goal.put_value-returns-in-Bool-clause-bytes
put_value-returns-in-Bool-clause-bytes t c = grind (arith, values)

pub put_value-returns-in-Bool-clause-room : goal.put_value-returns-in-Bool-clause-room
put_value-returns-in-Bool-clause-room t c = grind (arith, values)

pub put_value-returns-in-Int-clause-bytes : goal.put_value-returns-in-Int-clause-bytes
put_value-returns-in-Int-clause-bytes t c = grind (arith, values)

pub put_value-returns-in-Int-clause-room : goal.put_value-returns-in-Int-clause-room
put_value-returns-in-Int-clause-room t c = grind (arith, values)

pub put_value-returns-in-Char-clause-bytes : goal.put_value-returns-in-Char-clause-bytes
put_value-returns-in-Char-clause-bytes t c = grind (arith, values)

pub put_value-returns-in-Char-clause-room : goal.put_value-returns-in-Char-clause-room
put_value-returns-in-Char-clause-room t c = grind (arith, values)

pub put_value-returns-in-Str-clause-bytes : goal.put_value-returns-in-Str-clause-bytes
put_value-returns-in-Str-clause-bytes t c = grind (arith, values)

pub put_value-returns-in-Str-clause-room : goal.put_value-returns-in-Str-clause-room
put_value-returns-in-Str-clause-room t c = grind (arith, values)

pub put_value-returns-in-Blob-clause-bytes : goal.put_value-returns-in-Blob-clause-bytes
put_value-returns-in-Blob-clause-bytes t c = grind (arith, values)

pub put_value-returns-in-Blob-clause-room : goal.put_value-returns-in-Blob-clause-room
put_value-returns-in-Blob-clause-room t c = grind (arith, values)

pub put_value-returns-in-Host-clause-bytes : goal.put_value-returns-in-Host-clause-bytes
put_value-returns-in-Host-clause-bytes t c = grind (arith, values)

pub put_value-returns-in-Host-clause-room : goal.put_value-returns-in-Host-clause-room
put_value-returns-in-Host-clause-room t c = grind (arith, values)

pub put_value-returns-in-Dev-clause-bytes : goal.put_value-returns-in-Dev-clause-bytes
put_value-returns-in-Dev-clause-bytes t c = grind (arith, values)

pub put_value-returns-in-Dev-clause-room : goal.put_value-returns-in-Dev-clause-room
put_value-returns-in-Dev-clause-room t c = grind (arith, values)

pub put_value-returns-in-Chunk-clause-bytes : goal.put_value-returns-in-Chunk-clause-bytes
put_value-returns-in-Chunk-clause-bytes t c = grind (arith, values)

pub put_value-returns-in-Chunk-clause-room : goal.put_value-returns-in-Chunk-clause-room
put_value-returns-in-Chunk-clause-room t c = grind (arith, values)

pub put_value-returns-in-List-clause-bytes : goal.put_value-returns-in-List-clause-bytes
put_value-returns-in-List-clause-bytes t c = grind (arith, values)

pub put_value-returns-in-List-clause-room : goal.put_value-returns-in-List-clause-room
put_value-returns-in-List-clause-room t c = grind (arith, values)

pub put_value-returns-in-Tuple-clause-bytes : goal.put_value-returns-in-Tuple-clause-bytes
put_value-returns-in-Tuple-clause-bytes t c = grind (arith, values)

pub put_value-returns-in-Tuple-clause-room : goal.put_value-returns-in-Tuple-clause-room
put_value-returns-in-Tuple-clause-room t c = grind (arith, values)

pub put_values-offset_bounds-values-v-index : goal.put_values-offset_bounds-values-v-index
put_values-offset_bounds-values-v-index t c = grind (arith, values)

pub put_values-bounds-values-v-index : goal.put_values-bounds-values-v-index
put_values-bounds-values-v-index t c = grind (arith, values)

pub put_values-loop-v-smaller : goal.put_values-loop-v-smaller
put_values-loop-v-smaller t c = grind (arith, values)
