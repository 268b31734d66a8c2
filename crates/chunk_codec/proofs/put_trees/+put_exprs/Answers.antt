use Rattle.std.proofs.Common.{arith}
use Rattle.chunk_codec.proofs.Puts.{exprs}
use Rattle.chunk_codec_spec.specs.Exprs.{expr_bytes, clause_bytes}
use Rattle.chunk_codec_spec.specs.Kept.{expr_kept, clause_kept}
use Rattle.chunk_codec.proofs.Puts.{written_none, written_more, written_bytes, written_room}
use Rattle.chunk_codec.proofs.put_trees.+put_exprs.Goals as goal

pub put_exprs-loop-e-init : goal.put_exprs-loop-e-init
put_exprs-loop-e-init t c = written_none expr_bytes expr_kept c.args.exprs.now c.args.out.now.bytes c.args.out.now.room c.requires.kept

pub put_exprs-loop-e-preserved : goal.put_exprs-loop-e-preserved
put_exprs-loop-e-preserved t c = written_more expr_bytes expr_kept c.args.exprs.now c.loop-e.e-index c.e-item.result c.loop-e-test.true c.e-item.is c.loop-e.invariant c.put_expr.ensures.bytes c.put_expr.ensures.room

pub put_exprs-returns : goal.put_exprs-returns
put_exprs-returns t c = record {
  bytes = written_bytes expr_bytes expr_kept c.args.exprs.now c.loop-e.e-index c.loop-e-test.false c.loop-e.invariant;
  room = written_room expr_bytes expr_kept c.args.exprs.now c.loop-e.e-index c.loop-e-test.false c.loop-e.invariant;
}

pub put_clauses-loop-c-init : goal.put_clauses-loop-c-init
put_clauses-loop-c-init t c = written_none clause_bytes clause_kept c.args.clauses.now c.args.out.now.bytes c.args.out.now.room c.requires.kept

pub put_clauses-loop-c-preserved : goal.put_clauses-loop-c-preserved
put_clauses-loop-c-preserved t c = written_more clause_bytes clause_kept c.args.clauses.now c.loop-c.c-index c.c-item.result c.loop-c-test.true c.c-item.is c.loop-c.invariant c.put_clause.ensures.bytes c.put_clause.ensures.room

pub put_clauses-returns : goal.put_clauses-returns
put_clauses-returns t c = record {
  bytes = written_bytes clause_bytes clause_kept c.args.clauses.now c.loop-c.c-index c.loop-c-test.false c.loop-c.invariant;
  room = written_room clause_bytes clause_kept c.args.clauses.now c.loop-c.c-index c.loop-c-test.false c.loop-c.invariant;
}

pub put_clause-put_u8-requires : goal.put_clause-put_u8-requires
put_clause-put_u8-requires t c = grind (arith, exprs)

pub put_clause-put_u8-requires-in-Some : goal.put_clause-put_u8-requires-in-Some
put_clause-put_u8-requires-in-Some t c = grind (arith, exprs)

pub put_clause-put_name-requires : goal.put_clause-put_name-requires
put_clause-put_name-requires t c = grind (arith, exprs)

pub put_clause-put_expr-requires : goal.put_clause-put_expr-requires
put_clause-put_expr-requires t c = grind (arith, exprs)

pub put_clause-returns-clause-bytes : goal.put_clause-returns-clause-bytes
put_clause-returns-clause-bytes t c = grind (arith, exprs)

pub put_clause-returns-clause-room : goal.put_clause-returns-clause-room
put_clause-returns-clause-room t c = grind (arith, exprs)

pub put_clauses-offset_bounds-clauses-c-index : goal.put_clauses-offset_bounds-clauses-c-index
put_clauses-offset_bounds-clauses-c-index t c = grind (arith, exprs)

pub put_clauses-bounds-clauses-c-index : goal.put_clauses-bounds-clauses-c-index
put_clauses-bounds-clauses-c-index t c = grind (arith, exprs)

pub put_clauses-loop-c-smaller : goal.put_clauses-loop-c-smaller
put_clauses-loop-c-smaller t c = grind (arith, exprs)

pub put_expr-put_u8-requires : goal.put_expr-put_u8-requires
put_expr-put_u8-requires t c = grind (arith, exprs)

pub put_expr-put_u8-requires-in-Bool : goal.put_expr-put_u8-requires-in-Bool
put_expr-put_u8-requires-in-Bool t c = grind (arith, exprs)

pub put_expr-put_flag-requires : goal.put_expr-put_flag-requires
put_expr-put_flag-requires t c = grind (arith, exprs)

pub put_expr-put_u8-requires-in-Int : goal.put_expr-put_u8-requires-in-Int
put_expr-put_u8-requires-in-Int t c = grind (arith, exprs)

pub put_expr-put_i64-requires : goal.put_expr-put_i64-requires
put_expr-put_i64-requires t c = grind (arith, exprs)

pub put_expr-put_u8-requires-in-Char : goal.put_expr-put_u8-requires-in-Char
put_expr-put_u8-requires-in-Char t c = grind (arith, exprs)

pub put_expr-put_u32-requires : goal.put_expr-put_u32-requires
put_expr-put_u32-requires t c = grind (arith, exprs)

pub put_expr-put_u8-requires-in-Str : goal.put_expr-put_u8-requires-in-Str
put_expr-put_u8-requires-in-Str t c = grind (arith, exprs)

pub put_expr-as_slice-requires : goal.put_expr-as_slice-requires
put_expr-as_slice-requires t c = grind (arith, exprs)

pub put_expr-put_sized-requires-clause-short : goal.put_expr-put_sized-requires-clause-short
put_expr-put_sized-requires-clause-short t c = grind (arith, exprs)

pub put_expr-put_sized-requires-clause-room : goal.put_expr-put_sized-requires-clause-room
put_expr-put_sized-requires-clause-room t c = grind (arith, exprs)

pub put_expr-put_u8-requires-in-Blob : goal.put_expr-put_u8-requires-in-Blob
put_expr-put_u8-requires-in-Blob t c = grind (arith, exprs)

pub put_expr-as_slice-requires-in-Blob : goal.put_expr-as_slice-requires-in-Blob
put_expr-as_slice-requires-in-Blob t c = grind (arith, exprs)

pub put_expr-put_u8-requires-in-Host : goal.put_expr-put_u8-requires-in-Host
put_expr-put_u8-requires-in-Host t c = grind (arith, exprs)

pub put_expr-put_u32-requires-in-Host : goal.put_expr-put_u32-requires-in-Host
put_expr-put_u32-requires-in-Host t c = grind (arith, exprs)

pub put_expr-put_u8-requires-in-Dev : goal.put_expr-put_u8-requires-in-Dev
put_expr-put_u8-requires-in-Dev t c = grind (arith, exprs)

pub put_expr-put_u32-requires-in-Dev : goal.put_expr-put_u32-requires-in-Dev
put_expr-put_u32-requires-in-Dev t c = grind (arith, exprs)

pub put_expr-put_u8-requires-in-Nil-Some : goal.put_expr-put_u8-requires-in-Nil-Some
put_expr-put_u8-requires-in-Nil-Some t c = grind (arith, exprs)

pub put_expr-put_ty-requires-clause-kept : goal.put_expr-put_ty-requires-clause-kept
put_expr-put_ty-requires-clause-kept t c = grind (arith, exprs)

pub put_expr-put_ty-requires-clause-room : goal.put_expr-put_ty-requires-clause-room
put_expr-put_ty-requires-clause-room t c = grind (arith, exprs)

pub put_expr-unreachable-requires : goal.put_expr-unreachable-requires
put_expr-unreachable-requires t c = grind (arith, exprs)

pub put_expr-unreachable-unreachable : goal.put_expr-unreachable-unreachable
put_expr-unreachable-unreachable t c = grind (arith, exprs)

pub put_expr-put_u8-requires-in-Var : goal.put_expr-put_u8-requires-in-Var
put_expr-put_u8-requires-in-Var t c = grind (arith, exprs)

pub put_expr-put_name-requires : goal.put_expr-put_name-requires
put_expr-put_name-requires t c = grind (arith, exprs)

pub put_expr-put_u8-requires-in-Tuple : goal.put_expr-put_u8-requires-in-Tuple
put_expr-put_u8-requires-in-Tuple t c = grind (arith, exprs)

pub put_expr-overflow_cast-len : goal.put_expr-overflow_cast-len
put_expr-overflow_cast-len t c = grind (arith, exprs)

pub put_expr-put_u8-requires-in-Tuple-2 : goal.put_expr-put_u8-requires-in-Tuple-2
put_expr-put_u8-requires-in-Tuple-2 t c = grind (arith, exprs)

pub put_expr-put_exprs-requires : goal.put_expr-put_exprs-requires
put_expr-put_exprs-requires t c = grind (arith, exprs)

pub put_expr-put_u8-requires-in-Call : goal.put_expr-put_u8-requires-in-Call
put_expr-put_u8-requires-in-Call t c = grind (arith, exprs)

pub put_expr-put_name-requires-in-Call : goal.put_expr-put_name-requires-in-Call
put_expr-put_name-requires-in-Call t c = grind (arith, exprs)

pub put_expr-overflow_cast-len-in-Call : goal.put_expr-overflow_cast-len-in-Call
put_expr-overflow_cast-len-in-Call t c = grind (arith, exprs)

pub put_expr-put_u8-requires-in-Call-2 : goal.put_expr-put_u8-requires-in-Call-2
put_expr-put_u8-requires-in-Call-2 t c = grind (arith, exprs)

pub put_expr-put_exprs-requires-in-Call : goal.put_expr-put_exprs-requires-in-Call
put_expr-put_exprs-requires-in-Call t c = grind (arith, exprs)

pub put_expr-put_u8-requires-in-If : goal.put_expr-put_u8-requires-in-If
put_expr-put_u8-requires-in-If t c = grind (arith, exprs)

pub put_expr-put_expr-requires : goal.put_expr-put_expr-requires
put_expr-put_expr-requires t c = grind (arith, exprs)

pub put_expr-put_expr-requires-in-If : goal.put_expr-put_expr-requires-in-If
put_expr-put_expr-requires-in-If t c = grind (arith, exprs)

pub put_expr-put_expr-requires-in-If-2 : goal.put_expr-put_expr-requires-in-If-2
put_expr-put_expr-requires-in-If-2 t c = grind (arith, exprs)

pub put_expr-put_u8-requires-in-Let : goal.put_expr-put_u8-requires-in-Let
put_expr-put_u8-requires-in-Let t c = grind (arith, exprs)

pub put_expr-put_name-requires-in-Let : goal.put_expr-put_name-requires-in-Let
put_expr-put_name-requires-in-Let t c = grind (arith, exprs)

pub put_expr-put_ty-requires-in-Let-clause-kept : goal.put_expr-put_ty-requires-in-Let-clause-kept
put_expr-put_ty-requires-in-Let-clause-kept t c = grind (arith, exprs)

pub put_expr-put_ty-requires-in-Let-clause-room : goal.put_expr-put_ty-requires-in-Let-clause-room
put_expr-put_ty-requires-in-Let-clause-room t c = grind (arith, exprs)

pub put_expr-put_expr-requires-in-Let : goal.put_expr-put_expr-requires-in-Let
put_expr-put_expr-requires-in-Let t c = grind (arith, exprs)

pub put_expr-put_expr-requires-in-Let-2 : goal.put_expr-put_expr-requires-in-Let-2
put_expr-put_expr-requires-in-Let-2 t c = grind (arith, exprs)

pub put_expr-put_u8-requires-in-Then : goal.put_expr-put_u8-requires-in-Then
put_expr-put_u8-requires-in-Then t c = grind (arith, exprs)

pub put_expr-put_expr-requires-in-Then : goal.put_expr-put_expr-requires-in-Then
put_expr-put_expr-requires-in-Then t c = grind (arith, exprs)

pub put_expr-put_expr-requires-in-Then-2 : goal.put_expr-put_expr-requires-in-Then-2
put_expr-put_expr-requires-in-Then-2 t c = grind (arith, exprs)

pub put_expr-put_u8-requires-in-And : goal.put_expr-put_u8-requires-in-And
put_expr-put_u8-requires-in-And t c = grind (arith, exprs)

pub put_expr-put_expr-requires-in-And : goal.put_expr-put_expr-requires-in-And
put_expr-put_expr-requires-in-And t c = grind (arith, exprs)

pub put_expr-put_expr-requires-in-And-2 : goal.put_expr-put_expr-requires-in-And-2
put_expr-put_expr-requires-in-And-2 t c = grind (arith, exprs)

pub put_expr-put_u8-requires-in-Or : goal.put_expr-put_u8-requires-in-Or
put_expr-put_u8-requires-in-Or t c = grind (arith, exprs)

pub put_expr-put_expr-requires-in-Or : goal.put_expr-put_expr-requires-in-Or
put_expr-put_expr-requires-in-Or t c = grind (arith, exprs)

pub put_expr-put_expr-requires-in-Or-2 : goal.put_expr-put_expr-requires-in-Or-2
put_expr-put_expr-requires-in-Or-2 t c = grind (arith, exprs)

pub put_expr-put_u8-requires-in-Not : goal.put_expr-put_u8-requires-in-Not
put_expr-put_u8-requires-in-Not t c = grind (arith, exprs)

pub put_expr-put_expr-requires-in-Not : goal.put_expr-put_expr-requires-in-Not
put_expr-put_expr-requires-in-Not t c = grind (arith, exprs)

pub put_expr-put_u8-requires-in-Binary : goal.put_expr-put_u8-requires-in-Binary
put_expr-put_u8-requires-in-Binary t c = grind (arith, exprs)

pub put_expr-op_number-requires : goal.put_expr-op_number-requires
put_expr-op_number-requires t c = grind (arith, exprs)

pub put_expr-put_u8-requires-in-Binary-2 : goal.put_expr-put_u8-requires-in-Binary-2
put_expr-put_u8-requires-in-Binary-2 t c = grind (arith, exprs)

pub put_expr-put_expr-requires-in-Binary : goal.put_expr-put_expr-requires-in-Binary
put_expr-put_expr-requires-in-Binary t c = grind (arith, exprs)

pub put_expr-put_expr-requires-in-Binary-2 : goal.put_expr-put_expr-requires-in-Binary-2
put_expr-put_expr-requires-in-Binary-2 t c = grind (arith, exprs)

pub put_expr-put_u8-requires-in-Part : goal.put_expr-put_u8-requires-in-Part
put_expr-put_u8-requires-in-Part t c = grind (arith, exprs)

pub put_expr-put_u8-requires-in-Part-2 : goal.put_expr-put_u8-requires-in-Part-2
put_expr-put_u8-requires-in-Part-2 t c = grind (arith, exprs)

pub put_expr-put_expr-requires-in-Part : goal.put_expr-put_expr-requires-in-Part
put_expr-put_expr-requires-in-Part t c = grind (arith, exprs)

pub put_expr-put_u8-requires-in-Try : goal.put_expr-put_u8-requires-in-Try
put_expr-put_u8-requires-in-Try t c = grind (arith, exprs)

pub put_expr-put_expr-requires-in-Try : goal.put_expr-put_expr-requires-in-Try
put_expr-put_expr-requires-in-Try t c = grind (arith, exprs)

pub put_expr-overflow_cast-len-in-Try : goal.put_expr-overflow_cast-len-in-Try
put_expr-overflow_cast-len-in-Try t c = grind (arith, exprs)

pub put_expr-put_u8-requires-in-Try-2 : goal.put_expr-put_u8-requires-in-Try-2
put_expr-put_u8-requires-in-Try-2 t c = grind (arith, exprs)

pub put_expr-put_clauses-requires : goal.put_expr-put_clauses-requires
put_expr-put_clauses-requires t c = grind (arith, exprs)

pub put_expr-put_u8-requires-in-Foldl : goal.put_expr-put_u8-requires-in-Foldl
put_expr-put_u8-requires-in-Foldl t c = grind (arith, exprs)

pub put_expr-put_name-requires-in-Foldl : goal.put_expr-put_name-requires-in-Foldl
put_expr-put_name-requires-in-Foldl t c = grind (arith, exprs)

pub put_expr-put_expr-requires-in-Foldl : goal.put_expr-put_expr-requires-in-Foldl
put_expr-put_expr-requires-in-Foldl t c = grind (arith, exprs)

pub put_expr-put_expr-requires-in-Foldl-2 : goal.put_expr-put_expr-requires-in-Foldl-2
put_expr-put_expr-requires-in-Foldl-2 t c = grind (arith, exprs)

pub put_expr-put_u8-requires-in-Foldr : goal.put_expr-put_u8-requires-in-Foldr
put_expr-put_u8-requires-in-Foldr t c = grind (arith, exprs)

pub put_expr-put_name-requires-in-Foldr : goal.put_expr-put_name-requires-in-Foldr
put_expr-put_name-requires-in-Foldr t c = grind (arith, exprs)

pub put_expr-put_expr-requires-in-Foldr : goal.put_expr-put_expr-requires-in-Foldr
put_expr-put_expr-requires-in-Foldr t c = grind (arith, exprs)

pub put_expr-put_expr-requires-in-Foldr-2 : goal.put_expr-put_expr-requires-in-Foldr-2
put_expr-put_expr-requires-in-Foldr-2 t c = grind (arith, exprs)

pub put_expr-put_u8-requires-in-ChunkOf : goal.put_expr-put_u8-requires-in-ChunkOf
put_expr-put_u8-requires-in-ChunkOf t c = grind (arith, exprs)

pub put_expr-put_name-requires-in-ChunkOf : goal.put_expr-put_name-requires-in-ChunkOf
put_expr-put_name-requires-in-ChunkOf t c = grind (arith, exprs)

pub put_expr-overflow_cast-len-in-ChunkOf : goal.put_expr-overflow_cast-len-in-ChunkOf
put_expr-overflow_cast-len-in-ChunkOf t c = grind (arith, exprs)

pub put_expr-put_u8-requires-in-ChunkOf-2 : goal.put_expr-put_u8-requires-in-ChunkOf-2
put_expr-put_u8-requires-in-ChunkOf-2 t c = grind (arith, exprs)

pub put_expr-put_exprs-requires-in-ChunkOf : goal.put_expr-put_exprs-requires-in-ChunkOf
put_expr-put_exprs-requires-in-ChunkOf t c = grind (arith, exprs)

pub put_expr-put_u8-requires-in-Eval : goal.put_expr-put_u8-requires-in-Eval
put_expr-put_u8-requires-in-Eval t c = grind (arith, exprs)

pub put_expr-put_expr-requires-in-Eval : goal.put_expr-put_expr-requires-in-Eval
put_expr-put_expr-requires-in-Eval t c = grind (arith, exprs)

pub put_expr-put_u8-requires-in-OnRemote : goal.put_expr-put_u8-requires-in-OnRemote
put_expr-put_u8-requires-in-OnRemote t c = grind (arith, exprs)

pub put_expr-put_expr-requires-in-OnRemote : goal.put_expr-put_expr-requires-in-OnRemote
put_expr-put_expr-requires-in-OnRemote t c = grind (arith, exprs)

pub put_expr-put_expr-requires-in-OnRemote-2 : goal.put_expr-put_expr-requires-in-OnRemote-2
put_expr-put_expr-requires-in-OnRemote-2 t c = grind (arith, exprs)

pub put_expr-put_expr-requires-in-OnRemote-3 : goal.put_expr-put_expr-requires-in-OnRemote-3
put_expr-put_expr-requires-in-OnRemote-3 t c = grind (arith, exprs)

pub put_expr-put_name-requires-in-OnRemote : goal.put_expr-put_name-requires-in-OnRemote
put_expr-put_name-requires-in-OnRemote t c = grind (arith, exprs)

pub put_expr-put_u8-requires-in-OnNeighbor : goal.put_expr-put_u8-requires-in-OnNeighbor
put_expr-put_u8-requires-in-OnNeighbor t c = grind (arith, exprs)

pub put_expr-put_expr-requires-in-OnNeighbor : goal.put_expr-put_expr-requires-in-OnNeighbor
put_expr-put_expr-requires-in-OnNeighbor t c = grind (arith, exprs)

pub put_expr-put_expr-requires-in-OnNeighbor-2 : goal.put_expr-put_expr-requires-in-OnNeighbor-2
put_expr-put_expr-requires-in-OnNeighbor-2 t c = grind (arith, exprs)

pub put_expr-put_expr-requires-in-OnNeighbor-3 : goal.put_expr-put_expr-requires-in-OnNeighbor-3
put_expr-put_expr-requires-in-OnNeighbor-3 t c = grind (arith, exprs)

pub put_expr-put_expr-requires-in-OnNeighbor-4 : goal.put_expr-put_expr-requires-in-OnNeighbor-4
put_expr-put_expr-requires-in-OnNeighbor-4 t c = grind (arith, exprs)

pub put_expr-returns-in-Unit-clause-bytes : goal.put_expr-returns-in-Unit-clause-bytes
put_expr-returns-in-Unit-clause-bytes t c = grind (arith, exprs)

pub put_expr-returns-in-Unit-clause-room : goal.put_expr-returns-in-Unit-clause-room
put_expr-returns-in-Unit-clause-room t c = grind (arith, exprs)

pub put_expr-returns-in-Bool-clause-bytes : goal.put_expr-returns-in-Bool-clause-bytes
put_expr-returns-in-Bool-clause-bytes t c = grind (arith, exprs)

pub put_expr-returns-in-Bool-clause-room : goal.put_expr-returns-in-Bool-clause-room
put_expr-returns-in-Bool-clause-room t c = grind (arith, exprs)

pub put_expr-returns-in-Int-clause-bytes : goal.put_expr-returns-in-Int-clause-bytes
put_expr-returns-in-Int-clause-bytes t c = grind (arith, exprs)

pub put_expr-returns-in-Int-clause-room : goal.put_expr-returns-in-Int-clause-room
put_expr-returns-in-Int-clause-room t c = grind (arith, exprs)

pub put_expr-returns-in-Char-clause-bytes : goal.put_expr-returns-in-Char-clause-bytes
put_expr-returns-in-Char-clause-bytes t c = grind (arith, exprs)

pub put_expr-returns-in-Char-clause-room : goal.put_expr-returns-in-Char-clause-room
put_expr-returns-in-Char-clause-room t c = grind (arith, exprs)

pub put_expr-returns-in-Str-clause-bytes : goal.put_expr-returns-in-Str-clause-bytes
put_expr-returns-in-Str-clause-bytes t c = grind (arith, exprs)

pub put_expr-returns-in-Str-clause-room : goal.put_expr-returns-in-Str-clause-room
put_expr-returns-in-Str-clause-room t c = grind (arith, exprs)

pub put_expr-returns-in-Blob-clause-bytes : goal.put_expr-returns-in-Blob-clause-bytes
put_expr-returns-in-Blob-clause-bytes t c = grind (arith, exprs)

pub put_expr-returns-in-Blob-clause-room : goal.put_expr-returns-in-Blob-clause-room
put_expr-returns-in-Blob-clause-room t c = grind (arith, exprs)

pub put_expr-returns-in-Host-clause-bytes : goal.put_expr-returns-in-Host-clause-bytes
put_expr-returns-in-Host-clause-bytes t c = grind (arith, exprs)

pub put_expr-returns-in-Host-clause-room : goal.put_expr-returns-in-Host-clause-room
put_expr-returns-in-Host-clause-room t c = grind (arith, exprs)

pub put_expr-returns-in-Dev-clause-bytes : goal.put_expr-returns-in-Dev-clause-bytes
put_expr-returns-in-Dev-clause-bytes t c = grind (arith, exprs)

pub put_expr-returns-in-Dev-clause-room : goal.put_expr-returns-in-Dev-clause-room
put_expr-returns-in-Dev-clause-room t c = grind (arith, exprs)

pub put_expr-returns-in-Nil-Some-clause-bytes : goal.put_expr-returns-in-Nil-Some-clause-bytes
put_expr-returns-in-Nil-Some-clause-bytes t c = grind (arith, exprs)

pub put_expr-returns-in-Nil-Some-clause-room : goal.put_expr-returns-in-Nil-Some-clause-room
put_expr-returns-in-Nil-Some-clause-room t c = grind (arith, exprs)

pub put_expr-returns-in-Var-clause-bytes : goal.put_expr-returns-in-Var-clause-bytes
put_expr-returns-in-Var-clause-bytes t c = grind (arith, exprs)

pub put_expr-returns-in-Var-clause-room : goal.put_expr-returns-in-Var-clause-room
put_expr-returns-in-Var-clause-room t c = grind (arith, exprs)

pub put_expr-returns-in-Tuple-clause-bytes : goal.put_expr-returns-in-Tuple-clause-bytes
put_expr-returns-in-Tuple-clause-bytes t c = grind (arith, exprs)

pub put_expr-returns-in-Tuple-clause-room : goal.put_expr-returns-in-Tuple-clause-room
put_expr-returns-in-Tuple-clause-room t c = grind (arith, exprs)

pub put_expr-returns-in-Call-clause-bytes : goal.put_expr-returns-in-Call-clause-bytes
put_expr-returns-in-Call-clause-bytes t c = grind (arith, exprs)

pub put_expr-returns-in-Call-clause-room : goal.put_expr-returns-in-Call-clause-room
put_expr-returns-in-Call-clause-room t c = grind (arith, exprs)

pub put_expr-returns-in-If-clause-bytes : goal.put_expr-returns-in-If-clause-bytes
put_expr-returns-in-If-clause-bytes t c = grind (arith, exprs)

pub put_expr-returns-in-If-clause-room : goal.put_expr-returns-in-If-clause-room
put_expr-returns-in-If-clause-room t c = grind (arith, exprs)

pub put_expr-returns-in-Let-clause-bytes : goal.put_expr-returns-in-Let-clause-bytes
put_expr-returns-in-Let-clause-bytes t c = grind (arith, exprs)

pub put_expr-returns-in-Let-clause-room : goal.put_expr-returns-in-Let-clause-room
put_expr-returns-in-Let-clause-room t c = grind (arith, exprs)

pub put_expr-returns-in-Then-clause-bytes : goal.put_expr-returns-in-Then-clause-bytes
put_expr-returns-in-Then-clause-bytes t c = grind (arith, exprs)

pub put_expr-returns-in-Then-clause-room : goal.put_expr-returns-in-Then-clause-room
put_expr-returns-in-Then-clause-room t c = grind (arith, exprs)

pub put_expr-returns-in-And-clause-bytes : goal.put_expr-returns-in-And-clause-bytes
put_expr-returns-in-And-clause-bytes t c = grind (arith, exprs)

pub put_expr-returns-in-And-clause-room : goal.put_expr-returns-in-And-clause-room
put_expr-returns-in-And-clause-room t c = grind (arith, exprs)

pub put_expr-returns-in-Or-clause-bytes : goal.put_expr-returns-in-Or-clause-bytes
put_expr-returns-in-Or-clause-bytes t c = grind (arith, exprs)

pub put_expr-returns-in-Or-clause-room : goal.put_expr-returns-in-Or-clause-room
put_expr-returns-in-Or-clause-room t c = grind (arith, exprs)

pub put_expr-returns-in-Not-clause-bytes : goal.put_expr-returns-in-Not-clause-bytes
put_expr-returns-in-Not-clause-bytes t c = grind (arith, exprs)

pub put_expr-returns-in-Not-clause-room : goal.put_expr-returns-in-Not-clause-room
put_expr-returns-in-Not-clause-room t c = grind (arith, exprs)

pub put_expr-returns-in-Binary-clause-bytes : goal.put_expr-returns-in-Binary-clause-bytes
put_expr-returns-in-Binary-clause-bytes t c = grind (arith, exprs)

pub put_expr-returns-in-Binary-clause-room : goal.put_expr-returns-in-Binary-clause-room
put_expr-returns-in-Binary-clause-room t c = grind (arith, exprs)

pub put_expr-returns-in-Part-clause-bytes : goal.put_expr-returns-in-Part-clause-bytes
put_expr-returns-in-Part-clause-bytes t c = grind (arith, exprs)

pub put_expr-returns-in-Part-clause-room : goal.put_expr-returns-in-Part-clause-room
put_expr-returns-in-Part-clause-room t c = grind (arith, exprs)

pub put_expr-returns-in-Try-clause-bytes : goal.put_expr-returns-in-Try-clause-bytes
put_expr-returns-in-Try-clause-bytes t c = grind (arith, exprs)

pub put_expr-returns-in-Try-clause-room : goal.put_expr-returns-in-Try-clause-room
put_expr-returns-in-Try-clause-room t c = grind (arith, exprs)

pub put_expr-returns-in-Foldl-clause-bytes : goal.put_expr-returns-in-Foldl-clause-bytes
put_expr-returns-in-Foldl-clause-bytes t c = grind (arith, exprs)

pub put_expr-returns-in-Foldl-clause-room : goal.put_expr-returns-in-Foldl-clause-room
put_expr-returns-in-Foldl-clause-room t c = grind (arith, exprs)

pub put_expr-returns-in-Foldr-clause-bytes : goal.put_expr-returns-in-Foldr-clause-bytes
put_expr-returns-in-Foldr-clause-bytes t c = grind (arith, exprs)

pub put_expr-returns-in-Foldr-clause-room : goal.put_expr-returns-in-Foldr-clause-room
put_expr-returns-in-Foldr-clause-room t c = grind (arith, exprs)

pub put_expr-returns-in-ChunkOf-clause-bytes : goal.put_expr-returns-in-ChunkOf-clause-bytes
put_expr-returns-in-ChunkOf-clause-bytes t c = grind (arith, exprs)

pub put_expr-returns-in-ChunkOf-clause-room : goal.put_expr-returns-in-ChunkOf-clause-room
put_expr-returns-in-ChunkOf-clause-room t c = grind (arith, exprs)

pub put_expr-returns-in-Eval-clause-bytes : goal.put_expr-returns-in-Eval-clause-bytes
put_expr-returns-in-Eval-clause-bytes t c = grind (arith, exprs)

pub put_expr-returns-in-Eval-clause-room : goal.put_expr-returns-in-Eval-clause-room
put_expr-returns-in-Eval-clause-room t c = grind (arith, exprs)

pub put_expr-returns-in-OnRemote-clause-bytes : goal.put_expr-returns-in-OnRemote-clause-bytes
put_expr-returns-in-OnRemote-clause-bytes t c = grind (arith, exprs)

pub put_expr-returns-in-OnRemote-clause-room : goal.put_expr-returns-in-OnRemote-clause-room
put_expr-returns-in-OnRemote-clause-room t c = grind (arith, exprs)

pub put_expr-returns-in-OnNeighbor-clause-bytes : goal.put_expr-returns-in-OnNeighbor-clause-bytes
put_expr-returns-in-OnNeighbor-clause-bytes t c = grind (arith, exprs)

pub put_expr-returns-in-OnNeighbor-clause-room : goal.put_expr-returns-in-OnNeighbor-clause-room
put_expr-returns-in-OnNeighbor-clause-room t c = grind (arith, exprs)

pub put_exprs-offset_bounds-exprs-e-index : goal.put_exprs-offset_bounds-exprs-e-index
put_exprs-offset_bounds-exprs-e-index t c = grind (arith, exprs)

pub put_exprs-bounds-exprs-e-index : goal.put_exprs-bounds-exprs-e-index
put_exprs-bounds-exprs-e-index t c = grind (arith, exprs)

pub put_exprs-loop-e-smaller : goal.put_exprs-loop-e-smaller
put_exprs-loop-e-smaller t c = grind (arith, exprs)
