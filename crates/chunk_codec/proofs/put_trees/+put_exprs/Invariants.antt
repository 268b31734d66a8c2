use Rattle.chunk_codec_spec.specs.Exprs.{expr_bytes, clause_bytes}
use Rattle.chunk_codec_spec.specs.Kept.{expr_kept, clause_kept}
use Rattle.chunk_codec.proofs.Puts.{Written}
use Rattle.chunk_codec.proofs.put_trees.+put_exprs.Given as goal

abbrev pub invariant-put_exprs-loop-e : goal.invariant-put_exprs-loop-e
invariant-put_exprs-loop-e l = Written expr_bytes expr_kept l.exprs l.e-index l.fn.out.bytes l.fn.out.room l.out.bytes l.out.room

abbrev pub invariant-put_clauses-loop-c : goal.invariant-put_clauses-loop-c
invariant-put_clauses-loop-c l = Written clause_bytes clause_kept l.clauses l.c-index l.fn.out.bytes l.fn.out.room l.out.bytes l.out.room
