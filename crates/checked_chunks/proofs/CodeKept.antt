-- The code of a checked chunk was checked.
use Rattle.std.proofs.Common.{◌≡◌, ◌∙◌, sym, subst, ◌&&◌}
use Rattle.std.specs.Prelude.{length, nat_le}
use Rattle.std.specs.List.{list_all}
use Rattle.containers.proofs.Bools.{and_left}
use Rattle.plan_base.specs.declared.tree.Program.{Program}
use Rattle.plan_base.specs.declared.tree.Chunk.{Chunk}
use Rattle.plan_base.specs.Sizes.{nesting, value_depth}
use Rattle.plan_base.specs.WellFormed.{well_formed_program, formed_value, formed_chunk, well_formed_chunk, value_has_types, program_has_types}
use Rattle.plan_base.proofs.FormLaws.{formed_chunk_is, chunk_has_types_is}
use Rattle.plan_types_spec.specs.Typing.{Typed, IsTypedChunk, within}
use Rattle.checked_chunks.specs.Kept.{IsChecked, IsCheckedChunk}

-- the same program was checked too
pub checked_too : (p q : Program) → p ≡ q → IsChecked p → IsChecked q
checked_too p q e k = subst (λ z. IsChecked z) e k

code_typed : {c : Chunk} → IsTypedChunk c → Typed c.code
code_typed (within at d t p g h n w) = t

-- the code of a checked chunk was checked
pub code_checked : (c : Chunk) (p : Program) → p ≡ c.code → IsCheckedChunk c → IsChecked p
unfolding well_formed_chunk
code_checked c p e k =
    let formed = and_left (formed_chunk c) (list_all (λ v. nat_le (nesting v) 3) c.args) k.formed in
    checked_too c.code p (sym e) (record {
      typed = code_typed k.typed;
      formed = and_left (well_formed_program c.code) (nat_le (length c.args) 8 && list_all (λ v. formed_value v && nat_le (value_depth v) 8) c.args) (sym (formed_chunk_is c) ∙ formed);
      full = and_left (program_has_types c.code) (list_all value_has_types c.args) (sym (chunk_has_types_is c) ∙ k.full);
    })
