use Rattle.std.proofs.Common.{◌≡◌, ℕ, zero, suc, ◌-◌, ◌<◌, Ok, Err, refl, ◌∙◌, ap, arith}
use Rattle.std.specs.Prelude.{IsTrue}
use Rattle.std.proofs.lemmas.Bool.{ltb-true}
use Rattle.containers.specs.Reading.{◌>>=◌}
use Rattle.containers.proofs.Binds.{bind_is, bind_err}
use Rattle.plan_base.specs.declared.tree.Value.{Value}
use Rattle.plan_base.specs.declared.tree.Chunk.{Chunk}
use Rattle.chunk_codec_spec.specs.declared.fault.SpellFault.{SpellFault}
use Rattle.chunk_codec_spec.specs.declared.tags.ValueTag.{ValueTag}
use Rattle.chunk_codec_spec.specs.Scan.{Scan, Reader}
use Rattle.chunk_codec_spec.specs.Parts.{Part, reads, tagged_at}
use Rattle.chunk_codec_spec.specs.Programs.{program_at, counting, counting_on, judged_code}
use Rattle.chunk_codec_spec.specs.Values.{may_open, value_tag_at, value_forms, value_of_parts, value_from, chunk_from, no_value, no_chunk, values_within, value_core, value_part, chunk_part, chunk_at, judged_weight}
use Rattle.chunk_codec.specs.Reading.{value_at, value_behind, chunk_fields, chunk_read, program_fields, param_at, service_at, function_at}

behind_by : (inner : Part Value) (chunk : Part Chunk) (tag : ValueTag) (s : Scan)
    → reads (value_forms inner chunk tag) (value_of_parts inner chunk tag) s ≡ value_behind inner.read chunk.read tag s
unfolding value_behind
behind_by inner chunk ValueTag.Unit s = refl
behind_by inner chunk ValueTag.Bool s = refl
behind_by inner chunk ValueTag.Int s = refl
behind_by inner chunk ValueTag.Char s = refl
behind_by inner chunk ValueTag.Str s = refl
behind_by inner chunk ValueTag.Blob s = refl
behind_by inner chunk ValueTag.Host s = refl
behind_by inner chunk ValueTag.Dev s = refl
behind_by inner chunk ValueTag.Chunk s = refl
behind_by inner chunk ValueTag.List s = refl
behind_by inner chunk ValueTag.Tuple s = refl

-- only the readers that may be used matter
behind_same : (nest room : ℕ) (a b : Reader Value) (c d : Reader Chunk) (tag : ValueTag) (s : Scan) → IsTrue (may_open nest room tag)
    → (0 < room → a ≡ b) → (0 < nest → c ≡ d) → value_behind a c tag s ≡ value_behind b d tag s
unfolding value_behind
behind_same nest room a b c d ValueTag.Unit s h e k = refl
behind_same nest room a b c d ValueTag.Bool s h e k = refl
behind_same nest room a b c d ValueTag.Int s h e k = refl
behind_same nest room a b c d ValueTag.Char s h e k = refl
behind_same nest room a b c d ValueTag.Str s h e k = refl
behind_same nest room a b c d ValueTag.Blob s h e k = refl
behind_same nest room a b c d ValueTag.Host s h e k = refl
behind_same nest room a b c d ValueTag.Dev s h e k = refl
behind_same nest room a b c d ValueTag.Chunk s h e k = ap (λ r. value_behind a r ValueTag.Chunk s) (k (ltb-true 0 nest h))
behind_same nest room a b c d ValueTag.List s h e k = ap (λ r. value_behind r c ValueTag.List s) (e (ltb-true 0 room h))
behind_same nest room a b c d ValueTag.Tuple s h e k = ap (λ r. value_behind r c ValueTag.Tuple s) (e (ltb-true 0 room h))

pub value_goes : (nest room : ℕ) (f g : Scan) (tag : ValueTag) → value_tag_at nest room f ≡ Ok (tag, g) → IsTrue (may_open nest room tag)
    → value_at nest room f ≡ value_behind (value_at nest (room - 1)) (chunk_read (nest - 1)) tag g
unfolding value_core values_within tagged_at
value_goes zero zero f g tag e h =
    bind_is _ e (behind_by (value_from 0 0 no_value) (chunk_from 0 no_chunk) tag g)
    ∙ behind_same 0 0 _ _ _ _ tag g h (λ a. absurd (omega (arith, a))) (λ a. absurd (omega (arith, a)))
value_goes zero (suc room) f g tag e h =
    let same : room ≡ suc room - 1 = omega arith in
    bind_is _ e (behind_by (value_part 0 room) (chunk_from 0 no_chunk) tag g)
    ∙ behind_same 0 (suc room) _ _ _ _ tag g h (λ _. ap (value_at 0) same) (λ a. absurd (omega (arith, a)))
value_goes (suc nest) zero f g tag e h =
    let same : nest ≡ suc nest - 1 = omega arith in
    bind_is _ e (behind_by (value_from (suc nest) 0 no_value) (chunk_part nest) tag g)
    ∙ behind_same (suc nest) 0 _ _ _ _ tag g h (λ a. absurd (omega (arith, a))) (λ _. ap chunk_read same)
value_goes (suc nest) (suc room) f g tag e h =
    let same : room ≡ suc room - 1 = omega arith in
    let also : nest ≡ suc nest - 1 = omega arith in
    bind_is _ e (behind_by (value_part (suc nest) room) (chunk_part nest) tag g)
    ∙ behind_same (suc nest) (suc room) _ _ _ _ tag g h (λ _. ap (value_at (suc nest)) same) (λ _. ap chunk_read also)

pub value_stops : (nest room : ℕ) (f : Scan) (e : SpellFault) → value_tag_at nest room f ≡ Err e → value_at nest room f ≡ Err e
unfolding value_core values_within tagged_at
value_stops zero zero f e h = bind_err _ h
value_stops zero (suc room) f e h = bind_err _ h
value_stops (suc nest) zero f e h = bind_err _ h
value_stops (suc nest) (suc room) f e h = bind_err _ h

-- a chunk is its fields, and then it is judged
pub chunk_goes : (nest : ℕ) (f : Scan) → chunk_read nest f ≡ (chunk_fields (value_at nest 8) f >>= λ c. judged_weight nest f.front.at c)
unfolding chunk_at chunk_fields
chunk_goes nest f = refl

-- a program is its fields, counted from none, and then it is judged
pub program_goes : (f : Scan) → program_at f ≡ (program_fields (counting 0 f) >>= λ p. judged_code f.front.at (counting_on f.nodes p))
unfolding program_at program_fields param_at service_at function_at
program_goes f = refl
