use Rattle.std.proofs.Common.{◌≡◌, ℕ, zero, suc, ◌-◌, ◌<◌, Ok, Err, refl, ◌∙◌, ap, arith}
use Rattle.containers.proofs.Binds.{bind_is, bind_err}
use Rattle.plan_base.specs.declared.tree.Ty.{Ty}
use Rattle.chunk_codec_spec.specs.declared.fault.SpellFault.{SpellFault}
use Rattle.chunk_codec_spec.specs.declared.tags.TypeTag.{TypeTag}
use Rattle.chunk_codec_spec.specs.Scan.{Scan}
use Rattle.chunk_codec_spec.specs.Parts.{Part, reads, tagged_at}
use Rattle.chunk_codec_spec.specs.Types.{type_part, type_core, type_tag_at, type_forms, type_of_parts}
use Rattle.chunk_codec.specs.Reading.{type_at, type_behind}

behind_is : (inner : Part Ty) (tag : TypeTag) (s : Scan) → reads (type_forms inner tag) (type_of_parts inner tag) s ≡ type_behind inner.read tag s
unfolding type_behind
behind_is inner TypeTag.Unit s = refl
behind_is inner TypeTag.Bool s = refl
behind_is inner TypeTag.Int s = refl
behind_is inner TypeTag.Char s = refl
behind_is inner TypeTag.Str s = refl
behind_is inner TypeTag.Blob s = refl
behind_is inner TypeTag.Host s = refl
behind_is inner TypeTag.Dev s = refl
behind_is inner TypeTag.Chunk s = refl
behind_is inner TypeTag.List s = refl
behind_is inner TypeTag.Tuple s = refl

pub type_goes : (room : ℕ) (f g : Scan) (tag : TypeTag) → type_tag_at room f ≡ Ok (tag, g) → 0 < room → type_at room f ≡ type_behind (type_at (room - 1)) tag g
unfolding type_core tagged_at
type_goes zero f g tag e h = absurd (omega (arith, h))
type_goes (suc room) f g tag e h =
    let same : room ≡ suc room - 1 = omega arith in
    bind_is _ e (behind_is (type_part room) tag g) ∙ ap (λ n. type_behind (type_at n) tag g) same

pub type_stops : (room : ℕ) (f : Scan) (e : SpellFault) → type_tag_at room f ≡ Err e → type_at room f ≡ Err e
unfolding type_core tagged_at
type_stops zero f e h = bind_err _ h
type_stops (suc room) f e h = bind_err _ h
