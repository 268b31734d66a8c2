use Rattle.std.proofs.Common.{◌≡◌, ℕ, zero, suc, ◌<◌, List, [], ◌∷◌, ◌++◌, length, Bool, Some, Ok, refl, sym, ◌∙◌, ap, subst, arith, append-nil, sum_by}
use Rattle.std.proofs.lemmas.List.{length-map}
use Rattle.std.proofs.lemmas.List.Sums.{sum_by-cons}
use Rattle.std.specs.Prelude.{map}
use Rattle.std.specs.List.{flat_map}
use Rattle.containers.specs.Reading.{◌>>=◌}
use Rattle.containers.proofs.Binds.{bind_ok, bind_is}
use Rattle.plan_base.specs.declared.limit.Limit.{Limit}
use Rattle.plan_base.specs.declared.tree.Ty.{Ty, Ty-F, out-Ty, roll-Ty, roll-out-Ty, map-Ty, fold_out-Ty}
use Rattle.plan_base.specs.declared.tree.Ty.TheVariants as ty
use denote.Hole.Carrier.{roll, out}
use Rattle.chunk_codec_spec.specs.declared.tags.TypeTag.{TypeTag}
use Rattle.chunk_codec_spec.specs.declared.tags.TheConstants.{TYPE_TAGS}
use Rattle.chunk_codec_spec.specs.Items.{ChunkItem, a_type}
use Rattle.chunk_codec_spec.specs.Steps.{step}
use Rattle.chunk_codec_spec.specs.Scan.{Scan, table_field, tag_of}
use Rattle.chunk_codec_spec.specs.Parts.{Part, Core, Parts, PartValues, items_of_parts}
use Rattle.chunk_codec_spec.specs.Types.{type_bytes, type_bytes_level, type_tag_at, type_forms, type_of_parts, type_parts, no_type, type_from, type_within, type_core, type_part}
use Rattle.chunk_codec_spec.proofs.Took.{Took}
use Rattle.std.proofs.lemmas.Bool.{ltb-true, lt-ltb}
use Rattle.chunk_codec_spec.proofs.FieldLaws.{allowed_ok, allowed_is}
use Rattle.chunk_codec_spec.proofs.LeafLaws.{Table, table_takes, table_again}
use Rattle.chunk_codec_spec.proofs.PartLaws.{Lawful, AllLawful, Tag, FormIs, several_lawful, formed_lawful}

pub flat_map-map : {X : Type 0} (f : X → List ℕ) (xs : List X) → flat_map (λ bs. bs) (map f xs) ≡ flat_map f xs
flat_map-map f [] = refl
flat_map-map f (x ∷ xs) = ap (λ bs. f x ++ bs) (flat_map-map f xs)

pub flat_same : {X : Type 0} (f g : X → List ℕ) → ((x : X) → f x ≡ g x) → (xs : List X) → flat_map (λ bs. bs) (map f xs) ≡ flat_map g xs
flat_same f g e xs = flat_map-map f xs ∙ (λ i. flat_map (λ x. e x i) xs)

type_bytes_step : (f : Ty → List ℕ) (x : Ty-F Ty) → type_bytes_level (λ bytes. bytes) (map-Ty Ty (List ℕ) f x) ≡ type_bytes_level f x
type_bytes_step f (Ty-F.Tuple ts) = (λ i. 10 ∷ length-map ts f i ∷ flat_map-map f ts i)
type_bytes_step f _ = refl

pub type_bytes_out : (t : Ty) → type_bytes t ≡ type_bytes_level type_bytes (out-Ty t)
unfolding type_bytes
type_bytes_out t = fold_out-Ty (List ℕ) (type_bytes_level (λ bytes. bytes)) t ∙ type_bytes_step type_bytes (out-Ty t)

-- the tag of each form
abbrev type_byte : TypeTag → ℕ
type_byte TypeTag.Unit = 0x00
type_byte TypeTag.Bool = 0x01
type_byte TypeTag.Int = 0x02
type_byte TypeTag.Char = 0x03
type_byte TypeTag.Str = 0x04
type_byte TypeTag.Blob = 0x05
type_byte TypeTag.Host = 0x06
type_byte TypeTag.Dev = 0x07
type_byte TypeTag.Chunk = 0x08
type_byte TypeTag.List = 0x09
type_byte TypeTag.Tuple = 0x0a

type_table_all : (t : TypeTag) → tag_of 0x00 TYPE_TAGS (type_byte t) ≡ Some t
type_table_all TypeTag.Unit = refl
type_table_all TypeTag.Bool = refl
type_table_all TypeTag.Int = refl
type_table_all TypeTag.Char = refl
type_table_all TypeTag.Str = refl
type_table_all TypeTag.Blob = refl
type_table_all TypeTag.Host = refl
type_table_all TypeTag.Dev = refl
type_table_all TypeTag.Chunk = refl
type_table_all TypeTag.List = refl
type_table_all TypeTag.Tuple = refl

type_table : Table 0x00 TYPE_TAGS type_byte
type_table = record { numbered = (refl, (refl, (refl, (refl, (refl, (refl, (refl, (refl, (refl, (refl, (refl, tt))))))))))); all = type_table_all }

type_tag : (room : ℕ) → Tag (type_tag_at room) (λ _. 0 < room) type_byte 0
unfolding type_tag_at
type_tag room = record {
  may = λ f g t e.
      let b = bind_ok (table_field 0x00 TYPE_TAGS f) _ _ e in
      let a = allowed_ok _ _ b.first (t, g) b.then_read in
      ltb-true 0 room a.0;
  takes = λ f g t h k e.
      let b = bind_ok (table_field 0x00 TYPE_TAGS f) _ _ e in
      let a = allowed_ok _ _ b.first (t, g) b.then_read in
      let P : TypeTag × Scan → Type 0 = λ q. Took f (type_byte q.0 ∷ []) 0 q.1 in
      let took : Took f (type_byte t ∷ []) 0 g = subst P a.1 (table_takes 0x00 TYPE_TAGS type_byte type_table f b.first.1 b.first.0 h b.read) in
      (took, omega (arith, took.count));
  again = λ f g t a took k. bind_is _ (table_again 0x00 TYPE_TAGS type_byte type_table f g t took) (allowed_is _ _ (t, g) (lt-ltb 0 room a));
}

pub no_sum : {X : Type 0} (f : X → ℕ) → ((x : X) → f x ≡ 0) → (xs : List X) → sum_by f xs ≡ 0
no_sum f e [] = refl
no_sum f e (x ∷ xs) = sum_by-cons f x xs ∙ (let a = e x in let b = no_sum f e xs in omega (arith, a, b))

module _ (room below : ℕ) (core : Core Ty) where
  abbrev deeper : Part Ty
  deeper = type_from below core

  level_is : (x : Ty-F Ty) → FormIs type_byte 0 (type_forms deeper) (type_of_parts deeper) (type_parts deeper x) (roll-Ty x) (type_bytes_level type_bytes x) 0
  unfolding roll-Ty roll
  level_is (Ty-F.List t) = (sym (ty.rolls-List t), (λ i. 9 ∷ sym (append-nil (type_bytes t)) i), omega arith)
  level_is (Ty-F.Tuple ts) = (sym (ty.rolls-Tuple ts), (λ i. 10 ∷ sym (append-nil (length ts ∷ flat_map type_bytes ts)) i), (let a = no_sum deeper.nodes (λ _. refl) ts in omega (arith, a)))
  level_is _ = (refl, refl, refl)

  is_form : (t : Ty) → FormIs type_byte 0 (type_forms deeper) (type_of_parts deeper) (type_parts deeper (out-Ty t)) t (type_bytes t) 0
  is_form t =
      let P : Ty → Type 0 = λ y. FormIs type_byte 0 (type_forms deeper) (type_of_parts deeper) (type_parts deeper (out-Ty t)) y (type_bytes_level type_bytes (out-Ty t)) 0 in
      let Q : List ℕ → Type 0 = λ bs. FormIs type_byte 0 (type_forms deeper) (type_of_parts deeper) (type_parts deeper (out-Ty t)) t bs 0 in
      subst Q (sym (type_bytes_out t)) (subst P (roll-out-Ty t) (level_is (out-Ty t)))

  form_is : (tag : TypeTag) (xs : PartValues (type_forms deeper tag)) → type_parts deeper (out-Ty (type_of_parts deeper tag xs)) ≡ Some (tag, xs)
  unfolding out-Ty out
  form_is TypeTag.List xs = ap (type_parts deeper) (ty.outs-List xs.0)
  form_is TypeTag.Tuple xs = ap (type_parts deeper) (ty.outs-Tuple xs.0)
  form_is _ xs = refl

  all_lawful : (tag : TypeTag) → Lawful deeper → AllLawful (type_forms deeper tag)
  all_lawful TypeTag.List k = (k, tt)
  all_lawful TypeTag.Tuple k = (several_lawful Limit.Parts 2 8 deeper k, tt)
  all_lawful _ k = tt

  within_lawful : (0 < room → Lawful deeper) → ((more : List ChunkItem) (f : Scan) → step (a_type room) more f ≡ (type_tag_at room f >>= λ t. Ok (items_of_parts (type_forms deeper t.0) more, t.1)))
      → Lawful (type_from room (type_within room deeper))
  within_lawful l steps =
      formed_lawful (a_type room) (type_tag_at room) (λ _. 0 < room) type_byte 0 (type_forms deeper) (type_of_parts deeper) (λ t. type_parts deeper (out-Ty t)) type_bytes (λ _. 0)
      (type_tag room) (λ tag allowed. all_lawful tag (l allowed)) is_form form_is steps

-- a type is read exactly where it is spelled, else its first fault is the answer
pub type_lawful : (room : ℕ) → Lawful (type_part room)
unfolding type_core
type_lawful zero = within_lawful 0 0 no_type (λ a. absurd (omega (arith, a))) (λ more f. refl)
type_lawful (suc room) = within_lawful (suc room) room (type_core room) (λ _. type_lawful room) (λ more f. refl)
