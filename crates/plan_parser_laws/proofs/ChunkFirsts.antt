-- The conditions of a chunk one after another.
use Rattle.std.proofs.Common.{◌≡◌, ℕ, suc, ◌+◌, Bool, true, false, List, [], ◌∷◌, length, Option, Some, None, Result, Ok, Err, ◌==◌, min, refl, sym, ◌∙◌, ap, subst, arith, slice_get, nat_le, ◌&&◌}
use Rattle.std.specs.Prelude.{◌↔◌, if◌then◌else◌, IsTrue}
use Rattle.std.specs.List.{list_all}
use Rattle.std.proofs.lemmas.Bool.{leb-true, le-leb}
use Rattle.std.proofs.lemmas.Bool.Decides.{nat_tests}
use Rattle.std.proofs.lemmas.List.{length-map}
use Rattle.containers.proofs.Bools.{and_left as left, and_right as right_of, and_both}
use Rattle.plan_base.specs.declared.tree.Ty.{Ty}
use Rattle.plan_base.specs.declared.tree.Fun.{Fun}
use Rattle.plan_base.specs.declared.tree.Program.{Program}
use Rattle.plan_base.specs.declared.tree.Value.{Value}
use Rattle.plan_base.specs.declared.tree.Chunk.{Chunk}
use Rattle.plan_types_spec.specs.declared.type_fault.TypeFault.{TypeFault}
use Rattle.plan_base.specs.Sizes.{nesting, chunk_weight, chunk_nesting, value_depth}
use Rattle.plan_base.specs.WellFormed.{IsWellFormedChunk, IsWellFormedValue, ValueHasTypes, ChunkHasTypes, formed_value, well_formed_value, value_has_types, program_has_types, well_formed_program, well_formed_chunk}
use Rattle.plan_types_spec.specs.Typing.{Typed, HasType}
use Rattle.plan_types_spec.specs.TypingNames.{param_types}
use Rattle.plan_types_spec.specs.TypingOrder.{fun_of, annotated_program}
use Rattle.plan_base.proofs.FormLaws.{formed_chunk_is, chunk_has_types_is}
use Rattle.plan_types_spec.proofs.Programs.{annotated_sound, annotated_complete, fills_itself, fills_full, depths_kept}
use Rattle.plan_types_chunks.specs.declared.fault.Ill.{Ill}
use Rattle.plan_types_chunks.specs.declared.fault.Ill.TheVariants.{Code, Count, Argument}
use Rattle.plan_types_chunks.specs.declared.fault.ChunkFault.{ChunkFault}
use Rattle.plan_types_chunks.specs.declared.fault.ChunkFault.TheVariants as fault
use Rattle.checked_chunks.specs.Kept.{is_small_chunk}
use Rattle.plan_types_chunks.specs.Chunks.{fits, sound, right, ill_from, ill_with, ill_call, ill_code, illness, as_fault, or_large, refusal_of}
use Rattle.plan_types_chunks.proofs.Values.{value_law}
use Rattle.plan_parser_laws.proofs.ProgramReadings.{first_is as first_of_code, one_refusal}
use Rattle.plan_parser_laws.specs.ChunkConditions.{Condition, of_code, of_entry, of_count, of_argument, of_size, Keeps, Blames, for_code, for_entry, for_count, for_argument, for_size, arguments_from}
use Rattle.plan_parser_laws.specs.ChunkConditions.{of_call, conditions, call_conditions, FirstFailing, here, later}

-- ---- answers of a list of conditions

AllKept : Chunk → List Condition → Type 0
AllKept c [] = Unit {0}
AllKept c (k ∷ more) = Keeps c k × AllKept c more

-- what is reported, or that all is kept
abbrev Stands : Chunk → List Condition → Option ChunkFault → Type 0
Stands c ks None = AllKept c ks
Stands c ks (Some f) = FirstFailing c f ks

-- what is ill, or else what comes after it
abbrev or_else : Option Ill → Option ChunkFault → Option ChunkFault
or_else (Some i) o = Some (fault.Ill i)
or_else None o = o

kept_first : (c : Chunk) (k : Condition) (more : List Condition) (o : Option ChunkFault) → Keeps c k → Stands c more o → Stands c (k ∷ more) o
unfolding AllKept
kept_first c k more None h s = (h, s)
kept_first c k more (Some f) h s = later k more h s

none_kept : (c : Chunk) → AllKept c []
unfolding AllKept
none_kept c = tt

never_both : (c : Chunk) (f : ChunkFault) (ks : List Condition) → AllKept c ks → FirstFailing c f ks → ⊥
unfolding AllKept
never_both c f _ a (here k more n b) = n a.0
never_both c f _ a (later k more h g) = never_both c f more a.1 g

same_blame : (c : Chunk) (k : Condition) (f g : ChunkFault) → Blames c k f → Blames c k g → f ≡ g
same_blame c _ _ _ (for_code f r) (for_code g s) = ap (λ e. fault.Ill (Code e)) (one_refusal c.code f g r s)
same_blame c _ _ _ for_entry for_entry = refl
same_blame c _ _ _ for_count for_count = refl
same_blame c _ _ _ (for_argument n) (for_argument _) = refl
same_blame c _ _ _ for_size for_size = refl

one_first : (c : Chunk) (f g : ChunkFault) (ks : List Condition) → FirstFailing c f ks → FirstFailing c g ks → f ≡ g
one_first c f g _ (here k more n b) (here _ _ m d) = same_blame c k f g b d
one_first c f g _ (here k more n b) (later _ _ h s) = absurd (n h)
one_first c f g _ (later k more h r) (here _ _ m d) = absurd (m h)
one_first c f g _ (later k more h r) (later _ _ m s) = one_first c f g more r s

-- an answer that stands for a list of conditions is that fault exactly where it is reported for the first that fails
fault_is_first : (c : Chunk) (ks : List Condition) (o : Option ChunkFault) (f : ChunkFault) → Stands c ks o → (o ≡ Some f) ↔ FirstFailing c f ks
fault_is_first c ks None f s = (λ h. absurd (cc), λ g. absurd (never_both c f ks s g))
fault_is_first c ks (Some e) f s = (λ h. (let same : e ≡ f = cc in subst (λ z. FirstFailing c z ks) same s), λ g. ap Some (one_first c e f ks s g))

-- ---- arguments

-- a value that may be an argument
record Good (v : Value) : Type 0 where
  formed : IsWellFormedValue v
  full : ValueHasTypes v

AllGood : List Value → Type 0
AllGood [] = Unit {0}
AllGood (v ∷ vs) = Good v × AllGood vs

first_good : (v : Value) (vs : List Value) → AllGood (v ∷ vs) → Good v
unfolding AllGood
first_good v vs g = g.0

rest_good : (v : Value) (vs : List Value) → AllGood (v ∷ vs) → AllGood vs
unfolding AllGood
rest_good v vs g = g.1

right_typed : (v : Value) (t : Ty) → Good v → right v t ≡ true → HasType v t
right_typed v t g h = (value_law v t g.formed g.full).1 (left (fits v t) (sound v) h, right_of (fits v t) (sound v) h)

typed_right : (v : Value) (t : Ty) → Good v → HasType v t → right v t ≡ true
typed_right v t g h = let r = (value_law v t g.formed g.full).0 h in and_both (fits v t) (sound v) r.0 r.1

module _ (c : Chunk) (d : Fun) (is : fun_of c.code c.entry ≡ Some d) where
  -- the argument at a place, and its type
  argument_kept : (n : ℕ) (v : Value) (t : Ty) → slice_get c.args n ≡ Some v → slice_get (param_types d.params) n ≡ Some t → HasType v t → Keeps c (of_argument n)
  argument_kept n v t a b h = λ e w u k p q.
      let same : d ≡ e = (let z : ◌≡◌ {A = Option Fun} (Some d) (Some e) = sym is ∙ k in cc) in
      let value : v ≡ w = (let z : ◌≡◌ {A = Option Value} (Some v) (Some w) = sym a ∙ p in cc) in
      let type : t ≡ u = (let z : ◌≡◌ {A = Option Ty} (Some t) (Some u) = sym b ∙ (ap (λ g. slice_get (param_types g.params) n) same ∙ q) in cc) in
      subst (λ x. HasType x u) value (subst (HasType v) type h)

  arguments_stand : (n : ℕ) (vs : List Value) (ts : List Ty) (more : List Condition) (o : Option ChunkFault) → ((j : ℕ) → slice_get c.args (n + j) ≡ slice_get vs j) → ((j : ℕ) → slice_get (param_types d.params) (n + j) ≡ slice_get ts j)
      → length vs ≡ length ts → AllGood vs → Stands c more o → Stands c (arguments_from n (length vs) more) (or_else (ill_from right (min n 255) vs ts) o)
  arguments_stand n [] ts more o lv lt same g s = s
  arguments_stand n (v ∷ vs) [] more o lv lt same g s = absurd (omega (arith, same))
  arguments_stand n (v ∷ vs) (t ∷ ts) more o lv lt same g s =
      by_right (right v t) refl
      (arguments_stand (n + 1) vs ts more o (λ j. (let e : n + 1 + j ≡ n + suc j = omega arith in ap (slice_get c.args) e ∙ lv (suc j)))
      (λ j. (let e : n + 1 + j ≡ n + suc j = omega arith in ap (slice_get (param_types d.params)) e ∙ lt (suc j))) (omega (arith, same)) (rest_good v vs g) s)
    where
      value_at : slice_get c.args n ≡ Some v
      value_at = let e : n ≡ n + 0 = omega arith in ap (slice_get c.args) e ∙ lv 0

      type_at : slice_get (param_types d.params) n ≡ Some t
      type_at = let e : n ≡ n + 0 = omega arith in ap (slice_get (param_types d.params)) e ∙ lt 0

      by_right : (b : Bool) → right v t ≡ b → Stands c (arguments_from (n + 1) (length vs) more) (or_else (ill_from right (min (n + 1) 255) vs ts) o)
          → Stands c (of_argument n ∷ arguments_from (n + 1) (length vs) more) (or_else (if b then ill_from right (min (min n 255 + 1) 255) vs ts else Some (Argument (min n 255))) o)
      by_right true e r =
          let next : min (n + 1) 255 ≡ min (min n 255 + 1) 255 = omega arith in
          kept_first c (of_argument n) (arguments_from (n + 1) (length vs) more) (or_else (ill_from right (min (min n 255 + 1) 255) vs ts) o) (argument_kept n v t value_at type_at (right_typed v t (first_good v vs g) e))
          (subst (λ m. Stands c (arguments_from (n + 1) (length vs) more) (or_else (ill_from right m vs ts) o)) next r)
      by_right false e r =
          here (of_argument n) (arguments_from (n + 1) (length vs) more)
          (λ k. let h = typed_right v t (first_good v vs g) (k d v t is value_at type_at) in let z : true ≡ false = sym h ∙ e in cc)
          (for_argument n)

-- ---- the whole

module _ (c : Chunk) (g : AllGood c.args) (more : List Condition) (o : Option ChunkFault) (s : Stands c more o) where
  call_stands : (q : Option Fun) → fun_of c.code c.entry ≡ q → Stands c (of_call c more) (or_else (ill_with right c.args q) o)
  call_stands None e = here of_entry (of_count ∷ arguments_from 0 (length c.args) more) (λ k. let z : ◌≡◌ {A = Option Fun} None (Some k.0) = sym e ∙ k.1 in cc) for_entry
  call_stands (Some d) e =
      kept_first c of_entry (of_count ∷ arguments_from 0 (length c.args) more) (or_else (ill_with right c.args (Some d)) o) (d, e) (by_count (length c.args == length d.params) refl)
    where
      same_fun : (f : Fun) → fun_of c.code c.entry ≡ Some f → d ≡ f
      same_fun f h = let z : ◌≡◌ {A = Option Fun} (Some d) (Some f) = sym e ∙ h in cc

      by_count : (b : Bool) → (length c.args == length d.params) ≡ b → Stands c (of_count ∷ arguments_from 0 (length c.args) more) (or_else (if b then ill_from right 0 c.args (param_types d.params) else Some Count) o)
      by_count true q =
          let same : length c.args ≡ length d.params = grind (arith, nat_tests) in
          let types : length c.args ≡ length (param_types d.params) = same ∙ sym (length-map d.params (λ p. p.ty)) in
          kept_first c of_count (arguments_from 0 (length c.args) more) (or_else (ill_from right 0 c.args (param_types d.params)) o) (λ f h. same ∙ ap (λ x. length x.params) (same_fun f h))
          (arguments_stand c d e 0 c.args (param_types d.params) more o (λ j. let z : 0 + j ≡ j = omega arith in ap (slice_get c.args) z) (λ j. let z : 0 + j ≡ j = omega arith in ap (slice_get (param_types d.params)) z) types g s)
      by_count false q =
          here of_count (arguments_from 0 (length c.args) more) (λ k. let same = k d e in let z : (length c.args == length d.params) ≡ true = grind (arith, nat_tests) in let y : true ≡ false = sym z ∙ q in cc) for_count

code_stands : (c : Chunk) → AllGood c.args → well_formed_program c.code ≡ true → program_has_types c.code ≡ true → (r : Result Program TypeFault) → annotated_program c.code ≡ r
    → Stands c (conditions c) (or_else (ill_code r (ill_call right c.code c.entry c.args)) None)
code_stands c g w f (Err e) q =
    here of_code (of_call c [])
    (λ t. let z : ◌≡◌ {A = Result Program TypeFault} (Ok c.code) (Err e) = sym (annotated_complete c.code c.code (depths_kept c.code w) (fills_itself c.code t) t) ∙ q in cc)
    (for_code e ((first_of_code c.code w e).0 q))
code_stands c g w f (Ok p) q =
    let s = annotated_sound c.code p q in
    let same : p ≡ c.code = fills_full c.code p f s.0 in
    kept_first c of_code (of_call c []) (or_else (ill_call right c.code c.entry c.args) None) (subst Typed same s.1) (call_stands c g [] None (none_kept c) (fun_of c.code c.entry) refl)

-- ---- the arguments of a well-formed chunk, and of a call

shallow_good : (vs : List Value) → list_all (λ v. formed_value v && nat_le (value_depth v) 8) vs ≡ true → list_all (λ v. nat_le (nesting v) 3) vs ≡ true → list_all value_has_types vs ≡ true → AllGood vs
unfolding AllGood well_formed_value
shallow_good [] f s h = tt
shallow_good (v ∷ vs) f s h =
    let shape = left (formed_value v && nat_le (value_depth v) 8) (list_all (λ v. formed_value v && nat_le (value_depth v) 8) vs) f in
    let deep = right_of (formed_value v) (nat_le (value_depth v) 8) shape in
    let nest = leb-true (nesting v) 3 (left (nat_le (nesting v) 3) (list_all (λ v. nat_le (nesting v) 3) vs) s) in (
      record {
        formed = and_both (formed_value v) (nat_le (value_depth v) 8 && nat_le (nesting v) 4) (left (formed_value v) (nat_le (value_depth v) 8) shape)
            (and_both (nat_le (value_depth v) 8) (nat_le (nesting v) 4) deep (le-leb (nesting v) 4 (omega (arith, nest))));
        full = left (value_has_types v) (list_all value_has_types vs) h;
      },
      shallow_good vs (right_of (formed_value v && nat_le (value_depth v) 8) (list_all (λ v. formed_value v && nat_le (value_depth v) 8) vs) f) (right_of (nat_le (nesting v) 3) (list_all (λ v. nat_le (nesting v) 3) vs) s)
          (right_of (value_has_types v) (list_all value_has_types vs) h),
    )

formed_good : (vs : List Value) → list_all well_formed_value vs ≡ true → list_all value_has_types vs ≡ true → AllGood vs
unfolding AllGood
formed_good [] f h = tt
formed_good (v ∷ vs) f h = (
  record { formed = left (well_formed_value v) (list_all well_formed_value vs) f; full = left (value_has_types v) (list_all value_has_types vs) h },
  formed_good vs (right_of (well_formed_value v) (list_all well_formed_value vs) f) (right_of (value_has_types v) (list_all value_has_types vs) h),
)

-- ---- the laws

module _ (c : Chunk) (w : IsWellFormedChunk c) (f : ChunkHasTypes c) where
  shape : (well_formed_program c.code && (nat_le (length c.args) 8 && list_all (λ v. formed_value v && nat_le (value_depth v) 8) c.args)) ≡ true
  unfolding well_formed_chunk
  shape = sym (formed_chunk_is c) ∙ left _ _ w

  nests : list_all (λ v. nat_le (nesting v) 3) c.args ≡ true
  unfolding well_formed_chunk
  nests = right_of _ _ w

  types : (program_has_types c.code && list_all value_has_types c.args) ≡ true
  types = sym (chunk_has_types_is c) ∙ f

  good : AllGood c.args
  good = shallow_good c.args (right_of (nat_le (length c.args) 8) _ (right_of (well_formed_program c.code) _ shape)) nests (right_of (program_has_types c.code) _ types)

  stands : Stands c (conditions c) (or_else (illness c) None)
  unfolding illness
  stands = code_stands c good (left (well_formed_program c.code) _ shape) (left (program_has_types c.code) _ types) (annotated_program c.code) refl

  pub first_is : (i : Ill) → (illness c ≡ Some i) ↔ FirstFailing c (fault.Ill i) (conditions c)
  first_is i =
      let a = fault_is_first c (conditions c) (or_else (illness c) None) (fault.Ill i) stands in
      (λ h. a.0 (ap (λ o. or_else o None) h), λ g. back (illness c) (a.1 g))
    where
      back : (o : Option Ill) → or_else o None ≡ Some (fault.Ill i) → o ≡ Some i
      back None e = absurd (cc)
      back (Some j) e = let same : j ≡ i = cc in ap Some same

too_large : Bool → Option ChunkFault
too_large true = None
too_large false = Some fault.TooLarge

size_stands : (c : Chunk) → Stands c (of_size ∷ []) (too_large (is_small_chunk c))
unfolding too_large AllKept
size_stands c = go (is_small_chunk c) refl
  where
    go : (b : Bool) → is_small_chunk c ≡ b → Stands c (of_size ∷ []) (too_large b)
    go true e = (
      (leb-true (1 + chunk_weight c) 16384 (left (nat_le (1 + chunk_weight c) 16384) (nat_le (chunk_nesting c) 4) e), leb-true (chunk_nesting c) 4 (right_of (nat_le (1 + chunk_weight c) 16384) (nat_le (chunk_nesting c) 4) e)),
      tt,
    )
    go false e =
        here of_size []
        (λ k. let h = and_both (nat_le (1 + chunk_weight c) 16384) (nat_le (chunk_nesting c) 4) (le-leb (1 + chunk_weight c) 16384 k.0) (le-leb (chunk_nesting c) 4 k.1) in let z : true ≡ false = sym h ∙ e in cc)
        for_size

in_turn : (b : Bool) (o : Option Ill) → or_large b (as_fault o) ≡ or_else o (too_large b)
unfolding too_large
in_turn true None = refl
in_turn false None = refl
in_turn true (Some i) = refl
in_turn false (Some i) = refl

pub call_first : (c : Chunk) (f : ChunkFault) → IsTrue (list_all well_formed_value c.args) → IsTrue (list_all value_has_types c.args) → (refusal_of c ≡ Some f) ↔ FirstFailing c f (call_conditions c)
call_first c f w h =
    fault_is_first c (call_conditions c) (refusal_of c) f
    (subst (Stands c (call_conditions c)) (sym (in_turn (is_small_chunk c) (ill_call right c.code c.entry c.args)))
    (call_stands c (formed_good c.args w h) (of_size ∷ []) (too_large (is_small_chunk c)) (size_stands c) (fun_of c.code c.entry) refl))
