-- The program of a port is typed and within the limits, and so are its chunks.
use Rattle.std.proofs.Common.{◌≡◌, ℕ, ◌+◌, ◌≤◌, true, ◌&&◌, List, [], ◌∷◌, length, max, None, refl, sym, ap, ◌∙◌, subst, arith}
use Rattle.std.specs.Prelude.{ℤ, pos, nat_le, codes, FitsSigned}
use Rattle.std.specs.Int.{w64}
use Rattle.std.specs.List.{list_all}
use Rattle.std.proofs.lemmas.Bool.{le-leb}
use Rattle.plan_base.specs.Words.{is_name, is_word, is_reserved, IsName}
use Rattle.plan_base.specs.declared.ids.Host.{Host}
use Rattle.plan_base.specs.declared.tree.Ty.{Ty}
use Rattle.plan_base.specs.declared.tree.Ty.TheVariants as ty
use Rattle.plan_base.specs.declared.tree.Expr.{Expr}
use Rattle.plan_base.specs.declared.tree.Expr.TheVariants as expr
use Rattle.plan_base.specs.declared.name.Name.{Name}
use Rattle.plan_base.specs.declared.tree.Program.{Program}
use Rattle.plan_base.specs.declared.tree.Value.{Value, Value-F, out-Value}
use Rattle.plan_base.specs.declared.tree.Value.TheVariants as value
use Rattle.plan_base.specs.declared.tree.Chunk.{Chunk}
use Rattle.plan_base.specs.Trees.{ValueLayer}
use Rattle.plan_base.specs.Sizes.{code_size, weight_level, weight, chunk_weight, nesting_level, nesting, chunk_nesting, value_depth_level, value_depth}
use Rattle.plan_base.specs.WellFormed.{well_formed_program, formed_value_level, formed_value, formed_chunk, well_formed_chunk, program_has_types, typed_value_level, value_has_types, chunk_has_types}
use Rattle.plan_base.proofs.SizeLaws.{weight_out, nesting_out, value_depth_out, chunk_weight_is, chunk_nesting_is}
use Rattle.plan_base.proofs.FormLaws.{formed_value_out, value_has_types_out, formed_chunk_is, chunk_has_types_is}
use Rattle.plan_types_spec.specs.Typing.{Ctx, called_names, Typed, IsTypedChunk, no_values, and_value, int, blob, host, within}
use Rattle.plan_types_spec.specs.TypingNames.{prim_of, are_callable}
use Rattle.checked_chunks.specs.Kept.{IsChecked, IsCheckedChunk}
use Rattle.program_text_laws.proofs.Built.{BuiltType, no_types, and_type, unit_type, bool_type, int_type, blob_type, host_type, tuple_type, Built, AreBuilt, none_built, and_built, var_built, int_built, bytes_built}
use Rattle.program_text_laws.proofs.Built.{tuple_built, serving_built, packing_built, choice_built, remote_built}
use Rattle.program_text_laws.proofs.BuiltPrograms.{BuiltSvcs, no_svcs, and_svc, no_params, and_param, BuiltFuns, no_funs, and_fun, BuiltProgram, built_program}
use Rattle.reliable_ports.specs.Programs as port
use Rattle.reliable_ports.specs.Programs.{this_host_is, get_rb, deliver, delivered_type, param, port_services, port_program, data_fun, data_params, data_body, ack_fun, ack_params, ack_body, data_args, data_chunk, ack_args, ack_chunk}

-- ---- names and types

names : IsName (codes "thisHostIs") × IsName (codes "getRB") × IsName (codes "deliver") × IsName (codes "dest") × IsName (codes "seq") × IsName (codes "body") × IsName (codes "next") × IsName (codes "data") × IsName (codes "ack")
    × IsName (codes "defaultRoute")
unfolding is_name is_word is_reserved
names = (refl, refl, refl, refl, refl, refl, refl, refl, refl, refl)

-- no service has the name of a primitive
not_prim : (prim_of (codes "thisHostIs") ≡ None) × (prim_of (codes "getRB") ≡ None) × (prim_of (codes "deliver") ≡ None)
unfolding prim_of
not_prim = (refl, refl, refl)

own_calls : are_callable [] (called_names port_program) ≡ true
unfolding prim_of
own_calls = refl

delivered : BuiltType delivered_type 4 2
delivered = tuple_type (ty.Int ∷ ty.Blob ∷ []) refl (and_type int_type (and_type blob_type no_types)) (omega arith)

small_int : (n : ℕ) → n ≤ 2 → FitsSigned w64 (pos n)
small_int n h = record { sfits = omega (arith, h) }

-- ---- bodies

module _ (seen : ℕ) (c : Ctx) where
  -- an expression of a type where these are bound
  abbrev Has : Expr → Ty → ℕ → ℕ → Type 0
  Has e t m d = Built port_program seen c e t m d

  none : AreBuilt port_program seen c [] [] 0 0
  none = none_built port_program seen c

  module _ (d : Has port.dest ty.Host 6 1) where
    arrived_built : Has port.arrived_test ty.Bool 19 2
    arrived_built = serving_built port_program seen c (codes "thisHostIs") (port.dest ∷ []) this_host_is names.0 refl not_prim.0 refl (and_built port_program seen c d none)

    goes_on_built : (k : Expr) {m n : ℕ} → Has k ty.Chunk m n → Has (port.goes_on k) ty.Unit (m + 6 + 8 + 12 + 2) (max n 1 + 1)
    goes_on_built k h = remote_built port_program seen c (codes "defaultRoute") names.9 h d (serving_built port_program seen c (codes "getRB") [] get_rb names.1 refl not_prim.1 refl none)

  delivers_built : (n : ℕ) (a b : Expr) (i j : ℕ) → n ≤ 2 → Has a ty.Int i 1 → Has b ty.Blob j 1
      → Has (port.delivers (expr.Int (pos n)) (expr.Tuple (a ∷ b ∷ []))) ty.Unit (9 + (i + (j + 0) + 2 + 0) + 7 + 3) 3
  delivers_built n a b i j l h k =
      serving_built port_program seen c (codes "deliver") (expr.Int (pos n) ∷ expr.Tuple (a ∷ b ∷ []) ∷ []) deliver names.2 refl not_prim.2 refl
      (and_built port_program seen c (int_built port_program seen c (pos n) (small_int n l))
      (and_built port_program seen c (tuple_built port_program seen c (a ∷ b ∷ []) (ty.Int ∷ ty.Blob ∷ []) refl delivered (and_built port_program seen c h (and_built port_program seen c k none))) none))

data_built : Built port_program 0 data_params data_body ty.Unit 104 4
data_built =
    choice_built port_program 0 data_params (arrived_built 0 data_params the_dest) (delivers_built 0 data_params 1 port.seq port.body 5 6 (omega arith) the_seq the_body)
    (goes_on_built 0 data_params the_dest port.data_again
    (packing_built port_program 0 data_params (codes "data") (port.dest ∷ port.seq ∷ port.body ∷ []) 0 data_fun names.7 refl refl refl
    (and_built port_program 0 data_params the_dest (and_built port_program 0 data_params the_seq (and_built port_program 0 data_params the_body (none 0 data_params))))))
  where
    the_dest : Built port_program 0 data_params port.dest ty.Host 6 1
    the_dest = var_built port_program 0 data_params (codes "dest") names.3 refl

    the_seq : Built port_program 0 data_params port.seq ty.Int 5 1
    the_seq = var_built port_program 0 data_params (codes "seq") names.4 refl

    the_body : Built port_program 0 data_params port.body ty.Blob 6 1
    the_body = var_built port_program 0 data_params (codes "body") names.5 refl

ack_built : Built port_program 1 ack_params ack_body ty.Unit 96 4
ack_built =
    choice_built port_program 1 ack_params (arrived_built 1 ack_params the_dest)
    (delivers_built 1 ack_params 2 port.following (expr.Blob []) 6 3 (omega arith) the_next (bytes_built port_program 1 ack_params [] (λ i. omega arith) (omega arith)))
    (goes_on_built 1 ack_params the_dest port.ack_again
    (packing_built port_program 1 ack_params (codes "ack") (port.dest ∷ port.following ∷ []) 1 ack_fun names.8 refl refl refl
    (and_built port_program 1 ack_params the_dest (and_built port_program 1 ack_params the_next (none 1 ack_params)))))
  where
    the_dest : Built port_program 1 ack_params port.dest ty.Host 6 1
    the_dest = var_built port_program 1 ack_params (codes "dest") names.3 refl

    the_next : Built port_program 1 ack_params port.following ty.Int 6 1
    the_next = var_built port_program 1 ack_params (codes "next") names.6 refl

-- ---- the program

services_built : BuiltSvcs port_services 37
services_built =
    and_svc this_host_is names.0 refl (and_type host_type no_types) bool_type
    (and_svc get_rb names.1 refl no_types int_type
    (and_svc deliver names.2 refl (and_type int_type (and_type delivered no_types)) unit_type no_svcs))

functions_built : BuiltFuns port_program 0 (data_fun ∷ ack_fun ∷ []) 242
functions_built =
    and_fun port_program data_fun names.7 refl refl
    (and_param (param (codes "dest") ty.Host) names.3 host_type (and_param (param (codes "seq") ty.Int) names.4 int_type (and_param (param (codes "body") ty.Blob) names.5 blob_type no_params)))
    unit_type data_built (omega arith)
    (and_fun port_program ack_fun names.8 refl refl (and_param (param (codes "dest") ty.Host) names.3 host_type (and_param (param (codes "next") ty.Int) names.6 int_type no_params))
    unit_type ack_built (omega arith) (no_funs port_program 2))

pub port_built : BuiltProgram port_program 282
port_built = built_program port_services (data_fun ∷ ack_fun ∷ []) own_calls refl refl services_built functions_built (omega arith)

-- the program as a check would leave it
pub port_checked : IsChecked port_program
port_checked = port_built.checked

port_typed : Typed port_program
port_typed = port_built.checked.typed

program_formed : well_formed_program port_program ≡ true
program_formed = port_built.checked.formed

program_full : program_has_types port_program ≡ true
program_full = port_built.checked.full

code_small : code_size port_program ≤ 1000
code_small = omega (arith, port_built.size)

-- ---- the arguments

-- a value without parts weighs m and lacks no types
record IsLeaf (v : Value) (m : ℕ) : Type 0 where
  weighs : weight v ≡ m
  nests : nesting v ≡ 0
  deep : value_depth v ≡ 0
  formed : formed_value v ≡ true
  full : value_has_types v ≡ true

leaf : (v : Value) (l : ValueLayer) (m : ℕ) → out-Value v ≡ l → weight_level weight chunk_weight l ≡ m → nesting_level nesting chunk_nesting l ≡ 0 → value_depth_level value_depth l ≡ 0
    → formed_value_level formed_value formed_chunk l ≡ true → typed_value_level value_has_types chunk_has_types l ≡ true → IsLeaf v m
leaf v l m o w n d f t = record {
  weighs = weight_out v ∙ ap (λ x. weight_level weight chunk_weight x) o ∙ w;
  nests = nesting_out v ∙ ap (λ x. nesting_level nesting chunk_nesting x) o ∙ n;
  deep = value_depth_out v ∙ ap (λ x. value_depth_level value_depth x) o ∙ d;
  formed = formed_value_out v ∙ ap (λ x. formed_value_level formed_value formed_chunk x) o ∙ f;
  full = value_has_types_out v ∙ ap (λ x. typed_value_level value_has_types chunk_has_types x) o ∙ t;
}

host_leaf : (h : Host) → IsLeaf (value.Host h) 5
host_leaf h = leaf (value.Host h) (Value-F.Host h) 5 (value.outs-Host h) refl refl refl refl refl

int_leaf : (z : ℤ) → IsLeaf (value.Int z) 9
int_leaf z = leaf (value.Int z) (Value-F.Int z) 9 (value.outs-Int z) refl refl refl refl refl

blob_leaf : (b : List ℕ) → length b ≤ 4096 → IsLeaf (value.Blob b) (3 + length b)
blob_leaf b h = leaf (value.Blob b) (Value-F.Blob b) (3 + length b) (value.outs-Blob b) refl refl refl (le-leb (length b) 65535 (omega (arith, h))) refl

-- ---- the chunks

pub data_checked : (dest : Host) (seq : ℤ) (body : List ℕ) → length body ≤ 4096 → IsCheckedChunk (data_chunk dest seq body)
unfolding well_formed_chunk
data_checked dest seq body short = record {
  typed = within 0 data_fun port_typed refl refl
      (and_value (host dest (value.outs-Host dest) refl) (and_value (int seq (value.outs-Int seq) refl) (and_value (blob body (value.outs-Blob body) refl) no_values)))
      shallow light;
  formed = λ i. (formed_chunk_is (data_chunk dest seq body) ∙ parts_formed) i && (nat_le (h.nests i) 3 && (nat_le (n.nests i) 3 && (nat_le (b.nests i) 3 && true)));
  full = chunk_has_types_is (data_chunk dest seq body) ∙ (λ i. program_full i && (h.full i && (n.full i && (b.full i && true))));
}
  where
    h : IsLeaf (value.Host dest) 5
    h = host_leaf dest

    n : IsLeaf (value.Int seq) 9
    n = int_leaf seq

    b : IsLeaf (value.Blob body) (3 + length body)
    b = blob_leaf body short

    shallow : chunk_nesting (data_chunk dest seq body) ≤ 4
    shallow =
        let most : chunk_nesting (data_chunk dest seq body) ≡ 1 + max (max (max 0 (nesting (value.Host dest))) (nesting (value.Int seq))) (nesting (value.Blob body)) = chunk_nesting_is (data_chunk dest seq body) in
        omega (arith, most, h.nests, n.nests, b.nests)

    light : 1 + chunk_weight (data_chunk dest seq body) ≤ 16384
    light =
        let all : chunk_weight (data_chunk dest seq body) ≡ 1 + code_size port_program + 5 + (0 + weight (value.Host dest) + weight (value.Int seq) + weight (value.Blob body)) = chunk_weight_is (data_chunk dest seq body) in
        omega (arith, all, code_small, h.weighs, n.weighs, b.weighs, short)

    parts_formed : (well_formed_program port_program && list_all (λ v. formed_value v && nat_le (value_depth v) 8) (data_args dest seq body)) ≡ true
    parts_formed = λ i. program_formed i && ((h.formed i && nat_le (h.deep i) 8) && ((n.formed i && nat_le (n.deep i) 8) && ((b.formed i && nat_le (b.deep i) 8) && true)))

pub ack_checked : (dest : Host) (next : ℤ) → IsCheckedChunk (ack_chunk dest next)
unfolding well_formed_chunk
ack_checked dest next = record {
  typed = within 1 ack_fun port_typed refl refl
      (and_value (host dest (value.outs-Host dest) refl) (and_value (int next (value.outs-Int next) refl) no_values))
      shallow light;
  formed = λ i. (formed_chunk_is (ack_chunk dest next) ∙ parts_formed) i && (nat_le (h.nests i) 3 && (nat_le (n.nests i) 3 && true));
  full = chunk_has_types_is (ack_chunk dest next) ∙ (λ i. program_full i && (h.full i && (n.full i && true)));
}
  where
    h : IsLeaf (value.Host dest) 5
    h = host_leaf dest

    n : IsLeaf (value.Int next) 9
    n = int_leaf next

    shallow : chunk_nesting (ack_chunk dest next) ≤ 4
    shallow =
        let most : chunk_nesting (ack_chunk dest next) ≡ 1 + max (max 0 (nesting (value.Host dest))) (nesting (value.Int next)) = chunk_nesting_is (ack_chunk dest next) in
        omega (arith, most, h.nests, n.nests)

    light : 1 + chunk_weight (ack_chunk dest next) ≤ 16384
    light =
        let all : chunk_weight (ack_chunk dest next) ≡ 1 + code_size port_program + 4 + (0 + weight (value.Host dest) + weight (value.Int next)) = chunk_weight_is (ack_chunk dest next) in
        omega (arith, all, code_small, h.weighs, n.weighs)

    parts_formed : (well_formed_program port_program && list_all (λ v. formed_value v && nat_le (value_depth v) 8) (ack_args dest next)) ≡ true
    parts_formed = λ i. program_formed i && ((h.formed i && nat_le (h.deep i) 8) && ((n.formed i && nat_le (n.deep i) 8) && true))

-- ---- the chunks, as they are made

chunk_is : (code : Program) (entry : Name) (args : List Value) (name : Name) (given : List Value) → code ≡ port_program → entry ≡ name → args ≡ given
    → IsTypedChunk (record { code = port_program; entry = name; args = given }) → IsTypedChunk (record { code = code; entry = entry; args = args })
chunk_is code entry args name given k e v t =
    let same : record { code = port_program; entry = name; args = given } ≡ record { code = code; entry = entry; args = args } = λ j. record { code = sym k j; entry = sym e j; args = sym v j } in
    subst IsTypedChunk same t

pub data_typed : (code : Program) (entry : Name) (args : List Value) (dest : Host) (seq : ℤ) (body : List ℕ) → code ≡ port_program → entry ≡ codes "data" → args ≡ data_args dest seq body → length body ≤ 4096
    → IsTypedChunk (record { code = code; entry = entry; args = args })
data_typed code entry args dest seq body k e v h = chunk_is code entry args (codes "data") (data_args dest seq body) k e v (data_checked dest seq body h).typed

pub ack_typed : (code : Program) (entry : Name) (args : List Value) (dest : Host) (next : ℤ) → code ≡ port_program → entry ≡ codes "ack" → args ≡ ack_args dest next
    → IsTypedChunk (record { code = code; entry = entry; args = args })
ack_typed code entry args dest next k e v = chunk_is code entry args (codes "ack") (ack_args dest next) k e v (ack_checked dest next).typed
