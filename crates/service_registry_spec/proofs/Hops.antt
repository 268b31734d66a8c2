-- A neighbour with its device is a good value, and so is a list of at most eight.
use Rattle.std.proofs.Common.{◌≡◌, ℕ, ◌+◌, ◌*◌, ◌≤◌, true, ◌&&◌, nat_le, List, [], ◌∷◌, length, map, max, refl, ap, ◌∙◌, lit≤, arith}
use Rattle.std.proofs.lemmas.Bool.Decides.{nat_tests}
use Rattle.std.proofs.lemmas.List.{length-map}
use Rattle.std.specs.List.{sum_by, list_all}
use Rattle.containers.proofs.Bools.{and_both}
use Rattle.containers.proofs.Lists.{sum_from, largest_from}
use Rattle.plan_base.specs.declared.ids.Host.{Host}
use Rattle.plan_base.specs.declared.ids.Dev.{Dev}
use Rattle.plan_base.specs.declared.tree.Ty.{Ty}
use Rattle.plan_base.specs.declared.tree.Ty.TheVariants as ty
use Rattle.plan_base.specs.declared.tree.Value.{Value}
use Rattle.plan_base.specs.declared.tree.Value.TheVariants as value
use Rattle.plan_base.specs.Sizes.{weight, nesting, weight_level, nesting_level, chunk_weight, chunk_nesting, value_depth, value_depth_level, largest_by, type_size, type_size_level, type_depth, type_depth_level}
use Rattle.plan_base.specs.WellFormed.{formed_value, formed_value_level, formed_chunk, formed_type, formed_type_level}
use Rattle.plan_base.proofs.SizeLaws.{weight_out, nesting_out, value_depth_out, type_size_out, type_depth_out}
use Rattle.plan_base.proofs.FormLaws.{formed_value_out, formed_type_out}
use Rattle.plan_types_spec.specs.Typing.{HasType, AllHaveType, tuple, list, no_values, and_value, no_items, and_item}
use Rattle.service_api.specs.Services.{IsGoodValue}
use Rattle.service_registry_spec.specs.Offered.{hop_type}
use Rattle.service_registry_spec.specs.Answers.{hop_value}
use Rattle.service_registry_spec.proofs.Leaves.{Sized, good_sized, sized_host, sized_dev, type_host, type_dev}

-- ---- one

sized_hop : (h : Host) (d : Dev) → Sized (hop_value h d) 12 1
sized_hop h d =
    let vs : List Value = value.Host h ∷ value.Dev d ∷ [] in
    let a = sized_host h in let b = sized_dev d in
    let e = value.outs-Tuple vs in
    record {
      weighs = weight_out (hop_value h d) ∙ (ap (λ l. weight_level weight chunk_weight l) e ∙ (let p = a.weighs in let q = b.weighs in omega arith));
      nests = nesting_out (hop_value h d) ∙ (ap (λ l. nesting_level nesting chunk_nesting l) e ∙ (let p = a.nests in let q = b.nests in omega arith));
      deep = value_depth_out (hop_value h d) ∙ (ap (λ l. value_depth_level value_depth l) e ∙ (let p = a.deep in let q = b.deep in omega arith));
      formed = formed_value_out (hop_value h d) ∙ (ap (λ l. formed_value_level formed_value formed_chunk l) e ∙ (λ i. true && (a.formed i && (b.formed i && true))));
    }

type_hop : (h : Host) (d : Dev) → HasType (hop_value h d) hop_type
type_hop h d = tuple (value.Host h ∷ value.Dev d ∷ []) (ty.Host ∷ ty.Dev ∷ []) (value.outs-Tuple (value.Host h ∷ value.Dev d ∷ [])) refl (and_value (type_host h) (and_value (type_dev d) no_values))

pub good_hop : (h : Host) (d : Dev) → IsGoodValue hop_type (hop_value h d)
good_hop h d = good_sized hop_type (hop_value h d) 12 1 (type_hop h d) (sized_hop h d) (lit≤ tt) refl

-- ---- the type of one

size_host : type_size ty.Host ≡ 1
size_host = type_size_out ty.Host ∙ ap (λ l. type_size_level type_size l) ty.outs-Host

size_dev : type_size ty.Dev ≡ 1
size_dev = type_size_out ty.Dev ∙ ap (λ l. type_size_level type_size l) ty.outs-Dev

size_hop : type_size hop_type ≡ 4
size_hop = type_size_out hop_type ∙ (ap (λ l. type_size_level type_size l) (ty.outs-Tuple (ty.Host ∷ ty.Dev ∷ [])) ∙ (let p = size_host in let q = size_dev in omega arith))

depth_host : type_depth ty.Host ≡ 1
depth_host = type_depth_out ty.Host ∙ ap (λ l. type_depth_level type_depth l) ty.outs-Host

depth_dev : type_depth ty.Dev ≡ 1
depth_dev = type_depth_out ty.Dev ∙ ap (λ l. type_depth_level type_depth l) ty.outs-Dev

depth_hop : type_depth hop_type ≡ 2
depth_hop = type_depth_out hop_type ∙ (ap (λ l. type_depth_level type_depth l) (ty.outs-Tuple (ty.Host ∷ ty.Dev ∷ [])) ∙ (let p = depth_host in let q = depth_dev in omega arith))

formed_host : formed_type ty.Host ≡ true
formed_host = formed_type_out ty.Host ∙ ap (λ l. formed_type_level formed_type l) ty.outs-Host

formed_dev : formed_type ty.Dev ≡ true
formed_dev = formed_type_out ty.Dev ∙ ap (λ l. formed_type_level formed_type l) ty.outs-Dev

formed_hop : formed_type hop_type ≡ true
formed_hop = formed_type_out hop_type ∙ (ap (λ l. formed_type_level formed_type l) (ty.outs-Tuple (ty.Host ∷ ty.Dev ∷ [])) ∙ (λ i. true && (formed_host i && (formed_dev i && true))))

-- ---- all

abbrev hops : List (Host × Dev) → List Value
hops ns = map (λ n. hop_value n.0 n.1) ns

sum_hops : (ns : List (Host × Dev)) → sum_by weight (hops ns) ≡ 12 * length ns
sum_hops [] = refl
sum_hops (n ∷ ns) = sum_from weight (0 + weight (hop_value n.0 n.1)) (hops ns) ∙ (let w = (sized_hop n.0 n.1).weighs in let s = sum_hops ns in omega arith)

nests_hops : (ns : List (Host × Dev)) → largest_by nesting (hops ns) ≡ 0
nests_hops [] = refl
nests_hops (n ∷ ns) = largest_from nesting (max 0 (nesting (hop_value n.0 n.1))) (hops ns) ∙ (let w = (sized_hop n.0 n.1).nests in let s = nests_hops ns in omega arith)

depth_hops : (ns : List (Host × Dev)) → largest_by value_depth (hops ns) ≤ 1
depth_hops [] = lit≤ tt
depth_hops (n ∷ ns) = let e = largest_from value_depth (max 0 (value_depth (hop_value n.0 n.1))) (hops ns) in let w = (sized_hop n.0 n.1).deep in let s = depth_hops ns in omega arith

formed_hops : (ns : List (Host × Dev)) → list_all formed_value (hops ns) ≡ true
formed_hops [] = refl
formed_hops (n ∷ ns) = and_both (formed_value (hop_value n.0 n.1)) (list_all formed_value (hops ns)) (sized_hop n.0 n.1).formed (formed_hops ns)

type_hops : (ns : List (Host × Dev)) → AllHaveType hop_type (hops ns)
type_hops [] = no_items
type_hops (n ∷ ns) = and_item (type_hop n.0 n.1) (type_hops ns)

at_most : (n m : ℕ) → n ≤ m → nat_le n m ≡ true
at_most n m h = grind (arith, nat_tests)

pub good_hops : (ns : List (Host × Dev)) → length ns ≤ 8 → IsGoodValue (ty.List hop_type) (value.List hop_type (map (λ n. hop_value n.0 n.1) ns))
good_hops ns near =
    let v = value.List hop_type (hops ns) in
    let e = value.outs-List hop_type (hops ns) in
    let n = length-map ns (λ (m : Host × Dev). hop_value m.0 m.1) in
    let sized : Sized v (3 + type_size hop_type + sum_by weight (hops ns)) (1 + largest_by value_depth (hops ns)) = record {
      weighs = weight_out v ∙ ap (λ l. weight_level weight chunk_weight l) e;
      nests = nesting_out v ∙ (ap (λ l. nesting_level nesting chunk_nesting l) e ∙ nests_hops ns);
      deep = value_depth_out v ∙ ap (λ l. value_depth_level value_depth l) e;
      formed = formed_value_out v ∙ (ap (λ l. formed_value_level formed_value formed_chunk l) e ∙
          and_both (formed_type hop_type && nat_le (type_depth hop_type) 7) (nat_le (length (hops ns)) 65535 && list_all formed_value (hops ns))
          (and_both (formed_type hop_type) (nat_le (type_depth hop_type) 7) formed_hop (at_most (type_depth hop_type) 7 (let d = depth_hop in omega arith)))
          (and_both (nat_le (length (hops ns)) 65535) (list_all formed_value (hops ns)) (at_most (length (hops ns)) 65535 (omega arith)) (formed_hops ns)));
    } in
    good_sized (ty.List hop_type) v (3 + type_size hop_type + sum_by weight (hops ns)) (1 + largest_by value_depth (hops ns))
    (list hop_type (hops ns) e refl (type_hops ns)) sized
    (let s = size_hop in let w = sum_hops ns in omega arith)
    (at_most (1 + largest_by value_depth (hops ns)) 8 (let d = depth_hops ns in omega arith))
