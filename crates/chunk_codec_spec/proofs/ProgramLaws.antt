use Rattle.std.proofs.Common.{◌≡◌, ℕ, ◌-◌, ◌≤◌, ◌∷◌, ◌++◌, length, Bool, true, false, Ok, refl, sym, ◌∙◌, ap, subst, arith, append-nil, sum_by}
use Rattle.std.specs.List.{flat_map}
use Rattle.std.proofs.lemmas.Bool.{leb-true, le-leb}
use Rattle.containers.specs.Reading.{◌>>=◌}
use Rattle.containers.proofs.Binds.{bind_ok, bind_is}
use Rattle.containers.proofs.Agendas.{chain, one_step}
use Rattle.plan_base.specs.declared.limit.Limit.{Limit}
use Rattle.chunk_codec_spec.specs.declared.fault.SpellFault.{SpellFault}
use Rattle.chunk_codec_spec.specs.Steps.{step}
use Rattle.chunk_codec_spec.proofs.Took.{Took, Took-as}
use Rattle.chunk_codec_spec.proofs.FieldLaws.{allowed_ok, allowed_is}
use Rattle.chunk_codec_spec.proofs.LeafLaws.{name_lawful}
use Rattle.chunk_codec_spec.proofs.PartLaws.{Lawful, AllLawful, reads_takes, reads_again, reads_go, several_lawful, joined_lawful, opens}
use Rattle.chunk_codec_spec.proofs.TypeLaws.{type_lawful, no_sum}
use Rattle.plan_base.specs.Sizes.{expr_nodes}
use Rattle.plan_base.specs.declared.tree.Program.{Program}
use Rattle.chunk_codec_spec.specs.Items.{a_parameter, a_service, a_function, a_program, code_end}
use Rattle.chunk_codec_spec.specs.Scan.{Scan, allowed_or_fault}
use Rattle.chunk_codec_spec.specs.Parts.{PartValues, AllFit, reads, items_of_parts, bytes_of_parts, nodes_of_parts}
use Rattle.chunk_codec_spec.specs.Fields.{name_bytes, name_part}
use Rattle.chunk_codec_spec.specs.Types.{type_bytes, type_part}
use Rattle.chunk_codec_spec.specs.Exprs.{expr_bytes}
use Rattle.chunk_codec_spec.specs.Programs.{param_forms, param_bytes, param_part, service_forms, service_bytes, service_part, function_forms, function_bytes, function_part, program_forms}
use Rattle.chunk_codec_spec.specs.Programs.{program_of_parts, program_parts, program_bytes, counting, counting_on, judged_code, program_at, ProgramFits, program_part}
use Rattle.chunk_codec_spec.proofs.ExprLaws.{expr_lawful}

-- ---- parameters, services, functions

pub param_lawful : Lawful param_part
param_lawful =
    joined_lawful a_parameter param_forms (λ xs. record { name = xs.0; ty = xs.1.0 }) (λ p. (p.name, (p.ty, tt))) param_bytes (λ _. 0)
    (name_lawful, (type_lawful 8, tt)) (λ xs. refl) (λ p. refl)
    (λ p. (λ i. name_bytes p.name ++ sym (append-nil (type_bytes p.ty)) i)) (λ p. refl) (λ more f. refl)

pub service_lawful : Lawful service_part
service_lawful =
    joined_lawful a_service service_forms (λ xs. record { name = xs.0; params = xs.1.0; result = xs.1.1.0 }) (λ s. (s.name, (s.params, (s.result, tt)))) service_bytes (λ _. 0)
    (name_lawful, (several_lawful Limit.Parameters 0 8 (type_part 8) (type_lawful 8), (type_lawful 8, tt))) (λ xs. refl) (λ s. refl)
    (λ s. (λ i. name_bytes s.name ++ ((length s.params ∷ flat_map type_bytes s.params) ++ sym (append-nil (type_bytes s.result)) i)))
    (λ s. let b = no_sum (type_part 8).nodes (λ _. refl) s.params in omega (arith, b)) (λ more f. refl)

pub function_lawful : Lawful function_part
function_lawful =
    joined_lawful a_function function_forms (λ xs. record { name = xs.0; params = xs.1.0; result = xs.1.1.0; body = xs.1.1.1.0 })
    (λ f. (f.name, (f.params, (f.result, (f.body, tt))))) function_bytes (λ f. expr_nodes f.body)
    (name_lawful, (several_lawful Limit.Parameters 0 8 param_part param_lawful, (type_lawful 8, (expr_lawful 64, tt)))) (λ xs. refl) (λ f. refl)
    (λ f. (λ i. name_bytes f.name ++ ((length f.params ∷ flat_map param_bytes f.params) ++ (type_bytes f.result ++ sym (append-nil (expr_bytes f.body)) i))))
    (λ f. let b = no_sum param_part.nodes (λ _. refl) f.params in omega (arith, b)) (λ more f. refl)

-- ---- programs

parts_lawful : AllLawful program_forms
parts_lawful = (
  several_lawful Limit.Services 0 64 service_part service_lawful,
  (
    several_lawful Limit.Exceptions 0 64 name_part name_lawful,
    (several_lawful Limit.Functions 1 64 function_part function_lawful, tt),
  ),
)

program_bytes_is : (p : Program) → program_bytes p ≡ bytes_of_parts program_forms (program_parts p)
unfolding program_bytes
program_bytes_is p = (λ i. (length p.svcs ∷ flat_map service_bytes p.svcs) ++ ((length p.exns ∷ flat_map name_bytes p.exns) ++ sym (append-nil (length p.funs ∷ flat_map function_bytes p.funs)) i))

program_nodes_is : (p : Program) → nodes_of_parts program_forms (program_parts p) ≡ sum_by (λ f. expr_nodes f.body) p.funs
program_nodes_is p =
    let a = no_sum service_part.nodes (λ _. refl) p.svcs in
    let b = no_sum name_part.nodes (λ _. refl) p.exns in
    omega (arith, a, b)

-- a judgement leaves what was read as it is
pub judged_apart : {A B : Type 0} (b : Bool) (e : SpellFault) (x : A) (y : B) (s : Scan) → allowed_or_fault b e (x, s) ≡ (allowed_or_fault b e (y, s) >>= λ q. Ok (x, q.1))
judged_apart true e x y s = refl
judged_apart false e x y s = refl

pub program_lawful : Lawful program_part
unfolding program_at
program_lawful = record {
  takes = λ f g x h k e.
      let b = bind_ok (reads program_forms program_of_parts (counting 0 f)) _ _ e in
      let p = b.first in
      let r = reads_takes program_forms parts_lawful program_of_parts (counting 0 f) p.1 p.0 h (omega arith) b.read in
      let own : program_parts p.0 ≡ r.held = ap program_parts r.is in
      let P : PartValues program_forms → Type 0 = λ xs. Took (counting 0 f) (bytes_of_parts program_forms xs) (nodes_of_parts program_forms xs) p.1 × AllFit program_forms xs in
      let q : P (program_parts p.0) = subst P (sym own) (r.all.took, r.all.fit) in
      let t : Took (counting 0 f) (program_bytes p.0) (sum_by (λ u. expr_nodes u.body) p.0.funs) p.1 = Took-as (sym (program_bytes_is p.0)) (program_nodes_is p.0) q.0 in
      let a = allowed_ok _ _ (counting_on f.nodes p) (x, g) b.then_read in
      let small : p.1.front.at - f.front.at ≤ 16000 = leb-true (p.1.front.at - f.front.at) 16000 a.0 in
      let took : Took f (program_bytes p.0) 0 (counting f.nodes p.1) = record { parts = t.parts; place = t.place; count = omega arith } in
      let fits : ProgramFits p.0 = record { parts = q.1; few = (let w = r.all.within in omega (arith, w, t.count)); small = omega (arith, small, t.place) } in
      let R : Program × Scan → Type 0 = λ u. Took f (program_bytes u.0) 0 u.1 × ProgramFits u.0 in
      let all : R (x, g) = subst R a.1 (took, fits) in
      record { took = all.0; fits = all.1; within = omega (arith, all.0.count) };
  again = λ f g x fits t k.
      let total : ℕ = sum_by (λ u. expr_nodes u.body) x.funs in
      let m : Scan = record { front = g.front; nodes = total } in
      let u : Took (counting 0 f) (program_bytes x) total m = record { parts = t.parts; place = t.place; count = omega arith } in
      let v = Took-as (program_bytes_is x) (sym (program_nodes_is x)) u in
      let small : m.front.at - f.front.at ≤ 16000 = (let w = fits.small in omega (arith, t.place, w)) in
      let back : counting f.nodes m ≡ g = (λ i. record { front = g.front; nodes = (let c : f.nodes ≡ g.nodes = omega (arith, t.count) in c) i }) in
      bind_is _ (reads_again program_forms parts_lawful program_of_parts (counting 0 f) m (program_parts x) fits.parts v fits.few)
      (allowed_is _ _ (x, counting f.nodes m) (le-leb (m.front.at - f.front.at) 16000 small) ∙ (λ i. Ok (x, back i)));
  goes = λ more f.
      opens a_program more (items_of_parts program_forms (code_end f.front.at f.nodes ∷ more)) f (counting 0 f)
      (λ s. reads program_forms program_of_parts s >>= λ p. judged_code f.front.at (counting_on f.nodes p)) refl
      (chain step (items_of_parts program_forms (code_end f.front.at f.nodes ∷ more)) (counting 0 f) (λ _. code_end f.front.at f.nodes ∷ more) (λ _. more)
      (reads program_forms program_of_parts (counting 0 f)) _ (reads_go program_forms parts_lawful program_of_parts (code_end f.front.at f.nodes ∷ more) (counting 0 f))
      (λ p _. one_step step (code_end f.front.at f.nodes) more p.1 (λ _. more) (judged_code f.front.at (counting_on f.nodes p)) (judged_apart _ _ more p.0 (counting f.nodes p.1))));
}
