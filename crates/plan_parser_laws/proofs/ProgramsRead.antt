-- A program that is read is one by the grammar.
use Rattle.std.proofs.Common.{◌≡◌, ◌<◌, ◌≤◌, ℕ, zero, suc, Bool, true, false, List, [], ◌∷◌, ◌++◌, length, Result, Ok, Err, if◌then◌else◌, nat_lt, refl, arith, ltb-true, ltb-false}
use Rattle.plan_base.specs.declared.limit.Limit.{Limit}
use Rattle.plan_base.specs.declared.limit.Limit.TheVariants as limits
use Rattle.plan_base.specs.declared.tree.Draft.{Draft}
use Rattle.plan_lexer.specs.declared.token.Token.{Token}
use Rattle.plan_lexer.specs.declared.token.Key.TheVariants as keys
use Rattle.plan_parser_exprs.specs.declared.fault.ParseFault.{ParseFault}
use Rattle.plan_parser_exprs.specs.declared.fault.ParseFault.TheVariants.{Expected, TooDeep, TooMany}
use Rattle.plan_parser_exprs.specs.declared.fault.Wanted.TheVariants as wanted
use Rattle.plan_parser_exprs.specs.declared.level.Level.TheVariants as levels
use Rattle.plan_parser_exprs.specs.declared.node.Node.{Node}
use Rattle.plan_parser_exprs.specs.Ahead.{Front, ◌>>=◌, place, behind}
use Rattle.plan_parser_exprs.specs.Nodes.{all_at}
use Rattle.plan_parser_exprs.specs.Exprs.{expr_to}
use Rattle.plan_parser_laws.specs.Grammar.{Word, ExprAt, behind2}
use Rattle.plan_parser_laws.proofs.ReadSteps.{Reads, found_reads, refusal_reads, after, if_key, name_then}
use Rattle.plan_parser_laws.proofs.ExprsRead.{exprs_read}
use Rattle.plan_parser.specs.declared.signature.Head.{Head}
use Rattle.plan_parser.specs.declared.program.Gathered.{Gathered}
use Rattle.plan_parser.specs.Signatures.{service_at, head_at}
use Rattle.plan_parser.specs.Programs.{nothing, one_more, with_service, with_exception, judged_function, function_of, with_body, with_function, with_declaration, declarations, draft_of, finished_draft, program_of}
use Rattle.plan_parser_laws.specs.ProgramGrammar as gram
use Rattle.plan_parser_laws.specs.ProgramGrammar.{ServiceAt, HeadAt, DeclarationsAt, ProgramAt}
use Rattle.plan_parser_laws.proofs.Follows.{Shorter, skip, onward}
use Rattle.plan_parser_laws.proofs.HeadsRead.{service_reads, head_reads}
use Rattle.plan_parser_laws.proofs.ProgramShorters.{service_shorter, function_shorter}

-- one more of a kind
room_then : {B : Type 0} (Q : B → Front → Type 0) (count : ℕ) (limit : Limit) (f : Front) (h : Unit {0} × Front → Result (B × Front) ParseFault)
    → (count < 64 → Reads Q (h (tt, f))) → Reads Q (one_more count limit f >>= h)
unfolding one_more Reads
room_then Q count limit f h k = go (TooMany limit (place f)) (nat_lt count 64) refl
  where
    go : (d : ParseFault) (b : Bool) → nat_lt count 64 ≡ b → Reads Q ((if b then Ok (tt, f) else Err d) >>= h)
    go d true e = k (ltb-true _ _ e)
    go d false e = tt

-- a function that keeps its limits
fits_then : {B : Type 0} (Q : B → Front → Type 0) (at depth nodes : ℕ) (f : Front) (h : Unit {0} × Front → Result (B × Front) ParseFault)
    → (depth ≤ 64 → nodes ≤ 4096 → Reads Q (h (tt, f))) → Reads Q (judged_function at depth nodes f >>= h)
unfolding judged_function Reads
fits_then Q at depth nodes f h k = go (TooDeep at) (TooMany limits.Nodes at) (nat_lt 64 depth) (nat_lt 4096 nodes) refl refl
  where
    go : (d e : ParseFault) (b c : Bool) → nat_lt 64 depth ≡ b → nat_lt 4096 nodes ≡ c → Reads Q ((if b then Err d else if c then Err e else Ok (tt, f)) >>= h)
    go d e true c i j = tt
    go d e false true i j = tt
    go d e false false i j = k (ltb-false _ _ i) (ltb-false _ _ j)

-- declarations of which the last begins at f
pub record Onward (start f : Front) (all : Gathered) (g : Front) : Type 0 where
  pub declared : DeclarationsAt start all g
  pub fewer : Shorter f g

module _ (start : Front) (all : Gathered) (f : Front) (so_far : DeclarationsAt start all f) where
  service_adds : Word keys.Svc f → Reads (Onward start f) (with_service all f)
  unfolding with_service
  service_adds w =
      room_then (Onward start f) (length all.svcs) limits.Services f _
      (λ room. after (ServiceAt f) (Onward start f) (service_at (behind f)) _ (service_reads f w)
      (λ s g d. found_reads (Onward start f) (record all { svcs = all.svcs ++ s ∷ []; svc_at = all.svc_at ++ place f ∷ [] }) g (record { declared = gram.one_service so_far d room; fewer = service_shorter d })))

  exception_adds : Word keys.Exception f → Reads (Onward start f) (with_exception all f)
  unfolding with_exception
  exception_adds w =
      room_then (Onward start f) (length all.exns) limits.Exceptions f _
      (λ room. name_then (Onward start f) (behind f) _
      (λ name called. found_reads (Onward start f) (record all { exns = all.exns ++ name ∷ []; exn_at = all.exn_at ++ place f ∷ [] }) (behind2 f)
      (record { declared = gram.one_exception so_far (gram.exception w called) room; fewer = onward (skip w) (skip called) })))

  body_adds : Word keys.Fun f → length all.funs < 64 → (x : Head) (g h : Front) (n : Node) → HeadAt (behind f) x g → ExprAt 160 g n h
      → Reads (Onward start f) (with_body (place f) all x n h)
  unfolding with_body
  body_adds w room x g h n d e =
      fits_then (Onward start f) (place f) n.depth (length (all.node_at ++ all_at n)) h _
      (λ deep few. found_reads (Onward start f) (record all { funs = all.funs ++ function_of x n ∷ []; fun_at = all.fun_at ++ place f ∷ []; node_at = all.node_at ++ all_at n }) h
      (record { declared = gram.one_function so_far (gram.function w d e deep) room few; fewer = function_shorter (gram.function w d e deep) }))

  function_adds : Word keys.Fun f → Reads (Onward start f) (with_function all f)
  unfolding with_function
  function_adds w =
      room_then (Onward start f) (length all.funs) limits.Functions f _
      (λ room. after (HeadAt (behind f)) (Onward start f) (head_at (behind f)) _ (head_reads (behind f))
      (λ x g d. after (ExprAt 160 g) (Onward start f) (expr_to 161 levels.Whole g) _ (exprs_read 160 levels.Whole g)
      (λ n h e. body_adds w room x g h n d e)))

  pub declaration_adds : Reads (Onward start f) (with_declaration all f)
  unfolding with_declaration
  declaration_adds =
      if_key (Onward start f) keys.Svc f _ _ service_adds
      (if_key (Onward start f) keys.Exception f _ _ exception_adds
      (if_key (Onward start f) keys.Fun f _ _ function_adds (refusal_reads (Onward start f) _)))

-- what was read has that property
unfoldable Given : {A : Type 0} → (A → Type 0) → Result A ParseFault → Type 0
Given P (Ok x) = P x
Given P (Err e) = Unit {0}

read_then : {A B : Type 0} (Q : A → Front → Type 0) (P : B → Type 0) (r : Result (A × Front) ParseFault) (h : A × Front → Result B ParseFault)
    → Reads Q r → ((x : A) (g : Front) → Q x g → Given P (h (x, g))) → Given P (r >>= h)
unfolding Reads Given
read_then Q P (Ok x) h s k = k x.0 x.1 s
read_then Q P (Err e) h s k = tt

given_then : {A B : Type 0} (Q : A → Type 0) (P : B → Type 0) (r : Result A ParseFault) (h : A → Result B ParseFault)
    → Given Q r → ((x : A) → Q x → Given P (h x)) → Given P (r >>= h)
unfolding Given
given_then Q P (Ok x) h s k = k x s
given_then Q P (Err e) h s k = tt

-- declarations up to the end of the text
record Whole (start : Front) (all : Gathered) : Type 0 where
  last : Front
  declared : DeclarationsAt start all last
  done : last.tokens ≡ []

none_left : (ts : List Token) → length ts ≤ 0 → ts ≡ []
none_left [] e = refl
none_left (t ∷ ts) e = absurd (omega (arith, e))

declarations_read : (fuel : ℕ) (start : Front) (all : Gathered) (f : Front) → DeclarationsAt start all f → length f.tokens ≤ fuel → Given (Whole start) (declarations fuel all f)
unfolding declarations Given
declarations_read zero start all f d enough = record { last = f; declared = d; done = none_left f.tokens enough }
declarations_read (suc fuel) start all f d enough = go (λ x g o less. declarations_read fuel start x g o less) (nat_lt 0 (length f.tokens)) refl
  where
    go : ((x : Gathered) (g : Front) → DeclarationsAt start x g → length g.tokens ≤ fuel → Given (Whole start) (declarations fuel x g)) → (b : Bool) → nat_lt 0 (length f.tokens) ≡ b
        → Given (Whole start) (if b then (with_declaration all f >>= λ x. declarations fuel x.0 x.1) else Ok all)
    go on true e =
        read_then (Onward start f) (Whole start) (with_declaration all f) _ (declaration_adds start all f d)
        (λ x g o. on x g o.declared (let less = o.fewer.less in omega (arith, less, enough)))
    go on false e = record { last = f; declared = d; done = none_left f.tokens (ltb-false _ _ e) }

finished_read : (tokens : List Token) (end : ℕ) (all : Gathered) → Whole (record { tokens = tokens; end = end }) all → Given (ProgramAt tokens end) (finished_draft end all)
unfolding finished_draft Given
finished_read tokens end all w = go (Expected (wanted.Key keys.Fun) end) (nat_lt 0 (length all.funs)) refl
  where
    go : (d : ParseFault) (b : Bool) → nat_lt 0 (length all.funs) ≡ b → Given (ProgramAt tokens end) (if b then Ok (draft_of all) else Err d)
    go d true e = gram.program w.declared w.done (let some = ltb-true _ _ e in omega (arith, some))
    go d false e = tt

program_read : (tokens : List Token) (end : ℕ) → Given (ProgramAt tokens end) (program_of tokens end)
unfolding program_of
program_read tokens end =
    given_then (Whole (record { tokens = tokens; end = end })) (ProgramAt tokens end) (declarations (length tokens) nothing (record { tokens = tokens; end = end })) _
    (declarations_read (length tokens) (record { tokens = tokens; end = end }) nothing (record { tokens = tokens; end = end }) gram.no_declaration (omega arith))
    (λ all w. finished_read tokens end all w)

what_was_given : {A : Type 0} (P : A → Type 0) (r : Result A ParseFault) (x : A) → Given P r → r ≡ Ok x → P x
unfolding Given
what_was_given P r x g e = rw e at g

-- a program that is read is one by the grammar
pub program_written : (tokens : List Token) (end : ℕ) (d : Draft) → program_of tokens end ≡ Ok d → ProgramAt tokens end d
program_written tokens end d e = what_was_given (ProgramAt tokens end) (program_of tokens end) d (program_read tokens end) e
