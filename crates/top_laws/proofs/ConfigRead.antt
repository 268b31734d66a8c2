-- A configuration that is written reads as itself.
use Rattle.std.proofs.Common.{◌≡◌, ℕ, ◌+◌, ◌^◌, ◌<◌, ◌≤◌, true, false, cond, List, [], ◌∷◌, ◌++◌, length, map, Option, Some, None, Ok, refl, sym, ap, subst, ◌∙◌, arith, append-nil}
use Rattle.std.specs.List.{All, list_any}
use Rattle.std.specs.Str.{bytes_eq}
use Rattle.std.specs.Fmt.{decimal}
use lib.Chars.{codes}
use Rattle.std.proofs.lemmas.List.Elements.{All-head, All-tail}
use Rattle.plan_base.specs.declared.tree.Chunk.{Chunk}
use Rattle.plan_base.specs.declared.tree.Program.{Program}
use Rattle.plan_base.specs.Sizes.{chunk_weight}
use Rattle.service_api.specs.declared.package.PackageName.{PackageName}
use Rattle.network_config.specs.declared.serve.Inject.{Inject as Injection}
use Rattle.network_config.specs.declared.serve.ServeConfig.{ServeConfig}
use Rattle.network_config.specs.Rules.{PackagesDiffer}
use Rattle.network_config.specs.NodeRules.{first_link, KeepsInject, weights}
use Rattle.line_reader.specs.declared.fault.LineReason.TheVariants.{BadWord}
use Rattle.line_reader.specs.declared.programs.OpenProgram.{OpenProgram}
use Rattle.line_reader.specs.Lines.{words, spaced_words}
use Rattle.line_reader.specs.Files.{is_skipped, at_line}
use Rattle.line_reader.specs.Inside.{after_lines}
use Rattle.line_reader.specs.Packages.{same_package}
use Rattle.line_reader.specs.Reads.{◌>>=◌}
use Rattle.line_reader.specs.Injections.{injection_at}
use Rattle.line_reader.specs.Programs.{opened_program, with_line}
use Rattle.line_reader.proofs.LineLaws.{no_lines, then_lines}
use Rattle.schedule_text.specs.Written.{package_word, handler_words}
use Rattle.schedule_text.proofs.WordLaws.{Free, free-append, line_is, words_rest, name_free, number_free}
use Rattle.schedule_text.proofs.ReadSteps.{then_ok, allowed_ok, number_ok}
use Rattle.schedule_text.proofs.NetworkRead.{fresh_package}
use Rattle.schedule_text.proofs.EventsRead.{injection_ok, weighed_ok, handler_free}
use Rattle.node_files.specs.declared.config.TailWord.TheVariants as tail
use Rattle.node_files.specs.declared.config.TailPart.{TailPart}
use Rattle.node_files.specs.declared.config.TailPart.TheVariants as parts
use Rattle.node_files.specs.declared.config.ConfigStage.TheVariants as stages
use Rattle.node_files.specs.declared.config.ConfigReading.{ConfigReading}
use Rattle.node_files.specs.Parts.{behind_word}
use Rattle.node_files.specs.LogTexts.{missing_words}
use Rattle.node_files.specs.Configs.{may_come, missing_line, program_line, inject_line, tail_rest, tail_line, close_program, config_step_at, config_said, config_format, nothing_read, config_of}
use Rattle.node_files.proofs.NodeLines.{Clean, clean_more, usual_by, usual_again, more_to, package_clean, package_reads}
use Rattle.top_laws.specs.Words.{program_lines, IsTextOf}
use Rattle.top_laws.specs.Configs.{ProgramText, device_lines, given_lines, inject_words, head_lines, config_lines, config_text, IsGiven, IsInjected, IsConfig}
use Rattle.schedule_text.proofs.WholeRead.{all_free, text_free}
use Rattle.top_laws.proofs.Leading.{Leads, leads-nil, leads-cons, behind_lines, said_by, with_text, text_leads}
use Rattle.top_laws.proofs.ConfigHead as top

-- ---- missing packages

-- where lines are behind missing packages
abbrev part_after : TailPart → List PackageName → TailPart
part_after part [] = part
part_after part (p ∷ ps) = part_after parts.Missing ps

-- a program may still come
may_follow : (part : TailPart) (ps : List PackageName) → may_come part tail.Program ≡ true → may_come (part_after part ps) tail.Program ≡ true
may_follow part [] e = e
may_follow part (p ∷ ps) e = may_follow parts.Missing ps refl

missing_clean : (p : PackageName) → Clean (missing_words p)
missing_clean p = clean_more (codes "without") (package_word p ∷ []) (refl, refl) (package_clean p)

missing_free : (ps : List PackageName) → Free 10 (map (λ p. spaced_words (missing_words p)) ps)
missing_free [] = tt
missing_free (p ∷ ps) = (line_is (missing_words p) (missing_clean p).1, missing_free ps)

-- ---- what is injected

-- the words of an injection in front of its arguments
abbrev prefix_words : Injection → List (List ℕ)
prefix_words i = decimal i.turn ∷ codes "inject" ∷ i.chunk.entry ∷ decimal i.bound ∷ handler_words i.handler

-- the words of its line behind the first, as they are read
abbrev read_words : (Chunk → List ℕ) → Injection → List (List ℕ)
read_words by i = decimal i.turn ∷ codes "inject" ∷ i.chunk.entry ∷ decimal i.bound ∷ (handler_words i.handler ++ words (by i.chunk))

abbrev Injected : ProgramText → (Chunk → List ℕ) → Injection → Type 0
Injected p by i = IsInjected (Some p) by i

-- what the line of an injection keeps
abbrev Both : ProgramText → (Chunk → List ℕ) → ServeConfig → Injection → Type 0
Both p by c i = KeepsInject c.node.version i × Injected p by i

turn_small : (n : ℕ) → n ≤ 1000000 → n < 2 ^ 64
turn_small n few = omega (arith, few)

bound_small : (n : ℕ) → n ≤ 65535 → n < 2 ^ 64
bound_small n few = omega (arith, few)

inject_words_are : (p : ProgramText) (by : Chunk → List ℕ) (c : ServeConfig) (i : Injection) → KeepsInject c.node.version i → Injected p by i → words (spaced_words (inject_words by i)) ≡ codes "at" ∷ read_words by i
inject_words_are p by c i k w =
    words_rest (codes "at") (prefix_words i) (by i.chunk) (
      refl,
      (
        (number_free i.turn (turn_small i.turn k.1)).0,
        (
          refl,
          (
            (name_free i.chunk.entry w.1.entry).0,
            (
              (number_free i.bound (bound_small i.bound k.2.0.0)).0,
              subst (λ ws. Free 32 ws) (append-nil (handler_words i.handler)) (handler_free 32 i.handler w.2 (λ v n. (name_free v n).0) refl [] tt),
            ),
          ),
        ),
      ),
    )

inject_free : (p : ProgramText) (by : Chunk → List ℕ) (c : ServeConfig) (i : Injection) → KeepsInject c.node.version i → Injected p by i → Free 10 (inject_words by i)
inject_free p by c i k w = (
  refl,
  (
    (number_free i.turn (turn_small i.turn k.1)).1,
    (
      refl,
      (
        (name_free i.chunk.entry w.1.entry).1,
        ((number_free i.bound (bound_small i.bound k.2.0.0)).1, handler_free 10 i.handler w.2 (λ v n. (name_free v n).1) refl (by i.chunk ∷ []) (w.1.line, tt)),
      ),
    ),
  ),
)

from_none : (n : ℕ) → 0 + n ≡ n
from_none n = omega arith

-- nothing is injected without a program
none_injected : (is : List Injection) → All (λ i. ⊥) is → [] ≡ is
none_injected [] k = refl
none_injected (i ∷ is) k = absurd (All-head (λ (x : Injection). ⊥) i is k)

module _ (given : Option ProgramText) (by : Chunk → List ℕ) (c : ServeConfig) (is : IsConfig given by c) where
  -- a state behind the neighbours
  abbrev state : TailPart → List PackageName → OpenProgram → Option Program → List Injection → ℕ → ConfigReading
  state part missing begun checked at weight = top.state c is.rules is.log (stages.Tail part) c.node.neighbours c.devs missing begun checked at weight

  -- a state at missing packages
  abbrev lacks : TailPart → List PackageName → ConfigReading
  lacks part missing = state part missing (opened_program 1) None [] 0

  missing_step : (part : TailPart) (seen : List PackageName) (p : PackageName) → may_come part tail.Without ≡ true → list_any (same_package p) seen ≡ false → (number : ℕ)
      → config_format.step number (spaced_words (missing_words p)) (lacks part seen) ≡ Ok (lacks parts.Missing (seen ++ p ∷ []))
  unfolding config_step_at tail_line tail_rest missing_line
  missing_step part seen p free new number =
      usual_again number (codes "without") (package_word p ∷ []) (lacks part seen) (lacks parts.Missing (seen ++ p ∷ [])) (λ ws. tail_line part number ws (lacks part seen)) refl (missing_clean p)
      (then_ok _ tt _ _ (allowed_ok (may_come part tail.Without) BadWord free)
      (then_ok _ (seen ++ p ∷ [], []) _ _ (package_reads seen p new) refl))

  -- missing packages are read behind others
  missing_lead : (ps seen : List PackageName) (part : TailPart) → seen ++ ps ≡ c.missing → may_come part tail.Without ≡ true
      → Leads config_format (map (λ p. spaced_words (missing_words p)) ps) (lacks part seen) (lacks (part_after part ps) c.missing)
  missing_lead [] seen part e free = subst (λ (l : List PackageName). Leads config_format [] (lacks part seen) (lacks part l)) (sym (append-nil seen) ∙ e) (leads-nil config_format (lacks part seen))
  missing_lead (p ∷ ps) seen part e free =
      leads-cons config_format (spaced_words (missing_words p)) (map (λ q. spaced_words (missing_words q)) ps) (lacks part seen) (lacks parts.Missing (seen ++ p ∷ [])) (lacks (part_after parts.Missing ps) c.missing)
      (missing_step part seen p free (fresh_package seen p ps (subst PackagesDiffer (sym e) is.rules.missing)))
      (missing_lead ps (seen ++ p ∷ []) parts.Missing (more_to c.missing seen p ps e) refl)

  -- where the program begins
  abbrev last_part : TailPart
  last_part = part_after parts.Devices c.missing

  abbrev plain : ConfigReading
  plain = lacks last_part c.missing

  -- ---- the program

  abbrev inside : OpenProgram → ConfigReading
  inside begun = top.state c is.rules is.log stages.Inside c.node.neighbours c.devs c.missing begun None [] 0

  program_step : (number : ℕ) → config_format.step number (codes "program") plain ≡ Ok (inside (opened_program number))
  unfolding config_step_at tail_line tail_rest program_line
  program_step number =
      usual_again number (codes "program") [] plain (inside (opened_program number)) (λ ws. tail_line last_part number ws plain) refl ((refl, tt), (refl, tt))
      (then_ok _ tt _ _ (allowed_ok (may_come last_part tail.Program) BadWord (may_follow parts.Devices c.missing refl)) refl)

  text_step : (number : ℕ) (line : List ℕ) (begun : OpenProgram) → bytes_eq line (codes "end program") ≡ false → config_format.step number line (inside begun) ≡ Ok (inside (with_line begun line))
  unfolding config_step_at
  text_step number line begun e = ap (λ b. cond b (at_line begun.line (close_program (inside begun))) (Ok (inside (with_line begun line)))) e

  -- a state behind the program
  abbrev behind : ProgramText → OpenProgram → List Injection → ℕ → ConfigReading
  behind p begun at weight = state parts.Behind c.missing begun (Some p.program) at weight

  end_step : (p : ProgramText) (first number : ℕ) → IsTextOf p.program p.text
      → config_format.step number (codes "end program") (inside (with_text (opened_program first) p.text)) ≡ Ok (behind p (with_text (opened_program first) p.text) [] 0)
  unfolding config_step_at close_program
  end_step p first number k = ap (λ r. at_line first (r >>= λ q. Ok (state parts.Behind c.missing (with_text (opened_program first) p.text) (Some q) [] 0))) k.says

  program_leads : (p : ProgramText) → IsTextOf p.program p.text → (number : ℕ) → after_lines config_format number (program_lines p.text) plain ≡ Ok (behind p (with_text (opened_program number) p.text) [] 0)
  program_leads p k number =
      let last = behind p (with_text (opened_program number) p.text) [] 0 in
      then_lines config_format number (codes "program") _ plain (inside (opened_program number)) last (program_step number)
      (
      behind_lines config_format p.text (codes "end program" ∷ []) (number + 1) (inside (opened_program number)) (inside (with_text (opened_program number) p.text)) last
      (text_leads config_format inside text_step p.text (opened_program number) k.lines (number + 1))
      (then_lines config_format (number + 1 + length p.text) (codes "end program") [] (inside (with_text (opened_program number) p.text)) last last (end_step p number (number + 1 + length p.text) k)
      (no_lines config_format (number + 1 + length p.text + 1) last)))

  -- ---- what is injected

  inject_reads : (p : ProgramText) (begun : OpenProgram) (seen : List Injection) (weight : ℕ) (i : Injection) → KeepsInject c.node.version i → Injected p by i → weight + (1 + chunk_weight i.chunk) ≤ 16777216
      → inject_line (read_words by i) (behind p begun seen weight) ≡ Ok (behind p begun (seen ++ i ∷ []) (weight + (1 + chunk_weight i.chunk)))
  unfolding inject_line behind_word
  inject_reads p begun seen weight i k w few =
      let args = i.chunk.entry ∷ decimal i.bound ∷ (handler_words i.handler ++ words (by i.chunk)) in
      then_ok _ (i.turn, codes "inject" ∷ args) _ _ (number_ok 1 1000000 i.turn (codes "inject" ∷ args) (turn_small i.turn k.1) k.0 k.1)
      (then_ok _ (i.chunk, i.bound, i.handler) _ _ (ap (λ (q : Program). injection_at c.node.version q args) (sym w.0) ∙ injection_ok c.node.version (by i.chunk) i.chunk i.bound i.handler w.1 w.2 k.2)
      (then_ok _ (weight + (1 + chunk_weight i.chunk)) _ _ (weighed_ok weight i.chunk few) refl))

  says_something : (i : Injection) → is_skipped (spaced_words (inject_words by i)) ≡ false
  says_something i = refl

  inject_step : (p : ProgramText) (begun : OpenProgram) (seen : List Injection) (weight : ℕ) (i : Injection) → KeepsInject c.node.version i → Injected p by i → weight + (1 + chunk_weight i.chunk) ≤ 16777216 → (number : ℕ)
      → config_format.step number (spaced_words (inject_words by i)) (behind p begun seen weight) ≡ Ok (behind p begun (seen ++ i ∷ []) (weight + (1 + chunk_weight i.chunk)))
  unfolding config_step_at tail_line tail_rest
  inject_step p begun seen weight i k w few number =
      usual_by number (spaced_words (inject_words by i)) (codes "at" ∷ read_words by i) (behind p begun seen weight)
      (behind p begun (seen ++ i ∷ [])
      (weight + (1 + chunk_weight i.chunk))) (λ ws. tail_line parts.Behind number ws (behind p begun seen weight)) (says_something i) (inject_words_are p by c i k w)
      (inject_reads p begun seen weight i k w few)

  -- injections are read behind others
  injects_lead : (p : ProgramText) (begun : OpenProgram) (rest seen : List Injection) (weight total : ℕ) → seen ++ rest ≡ c.at → weight + weights rest ≡ total → total ≤ 16777216
      → All (KeepsInject c.node.version) rest → All (Injected p by) rest
      → Leads config_format (map (λ i. spaced_words (inject_words by i)) rest) (behind p begun seen weight) (behind p begun c.at total)
  injects_lead p begun [] seen weight total e sum few k w =
      let same : weight ≡ total = omega (arith, sum) in
      subst (λ (n : ℕ). Leads config_format [] (behind p begun seen weight) (behind p begun c.at n)) same
      (subst (λ (l : List Injection). Leads config_format [] (behind p begun seen weight) (behind p begun l weight)) (sym (append-nil seen) ∙ e) (leads-nil config_format (behind p begun seen weight)))
  injects_lead p begun (i ∷ rest) seen weight total e sum few k w =
      let next : weight + (1 + chunk_weight i.chunk) + weights rest ≡ total = omega (arith, sum) in
      leads-cons config_format (spaced_words (inject_words by i)) (map (λ x. spaced_words (inject_words by x)) rest) (behind p begun seen weight)
      (behind p begun (seen ++ i ∷ []) (weight + (1 + chunk_weight i.chunk))) (behind p begun c.at total)
      (inject_step p begun seen weight i (All-head (KeepsInject c.node.version) i rest k) (All-head (Injected p by) i rest w) (omega (arith, next, few)))
      (injects_lead p begun rest (seen ++ i ∷ []) (weight + (1 + chunk_weight i.chunk)) total (more_to c.at seen i rest e) next few (All-tail (KeepsInject c.node.version) i rest k) (All-tail (Injected p by) i rest w))

  -- ---- the whole

  abbrev injected_lines : List Injection → List (List ℕ)
  injected_lines at = map (λ i. spaced_words (inject_words by i)) at

  -- lines that lead to what says the configuration
  record Says (number : ℕ) (ls : List (List ℕ)) (s : ConfigReading) : Type 0 where
    part : TailPart
    begun : OpenProgram
    checked : Option Program
    weight : ℕ
    leads : after_lines config_format number ls s ≡ Ok (state part c.missing begun checked c.at weight)

  with_program : (p : ProgramText) → IsTextOf p.program p.text → All (Injected p by) c.at → (number : ℕ) → Says number (program_lines p.text ++ injected_lines c.at) plain
  with_program p k w number =
      let begun = with_text (opened_program number) p.text in
      record {
        part = parts.Behind;
        begun = begun;
        checked = Some p.program;
        weight = weights c.at;
        leads = behind_lines config_format (program_lines p.text) (injected_lines c.at) number plain (behind p begun [] 0) (behind p begun c.at (weights c.at)) (program_leads p k number)
            (injects_lead p begun c.at [] 0 (weights c.at) refl (from_none (weights c.at)) is.rules.weight is.rules.injects w (number + length (program_lines p.text)));
      }

  -- the program, if there is one, and what is injected
  rest_says : (o : Option ProgramText) → IsGiven o → All (IsInjected o by) c.at → (number : ℕ) → Says number (given_lines o ++ injected_lines c.at) plain
  rest_says None g w number =
      let nothing : [] ≡ c.at = none_injected c.at w in
      record {
        part = last_part;
        begun = opened_program 1;
        checked = None;
        weight = 0;
        leads = subst (λ (l : List Injection). after_lines config_format number (injected_lines l) plain ≡ Ok (state last_part c.missing (opened_program 1) None l 0)) nothing (no_lines config_format number plain);
      }
  rest_says (Some p) g w number = with_program p g w number

  abbrev missing_lines : List (List ℕ)
  missing_lines = map (λ p. spaced_words (missing_words p)) c.missing

  abbrev neighbour_lines : List (List ℕ)
  neighbour_lines = device_lines c.node.neighbours c.devs

  abbrev rest_lines : List (List ℕ)
  rest_lines = given_lines given ++ injected_lines c.at

  -- the number of the line behind the missing packages
  abbrev place : ℕ
  place = 1 + length (head_lines c) + length neighbour_lines + length missing_lines

  abbrev says : Says place rest_lines plain
  says = rest_says given is.program is.injected place

  abbrev whole : ConfigReading
  whole = state says.part c.missing says.begun says.checked c.at says.weight

  all_lead : after_lines config_format 1 (config_lines given by c) nothing_read ≡ Ok whole
  all_lead =
      let first = top.state c is.rules is.log (stages.Tail parts.Devices) [] [] [] (opened_program 1) None [] 0 in
      behind_lines config_format (head_lines c) _ 1 nothing_read first whole (top.head_leads c is.rules is.log 1)
      (behind_lines config_format neighbour_lines _ (1 + length (head_lines c)) first (lacks parts.Devices []) whole (top.neighbours_lead c is.rules is.log (1 + length (head_lines c)))
      (behind_lines config_format missing_lines rest_lines (1 + length (head_lines c) + length neighbour_lines) (lacks parts.Devices []) plain whole
      (missing_lead c.missing [] parts.Devices refl refl (1 + length (head_lines c) + length neighbour_lines)) says.leads))

  rest_free : (o : Option ProgramText) → IsGiven o → All (IsInjected o by) c.at → Free 10 (given_lines o ++ injected_lines c.at)
  rest_free None g w = subst (λ (l : List Injection). Free 10 (injected_lines l)) (none_injected c.at w) tt
  rest_free (Some p) g w =
      let both : All (Both p by c) c.at = λ k d h. (is.rules.injects k d h, w k d h) in
      free-append 10 (program_lines p.text) (injected_lines c.at) (refl, free-append 10 p.text _ (text_free p.text g.lines) (refl, tt))
      (all_free (λ i. spaced_words (inject_words by i)) (Both p by c) (λ i k. line_is (inject_words by i) (inject_free p by c i k.0 k.1)) c.at both)

  lines_free : Free 10 (config_lines given by c)
  lines_free =
      free-append 10 (head_lines c) _ (top.head_free c is.rules is.log)
      (free-append 10 neighbour_lines _ (top.neighbours_free c is.rules is.log)
      (free-append 10 missing_lines rest_lines (missing_free c.missing) (rest_free given is.program is.injected)))

  same_config : config_said whole ≡ c
  same_config =
      ap (λ (n : ℕ). record c { node = record c.node { serial = n; boot = 0; link = first_link c.node.version } }) (sym is.rules.serial)
      ∙ (ap (λ (n : ℕ). record c { node = record c.node { boot = n; link = first_link c.node.version } }) (sym is.boot)
      ∙ ap (λ (n : ℕ). record c { node = record c.node { link = n } }) (sym is.rules.link))

  -- a configuration that is written reads as itself
  pub config_again : config_of (config_text given by c) ≡ Ok c
  config_again = said_by config_format (config_lines given by c) nothing_read whole (Ok c) lines_free all_lead (ap (λ (x : ServeConfig). Ok x) same_config)
