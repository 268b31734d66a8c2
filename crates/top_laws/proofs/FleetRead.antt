-- A fleet that is written reads as itself.
use Rattle.std.proofs.Common.{◌≡◌, ℕ, ◌+◌, ◌<◌, ◌≤◌, true, List, [], ◌∷◌, ◌++◌, length, append-nil, map, Ok, refl, sym, ap, subst, ◌∙◌, arith}
use Rattle.std.specs.List.{All}
use Rattle.std.specs.Fmt.{decimal}
use lib.Chars.{codes}
use Rattle.std.proofs.lemmas.Bool.{lt-ltb}
use Rattle.std.proofs.lemmas.List.Elements.{All-head, All-tail}
use Rattle.plan_base.specs.declared.ids.Host.{Host}
use Rattle.network_config.specs.declared.fleet.Fleet.{Fleet}
use Rattle.network_config.specs.declared.fleet.Kid.{Kid}
use Rattle.network_config.specs.declared.fleet.Kid.TheVariants as kids
use Rattle.network_config.specs.FileNames.{is_file_name}
use Rattle.network_config.specs.NodeRules.{KeepsKid}
use Rattle.line_reader.specs.declared.fault.LineReason.TheVariants.{BadWord, TooMany}
use Rattle.line_reader.specs.Lines.{spaced_words}
use Rattle.line_reader.specs.FileNames.{file_name_at}
use Rattle.line_reader.proofs.Again.{without}
use Rattle.schedule_text.proofs.WordLaws.{line_is}
use Rattle.schedule_text.proofs.ReadSteps.{then_ok, allowed_ok, below_ok, number_ok}
use Rattle.node_files.specs.declared.fleet.FleetReading.{FleetReading}
use Rattle.node_files.specs.Fleets.{node_kid, ask_kid, kid_rest, kid_line, fleet_step_at, fleet_end, fleet_format, no_children, fleet_of}
use Rattle.node_files.proofs.NodeLines.{Clean, clean_more, clean_number, last_reads, usual_again, more_to, room_for}
use Rattle.top_laws.specs.Fleets.{kid_words, fleet_lines, fleet_text, IsNamedFile, IsFleet}
use Rattle.schedule_text.proofs.WholeRead.{all_free}
use Rattle.top_laws.proofs.Leading.{Leads, leads-nil, leads-cons, said_by}

-- ---- the words of a child

pub file_ok : (file : List ℕ) (ws : List (List ℕ)) → is_file_name file ≡ true → file_name_at (file ∷ ws) ≡ Ok (file, ws)
unfolding file_name_at
file_ok file ws name = then_ok _ tt _ _ (allowed_ok (is_file_name file) BadWord name) refl

node_reads : (h : Host) (file : List ℕ) (turns : ℕ) → KeepsKid (kids.Node h file turns) → node_kid (decimal h.0 ∷ file ∷ decimal turns ∷ []) ≡ Ok (kids.Node h file turns)
unfolding node_kid
node_reads h file turns k =
    then_ok _ (h.0, file ∷ decimal turns ∷ []) _ _ (number_ok 0 4294967295 h.0 _ (omega (arith, k.0)) (omega arith) (omega (arith, k.0)))
    (then_ok _ (file, decimal turns ∷ []) _ _ (file_ok file _ k.1)
    (then_ok _ turns _ _ (last_reads 1 1000000 turns (omega (arith, k.3)) k.2 k.3) refl))

ask_reads : (h : Host) (file : List ℕ) → KeepsKid (kids.Ask h file) → ask_kid (decimal h.0 ∷ file ∷ []) ≡ Ok (kids.Ask h file)
unfolding ask_kid
ask_reads h file k =
    then_ok _ (h.0, file ∷ []) _ _ (number_ok 0 4294967295 h.0 _ (omega (arith, k.0)) (omega arith) (omega (arith, k.0)))
    (then_ok _ (file, []) _ _ (file_ok file [] k.1) refl)

-- a fleet's children so far
abbrev so_far : List Kid → FleetReading
so_far children = record { begun = true; children = children }

kid_reads : (kid : Kid) (seen : List Kid) → KeepsKid kid → length seen < 64 → kid_line (kid_words kid) (so_far seen) ≡ Ok (so_far (seen ++ kid ∷ []))
unfolding kid_line kid_rest
kid_reads (kids.Node h file turns) seen k room = then_ok _ tt _ _ (below_ok (length seen) 64 TooMany room) (then_ok _ (kids.Node h file turns) _ _ (node_reads h file turns k) refl)
kid_reads (kids.Ask h file) seen k room = then_ok _ tt _ _ (below_ok (length seen) 64 TooMany room) (then_ok _ (kids.Ask h file) _ _ (ask_reads h file k) refl)

kid_clean : (kid : Kid) → KeepsKid kid → IsNamedFile kid → Clean (kid_words kid)
kid_clean (kids.Node h file turns) k f =
    clean_more (codes "node") (decimal h.0 ∷ file ∷ decimal turns ∷ []) (refl, refl)
    (clean_number h.0 (omega (arith, k.0)) (file ∷ decimal turns ∷ []) (clean_more file (decimal turns ∷ []) f (clean_number turns (omega (arith, k.3)) [] (tt, tt))))
kid_clean (kids.Ask h file) k f = clean_more (codes "ask") (decimal h.0 ∷ file ∷ []) (refl, refl) (clean_number h.0 (omega (arith, k.0)) (file ∷ []) (clean_more file [] f (tt, tt)))

-- ---- lines

kid_step : (kid : Kid) (seen : List Kid) → KeepsKid kid → IsNamedFile kid → length seen < 64 → (number : ℕ) → fleet_format.step number (spaced_words (kid_words kid)) (so_far seen) ≡ Ok (so_far (seen ++ kid ∷ []))
unfolding fleet_step_at
kid_step (kids.Node h file turns) seen k f room number =
    usual_again number (codes "node") (decimal h.0 ∷ file ∷ decimal turns ∷ []) (so_far seen) (so_far (seen ++ kids.Node h file turns ∷ [])) (λ ws. kid_line ws (so_far seen)) refl
    (kid_clean (kids.Node h file turns) k f) (kid_reads (kids.Node h file turns) seen k room)
kid_step (kids.Ask h file) seen k f room number =
    usual_again number (codes "ask") (decimal h.0 ∷ file ∷ []) (so_far seen) (so_far (seen ++ kids.Ask h file ∷ [])) (λ ws. kid_line ws (so_far seen)) refl (kid_clean (kids.Ask h file) k f) (kid_reads (kids.Ask h file) seen k room)

kids_lead : (all seen more : List Kid) → seen ++ more ≡ all → length all ≤ 64 → All KeepsKid more → All IsNamedFile more → Leads fleet_format (map (λ k. spaced_words (kid_words k)) more) (so_far seen) (so_far all)
kids_lead all seen [] e few k f = subst (λ (l : List Kid). Leads fleet_format [] (so_far seen) (so_far l)) (sym (append-nil seen) ∙ e) (leads-nil fleet_format (so_far seen))
kids_lead all seen (kid ∷ more) e few k f =
    leads-cons fleet_format (spaced_words (kid_words kid)) (map (λ x. spaced_words (kid_words x)) more) (so_far seen) (so_far (seen ++ kid ∷ [])) (so_far all)
    (kid_step kid seen (All-head KeepsKid kid more k) (All-head IsNamedFile kid more f) (room_for all seen kid more 64 e few))
    (kids_lead all (seen ++ kid ∷ []) more (more_to all seen kid more e) few (All-tail KeepsKid kid more k) (All-tail IsNamedFile kid more f))

header_step : (number : ℕ) → fleet_format.step number (codes "planet fleet 1") no_children ≡ Ok (so_far [])
unfolding fleet_step_at
header_step number = refl

abbrev IsWrittenKid : Kid → Type 0
IsWrittenKid kid = KeepsKid kid × IsNamedFile kid

kid_free : (kid : Kid) → IsWrittenKid kid → without 10 (spaced_words (kid_words kid)) ≡ true
kid_free kid k = line_is (kid_words kid) (kid_clean kid k.0 k.1).1

end_is : (number : ℕ) (f : Fleet) → 1 ≤ length f.children → fleet_format.finish number (so_far f.children) ≡ Ok f
end_is number f some = ap (λ b. fleet_end true b number (so_far f.children)) (lt-ltb 0 (length f.children) (omega (arith, some)))

-- a fleet that is written reads as itself
pub fleet_again : (f : Fleet) → IsFleet f → fleet_of (fleet_text f) ≡ Ok f
fleet_again f is =
    let both : All IsWrittenKid f.children = λ k d h. (is.rules.children k d h, is.files k d h) in
    said_by fleet_format (fleet_lines f) no_children (so_far f.children) (Ok f)
    (refl, all_free (λ k. spaced_words (kid_words k)) IsWrittenKid kid_free f.children both)
    (leads-cons fleet_format (codes "planet fleet 1") _ no_children (so_far []) (so_far f.children) header_step (kids_lead f.children [] f.children refl is.rules.few is.rules.children is.files) 1)
    (end_is (1 + length (fleet_lines f)) f is.rules.some)
