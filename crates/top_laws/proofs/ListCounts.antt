-- Files that are a header and a list, fleets and audits, only count their lines.
use Rattle.std.proofs.Common.{◌≡◌, ℕ, Bool, true, false, ltb, List, length, Ok, refl}
use lib.Chars.{codes}
use Rattle.line_reader.specs.Counting.{moved_line, moved_by, CountsOnly}
use Rattle.line_reader.specs.Files.{is_skipped}
use Rattle.node_files.specs.declared.fleet.FleetReading.{FleetReading}
use Rattle.node_files.specs.Fleets.{kid_line, fleet_step_at, fleet_end, fleet_format, no_children}
use Rattle.command_files.specs.declared.audit.AuditReading.{AuditReading}
use Rattle.command_files.specs.AuditFiles.{audit_line, audit_step_at, audit_end, audit_format, nothing_read}
use Rattle.top_laws.specs.Outside.{FleetOutside, AuditOutside}
use Rattle.top_laws.specs.Later.{unmoved_reading}
use Rattle.top_laws.specs.Skipping.{SkipsLines}
use Rattle.top_laws.proofs.MovedCounts.{Moves, moves_count, skips_lines}
use Rattle.top_laws.proofs.LinesMoved.{identity_changes_nothing, header_moved, usual_moved, usual_skips}

-- ---- fleets

kid_moved : (first number : ℕ) (line : List ℕ) (begun : Bool) (s : FleetReading) → fleet_step_at begun (moved_line first number) line s ≡ moved_by first (λ x. x) (fleet_step_at begun number line s)
unfolding fleet_step_at
kid_moved first number line false s =
    let next : FleetReading = record s { begun = true } in
    header_moved (codes "planet fleet 1") first number line (λ x. x) next next refl
kid_moved first number line true s = usual_moved first number line (λ x. x) s s (λ ws. kid_line ws s) (λ ws. kid_line ws s) refl (λ ws. identity_changes_nothing (kid_line ws s))

kids_moved : (first number : ℕ) (begun some : Bool) (s : FleetReading) → fleet_end begun some (moved_line first number) s ≡ moved_by first (λ x. x) (fleet_end begun some number s)
kids_moved first number false some s = refl
kids_moved first number true false s = refl
kids_moved first number true true s = refl

fleet_moves : Moves fleet_format unmoved_reading
fleet_moves = record {
  step = λ first number line s. kid_moved first number line s.begun s;
  finish = λ first number s. kids_moved first number s.begun (ltb 0 (length s.children)) s;
}

pub fleet_counts : CountsOnly fleet_format unmoved_reading
fleet_counts = moves_count fleet_format unmoved_reading fleet_moves

kid_skipped : (number : ℕ) (line : List ℕ) (begun : Bool) (s : FleetReading) → is_skipped line ≡ true → begun ≡ true → fleet_step_at begun number line s ≡ Ok s
unfolding fleet_step_at
kid_skipped number line true s e o = usual_skips number line s (λ ws. kid_line ws s) e
kid_skipped number line false s e o = absurd cc

pub fleet_skips : SkipsLines fleet_format no_children FleetOutside
fleet_skips = skips_lines fleet_format no_children unmoved_reading FleetOutside fleet_moves (record {
  step = λ number line s e o. kid_skipped number line s.begun s e o;
  fixed = λ first low. refl;
  header = λ o. absurd cc;
})

-- ---- audits

log_moved : (first number : ℕ) (line : List ℕ) (begun : Bool) (s : AuditReading) → audit_step_at begun (moved_line first number) line s ≡ moved_by first (λ x. x) (audit_step_at begun number line s)
unfolding audit_step_at
log_moved first number line false s =
    let next : AuditReading = record s { begun = true } in
    header_moved (codes "planet audit 1") first number line (λ x. x) next next refl
log_moved first number line true s = usual_moved first number line (λ x. x) s s (λ ws. audit_line ws s) (λ ws. audit_line ws s) refl (λ ws. identity_changes_nothing (audit_line ws s))

logs_moved : (first number : ℕ) (begun some : Bool) (s : AuditReading) → audit_end begun some (moved_line first number) s ≡ moved_by first (λ x. x) (audit_end begun some number s)
logs_moved first number false some s = refl
logs_moved first number true false s = refl
logs_moved first number true true s = refl

audit_moves : Moves audit_format unmoved_reading
audit_moves = record {
  step = λ first number line s. log_moved first number line s.begun s;
  finish = λ first number s. logs_moved first number s.begun (ltb 0 (length s.logs)) s;
}

pub audit_counts : CountsOnly audit_format unmoved_reading
audit_counts = moves_count audit_format unmoved_reading audit_moves

log_skipped : (number : ℕ) (line : List ℕ) (begun : Bool) (s : AuditReading) → is_skipped line ≡ true → begun ≡ true → audit_step_at begun number line s ≡ Ok s
unfolding audit_step_at
log_skipped number line true s e o = usual_skips number line s (λ ws. audit_line ws s) e
log_skipped number line false s e o = absurd cc

pub audit_skips : SkipsLines audit_format nothing_read AuditOutside
audit_skips = skips_lines audit_format nothing_read unmoved_reading AuditOutside audit_moves (record {
  step = λ number line s e o. log_skipped number line s.begun s e o;
  fixed = λ first low. refl;
  header = λ o. absurd cc;
})
