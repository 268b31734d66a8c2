use Rattle.std.proofs.Common.{◌≡◌, ◌∙◌, Option, rules, ap, sym, subst}
use Rattle.service_api.specs.Rows.{rows_size, fits}
use Rattle.resident_tables.specs.declared.counts.Counts.{Counts}
use Rattle.resident_tables.specs.Counted.{bytes_after}
use Rattle.resident_tables.specs.Expiries.{least_expiry}
use Rattle.resident_tables.specs.Layers.{over, IsOver}
use Rattle.resident_tables.specs.Tables.{Table}
use Rattle.resident_tables.proofs.Expiries.{stay_committed}
use Rattle.resident_tables.proofs.Limits.{committed_rows_fit}
use Rattle.resident_tables.proofs.tables.Tables.commit.Goals as goal

pub invariant_of-self : goal.invariant_of-self
invariant_of-self c =
    let base = c.self.inside.rows.items in
    let o = c.args.changes.now in
    let rows : c.make_in.new.rows.items ≡ over base o = c.make_in.ensures in
    let kept = committed_rows_fit base o c.self.inside.bytes c.self.invariant.bytes c.self.invariant.fit (subst (λ (t : Table). IsOver t.rows o) (sym c.self.view_is) c.requires.over) in record {
      bytes = c.bytes_after-self-inside.ensures ∙ ap (λ (k : Option Counts). bytes_after k c.self.inside.bytes) c.counted.ensures ∙ kept.0 ∙ ap rows_size (sym rows);
      fit = ap fits rows ∙ kept.1;
      least = search rules;
      stay = stay_committed c.self.inside.earliest c.least_expiry-self-inside.result o.gone o.puts base c.make_in.new.rows.items
          (c.least_expiry-self-inside.ensures ∙ ap (least_expiry c.self.inside.earliest) c.puts.ensures) rows c.self.invariant.stay;
    }
