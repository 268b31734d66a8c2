use Rattle.std.proofs.Common.{◌≡◌, true, min, ◌∙◌, ap, sym, subst}
use Rattle.service_api.specs.Rows.{rows_size, fits, living}
use Rattle.resident_tables.specs.Expiries.{AllStay, expired_size, least_expiry}
use Rattle.resident_tables.specs.Tables.{Table}
use Rattle.resident_tables.proofs.Expiries.{all_living, least_stay}
use Rattle.resident_tables.proofs.Limits.{few_rows, living_fits, gone_within, bytes_left}
use Rattle.resident_tables.proofs.tables.Tables.expire.Goals as goal

pub returns-then-now-self-clause-rows : goal.returns-then-now-self-clause-rows
returns-then-now-self-clause-rows c =
    sym (ap (λ (t : Table). living c.args.now t.rows) (sym c.self.view_is) ∙ all_living c.args.now c.self.inside.earliest c.self.inside.rows.items c.if-now-self.true c.self.invariant.stay ∙ ap
    (λ (t : Table). t.rows) c.self.view_is)

pub overflow_sub-self : goal.overflow_sub-self
overflow_sub-self c =
    gone_within c.args.now c.self.inside.rows.items c.self.inside.bytes c.expired_size-gone.result c.self.invariant.fit c.self.invariant.bytes
    (c.expired_size-gone.ensures ∙ ap (λ xs. min (expired_size c.args.now xs) 18446744073709551615) c.as_slice.ensures.items)

pub drop_expired-requires : goal.drop_expired-requires
drop_expired-requires c = few_rows c.self.inside.rows.items c.self.invariant.fit

pub invariant_of-self : goal.invariant_of-self
invariant_of-self c =
    let within = subst (λ xs. fits xs ≡ true) (sym c.drop_expired.ensures.rows) (living_fits c.args.now c.self.inside.rows.items c.self.invariant.fit) in record {
      bytes = bytes_left c.args.now c.self.inside.rows.items c.self.inside.bytes c.expired_size-gone.result c.self.invariant.fit c.self.invariant.bytes
          (c.expired_size-gone.ensures ∙ ap (λ xs. min (expired_size c.args.now xs) 18446744073709551615) c.as_slice.ensures.items) ∙ ap rows_size (sym c.drop_expired.ensures.rows);
      fit = within;
      least = c.self.invariant.least;
      stay = subst (λ e. AllStay e c.drop_expired.new.self.items)
          (sym (c.least_expiry-self-inside.ensures ∙ ap (least_expiry 18446744073709551615) c.as_slice-2.ensures.items)) (least_stay 18446744073709551615 c.drop_expired.new.self.items);
    }
