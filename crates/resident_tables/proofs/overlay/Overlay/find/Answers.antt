use Rattle.std.proofs.Common.{◌∙◌, ap, subst}
use Rattle.std.specs.Option.{option_copied}
use Rattle.containers.specs.Keys.{IsUnique}
use Rattle.service_api.specs.Rows.{row_key, found_row}
use Rattle.resident_tables.specs.Layers.{Layer, over}
use Rattle.resident_tables.proofs.Over.{find_put, find_gone, find_base, unique_over}
use Rattle.resident_tables.proofs.overlay.Overlay.find.Goals as goal

pub returns-in-Some-clause-row : goal.returns-in-Some-clause-row
returns-in-Some-clause-row g c =
    let k = g.Q.HasKey.key_of c.args.wanted.now in
    find_put k c.self.inside.puts.items c.self.inside.gone.items c.args.base.now.rows c.in-Some.row.now c.get.ensures.unique c.in-Some.ensures.item
    ∙ ap (λ (o : Layer). found_row k (over c.args.base.now.rows o)) c.self.view_is

pub returns-in-Some-clause-unique : goal.returns-in-Some-clause-unique
returns-in-Some-clause-unique g c = subst (λ (o : Layer). IsUnique row_key (over c.args.base.now.rows o)) c.self.view_is
    (unique_over (g.Q.HasKey.key_of c.args.wanted.now) c.self.inside.puts.items c.self.inside.gone.items c.args.base.now.rows c.rows-rows.ensures.unique)

pub returns-in-Some-clause-puts : goal.returns-in-Some-clause-puts
returns-in-Some-clause-puts g c = subst (λ (o : Layer). IsUnique row_key o.puts) c.self.view_is c.get.ensures.unique

pub returns-in-Some-get-clause-row : goal.returns-in-Some-get-clause-row
returns-in-Some-get-clause-row g c =
    let k = g.Q.HasKey.key_of c.args.wanted.now in
    find_gone k c.self.inside.puts.items c.self.inside.gone.items c.args.base.now.rows c.in-Some-get._noted.now c.in_default.ensures.item c.in-Some-get.ensures.item
    ∙ ap (λ (o : Layer). found_row k (over c.args.base.now.rows o)) c.self.view_is

pub returns-in-Some-get-clause-unique : goal.returns-in-Some-get-clause-unique
returns-in-Some-get-clause-unique g c = subst (λ (o : Layer). IsUnique row_key (over c.args.base.now.rows o)) c.self.view_is
    (unique_over (g.Q.HasKey.key_of c.args.wanted.now) c.self.inside.puts.items c.self.inside.gone.items c.args.base.now.rows c.rows-rows.ensures.unique)

pub returns-in-Some-get-clause-puts : goal.returns-in-Some-get-clause-puts
returns-in-Some-get-clause-puts g c = subst (λ (o : Layer). IsUnique row_key o.puts) c.self.view_is c.get.ensures.unique

pub returns-clause-row : goal.returns-clause-row
returns-clause-row g c =
    let k = g.Q.HasKey.key_of c.args.wanted.now in
    find_base k c.self.inside.puts.items c.self.inside.gone.items c.args.base.now.rows (option_copied c.find.result) c.in_default.ensures.item c.in_default-get.ensures.item c.find.ensures.row
    ∙ ap (λ (o : Layer). found_row k (over c.args.base.now.rows o)) c.self.view_is

pub returns-clause-unique : goal.returns-clause-unique
returns-clause-unique g c = subst (λ (o : Layer). IsUnique row_key (over c.args.base.now.rows o)) c.self.view_is
    (unique_over (g.Q.HasKey.key_of c.args.wanted.now) c.self.inside.puts.items c.self.inside.gone.items c.args.base.now.rows c.rows-rows.ensures.unique)

pub returns-clause-puts : goal.returns-clause-puts
returns-clause-puts g c = subst (λ (o : Layer). IsUnique row_key o.puts) c.self.view_is c.get.ensures.unique
