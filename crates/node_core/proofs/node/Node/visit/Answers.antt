use Rattle.std.proofs.Common.{rules, refl, subst, sym, ap, ◌∙◌}
use Rattle.std.specs.Vec.{with_items}
use Rattle.std.proofs.lemmas.List.{with_items_is, places}
use Rattle.packet_frame.specs.Spelled.{MayCarry}
use Rattle.node_core_parts.specs.Heard.{TellsAll}
use Rattle.node_core.proofs.StepLaws.{if_ok, on_ok, on_err, mark_stands, same_stands, around_is, visited}
use Rattle.node_core.proofs.node.Node.visit.Goals as goal

pub turn-turned-requires : goal.turn-turned-requires
turn-turned-requires g c = record {
  own = record { bound = c.around-ctx.ensures.purse; source = c.around-ctx.ensures.source; near = c.around-ctx.ensures.near };
  carried = subst (λ m. MayCarry m c.args.packet.now.handler) (sym c.mark-mark.ensures.value) c.requires.carried;
}

pub keep_router-requires : goal.keep_router-requires
keep_router-requires g c =
    let told = subst (λ t. TellsAll t c.in_ok-rows.rows) (sym c.in_ok-rows.ensures.same) c.in_ok-rows.ensures.rows in
    subst (TellsAll c.take_router.new.self) (sym (ap (λ x. x.router) c.around-ctx.ensures.ctx)) told

pub returns-in-Ok-clause-steps : goal.returns-in-Ok-clause-steps
returns-in-Ok-clause-steps g c =
    let old = c.args.self.now in
    let routes = c.keep_router.ensures ∙ c.in_ok-rows.ensures.same in
    let links = c.put.ensures ∙ ap (λ x. x.neighbours) c.around-ctx.ensures.ctx ∙ c.take-links.ensures.items in
    let new = record old {
      routes = c.keep_router.new.self;
      neighbours = c.put.new.self;
      services = c.turn-turned.new.self;
      lanes = with_items old.lanes c.turn-turned.new.lanes;
    } in
    let back = with_items_is old.lanes c.turn-turned.new.lanes (search (rules, places)) in
    let was = c.in-Ok.is in
    let done = c.turn-turned.ensures in
    record {
      ok = λ s h.
          let ctx = around_is _ old s c.args.packet.now c.around-ctx.result c.take-links.result c.in_ok-rows.rows h c.around-ctx.ensures.ctx c.take-links.ensures.items c.in_ok-rows.ensures.rows in
          visited _ old new s c.args.packet.now c.args.before c.in-Ok.list c.around-ctx.result c.mark-mark.result c.deref_mut.result.now h c.deref_mut.ensures.value ctx
          (c.mark-mark.ensures.value ∙ mark_stands _ old s h) (if_ok _ _ _ was done.acts) (back ∙ on_ok _ _ was done.lanes) (on_ok _ _ was done.services) refl refl refl refl refl refl routes links;
      err = λ s h. tt;
      same = refl;
    }

pub returns-in-Err-clause-steps : goal.returns-in-Err-clause-steps
returns-in-Err-clause-steps g c =
    let old = c.args.self.now in
    let routes = c.keep_router.ensures ∙ c.in_ok-rows.ensures.same in
    let links = c.put.ensures ∙ ap (λ x. x.neighbours) c.around-ctx.ensures.ctx ∙ c.take-links.ensures.items in
    let new = record old {
      routes = c.keep_router.new.self;
      neighbours = c.put.new.self;
      services = c.turn-turned.new.self;
      lanes = with_items old.lanes c.turn-turned.new.lanes;
    } in
    let back = with_items_is old.lanes c.turn-turned.new.lanes (search (rules, places)) in
    let was = c.in-Err.is in
    let done = c.turn-turned.ensures in
    record {
      ok = λ s h. tt;
      err = λ s h. same_stands _ old new s h refl refl refl refl refl refl routes links (on_err _ _ was done.undone) (back ∙ on_err _ _ was done.same ∙ c.deref_mut.ensures.value);
      same = refl;
    }
