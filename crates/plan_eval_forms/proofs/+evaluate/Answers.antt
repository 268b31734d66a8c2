use Rattle.std.proofs.Common.{rules, w64, ◌≡◌, refl, sym, ap, ◌∙◌, arith, subst, [], length, drop, take, Some, ◌+◌, ◌-◌, ◌≤◌}
use Rattle.std.proofs.lemmas.Int.{to_z-of_z}
use Rattle.std.specs.Prelude.{IsSome, slice_get}
use Rattle.plan_base.specs.declared.tree.Expr.{Expr-F, out-Expr}
use Rattle.plan_base.specs.Trees.{trees}
use Rattle.plan_types_spec.specs.TypingNames.{place_of, service_of}
use Rattle.plan_meaning.specs.declared.stop.EvalStop.TheVariants.{WorkSpent}
use Rattle.plan_meaning.specs.Safe.{IsSafe}
use Rattle.plan_eval_state.specs.declared.continuation.Activation.{Activation}
use Rattle.plan_eval_state.specs.Flow.{now}
use Rattle.plan_eval_state.specs.Leads.{Leads}
use Rattle.plan_eval_state.proofs.Going.{not_begun}
use Rattle.plan_eval_state.proofs.Leading.{onward}
use Rattle.plan_eval_state.proofs.Lawful as law
use Rattle.plan_eval_made.specs.Where.{spot, Ready}
use Rattle.plan_eval_made.specs.Makes.{IsConstant}
use Rattle.plan_eval_made.specs.Comes.{pending_here}
use Rattle.plan_eval_forms.specs.Parts as parts
use Rattle.plan_eval_forms.proofs.Running.{grows_same, grows_on, comes_begun, keeps_on, keeps_done}
use Rattle.plan_eval_forms.proofs.Beginning.{leaf_begins, int_begins, int_form, var_form, binary_form, tuple_form, part_form, not_form, chunk_form, remote_form, near_form}
use Rattle.plan_eval_forms.proofs.Making.{made_at_once, gathered_made, gather_ready, gather_waits, operand_safe, operand_gives, operand_waits, operands_end, rest_more}
use Rattle.plan_eval_forms.proofs.Wheres.{ready_drop, ready_grown}
use Rattle.plan_eval_forms.proofs.Branching.{one_top, branch_gives, branch_waits, popped_ready, popped_safe, popped_taken, popped_decides, bound_ready, bound_safe, bound_gives, bound_waits}
use Rattle.plan_eval_forms.proofs.Entering.{entered_there, function_within, enter_ready, enter_safe, entered, called_safe, call_gives, call_waits, call_wrong, service_safe, service_answers, primitive_answers}
use Rattle.plan_eval_forms.proofs.Trying.{attempt_safe, attempt_gives, attempt_waits, raised_ready, raised_high, raised_safe, raised_on, cut_low, caught_safe, caught_last, caught_none}
use Rattle.plan_eval_forms.proofs.Evaling.{eval_program, eval_size, eval_high, eval_safe, eval_gives, eval_waits, eval_refused}
use Rattle.plan_eval_forms.proofs.Folding.{here_folder, begun_ready, begun_high, begun_safe, begun_on, item_leads, item_below, item_high, item_keeps}
use Rattle.plan_eval_forms.proofs.Folding.{item_bare, item_less, stepped_high, stepped_below, same_height, fold_waits, fold_ends, fold_stops, step_gives, step_waits}
use Rattle.plan_eval_forms.proofs.Operating.{numbers_begin, first_safe, first_gives, first_waits}
use Rattle.plan_eval_forms.proofs.+evaluate.Goals as goal

pub forms::begin-returns-in-Int : goal.forms::begin-returns-in-Int
forms::begin-returns-in-Int g t c =
    let form : out-Expr c.args.e.now ≡ Expr-F.Int c.in-Int.n = rw c.in-Int.is (int_form c.in-Int.n) in
    int_begins c.args.here.now c.args.e.now c.in-Int.n _ c.args.depth c.args.run.now _ c.number.result c.number.new.run form c.requires.safe (to_z-of_z w64 c.in-Int.n (search rules)) c.number.ensures.flows c.number.ensures.settled
    c.number.ensures.falls c.number.ensures.codes

pub forms::begin-returns-in-Var : goal.forms::begin-returns-in-Var
forms::begin-returns-in-Var g t c =
    let form : out-Expr c.args.e.now ≡ Expr-F.Var c.in-Var.x = rw c.in-Var.is (var_form c.in-Var.x) in
    leaf_begins c.args.here.now c.args.e.now c.args.depth c.args.run.now _ c.variable.result c.variable.new.run (c.variable.ensures.flows c.args.e.now _ form) c.variable.ensures.settled
    c.variable.ensures.falls c.variable.ensures.codes

pub forms::begin-returns-in-Host : goal.forms::begin-returns-in-Host
forms::begin-returns-in-Host g t c =
    let constant : IsConstant (out-Expr c.args.e.now) = search rules in
    leaf_begins c.args.here.now c.args.e.now c.args.depth c.args.run.now _ c.constant.result c.constant.new.run
    (c.constant.ensures.flows (spot c.args.here.now c.args.e.now c.args.run.now.stack) _ refl constant) c.constant.ensures.settled
    c.constant.ensures.falls c.constant.ensures.codes

pub forms::begin-returns-in-Unit : goal.forms::begin-returns-in-Unit
forms::begin-returns-in-Unit g t c =
    let constant : IsConstant (out-Expr c.args.e.now) = grind (arith, trees) in
    leaf_begins c.args.here.now c.args.e.now c.args.depth c.args.run.now _ c.constant-in-Unit.result c.constant-in-Unit.new.run
    (c.constant-in-Unit.ensures.flows (spot c.args.here.now c.args.e.now c.args.run.now.stack) _ refl constant) c.constant-in-Unit.ensures.settled
    c.constant-in-Unit.ensures.falls c.constant-in-Unit.ensures.codes

pub forms::branched-last-requires : goal.forms::branched-last-requires
forms::branched-last-requires g t c κs within =
    let ready = popped_ready c.args.here.now c.args.e.now c.args.depth c.args.run.now (g.S.Services.stands c.args.svc.now) c.pop_test-test.result c.pop_test-test.new.run c.requires.high
    c.pop_test-test.ensures.test c.pop_test-test.ensures.stays c.requires.safe c.requires.ready in
    let safe = popped_safe c.args.here.now c.args.e.now c.args.depth c.args.run.now (g.S.Services.stands c.args.svc.now) c.pop_test-test.result c.pop_test-test.new.run c.requires.high
    c.pop_test-test.ensures.test c.pop_test-test.ensures.stays c.requires.safe c.in-Branch.n c.in-Branch.part.now c.in-Branch.ensures.0 c.in-Branch.ensures.1 in (
      search rules,
      (
        search rules,
        (
          c.requires.open,
          (
            c.pop_test-test.ensures.stays.paused ∙ c.requires.bare,
            (
              c.in-Branch.ensures.1,
              (
                ready,
                safe,
              ),
            ),
          ),
        ),
      ),
    )

pub forms::branched-returns-in-Branch : goal.forms::branched-returns-in-Branch
forms::branched-returns-in-Branch g t c =
    popped_taken c.args.here.now c.args.e.now c.args.depth c.args.run.now _ c.pop_test-test.result c.pop_test-test.new.run c.requires.high
    c.pop_test-test.ensures.test c.pop_test-test.ensures.stays c.requires.safe c.in-Branch.n c.in-Branch.part.now c.in-Branch.ensures.0 c.in-Branch.ensures.1
    c.last.result c.last.new.run _ c.last.ensures

pub forms::branched-returns-in-Gives : goal.forms::branched-returns-in-Gives
forms::branched-returns-in-Gives g t c =
    popped_decides c.args.here.now c.args.e.now c.args.depth c.args.run.now _ c.pop_test-test.result c.pop_test-test.new.run c.requires.high
    c.pop_test-test.ensures.test c.pop_test-test.ensures.stays c.requires.safe _ c.in-Gives.ensures c.truth.result c.truth.new.run
    c.truth.ensures.flows c.truth.ensures.settled c.truth.ensures.falls c.truth.ensures.codes

pub forms::evaluate-returns-then-not-pays : goal.forms::evaluate-returns-then-not-pays
forms::evaluate-returns-then-not-pays g t c =
    record {
      flows = not_begun (spot c.args.here.now c.args.e.now c.args.run.now.stack) (now c.args.run.now (g.S.Services.stands c.args.svc.now)) WorkSpent _
          (c.if-not-pays.ensures.unpaid refl (g.S.Services.stands c.args.svc.now));
      spends = c.if-not-pays.ensures.falls;
      grown = grows_same _ _ refl;
      offer = refl;
      begun = refl;
    }

pub forms::evaluate-begin-requires : goal.forms::evaluate-begin-requires
forms::evaluate-begin-requires g t c κs within =
    let safe : IsSafe (parts.begun_here c.args.here.now c.args.e.now (record c.args.run.now { state = c.pays.new.self }) (g.S.Services.stands c.args.svc.now)).asks =
    (law.pays_first (spot c.args.here.now c.args.e.now c.args.run.now.stack) (now c.args.run.now (g.S.Services.stands c.args.svc.now)) _
    (c.if-not-pays.ensures.paid refl (g.S.Services.stands c.args.svc.now))).safe c.requires.safe in
    search rules

pub forms::evaluate-returns : goal.forms::evaluate-returns
forms::evaluate-returns g t c =
    comes_begun c.args.depth (c.args.depth - 1) (spot c.args.here.now c.args.e.now c.args.run.now.stack) c.args.run.now.stack c.args.run.now (g.S.Services.stands c.args.svc.now)
    (record c.args.run.now { state = c.pays.new.self }) c.begin.result c.begin.new.run _ (c.if-not-pays.ensures.paid refl (g.S.Services.stands c.args.svc.now))
    (c.if-not-pays.ensures.spends refl) refl c.requires.safe c.begin.ensures

pub forms::gather-evaluate-requires : goal.forms::gather-evaluate-requires
forms::gather-evaluate-requires g t c κs within =
    let i = c.loop-n.invariant in
    let ready = gather_ready c.args.here.now c.args.e.now c.args.from c.loop-n.n c.args.run.now c.loop-n.run (g.S.Services.stands c.args.svc.now) (g.S.Services.stands c.loop-n.svc) i.below i.keeps
    c.requires.ready in (
      search rules,
      (
        search rules,
        (
          subst IsSome (sym i.keeps.begun) c.requires.open,
          (
            i.bare ∙ c.requires.bare,
            (
              ready_drop c.args.here.now c.loop-n.n c.loop-n.run.stack c.loop-n.run.codes ready,
              operand_safe c.args.here.now c.args.e.now c.loop-n.n c.loop-n.run (g.S.Services.stands c.loop-n.svc) i.high (λ z. c.requires.form (omega (arith, z, i.low))) c.in-Some.part.now ready
                  (sym c.in-Some.ensures) (i.leads.safe c.requires.safe),
            ),
          ),
        ),
      ),
    )

pub forms::gather-loop-n-preserved : goal.forms::gather-loop-n-preserved
forms::gather-loop-n-preserved g t c =
    let i = c.loop-n.invariant in
    let ready = gather_ready c.args.here.now c.args.e.now c.args.from c.loop-n.n c.args.run.now c.loop-n.run (g.S.Services.stands c.args.svc.now) (g.S.Services.stands c.loop-n.svc) i.below i.keeps
    c.requires.ready in
    let v = c.in-Done.ensures.flows in
    record {
      high = omega (arith, i.high, ap length v.stacked);
      low = omega (arith, i.low);
      within = omega (arith, c.loop-n-test.true);
      below = ap (drop (c.loop-n.n + 1)) v.stacked ∙ rest_more v.v c.loop-n.run.stack c.loop-n.n ∙ i.below;
      bare = v.none ∙ sym c.requires.bare;
      leads = onward _ _ _ i.leads
          (operand_gives c.args.here.now c.args.e.now c.loop-n.n c.loop-n.run (g.S.Services.stands c.loop-n.svc) i.high (λ z. c.requires.form (omega (arith, z, i.low))) c.in-Some.part.now ready
          (sym c.in-Some.ensures) c.args.depth c.evaluate.new.run (g.S.Services.stands c.evaluate.new.svc) v);
      keeps = keeps_on _ _ _ _ _ _ i.keeps (keeps_done _ _ _ _ _ _ _ _ c.in-Done.ensures);
    }

pub forms::gather-returns-in_default-evaluate : goal.forms::gather-returns-in_default-evaluate
forms::gather-returns-in_default-evaluate g t c =
    let i = c.loop-n.invariant in
    let ready = gather_ready c.args.here.now c.args.e.now c.args.from c.loop-n.n c.args.run.now c.loop-n.run (g.S.Services.stands c.args.svc.now) (g.S.Services.stands c.loop-n.svc) i.below i.keeps
    c.requires.ready in
    gather_waits c.args.here.now c.args.e.now c.args.from c.loop-n.n c.args.run.now c.loop-n.run (g.S.Services.stands c.args.svc.now) (g.S.Services.stands c.loop-n.svc) i.below i.keeps
    c.requires.ready c.args.depth c.back.result c.back.new.run _ c.requires.safe i.leads
    (operand_waits c.args.here.now c.args.e.now c.loop-n.n c.loop-n.run (g.S.Services.stands c.loop-n.svc) i.high (λ z. c.requires.form (omega (arith, z, i.low))) c.in-Some.part.now ready
    (sym c.in-Some.ensures) c.args.depth c.evaluate.result c.evaluate.new.run _ c.back.result c.back.new.run (i.leads.safe c.requires.safe) c.evaluate.ensures c.back.ensures.flows
    c.back.ensures.lasts c.back.ensures.codes)

pub forms::gather-returns : goal.forms::gather-returns
forms::gather-returns g t c =
    let i = c.loop-n.invariant in
    let all : c.loop-n.n ≡ parts.arity c.args.e.now = omega (arith, c.loop-n-test.false, i.within, c.arity-many.ensures) in
    record {
      high = omega (arith, i.high, all);
      below = subst (λ k. drop k c.loop-n.run.stack ≡ drop c.args.from c.args.run.now.stack) all i.below;
      leads = subst (λ k. Leads (pending_here c.args.here.now c.args.e.now c.args.from c.args.run.now (g.S.Services.stands c.args.svc.now))
          (parts.made_here c.args.here.now c.args.e.now k c.loop-n.run (g.S.Services.stands c.loop-n.svc))) all
          (onward _ _ _ i.leads
          (operands_end c.args.here.now c.args.e.now c.loop-n.n c.loop-n.run (g.S.Services.stands c.loop-n.svc) i.high (λ z. c.requires.form (omega (arith, z, i.low))) (omega (arith, all))));
      none = i.bare ∙ c.requires.bare;
      keeps = i.keeps;
    }

pub forms::last-returns-in-Done : goal.forms::last-returns-in-Done
forms::last-returns-in-Done g t c =
    branch_gives c.args.here.now c.args.e.now c.args.part.now c.args.n c.args.run.now _ c.args.depth c.requires.part c.requires.ready c.requires.safe c.evaluate.new.run _ c.ended.result
    c.ended.new.run c.in-Done.ensures c.ended.ensures.flows c.ended.ensures.settled c.ended.ensures.falls c.ended.ensures.codes

pub forms::last-returns-in_default : goal.forms::last-returns-in_default
forms::last-returns-in_default g t c =
    branch_waits c.args.here.now c.args.e.now c.args.part.now c.args.n c.args.run.now _ c.args.depth c.requires.part c.requires.ready c.requires.safe c.evaluate.result c.evaluate.new.run _
    c.back.result c.back.new.run c.evaluate.ensures c.back.ensures.flows c.back.ensures.lasts c.back.ensures.codes

pub forms::made-returns-in-Binary : goal.forms::made-returns-in-Binary
forms::made-returns-in-Binary g t c =
    let form : out-Expr c.args.e.now ≡ Expr-F.Binary c.in-Binary.op c.in-Binary.field-1 c.in-Binary.field-2 = rw c.in-Binary.is (binary_form c.in-Binary.op c.in-Binary.field-1 c.in-Binary.field-2) in
    made_at_once c.args.here.now c.args.e.now (parts.arity c.args.e.now) c.args.depth c.args.run.now _ c.operate.result c.operate.new.run refl c.requires.high
    (c.operate.ensures.made (spot c.args.here.now c.args.e.now (drop (parts.arity c.args.e.now) c.args.run.now.stack)) _ _ form) c.operate.ensures.settled c.operate.ensures.falls
    c.operate.ensures.codes

pub forms::made-returns-in-Tuple : goal.forms::made-returns-in-Tuple
forms::made-returns-in-Tuple g t c =
    let form : out-Expr c.args.e.now ≡ Expr-F.Tuple c.in-Tuple.es = rw c.in-Tuple.is (tuple_form c.in-Tuple.es) in
    made_at_once c.args.here.now c.args.e.now (parts.arity c.args.e.now) c.args.depth c.args.run.now _ c.make_tuple.result c.make_tuple.new.run refl c.requires.high
    (c.make_tuple.ensures.made (spot c.args.here.now c.args.e.now (drop (parts.arity c.args.e.now) c.args.run.now.stack)) _ form (sym c.len-in-Tuple.ensures)) c.make_tuple.ensures.settled
    c.make_tuple.ensures.falls c.make_tuple.ensures.codes

pub forms::made-returns-in-Part : goal.forms::made-returns-in-Part
forms::made-returns-in-Part g t c =
    let form : out-Expr c.args.e.now ≡ Expr-F.Part c.in-Part.i c.in-Part.field-1 = rw c.in-Part.is (part_form c.in-Part.i c.in-Part.field-1) in
    made_at_once c.args.here.now c.args.e.now (parts.arity c.args.e.now) c.args.depth c.args.run.now _ c.select.result c.select.new.run refl c.requires.high
    (c.select.ensures.made (spot c.args.here.now c.args.e.now (drop (parts.arity c.args.e.now) c.args.run.now.stack)) _ form) c.select.ensures.settled
    c.select.ensures.falls c.select.ensures.codes

pub forms::made-returns-in-Not : goal.forms::made-returns-in-Not
forms::made-returns-in-Not g t c =
    let form : out-Expr c.args.e.now ≡ Expr-F.Not c.in-Not.field-0 = rw c.in-Not.is (not_form c.in-Not.field-0) in
    made_at_once c.args.here.now c.args.e.now (parts.arity c.args.e.now) c.args.depth c.args.run.now _ c.negate.result c.negate.new.run refl c.requires.high
    (c.negate.ensures.made (spot c.args.here.now c.args.e.now (drop (parts.arity c.args.e.now) c.args.run.now.stack)) _ form) c.negate.ensures.settled
    c.negate.ensures.falls c.negate.ensures.codes

pub forms::made-returns-in-ChunkOf : goal.forms::made-returns-in-ChunkOf
forms::made-returns-in-ChunkOf g t c =
    let form : out-Expr c.args.e.now ≡ Expr-F.ChunkOf c.in-ChunkOf.f c.in-ChunkOf.es = rw c.in-ChunkOf.is (chunk_form c.in-ChunkOf.f c.in-ChunkOf.es) in
    made_at_once c.args.here.now c.args.e.now (parts.arity c.args.e.now) c.args.depth c.args.run.now _ c.make_chunk.result c.make_chunk.new.run refl c.requires.high
    (c.make_chunk.ensures.made (spot c.args.here.now c.args.e.now (drop (parts.arity c.args.e.now) c.args.run.now.stack)) _ form refl (sym c.len-in-ChunkOf.ensures)) c.make_chunk.ensures.settled
    c.make_chunk.ensures.falls c.make_chunk.ensures.codes

pub forms::made-returns-in-OnRemote : goal.forms::made-returns-in-OnRemote
forms::made-returns-in-OnRemote g t c =
    let form : out-Expr c.args.e.now ≡ Expr-F.OnRemote c.in-OnRemote.field-0 c.in-OnRemote.field-1 c.in-OnRemote.field-2 c.in-OnRemote.r =
    rw c.in-OnRemote.is (remote_form c.in-OnRemote.field-0 c.in-OnRemote.field-1 c.in-OnRemote.field-2 c.in-OnRemote.r) in
    made_at_once c.args.here.now c.args.e.now (parts.arity c.args.e.now) c.args.depth c.args.run.now _ c.send_remote.result c.send_remote.new.run refl c.requires.high
    (c.send_remote.ensures.made (spot c.args.here.now c.args.e.now (drop (parts.arity c.args.e.now) c.args.run.now.stack)) _ _ _ form) c.send_remote.ensures.settled
    c.send_remote.ensures.falls c.send_remote.ensures.codes

pub forms::made-returns-in-OnNeighbor : goal.forms::made-returns-in-OnNeighbor
forms::made-returns-in-OnNeighbor g t c =
    let form : out-Expr c.args.e.now ≡ Expr-F.OnNeighbor c.in-OnNeighbor.field-0 c.in-OnNeighbor.field-1 c.in-OnNeighbor.field-2 c.in-OnNeighbor.field-3 =
    rw c.in-OnNeighbor.is (near_form c.in-OnNeighbor.field-0 c.in-OnNeighbor.field-1 c.in-OnNeighbor.field-2 c.in-OnNeighbor.field-3) in
    made_at_once c.args.here.now c.args.e.now (parts.arity c.args.e.now) c.args.depth c.args.run.now _ c.send_near.result c.send_near.new.run refl c.requires.high
    (c.send_near.ensures.made (spot c.args.here.now c.args.e.now (drop (parts.arity c.args.e.now) c.args.run.now.stack)) _ _ _ _ form) c.send_near.ensures.settled
    c.send_near.ensures.falls c.send_near.ensures.codes

pub forms::operation-returns-in-None : goal.forms::operation-returns-in-None
forms::operation-returns-in-None g t c =
    gathered_made c.args.here.now c.args.e.now c.args.from c.args.depth c.args.run.now _ c.gather.new.run _ c.made.result c.made.new.run _ c.requires.safe c.in-None.ensures c.made.ensures

pub forms::binary-evaluate-requires : goal.forms::binary-evaluate-requires
forms::binary-evaluate-requires g t c κs within = (
  search rules,
  (
    search rules,
    (
      c.requires.open,
      (
        c.requires.bare,
        (
          c.requires.ready,
          first_safe c.args.here.now c.args.e.now c.args.a.now c.args.b.now c.args.op c.args.depth c.args.run.now (g.S.Services.stands c.args.svc.now)
              c.requires.form c.requires.ready c.requires.safe,
        ),
      ),
    ),
  ),
)

pub forms::binary-returns-in-Done : goal.forms::binary-returns-in-Done
forms::binary-returns-in-Done g t c =
    first_gives c.args.here.now c.args.e.now c.args.a.now c.args.b.now c.args.op c.args.depth c.args.run.now (g.S.Services.stands c.args.svc.now) c.requires.form c.requires.ready c.requires.safe c.in-Some.y _ c.in-Some.ensures
    (to_z-of_z w64 c.in-Some.y (search rules)) c.evaluate.new.run _ c.operate_on.result
    c.operate_on.new.run c.in-Done.ensures c.operate_on.ensures.flows c.operate_on.ensures.settled c.operate_on.ensures.falls c.operate_on.ensures.codes

pub forms::binary-returns-in_default-evaluate : goal.forms::binary-returns-in_default-evaluate
forms::binary-returns-in_default-evaluate g t c =
    first_waits c.args.here.now c.args.e.now c.args.a.now c.args.b.now c.args.op c.args.depth c.args.run.now (g.S.Services.stands c.args.svc.now) c.requires.form c.requires.ready c.requires.safe c.evaluate.result c.evaluate.new.run _
    c.back.result c.back.new.run c.evaluate.ensures c.back.ensures.flows c.back.ensures.lasts c.back.ensures.codes

pub forms::binary-returns-in-Some-leaf_number : goal.forms::binary-returns-in-Some-leaf_number
forms::binary-returns-in-Some-leaf_number g t c =
    numbers_begin c.args.here.now c.args.e.now c.args.a.now c.args.b.now c.args.op c.args.depth c.args.run.now (g.S.Services.stands c.args.svc.now) c.requires.form c.requires.ready c.requires.safe c.in-Some-leaf_number.x c.in-Some.y _
    _ c.in-Some-leaf_number.ensures c.in-Some.ensures
    (to_z-of_z w64 c.in-Some-leaf_number.x (search rules)) (to_z-of_z w64 c.in-Some.y (search rules)) c.numbers.result c.numbers.new.run c.numbers.ensures.flows c.numbers.ensures.settled
    c.numbers.ensures.falls c.numbers.ensures.codes

pub bodies::bound-evaluate-requires : goal.bodies::bound-evaluate-requires
bodies::bound-evaluate-requires g t c κs within =
    let height : c.len-at.result - 1 + 1 ≡ length c.args.run.now.stack = omega (arith, c.len-at.ensures, c.requires.high) in (
      search rules,
      (
        search rules,
        (
          c.requires.open,
          (
            c.requires.bare,
            (
              bound_ready c.args.here.now _ c.args.e.now c.args.b.now c.args.x.now c.args.depth c.args.run.now (g.S.Services.stands c.args.svc.now) (c.len-at.result - 1) c.in-Ok.bindings c.requires.high
                  c.requires.form c.in-Ok.ensures c.as_slice.ensures refl refl refl refl refl refl height c.requires.ready c.requires.safe,
              bound_safe c.args.here.now (record c.args.here.now { bindings = c.as_slice.result }) c.args.e.now c.args.b.now c.args.x.now c.args.depth c.args.run.now (g.S.Services.stands c.args.svc.now) (c.len-at.result - 1)
                  c.in-Ok.bindings c.requires.high
                  c.requires.form c.in-Ok.ensures c.as_slice.ensures refl refl refl refl refl refl height c.requires.ready c.requires.safe,
            ),
          ),
        ),
      ),
    )

pub bodies::bound-returns-in-Done : goal.bodies::bound-returns-in-Done
bodies::bound-returns-in-Done g t c =
    let height : c.len-at.result - 1 + 1 ≡ length c.args.run.now.stack = omega (arith, c.len-at.ensures, c.requires.high) in
    bound_gives c.args.here.now (record c.args.here.now { bindings = c.as_slice.result }) c.args.e.now c.args.b.now c.args.x.now c.args.depth c.args.run.now _ (c.len-at.result - 1) c.in-Ok.bindings
    c.requires.high c.requires.form c.in-Ok.ensures c.as_slice.ensures refl refl refl refl refl refl height c.requires.ready c.requires.safe c.evaluate.new.run _ c.body_ended.result
    c.body_ended.new.run c.in-Done.ensures c.body_ended.ensures.flows c.body_ended.ensures.settled c.body_ended.ensures.falls c.body_ended.ensures.codes

pub bodies::bound-returns : goal.bodies::bound-returns
bodies::bound-returns g t c =
    let height : c.len-at.result - 1 + 1 ≡ length c.args.run.now.stack = omega (arith, c.len-at.ensures, c.requires.high) in
    bound_waits c.args.here.now (record c.args.here.now { bindings = c.as_slice.result }) c.args.e.now c.args.b.now c.args.x.now c.args.depth c.args.run.now _ (c.len-at.result - 1) c.in-Ok.bindings
    c.requires.high c.requires.form c.in-Ok.ensures c.as_slice.ensures refl refl refl refl refl refl height c.requires.ready c.requires.safe c.evaluate.result c.evaluate.new.run _ c.back.result
    c.back.new.run c.evaluate.ensures c.back.ensures.flows c.back.ensures.lasts c.back.ensures.codes

pub bodies::call-returns-in_default : goal.bodies::call-returns-in_default
bodies::call-returns-in_default g t c =
    call_wrong c.args.here.now c.args.e.now c.args.f.now c.args.n c.args.depth c.args.run.now _ c.requires.form c.requires.high c.requires.ready c.requires.safe
    c.requires.function.0 c.requires.function.1 (ap (λ l. place_of c.args.f.now (take c.args.here.now.fun l)) (sym (c.as_slice.ensures ∙ ap (λ p. p.funs) c.get.ensures)) ∙ sym c.place_among.ensures ∙ c.in_default.is) c.requires.bare

pub bodies::call-enter-requires : goal.bodies::call-enter-requires
bodies::call-enter-requires g t c κs within =
    let base : c.len.result - c.args.n ≡ length c.args.run.now.stack - c.args.n = ap (λ k. k - c.args.n) c.len.ensures in
    let high : c.len.result - c.args.n ≤ length c.args.run.now.stack = omega (arith, c.len.ensures) in
    let safe = called_safe c.args.here.now c.args.e.now c.args.f.now c.args.n c.args.depth c.args.run.now (g.S.Services.stands c.args.svc.now) c.requires.form c.requires.high c.requires.ready c.requires.safe
    c.requires.function.0 c.requires.function.1 (record { number = c.args.here.now.number; fun = c.in-Some.fun; base = c.len.result - c.args.n }) refl base
    (ap (λ l. place_of c.args.f.now (take c.args.here.now.fun l)) (sym (c.as_slice.ensures ∙ ap (λ p. p.funs) c.get.ensures)) ∙ sym c.place_among.ensures ∙ c.in-Some.is) in
    (search rules, (search rules, (c.requires.open, (c.requires.bare, (c.requires.ready.is_here.program, (c.requires.ready.is_here.size, (high, safe)))))))

pub bodies::call-returns-in-Done : goal.bodies::call-returns-in-Done
bodies::call-returns-in-Done g t c =
    let base : c.len.result - c.args.n ≡ length c.args.run.now.stack - c.args.n = ap (λ k. k - c.args.n) c.len.ensures in
    call_gives c.args.here.now c.args.e.now c.args.f.now c.args.n c.args.depth c.args.run.now (g.S.Services.stands c.args.svc.now) c.requires.form c.requires.high c.requires.ready c.requires.safe
    c.requires.function.0 c.requires.function.1 (record { number = c.args.here.now.number; fun = c.in-Some.fun; base = c.len.result - c.args.n }) refl base
    (ap (λ l. place_of c.args.f.now (take c.args.here.now.fun l)) (sym (c.as_slice.ensures ∙ ap (λ p. p.funs) c.get.ensures)) ∙ sym c.place_among.ensures ∙ c.in-Some.is)
    c.enter.new.run _ c.body_ended.result c.body_ended.new.run c.in-Done.ensures c.body_ended.ensures.flows c.body_ended.ensures.settled c.body_ended.ensures.falls c.body_ended.ensures.codes

pub bodies::call-returns-in_default-enter : goal.bodies::call-returns-in_default-enter
bodies::call-returns-in_default-enter g t c =
    let base : c.len.result - c.args.n ≡ length c.args.run.now.stack - c.args.n = ap (λ k. k - c.args.n) c.len.ensures in
    call_waits c.args.here.now c.args.e.now c.args.f.now c.args.n c.args.depth c.args.run.now (g.S.Services.stands c.args.svc.now) c.requires.form c.requires.high c.requires.ready c.requires.safe
    c.requires.function.0 c.requires.function.1 (record { number = c.args.here.now.number; fun = c.in-Some.fun; base = c.len.result - c.args.n }) refl base
    (ap (λ l. place_of c.args.f.now (take c.args.here.now.fun l)) (sym (c.as_slice.ensures ∙ ap (λ p. p.funs) c.get.ensures)) ∙ sym c.place_among.ensures ∙ c.in-Some.is)
    c.enter.result c.enter.new.run _ c.enter.ensures c.back.result c.back.new.run c.back.ensures.flows c.back.ensures.lasts c.back.ensures.codes

pub bodies::called-returns-in-Some : goal.bodies::called-returns-in-Some
bodies::called-returns-in-Some g t c =
    primitive_answers c.args.here.now c.args.e.now c.args.f.now c.args.n c.args.depth c.args.run.now _ c.requires.form c.requires.high c.requires.ready c.requires.safe
    c.in-Some.p (sym c.prim_of.ensures ∙ c.in-Some.is) c.primitive_call.result c.primitive_call.new.run c.primitive_call.ensures.made c.primitive_call.ensures.settled c.primitive_call.ensures.falls
    c.primitive_call.ensures.codes

pub bodies::called-service_call-requires-clause-safe :
    goal.bodies::called-service_call-requires-clause-safe
bodies::called-service_call-requires-clause-safe g t c =
    service_safe c.args.here.now c.args.e.now c.args.f.now c.args.n c.args.depth c.args.run.now (g.S.Services.stands c.args.svc.now) c.requires.form c.requires.high c.requires.ready c.requires.safe
    (sym c.prim_of.ensures ∙ c.in_default.is) c.in-Some-service_of.service.now (ap (service_of c.args.f.now) (sym (c.as_slice.ensures ∙ ap (λ p. p.svcs) c.get.ensures)) ∙ sym c.in-Some-service_of.ensures)

pub bodies::called-returns-in-Some-service_of : goal.bodies::called-returns-in-Some-service_of
bodies::called-returns-in-Some-service_of g t c =
    service_answers c.args.here.now c.args.e.now c.args.f.now c.args.n c.args.depth c.args.run.now (g.S.Services.stands c.args.svc.now) c.requires.form c.requires.high c.requires.ready c.requires.safe
    (sym c.prim_of.ensures ∙ c.in_default.is) c.in-Some-service_of.service.now (ap (service_of c.args.f.now) (sym (c.as_slice.ensures ∙ ap (λ p. p.svcs) c.get.ensures)) ∙ sym c.in-Some-service_of.ensures) c.service_call.result
    c.service_call.new.run _ c.service_call.ensures

pub bodies::enter-at-function-requires : goal.bodies::enter-at-function-requires
bodies::enter-at-function-requires g t c =
    let found = entered_there c.args.code.now c.args.a (parts.args_from c.args.a.base c.args.run.now.stack) (now c.args.run.now (g.S.Services.stands c.args.svc.now)) c.requires.safe in
    rw c.get.ensures
    (function_within c.args.code.now c.args.size c.args.a c.args.run.now (g.S.Services.stands c.args.svc.now) c.requires.program c.requires.size c.requires.high c.requires.safe found)

pub bodies::enter-evaluate-requires : goal.bodies::enter-evaluate-requires
bodies::enter-evaluate-requires g t c κs within =
    let found = entered_there c.args.code.now c.args.a (parts.args_from c.args.a.base c.args.run.now.stack) (now c.args.run.now (g.S.Services.stands c.args.svc.now)) c.requires.safe in
    let there = subst (λ p. slice_get p.funs c.args.a.fun ≡ Some c.at-function.result.now) c.get.ensures c.at-function.ensures in (
      search rules,
      (
        search rules,
        (
          c.requires.open,
          (
            c.requires.bare,
            (
              enter_ready c.args.code.now c.args.size c.args.a c.args.run.now (g.S.Services.stands c.args.svc.now) c.requires.program c.requires.size c.requires.high c.requires.safe found _
                  c.at-function.result.now refl refl refl refl refl there refl refl,
              enter_safe c.args.code.now c.args.size c.args.a c.args.run.now (g.S.Services.stands c.args.svc.now) c.requires.program c.requires.size c.requires.high c.requires.safe found
                  (record { code = c.args.code; number = c.args.a.number; size = c.args.size; fun = c.args.a.fun; function = c.at-function.result; base = c.args.a.base; bindings = record { ref_ptr = c.args.code.ref_ptr; now = [] } })
                  c.at-function.result.now refl refl refl refl refl there refl refl,
            ),
          ),
        ),
      ),
    )

pub bodies::enter-returns : goal.bodies::enter-returns
bodies::enter-returns g t c =
    let found = entered_there c.args.code.now c.args.a (parts.args_from c.args.a.base c.args.run.now.stack) (now c.args.run.now (g.S.Services.stands c.args.svc.now)) c.requires.safe in
    let there = subst (λ p. slice_get p.funs c.args.a.fun ≡ Some c.at-function.result.now) c.get.ensures c.at-function.ensures in
    entered c.args.code.now c.args.size c.args.a c.args.run.now (g.S.Services.stands c.args.svc.now) c.requires.program c.requires.size c.requires.high c.requires.safe found
    (record { code = c.args.code; number = c.args.a.number; size = c.args.size; fun = c.args.a.fun; function = c.at-function.result; base = c.args.a.base; bindings = record { ref_ptr = c.args.code.ref_ptr; now = [] } })
    c.at-function.result.now refl refl refl refl refl there refl refl c.args.depth c.evaluate.result c.evaluate.new.run _ c.evaluate.ensures

pub bodies::opened-enter-requires : goal.bodies::opened-enter-requires
bodies::opened-enter-requires g t c κs within =
    let top = one_top c.args.run.now.stack c.requires.high in
    let a : Activation = record { number = c.in-Ok.opened.number; fun = c.in-Ok.opened.fun; base = c.in-Ok.opened.base } in
    let opens = c.in-Ok.ensures.opens top.0 (drop 1 c.args.run.now.stack) top.1 in (
      search rules,
      (
        search rules,
        (
          c.requires.open,
          (
            opens.bare,
            (
              eval_program c.args.here.now c.args.e.now c.args.depth c.args.run.now (g.S.Services.stands c.args.svc.now) c.requires.form top.0 (drop 1 c.args.run.now.stack) top.1 c.requires.ready c.requires.safe
                  c.in-Ok.opened a refl refl refl c.open_chunk.new.run (c.in-Ok.ensures.opens top.0 (drop 1 c.args.run.now.stack) top.1) c.open_chunk.ensures.falls c.open_chunk.ensures.grown,
              (
                eval_size c.args.here.now c.args.e.now c.args.depth c.args.run.now (g.S.Services.stands c.args.svc.now) c.requires.form top.0 (drop 1 c.args.run.now.stack) top.1 c.requires.ready c.requires.safe
                    c.in-Ok.opened a refl refl refl c.open_chunk.new.run (c.in-Ok.ensures.opens top.0 (drop 1 c.args.run.now.stack) top.1) c.open_chunk.ensures.falls c.open_chunk.ensures.grown,
                (
                  eval_high c.args.here.now c.args.e.now c.args.depth c.args.run.now (g.S.Services.stands c.args.svc.now) c.requires.form top.0 (drop 1 c.args.run.now.stack) top.1 c.requires.ready c.requires.safe
                      c.in-Ok.opened a refl refl refl c.open_chunk.new.run (c.in-Ok.ensures.opens top.0 (drop 1 c.args.run.now.stack) top.1) c.open_chunk.ensures.falls c.open_chunk.ensures.grown,
                  eval_safe c.args.here.now c.args.e.now c.args.depth c.args.run.now (g.S.Services.stands c.args.svc.now) c.requires.form top.0 (drop 1 c.args.run.now.stack) top.1 c.requires.ready c.requires.safe
                      c.in-Ok.opened a refl refl refl c.open_chunk.new.run (c.in-Ok.ensures.opens top.0 (drop 1 c.args.run.now.stack) top.1) c.open_chunk.ensures.falls c.open_chunk.ensures.grown,
                ),
              ),
            ),
          ),
        ),
      ),
    )

pub bodies::opened-returns-in-Done : goal.bodies::opened-returns-in-Done
bodies::opened-returns-in-Done g t c =
    let top = one_top c.args.run.now.stack c.requires.high in
    let a : Activation = record { number = c.in-Ok.opened.number; fun = c.in-Ok.opened.fun; base = c.in-Ok.opened.base } in
    eval_gives c.args.here.now c.args.e.now c.args.depth c.args.run.now (g.S.Services.stands c.args.svc.now) c.requires.form top.0 (drop 1 c.args.run.now.stack) top.1 c.requires.ready c.requires.safe
    c.in-Ok.opened a refl refl refl c.open_chunk.new.run (c.in-Ok.ensures.opens top.0 (drop 1 c.args.run.now.stack) top.1) c.open_chunk.ensures.falls c.open_chunk.ensures.grown
    c.enter.new.run _ c.chunk_ended.result c.chunk_ended.new.run c.in-Done.ensures c.chunk_ended.ensures.flows c.chunk_ended.ensures.settled c.chunk_ended.ensures.falls c.chunk_ended.ensures.codes

pub bodies::opened-returns-in-Ok : goal.bodies::opened-returns-in-Ok
bodies::opened-returns-in-Ok g t c =
    let top = one_top c.args.run.now.stack c.requires.high in
    let a : Activation = record { number = c.in-Ok.opened.number; fun = c.in-Ok.opened.fun; base = c.in-Ok.opened.base } in
    eval_waits c.args.here.now c.args.e.now c.args.depth c.args.run.now (g.S.Services.stands c.args.svc.now) c.requires.form top.0 (drop 1 c.args.run.now.stack) top.1 c.requires.ready c.requires.safe
    c.in-Ok.opened a refl refl refl c.open_chunk.new.run (c.in-Ok.ensures.opens top.0 (drop 1 c.args.run.now.stack) top.1) c.open_chunk.ensures.falls c.open_chunk.ensures.grown
    c.enter.result c.enter.new.run _ c.enter.ensures c.back.result c.back.new.run c.back.ensures.flows c.back.ensures.lasts c.back.ensures.codes

pub bodies::opened-returns : goal.bodies::opened-returns
bodies::opened-returns g t c =
    eval_refused c.args.here.now c.args.e.now c.args.depth c.args.run.now _ c.in-Err.came c.open_chunk.new.run c.requires.form c.requires.high c.in-Err.ensures.refused c.open_chunk.ensures.falls
    c.open_chunk.ensures.grown

pub folds::fold-step-requires : goal.folds::fold-step-requires
folds::fold-step-requires g t c κs within =
    let i = c.loop-run.invariant in
    let form = here_folder c.args.here.now c.args.e.now c.loop-run.run (g.S.Services.stands c.loop-run.svc) i.high (i.leads.safe c.requires.safe) in
    let ready = subst (λ l. Ready c.args.here.now l c.next_item.new.run.codes) (sym (item_below c.args.here.now c.args.e.now form c.loop-run.run c.next_item.new.run (g.S.Services.stands c.loop-run.svc) i.high c.in-Item.ensures ∙
    i.below))
    (ready_grown c.args.here.now (drop 3 c.args.run.now.stack) c.args.run.now.codes c.next_item.new.run.codes (grows_on _ _ _ i.keeps.grown
    (item_keeps c.args.here.now c.args.e.now form c.loop-run.run c.next_item.new.run (g.S.Services.stands c.loop-run.svc) i.high c.in-Item.ensures).grown) c.requires.ready) in (
      search rules,
      (
        search rules,
        (
          subst IsSome (sym i.keeps.begun) c.requires.open,
          (
            item_bare c.args.here.now c.args.e.now form c.loop-run.run c.next_item.new.run (g.S.Services.stands c.loop-run.svc) i.high c.in-Item.ensures ∙ i.bare
                ∙ c.requires.bare,
            (
              c.step_place-found.ensures,
              (
                ready,
                (
                  item_high c.args.here.now c.args.e.now form c.loop-run.run c.next_item.new.run (g.S.Services.stands c.loop-run.svc) i.high c.in-Item.ensures,
                  (item_leads c.args.here.now c.args.e.now form c.loop-run.run c.next_item.new.run (g.S.Services.stands c.loop-run.svc) i.high c.in-Item.ensures).safe (i.leads.safe c.requires.safe),
                ),
              ),
            ),
          ),
        ),
      ),
    )

pub folds::fold-loop-run-smaller : goal.folds::fold-loop-run-smaller
folds::fold-loop-run-smaller g t c =
    let i = c.loop-run.invariant in
    let form = here_folder c.args.here.now c.args.e.now c.loop-run.run (g.S.Services.stands c.loop-run.svc) i.high (i.leads.safe c.requires.safe) in
    item_less c.args.here.now c.args.e.now form c.loop-run.run c.next_item.new.run (g.S.Services.stands c.loop-run.svc) i.high c.in-Item.ensures c.step.new.run c.in_default.ensures.acc c.in_default.ensures.stacked

pub folds::fold-loop-run-preserved : goal.folds::fold-loop-run-preserved
folds::fold-loop-run-preserved g t c =
    let i = c.loop-run.invariant in
    let form = here_folder c.args.here.now c.args.e.now c.loop-run.run (g.S.Services.stands c.loop-run.svc) i.high (i.leads.safe c.requires.safe) in
    let t = c.in_default.ensures in
    record {
      high = stepped_high c.next_item.new.run.stack c.step.new.run.stack t.acc (item_high c.args.here.now c.args.e.now form c.loop-run.run c.next_item.new.run (g.S.Services.stands c.loop-run.svc) i.high c.in-Item.ensures) t.stacked;
      below = stepped_below c.next_item.new.run.stack c.step.new.run.stack t.acc t.stacked ∙ item_below c.args.here.now c.args.e.now form c.loop-run.run c.next_item.new.run (g.S.Services.stands c.loop-run.svc) i.high c.in-Item.ensures
          ∙ i.below;
      bare = t.none ∙ sym c.requires.bare;
      leads = onward _ _ _ i.leads (onward _ _ _ (item_leads c.args.here.now c.args.e.now form c.loop-run.run c.next_item.new.run (g.S.Services.stands c.loop-run.svc) i.high c.in-Item.ensures) t.leads);
      keeps = keeps_on _ _ _ _ _ _ i.keeps (keeps_on _ _ _ _ _ _ (item_keeps c.args.here.now c.args.e.now form c.loop-run.run c.next_item.new.run (g.S.Services.stands c.loop-run.svc) i.high c.in-Item.ensures) t.keeps);
    }

pub folds::fold-returns-in-Ended : goal.folds::fold-returns-in-Ended
folds::fold-returns-in-Ended g t c =
    let i = c.loop-run.invariant in
    let form = here_folder c.args.here.now c.args.e.now c.loop-run.run (g.S.Services.stands c.loop-run.svc) i.high (i.leads.safe c.requires.safe) in
    let base : c.len-base.result - 3 + 3 ≡ length c.loop-run.run.stack = same_height c.args.run.now.stack c.loop-run.run.stack c.len-base.result c.len-base.ensures c.requires.high i.high i.below in
    fold_ends c.args.here.now c.args.e.now c.args.depth c.args.run.now (g.S.Services.stands c.args.svc.now) c.loop-run.run (g.S.Services.stands c.loop-run.svc) i.below i.keeps i.leads c.requires.safe form i.high c.next_item.new.run
    c.in-Ended.ensures (c.len-base.result - 3) base c.body_ended.result c.body_ended.new.run c.body_ended.ensures.flows c.body_ended.ensures.settled
    c.body_ended.ensures.falls c.body_ended.ensures.codes

pub folds::fold-returns-in-Stopped : goal.folds::fold-returns-in-Stopped
folds::fold-returns-in-Stopped g t c =
    let i = c.loop-run.invariant in
    let form = here_folder c.args.here.now c.args.e.now c.loop-run.run (g.S.Services.stands c.loop-run.svc) i.high (i.leads.safe c.requires.safe) in
    fold_stops c.args.here.now c.args.e.now c.args.depth c.args.run.now (g.S.Services.stands c.args.svc.now) c.loop-run.run (g.S.Services.stands c.loop-run.svc) i.below i.keeps i.leads c.requires.safe form i.high c.next_item.new.run
    c.in-Stopped.came c.in-Stopped.ensures

pub folds::folded-fold-requires : goal.folds::folded-fold-requires
folds::folded-fold-requires g t c κs within = (
  search rules,
  (
    search rules,
    (
      c.requires.open,
      (
        c.begin_fold.ensures.stays.paused ∙ c.requires.bare,
        (
          begun_ready c.args.here.now c.args.e.now c.args.depth c.args.run.now (g.S.Services.stands c.args.svc.now) c.requires.form
              c.requires.high c.requires.ready c.requires.safe c.begin_fold.new.run c.in-Ok.ensures.begun c.begin_fold.ensures.stays,
          (
            begun_high c.args.here.now c.args.e.now c.args.depth c.args.run.now (g.S.Services.stands c.args.svc.now) c.requires.form c.requires.high c.requires.ready c.requires.safe c.begin_fold.new.run c.in-Ok.ensures.begun
                c.begin_fold.ensures.stays,
            begun_safe c.args.here.now c.args.e.now c.args.depth c.args.run.now (g.S.Services.stands c.args.svc.now) c.requires.form c.requires.high c.requires.ready c.requires.safe c.begin_fold.new.run
                c.in-Ok.ensures.begun c.begin_fold.ensures.stays,
          ),
        ),
      ),
    ),
  ),
)

pub folds::folded-returns-in-Ok : goal.folds::folded-returns-in-Ok
folds::folded-returns-in-Ok g t c =
    begun_on c.args.here.now c.args.e.now c.args.depth c.args.run.now (g.S.Services.stands c.args.svc.now) c.requires.form c.requires.high c.requires.ready c.requires.safe c.begin_fold.new.run c.in-Ok.ensures.begun
    c.begin_fold.ensures.stays c.fold.result c.fold.new.run _ c.fold.ensures

pub folds::step-returns-in-Done : goal.folds::step-returns-in-Done
folds::step-returns-in-Done g t c =
    let a : Activation = record { number = c.args.here.now.number; fun = c.in-Some.fun; base = c.len-base.result - 2 } in
    let base : c.len-base.result - 2 + 2 ≡ length c.args.run.now.stack = omega (arith, c.len-base.ensures, c.requires.high) in
    step_gives c.args.here.now c.args.e.now c.args.depth c.args.run.now (g.S.Services.stands c.args.svc.now) c.requires.high c.requires.ready c.requires.safe a refl base (sym c.requires.found ∙ c.in-Some.is) c.enter.new.run _
    (record c.enter.new.run { stack = c.slide.new.self }) c.in-Done.ensures c.slide.ensures refl refl refl

pub folds::step-returns-in_default-enter : goal.folds::step-returns-in_default-enter
folds::step-returns-in_default-enter g t c =
    let a : Activation = record { number = c.args.here.now.number; fun = c.in-Some.fun; base = c.len-base.result - 2 } in
    let base : c.len-base.result - 2 + 2 ≡ length c.args.run.now.stack = omega (arith, c.len-base.ensures, c.requires.high) in
    step_waits c.args.here.now c.args.e.now c.args.depth c.args.run.now (g.S.Services.stands c.args.svc.now) c.requires.high c.requires.ready c.requires.safe a refl base (sym c.requires.found ∙ c.in-Some.is) c.enter.result
    c.enter.new.run _ c.enter.ensures c.back.result c.back.new.run c.back.ensures.flows c.back.ensures.lasts c.back.ensures.codes

pub folds::fold-returns-in-Some : goal.folds::fold-returns-in-Some
folds::fold-returns-in-Some g t c =
    let i = c.loop-run.invariant in
    let form = here_folder c.args.here.now c.args.e.now c.loop-run.run (g.S.Services.stands c.loop-run.svc) i.high (i.leads.safe c.requires.safe) in
    fold_waits c.args.here.now c.args.e.now c.args.depth c.args.run.now (g.S.Services.stands c.args.svc.now) c.loop-run.run (g.S.Services.stands c.loop-run.svc) i.below i.keeps i.leads c.requires.safe form i.high c.next_item.new.run
    c.in-Item.ensures c.in-Some.came c.step.new.run _ c.in-Some.ensures

pub tries::attempt-evaluate-requires : goal.tries::attempt-evaluate-requires
tries::attempt-evaluate-requires g t c κs within = (
  search rules,
  (
    search rules,
    (
      c.requires.open,
      (
        c.requires.bare,
        (
          c.requires.ready,
          attempt_safe c.args.here.now c.args.e.now c.args.a.now c.len-height.result c.args.depth c.args.run.now (g.S.Services.stands c.args.svc.now) c.requires.form c.len-height.ensures c.requires.ready
              c.requires.safe,
        ),
      ),
    ),
  ),
)

pub tries::attempt-caught-requires : goal.tries::attempt-caught-requires
tries::attempt-caught-requires g t c κs within = (
  search rules,
  (
    search rules,
    (
      subst IsSome (sym c.evaluate.ensures.begun) c.requires.open,
      (
        c.in-Raised.ensures.flows.none,
        (
          raised_ready c.args.here.now c.args.e.now c.args.a.now c.len-height.result c.args.depth c.args.run.now (g.S.Services.stands c.args.svc.now) c.requires.form c.len-height.ensures c.requires.ready
              c.requires.safe c.evaluate.new.run (g.S.Services.stands c.evaluate.new.svc) c.in-Raised.ensures,
          (
            raised_high c.args.here.now c.args.e.now c.args.a.now c.len-height.result c.args.depth c.args.run.now (g.S.Services.stands c.args.svc.now) c.requires.form c.len-height.ensures c.requires.ready
                c.requires.safe c.evaluate.new.run (g.S.Services.stands c.evaluate.new.svc) c.in-Raised.ensures,
            raised_safe c.args.here.now c.args.e.now c.args.a.now c.len-height.result c.args.depth c.args.run.now (g.S.Services.stands c.args.svc.now) c.requires.form c.len-height.ensures c.requires.ready
                c.requires.safe c.evaluate.new.run (g.S.Services.stands c.evaluate.new.svc) c.in-Raised.ensures,
          ),
        ),
      ),
    ),
  ),
)

pub tries::attempt-returns-in-Done : goal.tries::attempt-returns-in-Done
tries::attempt-returns-in-Done g t c =
    attempt_gives c.args.here.now c.args.e.now c.args.a.now c.len-height.result c.args.depth c.args.run.now (g.S.Services.stands c.args.svc.now) c.requires.form c.len-height.ensures c.requires.ready
    c.requires.safe c.evaluate.new.run _ c.ended.result c.ended.new.run c.in-Done.ensures c.ended.ensures.flows c.ended.ensures.settled c.ended.ensures.falls c.ended.ensures.codes

pub tries::attempt-returns-in-Raised : goal.tries::attempt-returns-in-Raised
tries::attempt-returns-in-Raised g t c =
    raised_on c.args.here.now c.args.e.now c.args.a.now c.len-height.result c.args.depth c.args.run.now (g.S.Services.stands c.args.svc.now) c.requires.form c.len-height.ensures c.requires.ready
    c.requires.safe c.evaluate.new.run _ c.in-Raised.ensures c.caught.result c.caught.new.run _ c.caught.ensures

pub tries::attempt-returns-in_default : goal.tries::attempt-returns-in_default
tries::attempt-returns-in_default g t c =
    attempt_waits c.args.here.now c.args.e.now c.args.a.now c.len-height.result c.args.depth c.args.run.now (g.S.Services.stands c.args.svc.now) c.requires.form c.len-height.ensures c.requires.ready
    c.requires.safe c.evaluate.result c.evaluate.new.run _ c.back.result c.back.new.run c.evaluate.ensures c.back.ensures.flows c.back.ensures.lasts c.back.ensures.codes

pub tries::caught-last-requires : goal.tries::caught-last-requires
tries::caught-last-requires g t c κs within =
    let low = cut_low c.args.height c.args.run.now.stack c.truncate.new.self c.requires.high c.truncate.ensures in
    let ready : Ready c.args.here.now c.truncate.new.self c.args.run.now.codes = subst (λ l. Ready c.args.here.now l c.args.run.now.codes) (sym low) c.requires.ready in
    let safe = caught_safe c.args.here.now c.args.e.now c.args.height c.args.depth c.args.run.now (g.S.Services.stands c.args.svc.now) c.in-Some.raised c.in-Some.is c.requires.safe
    c.in-Some-catching.n c.in-Some-catching.body.now c.in-Some-catching.ensures.0 c.in-Some-catching.ensures.1 (record c.args.run.now { stack = c.truncate.new.self }) low refl refl in
    (search rules, (search rules, (c.requires.open, (c.requires.bare, (c.in-Some-catching.ensures.1, (ready, safe))))))

pub tries::caught-returns-in-Some-catching : goal.tries::caught-returns-in-Some-catching
tries::caught-returns-in-Some-catching g t c =
    let low = cut_low c.args.height c.args.run.now.stack c.truncate.new.self c.requires.high c.truncate.ensures in
    caught_last c.args.here.now c.args.e.now c.args.height c.args.depth c.args.run.now (g.S.Services.stands c.args.svc.now) c.in-Some.raised c.in-Some.is c.requires.safe
    c.in-Some-catching.n c.in-Some-catching.body.now c.in-Some-catching.ensures.0 c.in-Some-catching.ensures.1 (record c.args.run.now { stack = c.truncate.new.self }) low refl refl
    c.last.result c.last.new.run _ c.last.ensures

pub tries::caught-returns-in-None : goal.tries::caught-returns-in-None
tries::caught-returns-in-None g t c =
    caught_none c.args.here.now c.args.e.now c.args.height c.args.depth c.args.run.now (g.S.Services.stands c.args.svc.now) c.in-Some.raised c.in-Some.is c.requires.safe c.in-None.ensures c.requires.bare
