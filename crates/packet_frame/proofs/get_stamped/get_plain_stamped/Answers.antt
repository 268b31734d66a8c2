use Rattle.std.proofs.Common.{arith}
use Rattle.std.proofs.lemmas.Result.{err_from_is_err_and}
use Rattle.packet_frame.proofs.StampedLaws.{call_found, call_only, call_left_only, call_left_fault, call_err_only, call_err_fault}
use Rattle.packet_frame.proofs.get_stamped.get_plain_stamped.Goals as goal

pub returns-in_err-frame-clause-only : goal.returns-in_err-frame-clause-only
returns-in_err-frame-clause-only c =
    let p = err_from_is_err_and c.from_residual.result c.from_residual.ensures.1 in
    rw (p.1, p.2) (call_err_only c.args.bytes.now c.first_of-c.result c.first_of-c.ensures.at c.first_of-c.ensures.rest c.in_err-frame.field-0.0 c.in_err-frame.ensures)

pub returns-in_err-frame-clause-fault : goal.returns-in_err-frame-clause-fault
returns-in_err-frame-clause-fault c =
    let p = err_from_is_err_and c.from_residual.result c.from_residual.ensures.1 in
    let l = c.if-bytes-gt16512.false in
    rw (p.1, p.2) (call_err_fault c.args.bytes.now c.first_of-c.result c.first_of-c.ensures.at c.first_of-c.ensures.rest (omega (arith, l)) c.in_err-frame.field-0.0 c.in_err-frame.ensures)

pub returns-then-end-bytes-clause-only : goal.returns-then-end-bytes-clause-only
returns-then-end-bytes-clause-only c =
    rw c.at-end.ensures.place (call_left_only c.args.bytes.now c.first_of-c.result c.first_of-c.ensures.at c.first_of-c.ensures.rest c.in_ok-frame.frame c.stamped_of.new.c c.in_ok-frame.ensures
    (let e = c.at-end.ensures.place in let l = c.if-end-bytes.true in omega (arith, e, l)))

pub returns-then-end-bytes-clause-fault : goal.returns-then-end-bytes-clause-fault
returns-then-end-bytes-clause-fault c =
    let short = c.if-bytes-gt16512.false in
    rw c.at-end.ensures.place (
    call_left_fault c.args.bytes.now c.first_of-c.result c.first_of-c.ensures.at c.first_of-c.ensures.rest c.first_of-c.ensures.bytes (omega (arith, short)) c.in_ok-frame.frame c.stamped_of.new.c
    c.in_ok-frame.ensures
    (let e = c.at-end.ensures.place in let l = c.if-end-bytes.true in omega (arith, e, l)))

pub returns-clause-found : goal.returns-clause-found
returns-clause-found c =
    let short = c.if-bytes-gt16512.false in
    call_found c.args.bytes.now c.first_of-c.result c.first_of-c.ensures.at c.first_of-c.ensures.rest c.first_of-c.ensures.bytes (omega (arith, short)) c.in_ok-frame.frame c.stamped_of.new.c c.in_ok-frame.ensures
    (let e = c.at-end.ensures.place in let l = c.if-end-bytes.false in omega (arith, e, l))

pub returns-clause-only : goal.returns-clause-only
returns-clause-only c = call_only c.args.bytes.now c.first_of-c.result c.first_of-c.ensures.at c.first_of-c.ensures.rest c.in_ok-frame.frame c.stamped_of.new.c c.in_ok-frame.ensures
