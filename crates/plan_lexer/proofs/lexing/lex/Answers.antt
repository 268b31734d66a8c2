use Rattle.std.proofs.Common.{rules, arith, length-drop}
use Rattle.std.proofs.lemmas.Bool.Decides.{nat_tests}
use Rattle.plan_lexer.proofs.ScanLemmas.{begins, move_scans, refusal_stops, whole, Toks-unique, fault_by, only_by}
use Rattle.plan_lexer.proofs.RuleLemmas.{tokens_rules}
use Rattle.plan_lexer.proofs.lexing.lex.Goals as goal

pub moves-init : goal.moves-init
moves-init c = record { sofar = begins c.args.text.now _ c.in_ok-tokens.ensures; place = search rules }

pub moves-preserved : goal.moves-preserved
moves-preserved c = record {
  sofar = move_scans c.args.text.now c.moves.tokens c.moves.at c.moves.rest.now c.in_ok-kind.kind c.in_ok-kind.next _ _ c.moves.invariant.sofar (grind (arith, nat_tests))
      c.in_ok-kind.ensures.value c.in_ok-add_move.ensures.ok c.after-rest.ensures;
  place = rw (c.after-rest.ensures, length-drop) (omega (arith, c.in_ok-kind.ensures.within.0, c.in_ok-kind.ensures.within.1));
}

pub returns-clause-found : goal.returns-clause-found
returns-clause-found c = whole c.args.text.now c.moves.tokens c.moves.at c.moves.rest.now c.moves.invariant.sofar (grind (arith, nat_tests))

pub returns-clause-only : goal.returns-clause-only
returns-clause-only c = λ ts h. Toks-unique 0 c.args.text.now c.moves.tokens ts (whole c.args.text.now c.moves.tokens c.moves.at c.moves.rest.now c.moves.invariant.sofar (grind (arith, nat_tests))) h

pub returns-in_err-kind-clause-fault : goal.returns-in_err-kind-clause-fault
returns-in_err-kind-clause-fault c = fault_by c.from_residual-in_err-kind.result c.in_err-kind.field-0.0 c.args.text.now c.from_residual-in_err-kind.ensures.1
    (refusal_stops c.args.text.now c.moves.tokens c.moves.at c.moves.rest.now c.in_err-kind.field-0.0 c.moves.invariant.sofar (grind (arith, nat_tests)) c.in_err-kind.ensures.value)

pub returns-in_err-kind-clause-only : goal.returns-in_err-kind-clause-only
returns-in_err-kind-clause-only c = only_by c.from_residual-in_err-kind.result c.in_err-kind.field-0.0 c.args.text.now c.from_residual-in_err-kind.ensures.1
    (refusal_stops c.args.text.now c.moves.tokens c.moves.at c.moves.rest.now c.in_err-kind.field-0.0 c.moves.invariant.sofar (grind (arith, nat_tests)) c.in_err-kind.ensures.value)

pub returns-clause-kept : goal.returns-clause-kept
returns-clause-kept c = tokens_rules c.args.text.now c.moves.tokens (omega arith) (whole c.args.text.now c.moves.tokens c.moves.at c.moves.rest.now c.moves.invariant.sofar (grind (arith, nat_tests)))
