use Rattle.std.specs.List.{All}
use Rattle.std.proofs.Common.{◌≡◌, List, sym, ◌∷◌, [], ◌++◌, ap, ◌∙◌, subst, length, arith}
use Rattle.trace_chart_picture.specs.Traces.{row_text}
use Rattle.trace_chart_picture.specs.Traces.{rows_text}
use Rattle.trace_chart_picture.specs.Reads.{IsReadRow, IsRowLine}
use Rattle.std.proofs.lemmas.List.Elements.{All-push}
use Rattle.trace_chart_picture.specs.declared.line.Row.{Row}
use Rattle.trace_chart_picture.proofs.Wrong.{no_row_first, read_row, counted, line_more, push_length, if_some}
use Rattle.trace_chart_picture.proofs.trace.add_rows.Goals as goal

pub returns-in_default-2 : goal.returns-in_default-2
returns-in_default-2 c = record {
  whole = c.loop-line.invariant.whole;
  more = c.loop-line.invariant.more;
  number = c.loop-line.invariant.number;
  one = c.loop-line.invariant.one;
  stop = no_row_first c.loop-line.rest.now c.in-Some.line.now c.in-Some.more.now c.in-Some.ensures.next (c.in_ok-row.ensures.other c.in_default-2.is);
}

pub loop-line-preserved : goal.loop-line-preserved
loop-line-preserved c =
    let xs : List Row = c.loop-line.rows in
    let x : Row = c.in-Some-2.row in
    let e : c.add.new.self ≡ xs ++ x ∷ [] = c.in_ok-add.ensures.ok in
    let k : IsReadRow c.in-Some.line.now x = if_some (IsReadRow c.in-Some.line.now) c.in_ok-row.field-0 x c.in_ok-row.ensures.is c.in-Some-2.is in
    let longer = ap length e ∙ push_length xs x in
    record {
      whole = ap (λ z. rows_text z ++ c.in-Some.more.now) e ∙ line_more row_text xs x c.loop-line.rest.now c.in-Some.line.now c.in-Some.more.now
          (rows_text c.args.rows.now ++ c.args.bytes.now) c.loop-line.invariant.whole c.in-Some.ensures.next.whole k.text;
      more = omega (arith, longer, c.loop-line.invariant.more);
      number = counted c.args.first c.loop-line.number c.saturating_add-number.result (length c.args.rows.now) (length xs) (length c.add.new.self)
          c.loop-line.invariant.more longer c.loop-line.invariant.number c.saturating_add-number.ensures;
      one = λ a. subst (λ z. All IsRowLine z) (sym e) (All-push IsRowLine xs x (c.loop-line.invariant.one a) (read_row c.in-Some.line.now x k c.in-Some.ensures.next.one));
    }
