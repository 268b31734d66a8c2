use Rattle.trace_chart_picture.proofs.charts.chart.Goals as goal

pub returns-clause-chart : goal.returns-clause-chart
returns-clause-chart c = record {
  trace = c.in_ok-trace.trace;
  drawing = c.in_ok-drawing.drawing;
  read = c.in_ok-trace.ensures.read;
  drawn = c.in_ok-drawing.ensures.drawn;
  written = c.in_ok-picture.ensures;
}
