-- Just when bytes have no chart, but for a failed allocation.
use Rattle.std.specs.Prelude.{◌<◌, ℕ, List, length}
use Rattle.trace_chart_picture.specs.declared.line.Entry.{Entry}
use Rattle.trace_chart_picture.specs.declared.line.Trace.{Trace}
use Rattle.trace_chart_picture.specs.Reads.{IsTraceOf, IsBadLine}
use Rattle.trace_chart_picture.specs.declared.marks.DrawFault.{DrawFault}
use Rattle.trace_chart_picture.specs.declared.marks.DrawFault.TheVariants as draws
use Rattle.trace_chart_picture.specs.declared.charts.ChartFault.{ChartFault}
use Rattle.trace_chart_picture.specs.declared.charts.ChartFault.TheVariants as chart
use Rattle.trace_chart_picture.specs.Hosts.{hosts_of}

-- too many hosts are more than 64 that the lines name
abbrev pub IsDrawFault : List Entry → DrawFault → Type 0
IsDrawFault es draws.TooManyHosts = 64 < length (hosts_of es)
IsDrawFault es draws.NoMemory = Unit {0}

-- the bytes are those of one trace, whose lines name too many hosts
pub record NamesTooMany (bytes : List ℕ) : Type 0 where
  pub trace : Trace
  pub read : IsTraceOf bytes trace
  pub many : 64 < length (hosts_of trace.entries)

abbrev pub IsChartFault : List ℕ → ChartFault → Type 0
IsChartFault bytes (chart.BadLine line) = IsBadLine bytes line
IsChartFault bytes chart.TooLong = 16777216 < length bytes
IsChartFault bytes chart.TooManyHosts = NamesTooMany bytes
IsChartFault bytes chart.NoMemory = Unit {0}
