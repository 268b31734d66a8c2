-- What a call does to the environment, and how it ends, by what its words ask for.
use Rattle.std.specs.Prelude.{◌≡◌, Option, Some, None}
use Rattle.node_io.specs.Outsides.{Outside}
use Rattle.node_serve.specs.Desks.{Serving}
use Rattle.planet_commands.specs.declared.status.Cause.{Cause}
use Rattle.planet_commands.specs.declared.status.Cause.TheVariants.{Usage}
use Rattle.planet_commands.specs.Said.{all_of, said_in}
use Rattle.planet_commands.specs.Takes.{TakesAndActs}
use Rattle.planet_commands.specs.Renders.{RendersBy}
use Rattle.planet_commands_run.specs.Grown.{GrowsAs}
use Rattle.planet_commands_fleet.specs.Audits.{AuditsFile}
use Rattle.planet_commands_fleet.specs.Asks.{AsksAs, ask_said, Wire}
use Rattle.planet_commands_fleet.specs.Fleets.{RunsAs, fleet_said, Shop}
use Rattle.planet_commands_fleet.specs.Nodes.{ServesFile}
use Rattle.planet_cli.specs.Kinds.{limit_of, text_said}
use Rattle.planet_cli.specs.Requests.{Request, on_file, inject, fleet, audit, node, grow}

-- nothing but the files and the output changed; or the link too, or the children
abbrev pub OnlyOut : Outside → Outside → Type 0
OnlyOut old new = new ≡ record old { files = new.files; out = new.out }

abbrev pub OnlyLink : Outside → Outside → Type 0
OnlyLink old new = new ≡ record old { files = new.files; out = new.out; link = new.link }

abbrev pub OnlyChildren : Outside → Outside → Type 0
OnlyChildren old new = new ≡ record old { files = new.files; out = new.out; children = new.children }

-- the link and the output, over which a request is sent; the children and the output, of a fleet; and all but the children, of a node
abbrev pub wire_in : Outside → Wire
wire_in o = record { link = o.link; out = o.out }

abbrev pub shop_in : Outside → Shop
shop_in o = record { children = o.children; out = o.out }

abbrev pub serving_in : Outside → Serving
serving_in o = record { files = o.files; out = o.out; link = o.link; clock = o.clock }

-- what a call does to the environment and how it ends, by what its words ask for; what it doesn't touch is the same whole state
abbrev pub Does : Option Request → Cause → Outside → Outside → Type 0
Does None cause old new = (cause ≡ Usage) × (new ≡ old)
Does (Some (on_file kind file)) cause old new =
    OnlyOut old new
    × TakesAndActs (said_in (limit_of kind) all_of file) (RendersBy (text_said kind)) file old.files new.files cause old.out new.out
Does (Some (grow seed n)) cause old new = (new ≡ record old { out = new.out }) × GrowsAs seed n cause old.out new.out
Does (Some (audit file)) cause old new = OnlyOut old new × AuditsFile file old.files new.files cause old.out new.out
Does (Some (inject file)) cause old new =
    OnlyLink old new × TakesAndActs (ask_said file) AsksAs file old.files new.files cause (wire_in old) (wire_in new)
Does (Some (fleet file)) cause old new =
    OnlyChildren old new × TakesAndActs (fleet_said file) RunsAs file old.files new.files cause (shop_in old) (shop_in new)
Does (Some (node file turns)) cause old new =
    (new.children ≡ old.children) × ServesFile turns file cause (serving_in old) (serving_in new)
