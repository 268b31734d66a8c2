-- What is written of two ends.
use Rattle.std.specs.Prelude.{ℕ, ◌+◌, ◌-◌, List, [], ◌∷◌, ◌++◌, length, codes}
use Rattle.std.specs.Fmt.{decimal}
use Rattle.hex.specs.Hex.{encode_lower}
use Rattle.reliable_ports.specs.Ends.{Body, offered_count}
use Rattle.command_files.specs.declared.port.PortFile.{PortFile}
use Rattle.reliable_ports_world.specs.Ports.{PortState, PortEvent, happens_at, port_run}
use Rattle.reliable_ports_world.specs.Told.{event_told}
use Rattle.reliable_ports_world.specs.Scripts.{script_of, begun_ports}

-- what the events of a script add, numbered from one on
abbrev pub script_told : ℕ → List PortEvent → PortState → List ℕ
script_told n [] s = []
script_told n (e ∷ es) s = event_told n e s ++ script_told (n + 1) es (happens_at e s)

-- a word, a number, and the end of the line
unfoldable pub count_line : List ℕ → ℕ → List ℕ
count_line word n = word ++ (decimal n ++ codes "\n")

-- a body in hex, with its number
unfoldable pub body_line : ℕ → Body → List ℕ
body_line n b = codes "body " ++ (decimal n ++ (codes " " ++ (encode_lower b ++ codes "\n")))

-- bodies, numbered from one on
abbrev pub body_lines : ℕ → List Body → List ℕ
body_lines n [] = []
body_lines n (b ∷ bs) = body_line n b ++ body_lines (n + 1) bs

-- what each purse paid
unfoldable pub spent_line : ℕ → ℕ → List ℕ
spent_line a b = codes "spent " ++ (decimal a ++ (codes " " ++ (decimal b ++ codes "\n")))

-- the bodies that were delivered, and how many
unfoldable pub delivered_text : List Body → ℕ → List ℕ
delivered_text bodies n = count_line (codes "delivered ") n ++ body_lines 1 bodies

-- how the ends stand: how many bodies were offered, those that were delivered, how many are acknowledged, and what was paid
unfoldable pub ends_lines : ℕ → List Body → ℕ → ℕ → ℕ → List ℕ
ends_lines offered bodies acked a b =
    count_line (codes "offered ") offered
    ++ (delivered_text bodies (length bodies)
    ++ (count_line (codes "acked ") acked
    ++ (spent_line a b ++ codes "end\n")))

-- so of a state, whose purses were these at first
abbrev pub ends_text : ℕ → ℕ → PortState → List ℕ
ends_text b c s = ends_lines (offered_count s.sender) s.receiver.delivered s.sender.acked (b - s.first) (c - s.second)

-- the whole output of a file
unfoldable pub port_output : PortFile → List ℕ
port_output p =
    codes "planet port 1\n"
    ++ (script_told 1 (script_of p) (begun_ports p)
    ++ ends_text p.first p.second (port_run (script_of p) (begun_ports p)))
