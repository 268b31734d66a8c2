-- The commands that words name.
use Rattle.std.specs.Prelude.{ℕ, ◌^◌, ◌-◌, if◌then◌else◌, List, [], ◌∷◌, Option, Some, None}
use Rattle.std.specs.Str.{bytes_eq}
use lib.Chars.{codes}
use Rattle.network_config.specs.FileNames.{is_file_name}
use Rattle.line_reader.specs.Numbers.{number_in}
use Rattle.planet_cli.specs.declared.kinds.Kind.{Kind}
use Rattle.planet_cli.specs.declared.kinds.Kind.TheVariants.{Gather}
use Rattle.planet_cli.specs.Kinds.{kind_named}

-- what words ask for: a command with its file or its numbers
pub data Request : Type 0 where
  on_file : Kind → List ℕ → Request
  inject : List ℕ → Request
  fleet : List ℕ → Request
  audit : List ℕ → Request
  node : List ℕ → ℕ → Request
  grow : ℕ → ℕ → Request

-- a command of one file that does more than to write a text of it
abbrev pub with_own : List ℕ → List ℕ → Option Request
with_own command file = if bytes_eq command (codes "inject") then Some (inject file)
    else (if bytes_eq command (codes "fleet") then Some (fleet file)
    else (if bytes_eq command (codes "audit") then Some (audit file)
    else None))

abbrev pub kind_for : Option Kind → List ℕ → List ℕ → Option Request
kind_for (Some kind) command file = Some (on_file kind file)
kind_for None command file = with_own command file

-- a command of one file
abbrev pub with_file : List ℕ → List ℕ → Option Request
with_file command file = kind_for (kind_named command) command file

abbrev pub node_for : List ℕ → Option ℕ → Option Request
node_for file None = None
node_for file (Some turns) = Some (node file turns)

abbrev pub grow_for : Option ℕ → Option ℕ → Option Request
grow_for None n = None
grow_for (Some seed) None = None
grow_for (Some seed) (Some n) = Some (grow seed n)

abbrev pub gather_for : Option ℕ → List ℕ → Option Request
gather_for None file = None
gather_for (Some port) file = if is_file_name file then Some (on_file (Gather port) file) else None

-- `node FILE TURNS`, `grow SEED N` and `gather PORT FILE`
abbrev pub with_two : List ℕ → List ℕ → List ℕ → Option Request
with_two command a b = if bytes_eq command (codes "grow") then grow_for (number_in 0 (2 ^ 64 - 1) a) (number_in 1 50000 b)
    else (if bytes_eq command (codes "node") then (if is_file_name a then node_for a (number_in 1 1000000 b) else None)
    else (if bytes_eq command (codes "gather") then gather_for (number_in 0 65535 a) b
    else None))

-- what words ask for, if they name a command
abbrev pub request_of : List (List ℕ) → Option Request
request_of (command ∷ file ∷ []) = if is_file_name file then with_file command file else None
request_of (command ∷ a ∷ b ∷ []) = with_two command a b
request_of _ = None
