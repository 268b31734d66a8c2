-- The command `check`: what a program's text says to it.
use Rattle.std.specs.Prelude.{ℕ, List, ◌++◌, length, Result, Ok, Err}
use Rattle.std.specs.Fmt.{decimal}
use lib.Chars.{codes}
use Rattle.plan_base.specs.declared.tree.Program.{Program}
use Rattle.plan_base.specs.Sizes.{program_nodes, code_size}
use Rattle.program_text.specs.declared.fault.TextFault.{TextFault}
use Rattle.program_text.specs.Texts.{program_of}
use Rattle.program_text.specs.Reasons.{fault_byte}
use Rattle.planet_commands.specs.declared.status.Refusal.TheVariants.{At}
use Rattle.planet_commands.specs.Said.{Said, outside, says}

-- the most bytes of a program's text
abbrev pub program_limit : ℕ
program_limit = 65536

-- the line of a typed program: its functions, its expressions, and its code in bytes
abbrev pub sizes_text : Program → List ℕ
sizes_text code =
    codes "ok functions "
    ++ (decimal (length code.funs) ++
    (codes " nodes " ++ (decimal (program_nodes code) ++ (codes " code " ++ (decimal (code_size code) ++ codes "\n")))))

-- what was read of a program's text says
abbrev pub sizes_of : Result Program TextFault → Said (List ℕ)
sizes_of (Ok code) = says (sizes_text code)
sizes_of (Err fault) = outside (At (fault_byte fault) fault)

-- the line of a program's text, or its first refusal
unfoldable pub program_said : List ℕ → Said (List ℕ)
program_said text = sizes_of (program_of text)
