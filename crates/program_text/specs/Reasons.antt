-- How a refusal of a text is printed.
use Rattle.std.specs.Prelude.{ℕ, List, [], ◌++◌}
use lib.Chars.{codes}
use Rattle.plan_base.specs.declared.tree.Ty.{Ty}
use Rattle.plan_types_spec.specs.declared.type_fault.TypeFault.{TypeFault}
use Rattle.plan_types_spec.specs.declared.type_fault.TypeFault.TheVariants as ill
use Rattle.plan_lexer.specs.declared.fault.LexFault.{LexFault}
use Rattle.plan_lexer.specs.declared.fault.LexFault.TheVariants as lex
use Rattle.plan_parser_exprs.specs.declared.fault.ParseFault.{ParseFault}
use Rattle.plan_parser_exprs.specs.declared.fault.ParseFault.TheVariants as parse
use Rattle.plan_parser_exprs.specs.Wants.{wanted_text}
use Rattle.program_text.specs.declared.fault.TextFault.{TextFault}
use Rattle.program_text.specs.declared.fault.TextFault.TheVariants as fault
use Rattle.plan_base.specs.Limits.{word_of}
use Rattle.plan_printer_spec.specs.Printed.{type_text}

abbrev pub lex_reason : LexFault → List ℕ
lex_reason (lex.BadChar at) = codes "BadChar"
lex_reason (lex.OpenString at) = codes "OpenString"
lex_reason (lex.OpenComment at) = codes "OpenComment"
lex_reason (lex.NumberTooLarge at) = codes "NumberTooLarge"
lex_reason (lex.LongName at) = codes "LongName"
lex_reason lex.NoMemory = []

abbrev pub lex_byte : LexFault → ℕ
lex_byte (lex.BadChar at) = at
lex_byte (lex.OpenString at) = at
lex_byte (lex.OpenComment at) = at
lex_byte (lex.NumberTooLarge at) = at
lex_byte (lex.LongName at) = at
lex_byte lex.NoMemory = 0

-- with what must stand there, or what is past its limit
abbrev pub parse_reason : ParseFault → List ℕ
parse_reason (parse.Expected what at) = codes "Expected " ++ wanted_text what
parse_reason (parse.TooDeep at) = codes "TooDeep"
parse_reason (parse.TooMany what at) = codes "TooMany " ++ word_of what
parse_reason parse.NoMemory = []

abbrev pub parse_byte : ParseFault → ℕ
parse_byte (parse.Expected what at) = at
parse_byte (parse.TooDeep at) = at
parse_byte (parse.TooMany what at) = at
parse_byte parse.NoMemory = 0

abbrev pub mismatch_text : Ty → Ty → List ℕ
mismatch_text wanted given = codes "Mismatch " ++ type_text wanted ++ codes " " ++ type_text given

-- for a mismatch with the wanted type and the one that stands there
abbrev pub type_reason : TypeFault → List ℕ
type_reason (ill.UnknownName p) = codes "UnknownName"
type_reason (ill.NotEarlier p) = codes "NotEarlier"
type_reason (ill.Mismatch p t u) = mismatch_text t u
type_reason (ill.Arity p) = codes "Arity"
type_reason (ill.NeedsType p) = codes "NeedsType"
type_reason (ill.WrongShape p) = codes "WrongShape"
type_reason (ill.TwiceNamed p) = codes "TwiceNamed"
type_reason (ill.TypeTooDeep p) = codes "TypeTooDeep"
type_reason ill.CodeTooLarge = codes "CodeTooLarge"
type_reason ill.NoMemory = []

-- the name of a refusal and its `what`; running out of memory has none
abbrev pub reason_text : TextFault → List ℕ
reason_text (fault.Lex f) = lex_reason f
reason_text (fault.Parse f) = parse_reason f
reason_text (fault.Ty f at) = type_reason f
reason_text fault.NoMemory = []

-- the byte of a refusal
abbrev pub fault_byte : TextFault → ℕ
fault_byte (fault.Lex f) = lex_byte f
fault_byte (fault.Parse f) = parse_byte f
fault_byte (fault.Ty f at) = at
fault_byte fault.NoMemory = 0
