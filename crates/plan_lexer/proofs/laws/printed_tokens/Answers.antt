use Rattle.plan_lexer.proofs.PrintLemmas.{spells_int, spells_host, spells_dev, spells_part, spells_char, spells_string, spells_blob}
use Rattle.plan_lexer.proofs.laws.printed_tokens.Goals as goal

pub returns : goal.returns
returns c = record { int = spells_int; host = spells_host; dev = spells_dev; part = spells_part; char = spells_char; string = spells_string; blob = spells_blob }
