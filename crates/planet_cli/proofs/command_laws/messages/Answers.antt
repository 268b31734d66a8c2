use Rattle.frag_chunks.specs.Messages.{missing_of}
use Rattle.frag_chunks.specs.declared.gather.Held.TheVariants as held
use Rattle.frag_chunks_log.proofs.NoteLaws.{key_line}
use Rattle.node_log.specs.Nodes.{log_node}
use Rattle.planet_commands_fleet.specs.Messages.{notes_of}
use Rattle.planet_cli.proofs.command_laws.messages.Goals as goal

pub returns-clause-whole : goal.returns-clause-whole
returns-clause-whole c port l k bytes m s a = key_line port (log_node l) l.events k (held.Whole k bytes) (c.messages_are_gathered.ensures.whole port k bytes (notes_of l) m s a)

pub returns-clause-missing : goal.returns-clause-missing
returns-clause-missing c port l k bytes m s i h e =
    key_line port (log_node l) l.events k (missing_of port k bytes (notes_of l)) (c.messages_are_gathered.ensures.missing port k bytes (notes_of l) m s i h e)
