use Rattle.std.proofs.Common.{◌∙◌}
use Rattle.node_serve.proofs.LogNames.{name_is_text}
use Rattle.node_serve.proofs.Starting.{log_same, log_unmade, log_begun, log_cut}
use Rattle.node_serve.proofs.opening.begin_log.Goals as goal

pub returns-in_default : goal.returns-in_default
returns-in_default g c = log_same c.args.cfg.now (g.F.Files.state c.args.files.now)

pub returns-in_default-write_to : goal.returns-in_default-write_to
returns-in_default-write_to g c = log_unmade c.args.cfg.now _ _ _ _ c.as_str.ensures c.in_default-write_to.ensures.begins

pub returns-in-Ok-put_file : goal.returns-in-Ok-put_file
returns-in-Ok-put_file g c = log_begun c.args.cfg.now _ _ _ _ _ c.as_str.ensures c.in-Ok-write_to.ensures.begins _ (c.as_slice.ensures ∙ c.in-Ok.ensures) c.in-Ok-put_file.ensures

pub returns : goal.returns
returns g c = log_cut c.args.cfg.now _ _ _ _ _ c.as_str.ensures c.in-Ok-write_to.ensures.begins _ (c.as_slice.ensures ∙ c.in-Ok.ensures) c.in-Err.ensures

pub as_str-requires : goal.as_str-requires
as_str-requires g c = name_is_text c.args.cfg.now.log c.requires.log
