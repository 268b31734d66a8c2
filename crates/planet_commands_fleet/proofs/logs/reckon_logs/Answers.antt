use Rattle.std.proofs.Common.{◌≡◌, ◌+◌, true, refl, sym, ap, arith}
use Rattle.std.proofs.lemmas.Result.{err_from_is_err_and}
use Rattle.std.proofs.lemmas.List.Elements.{All-get_or}
use Rattle.network_config.specs.FileNames.{is_file_name}
use Rattle.planet_commands_fleet.proofs.Names.{name_is_text}
use Rattle.planet_commands_fleet.proofs.FileTaking.{along_none, along_next, along_stopped, along_poor, along_all, takes_named}
use Rattle.planet_commands_fleet.proofs.logs.reckon_logs.Goals as goal

pub loop-name-init : goal.loop-name-init
loop-name-init g c = record {
  number = refl;
  along = along_none c.args.links.now c.args.names.now (g.F.Files.state c.args.files.now) c.nothing_reckoned-reckoning.result (c.nothing_reckoned-reckoning.ensures c.args.links.now);
}

pub as_str-requires : goal.as_str-requires
as_str-requires g c =
    let h = All-get_or (λ n. is_file_name n ≡ true) c.args.names.now c.loop-name.name-index c.name-item.result c.loop-name-test.true c.requires.names in
    name_is_text c.name-item.result (rw (sym c.name-item.is) at h)

pub returns-in_err-log : goal.returns-in_err-log
returns-in_err-log g c =
    let state = g.F.Files.state in
    let l = c.loop-name in
    let p = err_from_is_err_and c.from_residual.result c.from_residual.ensures.1 in
    rw (p.1, p.2) (
    along_stopped c.args.links.now c.args.names.now l.name-index (l.number + 1) c.name-item.result (state c.args.files.now) (state l.files) (state c.take_log.new.files) l.reckoning
    l.invariant.along c.loop-name-test.true c.name-item.is
    (ap (λ m. m + 1) l.invariant.number) c.in_err-log.field-0.0 (takes_named _ _ _ _ _ _ _ _ c.as_slice.ensures c.as_str.ensures c.in_err-log.ensures.takes))

pub reckon_log-requires : goal.reckon_log-requires
reckon_log-requires g c = c.in_ok-log.ensures.rules

pub returns-in_default : goal.returns-in_default
returns-in_default g c =
    let state = g.F.Files.state in
    let l = c.loop-name in
    along_poor c.args.links.now c.args.names.now l.name-index (l.number + 1) c.name-item.result (state c.args.files.now) (state l.files) (state c.take_log.new.files) l.reckoning l.invariant.along c.loop-name-test.true c.name-item.is
    (ap (λ m. m + 1) l.invariant.number) c.in_ok-log.log (takes_named _ _ _ _ _ _ _ _ c.as_slice.ensures c.as_str.ensures c.in_ok-log.ensures.takes)

pub loop-name-preserved : goal.loop-name-preserved
loop-name-preserved g c =
    let state = g.F.Files.state in
    let l = c.loop-name in
    let next = ap (λ m. m + 1) l.invariant.number in
    record {
      number = next;
      along = along_next c.args.links.now c.args.names.now l.name-index (l.number + 1) c.name-item.result (state c.args.files.now) (state l.files) (state c.take_log.new.files) l.reckoning
          l.invariant.along c.loop-name-test.true c.name-item.is
          next c.in_ok-log.log c.reckon_log.new.reckoning (takes_named _ _ _ _ _ _ _ _ c.as_slice.ensures c.as_str.ensures c.in_ok-log.ensures.takes)
          (λ ls k n. c.in-Ok.ensures ls k n (omega (arith, next, c.loop-name-test.true, c.requires.few)));
    }

pub returns : goal.returns
returns g c =
    along_all c.args.links.now c.args.names.now c.loop-name.name-index (g.F.Files.state c.args.files.now) (g.F.Files.state c.loop-name.files) c.loop-name.reckoning (omega (arith, c.loop-name-test.false)) c.loop-name.invariant.along
