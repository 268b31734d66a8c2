use Rattle.std.proofs.Common.{◌≡◌, get_or, sym}
use Rattle.node_io.proofs.FileMapLemmas.{file_at-found, file_at-not_found}
use Rattle.node_io.proofs.file_list.FileList.get.Goals as goal

pub returns-in_err-i : goal.returns-in_err-i
returns-in_err-i c = rw (c.from_residual.ensures) (sym (file_at-not_found c.args.name.now c.args.self.now (c.in_err-i.ensures)))

pub returns : goal.returns
returns c =
    let is : c.index.result.now ≡ get_or c.args.self.now c.in_ok-i.i c.index.result.now = cc in
    sym (file_at-found _ _ _ _ (c.in_ok-i.ensures) is)
