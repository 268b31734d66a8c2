use Rattle.std.proofs.Common.{◌≡◌, [], ◌++◌, ◌∙◌, rules}
use Rattle.node_io.specs.FileMaps.{contents}
use Rattle.node_io.proofs.FileMapLemmas.{ChangesOnly-grown, ChangesOnly-added, contents-not_found}
use Rattle.node_io.proofs.file_list.FileList.extend.Goals as goal

pub returns-in_ok-add_all-in-Some-clause-ok : goal.returns-in_ok-add_all-in-Some-clause-ok
returns-in_ok-add_all-in-Some-clause-ok c =
    ChangesOnly-grown _ _ _ _ _ _ _ c.self.view_is (c.in-Some.ensures) c.index_mut.ensures.value (c.in_ok-add_all-in-Some.ensures).ok

pub returns-in_ok-push_file-in-None-clause-ok : goal.returns-in_ok-push_file-in-None-clause-ok
returns-in_ok-push_file-in-None-clause-ok c =
    let missing = c.in-None.ensures in
    let empty : c.add_all-in-None.new.self ≡ [] ++ c.args.piece.now = search (rules, c.new-bytes.ensures, (c.in_ok-add_all-in-None.ensures).ok) in
    let added : c.add_all-in-None.new.self ≡ contents c.args.self.now c.args.name.now ++ c.args.piece.now = empty ∙ contents-not_found c.args.name.now c.args.self.now c.args.piece.now missing in
    ChangesOnly-added _ _ _ _ _ _ _ c.self.view_is missing (c.in_ok-name-in-None.ensures) ((c.in_ok-push_file-in-None.ensures).ok) added
