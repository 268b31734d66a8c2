use Rattle.node_io.proofs.FileMapLemmas.{ChangesOnly-written, ChangesOnly-added}
use Rattle.node_io.proofs.file_list.FileList.clear.Goals as goal

pub returns-in-Some-clause-ok : goal.returns-in-Some-clause-ok
returns-in-Some-clause-ok c =
    ChangesOnly-written _ _ _ _ _ _ _ c.self.view_is (c.in-Some.ensures) c.index_mut.ensures.value c.new.ensures

pub returns-in_ok-push_file-in-None-clause-ok : goal.returns-in_ok-push_file-in-None-clause-ok
returns-in_ok-push_file-in-None-clause-ok c =
    ChangesOnly-added _ _ _ _ _ _ _ c.self.view_is (c.in-None.ensures) (c.in_ok-name-in-None.ensures) (c.in_ok-push_file-in-None.ensures).ok c.new-in-None.ensures
