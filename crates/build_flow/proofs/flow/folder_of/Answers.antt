use Rattle.std.proofs.Common.{◌≡◌, subst}
use Rattle.std.specs.Prelude.{None, IfOk, IfErr, OnOk}
use Rattle.build_flow.specs.FolderFiles.{IsFault}
use Rattle.build_flow.proofs.WholeBuild.{can_be_built, files_are, limit_is, cut_fails}
use Rattle.build_flow.proofs.flow.folder_of.Goals as goal

pub files_of_roads-requires-clause-roads : goal.files_of_roads-requires-clause-roads
files_of_roads-requires-clause-roads c =
    can_be_built c.args.extract c.args.modes c.extract_roads.ensures c.kept_own_nodes.ensures c.lifted_are_finishable.ensures c.in-Ok.roads c.in-Ok.ensures.roads c.pieces_spell.ensures c.in-Ok.ensures.accepted

pub returns-in-Ok-clause-files : goal.returns-in-Ok-clause-files
returns-in-Ok-clause-files c =
    subst (λ fs. IfOk c.files_of_roads.result (λ files. files ≡ fs)) (files_are c.args.extract c.args.modes c.lifted_make_tiles.ensures c.in-Ok.roads c.in-Ok.ensures.roads) c.files_of_roads.ensures.files

pub returns-in-Ok-clause-accepted : goal.returns-in-Ok-clause-accepted
returns-in-Ok-clause-accepted c =
    subst (λ l. OnOk c.files_of_roads.result (l ≡ None)) (limit_is c.args.extract c.args.modes c.lifted_make_tiles.ensures c.in-Ok.roads c.in-Ok.ensures.roads c.in-Ok.ensures.accepted) c.files_of_roads.ensures.accepted

pub returns-in-Ok-clause-refused : goal.returns-in-Ok-clause-refused
returns-in-Ok-clause-refused c =
    subst (λ l. IfErr c.files_of_roads.result (λ fault. IsFault l fault)) (limit_is c.args.extract c.args.modes c.lifted_make_tiles.ensures c.in-Ok.roads c.in-Ok.ensures.roads c.in-Ok.ensures.accepted) c.files_of_roads.ensures.refused

pub returns-in-Err-clause-refused : goal.returns-in-Err-clause-refused
returns-in-Err-clause-refused c =
    rw c.from.ensures (cut_fails c.args.extract c.args.modes c.lifted_make_tiles.ensures c.in-Err.fault c.in-Err.ensures.refused)
