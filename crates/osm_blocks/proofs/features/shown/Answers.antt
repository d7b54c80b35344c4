use Rattle.std.proofs.Common.{◌∙◌, sym}
use Rattle.osm_blocks.proofs.Shown.{shown-text, shown-other}
use Rattle.osm_blocks.proofs.features.shown.Goals as goal

pub returns-in-Ok : goal.returns-in-Ok
returns-in-Ok c = c.in-Ok.ensures.cases.0 ∙ sym (shown-text c.args.feature.now c.in-Ok.ensures.cases.1)

pub returns-in-Err : goal.returns-in-Err
returns-in-Err c = sym (shown-other c.args.feature.now c.in-Err.ensures.cases.0)
