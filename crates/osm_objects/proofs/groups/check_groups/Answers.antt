use Rattle.osm_objects.proofs.KeysValues.{count-pair}
use Rattle.osm_objects.proofs.groups.check_groups.Goals as goal

pub loop-key-preserved : goal.loop-key-preserved
loop-key-preserved c = count-pair _ _ c.in-Some.behind.now _ c.in-Some.key.now c.loop-key.invariant c.in-Some.ensures.cases.0 c.if-key-eq0.false c.if-behind-lt2.false
