use Rattle.road_walks.proofs.ReadingLaw.{same_readings}
use Rattle.road_walks.proofs.laws.readings_agree.Goals as goal

pub returns : goal.returns
returns c = same_readings
