use Rattle.std.proofs.Common.{◌≡◌}
use Rattle.std.proofs.lemmas.Result.{IfOk-equal}
use Rattle.extract_maker.specs.GridFile.{rising}
use Rattle.extract_maker.proofs.Written.{road_written}
use Rattle.extract_maker.proofs.objects.write_road.Goals as goal

pub returns : goal.returns
returns c =
    IfOk-equal c.push_rising_field.result _ _ _ c.push_rising_field.ensures
    (rw (c.in_ok-push_road_texts.ensures, c.in_ok-push_number.ensures, c.clear.ensures.items) (road_written c.args.id (rising c.args.first c.args.step c.args.many)))
