use Rattle.std.proofs.Common.{refl}
use Rattle.std.specs.Fmt.{digits}
use Rattle.serde_json.proofs.OnLiterals.{serde_json_on_literals}
use Rattle.build_report.specs.Reports.{with_reason}
use Rattle.build_report.proofs.law.reports_written_out.Goals as goal

pub returns-clause-two_nodes : goal.returns-clause-two_nodes
unfolding serde_json_on_literals digits with_reason
returns-clause-two_nodes c = refl

pub returns-clause-two_skipped : goal.returns-clause-two_skipped
unfolding serde_json_on_literals digits with_reason
returns-clause-two_skipped c = refl
