use Rattle.game_reports.proofs.EventRests.{events-report}
use Rattle.game_reports.proofs.laws.all_events_by_id.Goals as goal

pub returns : goal.returns
returns c = events-report
