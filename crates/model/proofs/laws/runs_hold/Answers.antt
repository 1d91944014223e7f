use Rattle.std.proofs.Common.{refl}
use Rattle.model.specs.Maps.{look_up, enter, remove}
use Rattle.model.specs.Records.{record_at, put, mark, drop_record}
use Rattle.model.specs.Versions.{versions_down, pending_among, greatest_among, greatest_below_among, drop_pending_all, count_pending_all}
use Rattle.model.specs.Classes.{class_number, raise_class}
use Rattle.model.specs.Managers.{take_step, least_entry, first_conflict, enter_conflict, enter_conflicts}
use Rattle.model.specs.State.{fresh}
use Rattle.model.specs.Stamping.{stamp_records}
use Rattle.model.specs.Sweeping.{sweep_down, sweep_under}
use Rattle.model.specs.Step.{step}
use Rattle.model.specs.Runs.{Replay, runs}
use Rattle.model.proofs.laws.runs_hold.Goals as goal

replay : Replay runs
unfolding look_up enter remove class_number raise_class record_at put mark drop_record versions_down pending_among greatest_among greatest_below_among drop_pending_all count_pending_all fresh take_step least_entry first_conflict enter_conflict enter_conflicts stamp_records sweep_down sweep_under step
replay = (refl, tt, (refl, refl, (refl, tt, (refl, tt, (refl, tt, (refl, tt, (refl, tt, (refl, refl, (refl, tt, (refl, tt, tt))))))))))

pub returns : goal.returns
returns c = replay
