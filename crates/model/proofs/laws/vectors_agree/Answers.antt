use Rattle.std.proofs.Common.{◌≡◌, true, refl}
use Rattle.model.specs.Maps.{look_up, enter, remove}
use Rattle.model.specs.Records.{record_at, put, mark, drop_record}
use Rattle.model.specs.Versions.{versions_down, pending_among, greatest_among, greatest_below_among, drop_pending_all, count_pending_all}
use Rattle.model.specs.Classes.{class_number, raise_class}
use Rattle.model.specs.Managers.{take_step, least_entry, first_conflict, enter_conflict, enter_conflicts}
use Rattle.model.specs.State.{fresh}
use Rattle.model.specs.Stamping.{stamp_records}
use Rattle.model.specs.Sweeping.{sweep_down, sweep_under}
use Rattle.model.specs.Step.{step}
use Rattle.model.specs.VectorsShort.{last_steps, many_keys}
use Rattle.model.specs.VectorsTight.{tight}
use Rattle.model.specs.Vectors.{calls_in, answers_in, last_steps_opening, many_keys_opening, tight_opening}
use Rattle.model.proofs.Computing.{answers_are, answers_sound}
use Rattle.model.proofs.laws.vectors_agree.Goals as goal

at_last_steps : answers_are (fresh last_steps_opening) (calls_in last_steps) (answers_in last_steps) ≡ true
unfolding look_up enter remove class_number raise_class record_at put mark drop_record versions_down pending_among greatest_among greatest_below_among drop_pending_all count_pending_all fresh take_step least_entry first_conflict enter_conflict enter_conflicts stamp_records sweep_down sweep_under step
at_last_steps = refl

with_many_keys : answers_are (fresh many_keys_opening) (calls_in many_keys) (answers_in many_keys) ≡ true
unfolding look_up enter remove class_number raise_class record_at put mark drop_record versions_down pending_among greatest_among greatest_below_among drop_pending_all count_pending_all fresh take_step least_entry first_conflict enter_conflict enter_conflicts stamp_records sweep_down sweep_under step
with_many_keys = refl

without_room : answers_are (fresh tight_opening) (calls_in tight) (answers_in tight) ≡ true
unfolding look_up enter remove class_number raise_class record_at put mark drop_record versions_down pending_among greatest_among greatest_below_among drop_pending_all count_pending_all fresh take_step least_entry first_conflict enter_conflict enter_conflicts stamp_records sweep_down sweep_under step
without_room = refl

pub returns : goal.returns
returns c = record {
  at_last_steps = answers_sound (fresh last_steps_opening) (calls_in last_steps) (answers_in last_steps) at_last_steps;
  with_many_keys = answers_sound (fresh many_keys_opening) (calls_in many_keys) (answers_in many_keys) with_many_keys;
  without_room = answers_sound (fresh tight_opening) (calls_in tight) (answers_in tight) without_room;
}
