-- One call of the reference database: the state after it, and its answer.
use Rattle.std.specs.Prelude.{◌+◌, ◌*◌, length, nat_le, nat_lt}
use Rattle.model.specs.declared.call.Call.{Call}
use Rattle.model.specs.declared.call.Call.TheVariants.{Takeover, Begin, Write, Read, Validate, Settle, Stamp, Abandon, Bury, Raise, Sweep, FastRead, FastChange, FastWrite}
use Rattle.model.specs.declared.call.Answer.{Answer}
use Rattle.model.specs.Numbers.{U, last_step, last_number}
use Rattle.model.specs.Maps.{look_up}
use Rattle.model.specs.Versions.{versions}
use Rattle.model.specs.State.{State}
use Rattle.model.specs.Managing.{charge_clock, takeover_if, begin_if, raise_if}
use Rattle.model.specs.Writing.{write_at}
use Rattle.model.specs.Reading.{read_at}
use Rattle.model.specs.Validating.{validate_at, seat_outside}
use Rattle.model.specs.Settling.{settle_at, stamp_at}
use Rattle.model.specs.Ending.{abandon_at, bury_at}
use Rattle.model.specs.Sweeping.{sweep_down, swept}
use Rattle.model.specs.FastCalls.{fast_read, fast_change}

module _ {V : Type 0} where
  unfoldable pub step : State V → Call V → State V × Answer V
  unfolding takeover_if begin_if write_at read_at validate_at settle_at stamp_at abandon_at bury_at raise_if fast_change
  step s (Takeover q) = takeover_if q s (nat_lt 1 q) (nat_lt last_step (s.cell + s.opening.span))
  step s (Begin q) = begin_if q s (nat_lt 1 q) (look_up s.seats q) (nat_le s.opening.rows (length s.rows))
  step s (Write id k x) = write_at id k x s (look_up s.rows id)
  step s (Read id k) = read_at id k s (look_up s.rows id)
  step s (Validate id q) = validate_at id q s (seat_outside q s) (look_up s.rows id)
  step s (Settle id) = settle_at id s (look_up s.rows id)
  step s (Stamp id) = stamp_at id s (look_up s.rows id)
  step s (Abandon id) = abandon_at id s (look_up s.rows id)
  step s (Bury id) = bury_at id s (look_up s.rows id)
  step s (Raise h) = raise_if h s (nat_lt (charge_clock s.in_charge s.seats * U) h)
  step s (Sweep k) = swept k (sweep_down k (versions k s.records) s 0)
  step s (FastRead k) = fast_read k s
  step s (FastChange n k x) = fast_change n k x s
  step s (FastWrite k x) = fast_change last_number k x s
