-- What a denied call hands back: the refusal's number, the layer that denies, and the place (the seat, id, key, count or bound in question; 0 where there is none).
use Rattle.std.specs.Prelude.{ℕ}
use Rattle.model.specs.declared.refusal.Layer.{Layer}
use Rattle.model.specs.declared.refusal.Layer.TheVariants.{Engine, Manager, Store, CommitTable}
use Rattle.model.specs.declared.refusal.Refusal.{Refusal}
use Rattle.model.specs.declared.refusal.Refusal.TheVariants.{OutsideLimits, SeatVacant, RowsFull, SpanLost, StepsSpent, NoRow, WrongPhase, Fenced, StepAhead, BelowLow, ConflictAtManager, ConflictAtEngine, KeysFull, StoreFull, BelowFloor, EntriesFull, EntryAborted, NotFenced, AboveClock, KeyPending, ClassSpent}

pub record Notice : Type 0 where
  pub number : ℕ
  pub layer : Layer
  pub place : ℕ

abbrev pub notice : Refusal → Notice
notice OutsideLimits = record { number = 1; layer = Engine; place = 0 }
notice (SeatVacant q) = record { number = 2; layer = Manager; place = q }
notice (RowsFull n) = record { number = 3; layer = Engine; place = n }
notice (SpanLost q) = record { number = 4; layer = Manager; place = q }
notice (StepsSpent q) = record { number = 5; layer = Manager; place = q }
notice (NoRow id) = record { number = 6; layer = Engine; place = id }
notice (WrongPhase id) = record { number = 7; layer = Engine; place = id }
notice (Fenced id) = record { number = 8; layer = Engine; place = id }
notice (StepAhead id) = record { number = 9; layer = Manager; place = id }
notice (BelowLow l) = record { number = 10; layer = Manager; place = l }
notice (ConflictAtManager k) = record { number = 11; layer = Manager; place = k }
notice (ConflictAtEngine k) = record { number = 11; layer = Engine; place = k }
notice (KeysFull k) = record { number = 12; layer = Engine; place = k }
notice (StoreFull k) = record { number = 13; layer = Store; place = k }
notice (BelowFloor f) = record { number = 14; layer = Engine; place = f }
notice (EntriesFull id) = record { number = 15; layer = CommitTable; place = id }
notice (EntryAborted id) = record { number = 16; layer = Engine; place = id }
notice (NotFenced id) = record { number = 17; layer = Engine; place = id }
notice (AboveClock h) = record { number = 18; layer = Engine; place = h }
notice (KeyPending k) = record { number = 19; layer = Engine; place = k }
notice (ClassSpent k) = record { number = 20; layer = Engine; place = k }

-- each alone
abbrev pub refusal_number : Refusal → ℕ
refusal_number w = (notice w).number

abbrev pub refusal_layer : Refusal → Layer
refusal_layer w = (notice w).layer

abbrev pub refusal_place : Refusal → ℕ
refusal_place w = (notice w).place
