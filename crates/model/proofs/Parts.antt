-- What a row, an entry, a seat or a record says, for proofs that speak of look-ups: nothing, or 0, where nothing stands.
use Rattle.std.proofs.Common.{ℕ, Bool, true, false, drop, Some, None, Option}
use Rattle.model.specs.declared.words.Record.{Record}
use Rattle.model.specs.declared.words.CommitEntry.{CommitEntry}
use Rattle.model.specs.declared.words.CommitEntry.TheVariants.{Committed, Aborted}
use Rattle.model.specs.declared.words.Phase.{Phase}
use Rattle.model.specs.declared.words.Phase.TheVariants.{Open, Validated, Settled}
use Rattle.model.specs.Maps.{number_or_0, look_up}
use Rattle.model.specs.Transactions.{member, Transaction}
use Rattle.model.specs.Managers.{Seat}

-- of a row: its number; its number while validated; its number once settled; whether it is open; its keys; those left to stamp; how many are stamped
abbrev pub number_in : Phase → Option ℕ
number_in Open = None
number_in (Validated c) = Some c
number_in (Settled c) = Some c

abbrev pub validated_in : Phase → Option ℕ
validated_in Open = None
validated_in (Validated c) = Some c
validated_in (Settled c) = None

abbrev pub settled_in : Phase → Option ℕ
settled_in Open = None
settled_in (Validated c) = None
settled_in (Settled c) = Some c

abbrev pub open_in : Phase → Bool
open_in Open = true
open_in (Validated c) = false
open_in (Settled c) = false

abbrev pub row_number : Option Transaction → Option ℕ
row_number None = None
row_number (Some r) = number_in r.phase

abbrev pub validated_number : Option Transaction → Option ℕ
validated_number None = None
validated_number (Some r) = validated_in r.phase

abbrev pub settled_number : Option Transaction → Option ℕ
settled_number None = None
settled_number (Some r) = settled_in r.phase

abbrev pub is_open : Option Transaction → Bool
is_open None = false
is_open (Some r) = open_in r.phase

abbrev pub has_key : Option Transaction → ℕ → Bool
has_key None k = false
has_key (Some r) k = member k r.keys

abbrev pub has_unstamped : Option Transaction → ℕ → Bool
has_unstamped None k = false
has_unstamped (Some r) k = member k (drop r.stamped r.keys)

abbrev pub stamped_count : Option Transaction → ℕ
stamped_count None = 0
stamped_count (Some r) = r.stamped

-- of an entry: the number that it is committed at; whether it is aborted
abbrev pub committed_number : Option CommitEntry → Option ℕ
committed_number None = None
committed_number (Some (Committed n)) = Some n
committed_number (Some Aborted) = None

abbrev pub is_aborted : Option CommitEntry → Bool
is_aborted None = false
is_aborted (Some (Committed n)) = false
is_aborted (Some Aborted) = true

-- of a seat, or 0 where it is vacant: its clock, end, low and conflict number of a key
abbrev pub clock_at : Option Seat → ℕ
clock_at None = 0
clock_at (Some t) = t.clock

abbrev pub end_at : Option Seat → ℕ
end_at None = 0
end_at (Some t) = t.end

abbrev pub low_at : Option Seat → ℕ
low_at None = 0
low_at (Some t) = t.low

abbrev pub conflict_at : Option Seat → ℕ → ℕ
conflict_at None k = 0
conflict_at (Some t) k = number_or_0 (look_up t.conflicts k)

module _ {V : Type 0} where
  -- of a record: its value while pending; its number once stamped; its value
  abbrev pub pend_value : Option ℕ → V → Option V
  pend_value None x = Some x
  pend_value (Some n) x = None

  abbrev pub pending_value : Option (Record V) → Option V
  pending_value None = None
  pending_value (Some r) = pend_value r.number r.value

  abbrev pub record_number : Option (Record V) → Option ℕ
  record_number None = None
  record_number (Some r) = r.number

  abbrev pub record_value : Option (Record V) → Option V
  record_value None = None
  record_value (Some r) = Some r.value
