-- What several calls share: whether there is room, stamping, and how a transaction's traces go.
use Rattle.std.specs.Prelude.{ℕ, Bool, not, ◌&&◌, List, [], ◌∷◌, length, nat_le}
use Rattle.model.specs.Maps.{is_there, remove}
use Rattle.model.specs.Records.{record_at, count, mark}
use Rattle.model.specs.Versions.{drop_pending_all}
use Rattle.model.specs.State.{State, with_rows, with_entries, with_records, raise_class_of}

module _ {V : Type 0} where
  -- a new record is needed at k and v, and the store is full
  abbrev pub record_refused : ℕ → ℕ → State V → Bool
  record_refused k v s = not (is_there (record_at s.records k v)) && nat_le s.opening.records (count s.records)

  -- a new commit entry finds no place
  abbrev pub entry_refused : State V → Bool
  entry_refused s = nat_le s.opening.entries (length s.entries)

  -- to stamp: the record of k at v, if it is still there, gets the number n, and the class number rises to at least n, so that no fast write lands under it
  abbrev pub stamp_record : ℕ → ℕ → ℕ → State V → State V
  stamp_record k v n s = raise_class_of k n (with_records (mark k v n s.records) s)

  -- the records of the version v at some keys are stamped, the first key first
  unfoldable pub stamp_records : ℕ → ℕ → List ℕ → State V → State V
  stamp_records v n [] s = s
  stamp_records v n (k ∷ ks) s = stamp_records v n ks (stamp_record k v n s)

  -- entry and row of id go
  abbrev pub row_gone : ℕ → State V → State V
  row_gone id s = with_rows (remove id s.rows) (with_entries (remove id s.entries) s)

  -- the pending records of id at its keys, its entry and its row go
  abbrev pub records_gone : ℕ → List ℕ → State V → State V
  records_gone id ks s = row_gone id (with_records (drop_pending_all id ks s.records) s)
