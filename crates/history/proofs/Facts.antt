-- What holds of every state and of what its past says: four records of facts, each stated of look-ups. Each record
-- takes only the parts of the state and the summary that it speaks of, so that it holds as it stands after a change of the others.
use Rattle.std.proofs.Common.{◌≡◌, ℕ, ◌*◌, ◌%◌, ◌<◌, ◌≤◌, max, true, false, ◌⊎◌, List, length, Some, None, Option}
use Rattle.model.specs.declared.words.Record.{Record}
use Rattle.model.specs.declared.words.CommitEntry.{CommitEntry}
use Rattle.model.specs.Numbers.{U, last_step}
use Rattle.model.specs.Maps.{is_there, look_up}
use Rattle.model.specs.Records.{record_at, Ascending}
use Rattle.model.specs.Classes.{class_number}
use Rattle.model.specs.Transactions.{Transaction}
use Rattle.model.specs.Managers.{Seat}
use Rattle.model.specs.State.{State}
use Rattle.model.proofs.Parts.{clock_at, committed_number, conflict_at, end_at, has_key, has_unstamped, is_aborted, is_open, low_at, pending_value, record_number, record_value, row_number, settled_number, stamped_count, validated_number}
use Rattle.history.specs.Past.{AnsweredRead, In}
use Rattle.history.proofs.Summaries.{Commit, Summary, Ordered}

-- the bound: the clock of the seat in charge times U, or the cell times U where no seat is in charge
abbrev pub bound_of : Option ℕ → List (ℕ × Seat) → ℕ → ℕ
bound_of None l c = c * U
bound_of (Some q) l c = clock_at (look_up l q) * U

-- a row that can still settle: its id is not below the fence and its entry is not aborted
abbrev pub Live : ℕ → List (ℕ × CommitEntry) → ℕ → Type 0
Live fence l i = (fence ≤ i) × (is_aborted (look_up l i) ≡ false)

module _ {V : Type 0} where
  abbrev pub bound : State V → ℕ
  bound s = bound_of s.in_charge s.seats s.cell

  -- a commit of the list stands at the version v with the number n and wrote x to k
  pub record Made (cs : List (Commit V)) (v n k : ℕ) (x : V) : Type 0 where
    pub commit : Commit V
    pub among : In commit cs
    pub version_is : commit.version ≡ v
    pub number_is : commit.number ≡ n
    pub wrote_it : commit.values k ≡ Some x

  -- the commit of a settled row
  pub record Done (cs : List (Commit V)) (w : ℕ → ℕ → Option V) (i n : ℕ) : Type 0 where
    pub commit : Commit V
    pub among : In commit cs
    pub version_is : commit.version ≡ i
    pub number_is : commit.number ≡ n
    pub wrote_all : (k : ℕ) → commit.values k ≡ w i k

  -- what d wrote to k is kept: stamped, or pending with its entry, or under a greater number below the floor
  pub data Kept (l : List (Record V)) (es : List (ℕ × CommitEntry)) (fl k v n : ℕ) (x : V) : Type 0 where
    by_stamp : record_number (record_at l k v) ≡ Some n → record_value (record_at l k v) ≡ Some x → Kept l es fl k v n x
    by_entry : pending_value (record_at l k v) ≡ Some x → committed_number (look_up es v) ≡ Some n → Kept l es fl k v n x
    hidden : (w m : ℕ) → record_number (record_at l k w) ≡ Some m → n < m → m < fl → Kept l es fl k v n x

  -- a commit of k between c and id
  pub record Between (cs : List (Commit V)) (c id k : ℕ) : Type 0 where
    pub commit : Commit V
    pub value : V
    pub among : In commit cs
    pub wrote_it : commit.values k ≡ Some value
    pub above : c < commit.number
    pub below_id : commit.number < id

  -- the commit of k that has the greatest number below id, and wrote x
  pub record Best (cs : List (Commit V)) (id k : ℕ) (x : V) : Type 0 where
    pub commit : Commit V
    pub among : In commit cs
    pub wrote_it : commit.values k ≡ Some x
    pub below_id : commit.number < id
    pub best : (d : Commit V) (y : V) → In d cs → d.values k ≡ Some y → d.number < id → d.number ≤ commit.number

  -- what a reader at id should find: nothing, or the value of the commit with the greatest number below id
  abbrev pub Right : List (Commit V) → ℕ → ℕ → Option V → Type 0
  Right cs id k None = (d : Commit V) (y : V) → In d cs → d.values k ≡ Some y → id ≤ d.number
  Right cs id k (Some x) = Best cs id k x

  -- clocks, spans, ids and numbers: what is used lies below the bound, and steps to come are new
  pub record TimeOf (cell fence floor span : ℕ) (class_numbers : List ℕ) (seats : List (ℕ × Seat)) (charge : Option ℕ) (rows : List (ℕ × Transaction)) (ids : List ℕ) (writes : ℕ → ℕ → Option V) (made : List (Commit V)) (reads : List (AnsweredRead V)) : Type 0 where
    pub floor_fence : floor ≤ fence
    pub fence_bound : fence ≤ bound_of charge seats cell
    pub cell_limit : cell ≤ last_step
    pub span_there : 0 < span
    pub charge_end : (q : ℕ) → charge ≡ Some q → end_at (look_up seats q) ≡ cell
    pub stale : (q : ℕ) → (charge ≡ Some q → ⊥) → (end_at (look_up seats q) * U ≤ fence) × (end_at (look_up seats q) < cell)
    pub shape : (q : ℕ) → (low_at (look_up seats q) ≤ clock_at (look_up seats q) * U) × (clock_at (look_up seats q) ≤ end_at (look_up seats q)) × (end_at (look_up seats q) ≤ cell)
    pub apart : (p q : ℕ) → (p ≡ q → ⊥) → (end_at (look_up seats p) ≤ clock_at (look_up seats q)) ⊎ (end_at (look_up seats q) ≤ clock_at (look_up seats p))
    pub conflicts : (q k : ℕ) → conflict_at (look_up seats q) k ≤ clock_at (look_up seats q) * U
    pub begun : (i : ℕ) → In i ids → (i % U ≡ 0) × (i < bound_of charge seats cell)
    pub unused : (q i : ℕ) → In i ids → clock_at (look_up seats q) * U ≤ i → end_at (look_up seats q) * U ≤ i
    pub rows_begun : (i : ℕ) → is_there (look_up rows i) ≡ true → In i ids
    pub writes_begun : (i k : ℕ) (x : V) → writes i k ≡ Some x → In i ids
    pub numbers : (i c : ℕ) → row_number (look_up rows i) ≡ Some c → (i < c) × (c < bound_of charge seats cell)
    pub commits : (d : Commit V) → In d made → (d.number < bound_of charge seats cell) × (d.start ≤ d.version) × (d.version ≤ d.number)
    pub by_settle : (d : Commit V) → In d made → d.fast ≡ false → (d.start ≡ d.version) × (d.version < d.number) × In d.version ids
    pub by_fast_call : (d : Commit V) → In d made → d.fast ≡ true → (d.version ≡ d.number) × (d.number % U ≡ 0 → ⊥)
    pub classes : (k : ℕ) → class_number class_numbers k < bound_of charge seats cell
    pub sixty_four : length class_numbers ≡ 64
    pub readers : (r : AnsweredRead V) → In r reads → r.id < bound_of charge seats cell

  abbrev pub Time : State V → Summary V → Type 0
  Time s h = TimeOf s.cell s.fence s.floor s.opening.span s.classes s.seats s.in_charge s.rows h.ids h.writes h.commits h.reads

  -- rows, records and entries: what stands in them, and that each commit is kept
  pub record TablesOf (records : List (Record V)) (rows : List (ℕ × Transaction)) (entries : List (ℕ × CommitEntry)) (classes : List ℕ) (floor : ℕ) (writes : ℕ → ℕ → Option V) (commits : List (Commit V)) : Type 0 where
    pub pending : (k v : ℕ) (x : V) → pending_value (record_at records k v) ≡ Some x → (has_unstamped (look_up rows v) k ≡ true) × (writes v k ≡ Some x)
    pub stamp_class : (k v n : ℕ) → record_number (record_at records k v) ≡ Some n → n ≤ class_number classes k
    pub stamp_commit : (k v n : ℕ) (x : V) → record_number (record_at records k v) ≡ Some n → record_value (record_at records k v) ≡ Some x → Made commits v n k x
    pub sealing : (i : ℕ) → settled_number (look_up rows i) ≡ committed_number (look_up entries i)
    pub aborted_row : (i : ℕ) → is_aborted (look_up entries i) ≡ true → is_there (look_up rows i) ≡ true
    pub settled : (i n : ℕ) → settled_number (look_up rows i) ≡ Some n → Done commits writes i n
    pub keyed : (i k : ℕ) → is_there (look_up rows i) ≡ true → has_key (look_up rows i) k ≡ is_there (writes i k)
    pub unstamped : (i : ℕ) → settled_number (look_up rows i) ≡ None → stamped_count (look_up rows i) ≡ 0
    pub held : (i k : ℕ) → settled_number (look_up rows i) ≡ None → floor ≤ i → has_key (look_up rows i) k ≡ true → is_there (pending_value (record_at records k i)) ≡ true
    pub uncommitted : (i : ℕ) (d : Commit V) → is_there (look_up rows i) ≡ true → settled_number (look_up rows i) ≡ None → In d commits → d.version ≡ i → ⊥
    pub one_number : (k v m n : ℕ) → committed_number (look_up entries v) ≡ Some n → record_number (record_at records k v) ≡ Some m → m ≡ n
    pub kept : (d : Commit V) (k : ℕ) (x : V) → In d commits → d.values k ≡ Some x → Kept records entries floor k d.version d.number x
    pub sorted : Ascending records

  abbrev pub Tables : State V → Summary V → Type 0
  Tables s h = TablesOf s.records s.rows s.entries s.classes s.floor h.writes h.commits

  -- commits of one key, and the rows that could still commit
  pub record OrderOf (rows : List (ℕ × Transaction)) (entries : List (ℕ × CommitEntry)) (fence : ℕ) (seats : List (ℕ × Seat)) (charge : Option ℕ) (commits : List (Commit V)) : Type 0 where
    pub ordered : Ordered commits
    pub val_commit : (i c k : ℕ) (d : Commit V) (x : V) → validated_number (look_up rows i) ≡ Some c → Live fence entries i → has_key (look_up rows i) k ≡ true
        → In d commits → d.values k ≡ Some x → (d.number ≤ i) ⊎ ((c ≤ d.start) × (c < d.number))
    pub val_val : (i j c e k : ℕ) → (i ≡ j → ⊥) → validated_number (look_up rows i) ≡ Some c → validated_number (look_up rows j) ≡ Some e → Live fence entries i → Live fence entries j
        → has_key (look_up rows i) k ≡ true → has_key (look_up rows j) k ≡ true → (c ≤ j) ⊎ (e ≤ i)
    pub open_fast : (i k : ℕ) (d : Commit V) (x : V) → is_open (look_up rows i) ≡ true → fence ≤ i → has_key (look_up rows i) k ≡ true
        → In d commits → d.fast ≡ true → d.values k ≡ Some x → d.number ≤ i
    pub recalls_commit : (q k : ℕ) (d : Commit V) (x : V) → charge ≡ Some q → In d commits → d.fast ≡ false → d.values k ≡ Some x
        → d.number ≤ max (low_at (look_up seats q)) (conflict_at (look_up seats q) k)
    pub recalls_row : (q k i c : ℕ) → charge ≡ Some q → validated_number (look_up rows i) ≡ Some c → has_key (look_up rows i) k ≡ true
        → c ≤ max (low_at (look_up seats q)) (conflict_at (look_up seats q) k)

  abbrev pub Order : State V → Summary V → Type 0
  Order s h = OrderOf s.rows s.entries s.fence s.seats s.in_charge h.commits

  -- answered reads, and the rows that could still commit below them
  pub record ReadingOf (rows : List (ℕ × Transaction)) (entries : List (ℕ × CommitEntry)) (fence : ℕ) (classes : List ℕ) (commits : List (Commit V)) (reads : List (AnsweredRead V)) : Type 0 where
    pub class_over : (r : AnsweredRead V) → In r reads → r.id ≤ class_number classes r.key
    pub owned : (r : AnsweredRead V) (x : V) → In r reads → r.own ≡ Some x → r.answer ≡ Some x
    pub right : (r : AnsweredRead V) → In r reads → r.own ≡ None → Right commits r.id r.key r.answer
    pub blocked : (r : AnsweredRead V) (j c : ℕ) → In r reads → r.own ≡ None → validated_number (look_up rows j) ≡ Some c → Live fence entries j → has_key (look_up rows j) r.key ≡ true
        → c < r.id → Between commits c r.id r.key

  abbrev pub Reading : State V → Summary V → Type 0
  Reading s h = ReadingOf s.rows s.entries s.fence s.classes h.commits h.reads

  -- the invariant of a state and the summary of its past
  pub record Sound (s : State V) (h : Summary V) : Type 0 where
    pub time : Time s h
    pub tables : Tables s h
    pub order : Order s h
    pub reading : Reading s h
