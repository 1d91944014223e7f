-- What a call does: a case for each way in which it is accepted, and one for all refusals. The tests of `step` are split here and nowhere else.
use Rattle.std.proofs.Common.{◌≡◌, ℕ, suc, ◌+◌, ◌*◌, ◌/◌, ◌%◌, ◌<◌, ◌≤◌, max, Bool, true, false, cond, not, ◌&&◌, eqb, ltb, leb, ◌⊎◌, List, [], ◌∷◌, length, drop, Some, None, Option, refl, ap, ◌∙◌, inl, inr, arith}
use Rattle.std.proofs.lemmas.Bool.Decides.{nat_tests}
use Rattle.std.proofs.lemmas.Bool.{ltb-true, ltb-false}
use Rattle.model.specs.declared.words.Record.{Record}
use Rattle.model.specs.declared.words.CommitEntry.{CommitEntry}
use Rattle.model.specs.declared.words.CommitEntry.TheVariants.{Committed, Aborted}
use Rattle.model.specs.declared.words.Phase.{Phase}
use Rattle.model.specs.declared.words.Phase.TheVariants.{Open, Validated, Settled}
use Rattle.model.specs.declared.refusal.Refusal.{Refusal}
use Rattle.model.specs.declared.refusal.Refusal.TheVariants.{OutsideLimits, SeatVacant, RowsFull, SpanLost, StepsSpent, NoRow, WrongPhase, Fenced, StepAhead, BelowLow, ConflictAtManager, ConflictAtEngine, KeysFull, StoreFull, BelowFloor, EntriesFull, EntryAborted, NotFenced, AboveClock, KeyPending, ClassSpent}
use Rattle.model.specs.declared.call.Call.{Call}
use Rattle.model.specs.declared.call.Call.TheVariants.{Takeover, Begin, Write, Read, Validate, Settle, Stamp, Abandon, Bury, Raise, Sweep, FastRead, FastChange, FastWrite}
use Rattle.model.specs.declared.call.Answer.{Answer}
use Rattle.model.specs.declared.call.Answer.TheVariants.{Denied, Number, Value, Newest}
use Rattle.model.specs.Numbers.{U, last_step}
use Rattle.model.specs.Maps.{look_up, enter}
use Rattle.model.specs.Records.{record_of, record_at, put, mark, drop_record}
use Rattle.model.specs.Versions.{versions_down, versions, has_pending, greatest_stamped, greatest_below, number_under}
use Rattle.model.specs.Classes.{class_number}
use Rattle.model.specs.Transactions.{member, with_key, Transaction, transaction}
use Rattle.model.specs.Managers.{Seat, seat, step_denied, step_taken, ticked, take_step, first_conflict, conflict_table, enter_conflicts, conflict_capacity, StepOutcome}
use Rattle.model.specs.State.{State, with_rows, with_entries, with_records, with_seat, with_floor, taken_over, raise_class_of}
use Rattle.model.specs.Stamping.{record_refused, entry_refused, stamp_record, stamp_records, row_gone, records_gone}
use Rattle.model.specs.Managing.{charge_clock, step_at, takeover_if, begun, begin_if, raise_if}
use Rattle.model.specs.Writing.{write_if, write_in, write_at}
use Rattle.model.specs.Reading.{found, judge_open, judge_rec, judge, walk, read_if, read_in, read_at}
use Rattle.model.specs.Validating.{validated, validate_seat, validate_if, validate_in, validate_at, seat_outside}
use Rattle.model.specs.Settling.{settled, settle_if, settle_in, settle_at, stamp_left, stamp_in, stamp_at}
use Rattle.model.specs.Ending.{abandon_in, abandon_at, bury_in, bury_at}
use Rattle.model.specs.Sweeping.{drop_low, sweep_pending, sweep_number, sweep_rec, sweep_down, low_under, sweep_under}
use Rattle.model.specs.FastCalls.{fast_if, fast_change}
use Rattle.model.specs.Step.{step}
use Rattle.model.proofs.Parts.{pending_value, record_number, record_value, committed_number, is_aborted, settled_in}
use Rattle.model.proofs.LookUps.{enter_says, mark_says, drop_says, marked}
use Rattle.model.proofs.VersionLists.{Holder, top_held}

-- the seat u after the keys ks were entered at c
abbrev pub entered : ℕ → ℕ → List ℕ → Seat → Seat
entered cap c ks u = seat u.clock u.end (enter_conflicts cap c ks (conflict_table u.low u.conflicts)).low (enter_conflicts cap c ks (conflict_table u.low u.conflicts)).conflicts

aborted_here : (v : ℕ) (l : List (ℕ × CommitEntry)) → is_aborted (look_up (enter v Aborted l) v) ≡ true
aborted_here v l = grind (arith, enter_says v Aborted l v)

module _ {V : Type 0} where
  -- what a read or a sweep of k does at a version: it aborts a pending record that has no entry, or marks a committed one
  pub data Touch (k v : ℕ) (s : State V) : State V → Type 0 where
    t_abort : (x : V) → pending_value (record_at s.records k v) ≡ Some x → look_up s.entries v ≡ None → Touch k v s (with_entries (enter v Aborted s.entries) s)
    t_mark : (n : ℕ) → look_up s.entries v ≡ Some (Committed n) → Touch k v s (stamp_record k v n s)

  -- a read of k by id down the versions of a list
  pub data Walk (id k : ℕ) : List ℕ → State V → State V → Answer V → Type 0 where
    w_end : {s : State V} → Walk id k [] s (raise_class_of k id s) (Value None)
    w_full : {v : ℕ} {vs : List ℕ} {s : State V} → look_up s.entries v ≡ None → Walk id k (v ∷ vs) s s (Denied (EntriesFull v))
    w_none : {v : ℕ} {vs : List ℕ} {s t : State V} {a : Answer V} → record_at s.records k v ≡ None → Walk id k vs s t a → Walk id k (v ∷ vs) s t a
    w_late : {v : ℕ} {vs : List ℕ} {s t : State V} {a : Answer V} (n : ℕ) → record_number (record_at s.records k v) ≡ Some n → id ≤ n → Walk id k vs s t a → Walk id k (v ∷ vs) s t a
    w_dead : {v : ℕ} {vs : List ℕ} {s t : State V} {a : Answer V} (x : V) → pending_value (record_at s.records k v) ≡ Some x → is_aborted (look_up s.entries v) ≡ true → Walk id k vs s t a → Walk id k (v ∷ vs) s t a
    w_fenced : {v : ℕ} {vs : List ℕ} {s t : State V} {a : Answer V} (x : V) → pending_value (record_at s.records k v) ≡ Some x → look_up s.entries v ≡ None → v < s.fence → Walk id k vs s t a → Walk id k (v ∷ vs) s t a
    w_found : {v : ℕ} {vs : List ℕ} {s : State V} (n : ℕ) (x : V) → record_number (record_at s.records k v) ≡ Some n → record_value (record_at s.records k v) ≡ Some x → n < id → Walk id k (v ∷ vs) s (raise_class_of k id s) (Value (Some x))
    w_touch : {v : ℕ} {vs : List ℕ} {s u t : State V} {a : Answer V} → Touch k v s u → Walk id k (v ∷ vs) u t a → Walk id k (v ∷ vs) s t a

  -- what a sweep of k does: it touches records, drops pending ones below the floor, and stamped ones under a greater number below the floor
  pub data Sweeps (k : ℕ) : State V → State V → Type 0 where
    b_end : {s : State V} → Sweeps k s s
    b_touch : {s u t : State V} (v : ℕ) → Touch k v s u → Sweeps k u t → Sweeps k s t
    b_drop : {s t : State V} (v : ℕ) (x : V) → pending_value (record_at s.records k v) ≡ Some x → committed_number (look_up s.entries v) ≡ None → v < s.floor
        → Sweeps k (with_records (drop_record k v s.records) s) t → Sweeps k s t
    b_low : {s t : State V} (v n m : ℕ) → record_number (record_at s.records k v) ≡ Some n → n < m → Holder s.records s.floor k m
        → Sweeps k (with_records (drop_record k v s.records) s) t → Sweeps k s t

  -- a step taken at the seat t: within its span, or with a new one
  pub data Stepped (s : State V) (t : Seat) : ℕ → Seat → Type 0 where
    s_within : (t.clock ≡ t.end → ⊥) → Stepped s t s.cell (ticked t t.end)
    s_extend : t.clock ≡ t.end → s.cell ≡ t.end → s.cell + s.opening.span ≤ last_step → Stepped s t (s.cell + s.opening.span) (ticked t (t.end + s.opening.span))

  -- the number that a fast change gives
  abbrev pub next_number : ℕ → State V → ℕ
  next_number k s = suc (class_number s.classes k)

  pub record Fast (n k : ℕ) (s : State V) : Type 0 where
    pub none_pending : has_pending k s.records ≡ false
    pub newest_known : (greatest_stamped k s.records).0 ≤ n
    pub number_left : next_number k s % U ≡ 0 → ⊥

  abbrev pub fast_state : ℕ → V → State V → State V
  fast_state k x s = raise_class_of k (next_number k s) (with_records (put (record_of k (next_number k s) (Some (next_number k s)) x) s.records) s)

  pub data View (s : State V) : Call V → State V → Answer V → Type 0 where
    v_denied : {c : Call V} (w : Refusal) → View s c s (Denied w)
    v_takeover : (q : ℕ) → s.cell + s.opening.span ≤ last_step → View s (Takeover q) (taken_over q s) (Number (s.cell * U))
    v_begin : (q : ℕ) (t : Seat) (c : ℕ) (u : Seat) → look_up s.seats q ≡ Some t → Stepped s t c u
        → View s (Begin q) (with_rows (enter (t.clock * U) (transaction Open [] 0) s.rows) (with_seat q u c s)) (Number (t.clock * U))
    v_write : (id k : ℕ) (x : V) (ks : List ℕ) (n : ℕ) → look_up s.rows id ≡ Some (transaction Open ks n) → s.fence ≤ id → (greatest_stamped k s.records).0 ≤ id
        → View s (Write id k x) (with_rows (enter id (transaction Open (with_key k ks) n) s.rows) (with_records (put (record_of k id None x) s.records) s)) (Number (length (with_key k ks)))
    v_own : (id k : ℕ) (ks : List ℕ) (n : ℕ) (x : V) → look_up s.rows id ≡ Some (transaction Open ks n) → s.floor ≤ id → record_value (record_at s.records k id) ≡ Some x → View s (Read id k) (raise_class_of k id s) (Value (Some x))
    v_read : (id k : ℕ) (ks : List ℕ) (n : ℕ) {t : State V} {a : Answer V} → look_up s.rows id ≡ Some (transaction Open ks n) → s.floor ≤ id → record_at s.records k id ≡ None
        → Walk id k (versions_down s.records k id []) s t a → View s (Read id k) t a
    v_validate : (id q : ℕ) (ks : List ℕ) (n : ℕ) (t : Seat) (c : ℕ) (u : Seat) → look_up s.rows id ≡ Some (transaction Open ks n) → s.fence ≤ id → look_up s.seats q ≡ Some t
        → id / U < t.clock → t.low ≤ id → first_conflict id t.conflicts ks ≡ None → Stepped s t c u
        → View s (Validate id q) (with_rows (enter id (transaction (Validated (t.clock * U)) ks n) s.rows) (with_seat q (entered (conflict_capacity q s.opening) (t.clock * U) ks u) c s)) (Number (t.clock * U))
    v_settle : (id c : ℕ) (ks : List ℕ) (n : ℕ) → look_up s.rows id ≡ Some (transaction (Validated c) ks n) → s.fence ≤ id → is_aborted (look_up s.entries id) ≡ false
        → View s (Settle id) (settled id c ks n (enter id (Committed c) s.entries) s).0 (Number c)
    v_settle_again : (id c : ℕ) (ks : List ℕ) (n m : ℕ) → look_up s.rows id ≡ Some (transaction (Validated c) ks n) → look_up s.entries id ≡ Some (Committed m)
        → View s (Settle id) (settled id c ks n s.entries s).0 (Number c)
    v_stamp_none : (id c : ℕ) (ks : List ℕ) (n : ℕ) → look_up s.rows id ≡ Some (transaction (Settled c) ks n) → drop n ks ≡ [] → View s (Stamp id) (row_gone id s) (Number 0)
    v_stamp_last : (id c : ℕ) (ks : List ℕ) (n k : ℕ) → look_up s.rows id ≡ Some (transaction (Settled c) ks n) → drop n ks ≡ k ∷ [] → View s (Stamp id) (row_gone id (stamp_record k id c s)) (Number 0)
    v_stamp_more : (id c : ℕ) (ks : List ℕ) (n k l : ℕ) (ls : List ℕ) → look_up s.rows id ≡ Some (transaction (Settled c) ks n) → drop n ks ≡ k ∷ l ∷ ls
        → View s (Stamp id) (with_rows (enter id (transaction (Settled c) ks (suc n)) s.rows) (stamp_record k id c s)) (Number (suc (length ls)))
    v_abandon : (id : ℕ) (p : Phase) (ks : List ℕ) (n m : ℕ) → look_up s.rows id ≡ Some (transaction p ks n) → settled_in p ≡ None → View s (Abandon id) (records_gone id ks s) (Number m)
    v_bury : (id : ℕ) (p : Phase) (ks : List ℕ) (n m : ℕ) → look_up s.rows id ≡ Some (transaction p ks n) → settled_in p ≡ None → View s (Bury id) (records_gone id ks s) (Number m)
    v_bury_settled : (id c : ℕ) (ks : List ℕ) (n m : ℕ) → look_up s.rows id ≡ Some (transaction (Settled c) ks n) → View s (Bury id) (row_gone id (stamp_records id c (drop n ks) s)) (Number m)
    v_raise : (h : ℕ) → h ≤ charge_clock s.in_charge s.seats * U → View s (Raise h) (with_floor h s) (Number (max s.floor h))
    v_sweep : (k m : ℕ) (t u : State V) → Sweeps k s t → Sweeps k t u → View s (Sweep k) u (Number m)
    v_fast_read : (k n : ℕ) (o : Option V) → View s (FastRead k) s (Newest n o)
    v_fast_change : (n k : ℕ) (x : V) → Fast n k s → View s (FastChange n k x) (fast_state k x s) (Number (next_number k s))
    v_fast_write : (k : ℕ) (x : V) → Fast 18446744073709551615 k s → View s (FastWrite k x) (fast_state k x s) (Number (next_number k s))

  -- that a pair of a state and an answer is such a case
  abbrev pub Views : State V → Call V → State V × Answer V → Type 0
  Views s c p = View s c p.0 p.1

  takeover_view : (q : ℕ) (s : State V) (a b : Bool) → ltb last_step (s.cell + s.opening.span) ≡ b → Views s (Takeover q) (takeover_if q s a b)
  unfolding takeover_if
  takeover_view q s true b e = v_denied OutsideLimits
  takeover_view q s false true e = v_denied (StepsSpent q)
  takeover_view q s false false e = v_takeover q (ltb-false last_step (s.cell + s.opening.span) e)

  -- a step that is taken
  took_view : (P : StepOutcome → Type 0) (q : ℕ) (s : State V) (t : Seat) → ((w : Refusal) → P (step_denied w)) → ((c : ℕ) (u : Seat) → Stepped s t c u → P (step_taken c u)) → P (step_at q s t)
  unfolding take_step
  took_view P q s t f g = go (eqb t.clock t.end) refl (eqb s.cell t.end) refl (ltb last_step (s.cell + s.opening.span)) refl
    where
      go : (a : Bool) → eqb t.clock t.end ≡ a → (b : Bool) → eqb s.cell t.end ≡ b → (c : Bool) → ltb last_step (s.cell + s.opening.span) ≡ c → P (take_step q s.cell s.opening.span t a b c)
      go false d b e c i = g s.cell (ticked t t.end) (s_within (grind (arith, nat_tests)))
      go true d false e c i = f (SpanLost q)
      go true d true e true i = f (StepsSpent q)
      go true d true e false i = g (s.cell + s.opening.span) (ticked t (t.end + s.opening.span)) (s_extend (grind (arith, nat_tests)) (grind (arith, nat_tests)) (ltb-false last_step (s.cell + s.opening.span) i))

  begin_view : (q : ℕ) (s : State V) (a : Bool) (o : Option Seat) (b : Bool) → look_up s.seats q ≡ o → Views s (Begin q) (begin_if q s a o b)
  unfolding begin_if
  begin_view q s true o b e = v_denied OutsideLimits
  begin_view q s false None b e = v_denied (SeatVacant q)
  begin_view q s false (Some t) true e = v_denied (RowsFull (length s.rows))
  begin_view q s false (Some t) false e = took_view (λ w. Views s (Begin q) (begun q t w s)) q s t (λ w. v_denied w) (λ c u z. v_begin q t c u e z)

  write_view : (id k : ℕ) (x : V) (s : State V) (o : Option Transaction) → look_up s.rows id ≡ o → Views s (Write id k x) (write_at id k x s o)
  unfolding write_at
  write_view id k x s None p = v_denied (NoRow id)
  write_view id k x s (Some r) p = inner r.phase r.keys r.stamped p
    where
      tests : (ks : List ℕ) (n : ℕ) → look_up s.rows id ≡ Some (transaction Open ks n) → (a : Bool) → ltb id s.fence ≡ a → (b : Bool) (c : Bool) → ltb id (greatest_stamped k s.records).0 ≡ c → (d : Bool)
          → Views s (Write id k x) (write_if id k x ks n s a b c d)
      tests ks n p true e b c f d = v_denied (Fenced id)
      tests ks n p false e true c f d = v_denied (KeysFull k)
      tests ks n p false e false true f d = v_denied (ConflictAtEngine k)
      tests ks n p false e false false f true = v_denied (StoreFull k)
      tests ks n p false e false false f false = v_write id k x ks n p (ltb-false id s.fence e) (ltb-false id (greatest_stamped k s.records).0 f)

      inner : (ph : Phase) (ks : List ℕ) (n : ℕ) → look_up s.rows id ≡ Some (transaction ph ks n) → Views s (Write id k x) (write_in id k x s ph ks n)
      inner Open ks n p = tests ks n p (ltb id s.fence) refl (not (member k ks) && leb 16 (length ks)) (ltb id (greatest_stamped k s.records).0) refl (record_refused k id s)
      inner (Validated c) ks n p = v_denied (WrongPhase id)
      inner (Settled c) ks n p = v_denied (WrongPhase id)

  abbrev Walks : ℕ → ℕ → List ℕ → State V → State V × Answer V → Type 0
  Walks id k vs s p = Walk id k vs s p.0 p.1

  judge_view : (id k v : ℕ) (vs : List ℕ) (s : State V) (o : Option (Record V)) (e : Option CommitEntry) (go : State V → State V × Answer V) → ((t : State V) → Walks id k vs t (go t))
      → record_at s.records k v ≡ o → look_up s.entries v ≡ e → Walks id k (v ∷ vs) s (judge id k v s o e go)
  unfolding judge
  judge_view id k v vs s None e go on p q = w_none p (on s)
  judge_view id k v vs s (Some r) e go on p q = inner r.number r.value e p q
    where
      test : (t : State V) (n : ℕ) (x : V) → record_number (record_at t.records k v) ≡ Some n → record_value (record_at t.records k v) ≡ Some x → (b : Bool) → ltb n id ≡ b → Walks id k (v ∷ vs) t (cond b (found id k t (Some x)) (go t))
      test t n x p y true c = w_found n x p y (ltb-true n id c)
      test t n x p y false c = w_late n p (ltb-false n id c) (on t)

      bare : (x : V) → pending_value (record_at s.records k v) ≡ Some x → look_up s.entries v ≡ None → (a : Bool) → ltb v s.fence ≡ a → (b : Bool) → Walks id k (v ∷ vs) s (judge_open v s a b go)
      bare x p q true e b = w_fenced x p q (ltb-true v s.fence e) (on s)
      bare x p q false e true = w_full q
      bare x p q false e false = w_touch (t_abort x p q) (w_dead x p (aborted_here v s.entries) (on (with_entries (enter v Aborted s.entries) s)))

      inner : (n : Option ℕ) (x : V) (e : Option CommitEntry) → record_at s.records k v ≡ Some (record_of r.key r.version n x) → look_up s.entries v ≡ e → Walks id k (v ∷ vs) s (judge_rec id k v s n x e go)
      inner (Some n) x e p q = test s n x (ap record_number p) (ap record_value p) (ltb n id) refl
      inner None x None p q = bare x (ap pending_value p) q (ltb v s.fence) refl (entry_refused s)
      inner None x (Some Aborted) p q = w_dead x (ap pending_value p) (ap is_aborted q) (on s)
      inner None x (Some (Committed n)) p q =
          let m : record_at (mark k v n s.records) k v ≡ Some (record_of r.key r.version (Some n) x) = ⊎_pick (mark_says k v n s.records k v) in
          w_touch (t_mark n q) (test (stamp_record k v n s) n x (ap record_number m) (ap record_value m) (ltb n id) refl)
        where
          ⊎_pick : ((k ≡ k) × (v ≡ v) × (record_at (mark k v n s.records) k v ≡ marked n (record_at s.records k v))) ⊎ (((k ≡ k) → (v ≡ v) → ⊥) × (record_at (mark k v n s.records) k v ≡ record_at s.records k v))
              → record_at (mark k v n s.records) k v ≡ Some (record_of r.key r.version (Some n) x)
          ⊎_pick (inl h) = h.2 ∙ ap (marked n) p
          ⊎_pick (inr h) = absurd (h.0 refl refl)

  walk_view : (id k : ℕ) (vs : List ℕ) (s : State V) → Walks id k vs s (walk id k vs s)
  unfolding walk
  walk_view id k [] s = w_end
  walk_view id k (v ∷ vs) s = judge_view id k v vs s (record_at s.records k v) (look_up s.entries v) (walk id k vs) (walk_view id k vs) refl refl

  read_view : (id k : ℕ) (s : State V) (o : Option Transaction) → look_up s.rows id ≡ o → Views s (Read id k) (read_at id k s o)
  unfolding read_at
  read_view id k s None p = v_denied (NoRow id)
  read_view id k s (Some r) p = inner r.phase r.keys r.stamped p
    where
      tests : (ks : List ℕ) (n : ℕ) → look_up s.rows id ≡ Some (transaction Open ks n) → (a : Bool) → ltb id s.floor ≡ a → (o : Option (Record V)) → record_at s.records k id ≡ o → Views s (Read id k) (read_if id k s a o)
      tests ks n p true e o q = v_denied (BelowFloor s.floor)
      tests ks n p false e (Some x) q = v_own id k ks n x.value p (ltb-false id s.floor e) (ap record_value q)
      tests ks n p false e None q = v_read id k ks n p (ltb-false id s.floor e) q (walk_view id k (versions_down s.records k id []) s)

      inner : (ph : Phase) (ks : List ℕ) (n : ℕ) → look_up s.rows id ≡ Some (transaction ph ks n) → Views s (Read id k) (read_in id k s ph)
      inner Open ks n p = tests ks n p (ltb id s.floor) refl (record_at s.records k id) refl
      inner (Validated c) ks n p = v_denied (WrongPhase id)
      inner (Settled c) ks n p = v_denied (WrongPhase id)

  validate_view : (id q : ℕ) (s : State V) (z : Bool) (o : Option Transaction) → look_up s.rows id ≡ o → Views s (Validate id q) (validate_at id q s z o)
  unfolding validate_at
  validate_view id q s true o p = v_denied OutsideLimits
  validate_view id q s false None p = v_denied (NoRow id)
  validate_view id q s false (Some r) p = inner r.phase r.keys r.stamped p
    where
      seat : (ks : List ℕ) (n : ℕ) → look_up s.rows id ≡ Some (transaction Open ks n) → s.fence ≤ id → (t : Seat) → look_up s.seats q ≡ Some t → (a : Bool) → leb t.clock (id / U) ≡ a → (b : Bool) → ltb id t.low ≡ b
          → (o : Option ℕ) → first_conflict id t.conflicts ks ≡ o → Views s (Validate id q) (validate_seat id q ks n s t a b o)
      seat ks n p f t e true g b h o c = v_denied (StepAhead id)
      seat ks n p f t e false g true h o c = v_denied (BelowLow t.low)
      seat ks n p f t e false g false h (Some k) c = v_denied (ConflictAtManager k)
      seat ks n p f t e false g false h None c =
          took_view (λ w. Views s (Validate id q) (validated id q ks n (t.clock * U) w s)) q s t (λ w. v_denied w)
          (λ e' u z. v_validate id q ks n t e' u p f e (grind (arith, nat_tests)) (ltb-false id t.low h) c z)

      tests : (ks : List ℕ) (n : ℕ) → look_up s.rows id ≡ Some (transaction Open ks n) → (a : Bool) → ltb id s.fence ≡ a → (o : Option Seat) → look_up s.seats q ≡ o → Views s (Validate id q) (validate_if id q ks n s a o)
      tests ks n p true e o f = v_denied (Fenced id)
      tests ks n p false e None f = v_denied (SeatVacant q)
      tests ks n p false e (Some t) f = seat ks n p (ltb-false id s.fence e) t f (leb t.clock (id / U)) refl (ltb id t.low) refl (first_conflict id t.conflicts ks) refl

      inner : (ph : Phase) (ks : List ℕ) (n : ℕ) → look_up s.rows id ≡ Some (transaction ph ks n) → Views s (Validate id q) (validate_in id q s ph ks n)
      inner Open ks n p = tests ks n p (ltb id s.fence) refl (look_up s.seats q) refl
      inner (Validated c) ks n p = v_denied (WrongPhase id)
      inner (Settled c) ks n p = v_denied (WrongPhase id)

  settle_view : (id : ℕ) (s : State V) (o : Option Transaction) → look_up s.rows id ≡ o → Views s (Settle id) (settle_at id s o)
  unfolding settle_at
  settle_view id s None p = v_denied (NoRow id)
  settle_view id s (Some r) p = inner r.phase r.keys r.stamped p
    where
      tests : (c : ℕ) (ks : List ℕ) (n : ℕ) → look_up s.rows id ≡ Some (transaction (Validated c) ks n) → (a : Bool) → ltb id s.fence ≡ a → (e : Option CommitEntry) → look_up s.entries id ≡ e → (b : Bool) → Views s (Settle id) (settle_if id c ks n s a e b)
      tests c ks n p true f e g b = v_denied (Fenced id)
      tests c ks n p false f (Some Aborted) g b = v_denied (EntryAborted id)
      tests c ks n p false f (Some (Committed m)) g b = v_settle_again id c ks n m p g
      tests c ks n p false f None g true = v_denied (EntriesFull id)
      tests c ks n p false f None g false = v_settle id c ks n p (ltb-false id s.fence f) (ap is_aborted g)

      inner : (ph : Phase) (ks : List ℕ) (n : ℕ) → look_up s.rows id ≡ Some (transaction ph ks n) → Views s (Settle id) (settle_in id s ph ks n)
      inner Open ks n p = v_denied (WrongPhase id)
      inner (Validated c) ks n p = tests c ks n p (ltb id s.fence) refl (look_up s.entries id) refl (entry_refused s)
      inner (Settled c) ks n p = v_denied (WrongPhase id)

  stamp_view : (id : ℕ) (s : State V) (o : Option Transaction) → look_up s.rows id ≡ o → Views s (Stamp id) (stamp_at id s o)
  unfolding stamp_at
  stamp_view id s None p = v_denied (NoRow id)
  stamp_view id s (Some r) p = inner r.phase r.keys r.stamped p
    where
      tests : (c : ℕ) (ks : List ℕ) (n : ℕ) → look_up s.rows id ≡ Some (transaction (Settled c) ks n) → (l : List ℕ) → drop n ks ≡ l → Views s (Stamp id) (stamp_left id c ks n s l)
      tests c ks n p [] e = v_stamp_none id c ks n p e
      tests c ks n p (k ∷ []) e = v_stamp_last id c ks n k p e
      tests c ks n p (k ∷ l ∷ ls) e = v_stamp_more id c ks n k l ls p e

      inner : (ph : Phase) (ks : List ℕ) (n : ℕ) → look_up s.rows id ≡ Some (transaction ph ks n) → Views s (Stamp id) (stamp_in id s ph ks n)
      inner Open ks n p = v_denied (WrongPhase id)
      inner (Validated c) ks n p = v_denied (WrongPhase id)
      inner (Settled c) ks n p = tests c ks n p (drop n ks) refl

  abandon_view : (id : ℕ) (s : State V) (o : Option Transaction) → look_up s.rows id ≡ o → Views s (Abandon id) (abandon_at id s o)
  unfolding abandon_at
  abandon_view id s None p = v_denied (NoRow id)
  abandon_view id s (Some r) p = inner r.phase r.keys r.stamped p
    where
      inner : (ph : Phase) (ks : List ℕ) (n : ℕ) → look_up s.rows id ≡ Some (transaction ph ks n) → Views s (Abandon id) (abandon_in id s ph ks)
      inner Open ks n p = v_abandon id Open ks n _ p refl
      inner (Validated c) ks n p = v_abandon id (Validated c) ks n _ p refl
      inner (Settled c) ks n p = v_denied (WrongPhase id)

  bury_view : (id : ℕ) (s : State V) (o : Option Transaction) → look_up s.rows id ≡ o → Views s (Bury id) (bury_at id s o)
  unfolding bury_at
  bury_view id s None p = v_denied (NoRow id)
  bury_view id s (Some r) p = inner r.phase r.keys r.stamped p (ltb id s.fence)
    where
      inner : (ph : Phase) (ks : List ℕ) (n : ℕ) → look_up s.rows id ≡ Some (transaction ph ks n) → (b : Bool) → Views s (Bury id) (bury_in id s ph ks n b)
      inner ph ks n p false = v_denied (NotFenced id)
      inner Open ks n p true = v_bury id Open ks n _ p refl
      inner (Validated c) ks n p true = v_bury id (Validated c) ks n _ p refl
      inner (Settled c) ks n p true = v_bury_settled id c ks n _ p

  raise_view : (h : ℕ) (s : State V) (b : Bool) → ltb (charge_clock s.in_charge s.seats * U) h ≡ b → Views s (Raise h) (raise_if h s b)
  unfolding raise_if
  raise_view h s true e = v_denied (AboveClock h)
  raise_view h s false e = v_raise h (ltb-false (charge_clock s.in_charge s.seats * U) h e)

  sweep_view : (k : ℕ) (vs : List ℕ) (s : State V) (n : ℕ) → Sweeps k s (sweep_down k vs s n).0
  unfolding sweep_down
  sweep_view k [] s n = b_end
  sweep_view k (v ∷ vs) s n = brush (λ t m. sweep_view k vs t m) (record_at s.records k v) refl
    where
      low : ((t : State V) (m : ℕ) → Sweeps k t (sweep_down k vs t m).0) → (x : V) → pending_value (record_at s.records k v) ≡ Some x → committed_number (look_up s.entries v) ≡ None → (b : Bool) → ltb v s.floor ≡ b
          → Sweeps k s (sweep_down k vs (drop_low k v s n b).0 (drop_low k v s n b).1).0
      low on x p q true e = b_drop v x p q (ltb-true v s.floor e) (on _ _)
      low on x p q false e = on s n

      entry : ((t : State V) (m : ℕ) → Sweeps k t (sweep_down k vs t m).0) → (x : V) → pending_value (record_at s.records k v) ≡ Some x → (e : Option CommitEntry) → look_up s.entries v ≡ e
          → Sweeps k s (sweep_down k vs (sweep_pending k v s n e).0 (sweep_pending k v s n e).1).0
      entry on x p (Some (Committed c)) q = b_touch v (t_mark c q) (on (stamp_record k v c s) n)
      entry on x p (Some Aborted) q = low on x p (ap committed_number q) (ltb v s.floor) refl
      entry on x p None q = low on x p (ap committed_number q) (ltb v s.floor) refl

      number : ((t : State V) (m : ℕ) → Sweeps k t (sweep_down k vs t m).0) → (r : Record V) (o : Option ℕ) → record_at s.records k v ≡ Some (record_of r.key r.version o r.value)
          → Sweeps k s (sweep_down k vs (sweep_number k v s n o).0 (sweep_number k v s n o).1).0
      number on r None p = entry on r.value (ap pending_value p) (look_up s.entries v) refl
      number on r (Some m) p = on s n

      brush : ((t : State V) (m : ℕ) → Sweeps k t (sweep_down k vs t m).0) → (o : Option (Record V)) → record_at s.records k v ≡ o
          → Sweeps k s (sweep_down k vs (sweep_rec k v s n o).0 (sweep_rec k v s n o).1).0
      brush on None p = on s n
      brush on (Some r) p = number on r r.number p

  -- stamped records under m, which is held, go
  under_view : (k m : ℕ) (vs : List ℕ) (s : State V) (n : ℕ) → (0 < m → Holder s.records s.floor k m) → Sweeps k s (sweep_under k m vs s n).0
  unfolding sweep_under
  under_view k m [] s n H = b_end
  under_view k m (v ∷ vs) s n H = go (λ t i J. under_view k m vs t i J) (record_at s.records k v) refl
    where
      -- the greater number stays
      still : (a : ℕ) → record_number (record_at s.records k v) ≡ Some a → a < m → 0 < m → Holder (drop_record k v s.records) s.floor k m
      still a e l z = let J = H z in record { at = J.at; is = grind (arith, drop_says k v s.records k J.at, J.is); low = J.low }

      test : ((t : State V) (i : ℕ) → (0 < m → Holder t.records t.floor k m) → Sweeps k t (sweep_under k m vs t i).0) → (a : ℕ) → record_number (record_at s.records k v) ≡ Some a → (b : Bool) → ltb a m ≡ b
          → Sweeps k s (sweep_under k m vs (drop_low k v s n b).0 (drop_low k v s n b).1).0
      test on a e true f = let l = ltb-true a m f in b_low v a m e l (H (omega arith)) (on (with_records (drop_record k v s.records) s) (suc n) (still a e l))
      test on a e false f = on s n H

      number : ((t : State V) (i : ℕ) → (0 < m → Holder t.records t.floor k m) → Sweeps k t (sweep_under k m vs t i).0) → (o : Option ℕ) → record_number (record_at s.records k v) ≡ o
          → Sweeps k s (sweep_under k m vs (drop_low k v s n (number_under m o)).0 (drop_low k v s n (number_under m o)).1).0
      number on None e = on s n H
      number on (Some a) e = test on a e (ltb a m) refl

      go : ((t : State V) (i : ℕ) → (0 < m → Holder t.records t.floor k m) → Sweeps k t (sweep_under k m vs t i).0) → (o : Option (Record V)) → record_at s.records k v ≡ o
          → Sweeps k s (sweep_under k m vs (drop_low k v s n (low_under m o)).0 (drop_low k v s n (low_under m o)).1).0
      go on None e = on s n H
      go on (Some r) e = number on r.number (ap record_number e)

  -- a fast change that is denied, or what its tests told
  fast_view : (n k : ℕ) (x : V) (s : State V) (call : Call V) → (Fast n k s → View s call (fast_state k x s) (Number (next_number k s))) → Views s call (fast_change n k x s)
  unfolding fast_change
  fast_view n k x s call f = tests (has_pending k s.records) refl (ltb n (greatest_stamped k s.records).0) refl (eqb (next_number k s % U) 0) refl (record_refused k (next_number k s) s)
    where
      tests : (a : Bool) → has_pending k s.records ≡ a → (b : Bool) → ltb n (greatest_stamped k s.records).0 ≡ b → (c : Bool) → eqb (next_number k s % U) 0 ≡ c → (d : Bool) → Views s call (fast_if k x (next_number k s) s a b c d)
      tests true e b g c h d = v_denied (KeyPending k)
      tests false e true g c h d = v_denied (ConflictAtEngine k)
      tests false e false g true h d = v_denied (ClassSpent k)
      tests false e false g false h true = v_denied (StoreFull k)
      tests false e false g false h false = f (record { none_pending = e; newest_known = ltb-false n (greatest_stamped k s.records).0 g; number_left = grind (arith, nat_tests) })

  pub step_view : (s : State V) (c : Call V) → Views s c (step s c)
  unfolding step
  step_view s (Takeover q) = takeover_view q s (ltb 1 q) (ltb last_step (s.cell + s.opening.span)) refl
  step_view s (Begin q) = begin_view q s (ltb 1 q) (look_up s.seats q) (leb s.opening.rows (length s.rows)) refl
  step_view s (Write id k x) = write_view id k x s (look_up s.rows id) refl
  step_view s (Read id k) = read_view id k s (look_up s.rows id) refl
  step_view s (Validate id q) = validate_view id q s (seat_outside q s) (look_up s.rows id) refl
  step_view s (Settle id) = settle_view id s (look_up s.rows id) refl
  step_view s (Stamp id) = stamp_view id s (look_up s.rows id) refl
  step_view s (Abandon id) = abandon_view id s (look_up s.rows id) refl
  step_view s (Bury id) = bury_view id s (look_up s.rows id) refl
  step_view s (Raise h) = raise_view h s (ltb (charge_clock s.in_charge s.seats * U) h) refl
  step_view s (Sweep k) =
      let p = sweep_down k (versions k s.records) s 0 in
      let t : State V = p.0 in
      v_sweep k _ t _ (sweep_view k (versions k s.records) s 0) (under_view k (greatest_below k t.floor t.records) (versions k t.records) t p.1 (top_held t.records k t.floor))
  step_view s (FastRead k) = v_fast_read k _ _
  step_view s (FastChange n k x) = fast_view n k x s (FastChange n k x) (λ f. v_fast_change n k x f)
  step_view s (FastWrite k x) = fast_view 18446744073709551615 k x s (FastWrite k x) (λ f. v_fast_write k x f)
