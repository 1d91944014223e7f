-- Each small change keeps what is sound.
use Rattle.std.proofs.Common.{◌≡◌, ℕ, suc, ◌+◌, ◌*◌, ◌/◌, ◌%◌, ◌<◌, ◌≤◌, max, Bool, true, false, ◌⊎◌, List, [], ◌∷◌, drop, Some, None, Option, sym, refl, ap, ◌∙◌, inl, inr, ⊎_elim, arith}
use Rattle.model.specs.declared.words.Record.{Record}
use Rattle.model.specs.declared.words.CommitEntry.TheVariants.{Committed, Aborted}
use Rattle.model.specs.declared.words.Phase.{Phase}
use Rattle.model.specs.declared.words.Phase.TheVariants.{Open, Validated, Settled}
use Rattle.model.specs.Numbers.{U, last_step}
use Rattle.model.specs.Maps.{number_or_0, is_there, look_up, enter, remove}
use Rattle.model.specs.Records.{record_of, record_at, put, mark, drop_record}
use Rattle.model.specs.Versions.{greatest_stamped, drop_pending_all}
use Rattle.model.specs.Classes.{class_number}
use Rattle.model.specs.Transactions.{member, with_key, Transaction, transaction}
use Rattle.model.specs.Managers.{Seat, first_conflict, ConflictTable, conflict_table}
use Rattle.model.specs.State.{State, with_rows, with_entries, with_records, with_seat, with_floor, taken_over, raise_class_of}
use Rattle.model.specs.Stamping.{row_gone, records_gone, stamp_record}
use Rattle.model.specs.Settling.{settled}
use Rattle.history.specs.Past.{In, began, wrote, settled_at, fast_committed}
use Rattle.history.proofs.Summaries.{Commit, Summary, with_effect, settled_commit, fast_commit}
use Rattle.model.proofs.Parts.{number_in, settled_in, row_number, settled_number, is_open, has_key, committed_number, is_aborted, low_at, conflict_at, pending_value, record_number, record_value}
use Rattle.history.proofs.Facts.{bound, Kept, by_stamp, by_entry, hidden, Sound}
use Rattle.model.proofs.LookUps.{enter_says, kinds}
use Rattle.model.proofs.VersionLists.{top_over, pending_none, Holder, class_says}
use Rattle.model.proofs.Folds.{sweeps_keep}
use Rattle.model.proofs.View.{Touch, t_abort, t_mark, Sweeps, Stepped, entered, next_number, Fast, fast_state}
use Rattle.history.proofs.ConflictMemory.{Bounded, all_bounded, all_knows, all_noted, no_conflict}
use Rattle.history.proofs.TimeKept.{bound_step, bound_cell, in_charge, Steps, steps, seat_bound, step_new, class_time, row_time, gone_time, raise_time, take_time, seat_time, begin_time, write_time, commit_time}
use Rattle.history.proofs.TablesKept.{key_row, seal_row, class_tables, mark_tables, abort_tables, drop_tables, low_tables, advance_tables, close_tables, abandon_tables, raise_tables}
use Rattle.history.proofs.TablesGrown.{Unused, validate_tables, begin_tables, write_tables, settle_tables, fast_tables}
use Rattle.history.proofs.OrderKept.{abort_order, raise_order, gone_order, quiet_order, take_order, seat_order, validate_order, begin_order, write_order, settle_order, fast_order}
use Rattle.history.proofs.ReadingKept.{class_reading, abort_reading, raise_reading, take_reading, gone_reading, row_reading, validate_reading, settle_reading, fast_reading}

seal_num : (o : Option Transaction) (n : ℕ) → settled_number o ≡ Some n → row_number o ≡ Some n
seal_num None n e = e
seal_num (Some r) n e = go r.phase e
  where
    go : (p : Phase) → settled_in p ≡ Some n → number_in p ≡ Some n
    go Open e = grind arith
    go (Validated d) e = grind arith
    go (Settled d) e = e

module _ {V : Type 0} (s : State V) (h : Summary V) (S : Sound s h) where
  pub class_sound : (k n : ℕ) → n < bound s → Sound (raise_class_of k n s) h
  class_sound k n lt = record { time = class_time s h S.time k n lt; tables = class_tables s h S.time S.tables k n; order = S.order; reading = class_reading s h S.time S.reading k n }

  pub abort_sound : (k v : ℕ) (x : V) → pending_value (record_at s.records k v) ≡ Some x → look_up s.entries v ≡ None → Sound (with_entries (enter v Aborted s.entries) s) h
  abort_sound k v x p e = record { time = S.time; tables = abort_tables s h S.time S.tables k v x p e; order = abort_order s h S.order v; reading = abort_reading s h S.reading v }

  pub drop_sound : (k v : ℕ) (x : V) → pending_value (record_at s.records k v) ≡ Some x → committed_number (look_up s.entries v) ≡ None → v < s.floor → Sound (with_records (drop_record k v s.records) s) h
  drop_sound k v x p e l = record { time = S.time; tables = drop_tables s h S.time S.tables k v x p e l; order = S.order; reading = S.reading }

  pub low_sound : (k v n m : ℕ) → record_number (record_at s.records k v) ≡ Some n → n < m → Holder s.records s.floor k m → Sound (with_records (drop_record k v s.records) s) h
  low_sound k v n m e l H = record { time = S.time; tables = low_tables s h S.time S.tables k v n m e l H; order = S.order; reading = S.reading }

  mark_only : (k v n : ℕ) → look_up s.entries v ≡ Some (Committed n) → n ≤ class_number s.classes k → Sound (with_records (mark k v n s.records) s) h
  mark_only k v n e l = record { time = S.time; tables = mark_tables s h S.time S.tables k v n e l; order = S.order; reading = S.reading }

  pub advance_sound : (id c : ℕ) (ks : List ℕ) (n k : ℕ) (ls : List ℕ) → look_up s.rows id ≡ Some (transaction (Settled c) ks n) → drop n ks ≡ k ∷ ls → pending_value (record_at s.records k id) ≡ None
      → Sound (with_rows (enter id (transaction (Settled c) ks (suc n)) s.rows) s) h
  advance_sound id c ks n k ls at dr g = record {
    time = row_time s h S.time id (transaction (Settled c) ks (suc n)) (ap is_there at) (λ d e. S.time.numbers id d (ap row_number at ∙ e));
    tables = advance_tables s h S.time S.tables id c ks n k ls at dr g;
    order = quiet_order s h S.order id (transaction (Settled c) ks (suc n)) refl refl;
    reading = row_reading s h S.reading id (transaction (Settled c) ks (suc n)) refl;
  }

  pub close_sound : (id c : ℕ) (ks : List ℕ) (n : ℕ) → look_up s.rows id ≡ Some (transaction (Settled c) ks n) → ((k : ℕ) → member k (drop n ks) ≡ true → pending_value (record_at s.records k id) ≡ None) → Sound (row_gone id s) h
  close_sound id c ks n at g = record {
    time = gone_time (with_entries (remove id s.entries) s) h S.time id;
    tables = close_tables s h S.time S.tables id c ks n at g;
    order = gone_order s h S.order id;
    reading = gone_reading s h S.reading id;
  }

  pub abandon_sound : (id : ℕ) (p : Phase) (ks : List ℕ) (n : ℕ) → look_up s.rows id ≡ Some (transaction p ks n) → settled_in p ≡ None → Sound (records_gone id ks s) h
  abandon_sound id p ks n at un =
      let r = with_records (drop_pending_all id ks s.records) s in
      record {
        time = gone_time (with_entries (remove id s.entries) r) h S.time id;
        tables = abandon_tables s h S.time S.tables id p ks n at un;
        order = gone_order r h S.order id;
        reading = gone_reading r h S.reading id;
      }

  pub raise_sound : (g : ℕ) → g ≤ bound s → Sound (with_floor g s) h
  raise_sound g l = record { time = raise_time s h S.time g l; tables = raise_tables s h S.time S.tables g; order = raise_order s h S.order g; reading = raise_reading s h S.reading g }

  pub take_sound : (q : ℕ) → s.cell + s.opening.span ≤ last_step → Sound (taken_over q s) h
  take_sound q fits = record { time = take_time s h S.time q fits; tables = S.tables; order = take_order s h S.time S.order q; reading = take_reading s h S.reading q }

-- a record whose entry is committed is stamped
pub mark_sound : {V : Type 0} (s : State V) (h : Summary V) → Sound s h → (k v n : ℕ) → look_up s.entries v ≡ Some (Committed n) → Sound (stamp_record k v n s) h
mark_sound s h S k v n e =
    let a : settled_number (look_up s.rows v) ≡ Some n = S.tables.sealing v ∙ ap committed_number e in
    let b = S.time.numbers v n (seal_num (look_up s.rows v) n a) in
    mark_only (raise_class_of k n s) h (class_sound s h S k n b.1) k v n e (class_says k n s.classes k S.time.sixty_four).1

pub touch_sound : {V : Type 0} (k v : ℕ) (s t : State V) (h : Summary V) → Touch k v s t → Sound s h → Sound t h
touch_sound k v s _ h (t_abort x p e) S = abort_sound s h S k v x p e
touch_sound k v s _ h (t_mark n e) S = mark_sound s h S k v n e

pub sweeps_sound : {V : Type 0} (k : ℕ) (s t : State V) (h : Summary V) → Sweeps k s t → Sound s h → Sound t h
sweeps_sound k s t h b S =
    sweeps_keep (λ u. Sound u h) k (λ v u x m R. touch_sound k v u x h m R) (λ v x u p e l R. drop_sound u h R k v x p e l) (λ v n m u e l H R. low_sound u h R k v n m e l H) s t b S

-- a step at a seat: begin and validate
module _ {V : Type 0} (s : State V) (h : Summary V) (S : Sound s h) (q : ℕ) (t : Seat) (c : ℕ) (u : Seat) (at : look_up s.seats q ≡ Some t) (z : Stepped s t c u) where
  pub Z : Steps s q t c u
  Z = steps s h S.time q t c u at z

  seat_sound : (w : Seat) → w.clock ≡ u.clock → w.end ≡ u.end → w.low ≤ u.clock * U → ((k : ℕ) → number_or_0 (look_up w.conflicts k) ≤ u.clock * U)
      → ((k : ℕ) → max t.low (number_or_0 (look_up t.conflicts k)) ≤ max w.low (number_or_0 (look_up w.conflicts k))) → Sound (with_seat q w c s) h
  seat_sound w ck en lo co mo = record {
    time = seat_time s h S.time q t c u w at Z ck en lo co;
    tables = S.tables;
    order = seat_order s h S.order q t w c at mo;
    reading = S.reading;
  }

  low_in : t.low ≤ t.clock * U
  low_in = grind (arith, S.time.shape q)

  table_in : (k : ℕ) → number_or_0 (look_up t.conflicts k) ≤ t.clock * U
  table_in k = grind (arith, S.time.conflicts q k)

  -- the id of the step was never begun
  fresh_id : In (t.clock * U) h.ids → ⊥
  fresh_id m =
      let b = seat_bound s q t c u u at Z refl in
      let a = S.time.begun (t.clock * U) m in
      let f = S.time.unused q (t.clock * U) m in
      grind (arith, Z.either, Z.inside, Z.clock_is, a.1)

  pub unused_id : Unused s h (t.clock * U)
  unused_id = record {
    no_row = row (is_there (look_up s.rows (t.clock * U))) refl;
    no_write = λ k. write k (h.writes (t.clock * U) k) refl;
    no_commit = λ d m e. commit d m e d.fast refl;
  }
    where
      row : (b : Bool) → is_there (look_up s.rows (t.clock * U)) ≡ b → b ≡ false
      row true e = absurd (fresh_id (S.time.rows_begun (t.clock * U) e))
      row false e = refl

      write : (k : ℕ) (o : Option V) → h.writes (t.clock * U) k ≡ o → o ≡ None
      write k None e = refl
      write k (Some x) e = absurd (fresh_id (S.time.writes_begun (t.clock * U) k x e))

      commit : (d : Commit V) → In d h.commits → d.version ≡ t.clock * U → (b : Bool) → d.fast ≡ b → ⊥
      commit d m e true f = let p = S.time.by_fast_call d m f in p.1 (ap (λ n. n % U) (sym p.0 ∙ e) ∙ omega arith)
      commit d m e false f = fresh_id (rw e at (S.time.by_settle d m f).2)

  pub begin_sound : Sound (with_rows (enter (t.clock * U) (transaction Open [] 0) s.rows) (with_seat q u c s)) (with_effect (began (t.clock * U)) h)
  begin_sound =
      let W = seat_sound u refl refl (grind (arith, low_in, Z.same_low, Z.clock_is)) (λ k. grind (arith, table_in k, Z.same_table, Z.clock_is)) (λ k. grind (arith, Z.same_low, Z.same_table)) in
      let s₁ = with_seat q u c s in
      record {
        time = begin_time s₁ h W.time (t.clock * U) (transaction Open [] 0) refl (step_new s h S.time q t c u u at Z refl refl);
        tables = begin_tables s₁ h W.time W.tables (t.clock * U) (record { no_row = unused_id.no_row; no_write = unused_id.no_write; no_commit = unused_id.no_commit });
        order = begin_order s₁ h W.order (t.clock * U);
        reading = row_reading s₁ h W.reading (t.clock * U) (transaction Open [] 0) refl;
      }

  module _ (id : ℕ) (ks : List ℕ) (n : ℕ) (row : look_up s.rows id ≡ Some (transaction Open ks n)) (fe : s.fence ≤ id) (lt : id / U < t.clock) (lo : t.low ≤ id) (cf : first_conflict id t.conflicts ks ≡ None) (cap₀ : ℕ) where
    -- an accepted validate is at the seat in charge
    charged : s.in_charge ≡ Some q
    charged = ⊎_elim (λ e. e) (λ f. absurd (grind (arith, S.time.stale q f, S.time.shape q))) (in_charge s.in_charge q)

    bound_is : bound s ≡ t.clock * U
    bound_is = ⊎_elim (λ p. p.1) (λ p. absurd (p.0 charged)) (seat_bound s q t c u u at Z refl)

    under_clock : Bounded (t.clock * U) (conflict_table u.low u.conflicts)
    under_clock = record { low = grind (arith, low_in, Z.same_low); all = λ k. grind (arith, table_in k, Z.same_table) }

    pub validate_sound : Sound (with_rows (enter id (transaction (Validated (t.clock * U)) ks n) s.rows) (with_seat q (entered cap₀ (t.clock * U) ks u) c s)) h
    validate_sound =
        let w = entered cap₀ (t.clock * U) ks u in
        let A = all_bounded cap₀ (t.clock * U) ks (conflict_table u.low u.conflicts) under_clock in
        let s₁ = with_seat q w c s in
        let W : Sound s₁ h = seat_sound w refl refl (grind (arith, A.low, Z.clock_is)) (λ k. grind (arith, A.all k, Z.clock_is))
        (λ k. let b = all_knows cap₀ (t.clock * U) ks (conflict_table u.low u.conflicts) k under_clock in grind (arith, Z.same_low, Z.same_table)) in
        let less : id < t.clock * U = omega arith in
        let rowful : is_there (look_up s.rows id) ≡ true = ap is_there row in
        let bnd = seat_bound s q t c u w at Z refl in
        let under : t.clock * U < bound s₁ = grind (arith, bnd, Z.clock_is, charged) in
        let keep : (k : ℕ) → member k ks ≡ true → max (low_at (look_up s.seats q)) (conflict_at (look_up s.seats q) k) ≤ id =
        (λ k e. let f = no_conflict id t.conflicts ks k cf e in grind (arith, at)) in
        record {
          time = row_time s₁ h W.time id (transaction (Validated (t.clock * U)) ks n) rowful (λ d e. grind (arith, less, under));
          tables = validate_tables s₁ h W.time W.tables id (t.clock * U) ks n row;
          order = validate_order s₁ h W.order id (t.clock * U) ks n row
              (λ k d x e m y. pastly k d x e m y (keep k e) d.fast refl)
              (λ j e k f g y. let a = S.order.recalls_row q k j e charged g y in let b = keep k f in omega arith)
              (λ p k e f. let b = all_noted cap₀ (t.clock * U) ks (conflict_table u.low u.conflicts) k under_clock f in grind (arith, enter_says q w s.seats p, charged));
          reading = validate_reading s₁ h W.reading id (t.clock * U) ks n (λ r m. let a = S.time.readers r m in omega (arith, bound_is));
        }
      where
        pastly : (k : ℕ) (d : Commit V) (x : V) → member k ks ≡ true → In d h.commits → d.values k ≡ Some x → max (low_at (look_up s.seats q)) (conflict_at (look_up s.seats q) k) ≤ id → (b : Bool) → d.fast ≡ b → d.number ≤ id
        pastly k d x e m y l true f = S.order.open_fast id k d x (ap is_open row) fe (ap (λ o. has_key o k) row ∙ e) m f y
        pastly k d x e m y l false f = let a = S.order.recalls_commit q k d x charged m f y in omega arith

-- write, settle and fast commits
module _ {V : Type 0} (s : State V) (h : Summary V) (S : Sound s h) where
  -- what is below the bound is a 64-bit number
  word : (n : ℕ) → n < bound s → n ≤ 18446744073709551615
  word n l = let a = bound_cell s h S.time in omega (arith, S.time.cell_limit)

  commit_word : (d : Commit V) → In d h.commits → d.version ≤ 18446744073709551615
  commit_word d m = let a = S.time.commits d m in word d.version (omega arith)

  row_word : (i : ℕ) → is_there (look_up s.rows i) ≡ true → i ≤ 18446744073709551615
  row_word i e = word i (S.time.begun i (S.time.rows_begun i e)).1

  stamp_word : (k w m : ℕ) → record_number (record_at s.records k w) ≡ Some m → w ≤ 18446744073709551615
  stamp_word k w m e = go (record_at s.records k w) refl
    where
      go : (o : Option (Record V)) → record_at s.records k w ≡ o → w ≤ 18446744073709551615
      go None p = absurd (grind arith)
      go (Some r) p = let M = S.tables.stamp_commit k w m r.value e (ap record_value p) in let a = commit_word M.commit M.among in omega (arith, M.version_is)

  pub write_sound : (id k : ℕ) (x : V) (ks : List ℕ) (n : ℕ) → look_up s.rows id ≡ Some (transaction Open ks n) → s.fence ≤ id → (greatest_stamped k s.records).0 ≤ id
      → Sound (with_rows (enter id (transaction Open (with_key k ks) n) s.rows) (with_records (put (record_of k id None x) s.records) s)) (with_effect (wrote id k x) h)
  write_sound id k x ks n at fe tp =
      let l = put (record_of k id None x) s.records in
      let s₁ = with_records l s in
      let r = transaction Open (with_key k ks) n in
      let s₂ = with_rows (enter id r s.rows) s₁ in
      record {
        time = write_time s₂ h (row_time s₁ h S.time id r (ap is_there at) (λ c e. absurd (grind arith))) id k x (grind (arith, enter_says id r s.rows id));
        tables = write_tables s h S.time S.tables id k x ks n at;
        order = write_order s₁ h S.order id k ks n at (λ d y m f e. by_fast_call d y m f e (S.tables.kept d k y m e));
        reading = row_reading s₁ h S.reading id r refl;
      }
    where
      -- a fast commit on the key is stamped, or under a stamped number
      by_fast_call : (d : Commit V) (y : V) → In d h.commits → d.fast ≡ true → d.values k ≡ Some y → Kept s.records s.entries s.floor k d.version d.number y → d.number ≤ id
      by_fast_call d y m f e (by_stamp a b) = let g = top_over s.records k d.version d.number (commit_word d m) a in omega arith
      by_fast_call d y m f e (by_entry a b) =
          let i : is_there (look_up s.rows d.version) ≡ true = seal_row (look_up s.rows d.version) d.number (S.tables.sealing d.version ∙ b) in
          let p = S.time.by_fast_call d m f in
          absurd (p.1 (ap (λ n. n % U) (sym p.0) ∙ (S.time.begun d.version (S.time.rows_begun d.version i)).0))
      by_fast_call d y m f e (hidden w v a b c) = let g = top_over s.records k w v (stamp_word k w v a) a in omega arith

  pub settle_sound : (id c : ℕ) (ks : List ℕ) (n : ℕ) → look_up s.rows id ≡ Some (transaction (Validated c) ks n) → s.fence ≤ id → is_aborted (look_up s.entries id) ≡ false
      → Sound (settled id c ks n (enter id (Committed c) s.entries) s).0 (with_effect (settled_at id c) h)
  settle_sound id c ks n at fe na =
      let l = enter id (Committed c) s.entries in
      let r = transaction (Settled c) ks n in
      let s₁ = with_entries l s in
      let num = S.time.numbers id c (ap row_number at) in
      record {
        time = commit_time (settled id c ks n (enter id (Committed c) s.entries) s).0 h (row_time s₁ h S.time id r (ap is_there at) (λ d e. S.time.numbers id d (ap row_number at ∙ e))) (settled_commit id c (h.writes id))
            (num.1, omega arith, omega arith) (λ f. (refl, num.0, S.time.rows_begun id (ap is_there at))) (λ f. absurd (grind arith));
        tables = settle_tables s h S.time S.tables id c ks n at fe;
        order = settle_order s h S.time S.tables S.order id c ks n at fe na;
        reading = settle_reading s h S.tables S.reading id c ks n at fe na;
      }

  module _ (n k : ℕ) (x : V) (F : Fast n k s) where
    less : next_number k s < bound s
    less = let a = S.time.classes k in let b = bound_step s in let c = F.number_left in grind (arith, a, b, c)

    free : record_at s.records k (next_number k s) ≡ None
    free = go (kinds (record_at s.records k (next_number k s)))
      where
        go : ((record_at s.records k (next_number k s) ≡ None) × (record_value (record_at s.records k (next_number k s)) ≡ None) × (pending_value (record_at s.records k (next_number k s)) ≡ None) × (record_number (record_at s.records k (next_number k s)) ≡ None))
            ⊎ (((y : V) × (record_value (record_at s.records k (next_number k s)) ≡ Some y) × (pending_value (record_at s.records k (next_number k s)) ≡ Some y) × (record_number (record_at s.records k (next_number k s)) ≡ None))
            ⊎ ((y : V) × (m : ℕ) × (record_value (record_at s.records k (next_number k s)) ≡ Some y) × (pending_value (record_at s.records k (next_number k s)) ≡ None) × (record_number (record_at s.records k (next_number k s)) ≡ Some m)))
            → record_at s.records k (next_number k s) ≡ None
        go (inl p) = p.0
        go (inr (inl p)) = absurd (grind (arith, pending_none s.records k (next_number k s) (word (next_number k s) less) F.none_pending))
        go (inr (inr p)) =
            let M = S.tables.stamp_commit k (next_number k s) p.1 p.0 p.4 p.2 in
            let a = S.tables.stamp_class k (next_number k s) p.1 p.4 in
            let b = S.time.commits M.commit M.among in
            absurd (omega (arith, M.version_is, M.number_is))

    greater_of : (d : Commit V) (y : V) → In d h.commits → d.values k ≡ Some y → (d.number < next_number k s) × (d.number ≤ n)
    greater_of d y m e = go (S.tables.kept d k y m e)
      where
        stamped_under : (v a : ℕ) → record_number (record_at s.records k v) ≡ Some a → (a < next_number k s) × (a ≤ n)
        stamped_under v a e = let p = S.tables.stamp_class k v a e in let q = top_over s.records k v a (stamp_word k v a e) e in (omega arith, omega (arith, F.newest_known))

        go : Kept s.records s.entries s.floor k d.version d.number y → (d.number < next_number k s) × (d.number ≤ n)
        go (by_stamp a b) = stamped_under d.version d.number a
        go (by_entry a b) = absurd (grind (arith, pending_none s.records k d.version (commit_word d m) F.none_pending))
        go (hidden w v a b c) = let p = stamped_under w v a in (omega arith, omega arith)

    rowless : (i : ℕ) → settled_number (look_up s.rows i) ≡ None → s.fence ≤ i → has_key (look_up s.rows i) k ≡ true → ⊥
    rowless i e l y =
        let p : is_there (pending_value (record_at s.records k i)) ≡ true = S.tables.held i k e (omega (arith, S.time.floor_fence)) y in
        grind (arith, pending_none s.records k i (row_word i (key_row (look_up s.rows i) k y)) F.none_pending)

    pub fast_sound : Sound (fast_state k x s) (with_effect (fast_committed n (next_number k s) k x) h)
    fast_sound =
        let f = next_number k s in
        let l = put (record_of k f (Some f) x) s.records in
        let s₁ = raise_class_of k f s in
        let W = class_sound s h S k f less in
        let s₂ = with_records l s₁ in
        record {
          time = commit_time s₂ h W.time (fast_commit n f k x) (less, omega arith, omega arith) (λ e. absurd (grind arith)) (λ e. (refl, F.number_left));
          tables = fast_tables s₁ h W.time W.tables n k f x F.number_left (class_says k f s.classes k S.time.sixty_four).1 free;
          order = fast_order s₂ h W.order n k f x greater_of rowless;
          reading = fast_reading s₂ h W.reading n k f x (λ r m e. let a = S.reading.class_over r m in let b : class_number s.classes r.key ≡ class_number s.classes k = ap (class_number s.classes) e in omega arith);
        }
