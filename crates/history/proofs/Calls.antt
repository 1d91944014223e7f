-- Every call keeps what is sound, and what is sound obeys the law.
use Rattle.std.proofs.Common.{◌≡◌, ℕ, ◌*◌, ◌<◌, ◌≤◌, Bool, true, false, ◌||◌, eqb, List, [], ◌∷◌, drop, Some, None, Option, sym, refl, ap, ◌∙◌, arith}
use Rattle.std.proofs.lemmas.Bool.Decides.{nat_tests}
use Rattle.model.specs.declared.words.Record.{Record}
use Rattle.model.specs.declared.words.CommitEntry.{CommitEntry}
use Rattle.model.specs.declared.words.CommitEntry.TheVariants.{Committed, Aborted}
use Rattle.model.specs.declared.words.Phase.TheVariants.{Open, Settled}
use Rattle.model.specs.Numbers.{U}
use Rattle.model.specs.Maps.{is_there, look_up}
use Rattle.model.specs.Records.{record_of, record_at, mark}
use Rattle.model.specs.Versions.{versions_down}
use Rattle.model.specs.Classes.{class_number, raise_class}
use Rattle.model.specs.Transactions.{member, Transaction, transaction}
use Rattle.model.specs.Managers.{Seat, conflict_capacity}
use Rattle.model.specs.State.{State, raise_class_of}
use Rattle.model.specs.Stamping.{stamp_record, stamp_records}
use Rattle.model.specs.Managing.{charge_clock, clock_of}
use Rattle.history.specs.Past.{AnsweredRead, read_answered, effect}
use Rattle.history.proofs.Summaries.{Summary, with_effect}
use Rattle.model.proofs.Parts.{settled_number, has_key, committed_number, clock_at, pending_value, record_number, record_value}
use Rattle.history.proofs.Facts.{bound_of, bound, Sound}
use Rattle.model.proofs.LookUps.{mark_says, marked_says}
use Rattle.model.proofs.VersionLists.{class_says}
use Rattle.model.specs.declared.call.Call.{Call}
use Rattle.model.specs.declared.call.Call.TheVariants.{Read}
use Rattle.model.specs.declared.call.Answer.{Answer}
use Rattle.model.specs.declared.call.Answer.TheVariants.{Denied, Number, Value, Newest}
use Rattle.model.proofs.View.{View, Walk, v_denied, v_takeover, v_begin, v_write, v_own, v_read, v_validate, v_settle, v_settle_again, v_stamp_none, v_stamp_last, v_stamp_more, v_abandon, v_bury, v_bury_settled, v_raise, v_sweep, v_fast_read, v_fast_change, v_fast_write}
use Rattle.history.proofs.TimeKept.{read_time}
use Rattle.history.proofs.ReadingKept.{read_reading}
use Rattle.history.proofs.Changes.{class_sound, mark_sound, advance_sound, close_sound, abandon_sound, raise_sound, take_sound, begin_sound, validate_sound, write_sound, settle_sound, fast_sound, sweeps_sound}
use Rattle.history.proofs.Walks.{Seen, walk_sound, walk_seen, walk_ends, starts, starts_desc}

module _ {V : Type 0} where
  -- the entry of a settled row
  settled_entry : (s : State V) (h : Summary V) → Sound s h → (id c : ℕ) (ks : List ℕ) (n : ℕ) → look_up s.rows id ≡ Some (transaction (Settled c) ks n) → look_up s.entries id ≡ Some (Committed c)
  settled_entry s h S id c ks n at = go (look_up s.entries id) (sym (ap settled_number at) ∙ S.tables.sealing id)
    where
      go : (e : Option CommitEntry) → Some c ≡ committed_number e → e ≡ Some (Committed c)
      go None f = absurd (grind arith)
      go (Some Aborted) f = absurd (grind arith)
      go (Some (Committed d)) f = let q : c ≡ d = cc in ap (λ n. Some (Committed n)) (sym q)

  -- what is stamped is not pending
  marked_here : (k v n : ℕ) (l : List (Record V)) → pending_value (record_at (mark k v n l) k v) ≡ None
  marked_here k v n l = grind (arith, mark_says k v n l k v, marked_says n (record_at l k v))

  mark_keeps : (k v n : ℕ) (l : List (Record V)) (q : ℕ) → pending_value (record_at l q v) ≡ None → pending_value (record_at (mark k v n l) q v) ≡ None
  mark_keeps k v n l q e = grind (arith, mark_says k v n l q v, marked_says n (record_at l q v))

  -- what stamping the keys of a settled row does
  pub record Stamped (s t : State V) (h : Summary V) (id : ℕ) (ks : List ℕ) : Type 0 where
    pub sound : Sound t h
    pub rows : look_up t.rows id ≡ look_up s.rows id
    pub entries : look_up t.entries id ≡ look_up s.entries id
    pub kept : (q : ℕ) → pending_value (record_at s.records q id) ≡ None → pending_value (record_at t.records q id) ≡ None
    pub gone : (q : ℕ) → member q ks ≡ true → pending_value (record_at t.records q id) ≡ None

  stamp_keys : (h : Summary V) (id c : ℕ) (ks : List ℕ) (s : State V) → Sound s h → look_up s.entries id ≡ Some (Committed c) → Stamped s (stamp_records id c ks s) h id ks
  unfolding stamp_records
  stamp_keys h id c [] s S e = record { sound = S; rows = refl; entries = refl; kept = λ q p. p; gone = λ q m. absurd (grind arith) }
  stamp_keys h id c (k ∷ ks) s S e =
      let Z = stamp_keys h id c ks (stamp_record k id c s) (mark_sound s h S k id c e) e in
      record {
        sound = Z.sound;
        rows = Z.rows;
        entries = Z.entries;
        kept = λ q p. Z.kept q (mark_keeps k id c s.records q p);
        gone = λ q m. pick q (Z.gone q) (Z.kept q) (eqb q k) refl m;
      }
    where
      t : State V
      t = stamp_records id c ks (stamp_record k id c s)

      pick : (q : ℕ) → (member q ks ≡ true → pending_value (record_at (stamp_records id c ks (stamp_record k id c s)).records q id) ≡ None)
          → (pending_value (record_at (mark k id c s.records) q id) ≡ None → pending_value (record_at (stamp_records id c ks (stamp_record k id c s)).records q id) ≡ None)
          → (b : Bool) → eqb q k ≡ b → (b || member q ks) ≡ true → pending_value (record_at (stamp_records id c ks (stamp_record k id c s)).records q id) ≡ None
      pick q f g true i m = g (let j : q ≡ k = grind (arith, nat_tests) in rw j (marked_here k id c s.records))
      pick q f g false i m = f m

  -- a reader's id is below the bound
  row_bound : (s : State V) (h : Summary V) → Sound s h → (id : ℕ) (r : Transaction) → look_up s.rows id ≡ Some r → id < bound s
  row_bound s h S id r at = (S.time.begun id (S.time.rows_begun id (ap is_there at))).1

  -- a read that is told
  told : (t : State V) (h : Summary V) (id k : ℕ) (o : Option V) → Sound t h → id < bound t → id ≤ class_number t.classes k → ((x : V) → h.writes id k ≡ Some x → o ≡ Some x) → (h.writes id k ≡ None → Seen t h id k o)
      → Sound t (with_effect (read_answered id k o) h)
  told t h id k o S l c own seen =
      let r : AnsweredRead V = record { id = id; key = k; own = h.writes id k; answer = o } in
      record {
        time = read_time t h S.time r l;
        tables = S.tables;
        order = S.order;
        reading = read_reading t h S.reading r c own (λ e. (seen e).good) (λ j n e a b f g. (seen e).blocks j n a b f g);
      }

  -- its own record answers what the id wrote last
  own_value : (s : State V) (h : Summary V) → Sound s h → (id k : ℕ) (ks : List ℕ) (n : ℕ) (x : V) → look_up s.rows id ≡ Some (transaction Open ks n) → record_value (record_at s.records k id) ≡ Some x → h.writes id k ≡ Some x
  own_value s h S id k ks n x at e = go (record_at s.records k id) refl e
    where
      num : (r : Record V) (o : Option ℕ) → record_at s.records k id ≡ Some (record_of r.key r.version o r.value) → r.value ≡ x → h.writes id k ≡ Some x
      num r None p q = (S.tables.pending k id x (ap pending_value p ∙ ap Some q)).1
      num r (Some m) p q =
          let M = S.tables.stamp_commit k id m x (ap record_number p) e in
          absurd (S.tables.uncommitted id M.commit (ap is_there at) (ap settled_number at) M.among M.version_is)

      go : (o : Option (Record V)) → record_at s.records k id ≡ o → record_value o ≡ Some x → h.writes id k ≡ Some x
      go None p q = absurd (grind arith)
      go (Some r) p q = let i : r.value ≡ x = cc in num r r.number p i

  -- where an open row above the floor wrote, its record stands
  own_record : (s : State V) (h : Summary V) → Sound s h → (id k : ℕ) (ks : List ℕ) (n : ℕ) (x : V) → look_up s.rows id ≡ Some (transaction Open ks n) → s.floor ≤ id → record_at s.records k id ≡ None → h.writes id k ≡ Some x → ⊥
  own_record s h S id k ks n x at fl e w =
      let y : has_key (look_up s.rows id) k ≡ true = S.tables.keyed id k (ap is_there at) ∙ ap is_there w in
      let p : is_there (pending_value (record_at s.records k id)) ≡ true = S.tables.held id k (ap settled_number at) fl y in
      grind arith

  class_here : (s : State V) (h : Summary V) → Sound s h → (k n : ℕ) → n ≤ class_number (raise_class k n s.classes) k
  class_here s h S k n = (class_says k n s.classes k S.time.sixty_four).1

  -- a read down the versions
  read_sound : (s : State V) (h : Summary V) → Sound s h → (id k : ℕ) (ks : List ℕ) (n : ℕ) → look_up s.rows id ≡ Some (transaction Open ks n) → s.floor ≤ id → record_at s.records k id ≡ None
      → (t : State V) (a : Answer V) → Walk id k (versions_down s.records k id []) s t a → Sound t (with_effect (effect (Read id k) a) h)
  read_sound s h S id k ks n at fl no_rec t (Denied w) W = walk_sound h id k _ s t (Denied w) W S (row_bound s h S id _ at)
  read_sound s h S id k ks n at fl no_rec t (Number m) W = walk_sound h id k _ s t (Number m) W S (row_bound s h S id _ at)
  read_sound s h S id k ks n at fl no_rec t (Newest m o) W = walk_sound h id k _ s t (Newest m o) W S (row_bound s h S id _ at)
  read_sound s h S id k ks n at fl no_rec t (Value o) W =
      let vs = versions_down s.records k id [] in
      let l = row_bound s h S id (transaction Open ks n) at in
      told t h id k o (walk_sound h id k vs s t (Value o) W S l) (let z = walk_ends h id k vs s t (Value o) W S o refl in omega (arith, l)) (walk_ends h id k vs s t (Value o) W S o refl).0
      (λ x e. absurd (own_record s h S id k ks n x at fl no_rec e))
      (λ e. walk_seen h id k vs s t (Value o) W S fl (starts_desc s h S id k) (starts s h S id k) o refl)

  pub view_sound : (s t : State V) (h : Summary V) (c : Call V) (a : Answer V) → View s c t a → Sound s h → Sound t (with_effect (effect c a) h)
  view_sound s _ h c _ (v_denied w) S = S
  view_sound s _ h _ _ (v_takeover q fits) S = take_sound s h S q fits
  view_sound s _ h _ _ (v_begin q t c u at z) S = begin_sound s h S q t c u at z
  view_sound s _ h _ _ (v_write id k x ks n at fe tp) S = write_sound s h S id k x ks n at fe tp
  view_sound s _ h _ _ (v_own id k ks n x at fl e) S =
      let l = row_bound s h S id (transaction Open ks n) at in
      let w = own_value s h S id k ks n x at e in
      told (raise_class_of k id s) h id k (Some x) (class_sound s h S k id l) l (class_here s h S k id) (λ y f. sym w ∙ f) (λ f. absurd (grind arith))
  view_sound s t h _ a (v_read id k ks n at fl e w) S = read_sound s h S id k ks n at fl e t a w
  view_sound s _ h _ _ (v_validate id q ks n t c u at fe sq lt lo cf z) S = validate_sound s h S q t c u sq z id ks n at fe lt lo cf (conflict_capacity q s.opening)
  view_sound s _ h _ _ (v_settle id c ks n at fe na) S = settle_sound s h S id c ks n at fe na
  view_sound s _ h _ _ (v_settle_again id c ks n m at e) S = let i : None ≡ Some m = sym (ap settled_number at) ∙ S.tables.sealing id ∙ ap committed_number e in absurd (grind arith)
  view_sound s _ h _ _ (v_stamp_none id c ks n at e) S = close_sound s h S id c ks n at (λ k m. absurd (grind (arith, ap (member k) e)))
  view_sound s _ h _ _ (v_stamp_last id c ks n k at e) S =
      close_sound (stamp_record k id c s) h (mark_sound s h S k id c (settled_entry s h S id c ks n at)) id c ks n at
      (λ q m. last q (ap (member q) (sym e) ∙ m))
    where
      last : (q : ℕ) → member q (k ∷ []) ≡ true → pending_value (record_at (mark k id c s.records) q id) ≡ None
      last q m = let j : q ≡ k = grind (arith, nat_tests) in rw j (marked_here k id c s.records)
  view_sound s _ h _ _ (v_stamp_more id c ks n k l ls at e) S =
      advance_sound (stamp_record k id c s) h (mark_sound s h S k id c (settled_entry s h S id c ks n at)) id c ks n k (l ∷ ls) at e (marked_here k id c s.records)
  view_sound s _ h _ _ (v_abandon id p ks n m at un) S = abandon_sound s h S id p ks n at un
  view_sound s _ h _ _ (v_bury id p ks n m at un) S = abandon_sound s h S id p ks n at un
  view_sound s _ h _ _ (v_bury_settled id c ks n m at) S =
      let Z = stamp_keys h id c (drop n ks) s S (settled_entry s h S id c ks n at) in
      close_sound (stamp_records id c (drop n ks) s) h Z.sound id c ks n (Z.rows ∙ at) Z.gone
  view_sound s _ h _ _ (v_raise g l) S = raise_sound s h S g (up s.in_charge l)
    where
      up : (o : Option ℕ) → g ≤ charge_clock o s.seats * U → g ≤ bound_of o s.seats s.cell
      up None l = omega arith
      up (Some q) l = seat (look_up s.seats q) l
        where
          seat : (o : Option Seat) → g ≤ clock_of o * U → g ≤ clock_at o * U
          seat None l = l
          seat (Some t) l = l
  view_sound s _ h _ _ (v_sweep k m t u b c) S = sweeps_sound k t u h c (sweeps_sound k s t h b S)
  view_sound s _ h _ _ (v_fast_read k n o) S = S
  view_sound s _ h _ _ (v_fast_change n k x F) S = fast_sound s h S n k x F
  view_sound s _ h _ _ (v_fast_write k x F) S = fast_sound s h S 18446744073709551615 k x F
