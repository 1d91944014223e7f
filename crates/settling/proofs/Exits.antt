-- What the reference step gives on each way through settle and stamp.
use Rattle.std.proofs.Common.{◌≡◌, ℕ, suc, ◌+◌, ◌-◌, ◌<◌, ◌≤◌, Bool, true, false, cond, ltb, leb, List, [], ◌∷◌, length, get_or, drop, Some, None, Ok, Err, Option, Result, sym, refl, ap, ◌∙◌, arith}
use Rattle.std.proofs.lemmas.Bool.{lt-ltb, le-ltb, le-leb, lt-leb, ltb-true, ltb-false}
use Rattle.model.specs.declared.words.CommitEntry.{CommitEntry}
use Rattle.model.specs.declared.words.CommitEntry.TheVariants.{Committed, Aborted}
use Rattle.model.specs.declared.words.Phase.{Phase}
use Rattle.model.specs.declared.words.Phase.TheVariants.{Open, Validated, Settled}
use Rattle.model.specs.declared.refusal.Refusal.{Refusal}
use Rattle.model.specs.declared.refusal.Refusal.TheVariants.{NoRow, WrongPhase, Fenced, EntriesFull, EntryAborted}
use Rattle.model.specs.declared.call.Call.TheVariants.{Settle, Stamp}
use Rattle.model.specs.declared.call.Answer.{Answer}
use Rattle.model.specs.declared.call.Answer.TheVariants.{Denied, Number}
use Rattle.model.specs.Maps.{look_up, enter}
use Rattle.model.specs.Transactions.{transaction}
use Rattle.model.specs.State.{State, with_rows}
use Rattle.model.specs.Stamping.{stamp_record, row_gone}
use Rattle.model.specs.Settling.{settled, settle_at, settle_in, settle_if, stamp_at, stamp_in, stamp_left}
use Rattle.model.specs.Step.{step}
use Rattle.settling.specs.Committing.{Committing, committing, commit_at}

-- a refused commit entry leaves the entries as they were
pub denied_left : (n id c : ℕ) (l l' : List (ℕ × CommitEntry)) (w : Refusal) (o : Option CommitEntry) → committing (Err w) l' ≡ commit_at n id c l o → l' ≡ l
denied_left n id c l l' w (Some Aborted) z = ap (λ (m : Committing). m.left) z
denied_left n id c l l' w (Some (Committed m)) z = absurd (let y = ap (λ (m : Committing). m.answer) z in let o : ◌≡◌ {A = ℕ} 0 1 = cc in omega arith)
denied_left n id c l l' w None z = go (ltb (length l) n) z
  where
    go : (b : Bool) → committing (Err w) l' ≡ cond b (committing (Ok tt) (enter id (Committed c) l)) (committing (Err (EntriesFull id)) l) → l' ≡ l
    go true z = absurd (let y = ap (λ (m : Committing). m.answer) z in let o : ◌≡◌ {A = ℕ} 0 1 = cc in omega arith)
    go false z = ap (λ (m : Committing). m.left) z

module _ {V : Type 0} (s : State V) (id : ℕ) where
  pub settle_no_row : look_up s.rows id ≡ None → step s (Settle id) ≡ (s, Denied (NoRow id))
  unfolding step settle_at
  settle_no_row e = rw e refl

  pub stamp_no_row : look_up s.rows id ≡ None → step s (Stamp id) ≡ (s, Denied (NoRow id))
  unfolding step stamp_at
  stamp_no_row e = rw e refl

  module _ (p : Phase) (ks : List ℕ) (n : ℕ) (e : look_up s.rows id ≡ Some (transaction p ks n)) where
    -- every phase but validated
    pub settle_phase : ((c : ℕ) → p ≡ Validated c → ⊥) → step s (Settle id) ≡ (s, Denied (WrongPhase id))
    unfolding step settle_at settle_in
    settle_phase h = rw e (go p h)
      where
        go : (p : Phase) → ((c : ℕ) → p ≡ Validated c → ⊥) → settle_in id s p ks n ≡ (s, Denied (WrongPhase id))
        go Open h = refl
        go (Validated c) h = absurd (h c refl)
        go (Settled c) h = refl

    -- every phase but settled
    pub stamp_phase : ((c : ℕ) → p ≡ Settled c → ⊥) → step s (Stamp id) ≡ (s, Denied (WrongPhase id))
    unfolding step stamp_at stamp_in
    stamp_phase h = rw e (go p h)
      where
        go : (p : Phase) → ((c : ℕ) → p ≡ Settled c → ⊥) → stamp_in id s p ks n ≡ (s, Denied (WrongPhase id))
        go Open h = refl
        go (Validated c) h = refl
        go (Settled c) h = absurd (h c refl)

    module _ (c : ℕ) (h : p ≡ Validated c) where
      pub settle_fenced : id < s.fence → step s (Settle id) ≡ (s, Denied (Fenced id))
      unfolding step settle_at settle_in settle_if
      settle_fenced l = rw (e, h, lt-ltb id s.fence l) refl

      settles : s.fence ≤ id → step s (Settle id) ≡ settle_if id c ks n s false (look_up s.entries id) (leb s.opening.entries (length s.entries))
      unfolding step settle_at settle_in
      settles l = rw (e, h, le-ltb id s.fence l) refl

      -- the entries l' are those that placing the commit entry left
      module _ (f : s.fence ≤ id) (l' : List (ℕ × CommitEntry)) where
        abbrev after : Option CommitEntry → Committing
        after o = commit_at s.opening.entries id c s.entries o

        pub settle_done : committing (Ok tt) l' ≡ after (look_up s.entries id) → step s (Settle id) ≡ settled id c ks n l' s
        unfolding settle_if
        settle_done z = settles f ∙ go (look_up s.entries id) z
          where
            room : (b : Bool) → ltb (length s.entries) s.opening.entries ≡ b → committing (Ok tt) l' ≡ cond b (committing (Ok tt) (enter id (Committed c) s.entries)) (committing (Err (EntriesFull id)) s.entries) →
                settle_if id c ks n s false None (leb s.opening.entries (length s.entries)) ≡ settled id c ks n l' s
            room true q z =
                rw (lt-leb s.opening.entries (length s.entries) (ltb-true (length s.entries) s.opening.entries q)) (ap (λ es. settled id c ks n es s) (sym (ap (λ (m : Committing). m.left) z)))
            room false q z = absurd (let y = ap (λ (m : Committing). m.answer) z in let o : ◌≡◌ {A = ℕ} 0 1 = cc in omega arith)

            go : (o : Option CommitEntry) → committing (Ok tt) l' ≡ after o → settle_if id c ks n s false o (leb s.opening.entries (length s.entries)) ≡ settled id c ks n l' s
            go (Some Aborted) z = absurd (let y = ap (λ (m : Committing). m.answer) z in let o : ◌≡◌ {A = ℕ} 0 1 = cc in omega arith)
            go (Some (Committed m)) z = ap (λ es. settled id c ks n es s) (sym (ap (λ (m : Committing). m.left) z))
            go None z = room (ltb (length s.entries) s.opening.entries) refl z

        pub settle_denied : (w : Refusal) → committing (Err w) l' ≡ after (look_up s.entries id) → step s (Settle id) ≡ (s, Denied w)
        unfolding settle_if
        settle_denied w z = settles f ∙ go (look_up s.entries id) z
          where
            says : (v : Refusal) → ◌≡◌ {A = Result (Unit {0}) Refusal} (Err w) (Err v) → ◌≡◌ {A = State V × Answer V} (s, Denied v) (s, Denied w)
            says v y = let q : w ≡ v = cc in ap (λ r. (s, Denied r)) (sym q)

            room : (b : Bool) → ltb (length s.entries) s.opening.entries ≡ b → committing (Err w) l' ≡ cond b (committing (Ok tt) (enter id (Committed c) s.entries)) (committing (Err (EntriesFull id)) s.entries) →
                settle_if id c ks n s false None (leb s.opening.entries (length s.entries)) ≡ (s, Denied w)
            room true q z = absurd (let y = ap (λ (m : Committing). m.answer) z in let o : ◌≡◌ {A = ℕ} 0 1 = cc in omega arith)
            room false q z = rw (le-leb s.opening.entries (length s.entries) (ltb-false (length s.entries) s.opening.entries q)) (says (EntriesFull id) (ap (λ (m : Committing). m.answer) z))

            go : (o : Option CommitEntry) → committing (Err w) l' ≡ after o → settle_if id c ks n s false o (leb s.opening.entries (length s.entries)) ≡ (s, Denied w)
            go (Some Aborted) z = says (EntryAborted id) (ap (λ (m : Committing). m.answer) z)
            go (Some (Committed m)) z = absurd (let y = ap (λ (m : Committing). m.answer) z in let o : ◌≡◌ {A = ℕ} 0 1 = cc in omega arith)
            go None z = room (ltb (length s.entries) s.opening.entries) refl z

    module _ (c : ℕ) (h : p ≡ Settled c) where
      at_left : (l : List ℕ) → l ≡ drop n ks → step s (Stamp id) ≡ stamp_left id c ks n s l
      unfolding step stamp_at stamp_in
      at_left l q = rw (e, h, q) refl

      pub stamp_none : (l : List ℕ) → l ≡ drop n ks → length l ≡ 0 → step s (Stamp id) ≡ (row_gone id s, Number 0)
      unfolding stamp_left
      stamp_none [] q z = at_left [] q
      stamp_none (k ∷ l) q z = absurd (omega arith)

      pub stamp_last : (l : List ℕ) → l ≡ drop n ks → length l ≡ 1 → step s (Stamp id) ≡ (row_gone id (stamp_record (get_or l 0 0) id c s), Number 0)
      unfolding stamp_left
      stamp_last [] q z = absurd (omega arith)
      stamp_last (k ∷ []) q z = at_left (k ∷ []) q
      stamp_last (k ∷ (i ∷ l)) q z = absurd (omega arith)

      pub stamp_more : (l : List ℕ) → l ≡ drop n ks → 1 < length l → step s (Stamp id) ≡ (with_rows (enter id (transaction (Settled c) ks (n + 1)) s.rows) (stamp_record (get_or l 0 0) id c s), Number (length l - 1))
      unfolding stamp_left
      stamp_more [] q z = absurd (omega arith)
      stamp_more (k ∷ []) q z = absurd (omega arith)
      stamp_more (k ∷ (i ∷ l)) q z =
          let w : suc n ≡ n + 1 = omega arith in
          let v : suc (length l) ≡ length (k ∷ i ∷ l) - 1 = omega arith in
          let f : ℕ → ℕ → State V × Answer V = λ b d. (with_rows (enter id (transaction (Settled c) ks b) s.rows) (stamp_record k id c s), Number d) in
          at_left (k ∷ i ∷ l) q ∙ (ap (λ b. f b (suc (length l))) w ∙ ap (λ d. f (n + 1) d) v)
