-- What follows from the history law.
use Rattle.std.proofs.Common.{◌≡◌, ℕ, ◌<◌, ◌≤◌, Bool, true, false, cond, ◌&&◌, eqb, List, [], ◌∷◌, ◌++◌, length, Some, None, Ok, Option, sym, refl, ap, ◌∙◌, subst, inl, inr, arith}
use Rattle.std.proofs.lemmas.Bool.Decides.{nat_tests}
use Rattle.model.specs.declared.words.CommitEntry.{CommitEntry}
use Rattle.model.specs.declared.words.CommitEntry.TheVariants.{Committed, Aborted}
use Rattle.model.specs.declared.call.Opening.{Opening}
use Rattle.model.specs.declared.call.Call.{Call}
use Rattle.model.specs.declared.call.Call.TheVariants.{Begin, Read}
use Rattle.model.specs.declared.call.Answer.TheVariants.{Number, Value}
use Rattle.model.specs.Maps.{is_there, look_up}
use Rattle.model.specs.Transactions.{Transaction}
use Rattle.model.specs.State.{State, fresh, opened}
use Rattle.model.specs.Step.{step}
use Rattle.model.specs.After.{after}
use Rattle.model.proofs.Maps.{no_more}
use Rattle.model.proofs.MapsKept.{OrderedMaps, after_maps}
use Rattle.model.proofs.Opened.{opens}
use Rattle.model.proofs.Parts.{committed_number, is_aborted}
use Rattle.model.proofs.View.{step_view}
use Rattle.history.specs.Past.{Past, answered, Effect, began, wrote, read_answered, settled_at, fast_committed, no_effect, effect, Commit, AnsweredRead, Summary, with_effect, empty_summary, summary_from, summary, commits_of, reads_of, In}
use Rattle.history.specs.Keys.{or_else, holds, below}
use Rattle.history.specs.Law.{Law, Ordered, past_of}
use Rattle.history.specs.Consequences.{NoWrite, Unwritten, numbers_on, Distinct}
use Rattle.history.proofs.Summaries as full
use Rattle.history.proofs.Facts.{Sound}
use Rattle.history.proofs.TablesKept.{seal_row}
use Rattle.history.proofs.Holding.{holds_greatest, below_in, in_below, ordered_below}
use Rattle.history.proofs.Theorem.{after_sound, opened_sound, new_reader, history}

fresh_maps : (V : Type 0) (z : Opening) → OrderedMaps {V = V} (fresh z)
unfolding fresh
fresh_maps V z = (tt, tt)

module _ {V : Type 0} where
  -- what one part of a past says after another
  from_append : (h : Summary V) (p q : Past V) → summary_from h (p ++ q) ≡ summary_from (summary_from h p) q
  from_append h [] q = refl
  from_append h (answered c a ∷ p) q = from_append (with_effect (effect c a) h) p q

  past_append : (s : State V) (xs ys : List (Call V)) → past_of s (xs ++ ys) ≡ past_of s xs ++ past_of (after s xs) ys
  past_append s [] ys = refl
  past_append s (c ∷ xs) ys = ap (λ p. answered c (step s c).1 ∷ p) (past_append (step s c).0 xs ys)

  -- a read and a commit that are told stay told
  read_kept : (r : AnsweredRead V) (e : Effect V) (h : Summary V) → In r h.reads → In r (with_effect e h).reads
  read_kept r (began i) h m = m
  read_kept r (wrote i k x) h m = m
  read_kept r (read_answered i k o) h m = inr m
  read_kept r (settled_at i c) h m = m
  read_kept r (fast_committed n f k x) h m = m
  read_kept r no_effect h m = m

  read_stays : (r : AnsweredRead V) (p : Past V) (h : Summary V) → In r h.reads → In r (summary_from h p).reads
  read_stays r [] h m = m
  read_stays r (answered c a ∷ p) h m = read_stays r p (with_effect (effect c a) h) (read_kept r (effect c a) h m)

  commit_kept : (d : Commit V) (e : Effect V) (h : Summary V) → In d h.commits → In d (with_effect e h).commits
  commit_kept d (began i) h m = m
  commit_kept d (wrote i k x) h m = m
  commit_kept d (read_answered i k o) h m = m
  commit_kept d (settled_at i c) h m = inr m
  commit_kept d (fast_committed n f k x) h m = inr m
  commit_kept d no_effect h m = m

  commit_stays : (d : Commit V) (p : Past V) (h : Summary V) → In d h.commits → In d (summary_from h p).commits
  commit_stays d [] h m = m
  commit_stays d (answered c a ∷ p) h m = commit_stays d p (with_effect (effect c a) h) (commit_kept d (effect c a) h m)

  -- without a write of id to k the last one is the same
  write_kept : (id k : ℕ) (e : Effect V) (h : Summary V) → NoWrite id k e → (with_effect e h).writes id k ≡ h.writes id k
  write_kept id k (began i) h n = refl
  write_kept id k (wrote i q x) h n = go (eqb id i && eqb k q) refl
    where
      go : (b : Bool) → (eqb id i && eqb k q) ≡ b → cond b (Some x) (h.writes id k) ≡ h.writes id k
      go true e = absurd (n (grind (arith, nat_tests)) (grind (arith, nat_tests)))
      go false e = refl
  write_kept id k (read_answered i q o) h n = refl
  write_kept id k (settled_at i c) h n = refl
  write_kept id k (fast_committed m f q x) h n = refl
  write_kept id k no_effect h n = refl

  write_stays : (id k : ℕ) (p : Past V) (h : Summary V) → Unwritten id k p → (summary_from h p).writes id k ≡ h.writes id k
  write_stays id k [] h n = refl
  write_stays id k (answered c a ∷ p) h n = write_stays id k p (with_effect (effect c a) h) n.1 ∙ write_kept id k (effect c a) h n.0

  pub repeatable : (before between rest : Past V) (id k : ℕ) (o u : Option V)
      → Law (before ++ (answered (Read id k) (Value o) ∷ (between ++ (answered (Read id k) (Value u) ∷ rest)))) → Unwritten id k between → o ≡ u
  repeatable before between rest id k o u L n =
      let h = summary before in
      let w = h.writes id k in
      let h₁ = with_effect (read_answered id k o) h in
      let h₂ = summary_from h₁ between in
      let tail = answered (Read id k) (Value u) ∷ rest in
      let whole = before ++ (answered (Read id k) (Value o) ∷ (between ++ tail)) in
      let first : AnsweredRead V = record { id = id; key = k; own = w; answer = o } in
      let second : AnsweredRead V = record { id = id; key = k; own = h₂.writes id k; answer = u } in
      let i : summary whole ≡ summary_from h₂ tail = from_append empty_summary before (answered (Read id k) (Value o) ∷ (between ++ tail)) ∙ from_append h₁ between tail in
      let a : In first (reads_of whole) = subst (λ (b : Summary V). In first b.reads) (sym i) (read_stays first tail h₂ (read_stays first between h₁ (inl refl))) in
      let b : In second (reads_of whole) = subst (λ (b : Summary V). In second b.reads) (sym i) (read_stays second rest (with_effect (read_answered id k u) h₂) (inl refl)) in
      let same : h₂.writes id k ≡ w = write_stays id k between h₁ n in
      L.snapshots first a ∙ (sym (ap (λ v. or_else v (holds (below id (commits_of whole)) k)) same) ∙ sym (L.snapshots second b))

  -- a number on k is a commit's
  record Holder (cs : List (Commit V)) (k n : ℕ) : Type 0 where
    commit : Commit V
    value : V
    among : In commit cs
    wrote_it : commit.values k ≡ Some value
    number_is : commit.number ≡ n

  holder : (k n : ℕ) (cs : List (Commit V)) → In n (numbers_on k cs) → Holder cs k n
  holder k n [] m = absurd m
  holder k n (c ∷ cs) m = go (holder k n cs) (c.values k) refl m
    where
      more : Holder cs k n → Holder (c ∷ cs) k n
      more H = record { commit = H.commit; value = H.value; among = inr H.among; wrote_it = H.wrote_it; number_is = H.number_is }

      go : (In n (numbers_on k cs) → Holder cs k n) → (o : Option V) → c.values k ≡ o → In n (cond (is_there o) (c.number ∷ numbers_on k cs) (numbers_on k cs)) → Holder (c ∷ cs) k n
      go f None e m = more (f m)
      go f (Some x) e (inl p) = record { commit = c; value = x; among = inl refl; wrote_it = e; number_is = p }
      go f (Some x) e (inr m) = more (f m)

  distinct : (k : ℕ) (cs : List (Commit V)) → Ordered cs → Distinct (numbers_on k cs)
  distinct k [] O = tt
  distinct k (c ∷ cs) O = go (distinct k cs O.1) (c.values k) refl
    where
      go : Distinct (numbers_on k cs) → (o : Option V) → c.values k ≡ o → Distinct (cond (is_there o) (c.number ∷ numbers_on k cs) (numbers_on k cs))
      go D None e = D
      go D (Some x) e = (λ m. let H = holder k c.number cs m in (O.0 H.commit H.among k x H.value e H.wrote_it).0 (sym H.number_is), D)

  pub numbers_once : (p : Past V) → Law p → (k : ℕ) → Distinct (numbers_on k (commits_of p))
  numbers_once p L k = distinct k (commits_of p) L.order

  pub lasting : (z : Opening) (m n : ℕ) (s : State V) → opened z m n ≡ Ok s → (before later : List (Call V)) (q id : ℕ)
      → (after s before).in_charge ≡ Some q → (step (after s before) (Begin q)).1 ≡ Number id
      → (c : Commit V) (k : ℕ) (x : V) → In c (commits_of (past_of s before)) → c.values k ≡ Some x
      → ((d : Commit V) (y : V) → In d (commits_of (past_of s (before ++ (Begin q ∷ later)))) → d.values k ≡ Some y → d.number < id → d.number ≤ c.number)
      → (r : AnsweredRead V) → In r (reads_of (past_of s (before ++ (Begin q ∷ later)))) → r.id ≡ id → r.key ≡ k → r.own ≡ None → r.answer ≡ Some x
  lasting z m n s e before later q id ch st c k x among wrote_it most r told rid rkey own =
      let t = after s before in
      let h = full.summary_from full.empty_summary (past_of s before) in
      let S = after_sound before s full.empty_summary (opened_sound z m n s e) in
      let N = new_reader q t (step t (Begin q)).0 h (step t (Begin q)).1 (step_view t (Begin q)) S ch id st in
      let i : commits_of (past_of s before) ≡ full.plains h.commits = ap (λ (b : Summary V). b.commits) (full.summary_is (past_of s before) full.empty_summary) in
      let F = full.from h.commits c (subst (λ l. In c l) i among) in
      let less : c.number < id = subst (λ (d : Commit V). d.number < id) F.same (N.all_below F.commit F.among) in
      let p = past_of s (before ++ (Begin q ∷ later)) in
      let j : summary p ≡ summary_from (summary (past_of s before)) (past_of t (Begin q ∷ later)) = ap summary (past_append s before (Begin q ∷ later)) ∙ from_append empty_summary (past_of s before) (past_of t (Begin q ∷ later)) in
      let here : In c (commits_of p) = subst (λ (b : Summary V). In c b.commits) (sym j) (commit_stays c (past_of t (Begin q ∷ later)) (summary (past_of s before)) among) in
      let L = (history z m n s e (before ++ (Begin q ∷ later))).law in
      let g : holds (below id (commits_of p)) k ≡ Some x = holds_greatest (below id (commits_of p)) k (Some x) (ordered_below id (commits_of p) L.order)
      (record { commit = c; among = in_below id (commits_of p) c here less; wrote_it = wrote_it; most = λ d y a w. let b = below_in id (commits_of p) d a in most d y b.0 w b.1 }) in
      L.snapshots r told ∙ (ap (λ v. or_else v (holds (below r.id (commits_of p)) r.key)) own ∙ (ap (λ v. holds (below v (commits_of p)) r.key) rid ∙ (ap (holds (below id (commits_of p))) rkey ∙ g)))

  -- an entry's id has a row
  entry_row : (s : State V) (h : full.Summary V) → Sound s h → (i : ℕ) → is_there (look_up s.entries i) ≡ true → is_there (look_up s.rows i) ≡ true
  entry_row s h S i t = go (look_up s.entries i) refl t
    where
      go : (o : Option CommitEntry) → look_up s.entries i ≡ o → is_there o ≡ true → is_there (look_up s.rows i) ≡ true
      go None e t = grind arith
      go (Some Aborted) e t = S.tables.aborted_row i (ap is_aborted e)
      go (Some (Committed n)) e t = seal_row (look_up s.rows i) n (S.tables.sealing i ∙ ap committed_number e)

  pub entries_within_rows : (z : Opening) (m n : ℕ) (s : State V) → opened z m n ≡ Ok s → (cs : List (Call V)) → length (after s cs).entries ≤ length (after s cs).rows
  entries_within_rows z m n s e cs =
      let t = after s cs in
      let O = after_maps cs s (subst (λ (t : State V). OrderedMaps t) (opens z m n s e).1 (fresh_maps V z)) in
      let S = after_sound cs s full.empty_summary (opened_sound z m n s e) in
      no_more CommitEntry Transaction t.rows t.entries O.1 O.0 (entry_row t (full.summary_from full.empty_summary (past_of s cs)) S)
