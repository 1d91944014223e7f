-- The bytes of a strip, before a call and after it.
use Rattle.std.proofs.Common.{◌≡◌, ℕ, suc, ◌+◌, ◌-◌, ◌*◌, ◌/◌, ◌<◌, ◌≤◌, List, [], ◌∷◌, ◌++◌, length, get_or, take, drop, set, replicate, All, None, sym, refl, ap, ◌∙◌, subst, arith}
use Rattle.std.specs.List.{copy_within}
use Rattle.std.proofs.Math.Seq.{split_at}
use Rattle.std.proofs.lemmas.List.{length-append, length_push, length-replicate, length-set, length-take-le, length-drop, take_at, drop_at, drop_all, append_assoc, append-nil, replicate-append-replicate, set_split}
use Rattle.std.proofs.lemmas.List.Elements.{All-push, All-take, All-set, All-get_or}
use Rattle.strip.specs.declared.strip.Strip.{Strip}
use Rattle.model.specs.Maps.{look_up}
use Rattle.model.specs.declared.words.CommitEntry.TheVariants.{Aborted}
use Rattle.strip.specs.Bodies.{Distinct, filled}
use Rattle.strip.specs.Arranged.{look_arranged}
use Rattle.strip.specs.Layout.{IdEntry, entry_bytes, body, header, strip_bytes, read_entry, read_body, write_over}
use Rattle.strip.specs.Meaning.{bytes_of, body_of, strip_entries, length_read_body}
use Rattle.strip.proofs.Filled.{filled_is, length_filled, distinct_push, distinct_filled}
use Rattle.strip.proofs.Layouts.{Sound, read_body_of, sounds_body, length_body, body_append, over_mid}

strip_length : (m : ℕ) (es : List IdEntry) → length es ≤ m → length (strip_bytes m es) ≡ 16 + 24 * m
strip_length m es le =
    let z = replicate {A = ℕ} (24 * (m - length es)) 0 in
    let a = length-append (body es) z in
    let b = length_body es in
    let c : length z ≡ 24 * (m - length es) = length-replicate {A = ℕ} (24 * (m - length es)) 0 in
    omega arith

-- how long they are
pub length_bytes : (s : Strip) → length s.bytes.now ≡ 16 + 24 * s.capacity
length_bytes s = let l = length_read_body s.count (drop 16 (bytes_of s)) in let w = s.within in ap length s.whole ∙ strip_length s.capacity (body_of s) (omega arith)

-- the part with the entries
pub body_part : (s : Strip) (end : ℕ) → end ≡ 16 + 24 * s.count → take (end - 16) (drop 16 s.bytes.now) ≡ body (body_of s)
body_part s end e =
    let b = length_body (body_of s) in
    let l = length_read_body s.count (drop 16 (bytes_of s)) in
    ap (λ x. take (end - 16) (drop 16 x)) s.whole ∙ take_at (body (body_of s)) (replicate (24 * (s.capacity - length (body_of s))) 0) (end - 16) (omega arith)

-- the entries that stand there are read as they were written
sounds_in : (m n : ℕ) (bs : List ℕ) → bs ≡ strip_bytes m (read_body n (drop 16 bs)) → All Sound (read_body n (drop 16 bs))
sounds_in m n bs e =
    let es = read_body n (drop 16 bs) in
    let z = replicate {A = ℕ} (24 * (m - length es)) 0 in
    sounds_body es z (ap (λ k. read_body k (body es ++ z)) (length_read_body n (drop 16 bs)) ∙ sym (ap (λ b. read_body n (drop 16 b)) e))

-- and so from their part alone
pub read_part : (s : Strip) (bs : List ℕ) → bs ≡ body (body_of s) → read_body (length bs / 24) bs ≡ body_of s
read_part s bs e =
    let es = body_of s in
    let b = length_body es in
    let n : length (body es) / 24 ≡ length es = omega arith in
    ap (λ b. read_body (length b / 24) b) e ∙ ap (λ k. read_body k (body es)) n ∙ ap (λ x. read_body (length es) x) (sym (append-nil (body es))) ∙ read_body_of es [] (sounds_in s.capacity s.count (bytes_of s) s.whole)

sounds_filled : (es : List IdEntry) (p : ℕ) → All Sound es → All Sound (filled es p)
sounds_filled [] p s = s
sounds_filled (x ∷ xs) p s = All-take Sound (length xs) _ (All-set Sound (x ∷ xs) p _ (All-get_or Sound (x ∷ xs) (length xs) x (omega arith) s) s)

-- a write over the header
over_header : (m n k : ℕ) (c : List ℕ) → write_over 0 (header m n) (header m k ++ c) ≡ header m n ++ c
over_header m n k c = over_mid [] (header m k) c (header m n) 0 refl refl

-- an entry is written after the others
added : (m : ℕ) (es : List IdEntry) (r : IdEntry) → length es < m → write_over 0 (header m (length es + 1)) (write_over (16 + 24 * length es) (entry_bytes r) (strip_bytes m es)) ≡ strip_bytes m (es ++ r ∷ [])
added m es r lt =
    let n = length es in
    let h = header m n in
    let z = replicate {A = ℕ} (24 * (m - (n + 1))) 0 in
    let k : 24 * (m - n) ≡ 24 + 24 * (m - (n + 1)) = omega arith in
    let room : replicate {A = ℕ} (24 * (m - n)) 0 ≡ replicate 24 0 ++ z = ap (λ i. replicate {A = ℕ} i 0) k ∙ sym (replicate-append-replicate 24 (24 * (m - (n + 1))) 0) in
    let split : strip_bytes m es ≡ (h ++ body es) ++ (replicate 24 0 ++ z) = ap (λ y. h ++ (body es ++ y)) room ∙ sym (append_assoc h (body es) (replicate 24 0 ++ z)) in
    let l : length (h ++ body es) ≡ 16 + 24 * n = length-append h (body es) ∙ omega (arith, length_body es) in
    let last : header m (n + 1) ++ (body es ++ (entry_bytes r ++ z)) ≡ strip_bytes m (es ++ r ∷ []) = simp (body_append, length_push, append_assoc) in
    ap (λ b. write_over 0 (header m (n + 1)) (write_over (16 + 24 * n) (entry_bytes r) b)) split ∙ ap (write_over 0 (header m (n + 1))) (over_mid (h ++ body es) (replicate 24 0) z (entry_bytes r) (16 + 24 * n) l refl ∙ append_assoc h (body es) (entry_bytes r ++ z)) ∙ over_header m (n + 1) n (body es ++ (entry_bytes r ++ z)) ∙ last

-- the bytes before an entry, the entry, and the bytes after it
cut_at : (h : List ℕ) (es : List IdEntry) (p : ℕ) (z : List ℕ) (d : IdEntry) → p < length es → h ++ (body es ++ z) ≡ (h ++ body (take p es)) ++ (entry_bytes (get_or es p d) ++ (body (drop (suc p) es) ++ z))
cut_at h es p z d lt =
    let y = get_or es p d in
    let all : body es ≡ body (take p es) ++ (entry_bytes y ++ body (drop (suc p) es)) = ap body (split_at es p d lt) ∙ body_append (take p es) (y ∷ drop (suc p) es) in
    ap (λ b. h ++ (b ++ z)) all ∙ simp append_assoc

before_long : (h : List ℕ) (es : List IdEntry) (p : ℕ) → length h ≡ 16 → p ≤ length es → length (h ++ body (take p es)) ≡ 16 + 24 * p
before_long h es p lh le =
    let lf = length_body (take p es) in
    let lt = length-take-le p es le in
    length-append h (body (take p es)) ∙ omega arith

-- an entry is read
one_read : (h : List ℕ) (es : List IdEntry) (p : ℕ) (z : List ℕ) (d : IdEntry) → length h ≡ 16 → p < length es → take 24 (drop (16 + 24 * p) (h ++ (body es ++ z))) ≡ entry_bytes (get_or es p d)
one_read h es p z d lh lt =
    let f = h ++ body (take p es) in
    let b = body (drop (suc p) es) ++ z in
    let y = entry_bytes (get_or es p d) in
    ap (λ w. take 24 (drop (16 + 24 * p) w)) (cut_at h es p z d lt) ∙ ap (take 24) (drop_at f (y ++ b) (16 + 24 * p) (before_long h es p lh (omega arith))) ∙ take_at y b 24 refl

-- a write over a row
over_one : (h : List ℕ) (es : List IdEntry) (p : ℕ) (part z : List ℕ) (d : IdEntry) → length h ≡ 16 → length part ≡ 24 → p < length es → write_over (16 + 24 * p) part (h ++ (body es ++ z)) ≡ h ++ (body (take p es) ++ (part ++ (body (drop (suc p) es) ++ z)))
over_one h es p part z d lh lp lt =
    let f = body (take p es) in
    let b = body (drop (suc p) es) ++ z in
    ap (write_over (16 + 24 * p) part) (cut_at h es p z d lt) ∙ over_mid (h ++ f) (entry_bytes (get_or es p d)) b part (16 + 24 * p) (before_long h es p lh (omega arith)) (sym lp) ∙ append_assoc h f (part ++ b)

over_set : (h : List ℕ) (es : List IdEntry) (p : ℕ) (y : IdEntry) (z : List ℕ) → length h ≡ 16 → p < length es → write_over (16 + 24 * p) (entry_bytes y) (h ++ (body es ++ z)) ≡ h ++ (body (set es p y) ++ z)
over_set h es p y z lh lt =
    let f = body (take p es) in
    let b = body (drop (suc p) es) in
    let made : body (set es p y) ≡ f ++ (entry_bytes y ++ b) = ap body (set_split es p y lt) ∙ body_append (take p es) (y ∷ drop (suc p) es) in
    over_one h es p (entry_bytes y) z y lh refl lt ∙ sym (ap (λ w. h ++ (w ++ z)) made ∙ simp append_assoc)

-- an entry that is copied is written over what stood there
copied : (bs : List ℕ) (at gap : ℕ) → at + 24 ≤ length bs → copy_within bs at (at + 24) gap ≡ write_over gap (take 24 (drop at bs)) bs
copied bs at gap le =
    let part = take 24 (drop at bs) in
    let k : (at + 24) - at ≡ 24 = omega arith in
    let d = length-drop at bs in
    let l : length part ≡ 24 = length-take-le 24 (drop at bs) (omega arith) in
    ap (λ n. (take gap bs ++ take n (drop at bs)) ++ drop (gap + n) bs) k ∙ append_assoc (take gap bs) part (drop (gap + 24) bs) ∙ ap (λ n. take gap bs ++ (part ++ drop (gap + n) bs)) (sym l)

-- the last entry is written over the one at p
moved : (m k p : ℕ) (es : List IdEntry) (d : IdEntry) → k < length es → p < length es → write_over (16 + 24 * p) (take 24 (drop (16 + 24 * k) (strip_bytes m es))) (strip_bytes m es) ≡ strip_bytes m (set es p (get_or es k d))
moved m k p es d kl pl =
    let h = header m (length es) in
    let z = replicate {A = ℕ} (24 * (m - length es)) 0 in
    let y = get_or es k d in
    ap (λ part. write_over (16 + 24 * p) part (strip_bytes m es)) (one_read h es k z d refl kl) ∙ over_set h es p y z refl pl ∙ ap (λ n. header m n ++ (body (set es p y) ++ replicate (24 * (m - n)) 0)) (sym (length-set es p y))

-- the last entry gives way to zeros
cleared : (m k : ℕ) (es : List IdEntry) (d : IdEntry) → length es ≡ k + 1 → k < m → write_over 0 (header m k) (write_over (16 + 24 * k) (replicate 24 0) (strip_bytes m es)) ≡ strip_bytes m (take k es)
cleared m k es d l lt =
    let h = header m (length es) in
    let z = replicate {A = ℕ} (24 * (m - length es)) 0 in
    let none : body (drop (suc k) es) ≡ [] = ap body (drop_all (suc k) es (omega arith)) in
    let n : 24 + 24 * (m - length es) ≡ 24 * (m - k) = omega arith in
    let zeros : replicate 24 0 ++ z ≡ replicate {A = ℕ} (24 * (m - k)) 0 = replicate-append-replicate 24 (24 * (m - length es)) 0 ∙ ap (λ i. replicate {A = ℕ} i 0) n in
    let rest : body (take k es) ++ (replicate 24 0 ++ (body (drop (suc k) es) ++ z)) ≡ body (take k es) ++ replicate {A = ℕ} (24 * (m - k)) 0 = ap (λ b. body (take k es) ++ (replicate 24 0 ++ (b ++ z))) none ∙ ap (λ b. body (take k es) ++ b) zeros in
    ap (write_over 0 (header m k)) (over_one h es k (replicate 24 0) z d refl refl (omega arith)) ∙ over_header m k (length es) _ ∙ ap (λ b. header m k ++ b) rest
    ∙ ap (λ i. header m i ++ (body (take k es) ++ replicate (24 * (m - i)) 0)) (sym (length-take-le k es (omega arith)))

-- bytes that are a strip with the entries es, n of them
pub record Settled (m n : ℕ) (ys : List ℕ) (es : List IdEntry) : Type 0 where
  pub body_is : read_body n (drop 16 ys) ≡ es
  pub bytes : ys ≡ strip_bytes m es
  pub whole : ys ≡ strip_bytes m (read_body n (drop 16 ys))
  pub distinct : Distinct (read_body n (drop 16 ys))

settled : (m n : ℕ) (ys : List ℕ) (es : List IdEntry) → ys ≡ strip_bytes m es → length es ≡ n → All Sound es → Distinct es → Settled m n ys es
settled m n ys es e l s ne =
    let r = ap (λ y. read_body n (drop 16 y)) e ∙ ap (λ k. read_body k (body es ++ replicate (24 * (m - length es)) 0)) (sym l) ∙ read_body_of es _ s in
    record { body_is = r; bytes = e; whole = e ∙ ap (strip_bytes m) (sym r); distinct = subst Distinct (sym r) ne }

module _ (s : Strip) where
  -- an entry was written after the others
  pub settled_grown : (r : IdEntry) (at : ℕ) (part bs h ys : List ℕ) → s.count < s.capacity → look_up (strip_entries s) r.0 ≡ None
      → at ≡ 16 + 24 * s.count → part ≡ entry_bytes r → read_entry part ≡ r → bs ≡ write_over at part (bytes_of s) → h ≡ header s.capacity (s.count + 1) → ys ≡ write_over 0 h bs
      → Settled s.capacity (s.count + 1) ys (body_of s ++ r ∷ [])
  settled_grown r at part bs h ys lt q a e again f k g =
      let m = s.capacity in
      let n = s.count in
      let es = body_of s in
      let old = bytes_of s in
      let l = length_read_body n (drop 16 old) in
      let c = length_push es r in
      let one : bs ≡ write_over (16 + 24 * n) (entry_bytes r) (strip_bytes m es) = f ∙ ap (λ i. write_over i part old) a ∙ ap (λ b. write_over (16 + 24 * n) b old) e ∙ ap (write_over (16 + 24 * n) (entry_bytes r)) s.whole in
      let two : ys ≡ write_over 0 (header m (n + 1)) (write_over (16 + 24 * n) (entry_bytes r) (strip_bytes m es)) = g ∙ ap (λ h. write_over 0 h bs) k ∙ ap (write_over 0 (header m (n + 1))) one in
      let is : ys ≡ strip_bytes m (es ++ r ∷ []) = two ∙ ap (λ n. write_over 0 (header m (n + 1)) (write_over (16 + 24 * n) (entry_bytes r) (strip_bytes m es))) (sym l) ∙ added m es r (omega arith) in
      settled m (n + 1) ys (es ++ r ∷ []) is (omega arith) (All-push Sound es r (sounds_in m n old s.whole) (ap read_entry (sym e) ∙ again)) (distinct_push es r s.distinct (sym (look_arranged es r.0) ∙ q))

  -- the last entry was moved over another
  pub settled_shrunk : (p at gap : ℕ) (bs cs h ys : List ℕ) → p < s.count
      → at ≡ 16 + 24 * (s.count - 1) → gap ≡ 16 + 24 * p → bs ≡ copy_within (bytes_of s) at (at + 24) gap → cs ≡ write_over at (replicate 24 0) bs → h ≡ header s.capacity (s.count - 1) → ys ≡ write_over 0 h cs
      → Settled s.capacity (s.count - 1) ys (filled (body_of s) p)
  settled_shrunk p at gap bs cs h ys lp a b e f j g =
      let m = s.capacity in
      let k = s.count - 1 in
      let es = body_of s in
      let old = bytes_of s in
      let l = length_read_body s.count (drop 16 old) in
      let w = s.within in
      let long = length_bytes s in
      let d : IdEntry = (0, Aborted) in
      let ws = set es p (get_or es k d) in
      let lw = length-set es p (get_or es k d) in
      let one : bs ≡ strip_bytes m ws = e ∙ copied old at gap (omega arith) ∙ ap (λ i. write_over gap (take 24 (drop i old)) old) a ∙ ap (λ i. write_over i (take 24 (drop (16 + 24 * k) old)) old) b ∙ ap (λ o. write_over (16 + 24 * p) (take 24 (drop (16 + 24 * k) o)) o) s.whole ∙ moved m k p es d (omega arith) (omega arith) in
      let two : cs ≡ write_over (16 + 24 * k) (replicate 24 0) (strip_bytes m ws) = f ∙ ap (λ i. write_over i (replicate 24 0) bs) a ∙ ap (write_over (16 + 24 * k) (replicate 24 0)) one in
      let n : k ≡ length es - 1 = omega arith in
      let is : ys ≡ strip_bytes m (filled es p) = g ∙ ap (λ h. write_over 0 h cs) j ∙ ap (write_over 0 (header m k)) two ∙ cleared m k ws d (omega arith) (omega arith) ∙ ap (λ i. strip_bytes m (take i (set es p (get_or es i d)))) n ∙ ap (strip_bytes m) (sym (filled_is es p d (omega arith))) in
      settled m k ys (filled es p) is (length_filled es p ∙ omega arith) (sounds_filled es p (sounds_in m s.count old s.whole)) (distinct_filled es p (omega arith) s.distinct)
