-- The records of the nodes: their look-ups, their number, and what a write to one node does.
use Rattle.std.proofs.Common.{◌≡◌, ℕ, zero, suc, ◌<◌, ◌≤◌, Bool, true, false, cond, is_some, ◌&&◌, eqb, List, [], ◌∷◌, map, length, get_or, set, Some, None, Option, sym, refl, ap, ◌∙◌, ⊎_elim, arith}
use Rattle.std.proofs.lemmas.Bool.{cases_Bool, cond-true, cond-false, and_parts, both_ways, eqb-true}
use Rattle.std.proofs.lemmas.List.{length-map, get_or-map, map-set, get_or-set_same, get_or-set_other}
use Rattle.std.proofs.Math.Seq.{map-set_same}
use Rattle.std.proofs.lemmas.Bool.Decides.{nat_tests}
use Rattle.std.specs.Option.{option_map_or}
use Rattle.model.specs.declared.words.Record.{Record}
use Rattle.chains.specs.declared.node.Node.{Node}
use Rattle.model.specs.Records.{stands, record_at, put, drop_record}
use Rattle.chains.specs.Links.{col, chain_of, class_of, key_of, version_of, next_at, tag_of, tag, live_count, canon}
use Rattle.version_store.proofs.Ascents.{put_ascends, drop_ascends}
use Rattle.version_store.proofs.Lookups.{same_looks, look_put, look_drop, count_put}
use Rattle.chains.specs.Canonical.{canon_ascends}

-- two tests that are never both true change places
cond_swap : {X : Type 0} (a b : Bool) (x y z : X) → (a ≡ true → b ≡ true → ⊥) → cond a x (cond b y z) ≡ cond b y (cond a x z)
cond_swap true true x y z h = absurd (h refl refl)
cond_swap true false x y z h = refl
cond_swap false b x y z h = refl

-- a test that fails where another does is not needed under it
cond_inner : {X : Type 0} (a b : Bool) (x y z : X) → (a ≡ false → b ≡ false) → cond a x z ≡ cond a x (cond b y z)
cond_inner true b x y z h = refl
cond_inner false true x y z h = absurd (both_ways true (h refl) refl)
cond_inner false false x y z h = refl

same_place : (k v a b : ℕ) → k ≡ a → v ≡ b → (eqb k a && eqb v b) ≡ true
same_place k v a b p q = grind (arith, nat_tests)

module _ {V : Type 0} where
  -- what the tests of a record's place tell
  pub stands_key : (k v : ℕ) (r : Record V) → stands k v r ≡ true → (r.key ≡ k) × (r.version ≡ v)
  stands_key k v r h = (grind (arith, nat_tests), grind (arith, nat_tests))

  stands_from : (k v : ℕ) (r : Record V) → r.key ≡ k → r.version ≡ v → stands k v r ≡ true
  stands_from k v r a b = grind (arith, nat_tests)

  -- a column after a write: at the node that is written, and elsewhere
  pub col_here : (f : Node V → ℕ) (ns : List (Node V)) (i : ℕ) (n : Node V) → i < length ns → col f (set ns i n) i ≡ f n
  col_here f ns i n l = ap (λ xs. get_or xs i 0) (map-set f ns i n) ∙ get_or-set_same (map f ns) i (f n) 0 (simp length-map l)

  pub col_else : (f : Node V → ℕ) (ns : List (Node V)) (i : ℕ) (n : Node V) (j : ℕ) → (j ≡ i → ⊥) → col f (set ns i n) j ≡ col f ns j
  col_else f ns i n j h = ap (λ xs. get_or xs j 0) (map-set f ns i n) ∙ get_or-set_other (map f ns) i j (f n) 0 h

  -- where the write keeps what f tells
  pub col_keep : (f : Node V → ℕ) (ns : List (Node V)) (i : ℕ) (n d : Node V) → f n ≡ f (get_or ns i d) → (j : ℕ) → col f (set ns i n) j ≡ col f ns j
  col_keep f ns i n d e j = ap (λ xs. get_or xs j 0) (map-set_same f ns i n d e)

  pub col_get : (f : Node V → ℕ) (ns : List (Node V)) (i : ℕ) (d : Node V) → i < length ns → col f ns i ≡ f (get_or ns i d)
  col_get f ns i d l = get_or-map f ns i d 0 l

  pub col_read : (f : Node V → ℕ) (ns : List (Node V)) (i : ℕ) (x : Node V) → i < length ns → x ≡ get_or ns i x → col f ns i ≡ f x
  col_read f ns i x l e = col_get f ns i x l ∙ ap f (sym e)

  -- the same of the next nodes
  pub next_here : (ns : List (Node V)) (i : ℕ) (n : Node V) → i < length ns → next_at (set ns i n) i ≡ n.next
  next_here ns i n l = ap (λ xs. get_or xs i None) (map-set (λ m. m.next) ns i n) ∙ get_or-set_same (map (λ m. m.next) ns) i n.next None (simp length-map l)

  pub next_else : (ns : List (Node V)) (i : ℕ) (n : Node V) (j : ℕ) → (j ≡ i → ⊥) → next_at (set ns i n) j ≡ next_at ns j
  next_else ns i n j h = ap (λ xs. get_or xs j None) (map-set (λ m. m.next) ns i n) ∙ get_or-set_other (map (λ m. m.next) ns) i j n.next None h

  pub next_keep : (ns : List (Node V)) (i : ℕ) (n d : Node V) → n.next ≡ (get_or ns i d).next → (j : ℕ) → next_at (set ns i n) j ≡ next_at ns j
  next_keep ns i n d e j = ap (λ xs. get_or xs j None) (map-set_same (λ m. m.next) ns i n d e)

  pub next_get : (ns : List (Node V)) (i : ℕ) (d : Node V) → i < length ns → next_at ns i ≡ (get_or ns i d).next
  next_get ns i d l = get_or-map (λ m. m.next) ns i d None l

  pub next_read : (ns : List (Node V)) (i : ℕ) (x : Node V) → i < length ns → x ≡ get_or ns i x → next_at ns i ≡ x.next
  next_read ns i x l e = next_get ns i x l ∙ ap (λ m. m.next) (sym e)

  -- a node with a record is on the chain of its key
  pub live_chain : (n : Node V) {r : Record V} → n.record ≡ Some r → chain_of n ≡ class_of r.key
  live_chain n h = ap (λ o. option_map_or (λ q. class_of q.key) o 64) h

  pub live_key : (n : Node V) {r : Record V} → n.record ≡ Some r → key_of n ≡ r.key
  live_key n h = ap (λ o. option_map_or (λ q. q.key) o 0) h

  pub live_version : (n : Node V) {r : Record V} → n.record ≡ Some r → version_of n ≡ r.version
  live_version n h = ap (λ o. option_map_or (λ q. q.version) o 0) h

  pub live_tag : (n : Node V) {r : Record V} → n.record ≡ Some r → tag_of n ≡ tag r.key r.version
  live_tag n h = ap (λ o. option_map_or (λ q. tag q.key q.version) o 0) h

  pub free_chain : (n : Node V) → n.record ≡ None → chain_of n ≡ 64
  free_chain n h = ap (λ o. option_map_or (λ q. class_of q.key) o 64) h

  -- a node on a chain has a record, and another has none
  pub is_live : (n : Node V) → chain_of n < 64 → (r : Record V) × (n.record ≡ Some r)
  is_live n h = go n.record h
    where
      go : (o : Option (Record V)) → option_map_or (λ q. class_of q.key) o 64 < 64 → (r : Record V) × (o ≡ Some r)
      go None l = absurd (omega arith)
      go (Some r) l = (r, refl)

  pub is_free : (n : Node V) → 64 ≤ chain_of n → n.record ≡ None
  is_free n h = go n.record h
    where
      go : (o : Option (Record V)) → 64 ≤ option_map_or (λ q. class_of q.key) o 64 → o ≡ None
      go None l = refl
      go (Some r) l = absurd (omega arith)

  pub classed : (ns : List (Node V)) (i : ℕ) → col chain_of ns i < 64 → class_of (col key_of ns i) ≡ col chain_of ns i
  classed [] i h = refl
  classed (n ∷ ns) zero h = let w = is_live n h in ap class_of (live_key n w.1) ∙ sym (live_chain n w.1)
  classed (n ∷ ns) (suc i) h = classed ns i h

  -- the tag by key and version
  pub col_tag : (ns : List (Node V)) (i : ℕ) → col tag_of ns i ≡ tag (col key_of ns i) (col version_of ns i)
  col_tag [] i = refl
  col_tag (n ∷ ns) zero = go n.record
    where
      go : (o : Option (Record V)) → option_map_or (λ r. tag r.key r.version) o 0 ≡ tag (option_map_or (λ r. r.key) o 0) (option_map_or (λ r. r.version) o 0)
      go None = refl
      go (Some r) = refl
  col_tag (n ∷ ns) (suc i) = col_tag ns i

  -- a record of that place
  abbrev pub shows : ℕ → ℕ → Option (Record V) → Bool
  shows k v o = option_map_or (stands k v) o false

  abbrev pub look_live : ℕ → ℕ → List (Node V) → Option (Record V)
  look_live k v [] = None
  look_live k v (n ∷ ns) = cond (shows k v n.record) n.record (look_live k v ns)

  -- no node on a chain has that place, but for the one at i
  abbrev pub OnlyAt : List (Node V) → ℕ → ℕ → ℕ → Type 0
  OnlyAt ns i k v = (j : ℕ) → j < length ns → (j ≡ i → ⊥) → col chain_of ns j < 64 → col key_of ns j ≡ k → col version_of ns j ≡ v → ⊥

  abbrev pub Nowhere : List (Node V) → ℕ → ℕ → Type 0
  Nowhere ns k v = (j : ℕ) → j < length ns → col chain_of ns j < 64 → col key_of ns j ≡ k → col version_of ns j ≡ v → ⊥

  -- no two nodes on chains have one place
  abbrev pub Distinct : List (Node V) → Type 0
  Distinct ns = (i j : ℕ) → i < length ns → j < length ns → col chain_of ns i < 64 → col chain_of ns j < 64 → col key_of ns i ≡ col key_of ns j → col version_of ns i ≡ col version_of ns j → i ≡ j

  shows_parts : (k v : ℕ) (n : Node V) → shows k v n.record ≡ true → (chain_of n < 64) × (key_of n ≡ k) × (version_of n ≡ v)
  shows_parts k v n h = go n.record h
    where
      go : (o : Option (Record V)) → shows k v o ≡ true → (option_map_or (λ q. class_of q.key) o 64 < 64) × (option_map_or (λ q. q.key) o 0 ≡ k) × (option_map_or (λ q. q.version) o 0 ≡ v)
      go None e = absurd (both_ways false refl e)
      go (Some r) e = let w = stands_key k v r e in (omega arith, w.0, w.1)

  shows_from : (k v : ℕ) (n : Node V) → chain_of n < 64 → key_of n ≡ k → version_of n ≡ v → shows k v n.record ≡ true
  shows_from k v n c a b =
      let w = is_live n c in
      ap (shows k v) w.1 ∙ stands_from k v w.0 (sym (live_key n w.1) ∙ a) (sym (live_version n w.1) ∙ b)

  hides : (k v : ℕ) (n : Node V) → (chain_of n < 64 → key_of n ≡ k → version_of n ≡ v → ⊥) → shows k v n.record ≡ false
  hides k v n h = ⊎_elim
      (λ (e : shows k v n.record ≡ true). let w = shows_parts k v n e in absurd (h w.0 w.1 w.2))
      (λ (e : shows k v n.record ≡ false). e)
      (cases_Bool (shows k v n.record))

  pub live_none : (k v : ℕ) (ns : List (Node V)) → Nowhere ns k v → look_live k v ns ≡ None
  live_none k v [] h = refl
  live_none k v (n ∷ ns) h =
      cond-false (shows k v n.record) n.record (look_live k v ns) (hides k v n (h 0 (omega arith)))
      ∙ live_none k v ns (λ j l. h (suc j) (omega arith))

  pub live_some : (k v : ℕ) (ns : List (Node V)) (i : ℕ) (d : Node V) → i < length ns → chain_of (get_or ns i d) < 64 → key_of (get_or ns i d) ≡ k → version_of (get_or ns i d) ≡ v → OnlyAt ns i k v → look_live k v ns ≡ (get_or ns i d).record
  live_some k v [] i d l c a b h = absurd (omega arith)
  live_some k v (n ∷ ns) zero d l c a b h = cond-true (shows k v n.record) n.record (look_live k v ns) (shows_from k v n c a b)
  live_some k v (n ∷ ns) (suc i) d l c a b h =
      cond-false (shows k v n.record) n.record (look_live k v ns) (hides k v n (h 0 (omega arith) (λ e. omega arith)))
      ∙ live_some k v ns i d (omega arith) c a b (λ j m n. h (suc j) (omega arith) (λ e. n (omega arith)))

  pub canon_look : (k v : ℕ) (ns : List (Node V)) → record_at (canon ns) k v ≡ look_live k v ns
  unfolding record_at
  canon_look k v [] = refl
  canon_look k v (n ∷ ns) = go n.record (canon_look k v ns)
    where
      go : (o : Option (Record V)) → record_at (canon ns) k v ≡ look_live k v ns → record_at (option_map_or (λ r. put r (canon ns)) o (canon ns)) k v ≡ cond (shows k v o) o (look_live k v ns)
      go None rest = rest
      go (Some r) rest = look_put k v r (canon ns) ∙ ap (λ o. cond (stands k v r) (Some r) o) rest

  -- a node n with the record r of that place goes to i, where a free node or that place was
  write_look : (k v : ℕ) (ns : List (Node V)) (i : ℕ) (n : Node V) (r : Record V) → i < length ns → n.record ≡ Some r → (col chain_of ns i < 64 → (col key_of ns i ≡ r.key) × (col version_of ns i ≡ r.version)) → OnlyAt ns i r.key r.version → look_live k v (set ns i n) ≡ cond (stands k v r) (Some r) (look_live k v ns)
  write_look k v [] i n r l c a h = absurd (omega arith)
  write_look k v (m ∷ ns) zero n r l c a h =
      ap (λ o. cond (shows k v o) o (look_live k v ns)) c
      ∙ cond_inner (stands k v r) (shows k v m.record) (Some r) m.record (look_live k v ns)
      (λ q. hides k v m (λ live mk mv. let w = a live in both_ways (stands k v r) q (stands_from k v r (sym w.0 ∙ mk) (sym w.1 ∙ mv))))
  write_look k v (m ∷ ns) (suc i) n r l c a h =
      ap (λ o. cond (shows k v m.record) m.record o) (write_look k v ns i n r (omega arith) c a (λ j s e. h (suc j) (omega arith) (λ z. e (omega arith))))
      ∙ cond_swap (shows k v m.record) (stands k v r) m.record (Some r) (look_live k v ns)
      (λ p q. let s = shows_parts k v m p in let t = stands_key k v r q in h 0 (omega arith) (λ z. omega arith) s.0 (s.1 ∙ sym t.0) (s.2 ∙ sym t.1))

  pub canon_write : (ns : List (Node V)) (i : ℕ) (n : Node V) (r : Record V) → i < length ns → n.record ≡ Some r → (col chain_of ns i < 64 → (col key_of ns i ≡ r.key) × (col version_of ns i ≡ r.version)) → OnlyAt ns i r.key r.version → canon (set ns i n) ≡ put r (canon ns)
  canon_write ns i n r l c a h = same_looks (canon (set ns i n)) (put r (canon ns)) (canon_ascends (set ns i n)) (put_ascends r (canon ns) (canon_ascends ns))
      (λ k v. canon_look k v (set ns i n) ∙ write_look k v ns i n r l c a h ∙ ap (λ o. cond (stands k v r) (Some r) o) (sym (canon_look k v ns)) ∙ sym (look_put k v r (canon ns)))

  -- a free node n goes to i, where the record of that place was
  clear_look : (k v a b : ℕ) (ns : List (Node V)) (i : ℕ) (n : Node V) → i < length ns → n.record ≡ None → col key_of ns i ≡ a → col version_of ns i ≡ b → OnlyAt ns i a b → look_live k v (set ns i n) ≡ cond (eqb k a && eqb v b) None (look_live k v ns)
  clear_look k v a b [] i n l c p q h = absurd (omega arith)
  clear_look k v a b (m ∷ ns) zero n l c p q h =
      ap (λ o. cond (shows k v o) o (look_live k v ns)) c
      ∙ ⊎_elim
      (λ (e : (eqb k a && eqb v b) ≡ true).
      let w = and_parts (eqb k a) (eqb v b) e in
      let ka = eqb-true k a w.0 in let vb = eqb-true v b w.1 in
      live_none k v ns (λ j s live jk jv. h (suc j) (omega arith) (λ z. omega arith) live (jk ∙ ka) (jv ∙ vb))
      ∙ sym (cond-true (eqb k a && eqb v b) None (look_live k v (m ∷ ns)) e))
      (λ (e : (eqb k a && eqb v b) ≡ false).
      sym (cond-false (shows k v m.record) m.record (look_live k v ns) (hides k v m (λ live mk mv. both_ways (eqb k a && eqb v b) e (same_place k v a b (sym mk ∙ p) (sym mv ∙ q)))))
      ∙ sym (cond-false (eqb k a && eqb v b) None (look_live k v (m ∷ ns)) e))
      (cases_Bool (eqb k a && eqb v b))
  clear_look k v a b (m ∷ ns) (suc i) n l c p q h =
      ap (λ o. cond (shows k v m.record) m.record o) (clear_look k v a b ns i n (omega arith) c p q (λ j s e. h (suc j) (omega arith) (λ z. e (omega arith))))
      ∙ cond_swap (shows k v m.record) (eqb k a && eqb v b) m.record None (look_live k v ns)
      (λ y e. let s = shows_parts k v m y in let w = and_parts (eqb k a) (eqb v b) e in h 0 (omega arith) (λ z. omega arith) s.0 (s.1 ∙ eqb-true k a w.0) (s.2 ∙ eqb-true v b w.1))

  pub canon_clear : (ns : List (Node V)) (i : ℕ) (n : Node V) (a b : ℕ) → i < length ns → n.record ≡ None → col key_of ns i ≡ a → col version_of ns i ≡ b → OnlyAt ns i a b → canon (set ns i n) ≡ drop_record a b (canon ns)
  canon_clear ns i n a b l c p q h = same_looks (canon (set ns i n)) (drop_record a b (canon ns)) (canon_ascends (set ns i n)) (drop_ascends a b (canon ns) (canon_ascends ns))
      (λ k v. canon_look k v (set ns i n) ∙ clear_look k v a b ns i n l c p q h ∙ ap (λ o. cond (eqb k a && eqb v b) None o) (sym (canon_look k v ns)) ∙ sym (look_drop k v a b (canon ns)))

  -- a write that keeps the record
  pub canon_same : (ns : List (Node V)) (i : ℕ) (d n : Node V) → i < length ns → n.record ≡ (get_or ns i d).record → canon (set ns i n) ≡ canon ns
  canon_same [] i d n l r = absurd (omega arith)
  canon_same (m ∷ ns) zero d n l r = ap (λ o. option_map_or (λ q. put q (canon ns)) o (canon ns)) r
  canon_same (m ∷ ns) (suc i) d n l r = ap (λ t. option_map_or (λ q. put q t) m.record t) (canon_same ns i d n (omega arith) r)

  pub live_same : (ns : List (Node V)) (i : ℕ) (d n : Node V) → i < length ns → is_some n.record ≡ is_some (get_or ns i d).record → live_count (set ns i n) ≡ live_count ns
  live_same [] i d n l c = absurd (omega arith)
  live_same (m ∷ ns) zero d n l c = ap (λ t. cond t (suc (live_count ns)) (live_count ns)) c
  live_same (m ∷ ns) (suc i) d n l c = ap (λ t. cond (is_some m.record) (suc t) t) (live_same ns i d n (omega arith) c)

  -- one more, and one less
  pub live_more : (ns : List (Node V)) (i : ℕ) (n : Node V) {r : Record V} → i < length ns → 64 ≤ col chain_of ns i → n.record ≡ Some r → live_count (set ns i n) ≡ suc (live_count ns)
  live_more [] i n l a b = absurd (omega arith)
  live_more (m ∷ ns) zero n l a b = ap (λ o. cond (is_some o) (suc (live_count ns)) (live_count ns)) b ∙ ap (λ o. suc (cond (is_some o) (suc (live_count ns)) (live_count ns))) (sym (is_free m a))
  live_more (m ∷ ns) (suc i) n l a b = go (is_some m.record) (live_more ns i n (omega arith) a b)
    where
      go : (t : Bool) → live_count (set ns i n) ≡ suc (live_count ns) → cond t (suc (live_count (set ns i n))) (live_count (set ns i n)) ≡ suc (cond t (suc (live_count ns)) (live_count ns))
      go true rest = ap suc rest
      go false rest = rest

  pub live_less : (ns : List (Node V)) (i : ℕ) (n : Node V) → i < length ns → col chain_of ns i < 64 → n.record ≡ None → suc (live_count (set ns i n)) ≡ live_count ns
  live_less [] i n l a b = absurd (omega arith)
  live_less (m ∷ ns) zero n l a b = ap (λ o. suc (cond (is_some o) (suc (live_count ns)) (live_count ns))) b ∙ ap (λ o. cond (is_some o) (suc (live_count ns)) (live_count ns)) (sym (is_live m a).1)
  live_less (m ∷ ns) (suc i) n l a b = go (is_some m.record) (live_less ns i n (omega arith) a b)
    where
      go : (t : Bool) → suc (live_count (set ns i n)) ≡ live_count ns → suc (cond t (suc (live_count (set ns i n))) (live_count (set ns i n))) ≡ cond t (suc (live_count ns)) (live_count ns)
      go true rest = ap suc rest
      go false rest = rest

  pub canon_length : (ns : List (Node V)) → Distinct ns → length (canon ns) ≡ live_count ns
  canon_length [] d = refl
  canon_length (m ∷ ns) d =
      let rest = canon_length ns (λ i j il jl ic jc k v. let e = d (suc i) (suc j) (omega arith) (omega arith) ic jc k v in omega arith) in
      go m.record refl rest
    where
      go : (o : Option (Record V)) → m.record ≡ o → length (canon ns) ≡ live_count ns → length (option_map_or (λ r. put r (canon ns)) o (canon ns)) ≡ cond (is_some o) (suc (live_count ns)) (live_count ns)
      go None h rest = rest
      go (Some r) h rest =
          let live : chain_of m < 64 = let c = live_chain m h in omega arith in
          let new : record_at (canon ns) r.key r.version ≡ None = canon_look r.key r.version ns ∙ live_none r.key r.version ns (λ j l c k v. let e = d 0 (suc j) (omega arith) (omega arith) live c (live_key m h ∙ sym k) (live_version m h ∙ sym v) in omega arith) in
          count_put r (canon ns) new ∙ ap suc rest
