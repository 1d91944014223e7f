-- What the calls on chains answer.
use Rattle.std.proofs.Common.{◌≡◌, ℕ, suc, ◌+◌, ◌<◌, ◌≤◌, true, false, cond, is_some, List, [], ◌∷◌, length, get_or, set, replicate, Ok, Err, Some, None, Option, sym, refl, ap, ◌∙◌, subst, ⊎_elim, arith}
use Rattle.std.proofs.lemmas.Bool.{cases_lt}
use Rattle.std.proofs.lemmas.List.{get_or-replicate}
use Rattle.std.specs.Option.{option_map_or}
use Rattle.model.specs.declared.words.Record.{Record}
use Rattle.chains.specs.declared.node.Node.{Node}
use Rattle.model.specs.Records.{record_at, put, mark, drop_record}
use Rattle.chains.specs.Links.{On, Freed, Sound, Standing, Absent, AllFree, col, chain_of, key_of, version_of, next_at, next_on, class_of, head_at, canon, live_count}
use Rattle.model.specs.Maps.{is_there}
use Rattle.version_store.specs.Putting.{put_in, putting}
use Rattle.chains.specs.Canonical.{canon_ascends}
use Rattle.chains.proofs.Canon.{canon_length, live_key, live_version, col_get, col_here, col_else, next_here, next_else, free_chain, is_free}
use Rattle.chains.proofs.Freeing.{none_free, freed_push}
use Rattle.chains.proofs.Relinking.{replace_sound, replace_means}
use Rattle.version_store.proofs.Lookups.{marked, mark_is_put, mark_none, drop_none}
use Rattle.chains.proofs.Walking.{distinct, standing_live, standing_look, absent_look}
use Rattle.version_store.proofs.Puts.{put_new, put_over, put_full}

module _ {V : Type 0} where
  -- a node, where there is one
  some_node : (ns : List (Node V)) (q : ℕ) → q < length ns → Node V
  some_node [] q l = absurd (omega arith)
  some_node (n ∷ ns) q l = n

  module _ {ns : List (Node V)} {hs : List (Option ℕ)} {o : Option ℕ} {F : ℕ} (S : Sound ns hs o F) where
    pub standing_has : {k v q : ℕ} → Standing ns k v q → is_there (record_at (canon ns) k v) ≡ true
    standing_has {q = q} s = let x = some_node ns q s.inside in ap is_there (standing_look S x s ∙ (standing_live S x s).1)

    pub absent_has : {k v : ℕ} {p q : Option ℕ} → Absent ns hs k v p q → is_there (record_at (canon ns) k v) ≡ false
    absent_has a = ap is_there (absent_look S a)

    -- the records and the free nodes make up the nodes
    pub counted : length (canon ns) + F ≡ length ns
    counted = let l = canon_length ns (distinct S) in let t = S.total in omega arith

    pub put_replaced : (e : Record V) {q : ℕ} {rs : List (Record V)} → Standing ns e.key e.version q → rs ≡ put e (canon ns) → putting (Ok tt) rs ≡ put_in (length ns) e (canon ns)
    put_replaced e {q} s is = ap (putting (Ok tt)) is ∙ (let x = some_node ns q s.inside in let w = standing_live S x s in sym (put_over (length ns) e w.0 (canon ns) (standing_look S x s ∙ w.1)))

    pub put_added : (e : Record V) {p q : Option ℕ} {rs : List (Record V)} → Absent ns hs e.key e.version p q → 0 < F → rs ≡ put e (canon ns) → putting (Ok tt) rs ≡ put_in (length ns) e (canon ns)
    put_added e a some is = let l = counted in ap (putting (Ok tt)) is ∙ sym (put_new (length ns) e (canon ns) (absent_look S a) (omega arith))

    pub put_refused : (e : Record V) {p q : Option ℕ} → Absent ns hs e.key e.version p q → o ≡ None → putting (Err (record {})) (canon ns) ≡ put_in (length ns) e (canon ns)
    put_refused e a none = let l = counted in let z = none_free S.freed none in sym (put_full (length ns) e (canon ns) (absent_look S a) (omega arith))

    -- the record of the node q gets the number m
    module _ (m : ℕ) {k v q : ℕ} {r : Record V} (d n : Node V) (D : Standing ns k v q) (held : (get_or ns q d).record ≡ Some r)
        (n_record : n.record ≡ Some (marked m r)) (n_next : n.next ≡ (get_or ns q d).next) where
      same_key : r.key ≡ k
      same_key = sym (live_key (get_or ns q d) held) ∙ sym (col_get key_of ns q d D.inside) ∙ D.key

      here : Standing ns r.key r.version q
      here = record {
        inside = D.inside;
        chain = D.chain ∙ ap class_of (sym same_key);
        key = D.key ∙ sym same_key;
        version = col_get version_of ns q d D.inside ∙ live_version (get_or ns q d) held;
      }

      pub mark_sound : Sound (set ns q n) hs o F
      mark_sound = replace_sound d n S here n_record n_next

      pub mark_means : canon (set ns q n) ≡ mark k v m (canon ns)
      mark_means = replace_means d n S here n_record n_next ∙ sym (mark_is_put k v m r (canon ns) (canon_ascends ns) (standing_look S d D ∙ held))

    pub mark_absent : (m : ℕ) {k v : ℕ} {p q : Option ℕ} → Absent ns hs k v p q → canon ns ≡ mark k v m (canon ns)
    mark_absent m {k} {v} a = sym (mark_none k v m (canon ns) (absent_look S a))

    pub drop_absent : {k v : ℕ} {p q : Option ℕ} → Absent ns hs k v p q → canon ns ≡ drop_record k v (canon ns)
    drop_absent {k} {v} a = sym (drop_none k v (canon ns) (absent_look S a))

  none_live : (ns : List (Node V)) → ((j : ℕ) → j < length ns → col chain_of ns j ≡ 64) → (live_count ns ≡ 0) × (canon ns ≡ [])
  none_live [] a = (refl, refl)
  none_live (n ∷ ns) a =
      let free = is_free n (let e = a 0 (omega arith) in omega arith) in
      let rest = none_live ns (λ j l. a (suc j) (omega arith)) in
      (ap (λ o. cond (is_some o) (suc (live_count ns)) (live_count ns)) free ∙ rest.0, ap (λ o. option_map_or (λ r. put r (canon ns)) o (canon ns)) free ∙ rest.1)

  -- one more node is free, before the others
  pub free_more : (ns : List (Node V)) (i : ℕ) (n : Node V) {o : Option ℕ} → i < length ns → n.record ≡ None → n.next ≡ o → AllFree ns i → Freed i i (col chain_of ns) (next_at ns) o → AllFree (set ns i n) (i + 1) × Freed (i + 1) (i + 1) (col chain_of (set ns i n)) (next_at (set ns i n)) (Some i)
  free_more ns i n l f x a S = (
    λ j h. ⊎_elim
        (λ (b : j < i). col_else chain_of ns i n j (λ e. omega arith) ∙ a j b)
        (λ (b : i ≤ j). let e : j ≡ i = omega arith in ap (col chain_of (set ns i n)) e ∙ col_here chain_of ns i n l ∙ free_chain n f)
        (cases_lt j i),
    freed_push S (omega arith)
        (λ m j ml e. let w = S.inside m j (ml, e) in let b = w.0 in (next_else ns i n j (λ z. omega arith), col_else chain_of ns i n j (λ z. omega arith) ∙ w.1))
        i (omega arith) (col_here chain_of ns i n l ∙ free_chain n f) (next_here ns i n l ∙ x),
  )

  -- chains with no records
  pub cleared : {ns : List (Node V)} {o : Option ℕ} {m i : ℕ} → length ns ≡ m → i ≡ m → AllFree ns i → Freed i i (col chain_of ns) (next_at ns) o → (canon ns ≡ []) × Sound ns (replicate 64 None) o m
  cleared {ns} {o} {m} l at_m a f =
      let none = none_live ns (λ j h. a j (omega arith)) in
      let empty = none.0 in
      let start : (c : ℕ) → c < 64 → head_at (replicate 64 None) c ≡ None = λ c h. get_or-replicate 64 c None None h in
      -- no place on a chain is a node
      let alone : (c i : ℕ) → c < 64 → i < length ns → col chain_of ns i ≡ c → ⊥ = λ c i b h e. let g = a i (omega arith) in omega arith in (
        none.1,
        record {
          linked = record {
            next_in = λ c p j h. absurd (no_next ns c p j start alone h);
            next_top = λ c p k h. absurd (alone c k h.0 h.2 h.3);
            apart = λ i k h. absurd (alone (col chain_of ns i) i h.2 h.0 refl);
          };
          freed = subst (λ N. Freed N m (col chain_of ns) (next_at ns) o) (sym l) (subst (λ n. Freed n n (col chain_of ns) (next_at ns) o) at_m f);
          total = omega arith;
        },
      )
    where
      no_next : (ns : List (Node V)) (c : ℕ) (p : Option ℕ) (j : ℕ) → ((c : ℕ) → c < 64 → head_at (replicate 64 None) c ≡ None) → ((c i : ℕ) → c < 64 → i < length ns → col chain_of ns i ≡ c → ⊥) → (c < 64) × On (length ns) (col chain_of ns) c p × (next_on ns (replicate 64 None) c p ≡ Some j) → ⊥
      no_next ns c None j start alone h = cc (start c h.0, h.2)
      no_next ns c (Some i) j start alone h = let o = h.1 i refl in alone c i h.0 o.0 o.1
