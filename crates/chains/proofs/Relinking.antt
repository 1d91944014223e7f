-- The nodes stay sound when a chain is changed, and mean what they should.
use Rattle.std.proofs.Common.{◌≡◌, ℕ, ◌+◌, ◌-◌, ◌<◌, is_some, List, length, get_or, set, Some, None, Option, sym, refl, ap, ◌∙◌, subst, arith}
use Rattle.std.proofs.Math.Path.{fun_ext}
use Rattle.std.proofs.Math.Seq.{map-set_same}
use Rattle.std.proofs.lemmas.List.{length-set}
use Rattle.chains.specs.declared.node.Node.{Node}
use Rattle.model.specs.declared.words.Record.{Record}
use Rattle.model.specs.Records.{put, drop_record}
use Rattle.chains.specs.Links.{Linked, Sound, Standing, Found, Absent, Redirected, On, Freed, trail, col, chain_of, key_of, version_of, tag_of, next_at, next_on, tag, class_of, canon}
use Rattle.chains.proofs.Canon.{col_here, col_else, col_get, col_tag, next_here, next_else, next_keep, next_get, live_chain, live_key, live_version, live_tag, free_chain, canon_write, canon_clear, live_same, live_more, live_less}
use Rattle.chains.proofs.Walking.{class_below, only_at, absent_nowhere, standing_live}
use Rattle.chains.proofs.Freeing.{some_free, freed_pop, freed_push}
use Rattle.chains.proofs.Linking.{linked_in, linked_out, retagged}
use Rattle.chains.proofs.Redirecting.{redirected_else}

module _ {V : Type 0} where
  -- equal keys and versions, equal tags
  same_tag : (ns ms : List (Node V)) (j : ℕ) → col key_of ms j ≡ col key_of ns j → col version_of ms j ≡ col version_of ns j → col tag_of ms j ≡ col tag_of ns j
  same_tag ns ms j k v = let a = col_tag ms j in let b = col_tag ns j in omega arith

  -- the record of n, which is e, goes between p and q, by the free node i
  module _ {ns ms : List (Node V)} {hs gs : List (Option ℕ)} {F i c : ℕ} {o p q : Option ℕ} {e : Record V} (n d : Node V) (S : Sound ns hs o F)
      (A : Absent ns hs e.key e.version p q)
      (o_is : o ≡ Some i) (n_record : n.record ≡ Some e) (n_next : n.next ≡ q) (c_is : c ≡ class_of e.key) (Q : Redirected (set ns i n) ms hs gs c p (Some i)) where
    R : Redirected (set ns i n) ms hs gs (class_of e.key) p (Some i)
    R = subst (λ k. Redirected (set ns i n) ms hs gs k p (Some i)) c_is Q

    some : 0 < F
    some = some_free S.freed i o_is

    i_free : (i < length ns) × (col chain_of ns i ≡ 64)
    i_free = S.freed.inside 0 i (some, o_is)

    long : length ms ≡ length ns
    long = R.long ∙ length-set ns i n

    c_below : class_of e.key < 64
    c_below = class_below e.key

    chain_else : (j : ℕ) → (j ≡ i → ⊥) → col chain_of ms j ≡ col chain_of ns j
    chain_else j h = R.chains j ∙ col_else chain_of ns i n j h

    chain_here : col chain_of ms i ≡ class_of e.key
    chain_here = R.chains i ∙ col_here chain_of ns i n i_free.0 ∙ live_chain n n_record

    tag_else : (j : ℕ) → (j ≡ i → ⊥) → col tag_of ms j ≡ col tag_of ns j
    tag_else j h = same_tag ns ms j (R.keys j ∙ col_else key_of ns i n j h) (R.versions j ∙ col_else version_of ns i n j h)

    tag_here : col tag_of ms i ≡ tag e.key e.version
    tag_here = let a = col_tag ms i in let b = R.keys i ∙ col_here key_of ns i n i_free.0 ∙ live_key n n_record in let c = R.versions i ∙ col_here version_of ns i n i_free.0 ∙ live_version n n_record in omega arith

    -- the node before is not the free one
    p_other : p ≡ Some i → ⊥
    p_other z = let on = (A.walked.on i z).1 in let b = c_below in let w = i_free.1 in omega arith

    -- a place other than the free node
    next_same : (a : ℕ) (s : Option ℕ) → (s ≡ Some i → ⊥) → next_on (set ns i n) hs a s ≡ next_on ns hs a s
    next_same a None h = refl
    next_same a (Some j) h = next_else ns i n j (λ z. h (ap Some z))

    link_linked : Linked (length ns) (col chain_of ms) (col tag_of ms) (next_on ms gs)
    link_linked = linked_in (length ns) (col chain_of ns) (col tag_of ns) (col chain_of ms) (col tag_of ms) (next_on ns hs) (next_on ms gs) S.linked i (class_of e.key) (tag e.key e.version) p q
        i_free.0 i_free.1 c_below A.walked.on A.walked.over A.walked.next A.below chain_here chain_else tag_here tag_else
        (R.next_else i p_other ∙ next_here ns i n i_free.0 ∙ n_next) R.here
        (λ a s o f h. redirected_else R (length ns) (col chain_of ns) A.walked.on a s o h ∙ next_same a s f)

    -- the other free nodes stay as they were
    free_same : (j : ℕ) → col chain_of ns j ≡ 64 → (j ≡ i → ⊥) → (next_at ms j ≡ next_at ns j) × (col chain_of ms j ≡ 64)
    free_same j f h = (R.next_else j (λ z. let on = (A.walked.on j z).1 in let b = c_below in omega arith) ∙ next_else ns i n j h, chain_else j h ∙ f)

    pub link_sound : Sound ms gs (get_or ns i d).next (F - 1)
    link_sound =
        let live = R.lives ∙ live_more ns i n i_free.0 (let w = i_free.1 in omega arith) n_record in
        let t = S.total in
        let l = long in
        let f = some in
        let S' : Freed (length ns) F (col chain_of ns) (next_at ns) (Some i) = subst (λ z. Freed (length ns) F (col chain_of ns) (next_at ns) z) o_is S.freed in
        record {
          linked = subst (λ N. Linked N (col chain_of ms) (col tag_of ms) (next_on ms gs)) (sym long) link_linked;
          freed = subst (Freed (length ms) (F - 1) (col chain_of ms) (next_at ms)) (next_get ns i d i_free.0) (freed_pop i S' (omega arith) free_same);
          total = omega arith;
        }

    pub link_means : canon ms ≡ put e (canon ns)
    link_means =
        let b = c_below in
        R.records ∙ canon_write ns i n e i_free.0 n_record (λ h. absurd (let w = i_free.1 in omega arith)) (λ j l h. absent_nowhere S A j l)

  -- the node r, which stands after p, leaves its chain and becomes the first free one; m is the node that is written
  module _ {ns ms : List (Node V)} {hs gs : List (Option ℕ)} {F k v r c : ℕ} {o p : Option ℕ} (e m : Node V) (S : Sound ns hs o F)
      (D : Found ns hs k v p r) (c_is : c ≡ class_of k) (R : Redirected ns ms hs gs c p (get_or ns r e).next)
      (m_record : m.record ≡ None) (m_next : m.next ≡ o) where
    r_in : r < length ns
    r_in = D.standing.inside

    r_chain : col chain_of ns r ≡ c
    r_chain = D.standing.chain ∙ sym c_is

    c_in : c < 64
    c_in = let a = c_is in let b = class_below k in omega arith

    out_long : length (set ms r m) ≡ length ns
    out_long = length-set ms r m ∙ R.long

    r_in_m : r < length ms
    r_in_m = let a = r_in in let b = R.long in omega arith

    tag_kept : (j : ℕ) → (j ≡ r → ⊥) → col tag_of (set ms r m) j ≡ col tag_of ns j
    tag_kept j h = same_tag ns (set ms r m) j (col_else key_of ms r m j h ∙ R.keys j) (col_else version_of ms r m j h ∙ R.versions j)

    out_chain : col chain_of (set ms r m) r ≡ 64
    out_chain = col_here chain_of ms r m r_in_m ∙ free_chain m m_record

    out_else : (j : ℕ) → (j ≡ r → ⊥) → col chain_of (set ms r m) j ≡ col chain_of ns j
    out_else j h = col_else chain_of ms r m j h ∙ R.chains j

    p_on : On (length ns) (col chain_of ns) c p
    p_on i h = let w = D.walked.on i h in (w.0, w.1 ∙ sym c_is)

    p_next : next_on ns hs c p ≡ Some r
    p_next = ap (λ a. next_on ns hs a p) c_is ∙ D.walked.next

    -- the node after another is not r itself
    p_apart : p ≡ Some r → ⊥
    p_apart h = let w = (S.linked.next_in c p r (c_in, p_on, p_next)).2 r h in omega arith

    -- the write keeps what comes after any other place
    out_same : (a : ℕ) (s : Option ℕ) → (s ≡ Some r → ⊥) → next_on (set ms r m) gs a s ≡ next_on ms gs a s
    out_same a None h = refl
    out_same a (Some j) h = next_else ms r m j (λ z. h (ap Some z))

    out_linked : Linked (length ns) (col chain_of (set ms r m)) (col tag_of (set ms r m)) (next_on (set ms r m) gs)
    out_linked = retagged
        (linked_out (length ns) (col chain_of ns) (col tag_of ns) (col chain_of (set ms r m)) (next_on ns hs) (next_on (set ms r m) gs) S.linked r c p
        r_in r_chain c_in p_on p_next out_chain out_else
        (out_same c p p_apart ∙ R.here ∙ sym (next_get ns r e r_in))
        (λ a s on f h. out_same a s f ∙ redirected_else R (length ns) (col chain_of ns) p_on a s on h))
        (λ j h. tag_kept j (λ z. let u = ap (col chain_of (set ms r m)) z in let o = out_chain in omega arith))

    -- a free node was not r, nor on the chain
    free_other : (j : ℕ) → col chain_of ns j ≡ 64 → j ≡ r → ⊥
    free_other j f h = let w = ap (col chain_of ns) h in let a = r_chain in let b = c_in in omega arith

    free_kept : (i j : ℕ) → i < F → trail (next_at ns) o i ≡ Some j → (next_at (set ms r m) j ≡ next_at ns j) × (col chain_of (set ms r m) j ≡ 64)
    free_kept i j l h =
        let f = (S.freed.inside i j (l, h)).1 in
        let n = free_other j f in
        (next_else ms r m j n ∙ R.next_else j (λ z. let on = (p_on j z).1 in let b = c_in in omega arith), out_else j n ∙ f)

    pub unlink_sound : Sound (set ms r m) gs (Some r) (F + 1)
    unlink_sound =
        let live = live_less ms r m r_in_m (let a = R.chains r in let b = r_chain in let l = c_in in omega arith) m_record ∙ R.lives in
        let total = S.total in
        let l = out_long in
        let a = r_in in
        record {
          linked = subst (λ N. Linked N (col chain_of (set ms r m)) (col tag_of (set ms r m)) (next_on (set ms r m) gs)) (sym out_long) out_linked;
          freed = freed_push S.freed (omega arith) free_kept r (omega arith) out_chain (next_here ms r m r_in_m ∙ m_next);
          total = omega arith;
        }

    pub unlink_means : canon (set ms r m) ≡ drop_record k v (canon ns)
    unlink_means =
        canon_clear ms r m k v r_in_m m_record (R.keys r ∙ D.standing.key) (R.versions r ∙ D.standing.version)
        (λ j l n a y z. let w = R.chains j in let b = R.long in only_at S D.standing j (omega arith) n (omega arith) (sym (R.keys j) ∙ y) (sym (R.versions j) ∙ z))
        ∙ ap (drop_record k v) R.records

  -- the record of the node q is written over by that of n, which is e, with its key and version
  module _ {ns : List (Node V)} {hs : List (Option ℕ)} {F q : ℕ} {o : Option ℕ} {e : Record V} (d n : Node V) (S : Sound ns hs o F)
      (D : Standing ns e.key e.version q)
      (n_record : n.record ≡ Some e) (n_next : n.next ≡ (get_or ns q d).next) where
    was_live : (r : Record V) × ((get_or ns q d).record ≡ Some r)
    was_live = standing_live S d D

    same_chain : chain_of n ≡ chain_of (get_or ns q d)
    same_chain = live_chain n n_record ∙ sym D.chain ∙ col_get chain_of ns q d D.inside

    same_tags : tag_of n ≡ tag_of (get_or ns q d)
    same_tags = live_tag n n_record ∙ ap (λ k. tag k e.version) (sym D.key) ∙ ap (tag (col key_of ns q)) (sym D.version) ∙ sym (col_tag ns q) ∙ col_get tag_of ns q d D.inside

    over : (f : Node V → ℕ) → f n ≡ f (get_or ns q d) → col f (set ns q n) ≡ col f ns
    over f h = ap (λ xs i. get_or xs i 0) (map-set_same f ns q n d h)

    same_next : (a : ℕ) (s : Option ℕ) → next_on (set ns q n) hs a s ≡ next_on ns hs a s
    same_next a None = refl
    same_next a (Some i) = next_keep ns q n d n_next i

    pub replace_sound : Sound (set ns q n) hs o F
    replace_sound =
        let C = over chain_of same_chain in
        let T = over tag_of same_tags in
        let X : next_on (set ns q n) hs ≡ next_on ns hs = fun_ext (λ a. fun_ext (λ s. same_next a s)) in
        let Z : next_at (set ns q n) ≡ next_at ns = fun_ext (next_keep ns q n d n_next) in
        let L = length-set ns q n in
        let live = live_same ns q d n D.inside (ap is_some n_record ∙ sym (ap is_some was_live.1)) in
        let total = S.total in
        record {
          linked = subst (λ N. Linked N (col chain_of (set ns q n)) (col tag_of (set ns q n)) (next_on (set ns q n) hs)) (sym L) (subst (λ c. Linked (length ns) c (col tag_of (set ns q n)) (next_on (set ns q n) hs)) (sym C) (subst (λ t. Linked (length ns) (col chain_of ns) t (next_on (set ns q n) hs)) (sym T) (subst (Linked (length ns) (col chain_of ns) (col tag_of ns)) (sym X) S.linked)));
          freed = subst (λ N. Freed N F (col chain_of (set ns q n)) (next_at (set ns q n)) o) (sym L) (subst (λ c. Freed (length ns) F c (next_at (set ns q n)) o) (sym C) (subst (λ y. Freed (length ns) F (col chain_of ns) y o) (sym Z) S.freed));
          total = omega arith;
        }

    pub replace_means : canon (set ns q n) ≡ put e (canon ns)
    replace_means =
        canon_write ns q n e D.inside n_record (λ _. (D.key, D.version)) (only_at S D)
