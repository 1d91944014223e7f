-- What a walk along a chain finds.
use Rattle.std.proofs.Common.{◌≡◌, ℕ, suc, ◌<◌, ◌≤◌, true, is_some, List, length, get_or, Some, None, Option, sym, refl, ap, ◌∙◌, ⊎_elim, arith}
use Rattle.std.proofs.lemmas.Bool.{cases_order}
use Rattle.chains.specs.declared.node.Node.{Node}
use Rattle.model.specs.declared.words.Record.{Record}
use Rattle.model.specs.Records.{record_at, newest}
use Rattle.chains.specs.Links.{On, Sound, Walked, Standing, Found, Absent, Toward, left_from, col, chain_of, key_of, version_of, tag_of, next_at, tag, class_of, head_at, canon}
use Rattle.version_store.proofs.Lookups.{newest_look, newest_no_look}
use Rattle.chains.proofs.Canon.{col_get, col_read, col_tag, next_read, classed, Distinct, OnlyAt, Nowhere, canon_look, is_live, live_key, live_version, live_tag, live_some, live_none}
use Rattle.chains.proofs.Linking.{on_some, over_some}
use Rattle.chains.specs.Canonical.{canon_ascends}

pub class_below : (k : ℕ) → class_of k < 64
class_below k = omega arith

module _ {V : Type 0} {ns : List (Node V)} {hs : List (Option ℕ)} {o : Option ℕ} {F : ℕ} (S : Sound ns hs o F) where
  -- no two nodes on chains have one place
  pub distinct : Distinct ns
  distinct i j il jl ic jc k v =
      let ci = classed ns i ic in
      let cj = classed ns j jc in
      let ck = ap class_of k in
      let ti = col_tag ns i in
      let tj = col_tag ns j in
      S.linked.apart i j (il, jl, ic, omega arith, omega arith)

  pub only_at : {k v q : ℕ} → Standing ns k v q → OnlyAt ns q k v
  only_at {k} {v} {q} s j l n c kj vj =
      let below = class_below k in
      n (distinct j q l s.inside c (let u = s.chain in omega arith) (kj ∙ sym s.key) (vj ∙ sym s.version))

  -- a node on a chain is on the chain of its key
  on_chain : (k j : ℕ) → col chain_of ns j < 64 → col key_of ns j ≡ k → col chain_of ns j ≡ class_of k
  on_chain k j c e = sym (classed ns j c) ∙ ap class_of e

  -- the node that a walk came to is on the chain
  pub walked_on : {k v : ℕ} {p q : Option ℕ} → Walked ns hs k v p q → On (length ns) (col chain_of ns) (class_of k) q
  walked_on {k} {v} {p} w i e = let n = S.linked.next_in (class_of k) p i (class_below k, w.on, w.next ∙ e) in (n.0, n.1)

  -- the nodes of the chain at or below the tag are at or below the node that a walk came to
  walked_rest : {k v : ℕ} {p q : Option ℕ} → Walked ns hs k v p q → (j : ℕ) → j < length ns → col chain_of ns j ≡ class_of k → col tag_of ns j ≤ tag k v → col tag_of ns j < left_from (col tag_of ns) q
  walked_rest {k} {v} {p} w j l c t =
      let r = S.linked.next_top (class_of k) p j (class_below k, w.on, l, c, λ i e. let o = w.over i e in omega arith) in
      let e = ap (left_from (col tag_of ns)) w.next in
      omega arith

  pub absent_nowhere : {k v : ℕ} {p q : Option ℕ} → Absent ns hs k v p q → Nowhere ns k v
  absent_nowhere {k} {v} a j l c kj vj =
      let tj = col_tag ns j in
      let here : col tag_of ns j ≡ tag k v = omega arith in
      let r = walked_rest a.walked j l (on_chain k j c kj) (omega arith) in
      let b = a.below in
      omega arith

  pub absent_look : {k v : ℕ} {p q : Option ℕ} → Absent ns hs k v p q → record_at (canon ns) k v ≡ None
  absent_look {k} {v} a = canon_look k v ns ∙ live_none k v ns (absent_nowhere a)

  -- a node on a chain has a record
  on_live : (k q : ℕ) {x : Node V} → x ≡ get_or ns q x → On (length ns) (col chain_of ns) (class_of k) (Some q) → (r : Record V) × (x.record ≡ Some r)
  on_live k q {x} is on = let o = on q refl in is_live x (let c = col_read chain_of ns q x o.0 is in let l = o.1 in let b = class_below k in omega arith)

  pub on_has : (k q : ℕ) {x : Node V} → x ≡ get_or ns q x → On (length ns) (col chain_of ns) (class_of k) (Some q) → is_some x.record ≡ true
  on_has k q is on = ap is_some (on_live k q is on).1

  pub standing_live : {k v q : ℕ} (d : Node V) → Standing ns k v q → (r : Record V) × ((get_or ns q d).record ≡ Some r)
  standing_live {k} {v} {q} d s = is_live (get_or ns q d) (let c = col_get chain_of ns q d s.inside in let l = s.chain in let b = class_below k in omega arith)

  pub standing_look : {k v q : ℕ} (d : Node V) → Standing ns k v q → record_at (canon ns) k v ≡ (get_or ns q d).record
  standing_look {k} {v} {q} d s =
      let below = class_below k in
      let c = col_get chain_of ns q d s.inside in
      let on = s.chain in
      canon_look k v ns ∙ live_some k v ns q d s.inside (omega arith) (sym (col_get key_of ns q d s.inside) ∙ s.key) (sym (col_get version_of ns q d s.inside) ∙ s.version) (only_at s)

  -- a walk that came to its node, and one that goes on
  pub found_at : {k v q : ℕ} {p : Option ℕ} {x : Node V} {r : Record V} → x ≡ get_or ns q x → x.record ≡ Some r → Walked ns hs k v p (Some q) → (r.key ≡ k) × (r.version ≡ v) → Found ns hs k v p q
  found_at {q = q} {x = x} is held w h =
      let on = walked_on w q refl in
      record { walked = w; standing = record { inside = on.0; chain = on.1; key = col_read key_of ns q x on.0 is ∙ live_key x held ∙ h.0; version = col_read version_of ns q x on.0 is ∙ live_version x held ∙ h.1 } }

  pub walk_on : {k v q : ℕ} {p : Option ℕ} {x : Node V} {r : Record V} → x ≡ get_or ns q x → x.record ≡ Some r → Walked ns hs k v p (Some q) → tag k v < tag r.key r.version → Walked ns hs k v (Some q) x.next
  walk_on {k} {v} {q} {x = x} is held w h =
      let on = walked_on w q refl in
      let t = col_read tag_of ns q x on.0 is ∙ live_tag x held in
      record { on = on_some (length ns) (col chain_of ns) (class_of k) q on.0 on.1; over = over_some (col tag_of ns) q (tag k v) (omega arith); next = next_read ns q x on.0 is }

  -- there is less to walk from the next node
  less_from : (c q : ℕ) (o : Option ℕ) → c < 64 → q < length ns → col chain_of ns q ≡ c → next_at ns q ≡ o → left_from (col tag_of ns) o < suc (col tag_of ns q)
  less_from c q None b l on e = omega arith
  less_from c q (Some j) b l on e = let n = S.linked.next_in c (Some q) j (b, on_some (length ns) (col chain_of ns) c q l on, e) in let t = n.2 q refl in omega arith

  pub walk_less : (k q : ℕ) {x : Node V} → x ≡ get_or ns q x → On (length ns) (col chain_of ns) (class_of k) (Some q) → left_from (col tag_of ns) x.next < left_from (col tag_of ns) (Some q)
  walk_less k q {x} is on = let o = on q refl in less_from (class_of k) q x.next (class_below k) o.0 o.1 (next_read ns q x o.0 is)

  pub toward_start : (k b : ℕ) → Toward ns k b (head_at hs (class_of k))
  toward_start k b = record {
    on = λ i e. let n = S.linked.next_in (class_of k) None i (class_below k, λ j z. absurd (cc), e) in (n.0, n.1);
    rest = λ i l c e v. S.linked.next_top (class_of k) None i (class_below k, λ j z. absurd (cc), l, c, λ j z. absurd (cc));
  }

  pub toward_on : {k b q : ℕ} {x : Node V} → x ≡ get_or ns q x → Toward ns k b (Some q) → ((r : Record V) → x.record ≡ Some r → r.key ≡ k → r.version ≤ b → ⊥) → Toward ns k b x.next
  toward_on {k} {b} {q} {x = x} is w h =
      let on = w.on q refl in
      let l = on.0 in
      let n = next_read ns q x l is in
      let here = on_some (length ns) (col chain_of ns) (class_of k) q l on.1 in
      let held = on_live k q is here in
      record {
        on = λ i e. let s = S.linked.next_in (class_of k) (Some q) i (class_below k, here, n ∙ e) in (s.0, s.1);
        rest = λ i il ic ik iv.
            let r = w.rest i il ic ik iv in
            ⊎_elim
            (λ (e : col tag_of ns i ≡ col tag_of ns q).
            let below = class_below k in
            let same = S.linked.apart i q (il, l, omega arith, ic ∙ sym on.1, e) in
            let xk = sym (live_key x held.1) ∙ sym (col_read key_of ns q x l is) ∙ sym (ap (col key_of ns) same) ∙ ik in
            let xv = sym (live_version x held.1) ∙ sym (col_read version_of ns q x l is) ∙ sym (ap (col version_of ns) same) in
            absurd (h held.0 held.1 xk (omega arith)))
            (⊎_elim
            (λ (e : col tag_of ns i < col tag_of ns q).
            let a = S.linked.next_top (class_of k) (Some q) i (class_below k, here, il, ic, over_some (col tag_of ns) q (col tag_of ns i) e) in
            let to = ap (left_from (col tag_of ns)) n in
            omega arith)
            (λ (e : col tag_of ns q < col tag_of ns i). absurd (omega arith)))
            (cases_order (col tag_of ns i) (col tag_of ns q));
      }

  pub newest_found : {k b q : ℕ} {x : Node V} → x ≡ get_or ns q x → Toward ns k b (Some q) → ((r : Record V) → x.record ≡ Some r → (r.key ≡ k) × (r.version ≤ b)) → newest k b (canon ns) ≡ x.record
  newest_found {k} {b} {q} {x = x} is w h =
      let on = w.on q refl in
      let live = on_live k q is w.on in
      let r = live.0 in
      let held = live.1 in
      let e = (h r held).0 in
      let l = (h r held).1 in
      let kq = col_read key_of ns q x on.0 is ∙ live_key x held in
      let vq = col_read version_of ns q x on.0 is ∙ live_version x held in
      let tq = col_tag ns q in
      let s : Standing ns k r.version q = record { inside = on.0; chain = on.1; key = kq ∙ e; version = vq } in
      newest_look k b r.version r (canon ns) (canon_ascends ns) l (standing_look x s ∙ ap (λ m. m.record) (sym is) ∙ held)
      (λ v vl vb. canon_look k v ns ∙ live_none k v ns (λ j jl jc jk jv.
      let t = w.rest j jl (on_chain k j jc jk) jk (omega arith) in
      let tj = col_tag ns j in
      omega arith))
      ∙ sym held

  pub newest_ended : {k b : ℕ} {q : Option ℕ} → Toward ns k b q → q ≡ None → newest k b (canon ns) ≡ None
  newest_ended {k} {b} w e = newest_no_look k b (canon ns) (λ v vb. canon_look k v ns ∙ live_none k v ns (λ j jl jc jk jv. let r = w.rest j jl (on_chain k j jc jk) jk (omega arith) in let none = ap (left_from (col tag_of ns)) e in omega arith))
