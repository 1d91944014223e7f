-- What a redirected chain keeps.
use Rattle.std.proofs.Common.{◌≡◌, ℕ, ◌<◌, List, is_some, length, get_or, set, Some, None, Option, sym, refl, ap, ◌∙◌}
use Rattle.std.proofs.lemmas.List.{length-set}
use Rattle.std.specs.Option.{option_map_or}
use Rattle.chains.specs.declared.node.Node.{Node}
use Rattle.chains.specs.Links.{On, Redirected, class_of, chain_of, key_of, version_of, next_on}
use Rattle.chains.proofs.Canon.{col_keep, next_here, next_else, canon_same, live_same}

module _ {V : Type 0} where
  pub redirected_node : (ns : List (Node V)) (hs : List (Option ℕ)) (c i : ℕ) (x : Option ℕ) (d n : Node V) → i < length ns → n.record ≡ (get_or ns i d).record → n.next ≡ x → Redirected ns (set ns i n) hs hs c (Some i) x
  redirected_node ns hs c i x d n l r nx = record {
    long = length-set ns i n;
    chains = col_keep chain_of ns i n d (ap (λ o. option_map_or (λ q. class_of q.key) o 64) r);
    keys = col_keep key_of ns i n d (ap (λ o. option_map_or (λ q. q.key) o 0) r);
    versions = col_keep version_of ns i n d (ap (λ o. option_map_or (λ q. q.version) o 0) r);
    records = canon_same ns i d n l r;
    lives = live_same ns i d n l (ap is_some r);
    here = next_here ns i n l ∙ nx;
    next_else = λ j h. next_else ns i n j (λ e. h (ap Some (sym e)));
    head_else = λ a h. refl;
  }

  -- what comes after any other place of a chain
  pub redirected_else : {ns ms : List (Node V)} {hs gs : List (Option ℕ)} {c : ℕ} {p x : Option ℕ} → Redirected ns ms hs gs c p x → (N : ℕ) (C : ℕ → ℕ) → On N C c p → (a : ℕ) (s : Option ℕ) → On N C a s → ((a ≡ c) × (s ≡ p) → ⊥) → next_on ms gs a s ≡ next_on ns hs a s
  redirected_else R N C o a None on n = R.head_else a (λ e z. n (z, sym e))
  redirected_else R N C o a (Some j) on n = R.next_else j (λ e. n (sym (on j refl).1 ∙ (o j e).1, sym e))
