-- The records of nodes are in order, and no more than the nodes.
use Rattle.std.specs.Prelude.{suc, ◌≤◌, cond, List, [], ◌∷◌, length, Some, None, Option}
use Rattle.std.specs.Option.{option_map_or}
use Rattle.std.proofs.Math.Nat.{le_refl, le_trans, le-suc, suc-le-suc_iff}
use Rattle.std.proofs.lemmas.Bool.{cond_both}
use Rattle.model.specs.declared.words.Record.{Record}
use Rattle.model.specs.Records.{Ascending, count, stands, before, put}
use Rattle.version_store.proofs.Ascents.{put_ascends}
use Rattle.chains.specs.declared.node.Node.{Node}
use Rattle.chains.specs.Links.{canon}

-- what holds of the image of a value, and of the default
map_or_both : {A B : Type 0} (f : A → B) (o : Option A) (d : B) (P : B → Type 0) → ((a : A) → P (f a)) → P d → P (option_map_or f o d)
map_or_both f None d P s n = n
map_or_both f (Some a) d P s n = s a

module _ {V : Type 0} where
  pub canon_ascends : (ns : List (Node V)) → Ascending (canon ns)
  canon_ascends [] = tt
  canon_ascends (n ∷ ns) = map_or_both (λ r. put r (canon ns)) n.record (canon ns) (λ rs. Ascending rs) (λ r. put_ascends r (canon ns) (canon_ascends ns)) (canon_ascends ns)

  put_within : (r : Record V) (l : List (Record V)) → count (put r l) ≤ suc (count l)
  unfolding put
  put_within r [] = le_refl _
  put_within r (c ∷ l) =
      cond_both (stands r.key r.version c) (r ∷ l) (cond (before r.key r.version c) (r ∷ c ∷ l) (c ∷ put r l)) (λ rs. count rs ≤ suc (suc (count l)))
      (λ _. le-suc (suc (count l)))
      (λ _. cond_both (before r.key r.version c) (r ∷ c ∷ l) (c ∷ put r l) (λ rs. count rs ≤ suc (suc (count l))) (λ _. le_refl _) (λ _. suc-le-suc_iff.1 (put_within r l)))

  pub canon_within : (ns : List (Node V)) → count (canon ns) ≤ length ns
  canon_within [] = le_refl _
  canon_within (n ∷ ns) =
      map_or_both (λ r. put r (canon ns)) n.record (canon ns) (λ rs. count rs ≤ suc (length ns))
      (λ r. le_trans (put_within r (canon ns)) (suc-le-suc_iff.1 (canon_within ns)))
      (le_trans (canon_within ns) (le-suc (length ns)))
