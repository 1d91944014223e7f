-- The map that a body means, after an entry is added or dropped.
use Rattle.std.specs.Option.{option_map}
use Rattle.std.proofs.Common.{◌≡◌, ℕ, ◌<◌, ◌≤◌, List, [], ◌∷◌, ◌++◌, length, get_or, None, Ok, Err, Option, sym, ap, ◌∙◌, arith}
use Rattle.std.proofs.lemmas.Bool.Decides.{nat_tests}
use Rattle.model.specs.Maps.{is_there, look_up, enter, remove}
use Rattle.model.specs.declared.words.CommitEntry.{CommitEntry}
use Rattle.model.proofs.Maps.{enter_rises, remove_rises}
use Rattle.model.proofs.Entering.{look_enter, look_remove, same_maps}
use Rattle.commit_table.specs.declared.NotPlaced.TheVariants.{Full}
use Rattle.commit_table.specs.Placing.{placing, place_in}
use Rattle.strip.specs.Bodies.{arranged, Distinct, place_of, filled}
use Rattle.strip.specs.Arranged.{arranged_rises, look_arranged}
use Rattle.strip.specs.Layout.{IdEntry}
use Rattle.strip.proofs.Filled.{look_by_place, look_push, look_filled, there_place}

module _ {X : Type 0} (es : List (ℕ × X)) where
  arranged_push : (e : ℕ × X) → look_up es e.0 ≡ None → arranged (es ++ e ∷ []) ≡ enter e.0 e.1 (arranged es)
  arranged_push e n =
      same_maps _ _ (arranged_rises (es ++ e ∷ [])) (enter_rises e.0 e.1 (arranged es) (arranged_rises es)) (λ q.
      let new = look_arranged (es ++ e ∷ []) q in
      let old = look_arranged es q in
      let p = look_push es e q n in
      let r = look_enter e.0 e.1 (arranged es) q in
      grind (arith, nat_tests))

  -- dropping what stands at p, and dropping what is not there
  pub arranged_filled : (p t : ℕ) (d : ℕ × X) → Distinct es → p < length es → (get_or es p d).0 ≡ t → arranged (filled es p) ≡ remove t (arranged es)
  arranged_filled p t d ne l e =
      same_maps _ _ (arranged_rises (filled es p)) (remove_rises t (arranged es) (arranged_rises es)) (λ q.
      let new = look_arranged (filled es p) q in
      let old = look_arranged es q in
      let f = look_filled es p t q d ne l e in
      let r = look_remove t (arranged es) q in
      grind (arith, nat_tests))

  pub arranged_absent : (t : ℕ) (d : ℕ × X) → place_of es t ≡ None → arranged es ≡ remove t (arranged es)
  arranged_absent t d e =
      let none : look_up (arranged es) t ≡ None = look_arranged es t ∙ look_by_place es t d ∙ ap (option_map (λ p. (get_or es p d).1)) e in
      same_maps _ _ (arranged_rises es) (remove_rises t (arranged es) (arranged_rises es)) (λ q. let r = look_remove t (arranged es) q in grind (arith, nat_tests))

  -- whether an id stands, by its place
  pub there_arranged : (t : ℕ) (d : ℕ × X) (o : Option ℕ) → place_of es t ≡ o → is_there (look_up (arranged es) t) ≡ is_there o
  there_arranged t d o e = ap is_there (look_arranged es t) ∙ there_place es t d ∙ ap is_there e

-- what placing answers and leaves, where nothing stands at the id
module _ (m id : ℕ) (e : CommitEntry) (es : List IdEntry) (none : look_up (arranged es) id ≡ None) where
  pub place_full : m ≤ length (arranged es) → placing (Err Full) (arranged es) ≡ place_in m id e (arranged es)
  place_full le = grind (arith, nat_tests)

  pub place_new : length (arranged es) < m → placing (Ok tt) (arranged (es ++ (id, e) ∷ [])) ≡ place_in m id e (arranged es)
  place_new lt = let p = arranged_push es (id, e) (sym (look_arranged es id) ∙ none) in grind (arith, nat_tests)
