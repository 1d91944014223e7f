-- A put by its three outcomes. Assumes nothing.
use Rattle.std.proofs.Common.{◌≡◌, ℕ, ◌<◌, ◌≤◌, List, Some, None, Ok, Err, refl}
use Rattle.std.proofs.lemmas.Bool.{lt-ltb, le-ltb}
use Rattle.model.specs.declared.words.Record.{Record}
use Rattle.model.specs.Records.{count, record_at, put}
use Rattle.version_store.specs.Putting.{put_in, putting}

module _ {V : Type 0} where
  pub put_new : (n : ℕ) (e : Record V) (l : List (Record V)) → record_at l e.key e.version ≡ None → count l < n → put_in n e l ≡ putting (Ok tt) (put e l)
  put_new n e l h i = rw (h, lt-ltb (count l) n i) refl

  pub put_over : (n : ℕ) (e r : Record V) (l : List (Record V)) → record_at l e.key e.version ≡ Some r → put_in n e l ≡ putting (Ok tt) (put e l)
  put_over n e r l h = rw h refl

  pub put_full : (n : ℕ) (e : Record V) (l : List (Record V)) → record_at l e.key e.version ≡ None → n ≤ count l → put_in n e l ≡ putting (Err (record {})) l
  put_full n e l h i = rw (h, le-ltb (count l) n i) refl
