-- Two commit tables that mean the same map, with the same capacity.
use Rattle.std.specs.Prelude.{◌≡◌, ℕ, List}
use Rattle.model.specs.declared.words.CommitEntry.{CommitEntry}

abbrev pub Alike : List (ℕ × CommitEntry) → ℕ → List (ℕ × CommitEntry) → ℕ → Type 0
Alike l m k n = (l ≡ k) × (m ≡ n)
