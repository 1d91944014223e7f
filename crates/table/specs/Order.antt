-- Entries in strictly ascending order of their tags.
use Rattle.std.specs.Prelude.{ℕ, ◌<◌, List, length, slice_index_or}

-- the tag of each is below that of every later one
abbrev pub Ascending : {E : Type 0} → (E → ℕ) → List E → Type 0
Ascending {E} tag es = (i j : ℕ) (d : E) → (i < j) × (j < length es) → tag (slice_index_or es i d) < tag (slice_index_or es j d)
